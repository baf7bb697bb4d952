-- Turns in which what a Mark or a Verdict settles is in doubt where it is heard: such is every turn in which a target is told what became of
-- others' attempts alone.
use Rattle.std.specs.Prelude.{ℕ, ◌≡◌, Bool, false, List, [], ◌∷◌, Option, None, refl}
use Rattle.std.proofs.Common.{◌∙◌, ap, inl, inr, subst, sym}
use Rattle.base_types.specs.declared.entry.Verdict.{Verdict as VerdictOf}
use Rattle.base_types.specs.declared.entry.Verdict.TheVariants as verdicts
use Rattle.base_types.specs.declared.epoch.Epoch.{Epoch}
use Rattle.base_types.specs.declared.id.AttemptId.{AttemptId}
use Rattle.base_types.specs.declared.outcome.FloorWhy.{FloorWhy}
use Rattle.model_laws.specs.Members.{Has}
use Rattle.base_messages.specs.declared.actor.ActorId.{ActorId}
use Rattle.base_messages.specs.declared.message.Message.{Message}
use Rattle.base_messages.specs.declared.message.Message.TheVariants.{Mark, Verdict}
use Rattle.daos_model.specs.declared.durable.Durable.{Durable}
use Rattle.dtx_base.specs.declared.leading.LeaderMemory.{LeaderMemory}
use Rattle.dtx_base.specs.Leading.{attempts_of, forgotten, undecided_attempt}
use Rattle.dtx_base.specs.RowLaws.{without-absent, without-none}
use Rattle.dtx_base.specs.Rows.{is_among, itself, row_of, without_row}
use Rattle.world_base.specs.declared.did.Did.{Did}
use Rattle.world_base.specs.declared.target.TargetMemory.{TargetMemory}
use Rattle.world_base.specs.declared.target.TargetPlan.{TargetPlan}
use Rattle.world_base.specs.Changes.{Change, Kept, Steps}
use Rattle.world_base.specs.DoubtLaws.{IsLedElsewhere, doubted-or_closed, elsewhere-settled}
use Rattle.world_base.specs.Marks.{MarkEnds, MarkNext, PassesBy, SettlesMarked}
use Rattle.world_base.specs.PathLaws.{reached-here, reached-keeps, reached-more}
use Rattle.world_base.specs.Roles.{is_in_doubt, is_prepared, told_by, told_of, told_of_all}
use Rattle.world_base.specs.TargetTurns.{Hearing, Hears}
use Rattle.world_base.specs.Turns.{Reached, Whole}
use Rattle.world_base.specs.Verdicts as verdict

-- ---- the statement

-- A target hears a message; of what a Mark or a Verdict names, that is settled which is in doubt here, and what is known of the attempts
-- that it leads stays.
abbrev pub HearsRightly : Hearing
HearsRightly t opening m reading from (Mark inc marks) old new left = Whole (MarkNext (is_in_doubt t.me)) (MarkEnds m from inc marks) marks old new left
HearsRightly t opening m reading from (Verdict x ask inc v) old new left =
    Whole (verdict.VerdictNext (is_in_doubt t.me) t m reading x ask v) verdict.VerdictEnds verdict.Heard old new left
HearsRightly t opening m reading from q old new left = Hears t opening m reading from q old new left

-- an attempt of others: where it has an entry here, another target leads it; and this one neither waits for it nor has to settle it
pub record IsOfOthers (me : ℕ) (m : LeaderMemory) (d : Durable) (a : AttemptId) : Type 0 where
  pub elsewhere : IsLedElsewhere me a d
  pub undecided : row_of undecided_attempt a m.undecided ≡ None
  pub decided : is_among a m.decided ≡ false

-- a message tells what became of such attempts alone
abbrev pub TellsOfOthers : ℕ → LeaderMemory → Durable → Message → Type 0
TellsOfOthers me m d (Mark inc marks) = (x : AttemptId) (committed : Bool) → Has (x, committed) marks → IsOfOthers me m d x
TellsOfOthers me m d (Verdict x ask inc v) = IsOfOthers me m d x
TellsOfOthers me m d q = Unit {0}

-- ---- what is known stays

pub forgotten-other : (me : ℕ) (m : LeaderMemory) (d : Durable) (a : AttemptId) → IsOfOthers me m d a → forgotten a m ≡ m
forgotten-other me m d a o =
    ap (λ us. record m { undecided = us; decided = without_row itself a m.decided }) (without-none undecided_attempt a m.undecided o.undecided)
    ∙ ap (λ ids. record m { decided = ids }) (without-absent a m.decided o.decided)

told-other : (me : ℕ) (m : TargetMemory) (d : Durable) (a : AttemptId) → IsOfOthers me m.leader d a → told_of a m ≡ m
told-other me m d a o = ap (λ l. record m { leader = l }) (forgotten-other me m.leader d a o)

told-others : (me : ℕ) (m : TargetMemory) (d : Durable) (marks : List (AttemptId × Bool)) → ((x : AttemptId) (committed : Bool) → Has (x, committed) marks → IsOfOthers me m.leader d x)
    → told_of_all (attempts_of marks) m ≡ m
told-others me m d [] others = refl
told-others me m d (x ∷ marks) others =
    ap (told_of_all (attempts_of marks)) (told-other me m d x.0 (others x.0 x.1 (inl refl))) ∙ told-others me m d marks (λ y c i. others y c (inr i))

told-by_other : (me : ℕ) (m : TargetMemory) (d : Durable) (v : VerdictOf) (a : AttemptId) → IsOfOthers me m.leader d a → told_by v a m ≡ m
told-by_other me m d verdicts.Committed a o = told-other me m d a o
told-by_other me m d verdicts.Aborted a o = told-other me m d a o
told-by_other me m d verdicts.Undecided a o = refl

-- ---- what is prepared is in doubt

-- a Mark that came so far came so far among what is in doubt; what is left is led elsewhere still
record MarkedRightly (me : ℕ) (marks : List (AttemptId × Bool)) (old : Kept) (rest : List (AttemptId × Bool)) (k : Kept) : Type 0 where
  reached : Reached (MarkNext (is_in_doubt me)) marks old rest k
  elsewhere : (x : AttemptId) (committed : Bool) → Has (x, committed) rest → IsLedElsewhere me x k.durable

marks-rightly : (me : ℕ) (marks : List (AttemptId × Bool)) (old : Kept) (s : List (AttemptId × Bool)) (k : Kept) (o : Option Change) (u : List (AttemptId × Bool)) (l : Kept)
    → MarkNext is_prepared s k o u → Steps o k l → MarkedRightly me marks old s k → MarkedRightly me marks old u l
marks-rightly me marks old s k o u l (SettlesMarked j a committed rest is) steps h = record {
  reached = reached-more (MarkNext (is_in_doubt me)) marks old ((a, committed) ∷ rest) k _ rest l h.reached (SettlesMarked k a committed rest (doubted-or_closed me a k.durable (h.elsewhere a committed (inl refl)) ∙ is)) steps;
  elsewhere = λ x c i. subst (IsLedElsewhere me x) (sym steps.0) (elsewhere-settled me x a committed k.durable (h.elsewhere x c (inr i)));
}
marks-rightly me marks old s k o u l (PassesBy j a committed rest is) steps h = record {
  reached = reached-more (MarkNext (is_in_doubt me)) marks old ((a, committed) ∷ rest) k None rest l h.reached (PassesBy k a committed rest (doubted-or_closed me a k.durable (h.elsewhere a committed (inl refl)) ∙ is)) steps;
  elsewhere = λ x c i. subst (λ z. IsLedElsewhere me x z.durable) (sym steps) (h.elsewhere x c (inr i));
}

-- a Verdict that came so far: the attempt isn't settled yet, or this far it came among what is in doubt
abbrev JudgedRightly : TargetPlan → TargetMemory → ℕ → AttemptId → Option AttemptId → VerdictOf → Kept → verdict.VerdictStage → Kept → Type 0
JudgedRightly t m reading a ask v old verdict.Heard k = k ≡ old
JudgedRightly t m reading a ask v old s k = Reached (verdict.VerdictNext (is_in_doubt t.me) t m reading a ask v) verdict.Heard old s k

module _ (t : TargetPlan) (m : TargetMemory) (reading : ℕ) (a : AttemptId) (ask : Option AttemptId) (v : VerdictOf) (old : Kept) (elsewhere : IsLedElsewhere t.me a old.durable) where
  abbrev Next : verdict.VerdictStage → Kept → Option Change → verdict.VerdictStage → Type 0
  Next = verdict.VerdictNext (is_in_doubt t.me) t m reading a ask v

  verdict-rightly : (s : verdict.VerdictStage) (k : Kept) (o : Option Change) (u : verdict.VerdictStage) (l : Kept) → verdict.VerdictNext is_prepared t m reading a ask v s k o u → Steps o k l
      → JudgedRightly t m reading a ask v old s k → JudgedRightly t m reading a ask v old u l
  verdict-rightly s k o u l (verdict.SettlesBy j p is) steps h =
      reached-more Next verdict.Heard old verdict.Heard old o u l (reached-here Next verdict.Heard old)
      (verdict.SettlesBy old o (is ∙ ap (λ x. verdict.settling_change a (verdict.step_if (is_prepared a x.durable) (verdict.step_by v))) h ∙ ap (λ b. verdict.settling_change a (verdict.step_if b (verdict.step_by v))) (sym (doubted-or_closed t.me a old.durable elsewhere))))
      (subst (λ x. Steps o x l) h steps)
  verdict-rightly s k o u l (verdict.TriesNext j n posts rest x op group ep first tracker r snapshot) steps h =
      reached-more Next verdict.Heard old s k o u l h (verdict.TriesNext k n posts rest x op group ep first tracker r snapshot) steps
  verdict-rightly s k o u l (verdict.GoesOn j n posts rest q i z p next) steps h = reached-more Next verdict.Heard old s k o u l h (verdict.GoesOn k n posts rest q i z o next) steps
  verdict-rightly s k o u l (verdict.IsDone j n posts rest q i left ends) steps h = reached-more Next verdict.Heard old s k o u l h (verdict.IsDone k n posts rest q i left ends) steps

  verdict-over : (s : verdict.VerdictStage) (k : Kept) (left : TargetMemory × Did) → verdict.VerdictEnds s k left → JudgedRightly t m reading a ask v old s k → Whole Next verdict.VerdictEnds verdict.Heard old k left
  verdict-over s k left (verdict.AllTried j n posts z is) h = record { last = verdict.Freed [] n posts; reached = h; ends = verdict.AllTried k n posts left is }

-- ---- every turn

-- every turn in which what is told is of others' attempts is such a turn
pub hears-rightly : (t : TargetPlan) (opening : Epoch × FloorWhy) (m : TargetMemory) (reading : ℕ) (from : ActorId) (q : Message) (old new : Kept) (left : TargetMemory × Did)
    → TellsOfOthers t.me m.leader old.durable q → Hears t opening m reading from q old new left → HearsRightly t opening m reading from q old new left
hears-rightly t opening m reading from (Mark inc marks) old new left others h =
    record {
      last = h.last;
      reached = (reached-keeps (MarkNext is_prepared) (MarkedRightly t.me marks old) (marks-rightly t.me marks old) marks old h.last new h.reached (record {
        reached = reached-here (MarkNext (is_in_doubt t.me)) marks old;
        elsewhere = λ x c i. (others x c i).elsewhere;
      })).reached;
      ends = subst (λ n. MarkEnds n from inc marks h.last new left) (told-others t.me m old.durable marks others) h.ends;
    }
hears-rightly t opening m reading from (Verdict x ask inc v) old new left other h =
    let w = subst (λ n. Whole (verdict.VerdictNext is_prepared t n reading x ask v) verdict.VerdictEnds verdict.Heard old new left) (told-by_other t.me m old.durable v x other) h in
    verdict-over t m reading x ask v old other.elsewhere w.last new left w.ends
    (reached-keeps (verdict.VerdictNext is_prepared t m reading x ask v) (JudgedRightly t m reading x ask v old) (verdict-rightly t m reading x ask v old other.elsewhere) verdict.Heard old w.last new w.reached refl)
hears-rightly t opening m reading from q old new left others h = h
