-- A cut of a Verdict, and of what a member answers: of what was sent before the cut nothing is left, and an attempt may be aborted that nobody is told of.
use Rattle.std.specs.Prelude.{ℕ, ◌≡◌, ◌==◌, Bool, true, false, ◌&&◌, List, [], ◌∷◌, ◌++◌, slice_get, Option, Some, None, is_some, refl}
use Rattle.std.proofs.Common.{append-nil, sym, ◌∙◌, ap, subst, arith, inl}
use Rattle.std.proofs.lemmas.Bool.Decides.{nat_tests}
use Rattle.base_types.specs.declared.entry.Entry.{Entry}
use Rattle.base_types.specs.declared.entry.Settle.{Settle}
use Rattle.base_types.specs.declared.entry.Settle.TheVariants.{Abort}
use Rattle.std.proofs.Math.ListN.{set}
use Rattle.base_types.specs.declared.entry.Verdict.{Verdict}
use Rattle.base_types.specs.declared.entry.Verdict.TheVariants as fate
use Rattle.base_types.specs.declared.epoch.Epoch.{Epoch}
use Rattle.base_types.specs.declared.id.AttemptId.{AttemptId}
use Rattle.base_types.specs.declared.outcome.Outcome.{Outcome}
use Rattle.model_laws.specs.Members.{Has, has-from_map, has-left}
use Rattle.base_messages.specs.declared.message.Message.TheVariants as message
use Rattle.base_messages.specs.declared.message.Post.{Post}
use Rattle.daos_model.specs.BoolLaws.{and_left, both}
use Rattle.daos_model.specs.Changes.{settled}
use Rattle.daos_model.specs.Durables.{entry_of, same_attempt}
use Rattle.daos_model.specs.EntryLaws.{same_attempt-itself}
use Rattle.daos_model.specs.declared.durable.Durable.{Durable}
use Rattle.dtx_base.specs.declared.leading.Undecided.{Undecided}
use Rattle.dtx_base.specs.Leading.{LeaderStep, entry_led, undecided_of}
use Rattle.world_commit.specs.attempts.AckViews.{AckIs, Counted, Decides, Ignored, IsAwaited, Refuses}
use Rattle.world_commit.specs.attempts.Attempts.{IsOkRight, IsOther, count, inc_at, inc_in, leader_of}
use Rattle.world_commit.specs.attempts.Counting.{count-append, has-taken}
use Rattle.world_commit.specs.attempts.Frames.{same-itself}
use Rattle.world_commit.specs.attempts.History.{Decided, GrowsBy, History}
use Rattle.world_commit.specs.attempts.Stored.{led-found, target-is}
use Rattle.world_commit.specs.fates.AckTurns as ack
use Rattle.world_commit.specs.fates.Answers.{IsAnswer}
use Rattle.world_commit.specs.fates.Concerns.{AreDull, IsDull, mail-sent}
use Rattle.world_commit.specs.fates.Facts.{Attempts, IsAckRight, IsSaidSo, IsVerdictRight, Ongoing, is_try, refuses_for}
use Rattle.world_commit.specs.attempts.Turning.{fetch_memory, at_work}
use Rattle.world_commit.specs.fates.Frames.{SameMail}
use Rattle.world_commit.specs.fates.Rightly.{letters-tell}
use Rattle.world_commit.specs.fates.Talks.{number-itself}
use Rattle.world_commit.specs.fates.Told.{silent-refuses, silent-same, silent_end, told_end}
use Rattle.world_commit.specs.fates.VerdictTurns as verdicts
use Rattle.world_commit.specs.fates.Working.{AreMild, attempts-there, mild-dull, plain-mild}
use Rattle.world_commit.specs.stops.Cuts.{begins, later-keeps, led-elsewhere, stops}
use Rattle.world_commit.specs.stops.Cutting.{CutAs, cut-as, cut-finds, leaving, mid-stops}
use Rattle.world_commit.specs.stops.LateAborts.{late-abort}
use Rattle.world_base.specs.declared.letter.Letter.{Letter}
use Rattle.world_base.specs.declared.target.Life.TheVariants.{Running}
use Rattle.world_base.specs.declared.target.TargetMemory.{TargetMemory}
use Rattle.world_base.specs.declared.target.TargetState.{TargetState}
use Rattle.world_base.specs.declared.world.World.{World}
use Rattle.world_base.specs.Acks.{AckNext, AckStage, Aborts, Followed, Heard, is_awaited, is_awaited_of, is_refusing}
use Rattle.world_base.specs.ChangeLaws.{incarnation-settled}
use Rattle.world_base.specs.Changes.{Change, Kept, Settles, Steps, is_plain}
use Rattle.world_base.specs.CutTurns.{CutTurn, Cutting, none_issued}
use Rattle.world_base.specs.DoubtLaws.{doubted-or_closed}
use Rattle.world_base.specs.EntryLaws.{entry-aborted}
use Rattle.world_base.specs.Events.{Rules, kept, target_after, target_plan}
use Rattle.world_base.specs.Letters.{Takes, letter_of, letters_of, target}
use Rattle.world_base.specs.Reads as reads
use Rattle.world_base.specs.RightTurns.{IsOfOthers, TellsOfOthers, forgotten-other}
use Rattle.world_base.specs.Roles.{is_in_doubt, is_prepared, leader_at, told_by}
use Rattle.world_base.specs.StepLaws.{set-here}
use Rattle.world_base.specs.Stops.{after_cut, stopped_at}
use Rattle.world_base.specs.Verdicts as judged

-- ---- messages that weren't sent

-- what a target would have sent, where it concerns no attempt, leaves the facts as they are
pub work-forgets : (r : Rules) (h : History) (w : World) (t : ℕ) (z : TargetState) (posts : List Post) → AreMild posts → Ongoing r h (at_work w t z posts) → Ongoing r h (at_work w t z [])
work-forgets r h w t z posts mild k =
    attempts-there r h h (at_work w t z posts) (at_work w t z []) refl (λ x e i. i) (same-itself h) mail (λ l i. inl (there l i)) (λ l i. inl i) k
  where
    dull : AreDull (letters_of (target t) posts)
    dull l i = let p = has-from_map (letter_of (target t)) posts l i in subst (λ n. IsDull n.message) p.2 (mild-dull p.0.message (mild p.0 p.1))

    there : (l : Letter) → Has l (w.messages ++ []) → Has l (w.messages ++ letters_of (target t) posts)
    there l i = has-left w.messages (letters_of (target t) posts) l (subst (Has l) (append-nil w.messages) i)

    back : (x : AttemptId) → SameMail r h (at_work w t z []) (at_work w t z posts) x
    back x = mail-sent r h (at_work w t z []) (at_work w t z posts) (letters_of (target t) posts) x (sym (ap (λ ls. ls ++ letters_of (target t) posts) (append-nil w.messages))) (λ l i. dull l i x) (λ e i. i)

    mail : (x : AttemptId) → SameMail r h (at_work w t z posts) (at_work w t z []) x
    mail x = record {
      issued = λ e i. i;
      talks = λ inc m. sym ((back x).talks inc m);
      tries = λ m.
          let all = count-append (is_try r x m) w.messages (letters_of (target t) posts) in
          let same : count (is_try r x m) (w.messages ++ []) ≡ count (is_try r x m) w.messages = ap (count (is_try r x m)) (append-nil w.messages) in
          omega (arith, all, same);
      prepares = λ m l i is. there l i;
      refusals = λ inc l i is. inl (there l i);
    }

-- what a leader would have told of an attempt, had it gone on
abbrev pub ack_told : TargetState → AttemptId → Option Outcome → Durable → List Post
ack_told s x refusal d = silent_end x refusal (entry_of s.durable x) false false (is_some (entry_of d x))

module _ (r : Rules) (h : History) (w v : World) (t : ℕ) (s : TargetState) (here : slice_get w.targets t ≡ Some s) (runs : s.life ≡ Running) (cut : Cutting) (follows : v ≡ after_cut w t s cut) (k : Attempts r h w)
    (l : Letter) (rest : List Letter) (takes : Takes w.messages l rest) (to_it : l.to ≡ target t) where
  flying : Has l w.messages
  flying = has-taken w.messages l rest takes

  start : Ongoing r h (at_work w t (target_after s (kept s) s.memory) [])
  start = begins r h w v t s here runs cut follows k

  -- ---- a Verdict

  module _ (x : AttemptId) (ask : Option AttemptId) (inc : ℕ) (c : Verdict) (is : l.message ≡ message.Verdict x ask inc c) where
    abbrev AtIt : judged.VerdictStage → Kept → Type 0
    AtIt = verdicts.AtVerdict r h w t s here runs s.memory l flying to_it

    -- what a Verdict settles is in doubt here
    doubt : (n : Kept) → Ongoing r h (at_work w t (target_after s n s.memory) []) → is_in_doubt t x n.durable ≡ is_prepared x n.durable
    doubt n on =
        let says : IsVerdictRight r h (at_work w t (target_after s n s.memory) []) l.from l.to x c = subst (IsSaidSo r h (at_work w t (target_after s n s.memory) []) l.from l.to) is (on.letters l (has-left w.messages [] l flying)) in
        doubted-or_closed t x n.durable
        (led-elsewhere r h w v t s here runs cut follows k l rest takes to_it n x on (subst (IsOther r x) (target-is says.way.member t (sym says.way.receiver ∙ to_it)) says.way.other))

    keep : (reading : ℕ) (a : judged.VerdictStage) (n : Kept) (o : Option Change) (b : judged.VerdictStage) (m : Kept) → judged.VerdictNext is_prepared (target_plan r t) s.memory reading x ask c a n o b → Steps o n m → AtIt a n → AtIt b m
    keep reading a n o b m (judged.SettlesBy n2 o2 by') steps p =
        verdicts.verdict-step r h w t s here runs s.memory l flying to_it x ask inc c is reading a n o b m
        (judged.SettlesBy n o (by' ∙ ap (λ y. judged.settling_change x (judged.step_if y (judged.step_by c))) (sym (doubt n p)))) steps p
    keep reading a n o b m (judged.TriesNext n2 memory posts more y op group ep first tracker read snapshot) steps p =
        verdicts.verdict-step r h w t s here runs s.memory l flying to_it x ask inc c is reading a n o b m (judged.TriesNext n memory posts more y op group ep first tracker read snapshot) steps p
    keep reading a n o b m (judged.GoesOn n2 memory posts more q st u o2 step) steps p = verdicts.verdict-step r h w t s here runs s.memory l flying to_it x ask inc c is reading a n o b m (judged.GoesOn n memory posts more q st u o step) steps p
    keep reading a n o b m (judged.IsDone n2 memory posts more q st left ends) steps p = verdicts.verdict-step r h w t s here runs s.memory l flying to_it x ask inc c is reading a n o b m (judged.IsDone n memory posts more q st left ends) steps p

    plain : (reading : ℕ) (a : judged.VerdictStage) (n : Kept) (ch : Change) (b : judged.VerdictStage) → judged.VerdictNext is_prepared (target_plan r t) s.memory reading x ask c a n (Some ch) b → (is_plain ch ≡ true) × (none_issued a ≡ none_issued b)
    plain reading a n ch b (judged.SettlesBy n2 o2 by') = (by (judged.settles_by is_prepared c x n.durable) by', refl)
      where
        by : (st : Option Settle) → Some ch ≡ judged.settling_change x st → is_plain ch ≡ true
        by None same = let no : ⊥ = cc in absurd no
        by (Some step) same = let one : ch ≡ Settles x step = cc in ap is_plain one
    plain reading a n ch b (judged.GoesOn n2 memory posts more q st u o2 (reads.ExtendsLease n3 e lease lt covers)) = (refl, refl)
    plain reading a n ch b (judged.GoesOn n2 memory posts more q st u o2 (reads.SettlesOwn n3 e decided y free unsettled among)) = (refl, refl)

    -- what stands in the middle, without what was to be sent
    shows : (stage : judged.VerdictStage) (n : Kept) → AtIt stage n → (m : TargetMemory) × Ongoing r h (at_work w t (target_after s n m) [])
    shows judged.Heard n p = (s.memory, p)
    shows (judged.Freed asks memory posts) n p = (memory, work-forgets r h w t (target_after s n memory) posts (λ q i. plain-mild q.message (p.1 q i)) p.0)
    shows (judged.Trying q stage asks memory posts) n p = (fetch_memory memory stage, work-forgets r h w t (target_after s n (fetch_memory memory stage)) posts (λ y i. plain-mild y.message (p.1 y i)) p.0)

    -- it tells of an attempt of others, so what is known stays
    known-same : told_by c x s.memory ≡ s.memory
    known-same = by c
      where
        others : IsOfOthers t s.memory.leader s.durable x
        others = subst (TellsOfOthers t s.memory.leader s.durable) is (letters-tell r h w k l t s flying to_it here)

        by : (c : Verdict) → told_by c x s.memory ≡ s.memory
        by fate.Committed = ap (λ m. record s.memory { leader = m }) (forgotten-other t s.memory.leader s.durable x others)
        by fate.Aborted = ap (λ m. record s.memory { leader = m }) (forgotten-other t s.memory.leader s.durable x others)
        by fate.Undecided = refl

    pub verdict-cut : (reading : ℕ) → CutTurn (judged.VerdictNext is_prepared (target_plan r t) (told_by c x s.memory) reading x ask c) none_issued t judged.Heard (kept s) cut → Attempts r h v
    verdict-cut reading turn = let z = shows at.stage at.mid at.so_far in stops r h w v t s here runs cut follows k at.mid z.0 z.1 at.left
      where
        at : CutAs (judged.VerdictNext is_prepared (target_plan r t) s.memory reading x ask c) none_issued t AtIt (keep reading) (plain reading) judged.Heard cut
        at = cut-as (judged.VerdictNext is_prepared (target_plan r t) s.memory reading x ask c) none_issued t AtIt (keep reading) (plain reading) judged.Heard (kept s) cut
            (subst (λ m. CutTurn (judged.VerdictNext is_prepared (target_plan r t) m reading x ask c) none_issued t judged.Heard (kept s) cut) known-same turn) start

  -- ---- an Ack, or what a member holds, which is heard as one

  module _ (later : History) (x : AttemptId) (inc : ℕ) (refusal : Option Outcome) (is : IsAnswer r l x inc refusal) (g : GrowsBy h (ack_told s x refusal cut.left.durable) later) where
    -- where what it keeps is as before, nothing is told
    unchanged : (n : Kept) → Ongoing r h (at_work w t (target_after s n s.memory) []) → cut.left.durable ≡ n.durable → n.durable ≡ s.durable → Attempts r later v
    unchanged n on same begun =
        later-keeps r h later v
        (subst (λ ps. GrowsBy h ps later) (ap (λ d. silent_end x refusal (entry_of s.durable x) false false (is_some (entry_of d x))) (same ∙ begun) ∙ silent-same x refusal (entry_of s.durable x) false) g)
        (stops r h w v t s here runs cut follows k n s.memory on same)

    -- where the attempt was refused, it is aborted
    module _ (b : Kept) (on : Ongoing r h (at_work w t (target_after s b s.memory) [])) (begun : b.durable ≡ s.durable) (made : cut.left.durable ≡ settled x Abort b.durable) (e : Entry) (u : Undecided) (how : Outcome)
        (awaited : IsAwaited x (leader_at (target_plan r t) s.memory b.durable) e u) (refuses : refusal ≡ Some how) (present : b.durable.incarnation ≡ inc) where
      says : IsAckRight r h (at_work w t (target_after s b s.memory) []) l.from l.to x inc refusal
      says = is.says h (at_work w t (target_after s b s.memory) []) (on.letters l (has-left w.messages [] l flying))

      leads : t ≡ leader_of r x
      leads = target-is t (leader_of r x) (sym to_it ∙ says.way.receiver)

      inc-there : inc_at (at_work w t (target_after s b s.memory) []) (leader_of r x) ≡ b.durable.incarnation
      inc-there = ap inc_in (subst (λ n. slice_get (set w.targets t (target_after s b s.memory)) n ≡ Some (target_after s b s.memory)) leads (set-here w.targets t s (target_after s b s.memory) here))

      undecided : (d : Epoch) → Decided h x d → ⊥
      undecided d dec = (on.each x).awaited.firm l d (has-left w.messages [] l flying) refused dec
        where
          refused : refuses_for (inc_at (at_work w t (target_after s b s.memory) []) (leader_of r x)) x l.message ≡ true
          refused =
              is.refuses (inc_at (at_work w t (target_after s b s.memory) []) (leader_of r x)) x how refuses
              ∙ both (same_attempt x x) (inc == inc_at (at_work w t (target_after s b s.memory) []) (leader_of r x)) (same_attempt-itself x) (subst (λ i. (inc == i) ≡ true) (sym (inc-there ∙ present)) (number-itself inc))

      found : entry_of s.durable x ≡ Some e
      found =
          ap (λ d. entry_of d x) (sym begun)
          ∙ (led-found (target_plan r t) s.memory b.durable x e (on.ordered t (target_after s b s.memory) (set-here w.targets t s (target_after s b s.memory) here)).entries awaited.led).0

      told : ack_told s x refusal cut.left.durable ≡ told_end x (Some e.epoch) how ∷ []
      told = silent-refuses x refusal how (entry_of s.durable x) e false false (is_some (entry_of cut.left.durable x)) found refl (ap (λ d. is_some (entry_of d x)) made ∙ ap is_some (entry-aborted x b.durable)) refuses

      aborted : Attempts r later v
      aborted =
          late-abort r h later (after_cut w t s (leaving cut b)) v t (stopped_at s b) (stopped_at s cut.left)
          (cut-finds w v t s cut b here follows (ap (λ d. d.incarnation) made ∙ incarnation-settled x Abort b.durable)) x e.epoch how made refl leads undecided (subst (IsOkRight h (at_work w t (target_after s b s.memory) []) x says.way.member) refuses says.held)
          (subst (λ ps. GrowsBy h ps later) told g) (mid-stops r h w t s here k b s.memory (leaving cut b) (after_cut w t s (leaving cut b)) on refl refl)

    -- it refuses the present incarnation
    present-test : (b : Kept) → is_refusing l.from.number x inc refusal (leader_at (target_plan r t) s.memory b.durable) ≡ true → (inc == b.durable.incarnation) ≡ true
    unfolding is_awaited
    present-test b on =
        and_left (inc == b.durable.incarnation) (is_awaited_of l.from.number (entry_led x (leader_at (target_plan r t) s.memory b.durable)) (undecided_of x (leader_at (target_plan r t) s.memory b.durable)))
        (and_left ((inc == b.durable.incarnation) && is_awaited_of l.from.number (entry_led x (leader_at (target_plan r t) s.memory b.durable)) (undecided_of x (leader_at (target_plan r t) s.memory b.durable))) (is_some refusal) on)

    present-is : (b : Kept) → is_refusing l.from.number x inc refusal (leader_at (target_plan r t) s.memory b.durable) ≡ true → b.durable.incarnation ≡ inc
    present-is b on = number-is inc b.durable.incarnation (present-test b on)
      where
        number-is : (i j : ℕ) → (i == j) ≡ true → j ≡ i
        number-is i j own = grind (arith, nat_tests)

    ack-plain : (a : AckStage) (n : Kept) (ch : Change) (b : AckStage) → AckNext (target_plan r t) s.memory l.from.number x inc refusal a n (Some ch) b → (is_plain ch ≡ true) × (none_issued a ≡ none_issued b)
    ack-plain a n ch b (Aborts n2 on) = (refl, refl)

    ends : (stage : AckStage) (n : Kept) → ack.AtAck r h h w v t s here runs s.memory l rest takes to_it x inc refusal is stage n → cut.left.durable ≡ n.durable → Attempts r later v
    ends Heard n p same = unchanged n p.1 same p.0
    ends (Followed st) n p same = by (is_refusing l.from.number x inc refusal (leader_at (target_plan r t) s.memory p.before.durable)) refl
      where
        by : (b : Bool) → is_refusing l.from.number x inc refusal (leader_at (target_plan r t) s.memory p.before.durable) ≡ b → Attempts r later v
        by false off = unchanged p.before p.on (same ∙ p.other off) p.begun
        by true on = refused (ack.view r h h w v t s here runs s.memory l rest takes to_it x inc refusal is p.before p.on (present-test p.before on))
          where
            refused : {st2 : LeaderStep} → AckIs l.from.number x inc refusal (leader_at (target_plan r t) s.memory p.before.durable) st2 → Attempts r later v
            refused (Ignored unawaited off) = let no : ⊥ = cc (on, off) in absurd no
            refused (Counted e u awaited well off) = let no : ⊥ = cc (on, off) in absurd no
            refused (Decides e u awaited well off all) = let no : ⊥ = cc (on, off) in absurd no
            refused (Refuses e u how awaited refuses on2) = aborted p.before p.on p.begun (same ∙ p.refused on) e u how awaited refuses (present-is p.before on)

    pub ack-cut : CutTurn (AckNext (target_plan r t) s.memory l.from.number x inc refusal) none_issued t Heard (kept s) cut → Attempts r later v
    ack-cut turn = ends at.stage at.mid at.so_far at.left
      where
        at : CutAs (AckNext (target_plan r t) s.memory l.from.number x inc refusal) none_issued t (ack.AtAck r h h w v t s here runs s.memory l rest takes to_it x inc refusal is) (ack.ack-step r h h w v t s here runs s.memory l rest takes to_it x inc refusal is) ack-plain Heard cut
        at = cut-as (AckNext (target_plan r t) s.memory l.from.number x inc refusal) none_issued t (ack.AtAck r h h w v t s here runs s.memory l rest takes to_it x inc refusal is)
            (ack.ack-step r h h w v t s here runs s.memory l rest takes to_it x inc refusal is) ack-plain Heard (kept s) cut turn (refl, start)
