-- A Verdict, with the Fetches that it frees, keeps the facts of attempts.
use Rattle.std.specs.Prelude.{ℕ, ◌≡◌, Bool, true, false, List, [], ◌∷◌, ◌++◌, filter, slice_get, Option, Some, None, refl}
use Rattle.std.proofs.Common.{sym, ◌∙◌, ap, subst, inl, inr}
use Rattle.base_types.specs.declared.entry.Settle.{Settle}
use Rattle.base_types.specs.declared.entry.Settle.TheVariants.{Abort, Commit}
use Rattle.daos_model.specs.Changes.{settled}
use Rattle.base_types.specs.declared.entry.Verdict.{Verdict}
use Rattle.base_types.specs.declared.entry.Verdict.TheVariants as verdict
use Rattle.base_types.specs.declared.id.AttemptId.{AttemptId}
use Rattle.model_laws.specs.Members.{Has, has-cases, has-left}
use Rattle.base_messages.specs.declared.message.Message.{Message}
use Rattle.base_messages.specs.declared.message.Message.TheVariants as message
use Rattle.base_messages.specs.declared.message.Post.{Post}
use Rattle.dtx_base.specs.declared.member.Parked.{Parked}
use Rattle.dtx_base.specs.Joining.{MemberOf, MemberStep, all_unresolved_told, is_waiting, unresolved, unresolved_told, verdict_heard}
use Rattle.world_commit.specs.attempts.Attempts.{IsOther}
use Rattle.world_commit.specs.attempts.History.{History}
use Rattle.world_commit.specs.attempts.Stored.{target-is}
use Rattle.world_commit.specs.attempts.MemberBits.{other-no_leader}
use Rattle.world_commit.specs.attempts.Turning.{at_work}
use Rattle.world_commit.specs.fates.Facts.{IsSaidSo, IsVerdictRight, Ongoing}
use Rattle.world_commit.specs.fates.FetchTurns.{AtFetch, TurnLeft, fetch-ends, fetch-step, work-keeps}
use Rattle.world_commit.specs.fates.Small.{other-aborts, other-commits}
use Rattle.world_commit.specs.fates.Working.{ArePlain, PostsSo, Step, is_plain, plain-mild, work-mid, work-sends}
use Rattle.world_base.specs.declared.did.Did.{Did}
use Rattle.world_base.specs.declared.letter.Letter.{Letter}
use Rattle.world_base.specs.declared.target.Life.TheVariants.{Running}
use Rattle.world_base.specs.declared.target.TargetMemory.{TargetMemory}
use Rattle.world_base.specs.declared.target.TargetState.{TargetState}
use Rattle.world_base.specs.declared.world.World.{World}
use Rattle.world_base.specs.Events.{Rules, target_after, target_plan}
use Rattle.world_base.specs.Letters.{target}
use Rattle.world_base.specs.ChangeLaws.{incarnation-settled}
use Rattle.world_base.specs.Changes.{Change, Kept, Steps}
use Rattle.world_base.specs.DoubtLaws.{in_doubt-prepared}
use Rattle.world_base.specs.Roles.{is_in_doubt, joins_on, member_at}
use Rattle.world_base.specs.Verdicts.{AllTried, Freed, GoesOn, Heard, IsDone, SettlesBy, TriesNext, Trying, VerdictEnds, VerdictNext, VerdictStage, fetcher, settles_by, settling_change, step_by, step_if}

-- ---- what a Verdict sets free

plain-append : (ps qs : List Post) → ArePlain ps → ArePlain qs → ArePlain (ps ++ qs)
plain-append ps qs k n p i = elim (has-cases ps qs p i) [ inl j ↦ k p j | inr j ↦ n p j ]

true-append : (r : Rules) (h : History) (w : World) (t : ℕ) (ps qs : List Post) → PostsSo r h w t ps → PostsSo r h w t qs → PostsSo r h w t (ps ++ qs)
true-append r h w t ps qs k n p i = elim (has-cases ps qs p i) [ inl j ↦ k p j | inr j ↦ n p j ]

told-plain : (a : AttemptId) (m : Message) → ArePlain (unresolved_told a m)
told-plain a (message.Fetch x op group ep first tracker read snapshot) p (inl same) = ap (λ i. is_plain i.message) same
told-plain a (message.Fetch x op group ep first tracker read snapshot) p (inr none) = absurd none
told-plain a m p i = absurd i

told-true : (r : Rules) (h : History) (w : World) (t : ℕ) (a : AttemptId) (m : Message) → PostsSo r h w t (unresolved_told a m)
told-true r h w t a (message.Fetch x op group ep first tracker read snapshot) p (inl same) = subst (λ i. IsSaidSo r h w (target t) i.to i.message) (sym same) tt
told-true r h w t a (message.Fetch x op group ep first tracker read snapshot) p (inr none) = absurd none
told-true r h w t a m p i = absurd i

all-plain : (a : AttemptId) (ps : List Parked) → ArePlain (all_unresolved_told a ps)
all-plain a [] p i = absurd i
all-plain a (q ∷ ps) p i = plain-append (unresolved_told a q.ask) (all_unresolved_told a ps) (told-plain a q.ask) (all-plain a ps) p i

all-true : (r : Rules) (h : History) (w : World) (t : ℕ) (a : AttemptId) (ps : List Parked) → PostsSo r h w t (all_unresolved_told a ps)
all-true r h w t a [] p i = absurd i
all-true r h w t a (q ∷ ps) p i = true-append r h w t (unresolved_told a q.ask) (all_unresolved_told a ps) (told-true r h w t a q.ask) (all-true r h w t a ps) p i

pub freed-plain : (a : AttemptId) (ask : Option AttemptId) (v : Verdict) (j : MemberOf) → ArePlain (verdict_heard a ask v j).freed.posts
unfolding unresolved
freed-plain a ask verdict.Committed j p i = absurd i
freed-plain a ask verdict.Aborted j p i = absurd i
freed-plain a None verdict.Undecided j p i = absurd i
freed-plain a (Some x) verdict.Undecided j p i = all-plain a (filter (is_waiting a x) j.memory.parked) p i

pub freed-true : (r : Rules) (h : History) (w : World) (t : ℕ) (a : AttemptId) (ask : Option AttemptId) (v : Verdict) (j : MemberOf) → PostsSo r h w t (verdict_heard a ask v j).freed.posts
unfolding unresolved
freed-true r h w t a ask verdict.Committed j p i = absurd i
freed-true r h w t a ask verdict.Aborted j p i = absurd i
freed-true r h w t a None verdict.Undecided j p i = absurd i
freed-true r h w t a (Some x) verdict.Undecided j p i = all-true r h w t a (filter (is_waiting a x) j.memory.parked) p i

-- ---- a Verdict

module _ (r : Rules) (h : History) (w : World) (t : ℕ) (s : TargetState) (here : slice_get w.targets t ≡ Some s) (runs : s.life ≡ Running) (m : TargetMemory) (l : Letter) (flies : Has l w.messages) (to_it : l.to ≡ target t) where
  abbrev pub V : Kept → World
  V k = at_work w t (target_after s k m) []

  -- in the middle of it
  abbrev pub AtVerdict : VerdictStage → Kept → Type 0
  AtVerdict Heard k = Ongoing r h (V k)
  AtVerdict (Freed asks n posts) k = Ongoing r h (at_work w t (target_after s k n) posts) × ArePlain posts
  AtVerdict (Trying q stage asks n posts) k = AtFetch r h w t s here runs n posts stage k × ArePlain posts

  settles-on : (a : AttemptId) (k n : Kept) (step : Settle) → n.durable ≡ settled a step k.durable → Step (target_after s k m) (target_after s n m)
  settles-on a k n step is = record { incarnation = ap (λ d. d.incarnation) is ∙ incarnation-settled a step k.durable; runs = runs; life = refl; down = refl }

  module _ (a : AttemptId) (ask : Option AttemptId) (inc : ℕ) (v : Verdict) (is : l.message ≡ message.Verdict a ask inc v) where
    settles : (k n : Kept) (o : Option Change) → o ≡ settling_change a (settles_by (is_in_doubt t) v a k.durable) → Steps o k n → Ongoing r h (V k) → Ongoing r h (V n)
    settles k n o by' steps p = by (is_in_doubt t a k.durable) refl v (subst (λ q. IsSaidSo r h (V k) l.from l.to q) is (p.letters l (has-left w.messages [] l flies))) (subst (λ c. Steps c k n) by' steps)
      where
        by : (b : Bool) → is_in_doubt t a k.durable ≡ b → (c : Verdict) → IsVerdictRight r h (V k) l.from l.to a c → Steps (settling_change a (step_if b (step_by c))) k n → Ongoing r h (V n)
        by false sure c z same = subst (λ i. Ongoing r h (V i)) (sym same) p
        by true doubt verdict.Undecided z same = subst (λ i. Ongoing r h (V i)) (sym same) p
        by true doubt verdict.Committed z made =
            let other : IsOther r a t = subst (λ q. IsOther r a q) (target-is z.way.member t (sym z.way.receiver ∙ to_it)) z.way.other in
            other-commits r h (V k) (V n) t (target_after s k m) (target_after s n m) (work-mid w t s (target_after s k m) (target_after s n m) [] here (settles-on a k n Commit made.0)) a p refl made.0 other
            (λ same. other-no_leader r a t other (sym same)) z.fate.0 z.fate.1 (in_doubt-prepared t a k.durable doubt)
        by true doubt verdict.Aborted z made =
            other-aborts r h (V k) (V n) t (target_after s k m) (target_after s n m) (work-mid w t s (target_after s k m) (target_after s n m) [] here (settles-on a k n Abort made.0)) a p refl made.0 z.fate

    pub verdict-step : (reading : ℕ) (stage : VerdictStage) (k : Kept) (o : Option Change) (next : VerdictStage) (n : Kept) → VerdictNext (is_in_doubt t) (target_plan r t) m reading a ask v stage k o next → Steps o k n → AtVerdict stage k → AtVerdict next n
    verdict-step reading stage k o next n (SettlesBy k2 o2 by') steps p = (
      work-keeps r h w t s here runs (target_after s n m) (target_after s n (joins_on heard.member m)) heard.freed.posts (record { incarnation = refl; runs = runs; life = refl; down = refl }) refl refl refl
          (work-sends r h w t (target_after s n m) [] heard.freed.posts (freed-true r h (V n) t a ask v (member_at (target_plan r t) m)) (λ q i. plain-mild q.message (freed-plain a ask v (member_at (target_plan r t) m) q i)) (settles k2 n o2 by' steps p)),
      freed-plain a ask v (member_at (target_plan r t) m),
    )
      where
        heard : MemberStep
        heard = verdict_heard a ask v (member_at (target_plan r t) m)
    verdict-step reading stage k o next n (TriesNext k2 memory posts rest x op group ep first tracker read snapshot) steps p = subst (λ i. AtVerdict (Freed [] memory posts) i) (sym steps) p
    verdict-step reading stage k o next n (GoesOn k2 memory posts rest q st u o2 step) steps p = (fetch-step r h w t s here runs memory reading q posts st k2 o2 u n step steps p.0, p.1)
    verdict-step reading stage k o next n (IsDone k2 memory posts rest q st left ends) steps p =
        let z = fetch-ends r h w t s here runs memory reading q (fetcher q) posts st k2 left ends p.0 in
        subst (λ i. AtVerdict (Freed rest left.0 (posts ++ left.1.posts)) i) (sym steps) (z.on, plain-append posts left.1.posts p.1 z.plain)

    pub verdict-ends : (stage : VerdictStage) (k : Kept) (after : TargetMemory × Did) → VerdictEnds stage k after → AtVerdict stage k → TurnLeft r h w t s here runs [] k after
    verdict-ends stage k after (AllTried k2 memory posts after2 ends) p = record {
      on = subst (λ i. Ongoing r h (at_work w t (target_after s k2 i.0) i.1.posts)) (sym ends) p.0;
      plain = subst (λ i. ArePlain i.1.posts) (sym ends) p.1;
    }
