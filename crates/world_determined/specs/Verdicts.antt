-- A Verdict's turn is determined, where no other target leads what its target decided.
use Rattle.std.specs.Prelude.{ℕ, ◌≡◌, ◌++◌, Bool, true, false, Option, Some, None, refl}
use Rattle.std.proofs.Common.{◌⊎◌, inl, inr, sym, ◌∙◌, ap, subst}
use Rattle.base_types.specs.declared.entry.Settle.{Settle}
use Rattle.base_types.specs.declared.entry.Settle.TheVariants.{Abort, Commit}
use Rattle.base_types.specs.declared.entry.Verdict.{Verdict}
use Rattle.base_types.specs.declared.entry.Verdict.TheVariants as verdict
use Rattle.base_types.specs.declared.id.AttemptId.{AttemptId}
use Rattle.daos_model.specs.declared.durable.Durable.{Durable}
use Rattle.daos_model.specs.Changes.{settled}
use Rattle.daos_model.specs.Durables.{same_attempt}
use Rattle.daos_model.specs.EntryLaws.{same_attempt-itself}
use Rattle.dtx_base.specs.LeaderLaws.{same-is}
use Rattle.world_base.specs.declared.did.Did.{Did}
use Rattle.world_base.specs.declared.request.FetchRequest.{FetchRequest}
use Rattle.world_base.specs.declared.target.TargetMemory.{TargetMemory}
use Rattle.world_base.specs.declared.target.TargetPlan.{TargetPlan}
use Rattle.world_base.specs.Changes.{Kept, Settles, Steps}
use Rattle.world_base.specs.EntryLaws.{leader-aborted, leader-aborted_other, leader-committed}
use Rattle.world_base.specs.Reads as read
use Rattle.world_base.specs.Roles.{other_leader}
use Rattle.world_base.specs.Turns.{Whole}
use Rattle.world_base.specs.Verdicts.{AllTried, Freed, GoesOn, Heard, IsDone, SettlesBy, TriesNext, Trying, VerdictEnds, VerdictNext, VerdictStage, fetcher, settles_by, settling_change, step_by, step_if}
use Rattle.world_determined.specs.Fetches.{NoneLedElsewhere, ReadFits, fetches-end, fetches-last, fetches-on, fetches-one, led-same}
use Rattle.world_determined.specs.Paths.{FitsOn, HasOneStep, OneStep}
use Rattle.world_determined.specs.Wholes.{HasOneEnd, IsLast, OneTurn, whole-one}

-- ---- what others lead

-- what is committed or aborted is led by nobody else than before
leader-judged : (t : TargetPlan) (a x : AttemptId) (step : Option Settle) (k l : Kept) → (step ≡ Some Commit) ⊎ ((step ≡ Some Abort) ⊎ (step ≡ None))
    → Steps (settling_change a step) k l → other_leader t x k.durable ≡ None → other_leader t x l.durable ≡ None
leader-judged t a x step k l (inl is) steps none =
    let made = subst (λ o. Steps (settling_change a o) k l) is steps in
    ap (other_leader t x) made.0 ∙ leader-committed t a x k.durable ∙ none
leader-judged t a x step k l (inr (inr is)) steps none = ap (λ y. other_leader t x y.durable) (subst (λ o. Steps (settling_change a o) k l) is steps) ∙ none
leader-judged t a x step k l (inr (inl is)) steps none = ap (other_leader t x) made.0 ∙ by (same_attempt x a) refl
  where
    made : Steps (Some (Settles a Abort)) k l
    made = subst (λ o. Steps (settling_change a o) k l) is steps

    by : (b : Bool) → same_attempt x a ≡ b → other_leader t x (settled a Abort k.durable) ≡ None
    by true same = ap (λ y. other_leader t y (settled a Abort k.durable)) (same-is x a same) ∙ leader-aborted t a k.durable
    by false apart =
        leader-aborted_other t a x k.durable (λ same. let no : ⊥ = cc (ap (λ y. same_attempt x y) (sym same), same_attempt-itself x, apart) in no) ∙ none

judged : (due : Bool) (v : Verdict) → (step_if due (step_by v) ≡ Some Commit) ⊎ ((step_if due (step_by v) ≡ Some Abort) ⊎ (step_if due (step_by v) ≡ None))
judged false v = inr (inr refl)
judged true verdict.Committed = inl refl
judged true verdict.Aborted = inr (inl refl)
judged true verdict.Undecided = inr (inr refl)

-- what a read leaves among the decided attempts is led by no other target
ended-led : (t : TargetPlan) (n : TargetMemory) (reading : ℕ) (q : FetchRequest) (s : read.FetchStage) (k : Kept) (left : TargetMemory × Did)
    → read.FetchEnds t n reading q (fetcher q) s k left → ReadFits t n s k.durable → NoneLedElsewhere t left.0.leader.decided k.durable
ended-led t n reading q _ k _ (read.IsSpent _ left at is same) fits = subst (λ x. NoneLedElsewhere t x.0.leader.decided k.durable) (sym same) fits
ended-led t n reading q _ k _ (read.IsRefused _ e decided c left is same) fits = subst (λ x. NoneLedElsewhere t x.0.leader.decided k.durable) (sym same) fits
ended-led t n reading q _ k _ (read.MeetsUnresolved _ e decided a left none met apart other same) fits = subst (λ x. NoneLedElsewhere t x.0.leader.decided k.durable) (sym same) fits
ended-led t n reading q _ k _ (read.IsParked _ e decided a leader left none met other same) fits = subst (λ x. NoneLedElsewhere t x.0.leader.decided k.durable) (sym same) fits
ended-led t n reading q _ k _ (read.IsServed _ e decided b left none got same) fits = subst (λ x. NoneLedElsewhere t x.0.leader.decided k.durable) (sym same) fits

-- ---- the turn

module _ (is_due : AttemptId → Durable → Bool) (t : TargetPlan) (m : TargetMemory) (reading : ℕ) (a : AttemptId) (ask : Option AttemptId) (v : Verdict) where
  -- no other target leads what this one decided and hasn't settled
  abbrev pub VerdictFits : VerdictStage → Durable → Type 0
  VerdictFits Heard d = NoneLedElsewhere t m.leader.decided d
  VerdictFits (Freed asks n posts) d = NoneLedElsewhere t n.leader.decided d
  VerdictFits (Trying q s asks n posts) d = ReadFits t n s d

  pub verdicts-on : FitsOn (VerdictNext is_due t m reading a ask v) VerdictFits
  verdicts-on _ k o _ l (SettlesBy _ _ is) steps fits =
      λ x among. leader-judged t a x (step_if (is_due a k.durable) (step_by v)) k l (judged (is_due a k.durable) v) (subst (λ c. Steps c k l) is steps) (fits x among)
  verdicts-on _ k _ _ l (TriesNext _ n posts rest x op group ep first tracker r snapshot) steps fits = led-same t n n.leader.decided k l steps fits
  verdicts-on _ k o _ l (GoesOn _ n posts rest q i z _ next) steps fits = fetches-on t n reading q i k o z l next steps fits
  verdicts-on _ k _ _ l (IsDone _ n posts rest q i left ends) steps fits = led-same t left.0 left.0.leader.decided k l steps (ended-led t n reading q i k left ends fits)

  pub verdicts-one : HasOneStep (VerdictNext is_due t m reading a ask v) VerdictFits
  verdicts-one _ k l _ _ _ _ fits same (SettlesBy _ _ is) (SettlesBy _ _ is') = record { change = is ∙ ap (λ d. settling_change a (settles_by is_due v a d)) same ∙ sym is'; stage = refl }
  verdicts-one _ k l _ _ _ _ fits same (TriesNext _ n posts rest x op group ep first tracker r snapshot) (TriesNext _ _ _ _ _ _ _ _ _ _ _ _) = record { change = refl; stage = refl }
  verdicts-one _ k l o p _ _ fits same (GoesOn _ n posts rest q i z _ next) (GoesOn _ _ _ _ _ _ z' _ next') =
      let one : OneStep o p z z' = fetches-one t n reading q i k l o p z z' fits same next next' in
      record { change = one.change; stage = ap (λ y. Trying q y rest n posts) one.stage }
  verdicts-one _ k l o _ _ _ fits same (GoesOn _ n posts rest q i z _ next) (IsDone _ _ _ _ _ _ left' ends') =
      absurd (fetches-last t n reading q (fetcher q) i l k left' o z (subst (ReadFits t n i) same fits) (sym same) ends' next)
  verdicts-one _ k l _ p _ _ fits same (IsDone _ n posts rest q i left ends) (GoesOn _ _ _ _ _ _ z' _ next') = absurd (fetches-last t n reading q (fetcher q) i k l left p z' fits same ends next')
  verdicts-one _ k l _ _ _ _ fits same (IsDone _ n posts rest q i left ends) (IsDone _ _ _ _ _ _ left' ends') =
      record { change = refl; stage = ap (λ x. Freed rest x.0 (posts ++ x.1.posts)) (fetches-end t n reading q (fetcher q) i k l left left' fits same ends ends') }

  pub verdicts-end : HasOneEnd (VerdictNext is_due t m reading a ask v) VerdictEnds VerdictFits
  verdicts-end _ k l _ _ fits same (AllTried _ n posts _ is) (AllTried _ _ _ _ is') = is ∙ sym is'

  pub verdicts-last : IsLast (VerdictNext is_due t m reading a ask v) VerdictEnds VerdictFits
  verdicts-last _ k l left o u fits same (AllTried _ n posts _ is) next = elim next [ ]

  pub verdicts_are_one :
      (old old' new new' : Kept) (left left' : TargetMemory × Did) → NoneLedElsewhere t m.leader.decided old.durable → old.durable ≡ old'.durable
      → Whole (VerdictNext is_due t m reading a ask v) VerdictEnds Heard old new left → Whole (VerdictNext is_due t m reading a ask v) VerdictEnds Heard old' new' left' → OneTurn new new' left left'
  verdicts_are_one old old' new new' left left' led same w v = whole-one _ _ VerdictFits verdicts-one verdicts-on verdicts-end verdicts-last Heard old old' new new' left left' led same w v
