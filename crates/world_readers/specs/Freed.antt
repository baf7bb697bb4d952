-- What a Verdict sets free has waited; and what others tell leaves what waits.
use Rattle.std.specs.Prelude.{◌≡◌, filter, List, [], ◌∷◌, Option, Some, None, refl}
use Rattle.std.proofs.Common.{subst}
use Rattle.base_types.specs.declared.entry.Verdict.{Verdict}
use Rattle.base_types.specs.declared.entry.Verdict.TheVariants as verdicts
use Rattle.base_types.specs.declared.id.AttemptId.{AttemptId}
use Rattle.base_messages.specs.declared.message.Message.{Message}
use Rattle.dtx_base.specs.declared.member.Parked.{Parked}
use Rattle.dtx_base.specs.Joining.{is_parked_on, parked_ask, unresolved, verdict_heard}
use Rattle.model_laws.specs.Members.{Has, has-from_filter, has-from_map}
use Rattle.world_base.specs.declared.target.TargetMemory.{TargetMemory}
use Rattle.world_base.specs.declared.target.TargetPlan.{TargetPlan}
use Rattle.world_base.specs.Roles.{member_at, told_by, told_of, told_of_all}

module _ (p : TargetPlan) (m : TargetMemory) (a : AttemptId) (P : Message → Type 0) (waits : (z : Parked) → Has z m.member.parked → P z.ask) where
  -- what holds of all that waits, holds of what is to be tried again
  pub freed-waited : (v : Verdict) (ask : Option AttemptId) (z : Message) → Has z (verdict_heard a ask v (member_at p m)).freed.again → P z
  unfolding unresolved
  freed-waited verdicts.Committed ask z i = let y = has-from_map parked_ask (filter (is_parked_on a) m.member.parked) z i in subst P y.2 (waits y.0 (has-from_filter (is_parked_on a) m.member.parked y.0 y.1).0)
  freed-waited verdicts.Aborted ask z i = let y = has-from_map parked_ask (filter (is_parked_on a) m.member.parked) z i in subst P y.2 (waits y.0 (has-from_filter (is_parked_on a) m.member.parked y.0 y.1).0)
  freed-waited verdicts.Undecided None z i = absurd i
  freed-waited verdicts.Undecided (Some y) z i = absurd i

-- ---- what others tell

pub told-member : (v : Verdict) (x : AttemptId) (m : TargetMemory) → (told_by v x m).member ≡ m.member
told-member verdicts.Committed x m = refl
told-member verdicts.Aborted x m = refl
told-member verdicts.Undecided x m = refl

pub all-told_member : (ids : List AttemptId) (m : TargetMemory) → (told_of_all ids m).member ≡ m.member
all-told_member [] m = refl
all-told_member (x ∷ ids) m = all-told_member ids (told_of x m)

pub told-stamps : (v : Verdict) (x : AttemptId) (m : TargetMemory) → (told_by v x m).stamps ≡ m.stamps
told-stamps verdicts.Committed x m = refl
told-stamps verdicts.Aborted x m = refl
told-stamps verdicts.Undecided x m = refl

pub all-told_stamps : (ids : List AttemptId) (m : TargetMemory) → (told_of_all ids m).stamps ≡ m.stamps
all-told_stamps [] m = refl
all-told_stamps (x ∷ ids) m = all-told_stamps ids (told_of x m)
