-- What a target can hear, as a turn in which it hears it is made again.
use Rattle.std.specs.Prelude.{◌≡◌, ◌≤◌, Bool, true, false, is_none, is_some, IfSome, All, List}
use Rattle.std.specs.List.{list_all}
use Rattle.base_types.specs.declared.id.AttemptId.{AttemptId}
use Rattle.base_types.specs.declared.operation.MinorWrite.{MinorWrite}
use Rattle.base_types.specs.Operations.{write_path}
use Rattle.base_types.specs.Placement.{ClassFits}
use Rattle.base_messages.specs.declared.message.Message.{Message}
use Rattle.base_messages.specs.declared.message.Message.TheVariants.{Ack, Commit, Fetch, Mark, Marked, Prepare, Query, Verdict}
use Rattle.daos_model.specs.declared.durable.Durable.{Durable}
use Rattle.daos_model.specs.Durables.{is_version_in_form}
use Rattle.daos_model.specs.Forms.{AreWritesInForm}
use Rattle.dtx_base.specs.declared.member.Parked.{Parked}
use Rattle.world_base.specs.declared.target.TargetMemory.{TargetMemory}
use Rattle.world_base.specs.declared.target.TargetPlan.{TargetPlan}
use Rattle.world_base.specs.Roles.{other_leader}

-- no other target leads an attempt
unfoldable pub is_led_here : TargetPlan → Durable → AttemptId → Bool
is_led_here t d a = is_none (other_leader t a d)

-- none does one of the attempts that a target decided and hasn't settled
abbrev pub AreLedHere : TargetPlan → List AttemptId → Durable → Type 0
AreLedHere t decided d = list_all (is_led_here t d) decided ≡ true

-- it can read where the versions that it keeps are in form, and it leads what it decided
pub record CanRead (t : TargetPlan) (d : Durable) (decided : List AttemptId) : Type 0 where
  pub versions : list_all is_version_in_form d.versions ≡ true
  pub led : AreLedHere t decided d

-- it can commit writes in form, of objects that fit its targets, of which there are at most 64
pub record CanCommit (t : TargetPlan) (ws : List MinorWrite) : Type 0 where
  pub few : t.targets ≤ 64
  pub form : AreWritesInForm ws
  pub fit : All (λ w. IfSome (write_path w.write).obj (λ o. ClassFits o.class t.targets)) ws

-- a Fetch that goes with its epoch
abbrev pub is_timed : Message → Bool
is_timed (Fetch x op group ep first tracker r snapshot) = is_some ep
is_timed m = false

abbrev pub is_timed_ask : Parked → Bool
is_timed_ask p = is_timed p.ask

-- it can try again what waits, where that are Fetches with their epochs
pub record CanTryAgain (t : TargetPlan) (d : Durable) (m : TargetMemory) : Type 0 where
  pub read : CanRead t d m.leader.decided
  pub timed : list_all is_timed_ask m.member.parked ≡ true

-- A message that a target can hear, with what it keeps and knows. Where a run has come from its beginning, each that goes to a target
-- is one.
abbrev pub CanHear : TargetPlan → Durable → TargetMemory → Message → Type 0
CanHear t d m (Fetch x op group ep first tracker r snapshot) = CanRead t d m.leader.decided
CanHear t d m (Commit x ep first tracker ws) = CanCommit t ws
CanHear t d m (Prepare e first ws inc) = AreWritesInForm ws
CanHear t d m (Ack x inc refusal) = Unit {0}
CanHear t d m (Mark inc marks) = Unit {0}
CanHear t d m (Marked inc ids) = Unit {0}
CanHear t d m (Query x ask) = Unit {0}
CanHear t d m (Verdict x ask inc v) = CanTryAgain t d m
CanHear t d m q = ⊥
