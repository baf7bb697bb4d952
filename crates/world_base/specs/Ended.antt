-- Where a run has ended.
use Rattle.std.specs.Prelude.{ℕ, ◌≡◌, ◌⊎◌, ◌<◌, false, true, [], length, slice_get, Some, Contains}
use Rattle.dtx_base.specs.Joining.{is_inquiry_due}
use Rattle.dtx_base.specs.Leading.{is_batch_due}
use Rattle.world_base.specs.declared.client.ClientState.{ClientState}
use Rattle.world_base.specs.declared.letter.Letter.{Letter}
use Rattle.world_base.specs.declared.target.Life.TheVariants.{Running, Stopped}
use Rattle.world_base.specs.declared.target.TargetState.{TargetState}
use Rattle.world_base.specs.declared.world.World.{World}
use Rattle.world_base.specs.ClientTurns.{is_done, waits}
use Rattle.world_base.specs.Events.{Rules, client_plan, target_plan}
use Rattle.world_base.specs.Letters.{client, target}
use Rattle.world_base.specs.Roles.{leader_at, member_at}

-- A run has ended: no actor has anything to do. No message is in flight to a client or to a target that runs; each client waits for one, or
-- its commands are over; no target is stopped, which would open again; and none that runs knows of a decided attempt that is left to
-- settle, has a Mark to send, or has to ask what became of what is prepared there.
pub record HasEnded (r : Rules) (w : World) : Type 0 where
  pub to_clients : (n : ℕ) (l : Letter) → n < length r.script.clients → Contains w.messages l → l.to ≡ client n → ⊥
  pub to_targets : (t : ℕ) (s : TargetState) (l : Letter) → slice_get w.targets t ≡ Some s → s.life ≡ Running → Contains w.messages l → l.to ≡ target t → ⊥
  pub clients : (n : ℕ) (c : ClientState) → slice_get w.clients n ≡ Some c → (waits c ≡ true) ⊎ (is_done (client_plan r n) c ≡ true)
  pub none_stopped : (t : ℕ) (s : TargetState) → slice_get w.targets t ≡ Some s → s.life ≡ Stopped → ⊥
  pub settled : (t : ℕ) (s : TargetState) → slice_get w.targets t ≡ Some s → s.life ≡ Running → s.memory.leader.decided ≡ []
  pub told : (t : ℕ) (s : TargetState) → slice_get w.targets t ≡ Some s → s.life ≡ Running → is_batch_due (leader_at (target_plan r t) s.memory s.durable) ≡ false
  pub inquired : (t : ℕ) (s : TargetState) → slice_get w.targets t ≡ Some s → s.life ≡ Running → is_inquiry_due s.durable.entries (member_at (target_plan r t) s.memory) ≡ false
