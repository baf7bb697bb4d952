-- What is known at each moment of a run, by which its next event is determined.
use Rattle.std.specs.Prelude.{ℕ, ◌≡◌, true, is_some, length, slice_get, Contains, Some}
use Rattle.std.proofs.Common.{ap}
use Rattle.base_messages.specs.declared.message.Message.{Message}
use Rattle.base_messages.specs.declared.message.Message.TheVariants as message
use Rattle.daos_model.specs.declared.durable.Durable.{Durable}
use Rattle.daos_model.specs.Opening.{Opening}
use Rattle.model_laws.specs.Members.{has-from_contains}
use Rattle.run_laws.specs.Below.{begins-well, runs-have_grounds, runs-hear_all_rightly}
use Rattle.run_laws.specs.shows.Beginning.{RunBegins}
use Rattle.world_base.specs.declared.target.Life.TheVariants.{Running}
use Rattle.world_base.specs.declared.target.TargetState.{TargetState}
use Rattle.world_base.specs.declared.world.World.{World}
use Rattle.world_base.specs.Events.{Rules}
use Rattle.world_base.specs.Stops.{WorldRun}
use Rattle.world_contents.specs.reads.Given.{IsParkedRight}
use Rattle.world_determined.specs.Choices.{LeadDecided}
use Rattle.world_determined.specs.Leading.{attempts-lead_decided}
use Rattle.world_determined.specs.Readings.{AreTimed, is_timed}

-- No target decided an attempt that another one leads; and each Fetch that waits at a running target goes with its epoch.
pub record IsSettledBy (r : Rules) (w : World) : Type 0 where
  pub led : LeadDecided r w
  pub timed : (t : ℕ) (s : TargetState) → slice_get w.targets t ≡ Some s → s.life ≡ Running → AreTimed s.memory.member.parked

parked-timed : (r : Rules) (o : Opening) (w : World) (t : ℕ) (d : Durable) (m : Message) → IsParkedRight r o w t d m → is_timed m ≡ true
parked-timed r o w t d (message.Fetch x op group ep first tracker read snapshot) k = ap is_some k.has
parked-timed r o w t d m k = absurd k

-- so it is at each moment of a run, from its beginning
pub runs-are_settled : (r : Rules) (o : Opening) (w v : World) → RunBegins r o w → WorldRun r w v → IsSettledBy r v
runs-are_settled r o w v b run =
    let k = runs-have_grounds r o w v b.form (begins-well r o w b.begins) run in
    let g = runs-hear_all_rightly r o w v b.form b.begins run in
    record {
      led = attempts-lead_decided r k.0 v k.1.heard.attempts;
      timed = λ t s here runs p i. parked-timed r o v t s.durable p.ask (g.waiting t s p here runs (has-from_contains s.memory.member.parked p i));
    }

-- and as many targets are there as the script has
pub runs-have_targets : (r : Rules) (o : Opening) (w v : World) → RunBegins r o w → WorldRun r w v → length v.targets ≡ r.script.targets
runs-have_targets r o w v b run = (runs-have_grounds r o w v b.form (begins-well r o w b.begins) run).1.heard.many
