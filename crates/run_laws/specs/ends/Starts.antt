-- Clients and targets before their first turns.
use Rattle.std.specs.Prelude.{ℕ, ◌≡◌, ◌≤◌, ◌+◌, ◌^◌, true, false, List, length, map, slice_get, is_some, Option, Some, None, []}
use Rattle.base_types.specs.declared.job.Job.{Job}
use Rattle.base_types.specs.declared.script.Command.{Command}
use Rattle.base_types.specs.declared.script.Script.{Script}
use Rattle.base_types.specs.declared.snapshot.Snap.{Snap}
use Rattle.client_core.specs.Clients.{ClientNow}
use Rattle.daos_model.specs.declared.durable.Durable.{Durable}
use Rattle.daos_model.specs.Durables.{empty_durable}
use Rattle.daos_model.specs.Opening.{Given, Opening}
use Rattle.run_laws.specs.shows.Beginning.{RunBegins}
use Rattle.run_laws.specs.shows.Shows.{state_of}
use Rattle.target_core.specs.Targets.{TargetOf}
use Rattle.vos_store.specs.Calls.{State}
use Rattle.world_base.specs.declared.client.ClientState.{ClientState}
use Rattle.world_base.specs.declared.target.Life.TheVariants.{Running}
use Rattle.world_base.specs.declared.target.TargetState.{TargetState}
use Rattle.world_base.specs.declared.world.World.{World}
use Rattle.world_base.specs.ClientTurns.{at_first}
use Rattle.world_closing.specs.stands.Stands.{HoldsOpenings}
use Rattle.world_base.specs.Events.{client_plan, target_plan}
use Rattle.world_closing.specs.Rules.{rules_of}
use Rattle.world_closing.specs.Below.{first_tracker, no_leading}
use Rattle.world_closing.specs.Below.{AreRulesInForm}

-- a run of a script, over what was opened
abbrev pub given_by : Script → Job → Opening → Given
given_by s j o = record { script = s; job = j; opening = o }

-- how clients stand before their first turns, where these snapshots are held
abbrev pub first_states : Given → List Snap → List ClientState
first_states g held = map (λ (list : List Command). at_first g.script held (first_tracker g.opening)) g.script.clients

-- the clients of a script, before their first turns: they know which snapshots of earlier runs they may read, as these are held
pub record AreFirst (g : Given) (clients : List ClientNow) : Type 0 where
  pub plans : (n : ℕ) (c : ClientNow) → slice_get clients n ≡ Some c → c.plan ≡ client_plan (rules_of g) n
  pub held : List Snap
  pub states : map state_of clients ≡ first_states g held

-- the stores of targets, in the order of their numbers
abbrev pub stores_of : {S C : Type 0} → List (TargetOf S C) → List S
stores_of targets = map (λ x. x.store) targets

-- each store tells what it keeps
abbrev pub AllTell : {S : Type 0} → (S → Option Durable) → List S → Type 0
AllTell {S} durable stores = (t : ℕ) (s : S) → slice_get stores t ≡ Some s → is_some (durable s) ≡ true

-- a run begins with this world, and what targets hold there is all that the opening stands for
pub record BeginsSo (g : Given) (w : World) : Type 0 where
  pub begins : RunBegins (rules_of g) g.opening w
  pub holds : HoldsOpenings g.opening w

-- ---- what stores tell

-- what a store tells that it keeps; where it tells nothing, nothing is kept
abbrev pub or_empty : Option Durable → Durable
or_empty None = empty_durable 1
or_empty (Some d) = d

-- ---- before the first turns

module _ {S C : Type 0} (durable : S → Option Durable) (state : S → State) where
  -- a target that runs and keeps this, as it is in a world
  abbrev pub target_state : TargetOf S C → Durable → TargetState
  target_state x d = record { durable = d; free = (state x.store).free; opening = (state x.store).opening; life = Running; memory = x.memory }

  abbrev pub state_now : TargetOf S C → TargetState
  state_now x = target_state x (or_empty (durable x.store))

  -- the world of clients and targets, before its first event; all numbers of aggregations are drawn in advance
  abbrev pub first_world : List ClientNow → List (TargetOf S C) → World
  first_world cs xs = record { targets = map state_now xs; clients = map state_of cs; messages = []; asked = []; issued = []; numbers = record { restarts = 0; aggregates = 2 ^ 32 }; lines = [] }

  -- A target that has just opened, whose store runs; nothing is left to settle there, and its ticks begin at the lease. It was opened so seldom that
  -- 2^63 openings more have their numbers.
  pub record HasStarted (g : Given) (t : ℕ) (x : TargetOf S C) : Type 0 where
    pub plan : x.plan ≡ target_plan (rules_of g) t
    pub opened : x.opened ≡ true
    pub running : (state x.store).stopped ≡ false
    pub leader : x.memory.leader ≡ no_leading
    pub waits : x.memory.member.parked ≡ []
    pub makes : x.memory.collecting ≡ []
    pub ticks : (d : Durable) → durable x.store ≡ Some d → x.memory.ticks ≡ d.lease
    pub seldom : (d : Durable) → durable x.store ≡ Some d → d.incarnation ≤ 2 ^ 63 + 1

  -- The clients and the targets of a run of a script in form, for some targets, before their first turns; where stores tell what they keep, a run
  -- begins with their world.
  pub record HaveStarted (g : Given) (clients : List ClientNow) (targets : List (TargetOf S C)) : Type 0 where
    pub form : AreRulesInForm (rules_of g)
    pub those : AreFirst g clients
    pub many : length targets ≡ g.script.targets
    pub each : (t : ℕ) (x : TargetOf S C) → slice_get targets t ≡ Some x → HasStarted g t x
    pub so : AllTell durable (stores_of targets) → BeginsSo g (first_world clients targets)
