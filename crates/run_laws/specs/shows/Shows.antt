-- The actors of a run and what lies between them, as a world that a run has reached.
--
-- What a store keeps that was stopped in the middle of a change is open until it is opened again. So the actors show a world for each choice
-- of what such stores would be found with; and a turn leads, whatever is found after it, from one of the choices before it.
use Rattle.run_laws.specs.turns.Drawn.{AreDrawn}
use Rattle.run_laws.specs.shows.Beginning.{RunBegins}
use Rattle.std.specs.Prelude.{ℕ, ◌≡◌, ◌≤◌, ◌+◌, ◌^◌, false, true, length, map, slice_get, Option, Some}
use Rattle.client_core.specs.Clients.{ClientNow}
use Rattle.daos_model.specs.declared.durable.Durable.{Durable}
use Rattle.daos_model.specs.Opening.{Opening}
use Rattle.run_base.specs.Sweeps.{lives_of}
use Rattle.run_laws.specs.shows.Stages.{AreFound, IsPlace, StageNow}
use Rattle.target_core.specs.Targets.{TargetOf}
use Rattle.vos_store.specs.Calls.{State}
use Rattle.world_base.specs.declared.client.ClientState.{ClientState}
use Rattle.world_base.specs.declared.target.Life.{Life}
use Rattle.world_base.specs.declared.target.Life.TheVariants.{Down, Running, Stopped}
use Rattle.world_base.specs.declared.target.TargetPlan.{TargetPlan}
use Rattle.world_base.specs.declared.target.TargetState.{TargetState}
use Rattle.world_base.specs.declared.world.World.{World}
use Rattle.world_base.specs.Events.{Rules, client_plan, target_plan}
use Rattle.world_base.specs.Stops.{WorldRun, no_memory}

abbrev pub state_of : ClientNow → ClientState
state_of c = c.state

-- a run from its beginning has reached this world, and the numbers of aggregations were drawn for it
pub record WasReached (r : Rules) (w : World) : Type 0 where
  pub opening : Opening
  pub first : World
  pub begins : RunBegins r opening first
  pub run : WorldRun r first w
  pub drawn : AreDrawn w

module _ {S C : Type 0} (durable : S → Option Durable) (state : S → State) where
  -- A target that runs is so in the world: it has opened, its store runs and tells what it keeps.
  pub record IsRunning (x : TargetOf S C) (s : TargetState) : Type 0 where
    pub told : durable x.store ≡ Some s.durable
    pub free : (state x.store).free ≡ s.free
    pub opening : (state x.store).opening ≡ s.opening
    pub opened : x.opened ≡ true
    pub running : (state x.store).stopped ≡ false
    pub knows : x.memory ≡ s.memory

  -- one that is stopped, or was given up, remembers nothing, and keeps there what its store would be found with
  pub record IsResting (found : Durable) (x : TargetOf S C) (s : TargetState) : Type 0 where
    pub keeps : s.durable ≡ found
    pub free : (state x.store).free ≡ s.free
    pub forgot : s.memory ≡ no_memory

  abbrev pub StandsSo : Life → Durable → TargetOf S C → TargetState → Type 0
  StandsSo Running found x s = IsRunning x s
  StandsSo Stopped found x s = IsResting found x s
  StandsSo Down found x s = IsResting found x s

  -- a target of this plan, which stands so, is so in the world
  pub record IsTargetOf (plan : TargetPlan) (life : Life) (found : Durable) (x : TargetOf S C) (s : TargetState) : Type 0 where
    pub made : x.plan ≡ plan
    pub lives : s.life ≡ life
    pub so : StandsSo life found x s

  -- the clients and the targets of a run by these rules, and what lies between them, are those of a world, where stores would be found so
  pub record Shows (r : Rules) (found : ℕ → Durable) (a : StageNow S C) (w : World) : Type 0 where
    pub clients : w.clients ≡ map state_of a.clients
    pub plans : (n : ℕ) (c : ClientNow) → slice_get a.clients n ≡ Some c → c.plan ≡ client_plan r n
    pub many : length w.targets ≡ length a.targets
    pub lives : lives_of w ≡ a.watch.lives
    pub targets : (t : ℕ) (x : TargetOf S C) (life : Life) (s : TargetState) → IsPlace a t x life → slice_get w.targets t ≡ Some s → IsTargetOf (target_plan r t) life (found t) x s
    pub messages : a.between.messages ≡ w.messages
    pub asked : a.between.asked ≡ w.asked
    pub issued : a.between.issued ≡ w.issued
    pub lines : a.between.lines ≡ w.lines
    pub restarts : w.numbers.restarts ≡ a.watch.restarts

  -- a world was led to this one, which the actors show
  pub record IsLed (T : World → World → Type 0) (r : Rules) (found : ℕ → Durable) (w : World) (b : StageNow S C) : Type 0 where
    pub next : World
    pub turn : T w next
    pub shows : Shows r found b next

  module _ (may : S → Durable → Type 0) where
    -- what was to be found before, so that this is found now
    pub record IsFoundFrom (T : World → World → Type 0) (r : Rules) (a b : StageNow S C) (found : ℕ → Durable) : Type 0 where
      pub before : ℕ → Durable
      pub were : AreFound may a before
      pub led : (w : World) → WasReached r w → Shows r before a w → IsLed T r found w b

    -- From each world that a run had reached and the actors showed, something of this kind has led to one that they show now: whatever stores would be found with
    -- now, for one of the choices before it.
    abbrev pub Leads : (World → World → Type 0) → Rules → StageNow S C → StageNow S C → Type 0
    Leads T r a b = (found : ℕ → Durable) → AreFound may b found → IsFoundFrom T r a b found

    -- a run from this world has reached one that the actors show
    pub record IsReached (r : Rules) (first : World) (found : ℕ → Durable) (a : StageNow S C) : Type 0 where
      pub now : World
      pub run : WorldRun r first now
      pub drawn : AreDrawn now
      pub shows : Shows r found a now

    -- what a store keeps, or may be found with, was opened at most so often
    abbrev pub IsCounted : ℕ → TargetOf S C → Life → Type 0
    IsCounted most x Running = (d : Durable) → durable x.store ≡ Some d → d.incarnation ≤ most
    IsCounted most x Stopped = (d : Durable) → may x.store d → d.incarnation ≤ most
    IsCounted most x Down = (d : Durable) → may x.store d → d.incarnation ≤ most

    -- The actors are those of a run that was begun. Stores were opened no more than 2^63 + 1 times before it, and since then as often as openings were tried at most.
    pub record IsGoing (a : StageNow S C) : Type 0 where
      pub rules : Rules
      pub opening : Opening
      pub first : World
      pub begins : RunBegins rules opening first
      pub reached : (found : ℕ → Durable) → AreFound may a found → IsReached rules first found a
      pub counted : (t : ℕ) (x : TargetOf S C) (life : Life) → IsPlace a t x life → IsCounted (2 ^ 63 + 1 + a.watch.openings) x life
