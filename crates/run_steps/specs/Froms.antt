-- The actors of a run from a beginning that its caller names.
use Rattle.std.specs.Prelude.{ℕ, ◌≡◌, List, length, slice_get, Option, Some}
use Rattle.base_types.specs.declared.script.StopDecl.{StopDecl}
use Rattle.daos_model.specs.declared.durable.Durable.{Durable}
use Rattle.daos_model.specs.Opening.{Opening}
use Rattle.run_laws.specs.shows.Accounts.{AreAccounted, AreServed}
use Rattle.run_laws.specs.shows.Beginning.{RunBegins}
use Rattle.run_laws.specs.shows.CanGo.{CanGo}
use Rattle.run_laws.specs.shows.Ends.{TellsOn}
use Rattle.run_laws.specs.shows.Shows.{IsReached}
use Rattle.run_laws.specs.shows.Stages.{AreFound, StageNow}
use Rattle.run_laws.specs.steps.Going.{AllTell}
use Rattle.vos_store.specs.Calls.{State}
use Rattle.world_base.specs.declared.target.TargetState.{TargetState}
use Rattle.world_base.specs.declared.world.World.{World}
use Rattle.world_base.specs.Ended.{HasEnded}
use Rattle.world_base.specs.Events.{Rules}
use Rattle.world_base.specs.Stops.{WorldRun}

-- A run from this world has come to one of so many targets that keep this.
pub record HasComeTo (r : Rules) (first : World) (n : ℕ) (found : ℕ → Durable) : Type 0 where
  pub last : World
  pub run : WorldRun r first last
  pub many : length last.targets ≡ n
  pub keeps : (t : ℕ) (s : TargetState) → slice_get last.targets t ≡ Some s → s.durable ≡ found t

module _ {S C : Type 0} (durable : S → Option Durable) (state : S → State) (may : S → Durable → Type 0) where
  -- These actors are those of a run by these rules, with this opening, from this world. Stores tell what they keep; and whatever those of targets
  -- that don't run would be found with, a run from that world has reached one that the actors show.
  pub record IsFrom (r : Rules) (o : Opening) (first : World) (a : StageNow S C) : Type 0 where
    pub begins : RunBegins r o first
    pub told : AllTell durable
    pub reached : (found : ℕ → Durable) → AreFound may a found → IsReached durable state may r first found a

  -- a run from this world has reached one that the actors show, and has ended there
  pub record HasEndedFrom (r : Rules) (first : World) (found : ℕ → Durable) (a : StageNow S C) : Type 0 where
    pub reached : IsReached durable state may r first found a
    pub ended : HasEnded r reached.now

  -- What a turn keeps, whatever stores tell: the actors can go on, as many clients are there, and stores and clocks are those from before, after
  -- some calls. It is still accounted for how often targets stopped; and lines still tell of commands in turn, of answers that fit, and of
  -- attempts that end well.
  pub record KeepsGoing (is_read : C → C → Type 0) (a b : StageNow S C) : Type 0 where
    pub can : CanGo durable state may b
    pub clients : length b.clients ≡ length a.clients
    pub served : AreServed durable state is_read a.targets b.targets
    pub accounts : (h : ℕ → State) (stops : List StopDecl) → AreAccounted durable state h stops a → AreAccounted durable state h stops b
    pub tells : (r : Rules) → TellsOn r a b
