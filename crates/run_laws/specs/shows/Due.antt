-- Which actors have something to do.
use Rattle.std.specs.Prelude.{ℕ, ◌≡◌, ◌<◌, ◌++◌, Bool, true, false, All, List, filter, length, slice_get, Option, Some, None}
use Rattle.client_core.specs.Clients.{ClientNow}
use Rattle.base_messages.specs.declared.actor.ActorId.{ActorId}
use Rattle.daos_model.specs.declared.durable.Durable.{Durable}
use Rattle.run_base.specs.Picks.{count_to, is_client_due, is_due, numbered}
use Rattle.run_laws.specs.shows.Shows.{Shows}
use Rattle.run_laws.specs.shows.Stages.{StageNow}
use Rattle.vos_store.specs.Calls.{State}
use Rattle.world_base.specs.declared.letter.Letter.{Letter}
use Rattle.world_base.specs.declared.target.Life.{Life}
use Rattle.world_base.specs.declared.target.Life.TheVariants.{Down}
use Rattle.world_base.specs.declared.world.World.{World}
use Rattle.world_base.specs.Events.{Rules}
use Rattle.world_base.specs.Letters.{client, target}

-- the client of this number has something to do
abbrev pub is_due_client : List Letter → ℕ → Option ClientNow → Bool
is_due_client letters n None = false
is_due_client letters n (Some c) = is_client_due c.plan c.state (count_to (client n) letters)

-- one of these actors: a client or a target that is there
pub record IsActor (clients targets : ℕ) (a : ActorId) : Type 0 where
  pub client : a.client ≡ true → a.number < clients
  pub target : a.client ≡ false → a.number < targets

-- an actor isn't a target that was given up
abbrev pub IsUp : List Life → ActorId → Type 0
IsUp lives a = a.client ≡ false → slice_get lives a.number ≡ Some Down → ⊥

-- These are those of some actors that have something to do, in any world that is shown; each of them is there, and none was given up.
pub record AreDue {S C : Type 0} (durable : S → Option Durable) (state : S → State) (settling : Bool) (a : StageNow S C) (some due : List ActorId) : Type 0 where
  pub shown : (r : Rules) (found : ℕ → Durable) (w : World) → Shows durable state r found a w → due ≡ filter (is_due settling r w) some
  pub there : All (IsActor (length a.clients) (length a.targets)) due
  pub up : All (IsUp a.watch.lives) due

-- some clients, and then some targets, each in order of number
abbrev pub first_targets : ℕ → ℕ → List ActorId
first_targets n t = numbered client n ++ numbered target t

-- those of all actors, clients first, that have something to do
abbrev pub AllAreDue : {S C : Type 0} → (S → Option Durable) → (S → State) → Bool → StageNow S C → List ActorId → Type 0
AllAreDue durable state settling a due = AreDue durable state settling a (first_targets (length a.clients) (length a.targets)) due
