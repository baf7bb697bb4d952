-- The actors of a run in which targets may stop, and what lies between them.
use Rattle.std.specs.Prelude.{ℕ, ◌≡◌, List, slice_get, Some}
use Rattle.client_core.specs.Clients.{ClientNow}
use Rattle.daos_model.specs.declared.durable.Durable.{Durable}
use Rattle.run_base.specs.Letters.{BetweenNow}
use Rattle.run_watch.specs.Watches.{WatchNow}
use Rattle.target_core.specs.Targets.{TargetOf}
use Rattle.world_base.specs.declared.target.Life.{Life}
use Rattle.world_base.specs.declared.target.Life.TheVariants.{Running}

-- the clients and the targets, each in the order of their numbers, how the targets stand, and what lies between all of them
pub record StageNow (S C : Type 0) : Type 0 where
  pub clients : List ClientNow
  pub targets : List (TargetOf S C)
  pub watch : WatchNow
  pub between : BetweenNow

-- a target is there, and stands so
pub record IsPlace {S C : Type 0} (a : StageNow S C) (t : ℕ) (x : TargetOf S C) (life : Life) : Type 0 where
  pub there : slice_get a.targets t ≡ Some x
  pub stands : slice_get a.watch.lives t ≡ Some life

-- A choice of what each store would be found with: of those that don't run, one of what their next openings may find.
abbrev pub AreFound : {S C : Type 0} → (S → Durable → Type 0) → StageNow S C → (ℕ → Durable) → Type 0
AreFound {S} {C} may a found = (t : ℕ) (x : TargetOf S C) (life : Life) → IsPlace a t x life → (life ≡ Running → ⊥) → may x.store (found t)
