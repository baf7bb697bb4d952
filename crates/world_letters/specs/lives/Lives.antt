-- What the lines of a run tell of its targets: which of them run, are stopped, or are given up, with which incarnations and floors they
-- opened again, and that stops, restarts and aggregations have their numbers.
use Rattle.std.specs.Prelude.{ℕ, ◌≡◌, ◌≤◌, nat_eq, List, All, length, slice_get, Some}
use Rattle.std.specs.List.{IsDistinct}
use Rattle.std.specs.List.Sorted.{IsNonDecreasing, IsStrictlyIncreasing}
use Rattle.base_types.specs.Epochs.{restart_floor}
use Rattle.base_types.specs.declared.report.Line.{Line}
use Rattle.daos_model.specs.Stops as told
use Rattle.daos_model.specs.Stops.{AreCounted, HasTarget, Standing, after_all, aggregate_numbers, floors, incarnations, lines_at, restart_numbers, stop_numbers}
use Rattle.world_base.specs.declared.target.Life.{Life}
use Rattle.world_base.specs.declared.target.Life.TheVariants as life
use Rattle.world_base.specs.declared.target.TargetState.{TargetState}
use Rattle.world_base.specs.declared.world.World.{World}
use Rattle.world_base.specs.Stops.{IsBelowNumbers}

-- how a target stands
abbrev pub standing_of : Life → Standing
standing_of life.Running = told.Running
standing_of life.Stopped = told.Stopped
standing_of life.Down = told.Down

-- What the lines tell of a target fits it. After its last line it stands as it does. Whenever it opened again, it was with a higher
-- incarnation than before, and with a floor no lower: neither was above its incarnation, and above the floor that its next opening sets.
pub record TellsOf (lines : List Line) (t : ℕ) (s : TargetState) : Type 0 where
  pub stands : after_all (Some told.Running) (lines_at t lines) ≡ Some (standing_of s.life)
  pub rising : IsStrictlyIncreasing (incarnations (lines_at t lines))
  pub opened : All (λ n. n ≤ s.durable.incarnation) (incarnations (lines_at t lines))
  pub kept : IsNonDecreasing (floors (lines_at t lines))
  pub covered : All (λ f. f ≤ restart_floor s.durable.lease) (floors (lines_at t lines))

-- Of every target of a world. Each line of a target is of one that is there; a stop's number is the count of the stops before it; no two
-- restarts have one number, nor two aggregations; and each number was drawn.
pub record Lives (w : World) : Type 0 where
  pub told : (t : ℕ) (s : TargetState) → slice_get w.targets t ≡ Some s → TellsOf w.lines t s
  pub bounded : All (HasTarget (length w.targets)) w.lines
  pub stops : AreCounted 0 (stop_numbers w.lines)
  pub restarts : IsDistinct nat_eq (restart_numbers w.lines)
  pub aggregations : IsDistinct nat_eq (aggregate_numbers w.lines)
  pub drawn : All (IsBelowNumbers w.numbers) w.lines
