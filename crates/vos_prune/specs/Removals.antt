-- What is left of objects where a write that is done was taken out.
use Rattle.std.specs.Prelude.{◌≡◌, ℕ, List, Option, Some, None}
use Rattle.base_types.specs.declared.id.AttemptId.{AttemptId}
use Rattle.base_types.specs.declared.path.Path.{Path}
use Rattle.daos_model.specs.declared.durable.Version.{Version}
use Rattle.pmem_pages.specs.Blocks.{Blocks}
use Rattle.vos_values.specs.declared.keys.Moment.{Moment}
use Rattle.vos_levels.specs.declared.change.Change.TheVariants.{Prune}
use Rattle.vos_levels.specs.Changes.{sum_those}
use Rattle.vos_levels.specs.Levels.{hung_root}
use Rattle.vos_path.specs.Objects.{Objects}
use Rattle.vos_settle.specs.declared.task.Task.{Task}
use Rattle.vos_settle.specs.declared.task.WriteKind.{WriteKind}
use Rattle.vos_settle.specs.Versions.{WriteTurn, version_blocks, write_freed}
use Rattle.vos_prune.specs.Writers.{is_done_of}

-- a write is pruned, with the done creations of an attempt
abbrev pub pruning : WriteKind → Moment → AttemptId → Task
pruning k m by = record { kind = k; at = m; by = by; change = Prune }

-- nothing changed
pub record Same (m : Blocks) (g : Objects) (n : Blocks) (at : ℕ) : Type 0 where
  pub blocks : n ≡ m
  pub root_is : at ≡ hung_root g

-- the done version of a write, if there is one, went, and with it the done creations of its attempt
abbrev pub Removed : Option AttemptId → WriteKind → Moment → Path → Blocks → Objects → Blocks → ℕ → Type 0
Removed None k at p m g n root = Same m g n root
Removed (Some by) k at p m g n root = WriteTurn (pruning k at by) p m g n root

-- the blocks that this gives back, and among them those of the version
abbrev pub removed_freed : Option AttemptId → WriteKind → Moment → Path → Objects → ℕ
removed_freed None k at p g = 0
removed_freed (Some by) k at p g = write_freed (pruning k at by) p g

abbrev pub done_blocks : Path → WriteKind → Moment → List Version → ℕ
done_blocks p k at vs = sum_those (is_done_of p k at) version_blocks vs
