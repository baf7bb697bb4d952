-- Versions that are settled or pruned by their moments.
use Rattle.std.specs.Prelude.{◌&&◌, ℕ, Bool, true, List, Some, None}
use Rattle.base_types.specs.declared.entry.Settle.{Settle}
use Rattle.base_types.specs.declared.id.AttemptId.{AttemptId}
use Rattle.base_types.specs.declared.path.Path.{Path}
use Rattle.base_types.specs.Operations.{write_path}
use Rattle.base_types.specs.Paths.{leads_to}
use Rattle.daos_model.specs.declared.durable.Version.{Version}
use Rattle.daos_model.specs.Versions.{is_pending}
use Rattle.vos_values.specs.declared.keys.Moment.{Moment}
use Rattle.vos_levels.specs.declared.change.Change.TheVariants.{Prune}
use Rattle.vos_levels.specs.Changes.{changed_by, freed_by, keeps, sum_those}
use Rattle.vos_levels.specs.Levels.{without_those}
use Rattle.vos_punches.specs.Moments.{has_moment}
use Rattle.vos_settle.specs.declared.name.WriteName.{WriteName}
use Rattle.vos_settle.specs.Versions.{done_version, version_blocks}
use Rattle.vos_gather.specs.Wanted.{Want, moment_of_version, names_in}
use Rattle.vos_object.specs.Settling.{change_of}

-- the unsettled versions of an attempt, of some moments
abbrev pub is_settled_at : AttemptId → List Moment → Version → Bool
is_settled_at a ms v = is_pending a v && has_moment (moment_of_version v) ms

-- the versions after these were settled, and the blocks of those that went
abbrev pub settled_at : AttemptId → List Moment → Settle → List Version → List Version
settled_at a ms s vs = changed_by (keeps (change_of a s)) (is_settled_at a ms) done_version vs

abbrev pub settled_freed : AttemptId → List Moment → Settle → List Version → ℕ
settled_freed a ms s vs = freed_by (keeps (change_of a s)) (is_settled_at a ms) version_blocks vs

-- the done versions under a path, of some moments
abbrev pub is_pruned_at : Path → List Moment → Version → Bool
is_pruned_at p ms v = v.done && has_moment (moment_of_version v) ms && leads_to p (write_path v.write)

abbrev pub pruned_at : Path → List Moment → List Version → List Version
pruned_at p ms vs = without_those (is_pruned_at p ms) vs

abbrev pub pruned_freed : Path → List Moment → List Version → ℕ
pruned_freed p ms vs = sum_those (is_pruned_at p ms) version_blocks vs

-- their names, in the order of the versions
abbrev pub settle_want : AttemptId → List Moment → Settle → Want
settle_want a ms s = record { updates = true; change = Some (change_of a s); moments = Some ms; under = None }

abbrev pub settled_names : AttemptId → List Moment → Settle → List Version → List WriteName
settled_names a ms s vs = names_in (settle_want a ms s) vs

abbrev pub prune_want : Path → List Moment → Want
prune_want p ms = record { updates = true; change = Some Prune; moments = Some ms; under = Some p }

abbrev pub pruned_names : Path → List Moment → List Version → List WriteName
pruned_names p ms vs = names_in (prune_want p ms) vs
