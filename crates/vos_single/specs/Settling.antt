-- Versions of a single value that are settled or pruned by their moments.
use Rattle.std.specs.Prelude.{◌&&◌, ℕ, Bool, not, List, Option}
use Rattle.base_types.specs.declared.entry.Settle.{Settle}
use Rattle.base_types.specs.declared.id.AttemptId.{AttemptId}
use Rattle.pmem_pages.specs.Blocks.{Blocks, Budget}
use Rattle.vos_values.specs.declared.keys.Moment.{Moment}
use Rattle.vos_values.specs.declared.values.VersionMark.{VersionMark}
use Rattle.vos_moments.specs.vos_levels.declared.change.Change.{Change}
use Rattle.vos_moments.specs.vos_levels.Changes.{changed_by, freed_by, keeps, same_attempt, sum_those, takes}
use Rattle.vos_moments.specs.vos_levels.Levels.{without_those}
use Rattle.vos_moments.specs.vos_punches.Moments.{has_moment}
use Rattle.vos_moments.specs.Steps.{change_of}
use Rattle.vos_moments.specs.Taking.{Took, takes_one}
use Rattle.vos_single.specs.declared.single.SingleVersion.{SingleVersion}
use Rattle.vos_single.specs.Singles.{Singles, blocks_of_version, done_version, single_owner, versions}

-- when a version was written
abbrev pub moment_of_version : SingleVersion → Moment
moment_of_version v = record { epoch = v.epoch; minor = v.minor }

-- the unsettled versions of an attempt, of some moments
abbrev pub is_settled_at : AttemptId → List Moment → SingleVersion → Bool
is_settled_at a ms v = has_moment (moment_of_version v) ms && (same_attempt v.by a && not v.done)

-- the versions after these were settled: done, or gone; and the blocks of those that went
abbrev pub settled_at : AttemptId → List Moment → Settle → List SingleVersion → List SingleVersion
settled_at a ms s vs = changed_by (keeps (change_of a s)) (is_settled_at a ms) done_version vs

abbrev pub settled_freed : AttemptId → List Moment → Settle → List SingleVersion → ℕ
settled_freed a ms s vs = freed_by (keeps (change_of a s)) (is_settled_at a ms) blocks_of_version vs

-- the done versions of some moments
abbrev pub is_pruned_at : List Moment → SingleVersion → Bool
is_pruned_at ms v = has_moment (moment_of_version v) ms && v.done

abbrev pub pruned_at : List Moment → List SingleVersion → List SingleVersion
pruned_at ms vs = without_those (is_pruned_at ms) vs

abbrev pub pruned_freed : List Moment → List SingleVersion → ℕ
pruned_freed ms vs = sum_those (is_pruned_at ms) blocks_of_version vs

-- those that a change takes, of some moments
abbrev pub is_taken_at : Change → List Moment → SingleVersion → Bool
is_taken_at c ms v = has_moment (moment_of_version v) ms && takes c v.by v.done

-- those that pass a test were settled or pruned by a change
abbrev pub TookVersions : Change → (SingleVersion → Bool) → Blocks → Singles → Budget → Blocks → ℕ → Budget → Type 0
TookVersions c taken m g before n at after = Took single_owner versions (keeps c) taken done_version blocks_of_version 5 m g before n at after

-- what a change takes by what a version says
abbrev pub takes_mark : Change → Option VersionMark → Bool
takes_mark c o = takes_one (λ k. takes c k.by k.done) o
