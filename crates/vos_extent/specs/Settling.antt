-- Extents that are settled or pruned by their moments.
use Rattle.std.specs.Prelude.{◌&&◌, ℕ, Bool, true, false, not, List, Option, Some, None}
use Rattle.base_types.specs.declared.entry.Settle.{Settle}
use Rattle.base_types.specs.declared.id.AttemptId.{AttemptId}
use Rattle.pmem_pages.specs.Blocks.{Blocks, Budget}
use Rattle.pmem_pages.specs.Node.{key_cmp}
use Rattle.pmem_pages.specs.Shape.{chosen}
use Rattle.pmem_pages.specs.declared.node.TreeKey.{TreeKey}
use Rattle.vos_values.specs.declared.keys.Moment.{Moment}
use Rattle.vos_values.specs.Keys.{extent_key}
use Rattle.vos_moments.specs.vos_levels.declared.change.Change.{Change}
use Rattle.vos_moments.specs.vos_levels.Changes.{changed_by, freed_by, keeps, same_attempt, sum_those, takes}
use Rattle.vos_moments.specs.vos_levels.Levels.{without_those}
use Rattle.vos_moments.specs.vos_punches.Moments.{has_moment}
use Rattle.vos_moments.specs.Steps.{change_of}
use Rattle.vos_moments.specs.Taking.{Took}
use Rattle.vos_extent.specs.declared.extent.ExtentVersion.{ExtentVersion}
use Rattle.vos_extent.specs.declared.pieces.Placed.{Placed}
use Rattle.vos_extent.specs.Extents.{Extents, blocks_of_extent, done_extent, extent_owner, extents, is_taken, place_of}
use Rattle.vos_extent.specs.Looks.{moment_at}
use Rattle.vos_extent.specs.Shown.{moment_of}

-- the unsettled extents of an attempt, of some moments
abbrev pub is_settled_at : AttemptId → List Moment → ExtentVersion → Bool
is_settled_at a ms v = has_moment (moment_of v) ms && (same_attempt v.by a && not v.done)

-- the extents after these were settled: done, or gone; and the blocks of those that went
abbrev pub settled_at : AttemptId → List Moment → Settle → List ExtentVersion → List ExtentVersion
settled_at a ms s vs = changed_by (keeps (change_of a s)) (is_settled_at a ms) done_extent vs

abbrev pub settled_freed : AttemptId → List Moment → Settle → List ExtentVersion → ℕ
settled_freed a ms s vs = freed_by (keeps (change_of a s)) (is_settled_at a ms) blocks_of_extent vs

-- the done extents of some moments
abbrev pub is_pruned_at : List Moment → ExtentVersion → Bool
is_pruned_at ms v = has_moment (moment_of v) ms && v.done

abbrev pub pruned_at : List Moment → List ExtentVersion → List ExtentVersion
pruned_at ms vs = without_those (is_pruned_at ms) vs

abbrev pub pruned_freed : List Moment → List ExtentVersion → ℕ
pruned_freed ms vs = sum_those (is_pruned_at ms) blocks_of_extent vs

-- those that a change takes, of some moments
abbrev pub is_taken_at : Change → List Moment → ExtentVersion → Bool
is_taken_at c ms v = has_moment (moment_of v) ms && takes c v.by v.done

-- those that pass a test were settled or pruned by a change
abbrev pub TookExtents : Change → (ExtentVersion → Bool) → Blocks → Extents → Budget → Blocks → ℕ → Budget → Type 0
TookExtents c taken m g before n at after = Took extent_owner extents (keeps c) taken done_extent blocks_of_extent 5 m g before n at after

-- an extent lies above a key of their tree, or not
abbrev pub is_over : TreeKey → ExtentVersion → Bool
is_over k v = chosen (key_cmp k (extent_key (place_of v))) true false false

abbrev pub is_passed : TreeKey → ExtentVersion → Bool
is_passed k v = chosen (key_cmp k (extent_key (place_of v))) false true true

-- a change takes what the tree says of an extent, whose moment is among some
abbrev pub is_wanted : Change → List Moment → Placed → Bool
is_wanted c ms p = has_moment (moment_at p) ms && takes c p.mark.by p.mark.done

-- of the next extent, that it is taken
abbrev pub is_next_taken : Change → List Moment → Option ExtentVersion → ExtentVersion → Bool
is_next_taken c ms None v = false
is_next_taken c ms (Some w) v = is_taken_at c ms w && is_taken c (place_of w) v
