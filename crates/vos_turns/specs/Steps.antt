-- The two halves of a turn: versions, and an entry.
use Rattle.std.specs.Prelude.{◌≡◌, ◌≤◌, ◌+◌, ◌*◌, ℕ, List, filter, length, if◌then◌else◌}
use Rattle.base_types.specs.declared.id.AttemptId.{AttemptId}
use Rattle.daos_model.specs.declared.durable.Version.{Version}
use Rattle.pmem_pages.specs.Blocks.{Blocks, Budget}
use Rattle.pmem_pages.specs.Owners.{Changed}
use Rattle.vos_entries.specs.Entries.{Entries, entries_owner}
use Rattle.vos_fitting.specs.Fitting.{ListNothing, StillFit}
use Rattle.vos_fitting.specs.vos_image.Content.{Content}
use Rattle.vos_fitting.specs.vos_image.Fits.{AllFit}
use Rattle.vos_levels.specs.declared.change.Change.{Change}
use Rattle.vos_levels.specs.Changes.{keeps}
use Rattle.vos_levels.specs.Levels.{hung_root}
use Rattle.vos_fitting.specs.vos_path.Objects.{Objects, objects_owner, objects_versions}
use Rattle.vos_fitting.specs.vos_path.Writes.{IsSmall, ObjectsAreSmall}
use Rattle.vos_fitting.specs.vos_settle.Costs.{Spends}
use Rattle.vos_small.specs.Small.{most_digits}
use Rattle.vos_turns.specs.declared.entries.EntryStep.{EntryStep}
use Rattle.vos_turns.specs.Turns.{IsStepped, StepMayStand, after_each, takes_version}

-- what one version stages at most: its own value and its creations' where it stays
abbrev pub cost_of : Change → ℕ
cost_of c = if keeps c then 4 else 631

-- The versions that a change takes were changed. What fits the layout still does, so much was staged at most, and no block was taken. Each
-- version that went gave back a block at least.
pub record VersionsTurn (c : Change) (us : List Version) (m : Blocks) (g : Objects) (b : Budget) (n : Blocks) (at : ℕ) (d : Budget) : Type 0 where
  pub now : Objects
  pub changed : Changed objects_owner m g n now
  pub root_is : at ≡ hung_root now
  pub versions : objects_versions now ≡ after_each c us (objects_versions g)
  pub small : ObjectsAreSmall most_digits now
  pub fits : (k : Content) (e : Entries) → ListNothing e → AllFit k g e → AllFit k now e
  pub spent : Spends (cost_of c * length (filter (takes_version c) us)) b d
  pub free : b.free ≤ d.free
  pub gives : b.free + length (objects_versions g) ≤ d.free + length (objects_versions now)

-- entries in a small tree, which list nothing
pub record StandsUnlisted (e : Entries) : Type 0 where
  pub nothing : ListNothing e
  pub small : IsSmall most_digits e

-- The entry of an attempt stepped on. What fits the layout still does, and no entry lists nodes.
pub record EntryTurn (s : EntryStep) (a : AttemptId) (m : Blocks) (e : Entries) (n : Blocks) (at : ℕ) : Type 0 where
  pub now : Entries
  pub changed : Changed entries_owner m e n now
  pub root_is : at ≡ hung_root now
  pub stepped : IsStepped s a e now
  pub fits : (k : Content) (g : Objects) → StepMayStand s k → AllFit k g e → StillFit k g now
