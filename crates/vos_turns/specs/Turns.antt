-- What versions that a change takes come to, with the entry of an attempt.
use Rattle.std.specs.Prelude.{◌≡◌, ◌≤◌, ◌<◌, ◌⊎◌, ℕ, Bool, true, List, [], ◌∷◌, filter, length, if◌then◌else◌}
use Rattle.base_types.specs.declared.id.AttemptId.{AttemptId}
use Rattle.base_types.specs.Operations.{write_path}
use Rattle.daos_model.specs.declared.durable.Version.{Version}
use Rattle.pmem_pages.specs.Blocks.{Blocks}
use Rattle.pmem_pages.specs.Owners.{Changed, Holds}
use Rattle.vos_entries.specs.Entries.{Entries, IsCommittedAt, IsConfirmedAt, IsGoneAt, listings}
use Rattle.vos_fitting.specs.Fitting.{ListNothing, StillFit}
use Rattle.vos_fitting.specs.vos_image.Content.{Content}
use Rattle.vos_fitting.specs.vos_image.Fits.{AllFit}
use Rattle.vos_fitting.specs.vos_image.Kept.{Stored, stored_owner}
use Rattle.vos_levels.specs.declared.change.Change.{Change}
use Rattle.vos_levels.specs.Changes.{keeps, takes}
use Rattle.vos_levels.specs.Levels.{hung_root}
use Rattle.vos_fitting.specs.vos_path.Objects.{objects_versions}
use Rattle.vos_fitting.specs.vos_settle.declared.task.Task.{Task}
use Rattle.vos_fitting.specs.vos_settle.Names.{IsNamed, kind_of, name_of}
use Rattle.vos_fitting.specs.vos_settle.Versions.{versions_after}
use Rattle.vos_small.specs.Small.{AllSmall}
use Rattle.vos_turns.specs.declared.entries.EntryStep.{EntryStep}
use Rattle.vos_turns.specs.declared.entries.EntryStep.TheVariants as step

-- ---- versions

abbrev pub takes_version : Change → Version → Bool
takes_version c v = takes c v.by v.done

-- the change of the write of a version, with the creations of the same attempt
abbrev pub task_of : Change → Version → Task
task_of c v = record { kind = kind_of v.write; at = record { epoch = v.epoch; minor = v.minor }; by = v.by; change = c }

abbrev pub after_one : Change → Version → List Version → List Version
after_one c u vs = versions_after (task_of c u) (write_path u.write) vs

-- the versions after each of some, where the change takes it, was changed, one after another
abbrev pub after_each : Change → List Version → List Version → List Version
after_each c [] vs = vs
after_each c (u ∷ us) vs = after_each c us (if takes_version c u then after_one c u vs else vs)

-- a version can be named
abbrev pub CanBeNamed : Version → Type 0
CanBeNamed v = IsNamed (name_of v)

-- so many versions can be committed at once
abbrev pub most_at_once : ℕ
most_at_once = 64

-- so few are changed at once: as many as that where they stay, and one where it goes
pub record AreFew (c : Change) (us : List Version) : Type 0 where
  pub few : (keeps c ≡ true) ⊎ (length (filter (takes_version c) us) ≤ 1)
  pub most : length (filter (takes_version c) us) ≤ most_at_once

-- ---- an entry

-- the entry of an attempt stays, became committed, was confirmed by one more member, or went
abbrev pub IsStepped : EntryStep → AttemptId → Entries → Entries → Type 0
IsStepped step.Keep a e f = f ≡ e
IsStepped step.Commit a e f = IsCommittedAt a (listings e) (listings f)
IsStepped (step.Confirm t) a e f = IsConfirmedAt a t (listings e) (listings f)
IsStepped step.Remove a e f = IsGoneAt a (listings e) (listings f)

-- a step can be asked for
abbrev pub IsEntryStep : EntryStep → Type 0
IsEntryStep step.Keep = Unit {0}
IsEntryStep step.Commit = Unit {0}
IsEntryStep (step.Confirm t) = t < 64
IsEntryStep step.Remove = Unit {0}

-- and may be taken where a content has so many targets
abbrev pub StepMayStand : EntryStep → Content → Type 0
StepMayStand step.Keep c = Unit {0}
StepMayStand step.Commit c = Unit {0}
StepMayStand (step.Confirm t) c = t < c.targets
StepMayStand step.Remove c = Unit {0}

-- ---- both

-- the versions that a change takes were changed, and the entry of an attempt stepped on
pub record IsTurned (c : Change) (us : List Version) (a : AttemptId) (s : EntryStep) (x y : Stored) : Type 0 where
  pub versions : objects_versions y.0 ≡ after_each c us (objects_versions x.0)
  pub entries : IsStepped s a x.1 y.1

-- Something became another, to which these roots lead, and no other block changed. What fits the layout still does, and no entry lists
-- nodes.
pub record TurnsTo (c : Change) (us : List Version) (a : AttemptId) (s : EntryStep) (m : Blocks) (x : Stored) (n : Blocks) (objects entries : ℕ) : Type 0 where
  pub now : Stored
  pub changed : Changed stored_owner m x n now
  pub objects_root : objects ≡ hung_root now.0
  pub entries_root : entries ≡ hung_root now.1
  pub turned : IsTurned c us a s x now
  pub fits : (k : Content) → StepMayStand s k → AllFit k x.0 x.1 → StillFit k now.0 now.1

-- something stands below two roots, in trees that are small, and no entry lists nodes
pub record StandsBelow (m : Blocks) (objects entries : ℕ) (x : Stored) : Type 0 where
  pub holds : Holds stored_owner m x
  pub objects_root : objects ≡ hung_root x.0
  pub entries_root : entries ≡ hung_root x.1
  pub nothing : ListNothing x.1
  pub small : AllSmall x
