-- What becomes of the entries of a log, and of the versions below an akey.
use Rattle.std.specs.Prelude.{◌&&◌, ℕ, Bool, true, false, not, List, if◌then◌else◌}
use Rattle.base_types.specs.declared.id.AttemptId.{AttemptId}
use Rattle.vos_values.specs.declared.keys.ExtentKey.{ExtentKey}
use Rattle.vos_values.specs.declared.keys.Moment.{Moment}
use Rattle.vos_levels.specs.declared.change.Change.{Change}
use Rattle.vos_levels.specs.Changes.{changed_by, freed_by, keeps, takes}
use Rattle.vos_levels.specs.Changes as changes
use Rattle.vos_ilog.specs.declared.ilog.LogEntry.{LogEntry}
use Rattle.vos_ilog.specs.Logs.{done_entry, is_at, one_block}
use Rattle.vos_path.specs.vos_single.declared.single.SingleVersion.{SingleVersion}
use Rattle.vos_path.specs.vos_single.Singles as single
use Rattle.vos_path.specs.vos_extent.declared.extent.ExtentVersion.{ExtentVersion}
use Rattle.vos_path.specs.vos_extent.Extents as extent
use Rattle.vos_settle.specs.declared.task.Task.{Task}
use Rattle.vos_settle.specs.declared.task.Which.{Which}
use Rattle.vos_settle.specs.declared.task.Which.TheVariants.{Punch, Creation}
use Rattle.vos_settle.specs.declared.task.WriteKind.{WriteKind}
use Rattle.vos_settle.specs.declared.task.WriteKind.TheVariants as kind

abbrev pub same_attempt : AttemptId → AttemptId → Bool
same_attempt a b = changes.same_attempt a b

-- ---- a log

-- an entry is a punch, or a creation of an attempt
abbrev pub is_wanted : Which → Bool → AttemptId → Bool
is_wanted Punch punch by = punch
is_wanted (Creation a) punch by = not punch && same_attempt by a

-- a change takes the entry of a moment, where it is such a one
abbrev pub is_taken : Which → Change → Moment → LogEntry → Bool
is_taken w c m e = is_at m e && (is_wanted w e.punch e.by && takes c e.by e.done)

-- the entries after that, and the blocks that it gives back
abbrev pub log_after : Which → Change → Moment → List LogEntry → List LogEntry
log_after w c m es = changed_by (keeps c) (is_taken w c m) done_entry es

abbrev pub log_freed : Which → Change → Moment → List LogEntry → ℕ
log_freed w c m es = freed_by (keeps c) (is_taken w c m) one_block es

-- ---- the log that a write stands in, or that has its creation

abbrev pub which_of : WriteKind → AttemptId → Which
which_of kind.Punch by = Punch
which_of kind.Single by = Creation by
which_of (kind.Extent low) by = Creation by

-- a punch of the log's own path
abbrev pub punched_after : Task → List LogEntry → List LogEntry
punched_after t es = log_after Punch t.change t.at es

abbrev pub punched_freed : Task → List LogEntry → ℕ
punched_freed t es = log_freed Punch t.change t.at es

-- a write below the log's path: an update has a creation here, and a punch none
abbrev pub is_update : WriteKind → Bool
is_update kind.Punch = false
is_update kind.Single = true
is_update (kind.Extent low) = true

abbrev pub noted_after : Task → List LogEntry → List LogEntry
noted_after t es = if is_update t.kind then log_after (Creation t.by) t.change t.at es else es

abbrev pub noted_freed : Task → List LogEntry → ℕ
noted_freed t es = if is_update t.kind then log_freed (Creation t.by) t.change t.at es else 0

-- ---- the versions below an akey

abbrev pub place_at : Moment → ℕ → ExtentKey
place_at m low = record { low = low; epoch = m.epoch; minor = m.minor }

abbrev pub singles_by : WriteKind → Task → List SingleVersion → List SingleVersion
singles_by kind.Punch t vs = vs
singles_by kind.Single t vs = changed_by (keeps t.change) (single.is_taken t.change t.at) single.done_version vs
singles_by (kind.Extent low) t vs = vs

abbrev pub singles_after : Task → List SingleVersion → List SingleVersion
singles_after t vs = singles_by t.kind t vs

abbrev pub extents_by : WriteKind → Task → List ExtentVersion → List ExtentVersion
extents_by kind.Punch t vs = vs
extents_by kind.Single t vs = vs
extents_by (kind.Extent low) t vs = changed_by (keeps t.change) (extent.is_taken t.change (place_at t.at low)) extent.done_extent vs

abbrev pub extents_after : Task → List ExtentVersion → List ExtentVersion
extents_after t vs = extents_by t.kind t vs
