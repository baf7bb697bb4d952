-- What opening a region comes to.
use Rattle.std.specs.Prelude.{◌≡◌, ◌≢◌, ◌⊎◌, ◌≤◌, ℕ, Bool, false, true, IsTrue, List, map, Ok, Some}
use Rattle.base_outside.specs.Causes.{Rose}
use Rattle.base_outside.specs.Images.{Image, NoMore, all_over}
use Rattle.daos_model.specs.declared.durable.Durable.{Durable}
use Rattle.daos_model.specs.Durables.{empty_durable}
use Rattle.pmem_undo.specs.Settled.{StandsFor, settled}
use Rattle.pmem_undo.specs.Undo.{UndoState}
use Rattle.pmem_undo.specs.declared.opening.UndoCause.{UndoCause}
use Rattle.pmem_undo.specs.declared.opening.UndoCause.TheVariants as undo
use Rattle.vos_check_base.specs.declared.refusal.CheckNo.{CheckNo}
use Rattle.vos_check_base.specs.declared.refusal.CheckNo.TheVariants as check
use Rattle.vos_check_region.specs.Blank.{IsBlank}
use Rattle.vos_commits.specs.Kept.{kept_in}
use Rattle.vos_fresh.specs.Fresh.{IsFresh}
use Rattle.vos_pool_base.specs.Pool.{OpenedState, kept_of}
use Rattle.vos_pool_base.specs.vos_image.Kept.{Stored, Whole, kept, read_content}
use Rattle.vos_pool_base.specs.vos_places.Tables.{Table}
use Rattle.vos_pool_base.specs.vos_standing.Standing.{Stand}
use Rattle.vos_pool_make.specs.Attached.{IsAttached}
use Rattle.vos_pool_make.specs.Format.{fresh_ranges}
use Rattle.vos_pool_make.specs.declared.cause.OpenCause.{OpenCause}
use Rattle.vos_pool_make.specs.declared.cause.OpenCause.TheVariants as cause
use Rattle.vos_levels.specs.Levels.{things}
use Rattle.vos_pool_open.specs.Looks.{IsImageFault}
use Rattle.vos_pool_open.specs.vos_check_content.Region.{region_content}
use Rattle.vos_pool_open.specs.vos_check_content.declared.content.ContentFound.{ContentFound}
use Rattle.vos_pool_open.specs.vos_check_entries.Rows.{entry_row}
use Rattle.vos_pool_open.specs.vos_check_entries.declared.entry.EntryRow.{EntryRow}
use Rattle.vos_pool_open.specs.vos_check_places.Fixed.{table_of}

-- What a region stands for when it is opened: where it is blank, nothing, in the first incarnation; else what its content keeps once its log
-- was rolled back.
pub record RegionKeeps (target size : ℕ) (f : Image) (d : Durable) : Type 0 where
  pub blank : IsBlank size f → d ≡ empty_durable 1
  pub written : (IsBlank size f → ⊥) → d ≡ kept_in (kept target size) size f

-- this stands in a pool, with these entries
pub record StandsWith (target size : ℕ) (f : Image) (t : Table) (rows : List EntryRow) : Type 0 where
  pub stored : Stored
  pub stands : Stand target size f t stored
  pub entries : rows ≡ map entry_row (things stored.1)

-- The region became a pool of that target, of so many, which keeps what the region stood for. These entries were found in it. What is read of it then is
-- what a pool writes first over zeros, or what was there once its log was rolled back.
pub record IsMade {R : Type 0} (tells : Bool) (extent count burns : R → ℕ) (image : R → Image) (target targets : ℕ) (region : R) (p : OpenedState R) (rows : List EntryRow) : Type 0 where
  pub size : extent p.blocks.undo.region ≡ extent region
  pub later_faults : count region ≤ count p.blocks.undo.region
  pub later_burns : burns region ≤ burns p.blocks.undo.region
  pub going : p.blocks.undo.stopped ≡ false
  pub target_is : p.table.header.target ≡ target
  pub targets_are : p.table.header.targets ≡ targets
  pub keeps : IsTrue tells → (d : Durable) → kept_of tells extent image p ≡ Some d → RegionKeeps target (extent region) (image region) d
  pub stands : IsTrue tells → StandsWith target (extent p.blocks.undo.region) (image p.blocks.undo.region) p.table rows
  pub fresh : IsTrue tells → IsBlank (extent region) (image region) → IsFresh (extent region) target targets (region_content (extent region) (image p.blocks.undo.region))
  pub rolled : IsTrue tells → (IsBlank (extent region) (image region) → ⊥) → image p.blocks.undo.region ≡ settled (extent region) (image region)

-- its content is of the layout, and was made for so many targets
pub record IsMadeFor (target size : ℕ) (f : Image) (found : ℕ) : Type 0 where
  pub whole : Whole
  pub read : read_content target size (region_content size (settled size f)) ≡ Ok whole
  pub targets : whole.places.header.targets ≡ found

-- why a region isn't opened: a byte is foreign, or it was made for another number of targets; or no answer was found
abbrev pub IsRefused : ℕ → ℕ → ℕ → Image → OpenCause → Type 0
IsRefused target targets size f (cause.Foreign at byte) = IsImageFault target size f (check.Foreign at byte)
IsRefused target targets size f (cause.Shape found asked) = (IsBlank size f → ⊥) × (IsMadeFor target size f found × ((asked ≡ targets) × (found ≢ targets)))
IsRefused target targets size f cause.Stopped = Unit {0}
IsRefused target targets size f cause.Memory = Unit {0}

-- why, by the check of a region, and by its undo log
abbrev pub cause_of_check : CheckNo → OpenCause
cause_of_check check.Stopped = cause.Stopped
cause_of_check check.Memory = cause.Memory
cause_of_check (check.Foreign at byte) = cause.Foreign at byte

abbrev pub cause_of_undo : UndoCause → OpenCause
cause_of_undo undo.Stopped = cause.Stopped
cause_of_undo undo.Memory = cause.Memory

-- it has stopped
abbrev pub has_stopped : OpenCause → Bool
has_stopped cause.Stopped = true
has_stopped cause.Memory = false
has_stopped (cause.Foreign at byte) = false
has_stopped (cause.Shape found asked) = false

-- The region is handed back; it is said to have stopped only where a count rose.
pub record IsHandedOver {R : Type 0} (extent count burns : R → ℕ) (region back : R) (why : OpenCause) : Type 0 where
  pub size : extent back ≡ extent region
  pub later_faults : count region ≤ count back
  pub later_burns : burns region ≤ burns back
  pub stopped : has_stopped why ≡ true → Rose (count region) (count back) ⊎ Rose (burns region) (burns back)

-- Whatever may be left of it then could be left before, or stands for the same content, or for what formatting makes of zeros.
abbrev pub LeavesUnopened : {R : Type 0} → (R → ℕ) → (R → Image) → (R → Image → Type 0) → ℕ → ℕ → R → R → Type 0
LeavesUnopened extent image may_leave target targets old new =
    (c : Image) → may_leave new c → may_leave old c ⊎ (StandsFor (extent old) (settled (extent old) (image old)) c
    ⊎ (IsBlank (extent old) (image old) × StandsFor (extent old) (all_over (fresh_ranges (extent old) target targets) (image old)) c))

-- ---- a region whose content was checked

-- it became a pool of so many targets
pub record IsFoundMade {R : Type 0} (tells : Bool) (extent count burns : R → ℕ) (image : R → Image) (may_leave : R → Image → Type 0) (target targets : ℕ) (u : UndoState R) (x : ContentFound) (p : OpenedState R) : Type 0 where
  pub attached : IsAttached tells extent count burns image may_leave target u x p
  pub targets_are : (table_of x.fixed).header.targets ≡ targets

-- why it didn't: it was made for another number of targets, or it has stopped
abbrev pub IsFoundRefused : ℕ → ContentFound → OpenCause → Type 0
IsFoundRefused targets x cause.Stopped = Unit {0}
IsFoundRefused targets x cause.Memory = ⊥
IsFoundRefused targets x (cause.Foreign at byte) = ⊥
IsFoundRefused targets x (cause.Shape found asked) = (found ≡ (table_of x.fixed).header.targets) × ((asked ≡ targets) × (found ≢ targets))

-- the region is handed back, no more may be left of it, and it is said to have stopped only where a count rose
pub record IsFoundBack {R : Type 0} (tells : Bool) (extent count burns : R → ℕ) (may_leave : R → Image → Type 0) (u : UndoState R) (back : R) (why : OpenCause) : Type 0 where
  pub size : extent back ≡ extent u.region
  pub later_faults : count u.region ≤ count back
  pub later_burns : burns u.region ≤ burns back
  pub stopped : has_stopped why ≡ true → Rose (count u.region) (count back) ⊎ Rose (burns u.region) (burns back)
  pub left : IsTrue tells → NoMore (may_leave u.region) (may_leave back)
