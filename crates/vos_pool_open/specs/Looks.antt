-- What a region is before a pool is opened in it.
use Rattle.std.specs.Prelude.{◌≡◌, ◌⊎◌, ◌≤◌, ℕ, Bool, IsTrue, Some, Err}
use Rattle.base_outside.specs.Images.{Image, NoMore}
use Rattle.pmem_undo.specs.Settled.{settled}
use Rattle.pmem_undo.specs.Undo.{IsUndo, UndoState}
use Rattle.vos_check_content.specs.declared.content.ContentFound.{ContentFound}
use Rattle.vos_check_base.specs.vos_image.Kept.{read_content}
use Rattle.vos_check_base.specs.declared.refusal.CheckNo.{CheckNo}
use Rattle.vos_check_base.specs.declared.refusal.CheckNo.TheVariants.{Stopped, Foreign, Memory}
use Rattle.vos_check_content.specs.Region.{region_content}
use Rattle.vos_check_content.specs.Whole.{IsHeldSomewhere, IsWholeFound}
use Rattle.vos_check_content.specs.vos_check_places.Fixed.{table_of}
use Rattle.vos_check_region.specs.Blank.{IsBlank}
use Rattle.vos_check_region.specs.Fault.{raw_fault}
use Rattle.vos_pool_open.specs.Kept.{IsKeptFrom}
use Rattle.vos_pool_open.specs.declared.look.Looked.{Looked}
use Rattle.vos_pool_open.specs.declared.look.Looked.TheVariants.{Blank, Kept}

-- ---- faults of an image

-- its log isn't well formed, and a byte is shown; or no answer was found
abbrev pub IsRawFault : ℕ → Image → CheckNo → Type 0
IsRawFault size f (Foreign at byte) = (IsBlank size f → ⊥) × ((raw_fault size f ≡ Some at) × (byte ≡ f at))
IsRawFault size f Stopped = Unit {0}
IsRawFault size f Memory = Unit {0}

-- its log is well formed, but its content isn't of the layout once the log was rolled back
pub record IsContentFault (target size : ℕ) (f : Image) (at byte : ℕ) : Type 0 where
  pub read : read_content target size (region_content size (settled size f)) ≡ Err at
  pub shown : byte ≡ region_content size (settled size f) at

-- one of the two, and it isn't blank
abbrev pub IsImageFault : ℕ → ℕ → Image → CheckNo → Type 0
IsImageFault target size f (Foreign at byte) = (IsBlank size f → ⊥) × (((raw_fault size f ≡ Some at) × (byte ≡ f at)) ⊎ IsContentFault target size f at byte)
IsImageFault target size f Stopped = Unit {0}
IsImageFault target size f Memory = Unit {0}

-- ---- what is seen

-- it is blank, and reads alone were made of it
pub record IsBlankStill {R : Type 0} (tells : Bool) (extent count burns : R → ℕ) (image : R → Image) (may_leave : R → Image → Type 0) (region back : R) : Type 0 where
  pub size : extent back ≡ extent region
  pub later_faults : count region ≤ count back
  pub later_burns : burns region ≤ burns back
  pub blank : IsTrue tells → IsBlank (extent region) (image region)
  pub same : IsTrue tells → image back ≡ image region
  pub crash : IsTrue tells → NoMore (may_leave region) (may_leave back)

-- its log was rolled back, and this was found of its content
pub record IsSeenKept {R : Type 0} (tells : Bool) (extent count burns : R → ℕ) (image : R → Image) (may_leave : R → Image → Type 0) (target : ℕ) (region : R) (undo : UndoState R) (x : ContentFound) : Type 0 where
  pub kept : IsKeptFrom extent count burns region undo
  pub holds : IsUndo (extent undo.region) tells (image undo.region) (may_leave undo.region) undo.staged undo.stopped
  pub unblank : IsTrue tells → IsBlank (extent region) (image region) → ⊥
  pub rolled : IsTrue tells → image undo.region ≡ settled (extent region) (image region)
  pub found : IsTrue tells → IsWholeFound target (extent region) (region_content (extent region) (settled (extent region) (image region))) x
  pub held : IsHeldSomewhere target (extent region) (table_of x.fixed)

abbrev pub IsSeen : {R : Type 0} → Bool → (R → ℕ) → (R → ℕ) → (R → ℕ) → (R → Image) → (R → Image → Type 0) → ℕ → R → Looked R → Type 0
IsSeen tells extent count burns image may_leave target region (Blank back) = IsBlankStill tells extent count burns image may_leave region back
IsSeen tells extent count burns image may_leave target region (Kept k) = IsSeenKept tells extent count burns image may_leave target region k.undo k.found
