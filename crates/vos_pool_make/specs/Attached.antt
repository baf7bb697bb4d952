-- What attaching makes of a region whose content was checked.
use Rattle.std.specs.Prelude.{◌≡◌, ◌⊎◌, ◌≤◌, ℕ, Bool, false, IsTrue}
use Rattle.base_outside.specs.Causes.{Rose}
use Rattle.base_outside.specs.Images.{Image, NoMore}
use Rattle.pmem_undo.specs.Undo.{UndoState}
use Rattle.vos_pool_base.specs.Pool.{OpenedState, kept_by, kept_of}
use Rattle.vos_pool_base.specs.vos_standing.Standing.{Stand}
use Rattle.vos_pool_open.specs.vos_check_content.declared.content.ContentFound.{ContentFound}
use Rattle.vos_pool_open.specs.vos_check_content.Region.{region_content}
use Rattle.vos_pool_open.specs.vos_check_content.Whole.{IsHeldSomewhere, IsWholeFound}
use Rattle.vos_pool_open.specs.vos_check_places.Fixed.{table_of}

-- this was found of the content of an undo region
abbrev pub IsFoundOf : {R : Type 0} → (R → ℕ) → (R → Image) → ℕ → UndoState R → ContentFound → Type 0
IsFoundOf extent image target undo x = IsWholeFound target (extent undo.region) (region_content (extent undo.region) (image undo.region)) x

-- and its table may be remembered, also where the bytes aren't told
abbrev pub CanBeHeld : {R : Type 0} → (R → ℕ) → ℕ → UndoState R → ContentFound → Type 0
CanBeHeld extent target undo x = IsHeldSomewhere target (extent undo.region) (table_of x.fixed)

-- An undo region of which this was found became an open pool. It keeps what the region kept, and what was found stands in it. Its region
-- was only read: no more may be left of it.
pub record IsAttached {R : Type 0} (tells : Bool) (extent count burns : R → ℕ) (image : R → Image) (may_leave : R → Image → Type 0) (target : ℕ) (undo : UndoState R) (x : ContentFound) (p : OpenedState R) : Type 0 where
  pub table : p.table ≡ table_of x.fixed
  pub target_is : p.table.header.target ≡ target
  pub going : p.blocks.undo.stopped ≡ false
  pub size : extent p.blocks.undo.region ≡ extent undo.region
  pub later_faults : count undo.region ≤ count p.blocks.undo.region
  pub later_burns : burns undo.region ≤ burns p.blocks.undo.region
  pub kept : kept_of tells extent image p ≡ kept_by tells target (extent undo.region) (image undo.region)
  pub stands : IsTrue tells → (w : IsFoundOf extent image target undo x) → Stand target (extent p.blocks.undo.region) (image p.blocks.undo.region) p.table w.stored
  pub read : IsTrue tells → image p.blocks.undo.region ≡ image undo.region
  pub left : IsTrue tells → NoMore (may_leave undo.region) (may_leave p.blocks.undo.region)

-- The region is handed back, and a count rose. It was only read: no more may be left of it.
pub record IsRegionBack {R : Type 0} (tells : Bool) (extent count burns : R → ℕ) (may_leave : R → Image → Type 0) (undo : UndoState R) (back : R) : Type 0 where
  pub size : extent back ≡ extent undo.region
  pub later_faults : count undo.region ≤ count back
  pub later_burns : burns undo.region ≤ burns back
  pub cause : Rose (count undo.region) (count back) ⊎ Rose (burns undo.region) (burns back)
  pub left : IsTrue tells → NoMore (may_leave undo.region) (may_leave back)
