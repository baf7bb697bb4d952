-- What opening a region as a pool comes to.
use Rattle.std.specs.Prelude.{◌≡◌, ◌⊎◌, ◌≤◌, ℕ, Bool, false, true, IsTrue, Some}
use Rattle.std.specs.Option.{option_map}
use Rattle.base_outside.specs.Images.{Image}
use Rattle.base_outside.specs.declared.region.Region.{Ghosts}
use Rattle.base_types.specs.Epochs.{restart_floor}
use Rattle.daos_model.specs.Durables.{empty_durable}
use Rattle.pmem_alloc.specs.Blocks.{free_count}
use Rattle.pmem_alloc.specs.Map.{blocks_end, free_blocks}
use Rattle.pmem_alloc.specs.Sets.{count_below}
use Rattle.pmem_undo.specs.Settled.{IsAttachable, settled}
use Rattle.vos_check_region.specs.Blank.{IsBlank}
use Rattle.vos_commits.specs.Kept.{kept_in}
use Rattle.vos_pool_held.specs.vos_contents.Contents.{contents_of}
use Rattle.vos_pool_held.specs.vos_pool_base.Pool.{OpenedState, kept_of}
use Rattle.vos_pool_held.specs.vos_pool_base.vos_image.Kept.{kept}
use Rattle.vos_pool_held.specs.State.{held_durable}
use Rattle.vos_pool_held.specs.declared.held.Held.{Held}
use Rattle.vos_pool_make.specs.declared.cause.OpenCause.{OpenCause}
use Rattle.vos_pool_make.specs.declared.cause.OpenCause.TheVariants as cause
use Rattle.vos_pool_make.specs.Made.{IsHandedOver, IsRefused}
use Rattle.vos_pool_opening.specs.Beginning.{begun, why_of}
use Rattle.vos_pool_opening.specs.declared.beginning.Asked.{Asked}
use Rattle.vos_pool_opening.specs.declared.beginning.Beginning.{Beginning}
use Rattle.vos_pool_opening.specs.Ways.{IsWay}
use Rattle.vos_pool_site.specs.Left.{StandsInSome}

-- ---- of a pool that was opened

-- it was given up for want of memory, or as it stopped
abbrev pub IsLack : Bool → OpenCause → Type 0
IsLack stopped cause.Stopped = stopped ≡ true
IsLack stopped cause.Memory = Unit {0}
IsLack stopped (cause.Foreign at byte) = ⊥
IsLack stopped (cause.Shape found asked) = ⊥

-- The pool is held, as it was.
pub record IsHeldOf {R : Type 0} {Q : Ghosts R} (asked : Asked) (p : OpenedState R) (h : Held R Q) : Type 0 where
  pub opened : h.opened ≡ p
  pub free : h.free ≡ free_count p.blocks
  pub floor : h.floor.0 ≡ restart_floor (contents_of h.contents).lease
  pub why : h.why ≡ why_of asked.beginning
  pub target_is : h.target ≡ asked.target
  pub targets_are : h.targets ≡ asked.targets

-- Its region is handed back for want of memory.
pub record IsBackOf {R : Type 0} (tells : Bool) (extent : R → ℕ) (may_leave : R → Image → Type 0) (p : OpenedState R) (back : R) (why : OpenCause) : Type 0 where
  pub region : back ≡ p.blocks.undo.region
  pub memory : why ≡ cause.Memory
  pub attachable : IsTrue tells → (c : Image) → may_leave back c → IsAttachable (extent back) c

-- What the opening made of a pool is given up, and the region is handed back.
pub record IsGivenUp {R : Type 0} (b : Beginning) (tells : Bool) (extent count burns : R → ℕ) (image : R → Image) (may_leave : R → Image → Type 0) (p : OpenedState R) (back : R) (why : OpenCause) : Type 0 where
  pub last : OpenedState R
  pub way : IsWay b tells extent count burns image may_leave p last
  pub region : back ≡ last.blocks.undo.region
  pub lack : IsLack last.blocks.undo.stopped why
  pub attachable : IsTrue tells → (c : Image) → may_leave back c → IsAttachable (extent back) c

-- The pool is held. It keeps what it kept, with its opening counted unless its region was blank, and the same blocks are free.
pub record IsBegunOf {R : Type 0} {Q : Ghosts R} (tells : Bool) (extent count burns : R → ℕ) (image : R → Image) (asked : Asked) (blank : Bool) (p : OpenedState R) (h : Held R Q) : Type 0 where
  pub same : blank ≡ true → held_durable tells extent image h ≡ kept_of tells extent image p
  pub begun_is : blank ≡ false → held_durable tells extent image h ≡ option_map (begun asked.beginning) (kept_of tells extent image p)
  pub free : h.free ≡ free_count p.blocks
  pub floor : h.floor.0 ≡ restart_floor (contents_of h.contents).lease
  pub why : h.why ≡ why_of asked.beginning
  pub running : h.opened.blocks.undo.stopped ≡ false
  pub target_is : h.target ≡ asked.target
  pub targets_are : h.targets ≡ asked.targets
  pub size : extent h.opened.blocks.undo.region ≡ extent p.blocks.undo.region
  pub later_faults : count p.blocks.undo.region ≤ count h.opened.blocks.undo.region
  pub later_burns : burns p.blocks.undo.region ≤ burns h.opened.blocks.undo.region

-- ---- of a region

-- The region became a pool. A blank one keeps nothing, in the first incarnation; any other keeps what it stood for,
-- in the next one, and no fewer blocks are free than in it. The floor is the one that the lease gives.
pub record HasBegun {R : Type 0} {Q : Ghosts R} (tells : Bool) (extent count burns : R → ℕ) (image : R → Image) (asked : Asked) (region : R) (h : Held R Q) : Type 0 where
  pub blank : IsTrue tells → IsBlank (extent region) (image region) → held_durable tells extent image h ≡ Some (empty_durable 1)
  pub written : IsTrue tells → (IsBlank (extent region) (image region) → ⊥) → held_durable tells extent image h ≡ Some (begun asked.beginning (kept_in (kept asked.target (extent region)) (extent region) (image region)))
  pub free : IsTrue tells → (IsBlank (extent region) (image region) → ⊥) → count_below (free_blocks (extent region) (settled (extent region) (image region))) (blocks_end (extent region)) ≤ h.free
  pub floor : h.floor.0 ≡ restart_floor (contents_of h.contents).lease
  pub why : h.why ≡ why_of asked.beginning
  pub running : h.opened.blocks.undo.stopped ≡ false
  pub target_is : h.target ≡ asked.target
  pub targets_are : h.targets ≡ asked.targets
  pub size : extent h.opened.blocks.undo.region ≡ extent region
  pub later_faults : count region ≤ count h.opened.blocks.undo.region
  pub later_burns : burns region ≤ burns h.opened.blocks.undo.region

-- An image can be attached to, and keeps what another one keeps, or that with its opening counted; and where that one stands for a pool with so many blocks
-- free, so does it.
pub record StandsOn (b : Beginning) (size target targets : ℕ) (f c : Image) : Type 0 where
  pub attachable : IsAttachable size c
  pub keeps : (kept_in (kept target size) size c ≡ kept_in (kept target size) size f) ⊎ (kept_in (kept target size) size c ≡ begun b (kept_in (kept target size) size f))
  pub stands : (few : ℕ) → StandsInSome size target targets few f → StandsInSome size target targets few c

-- Whatever may be left of a region that wasn't blank could be left before, or stands for what it kept.
abbrev pub LeavesOn : {R : Type 0} → (R → ℕ) → (R → Image) → (R → Image → Type 0) → Asked → R → R → Type 0
LeavesOn extent image may_leave asked region back = (IsBlank (extent region) (image region) → ⊥)
    → (c : Image) → may_leave back c → may_leave region c ⊎ StandsOn asked.beginning (extent region) asked.target asked.targets (image region) c

-- The region is handed back, as it was or as an opening that was cut leaves it, with the reason.
pub record HasNotBegun {R : Type 0} (tells : Bool) (extent count burns : R → ℕ) (image : R → Image) (may_leave : R → Image → Type 0) (asked : Asked) (region back : R) (why : OpenCause) : Type 0 where
  pub refused : IsTrue tells → IsRefused asked.target asked.targets (extent region) (image region) why
  pub handed_over : IsHandedOver extent count burns region back why
  pub left : IsTrue tells → LeavesOn extent image may_leave asked region back
