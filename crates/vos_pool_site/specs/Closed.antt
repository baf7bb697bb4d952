-- A pool whose region isn't open.
use Rattle.std.specs.Prelude.{◌≤◌, ◌<◌, ◌^◌, ℕ, Bool, IsTrue}
use Rattle.base_outside.specs.Images.{Image}
use Rattle.pmem_undo.specs.Settled.{IsAttachable}
use Rattle.vos_pool_site.specs.Left.{StandsInSome}

-- Whatever may be left of its region can be attached to, and stands for a pool of this target of so many, with no fewer blocks free than it tells.
pub record IsClosed {R : Type 0} (tells : Bool) (extent : R → ℕ) (may_leave : R → Image → Type 0) (region : R) (free target targets : ℕ) : Type 0 where
  pub attachable : IsTrue tells → (c : Image) → may_leave region c → IsAttachable (extent region) c
  pub left : IsTrue tells → (c : Image) → may_leave region c → StandsInSome (extent region) target targets free c
  pub big : 323584 ≤ extent region
  pub small : extent region < 2 ^ 32
