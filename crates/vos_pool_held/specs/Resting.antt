-- An open pool at rest between its calls.
use Rattle.std.specs.Prelude.{◌≡◌, Bool, false, IsTrue}
use Rattle.base_outside.specs.Images.{Image}
use Rattle.pmem_undo.specs.Settled.{IsAtRest}
use Rattle.vos_pool_base.specs.Pool.{OpenedState}

-- unless it stopped a crash leaves what is read, where its region tells its bytes
abbrev pub IfAtRest : {R : Type 0} → Bool → (R → Image) → (R → Image → Type 0) → OpenedState R → Type 0
IfAtRest tells image may_leave p = IsTrue tells → p.blocks.undo.stopped ≡ false → IsAtRest (image p.blocks.undo.region) (may_leave p.blocks.undo.region)
