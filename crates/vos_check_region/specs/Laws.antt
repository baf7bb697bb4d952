-- What the faults of logs say, as a statement.
use Rattle.std.specs.Prelude.{◌≡◌, ◌↔◌, ℕ, None}
use Rattle.base_outside.specs.Images.{Image}
use Rattle.pmem_undo.specs.Settled.{IsAttachable}
use Rattle.vos_check_region.specs.Fault.{open_fault}

-- no fault is found exactly where a region can be attached to
abbrev pub LogsAreJudged : Type 0
LogsAreJudged = (size : ℕ) (f : Image) → (open_fault size f ≡ None) ↔ IsAttachable size f
