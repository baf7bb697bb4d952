-- A pool is opened again.
use Rattle.std.specs.Prelude.{◌≡◌, ◌⊎◌, ◌≤◌, ℕ, Bool, IsTrue, OnErr, OnOk, Result}
use Rattle.base_outside.specs.Causes.{Rose}
use Rattle.base_outside.specs.Images.{Image, NoMore}
use Rattle.vos_pool_make.specs.declared.cause.OpenCause.{OpenCause}
use Rattle.vos_pool_make.specs.declared.cause.OpenCause.TheVariants as cause
use Rattle.vos_store.specs.declared.refusal.ReopenNo.{ReopenNo}
use Rattle.vos_store.specs.declared.refusal.ReopenNo.TheVariants as reopen

-- Why a pool isn't opened again: a wrong number of targets is a foreign byte, at its place.
abbrev pub reopen_cause : OpenCause → ReopenNo
reopen_cause cause.Stopped = reopen.Stopped
reopen_cause cause.Memory = reopen.Memory
reopen_cause (cause.Foreign at byte) = reopen.Foreign at byte
reopen_cause (cause.Shape found asked) = reopen.Foreign 13 found

-- A region was opened anew, or it failed, as a count rose: no more may be left of it than before, and what it reads once it is open may be left of it.
pub record IsReopened {R E : Type 0} (tells : Bool) (extent count burns : R → ℕ) (image : R → Image) (may_leave : R → Image → Type 0) (result : Result (Unit {0}) E) (old new : R) : Type 0 where
  pub size : extent new ≡ extent old
  pub later_faults : count old ≤ count new
  pub later_burns : burns old ≤ burns new
  pub failed : OnErr result (Rose (count old) (count new) ⊎ Rose (burns old) (burns new))
  pub crash : IsTrue tells → NoMore (may_leave old) (may_leave new)
  pub here : OnOk result (IsTrue tells → may_leave new (image new))
