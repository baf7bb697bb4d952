-- What a file as a region shows.
use Rattle.std.specs.Prelude.{◌≡◌, ℕ, Bool, true, false, Result, OnOk, OnErr, IsErr}
use Rattle.base_outside.specs.Causes.{one_more}

-- how many bytes it has, whether a call failed since it was opened, and how often one did
pub record FileState : Type 0 where
  pub size : ℕ
  pub broken : Bool
  pub faults : ℕ

-- A call fails where one failed before, and each failure counts.
pub record CountsFault {T E : Type 0} (old new : FileState) (result : Result T E) : Type 0 where
  pub size : new.size ≡ old.size
  pub again : old.broken ≡ true → IsErr result
  pub failed : OnErr result ((new.broken ≡ true) × (new.faults ≡ one_more old.faults))
  pub worked : OnOk result (new ≡ old)

-- An opening fails by the file alone, and each failure counts.
pub record CountsOpening {T E : Type 0} (old new : FileState) (result : Result T E) : Type 0 where
  pub size : new.size ≡ old.size
  pub failed : OnErr result ((new.broken ≡ true) × (new.faults ≡ one_more old.faults))
  pub worked : OnOk result ((new.broken ≡ false) × (new.faults ≡ old.faults))
