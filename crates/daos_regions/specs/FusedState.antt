-- What a fused region shows.
use Rattle.std.specs.Prelude.{◌≡◌, ℕ, Bool, true, false, Result, IsErr}
use Rattle.base_outside.specs.Causes.{one_more}

-- the region below, how many writes are left up to the one that fails (0: none fails), whether it
-- failed since the last opening, and how many calls it made fail
pub record FusedState (R : Type 0) : Type 0 where
  pub region : R
  pub left : ℕ
  pub blown : Bool
  pub burnt : ℕ

-- What the fuse does in a call. Where it burns the call fails, the region below is left alone, and one
-- burn more is counted. Elsewhere none is.
pub record Fuses {T E R : Type 0} (burns : Bool) (old new : FusedState R) (result : Result T E) : Type 0 where
  pub failed : burns ≡ true → IsErr result
  pub untouched : burns ≡ true → new.region ≡ old.region
  pub counted : burns ≡ true → new.burnt ≡ one_more old.burnt
  pub stays : burns ≡ true → new.blown ≡ true
  pub spared : burns ≡ false → new.burnt ≡ old.burnt
  pub whole : burns ≡ false → new.blown ≡ false
