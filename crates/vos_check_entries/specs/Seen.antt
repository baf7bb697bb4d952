-- Numbers in a set.
use Rattle.std.specs.Prelude.{◌≡◌, ℕ, ◌==◌, List}
use Rattle.std.specs.HashSet.{HashSet, contains}
use Rattle.vos_check.specs.vos_image.Steps.{is_among}

-- a set has these numbers, and no others
abbrev pub HasNumbers : {H : Type 0} → HashSet ℕ H → List ℕ → Type 0
HasNumbers set numbers = (k : ℕ) → contains (λ a b. a == b) set k ≡ is_among k numbers
