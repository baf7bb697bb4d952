-- An item of a list.
use Rattle.std.proofs.Common.{ℕ, suc, zero, ◌≡◌, ◌<◌, refl, List, [], ◌∷◌, length, get_or, arith}

-- within the list it is the same whatever stands for none
pub item-itself : {X : Type 0} (xs : List X) (i : ℕ) (z : X) → i < length xs → get_or xs i z ≡ get_or xs i (get_or xs i z)
item-itself [] i z lt = absurd (omega (arith, lt))
item-itself (x ∷ xs) zero z lt = refl
item-itself (x ∷ xs) (suc i) z lt = item-itself xs i z (omega (arith, lt))
