-- Sets of numbers, and the least of them.
use Rattle.std.specs.Prelude.{◌≡◌, ℕ, zero, suc, ◌+◌, ◌<◌, Bool, true, false, cond, ◌==◌, List, [], ◌∷◌}

-- a number is in the set where the test says so
abbrev pub Set : Type 0
Set = ℕ → Bool

-- the set with one number put in, or taken out
unfoldable pub set_to : Set → ℕ → Bool → Set
set_to s b is q = cond (q == b) is (s q)

-- the set without some numbers
abbrev pub without : List ℕ → Set → Set
without [] s = s
without (b ∷ bs) s = without bs (set_to s b false)

-- how many numbers below n are in the set
unfoldable pub count_below : Set → ℕ → ℕ
count_below s zero = 0
count_below s (suc n) = count_below s n + cond (s n) 1 0

-- a number is the least of a set
pub record IsLeast (s : Set) (b : ℕ) : Type 0 where
  pub is_in : s b ≡ true
  pub none_below : (q : ℕ) → q < b → s q ≡ false

-- the least number of a set, then the least of the others, and so on
abbrev pub AreLeast : Set → List ℕ → Type 0
AreLeast s [] = Unit {0}
AreLeast s (b ∷ bs) = IsLeast s b × AreLeast (set_to s b false) bs
