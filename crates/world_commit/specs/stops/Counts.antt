-- How many of some pass a test, among those that pass another, and once they are changed.
use Rattle.std.specs.Prelude.{◌≡◌, ◌+◌, Bool, true, false, ◌&&◌, not, List, [], ◌∷◌, filter, refl, if◌then◌else◌}
use Rattle.std.proofs.Common.{ap, arith}
use Rattle.world_commit.specs.attempts.Attempts.{count, one_if}

pub count-filtered : {T : Type 0} (p q : T → Bool) (xs : List T) → count p (filter q xs) ≡ count (λ x. q x && p x) xs
count-filtered p q [] = refl
count-filtered p q (x ∷ xs) = by (count-filtered p q xs) (q x) refl
  where
    by : count p (filter q xs) ≡ count (λ x. q x && p x) xs → (b : Bool) → q x ≡ b → count p (if b then x ∷ filter q xs else filter q xs) ≡ one_if (q x && p x) + count (λ x. q x && p x) xs
    by rest true is = let one : one_if (q x && p x) ≡ one_if (p x) = ap (λ b. one_if (b && p x)) is in omega (arith, rest, one)
    by rest false off = let none : one_if (q x && p x) ≡ 0 = ap (λ b. one_if (b && p x)) off in omega (arith, rest, none)

-- those that pass another test, and those that don't
pub count-parts : {T : Type 0} (p q : T → Bool) (xs : List T) → count p xs ≡ count (λ x. q x && p x) xs + count (λ x. not (q x) && p x) xs
count-parts p q [] = refl
count-parts p q (x ∷ xs) = by (count-parts p q xs) (q x) refl
  where
    by : count p xs ≡ count (λ x. q x && p x) xs + count (λ x. not (q x) && p x) xs → (b : Bool) → q x ≡ b
        → one_if (p x) + count p xs ≡ (one_if (q x && p x) + count (λ x. q x && p x) xs) + (one_if (not (q x) && p x) + count (λ x. not (q x) && p x) xs)
    by rest true is = let one : one_if (q x && p x) ≡ one_if (p x) = ap (λ b. one_if (b && p x)) is in let none : one_if (not (q x) && p x) ≡ 0 = ap (λ b. one_if (not b && p x)) is in omega (arith, rest, one, none)
    by rest false off = let none : one_if (q x && p x) ≡ 0 = ap (λ b. one_if (b && p x)) off in let one : one_if (not (q x) && p x) ≡ one_if (p x) = ap (λ b. one_if (not b && p x)) off in omega (arith, rest, one, none)
