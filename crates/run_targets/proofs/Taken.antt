-- What holds of the first elements of a list, one after another.
use Rattle.std.specs.Prelude.{ℕ, zero, suc, ◌≡◌, ◌≤◌, All, List, [], ◌∷◌, length, slice_get, take, Some}
use Rattle.std.proofs.Common.{subst}
use Rattle.std.proofs.lemmas.List.{take_all}
use Rattle.std.proofs.lemmas.List.Elements.{All-cons, All-head, All-nil, All-tail}

pub all-more : {T : Type 0} (P : T → Type 0) (n : ℕ) (xs : List T) (x : T) → slice_get xs n ≡ Some x → P x → All P (take n xs) → All P (take (suc n) xs)
all-more P n [] x at p k = let no : ⊥ = cc in absurd no
all-more P zero (y ∷ ys) x at p k = let same : x ≡ y = cc in All-cons P y [] (subst P same p) (All-nil P)
all-more P (suc n) (y ∷ ys) x at p k = All-cons P y (take (suc n) ys) (All-head P y (take n ys) k) (all-more P n ys x at p (All-tail P y (take n ys) k))

pub all-taken : {T : Type 0} (P : T → Type 0) (n : ℕ) (xs : List T) → length xs ≤ n → All P (take n xs) → All P xs
all-taken P n xs all k = subst (All P) (take_all n xs all) k
