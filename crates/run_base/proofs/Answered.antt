-- The first letter that one answers is taken out.
use Rattle.std.proofs.Common.{◌≡◌, ℕ, ◌+◌, ◌≤◌, Bool, true, false, List, length, Some, None, take, drop, ◌++◌, suc, remove, sym, ◌∙◌, ap, arith}
use Rattle.std.proofs.lemmas.Grind.{common_steps}
use Rattle.std.specs.Prelude.{nat_lt, position, if◌then◌else◌}
use Rattle.std.specs.List.{position_or_len}
use Rattle.std.proofs.lemmas.Bool.Decides.{nat_tests}
use Rattle.world_base.specs.Letters.{without_first}

picked : (b : Bool) (n i : ℕ) → (if b then Some n else None) ≡ Some i → n ≡ i
picked true n i e = cc
picked false n i e = let no : ⊥ = cc in absurd no

passed : (b : Bool) (n : ℕ) → (if b then Some n else None) ≡ None → b ≡ false
passed true n e = let no : ⊥ = cc in absurd no
passed false n e = cc

pub without_first-at : {T : Type 0} (p : T → Bool) (xs : List T) (i : ℕ) → position p xs ≡ Some i → remove xs i ≡ without_first p xs
without_first-at p xs i at =
    let here : position_or_len p xs ≡ i = picked (nat_lt (position_or_len p xs) (length xs)) (position_or_len p xs) i at in
    let next : suc i ≡ position_or_len p xs + 1 = omega (arith, here) in
    ap (λ k. take k xs ++ drop (suc i) xs) (sym here) ∙ ap (λ k. take (position_or_len p xs) xs ++ drop k xs) next

pub without_first-none : {T : Type 0} (p : T → Bool) (xs : List T) → position p xs ≡ None → xs ≡ without_first p xs
without_first-none p xs none =
    let past : nat_lt (position_or_len p xs) (length xs) ≡ false = passed (nat_lt (position_or_len p xs) (length xs)) (position_or_len p xs) none in
    let far : length xs ≤ position_or_len p xs = grind (arith, nat_tests) in
    grind (arith, common_steps)
