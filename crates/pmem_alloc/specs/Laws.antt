-- The blocks of a take: each was free, none is free after it, and they rise.
use Rattle.std.specs.Prelude.{◌≡◌, ℕ, zero, suc, ◌/◌, ◌<◌, ◌≤◌, true, false, cond, List, [], ◌∷◌, length, slice_index, refl}
use Rattle.std.proofs.Common.{arith, eqb, inl, inr}
use Rattle.std.proofs.lemmas.Bool.{cases_lt}
use Rattle.std.proofs.lemmas.Bool.Decides.{nat_tests, eqb_tells}
use Rattle.pmem_alloc.specs.Sets.{Set, set_to, without, IsLeast, AreLeast}
use Rattle.pmem_alloc.specs.Map.{first_block, is_free, free_in}

-- what is free is a block behind the map and below the end
pub free_within : (end byte b : ℕ) → is_free end byte b ≡ true → (first_block ≤ b) × (b < end)
unfolding is_free
free_within end byte b is = (grind (arith, nat_tests), grind (arith, nat_tests))

pub free_in_within : (end : ℕ) (bytes : List ℕ) (b : ℕ) → free_in end bytes b ≡ true → (first_block ≤ b) × (b < end)
unfolding free_in
free_in_within end bytes b is = free_within end (slice_index bytes (b / 8)) b is

still_in : (s : Set) (b q : ℕ) → set_to s b false q ≡ true → (s q ≡ true) × (q ≡ b → ⊥)
unfolding set_to
still_in s b q is =
    elim (eqb_tells q b) [
      | inl same ↦ let e = same.0 in let no : cond (eqb q b) false (s q) ≡ false = rw e refl in absurd (cc)
      | inr apart ↦ let e = apart.0 in let other : cond (eqb q b) false (s q) ≡ s q = rw e refl in (cc, apart.1)
    ]

still_out : (s : Set) (b q : ℕ) → s q ≡ false → set_to s b false q ≡ false
unfolding set_to
still_out s b q out = elim (eqb q b) as (λ t. cond t false (s q) ≡ false) [ true ↦ refl | false ↦ out ]

taken_out : (s : Set) (b : ℕ) → set_to s b false b ≡ false
unfolding set_to
taken_out s b = let e : eqb b b ≡ true = grind (arith, nat_tests) in rw e refl

out_without : (bs : List ℕ) (s : Set) (q : ℕ) → s q ≡ false → without bs s q ≡ false
out_without [] s q out = out
out_without (b ∷ bs) s q out = out_without bs (set_to s b false) q (still_out s b q out)

-- each of them was free
pub were_free : (bs : List ℕ) (s : Set) → AreLeast s bs → (k : ℕ) → k < length bs → s (slice_index bs k) ≡ true
were_free [] s all k low = absurd (omega arith)
were_free (b ∷ bs) s all zero low = all.0.is_in
were_free (b ∷ bs) s all (suc k) low = (still_in s b (slice_index bs k) (were_free bs (set_to s b false) all.1 k (omega arith))).0

-- none of them is free after it
pub are_taken : (bs : List ℕ) (s : Set) (k : ℕ) → k < length bs → without bs s (slice_index bs k) ≡ false
are_taken [] s k low = absurd (omega arith)
are_taken (b ∷ bs) s zero low = out_without bs (set_to s b false) b (taken_out s b)
are_taken (b ∷ bs) s (suc k) low = are_taken bs (set_to s b false) k (omega arith)

next_above : (s : Set) (b c : ℕ) → IsLeast s b → IsLeast (set_to s b false) c → b < c
next_above s b c one two =
    let parts = still_in s b c two.is_in in
    elim (cases_lt c b) [
      | inl below ↦ let no = one.none_below c below in let yes = parts.0 in absurd (cc)
      | inr above ↦ let ne = parts.1 in omega arith
    ]

-- each is below the next
pub they_rise : (bs : List ℕ) (s : Set) → AreLeast s bs → (k : ℕ) → suc k < length bs → slice_index bs k < slice_index bs (suc k)
they_rise [] s all k low = absurd (omega arith)
they_rise (b ∷ []) s all k low = absurd (omega arith)
they_rise (b ∷ c ∷ bs) s all zero low = next_above s b c all.0 all.1.0
they_rise (b ∷ c ∷ bs) s all (suc k) low = they_rise (c ∷ bs) (set_to s b false) all.1 k (omega arith)
