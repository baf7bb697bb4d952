-- The bytes of a key are no mark.
use Rattle.std.proofs.Common.{◌≡◌, ℕ, suc, ◌+◌, Bool, true, false, cond, leb, ltb, eqb, ◌&&◌, not, List, [], ◌∷◌, length, Option, Some, None, refl, arith}
use Rattle.std.specs.List.{list_all, prefix_len, AllByRecursion}
use Rattle.std.specs.Option.{option_map}
use Rattle.std.proofs.lemmas.Bool.{and_parts, and_from}
use Rattle.std.proofs.lemmas.Bool.Decides.{nat_tests}
use Rattle.base_types.specs.declared.key.KeyNo.TheVariants.{Empty, TooLong, BadByte}
use Rattle.base_types.specs.Keys.{IsKey, is_key_byte, first_bad_byte}
use Rattle.base_text.specs.Rows.{IsWord}
use Rattle.base_text.specs.RowLaws.{IsWord-from_high}

key_byte_bounds : (b : ℕ) → is_key_byte b ≡ true → (leb 33 b ≡ true) × (eqb b 47 ≡ false)
key_byte_bounds b e = (grind (arith, nat_tests), grind (arith, nat_tests))

no_longer : (m n : ℕ) → ltb (1 + m) (suc n) ≡ false → ltb m n ≡ false
no_longer m n e = grind (arith, nat_tests)

not_zero : (n : ℕ) → ltb 0 (suc n) ≡ false → ⊥
not_zero n e = grind (arith, nat_tests)

abbrev passes : ℕ → Bool
passes b = not (not (is_key_byte b))

-- bytes of which the first that is none of a key's is behind the end are a key's
all_pass : (bs : List ℕ) → ltb (prefix_len passes bs) (length bs) ≡ false → list_all is_key_byte bs ≡ true
all_pass [] e = refl
all_pass (b ∷ bs) e = go (is_key_byte b) e (all_pass bs)
  where
    go : (t : Bool) → ltb (cond (not (not t)) (1 + prefix_len passes bs) 0) (suc (length bs)) ≡ false → (ltb (prefix_len passes bs) (length bs) ≡ false → list_all is_key_byte bs ≡ true)
        → (t && list_all is_key_byte bs) ≡ true
    go true e ih = ih (no_longer (prefix_len passes bs) (length bs) e)
    go false e ih = absurd (not_zero (length bs) e)

none_bad : (o : Option ℕ) → option_map (λ place. BadByte place) o ≡ None → o ≡ None
none_bad None e = refl
none_bad (Some place) e = absurd cc

not_found : (t : Bool) (n : ℕ) → cond t (Some n) None ≡ None → t ≡ false
not_found true n e = absurd cc
not_found false n e = refl

-- each byte of a key may stand in one
pub key_bytes : (bs : List ℕ) → IsKey bs → list_all is_key_byte bs ≡ true
key_bytes bs h = empty (eqb (length bs) 0) h
  where
    long : (t : Bool) → cond t (Some TooLong) (option_map (λ place. BadByte place) (first_bad_byte bs)) ≡ None → list_all is_key_byte bs ≡ true
    long true e = absurd cc
    long false e = all_pass bs (not_found (ltb (prefix_len passes bs) (length bs)) (prefix_len passes bs) (none_bad (first_bad_byte bs) e))

    empty : (t : Bool) → cond t (Some Empty) (cond (ltb 64 (length bs)) (Some TooLong) (option_map (λ place. BadByte place) (first_bad_byte bs))) ≡ None → list_all is_key_byte bs ≡ true
    empty true e = absurd cc
    empty false e = long (ltb 64 (length bs)) e

high : (bs : List ℕ) → list_all is_key_byte bs ≡ true → list_all (λ b. leb 33 b) bs ≡ true
high [] e = refl
high (b ∷ bs) e =
    let p = and_parts (is_key_byte b) (list_all is_key_byte bs) e in
    and_from (leb 33 b) (list_all (λ b. leb 33 b) bs) (key_byte_bounds b p.0).0 (high bs p.1)

unslashed : (bs : List ℕ) → list_all is_key_byte bs ≡ true → AllByRecursion (λ b. eqb b 47 ≡ false) bs
unslashed [] e = tt
unslashed (b ∷ bs) e = let p = and_parts (is_key_byte b) (list_all is_key_byte bs) e in ((key_byte_bounds b p.0).1, unslashed bs p.1)

-- a key is a word
pub IsWord-from_key : (bs : List ℕ) → IsKey bs → IsWord bs
IsWord-from_key bs h = IsWord-from_high bs (high bs (key_bytes bs h))

-- no slash stands in a key
pub key_unslashed : (bs : List ℕ) → IsKey bs → AllByRecursion (λ b. eqb b 47 ≡ false) bs
key_unslashed bs h = unslashed bs (key_bytes bs h)
