-- The first part of a text, and a mark at its end.
use Rattle.std.proofs.Common.{◌≡◌, ℕ, ◌+◌, ◌≤◌, Bool, true, false, cond, eqb, ltb, List, [], ◌∷◌, length, take, drop, Some, None, refl, sym, ap, ◌∙◌, arith, position}
use Rattle.std.proofs.lemmas.Bool.{ltb-true, ltb-false}
use Rattle.std.specs.List.{onto_first, position_or_len}
use Rattle.std.proofs.lemmas.List.Splits.{slice_split_first}
use Rattle.base_text.specs.Parts.{parts_of, without_empty_end}

chosen : {A : Type 0} (b : Bool) (x y : A) → cond b (Some x) None ≡ Some y → (b ≡ true) × (x ≡ y)
chosen true x y e = (refl, cc)
chosen false x y e = absurd cc

not_chosen : {A : Type 0} (b : Bool) (x : A) → cond b (Some x) None ≡ None → b ≡ false
not_chosen true x e = absurd cc
not_chosen false x e = refl

-- the part before the first mark
pub parts_of-marked : (mark at : ℕ) (bytes : List ℕ) → Some at ≡ position (λ b. eqb b mark) bytes → parts_of mark bytes ≡ take at bytes ∷ parts_of mark (drop (at + 1) bytes)
parts_of-marked mark at bytes e =
    let p = chosen (ltb (position_or_len (λ b. eqb b mark) bytes) (length bytes)) (position_or_len (λ b. eqb b mark) bytes) at (sym e) in
    let lt = ltb-true _ _ p.0 in
    slice_split_first (λ b. eqb b mark) bytes 0 lt ∙ ap (λ (i : ℕ). take i bytes ∷ parts_of mark (drop (i + 1) bytes)) p.1

unmarked : (mark : ℕ) (bytes : List ℕ) → length bytes ≤ position_or_len (λ b. eqb b mark) bytes → parts_of mark bytes ≡ bytes ∷ []
unmarked mark [] le = refl
unmarked mark (b ∷ bytes) le = go (λ le. unmarked mark bytes le) (eqb b mark) refl
  where
    go : (length bytes ≤ position_or_len (λ b. eqb b mark) bytes → parts_of mark bytes ≡ bytes ∷ []) → (t : Bool) → eqb b mark ≡ t → parts_of mark (b ∷ bytes) ≡ (b ∷ bytes) ∷ []
    go ih true e = absurd (omega (arith, rw e at le))
    go ih false e = rw (e, ih (omega (arith, rw e at le))) refl

-- where there is no mark, the text is the one part
pub parts_of-unmarked : (mark : ℕ) (bytes : List ℕ) → None ≡ position (λ b. eqb b mark) bytes → parts_of mark bytes ≡ bytes ∷ []
parts_of-unmarked mark bytes e = unmarked mark bytes (ltb-false _ _ (not_chosen (ltb (position_or_len (λ b. eqb b mark) bytes) (length bytes)) (position_or_len (λ b. eqb b mark) bytes) (sym e)))

-- a part at the end that isn't empty stays
onto_first-end : (b : ℕ) (parts : List (List ℕ)) → without_empty_end parts ≡ parts → without_empty_end (onto_first b parts) ≡ onto_first b parts
onto_first-end b [] e = refl
onto_first-end b (p ∷ []) e = refl
onto_first-end b (p ∷ q ∷ ps) e = let rest : without_empty_end (q ∷ ps) ≡ q ∷ ps = kept p e in ap (λ t. (b ∷ p) ∷ t) rest
  where
    kept : (p : List ℕ) → without_empty_end (p ∷ q ∷ ps) ≡ p ∷ q ∷ ps → without_empty_end (q ∷ ps) ≡ q ∷ ps
    kept [] e = cc
    kept (c ∷ p) e = cc
