-- A sweep by marks, one mark at a time: what stays is swapped to the front.
use Rattle.std.proofs.Common.{◌≡◌, ℕ, ◌+◌, ◌<◌, ◌≤◌, Bool, true, false, List, [], ◌∷◌, ◌++◌, length, get_or, set, take, drop, refl, sym, ◌∙◌, ap, append_assoc, arith}
use Rattle.std.specs.Prelude.{nat_lt}
use Rattle.std.specs.List.{SwappedAt}
use Rattle.std.proofs.lemmas.Bool.Decides.{nat_tests}
use Rattle.std.proofs.Math.ListN.{drop_of_length-le}
use Rattle.std.proofs.lemmas.List.{append-nil, drop-set-lt, drop_more, get_or_default, length-set, take-set, take-set-le, take_more_set}
use Rattle.daos_model.specs.declared.durable.Version.{Version}
use Rattle.vos_rows.specs.Sweeps.{unmarked}

module _ (marks : List Bool) (ys : List Version) (k i : ℕ) (y : Version) (behind : k ≤ i) (in-marks : i < length marks) (within : i < length ys) (is : y ≡ get_or ys i y) where
  rest-is : drop i ys ≡ y ∷ drop (i + 1) ys
  rest-is = drop_more ys i y within ∙ ap (λ v. v ∷ drop (i + 1) ys) (sym is)

  due-is : (m : Bool) → get_or marks i false ≡ m → drop i marks ≡ m ∷ drop (i + 1) marks
  due-is m e = drop_more marks i false in-marks ∙ ap (λ b. b ∷ drop (i + 1) marks) e

  -- a row whose mark is set is left behind
  gone-at : get_or marks i false ≡ true → take k ys ++ unmarked (drop (i + 1) marks) (drop (i + 1) ys) ≡ take k ys ++ unmarked (drop i marks) (drop i ys)
  gone-at set' =
      ap (λ z. take k ys ++ z) (sym (ap (λ ms. unmarked ms (drop i ys)) (due-is true set') ∙ ap (λ vs. unmarked (true ∷ drop (i + 1) marks) vs) rest-is))

  module _ (zs : List Version) (swapped : SwappedAt ys zs k i) where
    new-is : zs ≡ set (set ys k y) i (get_or ys k y)
    new-is = swapped.3 y ∙ ap (λ v. set (set ys k v) i (get_or ys k y)) (sym is)

    front : (t : Bool) → nat_lt k i ≡ t → take (k + 1) zs ≡ take k ys ++ y ∷ []
    front true e =
        let lt : k + 1 ≤ i = grind (arith, nat_tests) in
        ap (λ vs. take (k + 1) vs) new-is ∙ take-set-le (k + 1) (set ys k y) i (get_or ys k y) lt ∙ take_more_set ys k y (omega arith)
    front false e =
        let same : k ≡ i = grind (arith, nat_tests) in
        let one : get_or ys k y ≡ y = ap (λ n. get_or ys n y) same ∙ sym is in
        let long : k < length (set ys k y) = omega (arith, length-set ys k y) in
        ap (λ vs. take (k + 1) vs) (new-is ∙ ap (λ n. set (set ys k y) n (get_or ys k y)) (sym same))
        ∙ take_more_set (set ys k y) k (get_or ys k y) long
        ∙ ap (λ vs. vs ++ get_or ys k y ∷ []) (take-set ys k y)
        ∙ ap (λ v. take k ys ++ v ∷ []) one

    back : drop (i + 1) zs ≡ drop (i + 1) ys
    back = ap (λ vs. drop (i + 1) vs) new-is ∙ drop-set-lt (i + 1) (set ys k y) i (get_or ys k y) (omega arith) ∙ drop-set-lt (i + 1) ys k y (omega arith)

    -- a row whose mark isn't set comes to the front
    kept-at : get_or marks i false ≡ false → take (k + 1) zs ++ unmarked (drop (i + 1) marks) (drop (i + 1) zs) ≡ take k ys ++ unmarked (drop i marks) (drop i ys)
    kept-at unset =
        ap (λ vs. vs ++ unmarked (drop (i + 1) marks) (drop (i + 1) zs)) (front (nat_lt k i) refl)
        ∙ ap (λ vs. (take k ys ++ y ∷ []) ++ unmarked (drop (i + 1) marks) vs) back
        ∙ append_assoc (take k ys) (y ∷ []) (unmarked (drop (i + 1) marks) (drop (i + 1) ys))
        ∙ ap (λ z. take k ys ++ z) (sym (ap (λ ms. unmarked ms (drop i ys)) (due-is false unset) ∙ ap (λ vs. unmarked (false ∷ drop (i + 1) marks) vs) rest-is))

-- whatever row is there
pub swept-gone : (marks : List Bool) (ys : List Version) (k i : ℕ) → k ≤ i → i < length marks → i < length ys → get_or marks i false ≡ true
    → take k ys ++ unmarked (drop (i + 1) marks) (drop (i + 1) ys) ≡ take k ys ++ unmarked (drop i marks) (drop i ys)
swept-gone marks [] k i behind few within set' = absurd (omega arith)
swept-gone marks (v ∷ vs) k i behind few within set' = gone-at marks (v ∷ vs) k i (get_or (v ∷ vs) i v) behind few within (get_or_default (v ∷ vs) i v (get_or (v ∷ vs) i v) within) set'

pub swept-kept : (marks : List Bool) (ys zs : List Version) (k i : ℕ) → k ≤ i → i < length marks → i < length ys → SwappedAt ys zs k i → get_or marks i false ≡ false
    → take (k + 1) zs ++ unmarked (drop (i + 1) marks) (drop (i + 1) zs) ≡ take k ys ++ unmarked (drop i marks) (drop i ys)
swept-kept marks [] zs k i behind few within swapped unset = absurd (omega arith)
swept-kept marks (v ∷ vs) zs k i behind few within swapped unset =
    kept-at marks (v ∷ vs) k i (get_or (v ∷ vs) i v) behind few within (get_or_default (v ∷ vs) i v (get_or (v ∷ vs) i v) within) zs swapped unset

-- at the end what was kept is all
pub swept-all : (marks : List Bool) (ys zs : List Version) (k i : ℕ) → length marks ≤ i → length ys ≤ i → take k ys ++ unmarked (drop i marks) (drop i ys) ≡ zs → take k ys ≡ zs
swept-all marks ys zs k i few less e =
    sym (append-nil (take k ys)) ∙ ap (λ z. take k ys ++ z) (sym (ap (λ ms. unmarked ms (drop i ys)) (drop_of_length-le marks few) ∙ drop_of_length-le ys less)) ∙ e
