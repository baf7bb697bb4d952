-- The records of an extent are laid over what indexes hold.
use Rattle.std.proofs.Common.{◌≡◌, ◌≢◌, ℕ, ◌+◌, ◌-◌, ◌*◌, ◌/◌, ◌<◌, ◌≤◌, ◌&&◌, Bool, true, false, nat_le, nat_lt, List, length, take, drop, get_or, set, min, Option, None, refl, sym, ap, ◌∙◌, arith, inl, inr}
use Rattle.std.specs.Prelude.{if◌then◌else◌}
use Rattle.std.proofs.lemmas.Bool.{cases_lt}
use Rattle.std.proofs.lemmas.Bool.Decides.{eqb_tells, nat_tests}
use Rattle.std.proofs.lemmas.Grind.{get_or-set_at}
use Rattle.std.proofs.lemmas.List.{get_or-set_other, length-set}
use Rattle.std.proofs.Math.Nat.{div-mul-le_self, mul-le-mul_right}
use Rattle.vos_values.specs.declared.keys.Moment.{Moment}
use Rattle.vos_extent.specs.declared.cells.Cell.{Cell}
use Rattle.vos_extent.specs.Cells.{dated_in, dated_with, painted}

-- a record lies inside the bytes
pub record_inside : (number unit count : ℕ) → number < count / unit → (number + 1) * unit ≤ count
record_inside number unit count h =
    let a : (number + 1) * unit ≤ count / unit * unit = mul-le-mul_right unit (omega (arith, h)) in
    let b = div-mul-le_self count unit in
    omega (arith, a, b)

chosen_no : {A : Type 0} (t : Bool) (x y : A) → t ≡ false → (if t then x else y) ≡ y
chosen_no true x y h = absurd (let n : ⊥ = cc in n)
chosen_no false x y h = refl

chosen_yes : {A : Type 0} (t : Bool) (x y : A) → t ≡ true → (if t then x else y) ≡ x
chosen_yes true x y h = refl
chosen_yes false x y h = absurd (let n : ⊥ = cc in n)

before_low : (low i end : ℕ) → i < low → (nat_le low i && nat_lt i end) ≡ false
before_low low i end h = grind (arith, nat_tests)

behind_end : (low i end : ℕ) → end ≤ i → (nat_le low i && nat_lt i end) ≡ false
behind_end low i end h = grind (arith, nat_tests)

inside_both : (low i end : ℕ) → low ≤ i → i < end → (nat_le low i && nat_lt i end) ≡ true
inside_both low i end h k = grind (arith, nat_tests)

module _ (unit first low : ℕ) (moment : Moment) (bytes : List ℕ) (old : List (Option Cell)) where
  -- the indexes so far have their records
  pub record SoFar (i : ℕ) (now : List (Option Cell)) : Type 0 where
    pub long : length now ≡ length old
    pub done : (j : ℕ) → j < i → j < length old → dated_in unit (get_or now j None) ≡ painted unit (first + j) low moment bytes (dated_in unit (get_or old j None))
    pub rest : (j : ℕ) → i ≤ j → get_or now j None ≡ get_or old j None

  pub so_far_first : (i : ℕ) → i ≡ low - first → SoFar i old
  so_far_first i is = record {
    long = refl;
    done = λ j less inside. sym (chosen_no (nat_le low (first + j) && nat_lt (first + j) (low + length bytes / unit)) _ _ (before_low low (first + j) (low + length bytes / unit) (omega (arith, less, is))));
    rest = λ j more. refl;
  }

  pub so_far_next : (i number : ℕ) (now : List (Option Cell)) (new : Option Cell) → SoFar i now → i < length old → low ≤ first + i → first + i < low + length bytes / unit → number ≡ first + i - low
      → dated_in unit new ≡ dated_with (dated_in unit (get_or now i None)) (moment, take unit (drop (number * unit) bytes)) → SoFar (i + 1) (set now i new)
  so_far_next i number now new s inside from to is made = record {
    long = length-set now i new ∙ s.long;
    done = λ j less within. elim (eqb_tells j i) [
      | inl same ↦
          let here : get_or (set now i new) j None ≡ new = get_or-set_at now i j new None same.1 (omega (arith, inside, s.long)) in
          let shown : dated_in unit new ≡ dated_with (dated_in unit (get_or old i None)) (moment, take unit (drop ((first + i - low) * unit) bytes)) =
          made ∙ (ap (λ o. dated_with (dated_in unit o) (moment, take unit (drop (number * unit) bytes))) (s.rest i (omega arith)) ∙ ap (λ k. dated_with (dated_in unit (get_or old i None)) (moment, take unit (drop (k * unit) bytes))) is) in
          let yes : painted unit (first + i) low moment bytes (dated_in unit (get_or old i None)) ≡ dated_with (dated_in unit (get_or old i None)) (moment, take unit (drop ((first + i - low) * unit) bytes)) =
          chosen_yes (nat_le low (first + i) && nat_lt (first + i) (low + length bytes / unit)) _ _ (inside_both low (first + i) (low + length bytes / unit) from to) in
          ap (dated_in unit) here ∙ (shown ∙ (sym yes ∙ ap (λ k. painted unit (first + k) low moment bytes (dated_in unit (get_or old k None))) (sym same.1)))
      | inr other ↦ ap (dated_in unit) (get_or-set_other now i j new None other.1) ∙ s.done j (let n : j ≢ i = other.1 in omega (arith, less, n)) within
    ];
    rest = λ j more. get_or-set_other now i j new None (λ e. absurd (omega (arith, more, e))) ∙ s.rest j (omega (arith, more));
  }

  pub so_far_all : (i to : ℕ) (now : List (Option Cell)) → SoFar i now → to ≤ i → to ≡ min (length old) (low + length bytes / unit - first) → (j : ℕ) → j < length old → dated_in unit (get_or now j None) ≡ painted unit (first + j) low moment bytes (dated_in unit (get_or old j None))
  so_far_all i to now s over is j inside =
      elim (cases_lt j i) [
        | inl less ↦ s.done j less inside
        | inr more ↦
            let past : low + length bytes / unit ≤ first + j = omega (arith, over, is, more, inside) in
            ap (dated_in unit) (s.rest j (omega (arith, more))) ∙ sym (chosen_no (nat_le low (first + j) && nat_lt (first + j) (low + length bytes / unit)) _ _ (behind_end low (first + j) (low + length bytes / unit) past))
      ]
