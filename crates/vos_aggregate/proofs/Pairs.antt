-- A list rises where each of its elements is before the next.
use Rattle.std.proofs.Common.{◌≡◌, ℕ, zero, suc, ◌+◌, ◌<◌, ◌≤◌, Bool, true, false, ◌&&◌, List, [], ◌∷◌, length, get_or, drop, refl, sym, ◌∙◌, ap, arith}
use Rattle.daos_model.specs.declared.durable.Version.{Version}
use Rattle.daos_model.specs.Answers.{is_before}
use Rattle.daos_model.specs.BoolLaws.{and_left, and_right, both}
use Rattle.daos_model.specs.Durables.{version_key}
use Rattle.daos_model.specs.OrderLaws.{before-trans}
use Rattle.daos_model.specs.Ordered.{all_after, is_rising}

and-false : (a : Bool) → (a && false) ≡ false
and-false true = refl
and-false false = refl

after-lower : (j k : List ℕ) (xs : List Version) → is_before j k ≡ true → all_after version_key k xs ≡ true → all_after version_key j xs ≡ true
after-lower j k [] lt h = refl
after-lower j k (x ∷ xs) lt h =
    both (is_before j (version_key x)) (all_after version_key j xs)
    (before-trans j k (version_key x) lt (and_left (is_before k (version_key x)) (all_after version_key k xs) h))
    (after-lower j k xs lt (and_right (is_before k (version_key x)) (all_after version_key k xs) h))

rising-two : (x y : Version) (ys : List Version) → is_rising version_key (x ∷ y ∷ ys) ≡ (is_before (version_key x) (version_key y) && is_rising version_key (y ∷ ys))
rising-two x y ys = by (is_before (version_key x) (version_key y)) (all_after version_key (version_key y) ys) refl refl
  where
    by : (b a : Bool) → is_before (version_key x) (version_key y) ≡ b → all_after version_key (version_key y) ys ≡ a
        → ((b && all_after version_key (version_key x) ys) && (a && is_rising version_key ys)) ≡ (b && (a && is_rising version_key ys))
    by false a e f = refl
    by true false e f = and-false (all_after version_key (version_key x) ys)
    by true true e f = ap (λ c. c && is_rising version_key ys) (after-lower (version_key x) (version_key y) ys e f)

rising-step : (vs : List Version) (j : ℕ) (d e : Version) → suc j < length vs → is_rising version_key (drop j vs) ≡ (is_before (version_key (get_or vs j d)) (version_key (get_or vs (suc j) e)) && is_rising version_key (drop (suc j) vs))
rising-step [] j d e lt = absurd (omega arith)
rising-step (x ∷ []) j d e lt = absurd (omega arith)
rising-step (x ∷ y ∷ ys) zero d e lt = rising-two x y ys
rising-step (x ∷ y ∷ ys) (suc j) d e lt = rising-step (y ∷ ys) j d e (omega arith)

-- one pair more: i stands behind j
module _ (vs : List Version) (i j : ℕ) (d e : Version) (next : i ≡ j + 1) (within : i < length vs) (all : Bool) (so_far : is_rising version_key (drop j vs) ≡ all) where
  step : is_rising version_key (drop j vs) ≡ (is_before (version_key (get_or vs j d)) (version_key (get_or vs i e)) && is_rising version_key (drop i vs))
  step =
      let same : suc j ≡ i = omega arith in
      rising-step vs j d e (omega arith) ∙ ap (λ n. is_before (version_key (get_or vs j d)) (version_key (get_or vs n e)) && is_rising version_key (drop n vs)) same

  pub pair-rises : (n : ℕ) → n ≡ i → is_before (version_key (get_or vs j d)) (version_key (get_or vs i e)) ≡ true → is_rising version_key (drop n vs) ≡ all
  pair-rises n same before =
      ap (λ m. is_rising version_key (drop m vs)) same ∙ sym (ap (λ b. b && is_rising version_key (drop i vs)) before) ∙ sym step ∙ so_far

  pub pair-falls : is_before (version_key (get_or vs j d)) (version_key (get_or vs i e)) ≡ false → false ≡ all
  pair-falls not = sym (ap (λ b. b && is_rising version_key (drop i vs)) not) ∙ sym step ∙ so_far

pub rises-at_end : (vs : List Version) (j : ℕ) → length vs ≤ j + 1 → true ≡ is_rising version_key (drop j vs)
rises-at_end [] zero few = refl
rises-at_end [] (suc j) few = refl
rises-at_end (x ∷ []) zero few = refl
rises-at_end (x ∷ y ∷ ys) zero few = absurd (omega arith)
rises-at_end (x ∷ xs) (suc j) few = rises-at_end xs j (omega arith)
