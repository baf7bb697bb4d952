-- The last that passes, of a list in order, is the newest of the list.
use Rattle.std.proofs.Common.{◌≡◌, ℕ, Bool, true, false, ◌&&◌, ◌||◌, not, List, [], ◌∷◌, ◌++◌, Option, Some, None, refl, sym, ap, ◌∙◌}
use Rattle.std.specs.Prelude.{if◌then◌else◌}
use Rattle.std.specs.List.{list_any}
use Rattle.daos_model.specs.Answers.{is_before}
use Rattle.daos_model.specs.BoolLaws.{and_left, and_right, both, not_true}
use Rattle.daos_model.specs.Ordered.{all_from, in_order, is_in_order, put, puts}
use Rattle.daos_model.specs.OrderLaws.{before-asym, before-trans, in_order-puts, not_before-trans}
use Rattle.vos_newest.specs.Newest.{if_passes, later_of, newest}

abbrev pub or_else : {T : Type 0} → Option T → Option T → Option T
or_else (Some x) y = Some x
or_else None y = y

-- the last that passes
abbrev pub last_of : {T : Type 0} → (T → Bool) → List T → Option T
last_of test [] = None
last_of test (v ∷ vs) = or_else (last_of test vs) (if_passes test v)

inside : {T : Type 0} (a b : T) → Some a ≡ Some b → a ≡ b
inside a b h = cc

module _ {T : Type 0} (key : T → List ℕ) where
  later_none : (x : Option T) → later_of key x None ≡ x
  later_none None = refl
  later_none (Some a) = refl

  -- of three it makes no difference which two are compared first
  pub later_assoc : (x y z : Option T) → later_of key (later_of key x y) z ≡ later_of key x (later_of key y z)
  later_assoc None y z = refl
  later_assoc (Some a) None z = refl
  later_assoc (Some a) (Some b) None = later_none (if is_before (key b) (key a) then Some a else Some b)
  later_assoc (Some a) (Some b) (Some c) = by (is_before (key b) (key a)) (is_before (key c) (key b)) (is_before (key c) (key a)) refl refl refl
    where
      by : (p q r : Bool) → is_before (key b) (key a) ≡ p → is_before (key c) (key b) ≡ q → is_before (key c) (key a) ≡ r
          → later_of key (if p then Some a else Some b) (Some c) ≡ later_of key (Some a) (if q then Some b else Some c)
      by true true r e f g = let h = before-trans (key c) (key b) (key a) f e in ap (λ (t : Bool). if t then Some a else Some c) h ∙ sym (ap (λ (t : Bool). if t then Some a else Some b) e)
      by true false r e f g = refl
      by false true r e f g = ap (λ (t : Bool). if t then Some b else Some c) f ∙ sym (ap (λ (t : Bool). if t then Some a else Some b) e)
      by false false r e f g =
          let h = not_before-trans (key a) (key b) (key c) e f in
          ap (λ (t : Bool). if t then Some b else Some c) f ∙ sym (ap (λ (t : Bool). if t then Some a else Some c) h)

  pub newest_append : (test : T → Bool) (vs ws : List T) → newest key test (vs ++ ws) ≡ later_of key (newest key test vs) (newest key test ws)
  newest_append test [] ws = refl
  newest_append test (v ∷ vs) ws = ap (later_of key (if_passes test v)) (newest_append test vs ws) ∙ sym (later_assoc (if_passes test v) (newest key test vs) (newest key test ws))

  pub newest_none : (test : T → Bool) (vs : List T) → list_any test vs ≡ false → newest key test vs ≡ None
  newest_none test [] h = refl
  newest_none test (v ∷ vs) h = by (test v) h (newest_none test vs)
    where
      by : (t : Bool) → (t || list_any test vs) ≡ false → (list_any test vs ≡ false → newest key test vs ≡ None) → later_of key (if t then Some v else None) (newest key test vs) ≡ None
      by true h r = absurd (let n : ⊥ = cc in n)
      by false h r = r h

  -- ---- in order

  from_lower : (j k : List ℕ) (us : List T) → is_before k j ≡ false → all_from key k us ≡ true → all_from key j us ≡ true
  from_lower j k [] le h = refl
  from_lower j k (u ∷ us) le h =
      let one = not_before-trans j k (key u) le (not_true (is_before (key u) k) (and_left (not (is_before (key u) k)) (all_from key k us) h)) in
      both (not (is_before (key u) j)) (all_from key j us) (ap not one) (from_lower j k us le (and_right (not (is_before (key u) k)) (all_from key k us) h))

  -- the last that passes isn't before a key that none is before
  last_from : (test : T → Bool) (k : List ℕ) (us : List T) (w : T) → all_from key k us ≡ true → last_of test us ≡ Some w → is_before (key w) k ≡ false
  last_from test k [] w h e = absurd (let n : ⊥ = cc in n)
  last_from test k (u ∷ us) w h e = by (last_of test us) (test u) e (last_from test k us w (and_right (not (is_before (key u) k)) (all_from key k us) h))
    where
      by : (x : Option T) (t : Bool) → or_else x (if t then Some u else None) ≡ Some w → (x ≡ Some w → is_before (key w) k ≡ false) → is_before (key w) k ≡ false
      by (Some y) t f r = r f
      by None true f r = ap (λ z. is_before (key z) k) (sym (inside u w f)) ∙ not_true (is_before (key u) k) (and_left (not (is_before (key u) k)) (all_from key k us) h)
      by None false f r = absurd (let n : ⊥ = cc in n)

  passes_is : (test : T → Bool) (x a : T) → if_passes test x ≡ Some a → x ≡ a
  passes_is test x a e = by (test x) e
    where
      by : (t : Bool) → (if t then Some x else None) ≡ Some a → x ≡ a
      by true e = inside x a e
      by false e = absurd (let n : ⊥ = cc in n)

  -- one that is put behind another which is before it
  over : (x p q : Option T) → ((a b : T) → p ≡ Some a → q ≡ Some b → is_before (key b) (key a) ≡ true) → or_else (later_of key p x) q ≡ later_of key p (or_else x q)
  over (Some w) None q less = refl
  over (Some w) (Some a) q less = by (is_before (key w) (key a))
    where
      by : (t : Bool) → or_else (if t then Some a else Some w) q ≡ (if t then Some a else Some w)
      by true = refl
      by false = refl
  over None None q less = refl
  over None (Some a) None less = refl
  over None (Some a) (Some b) less = sym (ap (λ (t : Bool). if t then Some a else Some b) (less a b refl refl))

  -- one that is put in front of what isn't before it
  front : (p y : Option T) → ((a w : T) → p ≡ Some a → y ≡ Some w → is_before (key w) (key a) ≡ false) → or_else y p ≡ later_of key p y
  front p None high = sym (later_none p)
  front None (Some w) high = refl
  front (Some a) (Some w) high = sym (ap (λ (t : Bool). if t then Some a else Some w) (high a w refl refl))

  last_put : (test : T → Bool) (v : T) (us : List T) → is_in_order key us ≡ true → last_of test (put key v us) ≡ later_of key (if_passes test v) (last_of test us)
  last_put test v [] h = sym (later_none (if_passes test v))
  last_put test v (u ∷ us) h = by (is_before (key u) (key v)) refl (last_put test v us (and_right (all_from key (key u) us) (is_in_order key us) h))
    where
      by : (t : Bool) → is_before (key u) (key v) ≡ t → last_of test (put key v us) ≡ later_of key (if_passes test v) (last_of test us) → last_of test (if t then u ∷ put key v us else v ∷ u ∷ us) ≡ later_of key (if_passes test v) (last_of test (u ∷ us))
      by true e r =
          ap (λ z. or_else z (if_passes test u)) r
          ∙ over (last_of test us) (if_passes test v) (if_passes test u) (λ a b pa pb. ap (λ z. is_before (key b) (key z)) (sym (passes_is test v a pa)) ∙ (ap (λ z. is_before (key z) (key v)) (sym (passes_is test u b pb)) ∙ e))
      by false e r =
          let from : all_from key (key v) (u ∷ us) ≡ true = both (not (is_before (key u) (key v))) (all_from key (key v) us) (ap not e) (from_lower (key v) (key u) us e (and_left (all_from key (key u) us) (is_in_order key us) h)) in
          front (if_passes test v) (last_of test (u ∷ us)) (λ a w pa pw. ap (λ z. is_before (key w) (key z)) (sym (passes_is test v a pa)) ∙ last_from test (key v) (u ∷ us) w from pw)

  last_puts : (test : T → Bool) (vs : List T) → last_of test (puts key vs []) ≡ newest key test vs
  last_puts test [] = refl
  last_puts test (v ∷ vs) = last_put test v (puts key vs []) (in_order-puts key vs [] refl) ∙ ap (later_of key (if_passes test v)) (last_puts test vs)

  pub last_in_order : (test : T → Bool) (vs : List T) → last_of test (in_order key vs) ≡ newest key test vs
  unfolding in_order
  last_in_order test vs = last_puts test vs
