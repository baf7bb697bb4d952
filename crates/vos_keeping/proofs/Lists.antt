-- Lists put in order, and filtered or mapped.
use Rattle.std.proofs.Common.{◌≡◌, ℕ, ◌≤◌, Bool, true, false, not, cond, List, [], ◌∷◌, length, map, refl, sym, ap, ◌∙◌, arith}
use Rattle.std.specs.Prelude.{All, filter, if◌then◌else◌}
use Rattle.std.proofs.lemmas.List.Elements.{All-cons, All-head, All-nil, All-tail}
use Rattle.daos_model.specs.Answers.{is_before}
use Rattle.daos_model.specs.BoolLaws.{and_left, and_right, clash}
use Rattle.daos_model.specs.OrderLaws.{in_order-puts, not_before-trans}
use Rattle.daos_model.specs.Ordered.{all_from, in_order, is_in_order, put, puts}
use Rattle.vos_levels.specs.Levels.{map_those, without_those}
use Rattle.vos_tables.proofs.Order.{map-put}

pub on_all : {A : Type 0} (P Q : A → Type 0) → ((a : A) → P a → Q a) → (xs : List A) → All P xs → All Q xs
on_all P Q on [] all = All-nil Q
on_all P Q on (x ∷ xs) all = All-cons Q x xs (on x (All-head P x xs all)) (on_all P Q on xs (All-tail P x xs all))

pub of_map : {A B : Type 0} (P : B → Type 0) (f : A → B) (xs : List A) → All (λ a. P (f a)) xs → All P (map f xs)
of_map P f [] all = All-nil P
of_map P f (x ∷ xs) all = All-cons P (f x) (map f xs) (All-head (λ a. P (f a)) x xs all) (of_map P f xs (All-tail (λ a. P (f a)) x xs all))

-- what holds where the test passes holds of those that are left
pub of_filter : {A : Type 0} (P : A → Type 0) (t : A → Bool) (xs : List A) → All (λ a. t a ≡ true → P a) xs → All P (filter t xs)
of_filter P t [] all = All-nil P
of_filter P t (x ∷ xs) all = by (t x) refl (of_filter P t xs (All-tail (λ a. t a ≡ true → P a) x xs all))
  where
    by : (b : Bool) → t x ≡ b → All P (filter t xs) → All P (cond b (x ∷ filter t xs) (filter t xs))
    by true is rest = All-cons P x (filter t xs) (All-head (λ a. t a ≡ true → P a) x xs all is) rest
    by false is rest = rest

-- ---- filters

pub all_stay : {A : Type 0} (t : A → Bool) (xs : List A) → All (λ a. t a ≡ true) xs → filter t xs ≡ xs
all_stay t [] all = refl
all_stay t (x ∷ xs) all =
    ap (λ (b : Bool). cond b (x ∷ filter t xs) (filter t xs)) (All-head (λ a. t a ≡ true) x xs all) ∙ ap (λ (z : List _). x ∷ z) (all_stay t xs (All-tail (λ a. t a ≡ true) x xs all))

pub same_filter : {A : Type 0} (t u : A → Bool) (xs : List A) → All (λ a. t a ≡ u a) xs → filter t xs ≡ filter u xs
same_filter t u [] all = refl
same_filter t u (x ∷ xs) all =
    let rest = same_filter t u xs (All-tail (λ a. t a ≡ u a) x xs all) in
    ap (λ (b : Bool). cond b (x ∷ filter t xs) (filter t xs)) (All-head (λ a. t a ≡ u a) x xs all) ∙ ap (λ (z : List _). cond (u x) (x ∷ z) z) rest

-- what the second test leaves the first one passes over, where those that fail the first fail the second
pub filter_twice : {A : Type 0} (t u : A → Bool) (xs : List A) → All (λ a. u a ≡ false → t a ≡ false) xs → filter t (filter u xs) ≡ filter t xs
filter_twice t u [] all = refl
filter_twice t u (x ∷ xs) all = by (u x) refl (filter_twice t u xs (All-tail (λ a. u a ≡ false → t a ≡ false) x xs all))
  where
    by : (b : Bool) → u x ≡ b → filter t (filter u xs) ≡ filter t xs → filter t (cond b (x ∷ filter u xs) (filter u xs)) ≡ filter t (x ∷ xs)
    by true is rest = ap (λ (z : List _). cond (t x) (x ∷ z) z) rest
    by false is rest = rest ∙ sym (ap (λ (b : Bool). cond b (x ∷ filter t xs) (filter t xs)) (All-head (λ a. u a ≡ false → t a ≡ false) x xs all is))

pub fewer_mapped : {A : Type 0} (t : A → Bool) (f : A → A) → ((a : A) → t (f a) ≡ true → t a ≡ true) → (xs : List A) → length (filter t (map f xs)) ≤ length (filter t xs)
fewer_mapped t f less [] = omega arith
fewer_mapped t f less (x ∷ xs) = by (t (f x)) refl (t x) refl (fewer_mapped t f less xs)
  where
    by : (b : Bool) → t (f x) ≡ b → (d : Bool) → t x ≡ d → length (filter t (map f xs)) ≤ length (filter t xs) → length (cond b (f x ∷ filter t (map f xs)) (filter t (map f xs))) ≤ length (cond d (x ∷ filter t xs) (filter t xs))
    by true is true was rest = omega (arith, rest)
    by true is false was rest = absurd (let no = less x is in clash (t x) no was)
    by false is true was rest = omega (arith, rest)
    by false is false was rest = omega (arith, rest)

pub fewer_left : {A : Type 0} (t u : A → Bool) (xs : List A) → length (filter t (filter u xs)) ≤ length (filter t xs)
fewer_left t u [] = omega arith
fewer_left t u (x ∷ xs) = by (u x) (t x) refl (fewer_left t u xs)
  where
    by : (b d : Bool) → t x ≡ d → length (filter t (filter u xs)) ≤ length (filter t xs) → length (filter t (cond b (x ∷ filter u xs) (filter u xs))) ≤ length (cond d (x ∷ filter t xs) (filter t xs))
    by true true is rest = rw is (omega (arith, rest))
    by true false is rest = rw is (omega (arith, rest))
    by false true is rest = omega (arith, rest)
    by false false is rest = omega (arith, rest)

-- ---- those that pass a test

pub mapped_all : {A B : Type 0} (g : A → B) (t : A → Bool) (f : A → A) (h : B → B) → ((a : A) → g (if t a then f a else a) ≡ h (g a)) → (xs : List A) → map g (map_those t f xs) ≡ map h (map g xs)
mapped_all g t f h same [] = refl
mapped_all g t f h same (x ∷ xs) = ap (λ z. z ∷ map g (map_those t f xs)) (same x) ∙ ap (λ (z : List _). h (g x) ∷ z) (mapped_all g t f h same xs)

pub without_all : {A B : Type 0} (g : A → B) (t : A → Bool) (u : B → Bool) → ((a : A) → u (g a) ≡ not (t a)) → (xs : List A) → map g (without_those t xs) ≡ filter u (map g xs)
without_all g t u same [] = refl
without_all g t u same (x ∷ xs) = by (t x) refl (without_all g t u same xs)
  where
    by : (b : Bool) → t x ≡ b → map g (without_those t xs) ≡ filter u (map g xs) → map g (if b then without_those t xs else x ∷ without_those t xs) ≡ cond (u (g x)) (g x ∷ filter u (map g xs)) (filter u (map g xs))
    by true is rest = rest ∙ sym (ap (λ (b : Bool). cond b (g x ∷ filter u (map g xs)) (filter u (map g xs))) (same x ∙ ap not is))
    by false is rest = ap (λ (z : List _). g x ∷ z) rest ∙ sym (ap (λ (b : Bool). cond b (g x ∷ filter u (map g xs)) (filter u (map g xs))) (same x ∙ ap not is))

-- ---- order

module _ {T : Type 0} (key : T → List ℕ) where
  mapped_puts : (f : T → T) → ((v : T) → key (f v) ≡ key v) → (vs us : List T) → puts key (map f vs) (map f us) ≡ map f (puts key vs us)
  mapped_puts f same [] us = refl
  mapped_puts f same (v ∷ vs) us = ap (put key (f v)) (mapped_puts f same vs us) ∙ sym (map-put key key f same v (puts key vs us))

  -- elements that come to be others with the same keys stand in the same order
  pub mapped_in_order : (f : T → T) → ((v : T) → key (f v) ≡ key v) → (vs : List T) → in_order key (map f vs) ≡ map f (in_order key vs)
  unfolding in_order
  mapped_in_order f same vs = mapped_puts f same vs []

  lower : (j k : List ℕ) (us : List T) → is_before k j ≡ false → all_from key k us ≡ true → all_from key j us ≡ true
  lower j k [] le h = refl
  lower j k (u ∷ us) le h =
      let here = not_before-trans j k (key u) le (is_not (is_before (key u) k) (and_left (not (is_before (key u) k)) (all_from key k us) h)) in
      let rest = lower j k us le (and_right (not (is_before (key u) k)) (all_from key k us) h) in
      rw (here, rest) refl
    where
      is_not : (b : Bool) → not b ≡ true → b ≡ false
      is_not true e = absurd (cc)
      is_not false e = refl

  left_from : (t : T → Bool) (k : List ℕ) (us : List T) → all_from key k us ≡ true → all_from key k (filter t us) ≡ true
  left_from t k [] h = refl
  left_from t k (u ∷ us) h =
      let here = and_left (not (is_before (key u) k)) (all_from key k us) h in
      let rest = left_from t k us (and_right (not (is_before (key u) k)) (all_from key k us) h) in
      elim (t u) as (λ b. all_from key k (cond b (u ∷ filter t us) (filter t us)) ≡ true) [ true ↦ rw (here, rest) refl | false ↦ rest ]

  put_first : (v : T) (us : List T) → all_from key (key v) us ≡ true → put key v us ≡ v ∷ us
  put_first v [] h = refl
  put_first v (u ∷ us) h = by (is_before (key u) (key v)) (and_left (not (is_before (key u) (key v))) (all_from key (key v) us) h)
    where
      by : (b : Bool) → not b ≡ true → (if b then u ∷ put key v us else v ∷ u ∷ us) ≡ v ∷ u ∷ us
      by true e = absurd (cc)
      by false e = refl

  kept_put : (t : T → Bool) (v : T) (us : List T) → t v ≡ true → is_in_order key us ≡ true → filter t (put key v us) ≡ put key v (filter t us)
  kept_put t v [] is order = rw is refl
  kept_put t v (u ∷ us) is order = by (is_before (key u) (key v)) refl (t u) refl (kept_put t v us is (and_right (all_from key (key u) us) (is_in_order key us) order))
    where
      by : (b : Bool) → is_before (key u) (key v) ≡ b → (d : Bool) → t u ≡ d → filter t (put key v us) ≡ put key v (filter t us)
          → filter t (if b then u ∷ put key v us else v ∷ u ∷ us) ≡ put key v (cond d (u ∷ filter t us) (filter t us))
      by true before true here rest = rw (before, here) (ap (λ (z : List T). u ∷ z) rest)
      by true before false here rest = rw here rest
      by false before d here rest =
          let from = lower (key v) (key u) us before (and_left (all_from key (key u) us) (is_in_order key us) order) in
          let all : all_from key (key v) (u ∷ us) ≡ true = rw (before, from) refl in
          ap (λ (b : Bool). cond b (v ∷ filter t (u ∷ us)) (filter t (u ∷ us))) is
          ∙ (sym (put_first v (filter t (u ∷ us)) (left_from t (key v) (u ∷ us) all)) ∙ ap (λ (b : Bool). put key v (cond b (u ∷ filter t us) (filter t us))) here)

  gone_put : (t : T → Bool) (v : T) (us : List T) → t v ≡ false → filter t (put key v us) ≡ filter t us
  gone_put t v [] is = rw is refl
  gone_put t v (u ∷ us) is = by (is_before (key u) (key v)) (gone_put t v us is)
    where
      by : (b : Bool) → filter t (put key v us) ≡ filter t us → filter t (if b then u ∷ put key v us else v ∷ u ∷ us) ≡ filter t (u ∷ us)
      by true rest = ap (λ (z : List T). cond (t u) (u ∷ z) z) rest
      by false rest = rw is refl

  filtered_puts : (t : T → Bool) (vs : List T) → puts key (filter t vs) [] ≡ filter t (puts key vs [])
  filtered_puts t [] = refl
  filtered_puts t (v ∷ vs) = by (t v) refl (filtered_puts t vs)
    where
      by : (b : Bool) → t v ≡ b → puts key (filter t vs) [] ≡ filter t (puts key vs []) → puts key (cond b (v ∷ filter t vs) (filter t vs)) [] ≡ filter t (put key v (puts key vs []))
      by true is rest = ap (put key v) rest ∙ sym (kept_put t v (puts key vs []) is (in_order-puts key vs [] refl))
      by false is rest = rest ∙ sym (gone_put t v (puts key vs []) is)

  -- those that stay stand in the same order
  pub filtered_in_order : (t : T → Bool) (vs : List T) → in_order key (filter t vs) ≡ filter t (in_order key vs)
  unfolding in_order
  filtered_in_order t vs = filtered_puts t vs

  -- what holds of all in order holds of all
  of_put : (P : T → Type 0) (v : T) (us : List T) → All P (put key v us) → P v × All P us
  of_put P v [] all = (All-head P v [] all, All-nil P)
  of_put P v (u ∷ us) all = by (is_before (key u) (key v)) all (of_put P v us)
    where
      by : (b : Bool) → All P (if b then u ∷ put key v us else v ∷ u ∷ us) → (All P (put key v us) → P v × All P us) → P v × All P (u ∷ us)
      by true all on = let rest = on (All-tail P u (put key v us) all) in (rest.0, All-cons P u us (All-head P u (put key v us) all) rest.1)
      by false all on = (All-head P v (u ∷ us) all, All-tail P v (u ∷ us) all)

  of_puts : (P : T → Type 0) (vs : List T) → All P (puts key vs []) → All P vs
  of_puts P [] all = All-nil P
  of_puts P (v ∷ vs) all = let parts = of_put P v (puts key vs []) all in All-cons P v vs parts.0 (of_puts P vs parts.1)

  pub of_order : (P : T → Type 0) (vs : List T) → All P (in_order key vs) → All P vs
  unfolding in_order
  of_order P vs all = of_puts P vs all
