-- The newest of things in the order of their moments, and of punches and a version.
use Rattle.std.proofs.Common.{◌≡◌, ℕ, ◌==◌, ◌&&◌, ◌||◌, nat_lt, Bool, true, false, List, [], ◌∷◌, Option, Some, None, map, refl, sym, ap, ◌∙◌}
use Rattle.std.specs.Prelude.{filter, if◌then◌else◌}
use Rattle.std.specs.Option.{option_map}
use Rattle.daos_model.specs.Answers.{is_before}
use Rattle.daos_model.specs.Durables.{version_key}
use Rattle.daos_model.specs.OrderLaws.{before-asym, before-itself}
use Rattle.daos_model.specs.Prunes.{is_punch}
use Rattle.daos_model.specs.declared.durable.Version.{Version}
use Rattle.vos_values.specs.declared.keys.Moment.{Moment}
use Rattle.vos_levels.specs.Levels.{find_last, or_else}
use Rattle.vos_levels.specs.Moments.{AllLater, Rise, is_earlier}
use Rattle.vos_newest.specs.Newest.{if_passes, later_of, newest}
use Rattle.vos_reads.specs.Ways.{later_moment}

-- the key of a moment in an object
abbrev pub key_at : List ℕ → Moment → List ℕ
key_at K m = m.epoch.0 ∷ m.minor ∷ K

pub earlier_before : (K : List ℕ) (a b : Moment) → is_before (key_at K a) (key_at K b) ≡ is_earlier a b
earlier_before K a b =
    ap (λ (t : Bool). nat_lt a.epoch.0 b.epoch.0 || ((a.epoch.0 == b.epoch.0) && (nat_lt a.minor b.minor || ((a.minor == b.minor) && t)))) (before-itself K)
    ∙ ap (λ (t : Bool). nat_lt a.epoch.0 b.epoch.0 || ((a.epoch.0 == b.epoch.0) && t)) (or_no (nat_lt a.minor b.minor) (a.minor == b.minor))
  where
    or_no : (s t : Bool) → (s || (t && false)) ≡ s
    or_no true t = refl
    or_no false true = refl
    or_no false false = refl

-- tests that agree on all of a list
abbrev pub AgreeOn : {A : Type 0} → (A → Bool) → (A → Bool) → List A → Type 0
AgreeOn p q [] = Unit {0}
AgreeOn p q (x ∷ xs) = (p x ≡ q x) × AgreeOn p q xs

module _ {A : Type 0} (moment : A → Moment) (f : A → Version) (K : List ℕ) (keys : (a : A) → version_key (f a) ≡ key_at K (moment a)) (t : Version → Bool) where
  all_later_found : (m : Moment) (want : A → Bool) (xs : List A) (w : A) → AllLater moment m xs → find_last want xs ≡ Some w → is_earlier m (moment w) ≡ true
  all_later_found m want [] w h e = absurd (let n : ⊥ = cc in n)
  all_later_found m want (x ∷ xs) w h e = by (find_last want xs) (want x) e (all_later_found m want xs w h.1)
    where
      by : (y : Option A) (b : Bool) → or_else y (if b then Some x else None) ≡ Some w → (y ≡ Some w → is_earlier m (moment w) ≡ true) → is_earlier m (moment w) ≡ true
      by (Some z) b e2 r = r e2
      by None true e2 r = let same : x ≡ w = cc in ap (λ z. is_earlier m (moment z)) (sym same) ∙ h.0
      by None false e2 r = absurd (let n : ⊥ = cc in n)

  -- the newest of things that rise is the last one
  pub rising_newest : (want : A → Bool) (xs : List A) → Rise moment xs → AgreeOn (λ a. t (f a)) want xs → newest version_key t (map f xs) ≡ option_map f (find_last want xs)
  rising_newest want [] r a = refl
  rising_newest want (x ∷ xs) r a = ap (later_of version_key (if_passes t (f x))) (rising_newest want xs r.1 a.1) ∙ by (find_last want xs) (t (f x)) (want x) a.0 (λ w e. all_later_found (moment x) want xs w r.0 e)
    where
      by : (y : Option A) (s b : Bool) → s ≡ b → ((w : A) → y ≡ Some w → is_earlier (moment x) (moment w) ≡ true) → later_of version_key (if s then Some (f x) else None) (option_map f y) ≡ option_map f (or_else y (if b then Some x else None))
      by None true true e l = refl
      by None false false e l = refl
      by None true false e l = absurd (let n : ⊥ = cc in n)
      by None false true e l = absurd (let n : ⊥ = cc in n)
      by (Some w) false b e l = refl
      by (Some w) true b e l =
          let before = ap (λ z. is_before z (version_key (f w))) (keys x) ∙ (ap (is_before (key_at K (moment x))) (keys w) ∙ (earlier_before K (moment x) (moment w) ∙ l w refl)) in
          ap (λ (z : Bool). if z then Some (f x) else Some (f w)) (before-asym (version_key (f x)) (version_key (f w)) before)

-- those that pass a test rise too
later_filter : {A : Type 0} (moment : A → Moment) (p : A → Bool) (m : Moment) (xs : List A) → AllLater moment m xs → AllLater moment m (filter p xs)
later_filter moment p m [] h = tt
later_filter {A = A} moment p m (x ∷ xs) h = by (p x) (later_filter moment p m xs h.1)
  where
    by : (b : Bool) → AllLater moment m (filter p xs) → AllLater moment m (if b then x ∷ filter p xs else filter p xs)
    by true r = (h.0, r)
    by false r = r

pub rise_filter : {A : Type 0} (moment : A → Moment) (p : A → Bool) (xs : List A) → Rise moment xs → Rise moment (filter p xs)
rise_filter moment p [] h = tt
rise_filter {A = A} moment p (x ∷ xs) h = by (p x) (rise_filter moment p xs h.1)
  where
    by : (b : Bool) → Rise moment (filter p xs) → Rise moment (if b then x ∷ filter p xs else filter p xs)
    by true r = (later_filter moment p (moment x) xs h.0, r)
    by false r = r

pub last_filter : {A : Type 0} (p q : A → Bool) (xs : List A) → find_last q (filter p xs) ≡ find_last (λ x. p x && q x) xs
last_filter p q [] = refl
last_filter {A = A} p q (x ∷ xs) = by (p x) (last_filter p q xs)
  where
    none : (y : Option A) → y ≡ or_else y None
    none None = refl
    none (Some a) = refl

    by : (b : Bool) → find_last q (filter p xs) ≡ find_last (λ z. p z && q z) xs → find_last q (if b then x ∷ filter p xs else filter p xs) ≡ or_else (find_last (λ z. p z && q z) xs) (if b && q x then Some x else None)
    by true r = ap (λ z. or_else z (if q x then Some x else None)) r
    by false r = r ∙ none (find_last (λ z. p z && q z) xs)

-- ---- punches, and a version

-- there is a punch of a moment, or none
abbrev pub IsPunchAt : List ℕ → Option Version → Option Moment → Type 0
IsPunchAt K None None = Unit {0}
IsPunchAt K None (Some m) = ⊥
IsPunchAt K (Some p) None = ⊥
IsPunchAt K (Some p) (Some m) = (is_punch p.write ≡ true) × (version_key p ≡ key_at K m)

pub before_is : (K : List ℕ) (u v : Version) (a b : Moment) → version_key u ≡ key_at K a → version_key v ≡ key_at K b → is_before (version_key u) (version_key v) ≡ is_earlier a b
before_is K u v a b e f = ap (λ z. is_before z (version_key v)) e ∙ (ap (is_before (key_at K a)) f ∙ earlier_before K a b)

pub later_punch : (K : List ℕ) (x y : Option Version) (q r : Option Moment) → IsPunchAt K x q → IsPunchAt K y r → IsPunchAt K (later_of version_key x y) (later_moment q r)
later_punch K None y None r h k = k
later_punch K None y (Some m) r h k = absurd h
later_punch K (Some p) y None r h k = absurd h
later_punch K (Some p) None (Some m) None h k = h
later_punch K (Some p) None (Some m) (Some n) h k = absurd k
later_punch K (Some p) (Some u) (Some m) None h k = absurd k
later_punch K (Some p) (Some u) (Some m) (Some n) h k = by (is_before (version_key u) (version_key p)) (is_earlier n m) (before_is K u p n m k.1 h.1)
  where
    by : (s b : Bool) → s ≡ b → IsPunchAt K (if s then Some p else Some u) (if b then Some m else Some n)
    by true true e = h
    by false false e = k
    by true false e = absurd (let z : ⊥ = cc in z)
    by false true e = absurd (let z : ⊥ = cc in z)

pub mapped_punch : {A : Type 0} (K : List ℕ) (f : A → Version) (moment : A → Moment) → ((a : A) → is_punch (f a).write ≡ true) → ((a : A) → version_key (f a) ≡ key_at K (moment a)) → (x : Option A) → IsPunchAt K (option_map f x) (option_map moment x)
mapped_punch K f moment p k None = tt
mapped_punch K f moment p k (Some a) = (p a, k a)
