-- The first of a list that passes a test, where the list is made of others.
use Rattle.std.proofs.Common.{◌≡◌, ◌&&◌, Bool, true, false, List, [], ◌∷◌, ◌++◌, Option, Some, None, map, refl, sym, ap, ◌∙◌, inl, inr}
use Rattle.std.specs.Prelude.{filter, if◌then◌else◌}
use Rattle.std.specs.List.{find, list_any}
use Rattle.std.specs.Option.{option_map}
use Rattle.pmem_pages.specs.Blocks.{Blocks}
use Rattle.pmem_pages.specs.Owners.{Holds}
use Rattle.pmem_pages.specs.Shape.{entries}
use Rattle.pmem_pages.specs.declared.node.TreeKey.{TreeKey}
use Rattle.vos_levels.specs.Levels.{Hung, Level, TellsKey, hung, is_level, things}
use Rattle.vos_levels.proofs.Settling.{spot_stands}
use Rattle.vos_levels.proofs.Spots.{find_none, find_spot, first_false, look, then_false}
use Rattle.vos_path.specs.Objects.{or_none, together}
use Rattle.vos_path.proofs.Lists.{filter_append, map_append, together_append}
use Rattle.vos_path.proofs.Putting.{tells_level}
use Rattle.vos_settle.proofs.Flat.{any_among}

pub find_right : {V : Type 0} (test : V → Bool) (xs ys : List V) → list_any test xs ≡ false → find test (xs ++ ys) ≡ find test ys
find_right test [] ys n = refl
find_right test (x ∷ xs) ys n = let no_one = first_false (test x) (list_any test xs) n in rw no_one (find_right test xs ys (then_false (test x) (list_any test xs) n))

pub find_left : {V : Type 0} (test : V → Bool) (xs ys : List V) → list_any test ys ≡ false → find test (xs ++ ys) ≡ find test xs
find_left test [] ys n = find_none test ys n
find_left test (x ∷ xs) ys n = ap (λ z. if test x then Some x else z) (find_left test xs ys n)

-- ---- one thing of a level

module _ {A V W : Type 0} (L : Level A) (k : TreeKey) (m : Blocks) (g : Hung A) (held : Holds (hung L) m g) (shown : A → List V) (test : V → Bool) (read : V → W) (w : A → Option W)
    (others : (a : A) → is_level L k a ≡ false → list_any test (shown a) ≡ false) (one : (a : A) → Holds L.owner m a → L.Good a → is_level L k a ≡ true → w a ≡ option_map read (find test (shown a))) where
  pub find_together : or_none w None (find (is_level L k) (things g)) ≡ option_map read (find test (together shown (things g)))
  find_together =
      elim (look L k (is_level L k) (tells_level L k) (entries g.0) g.1 held.here.1.leads held.here.1.rises) [
        | inl s ↦
            let a = s.1.0 in
            let t = s.1.1 in
            let found : find (is_level L k) (things g) ≡ Some a = ap (find (is_level L k)) t.things_are ∙ find_spot (is_level L k) t.left a t.right t.none_left t.passes in
            let split = ap (together shown) t.things_are ∙ together_append shown t.left (a ∷ t.right) in
            let first = find_right test (together shown t.left) (shown a ++ together shown t.right) (any_among test (is_level L k) shown t.left t.none_left others) in
            let last = find_left test (shown a) (together shown t.right) (any_among test (is_level L k) shown t.right t.none_right others) in
            ap (or_none w None) found ∙ (one a (spot_stands L k (is_level L k) m g s.0 a held t) t.leads.good t.passes ∙ ap (option_map read) (sym (ap (find test) split ∙ (first ∙ last))))
        | inr n ↦ ap (or_none w None) (find_none (is_level L k) (things g) n.none) ∙ ap (option_map read) (sym (find_none test (together shown (things g)) (any_among test (is_level L k) shown (things g) n.none others)))
      ]

-- ---- a list with one that is at a place

-- what is read of the one at a place, if it is wanted
abbrev pub when : {A W : Type 0} → (A → Bool) → (A → W) → Option A → Option W
when want read None = None
when want read (Some a) = if want a then Some (read a) else None

module _ {A V W : Type 0} (at seen want : A → Bool) (shown : A → V) (test : V → Bool) (read : V → W) (same : (a : A) → seen a ≡ true → test (shown a) ≡ (at a && want a)) where
  none_seen : (xs : List A) → list_any at xs ≡ false → list_any test (map shown (filter seen xs)) ≡ false
  none_seen [] n = refl
  none_seen (x ∷ xs) n = by (seen x) refl (none_seen xs (then_false (at x) (list_any at xs) n))
    where
      by : (s : Bool) → seen x ≡ s → list_any test (map shown (filter seen xs)) ≡ false → list_any test (map shown (if s then x ∷ filter seen xs else filter seen xs)) ≡ false
      by true e r = let one : test (shown x) ≡ false = same x e ∙ ap (λ (b : Bool). b && want x) (first_false (at x) (list_any at xs) n) in rw (one, r) refl
      by false e r = r

  one_seen : (a : A) (right : List A) → at a ≡ true → list_any at right ≡ false → when (λ x. seen x && want x) (λ x. read (shown x)) (Some a) ≡ option_map read (find test (map shown (filter seen (a ∷ right))))
  one_seen a right here n = by (seen a) (want a) refl refl
    where
      rest : find test (map shown (filter seen right)) ≡ None
      rest = find_none test (map shown (filter seen right)) (none_seen right n)

      by : (s t : Bool) → seen a ≡ s → want a ≡ t → (if s && t then Some (read (shown a)) else None) ≡ option_map read (find test (map shown (if s then a ∷ filter seen right else filter seen right)))
      by true true e f = let one : test (shown a) ≡ true = same a e ∙ (ap (λ (b : Bool). b && want a) here ∙ f) in rw one refl
      by true false e f = let one : test (shown a) ≡ false = same a e ∙ (ap (λ (b : Bool). b && want a) here ∙ f) in rw (one, rest) refl
      by false t e f = rw rest refl

  module _ (L : Level A) (k : TreeKey) (tells : TellsKey L k at) (m : Blocks) (g : Hung A) (held : Holds (hung L) m g) where
    pub find_seen : when (λ x. seen x && want x) (λ x. read (shown x)) (find at (things g)) ≡ option_map read (find test (map shown (filter seen (things g))))
    find_seen =
        elim (look L k at tells (entries g.0) g.1 held.here.1.leads held.here.1.rises) [
          | inl s ↦
              let a = s.1.0 in
              let t = s.1.1 in
              let found : find at (things g) ≡ Some a = ap (find at) t.things_are ∙ find_spot at t.left a t.right t.none_left t.passes in
              let split = ap (λ z. map shown (filter seen z)) t.things_are ∙ (ap (map shown) (filter_append seen t.left (a ∷ t.right)) ∙ map_append shown (filter seen t.left) (filter seen (a ∷ t.right))) in
              let first = find_right test (map shown (filter seen t.left)) (map shown (filter seen (a ∷ t.right))) (none_seen t.left t.none_left) in
              ap (when (λ x. seen x && want x) (λ x. read (shown x))) found ∙ (one_seen a t.right t.passes t.none_right ∙ ap (option_map read) (sym (ap (find test) split ∙ first)))
          | inr n ↦ ap (when (λ x. seen x && want x) (λ x. read (shown x))) (find_none at (things g) n.none) ∙ ap (option_map read) (sym (find_none test (map shown (filter seen (things g))) (none_seen (things g) n.none)))
        ]

pub all_seen : {A : Type 0} (xs : List A) → filter (λ x. true) xs ≡ xs
all_seen [] = refl
all_seen (x ∷ xs) = ap (λ z. x ∷ z) (all_seen xs)

pub map_map : {A B C : Type 0} (f : B → C) (g : A → B) (xs : List A) → map f (map g xs) ≡ map (λ x. f (g x)) xs
map_map f g [] = refl
map_map f g (x ∷ xs) = ap (λ z. f (g x) ∷ z) (map_map f g xs)
