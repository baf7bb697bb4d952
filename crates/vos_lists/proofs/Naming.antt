-- Names that a level lists are those below a path that have a cell: the same names, in byte order.
use Rattle.std.proofs.Common.{◌≡◌, ℕ, ◌||◌, Bool, true, false, List, [], ◌∷◌, ◌++◌, Option, Some, None, map, refl, sym, ap, ◌∙◌, subst, arith, inl, inr}
use Rattle.std.specs.Prelude.{filter, if◌then◌else◌}
use Rattle.std.specs.List.{find, list_any}
use Rattle.std.specs.Cmp.Lexicographic.{slice_cmp}
use Rattle.std.specs.Ordering.{is_lt, nat_cmp}
use Rattle.std.specs.declared.cmp.Ordering.{Ordering}
use Rattle.std.specs.declared.cmp.Ordering.TheVariants.{Less}
use Rattle.std.proofs.lemmas.Bool.Decides.{nat_tests}
use Rattle.std.proofs.lemmas.Cmp.{same_from_slice_cmp}
use Rattle.daos_model.specs.Answers.{in_byte_order, is_before}
use Rattle.daos_model.specs.BoolLaws.{both, clash}
use Rattle.daos_model.specs.Ordered.{all_after, is_rising}
use Rattle.daos_model.specs.OrderLaws.{rising-names}
use Rattle.model_laws.specs.Members.{Has, has-filter, has-from_filter}
use Rattle.model_laws.specs.NameLaws.{has-from_names, has-names}
use Rattle.model_laws.specs.RisingLaws.{rising-same}
use Rattle.pmem_pages.specs.Blocks.{Blocks}
use Rattle.pmem_pages.specs.Node.{key_cmp}
use Rattle.pmem_pages.specs.Owners.{Holds}
use Rattle.pmem_pages.specs.Shape.{AllAbove, Entry, Rises, entries}
use Rattle.pmem_pages.specs.declared.node.TreeKey.{TreeKey}
use Rattle.vos_values.specs.Keys.{IsName, name_key}
use Rattle.vos_values.proofs.KeyLaws.{names_order}
use Rattle.vos_levels.specs.Levels.{Hung, LeadToAll, Level, hung, is_level, things}
use Rattle.vos_levels.proofs.Spots.{find_none, find_spot, look}
use Rattle.vos_levels.proofs.Testing.{found_spot}
use Rattle.vos_path.proofs.Naming.{name_exact}
use Rattle.vos_path.proofs.Putting.{level_equal, tells_level}
use Rattle.vos_reads.proofs.Quiet.{level_own}
use Rattle.vos_lists.specs.Stands.{names_of}
use Rattle.vos_lists.proofs.Alive.{any_at}
use Rattle.vos_lists.proofs.Walking.{has_append}

-- ---- names in the order of their keys

less_before : (a b : List ℕ) (o : Ordering) → o ≡ slice_cmp nat_cmp a b → is_lt o ≡ is_before a b
less_before = same_from_slice_cmp nat_cmp is_lt is_before refl (λ y ys. refl) (λ x xs. refl) (λ x y xs ys o h. grind (arith, nat_tests))

names_before : (a b : List ℕ) → IsName a → IsName b → key_cmp (name_key a) (name_key b) ≡ Less → is_before a b ≡ true
names_before a b ha hb h = sym (less_before a b Less (sym h ∙ names_order a b ha hb))

-- ---- what stands in a list

has_map : {T U : Type 0} (f : T → U) (xs : List T) (x : T) → Has x xs → Has (f x) (map f xs)
has_map f [] x h = absurd h
has_map f (y ∷ xs) x (inl same) = inl (ap f same)
has_map f (y ∷ xs) x (inr h) = inr (has_map f xs x h)

record FromMap {T U : Type 0} (f : T → U) (xs : List T) (u : U) : Type 0 where
  thing : T
  has : Has thing xs
  is : u ≡ f thing

from_map : {T U : Type 0} (f : T → U) (xs : List T) (u : U) → Has u (map f xs) → FromMap f xs u
from_map f [] u h = absurd h
from_map f (x ∷ xs) u (inl same) = record { thing = x; has = inl refl; is = same }
from_map f (x ∷ xs) u (inr h) = let r = from_map f xs u h in record { thing = r.thing; has = inr r.has; is = r.is }

pub any_has : {T : Type 0} (test : T → Bool) (xs : List T) (a : T) → Has a xs → test a ≡ true → list_any test xs ≡ true
any_has test [] a h e = absurd h
any_has test (x ∷ xs) a (inl same) e = ap (λ b. b || list_any test xs) (ap test (sym same) ∙ e)
any_has test (x ∷ xs) a (inr i) e = or_true (test x) (list_any test xs) (any_has test xs a i e)
  where
    or_true : (s t : Bool) → t ≡ true → (s || t) ≡ true
    or_true true t k = refl
    or_true false t k = k

-- the one that passes a test, where none of the others does
only_one : {T : Type 0} (test : T → Bool) (left : List T) (b : T) (right : List T) (a : T) → list_any test left ≡ false → list_any test right ≡ false → test a ≡ true → Has a (left ++ b ∷ right) → a ≡ b
only_one test [] b right a n m h (inl same) = same
only_one test [] b right a n m h (inr i) = clash (list_any test right) (any_has test right a i h) m
only_one test (x ∷ left) b right a n m h (inl same) = clash (list_any test (x ∷ left)) (any_has test (x ∷ left) a (inl same) h) n
only_one test (x ∷ left) b right a n m h (inr i) = only_one test left b right a (rest (test x) (list_any test left) n) m h i
  where
    rest : (s t : Bool) → (s || t) ≡ false → t ≡ false
    rest true t e = absurd (let z : ⊥ = cc in z)
    rest false t e = e

-- ---- the names of a level

-- what a test says of a thing, if there is one
abbrev pub if_any : {A : Type 0} → (A → Bool) → Option A → Bool
if_any test None = false
if_any test (Some a) = test a

-- ---- a thing of a level is found by its own key

pub found_own : {A : Type 0} (L : Level A) (m : Blocks) (g : Hung A) → Holds (hung L) m g → (a : A) → Has a (things g) → find (is_level L (L.key a)) (things g) ≡ Some a
found_own L m g held a h =
    let k = L.key a in
    let own : is_level L k a ≡ true = level_own L k a refl in
    elim (look L k (is_level L k) (tells_level L k) (entries g.0) g.1 held.here.1.leads held.here.1.rises) [
      | inl s ↦
          let b = s.1.0 in
          let t = s.1.1 in
          let same : a ≡ b = only_one (is_level L k) t.left b t.right a t.none_left t.none_right own (subst (Has a) t.things_are h) in
          ap (find (is_level L k)) t.things_are ∙ (find_spot (is_level L k) t.left b t.right t.none_left t.passes ∙ ap (λ z. Some z) (sym same))
      | inr n ↦ clash (list_any (is_level L k) g.1) (any_has (is_level L k) g.1 a h own) n.none
    ]

-- and what is found is one of the level, and has the key
pub record FoundAt {A : Type 0} (L : Level A) (k : TreeKey) (xs : List A) (a : A) : Type 0 where
  pub has : Has a xs
  pub good : L.Good a
  pub level : is_level L k a ≡ true

pub found_at : {A : Type 0} (L : Level A) (k : TreeKey) (m : Blocks) (g : Hung A) → Holds (hung L) m g → (a : A) → find (is_level L k) (things g) ≡ Some a → FoundAt L k (things g) a
found_at {A = A} L k m g held a is =
    let s = found_spot L k (is_level L k) (tells_level L k) (entries g.0) g.1 a held.here.1.leads held.here.1.rises is in
    let t = s.1 in
    record { has = subst (Has a) (sym t.things_are) (has_append t.left a t.right); good = t.leads.good; level = t.passes }

-- a thing of a level is good
pub good_has : {A : Type 0} (L : Level A) (m : Blocks) (g : Hung A) → Holds (hung L) m g → (a : A) → Has a (things g) → L.Good a
good_has {A = A} L m g held a h = among (entries g.0) (things g) held.here.1.leads a h
  where
    among : (es : List Entry) (xs : List A) → LeadToAll L es xs → (b : A) → Has b xs → L.Good b
    among [] [] p b i = absurd i
    among [] (x ∷ xs) p b i = absurd p
    among (e ∷ es) [] p b i = absurd i
    among (e ∷ es) (x ∷ xs) p b (inl same) = subst (λ z. L.Good z) (sym same) p.0.good
    among (e ∷ es) (x ∷ xs) p b (inr i) = among es xs p.1 b i

module _ {A : Type 0} (L : Level A) (name : A → List ℕ) (named : (a : A) → L.Good a → IsName (name a)) (keyed : (a : A) → L.key a ≡ name_key (name a)) (test : A → Bool) (m : Blocks) (g : Hung A) (held : Holds (hung L) m g) where
  abbrev ns : List (List ℕ)
  ns = names_of test name (things g)

  -- a thing is found by its own name
  own_name : (a : A) → Has a (things g) → find (is_level L (name_key (name a))) (things g) ≡ Some a
  own_name a h = ap (λ k. find (is_level L k) (things g)) (sym (keyed a)) ∙ found_own L m g held a h

  -- what is found by a name has it
  record Found (k : List ℕ) : Type 0 where
    thing : A
    has : Has thing (things g)
    passes : test thing ≡ true
    is : name thing ≡ k

  found_name : (k : List ℕ) → IsName k → if_any test (find (is_level L (name_key k)) (things g)) ≡ true → Found k
  found_name k good h =
      elim (look L (name_key k) (is_level L (name_key k)) (tells_level L (name_key k)) (entries g.0) g.1 held.here.1.leads held.here.1.rises) [
        | inl s ↦
            let b = s.1.0 in
            let t = s.1.1 in
            let found : find (is_level L (name_key k)) g.1 ≡ Some b = ap (find (is_level L (name_key k))) t.things_are ∙ find_spot (is_level L (name_key k)) t.left b t.right t.none_left t.passes in
            let level : key_cmp (name_key k) (name_key (name b)) ≡ _ = ap (key_cmp (name_key k)) (sym (keyed b)) ∙ level_equal L (name_key k) b t.passes in
            record {
              thing = b;
              has = subst (Has b) (sym t.things_are) (has_append t.left b t.right);
              passes = sym (ap (if_any test) found) ∙ h;
              is = sym (name_exact k (name b) good (named b t.leads.good) level);
            }
        | inr n ↦ absurd (let e = find_none (is_level L (name_key k)) g.1 n.none in let f : false ≡ true = sym (ap (if_any test) e) ∙ h in let z : ⊥ = cc in z)
      ]

  -- ---- they rise

  all_later : (a : A) → L.Good a → (es : List Entry) (xs : List A) → LeadToAll L es xs → (k : TreeKey) → k ≡ L.key a → AllAbove k es → all_after (λ z. z) (name a) (names_of test name xs) ≡ true
  all_later a good [] [] p k is h = refl
  all_later a good [] (x ∷ xs) p k is h = absurd p
  all_later a good (e ∷ es) [] p k is h = refl
  all_later a good (e ∷ es) (x ∷ xs) p k is h = by (test x) (all_later a good es xs p.1 k is h.1)
    where
      first : is_before (name a) (name x) ≡ true
      first = names_before (name a) (name x) (named a good) (named x p.0.good) ((λ i. key_cmp (sym (is ∙ keyed a) i) (sym (p.0.key ∙ keyed x) i)) ∙ h.0)

      by : (t : Bool) → all_after (λ z. z) (name a) (names_of test name xs) ≡ true → all_after (λ z. z) (name a) (map name (if t then x ∷ filter test xs else filter test xs)) ≡ true
      by true r = both (is_before (name a) (name x)) (all_after (λ z. z) (name a) (names_of test name xs)) first r
      by false r = r

  names_rise : (es : List Entry) (xs : List A) → LeadToAll L es xs → Rises es → is_rising (λ z. z) (names_of test name xs) ≡ true
  names_rise [] [] p r = refl
  names_rise [] (x ∷ xs) p r = absurd p
  names_rise (e ∷ es) [] p r = refl
  names_rise (e ∷ es) (x ∷ xs) p r = by (test x) (names_rise es xs p.1 r.1)
    where
      by : (t : Bool) → is_rising (λ z. z) (names_of test name xs) ≡ true → is_rising (λ z. z) (map name (if t then x ∷ filter test xs else filter test xs)) ≡ true
      by true h = both (all_after (λ z. z) (name x) (names_of test name xs)) (is_rising (λ z. z) (names_of test name xs)) (all_later x p.0.good es xs p.1 e.key p.0.key r.0) h
      by false h = h

  -- ---- they are the names below a path

  module _ (ks : List (List ℕ)) (cells : List ℕ → Bool) (has : (k : List ℕ) → Has k ks → (cells k ≡ true) × IsName k) (back : (k : List ℕ) → cells k ≡ true → Has k ks)
      (law : (k : List ℕ) → IsName k → cells k ≡ if_any test (find (is_level L (name_key k)) (things g))) where
    forth_has : (k : List ℕ) → Has k ks → Has k ns
    forth_has k h =
        let x = has k h in
        let f = found_name k x.1 (sym (law k x.1) ∙ x.0) in
        subst (λ z. Has z ns) f.is (has_map name (filter test (things g)) f.thing (has-filter test (things g) f.thing f.has f.passes))

    back_has : (k : List ℕ) → Has k ns → Has k ks
    back_has k h =
        let f = from_map name (filter test (things g)) k h in
        let t = has-from_filter test (things g) f.thing f.has in
        let good = named f.thing (good_has L m g held f.thing t.0) in
        subst (λ z. Has z ks) (sym f.is) (back (name f.thing) (law (name f.thing) good ∙ (ap (if_any test) (own_name f.thing t.0) ∙ t.1)))

    pub names_same : in_byte_order ks ≡ names_of test name (things g)
    names_same =
        rising-same (λ z. z) (in_byte_order ks) ns (rising-names ks) (names_rise (entries g.0) (things g) held.here.1.leads held.here.1.rises)
        (λ k h. forth_has k (has-from_names ks k h))
        (λ k h. has-names ks k (back_has k h))

    -- there are some just where a thing passes
    pub any_same : (any : Bool) → (any ≡ true → (k : List ℕ) × Has k ks) → ((k : List ℕ) → Has k ks → any ≡ true) → any ≡ list_any test (things g)
    any_same any f h = by any (list_any test (things g)) refl refl
      where
        by : (s t : Bool) → any ≡ s → list_any test (things g) ≡ t → s ≡ t
        by true true e k = refl
        by false false e k = refl
        by true false e k =
            let x = f e in
            let y = from_map name (filter test (things g)) x.0 (forth_has x.0 x.1) in
            let t = has-from_filter test (things g) y.thing y.has in
            clash (list_any test (things g)) (any_has test (things g) y.thing t.0 t.1) k
        by false true e k =
            let s = any_at test (things g) k in
            let in_things : Has s.thing (things g) = subst (Has s.thing) (sym s.is) (has_append s.left s.thing s.right) in
            let n = has_map name (filter test (things g)) s.thing (has-filter test (things g) s.thing in_things s.passes) in
            clash any (h (name s.thing) (back_has (name s.thing) n)) e
