-- Where the thing of a key stands in a level, and the last thing below a key.
use Rattle.std.proofs.Common.{◌≡◌, ◌||◌, Bool, true, false, List, [], ◌∷◌, ◌++◌, Option, Some, None, length, refl, sym, ap, ◌∙◌, arith, ◌⊎◌, inl, inr}
use Rattle.std.specs.List.{find, list_any}
use Rattle.std.specs.Option.{option_map}
use Rattle.std.specs.declared.cmp.Ordering.{Ordering}
use Rattle.std.specs.declared.cmp.Ordering.TheVariants.{Less, Equal, Greater}
use Rattle.pmem_tree.specs.pmem_pages.declared.node.TreeKey.{TreeKey}
use Rattle.pmem_tree.specs.pmem_pages.Node.{key_cmp}
use Rattle.pmem_tree.specs.pmem_pages.Shape.{AllAbove, Entry, Rises, chosen, entry_at, last_under, or_this, removed, valued}
use Rattle.pmem_tree.specs.pmem_pages.Parts.{with_value}
use Rattle.pmem_tree.specs.pmem_pages.declared.node.Value.{Value}
use Rattle.pmem_tree.proofs.pmem_pages.Lists.{key_total, AllAbove-lower}
use Rattle.pmem_tree.specs.pmem_tree_base.Find.{pair_of, value_of}
use Rattle.vos_levels.specs.Levels.{LeadToAll, LeadsTo, Level, or_else, TellsAbove, TellsKey, find_last, map_those, pair_of_thing, without_those}

-- ---- halves of a list

pub record Halves {A : Type 0} (L : Level A) (es fs : List Entry) (xs : List A) : Type 0 where
  pub left : List A
  pub right : List A
  pub is : xs ≡ left ++ right
  pub left_leads : LeadToAll L es left
  pub right_leads : LeadToAll L fs right

pub halves : {A : Type 0} (L : Level A) (es fs : List Entry) (xs : List A) → LeadToAll L (es ++ fs) xs → Halves L es fs xs
halves L [] fs xs p = record { left = []; right = xs; is = refl; left_leads = tt; right_leads = p }
halves L (e ∷ es) fs [] p = absurd p
halves L (e ∷ es) fs (a ∷ xs) p =
    let r = halves L es fs xs p.1 in
    record { left = a ∷ r.left; right = r.right; is = ap (λ z. a ∷ z) r.is; left_leads = (p.0, r.left_leads); right_leads = r.right_leads }

pub joined : {A : Type 0} (L : Level A) (es fs : List Entry) (xs ys : List A) → LeadToAll L es xs → LeadToAll L fs ys → LeadToAll L (es ++ fs) (xs ++ ys)
joined L [] fs [] ys p q = q
joined L [] fs (a ∷ xs) ys p q = absurd p
joined L (e ∷ es) fs [] ys p q = absurd p
joined L (e ∷ es) fs (a ∷ xs) ys p q = (p.0, joined L es fs xs ys p.1 q)

pub same_length : {A : Type 0} (L : Level A) (es : List Entry) (xs : List A) → LeadToAll L es xs → length xs ≡ length es
same_length L [] [] p = refl
same_length L [] (a ∷ xs) p = absurd p
same_length L (e ∷ es) [] p = absurd p
same_length L (e ∷ es) (a ∷ xs) p = omega (arith, same_length L es xs p.1)

-- ---- no thing passes a test

none_above : {A : Type 0} (L : Level A) (k : TreeKey) (test : A → Bool) → TellsKey L k test → (es : List Entry) (xs : List A) → LeadToAll L es xs → AllAbove k es → list_any test xs ≡ false
none_above L k test tells [] [] p h = refl
none_above L k test tells [] (a ∷ xs) p h = absurd p
none_above L k test tells (e ∷ es) [] p h = absurd p
none_above L k test tells (e ∷ es) (a ∷ xs) p h =
    let less : key_cmp k (L.key a) ≡ Less = ap (key_cmp k) (sym p.0.key) ∙ h.0 in
    let one : test a ≡ false = tells a p.0.good ∙ ap (λ o. chosen o false true false) less in
    let rest = none_above L k test tells es xs p.1 h.1 in
    rw (one, rest) refl

not_under : {A : Type 0} (L : Level A) (k : TreeKey) (test : A → Bool) → TellsAbove L k test → (es : List Entry) (xs : List A) → LeadToAll L es xs → AllAbove k es → list_any test xs ≡ false
not_under L k test tells [] [] p h = refl
not_under L k test tells [] (a ∷ xs) p h = absurd p
not_under L k test tells (e ∷ es) [] p h = absurd p
not_under L k test tells (e ∷ es) (a ∷ xs) p h =
    let less : key_cmp k (L.key a) ≡ Less = ap (key_cmp k) (sym p.0.key) ∙ h.0 in
    let one : test a ≡ false = tells a p.0.good ∙ ap (λ o. chosen o false false true) less in
    let rest = not_under L k test tells es xs p.1 h.1 in
    rw (one, rest) refl

-- a key level with the first is below the others
level_lower : (k j : TreeKey) (es : List Entry) → key_cmp k j ≡ Equal → AllAbove j es → AllAbove k es
level_lower k j [] e h = tt
level_lower k j (x ∷ es) e h = (key_total.congr k j x.key e ∙ h.0, level_lower k j es e h.1)

-- ---- the thing at a key

pub record Spot {A : Type 0} (L : Level A) (k : TreeKey) (test : A → Bool) (es : List Entry) (xs : List A) (e : Entry) (a : A) : Type 0 where
  pub front : List Entry
  pub back : List Entry
  pub left : List A
  pub right : List A
  pub entries_are : es ≡ front ++ e ∷ back
  pub things_are : xs ≡ left ++ a ∷ right
  pub front_leads : LeadToAll L front left
  pub leads : LeadsTo L e a
  pub back_leads : LeadToAll L back right
  pub passes : test a ≡ true
  pub none_left : list_any test left ≡ false
  pub none_right : list_any test right ≡ false
  pub at : entry_at k es ≡ Some e
  pub valued_is : (v : Value) → valued k v es ≡ front ++ with_value e v ∷ back
  pub removed_is : removed k es ≡ front ++ back

pub record Missing {A : Type 0} (k : TreeKey) (test : A → Bool) (es : List Entry) (xs : List A) : Type 0 where
  pub at : entry_at k es ≡ None
  pub none : list_any test xs ≡ false

abbrev pub Look : {A : Type 0} → Level A → TreeKey → (A → Bool) → List Entry → List A → Type 0
Look {A = A} L k test es xs = ((e : Entry) × ((a : A) × Spot L k test es xs e a)) ⊎ Missing k test es xs

module _ {A : Type 0} (L : Level A) (k : TreeKey) (test : A → Bool) (tells : TellsKey L k test) where
  look_first : (e : Entry) (es : List Entry) (a : A) (xs : List A) → LeadsTo L e a → LeadToAll L es xs → AllAbove e.key es → Look L k test es xs
      → (o : Ordering) → key_cmp k e.key ≡ o → Look L k test (e ∷ es) (a ∷ xs)
  look_first e es a xs p q h rest Less c =
      let lower = AllAbove-lower k e.key es c h in
      let none = none_above L k test tells es xs q lower in
      let one : test a ≡ false = tells a p.good ∙ ap (λ o. chosen o false true false) (ap (key_cmp k) (sym p.key) ∙ c) in
      inr (record { at = rw c refl; none = rw (one, none) refl })
  look_first e es a xs p q h rest Equal c =
      let lower = level_lower k e.key es c h in
      let none = none_above L k test tells es xs q lower in
      let one : test a ≡ true = tells a p.good ∙ ap (λ o. chosen o false true false) (ap (key_cmp k) (sym p.key) ∙ c) in
      inl (e, (a, record { front = []; back = es; left = []; right = xs; entries_are = refl; things_are = refl; front_leads = tt; leads = p; back_leads = q; passes = one; none_left = refl; none_right = none; at = rw c refl; valued_is = λ v. rw c refl; removed_is = rw c refl }))
  look_first e es a xs p q h rest Greater c =
      let one : test a ≡ false = tells a p.good ∙ ap (λ o. chosen o false true false) (ap (key_cmp k) (sym p.key) ∙ c) in
      elim rest [
        | inl s ↦
            let f = s.0 in
            let b = s.1.0 in
            let t = s.1.1 in
            inl (
              f,
              (
                b,
                record {
                  front = e ∷ t.front;
                  back = t.back;
                  left = a ∷ t.left;
                  right = t.right;
                  entries_are = ap (λ z. e ∷ z) t.entries_are;
                  things_are = ap (λ z. a ∷ z) t.things_are;
                  front_leads = (p, t.front_leads);
                  leads = t.leads;
                  back_leads = t.back_leads;
                  passes = t.passes;
                  none_left = rw (one, t.none_left) refl;
                  none_right = t.none_right;
                  at = rw c t.at;
                  valued_is = λ v. rw c (ap (λ z. e ∷ z) (t.valued_is v));
                  removed_is = rw c (ap (λ z. e ∷ z) t.removed_is);
                },
              ),
            )
        | inr m ↦ inr (record { at = rw c m.at; none = rw (one, m.none) refl })
      ]

  pub look : (es : List Entry) (xs : List A) → LeadToAll L es xs → Rises es → Look L k test es xs
  look [] [] p h = inr (record { at = refl; none = refl })
  look [] (a ∷ xs) p h = absurd p
  look (e ∷ es) [] p h = absurd p
  look (e ∷ es) (a ∷ xs) p h = look_first e es a xs p.0 p.1 h.0 (look es xs p.1 h.1) (key_cmp k e.key) refl

-- ---- what a list function makes of a list with one thing that passes

pub first_false : (s t : Bool) → (s || t) ≡ false → s ≡ false
first_false true t h = h
first_false false t h = refl

pub then_false : (s t : Bool) → (s || t) ≡ false → t ≡ false
then_false true t h = absurd (let n : ⊥ = cc in n)
then_false false t h = h

-- one that passes isn't none
pub some_not_none : {A : Type 0} (test : A → Bool) (xs left : List A) (a : A) (right : List A) → xs ≡ left ++ a ∷ right → test a ≡ true → list_any test xs ≡ false → ⊥
some_not_none {A = A} test xs left a right is passes none = among left (sym (ap (list_any test) is) ∙ none)
  where
    among : (ys : List A) → list_any test (ys ++ a ∷ right) ≡ false → ⊥
    among [] h = let n = first_false (test a) (list_any test right) h in let z : ⊥ = cc in z
    among (y ∷ ys) h = among ys (then_false (test y) (list_any test (ys ++ a ∷ right)) h)

pub find_none : {A : Type 0} (test : A → Bool) (xs : List A) → list_any test xs ≡ false → find test xs ≡ None
find_none test [] h = refl
find_none test (a ∷ xs) h = let n : test a ≡ false = first_false (test a) (list_any test xs) h in rw n (find_none test xs (then_false (test a) (list_any test xs) h))

pub find_spot : {A : Type 0} (test : A → Bool) (xs : List A) (a : A) (ys : List A) → list_any test xs ≡ false → test a ≡ true → find test (xs ++ a ∷ ys) ≡ Some a
find_spot test [] a ys h p = rw p refl
find_spot test (x ∷ xs) a ys h p = let n : test x ≡ false = first_false (test x) (list_any test xs) h in rw n (find_spot test xs a ys (then_false (test x) (list_any test xs) h) p)

pub mapped_none : {A : Type 0} (test : A → Bool) (f : A → A) (xs : List A) → list_any test xs ≡ false → map_those test f xs ≡ xs
mapped_none test f [] h = refl
mapped_none test f (x ∷ xs) h = let n : test x ≡ false = first_false (test x) (list_any test xs) h in rw n (ap (λ z. x ∷ z) (mapped_none test f xs (then_false (test x) (list_any test xs) h)))

pub mapped_spot : {A : Type 0} (test : A → Bool) (f : A → A) (xs : List A) (a : A) (ys : List A) → list_any test xs ≡ false → test a ≡ true → list_any test ys ≡ false → map_those test f (xs ++ a ∷ ys) ≡ xs ++ f a ∷ ys
mapped_spot test f [] a ys h p k = rw p (ap (λ z. f a ∷ z) (mapped_none test f ys k))
mapped_spot test f (x ∷ xs) a ys h p k = let n : test x ≡ false = first_false (test x) (list_any test xs) h in rw n (ap (λ z. x ∷ z) (mapped_spot test f xs a ys (then_false (test x) (list_any test xs) h) p k))

pub without_none : {A : Type 0} (test : A → Bool) (xs : List A) → list_any test xs ≡ false → without_those test xs ≡ xs
without_none test [] h = refl
without_none test (x ∷ xs) h = let n : test x ≡ false = first_false (test x) (list_any test xs) h in rw n (ap (λ z. x ∷ z) (without_none test xs (then_false (test x) (list_any test xs) h)))

pub without_spot : {A : Type 0} (test : A → Bool) (xs : List A) (a : A) (ys : List A) → list_any test xs ≡ false → test a ≡ true → list_any test ys ≡ false → without_those test (xs ++ a ∷ ys) ≡ xs ++ ys
without_spot test [] a ys h p k = rw p (without_none test ys k)
without_spot test (x ∷ xs) a ys h p k = let n : test x ≡ false = first_false (test x) (list_any test xs) h in rw n (ap (λ z. x ∷ z) (without_spot test xs a ys (then_false (test x) (list_any test xs) h) p k))

-- the value that a look-up finds
pub value_found : {A : Type 0} (L : Level A) (k : TreeKey) (test : A → Bool) → TellsKey L k test → (es : List Entry) (xs : List A) → LeadToAll L es xs → Rises es → value_of (entry_at k es) ≡ option_map L.value (find test xs)
value_found L k test tells es xs p h =
    elim (look L k test tells es xs p h) [
      | inl s ↦ let t = s.1.1 in ap value_of t.at ∙ (ap (λ z. Some z) t.leads.value ∙ ap (option_map L.value) (sym (ap (find test) t.things_are ∙ find_spot test t.left s.1.0 t.right t.none_left t.passes)))
      | inr m ↦ ap value_of m.at ∙ ap (option_map L.value) (sym (find_none test xs m.none))
    ]

-- ---- the last thing below a key

pub last_none : {A : Type 0} (test : A → Bool) (xs : List A) → list_any test xs ≡ false → find_last test xs ≡ None
last_none test [] h = refl
last_none test (x ∷ xs) h = let n : test x ≡ false = first_false (test x) (list_any test xs) h in rw (n, last_none test xs (then_false (test x) (list_any test xs) h)) refl

last_later : {A : Type 0} (L : Level A) (e : Entry) (a : A) → LeadsTo L e a → (x : Option Entry) (y : Option A) → pair_of x ≡ option_map (pair_of_thing L) y → pair_of (Some (or_this x e)) ≡ option_map (pair_of_thing L) (or_else y (Some a))
last_later L e a p None None h = λ i. Some (record { key = p.key i; value = p.value i })
last_later L e a p None (Some b) h = absurd (cc)
last_later L e a p (Some f) None h = absurd (cc)
last_later L e a p (Some f) (Some b) h = h

module _ {A : Type 0} (L : Level A) (k : TreeKey) (test : A → Bool) (tells : TellsAbove L k test) where
  last_first : (e : Entry) (es : List Entry) (a : A) (xs : List A) → LeadsTo L e a → LeadToAll L es xs → AllAbove e.key es → pair_of (last_under k es) ≡ option_map (pair_of_thing L) (find_last test xs)
      → (o : Ordering) → key_cmp k e.key ≡ o → pair_of (last_under k (e ∷ es)) ≡ option_map (pair_of_thing L) (find_last test (a ∷ xs))
  last_first e es a xs p q h rest Less c =
      let lower = AllAbove-lower k e.key es c h in
      let none = last_none test xs (not_under L k test tells es xs q lower) in
      let one : test a ≡ false = tells a p.good ∙ ap (λ o. chosen o false false true) (ap (key_cmp k) (sym p.key) ∙ c) in
      rw (c, none, one) refl
  last_first e es a xs p q h rest Equal c =
      let lower = level_lower k e.key es c h in
      let none = last_none test xs (not_under L k test tells es xs q lower) in
      let one : test a ≡ false = tells a p.good ∙ ap (λ o. chosen o false false true) (ap (key_cmp k) (sym p.key) ∙ c) in
      rw (c, none, one) refl
  last_first e es a xs p q h rest Greater c =
      let one : test a ≡ true = tells a p.good ∙ ap (λ o. chosen o false false true) (ap (key_cmp k) (sym p.key) ∙ c) in
      rw (c, one) (last_later L e a p (last_under k es) (find_last test xs) rest)

  pub last_found : (es : List Entry) (xs : List A) → LeadToAll L es xs → Rises es → pair_of (last_under k es) ≡ option_map (pair_of_thing L) (find_last test xs)
  last_found [] [] p h = refl
  last_found [] (a ∷ xs) p h = absurd p
  last_found (e ∷ es) [] p h = absurd p
  last_found (e ∷ es) (a ∷ xs) p h = last_first e es a xs p.0 p.1 h.0 (last_found es xs p.1 h.1) (key_cmp k e.key) refl
