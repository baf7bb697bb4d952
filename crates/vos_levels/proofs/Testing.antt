-- Tests that take fewer things, and things that rise.
use Rattle.std.proofs.Common.{◌≡◌, ℕ, ◌+◌, ◌≤◌, ◌^◌, ◌&&◌, ◌||◌, Bool, true, false, List, [], ◌∷◌, ◌++◌, Option, Some, None, length, suc, refl, sym, ap, ◌∙◌, subst, arith, inl, inr}
use Rattle.std.specs.Prelude.{if◌then◌else◌}
use Rattle.std.specs.List.{find, list_any}
use Rattle.std.specs.declared.cmp.Ordering.{Ordering}
use Rattle.std.specs.declared.cmp.Ordering.TheVariants.{Less, Equal, Greater}
use Rattle.std.specs.Ordering.{ordering_reverse}
use Rattle.pmem_tree.specs.pmem_pages.declared.node.TreeKey.{TreeKey}
use Rattle.pmem_tree.specs.pmem_pages.Node.{key_cmp}
use Rattle.pmem_tree.specs.pmem_pages.Shape.{AllAbove, Entry, Rises, blocks_of, chosen, entries, root_of}
use Rattle.pmem_tree.proofs.pmem_pages.Lists.{key_total, length_blocks}
use Rattle.pmem_tree.proofs.pmem_pages.Shapes.{low_in}
use Rattle.pmem_tree.specs.pmem_pages.Blocks.{Blocks}
use Rattle.pmem_tree.specs.pmem_pages.Counts.{at_most}
use Rattle.pmem_tree.specs.pmem_pages.Owners.{Holds}
use Rattle.std.specs.Option.{option_and_then, option_map}
use Rattle.vos_levels.specs.Levels.{Hung, LeadToAll, Level, TellsAbove, TellsKey, find_last, hung, map_those, or_else, without_those}
use Rattle.vos_levels.proofs.Spots.{Spot, find_none, find_spot, first_false, last_none, look, mapped_spot, same_length, then_false, without_spot}
use Rattle.vos_levels.proofs.Changing.{count_is, hung_tree}

-- ---- a test that takes fewer

and_false : (s t : Bool) → s ≡ false → (s && t) ≡ false
and_false true t h = absurd (let n : ⊥ = cc in n)
and_false false t h = refl

pub fewer_none : {A : Type 0} (p r : A → Bool) (xs : List A) → list_any p xs ≡ false → list_any (λ a. p a && r a) xs ≡ false
fewer_none p r [] h = refl
fewer_none p r (x ∷ xs) h = rw (and_false (p x) (r x) (first_false (p x) (list_any p xs) h), fewer_none p r xs (then_false (p x) (list_any p xs) h)) refl

append_none : {A : Type 0} (p : A → Bool) (xs ys : List A) → list_any p xs ≡ false → list_any p ys ≡ false → list_any p (xs ++ ys) ≡ false
append_none p [] ys h k = k
append_none p (x ∷ xs) ys h k = rw (first_false (p x) (list_any p xs) h, append_none p xs ys (then_false (p x) (list_any p xs) h) k) refl

module _ {A : Type 0} (L : Level A) (k : TreeKey) (p r : A → Bool) (es : List Entry) (xs : List A) (e : Entry) (a : A) (s : Spot L k p es xs e a) where
  pub spot_map : (f : A → A) → r a ≡ true → map_those (λ x. p x && r x) f xs ≡ map_those p f xs
  spot_map f h =
      let both : (p a && r a) ≡ true = rw (s.passes, h) refl in
      ap (map_those (λ x. p x && r x) f) s.things_are
      ∙ (mapped_spot (λ x. p x && r x) f s.left a s.right (fewer_none p r s.left s.none_left) both (fewer_none p r s.right s.none_right)
      ∙ sym (ap (map_those p f) s.things_are ∙ mapped_spot p f s.left a s.right s.none_left s.passes s.none_right))

  pub spot_without : r a ≡ true → without_those (λ x. p x && r x) xs ≡ without_those p xs
  spot_without h =
      let both : (p a && r a) ≡ true = rw (s.passes, h) refl in
      ap (without_those (λ x. p x && r x)) s.things_are
      ∙ (without_spot (λ x. p x && r x) s.left a s.right (fewer_none p r s.left s.none_left) both (fewer_none p r s.right s.none_right)
      ∙ sym (ap (without_those p) s.things_are ∙ without_spot p s.left a s.right s.none_left s.passes s.none_right))

  pub spot_none : r a ≡ false → list_any (λ x. p x && r x) xs ≡ false
  spot_none h =
      let one : (p a && r a) ≡ false = rw (s.passes, h) refl in
      ap (list_any (λ x. p x && r x)) s.things_are
      ∙ append_none (λ x. p x && r x) s.left (a ∷ s.right) (fewer_none p r s.left s.none_left) (rw (one, fewer_none p r s.right s.none_right) refl)

inside : {A : Type 0} (x y : A) → Some x ≡ Some y → x ≡ y
inside x y h = cc

-- the thing that is found stands at the key
pub found_spot : {A : Type 0} (L : Level A) (k : TreeKey) (test : A → Bool) → TellsKey L k test → (es : List Entry) (xs : List A) (a : A) → LeadToAll L es xs → Rises es → find test xs ≡ Some a → (e : Entry) × Spot L k test es xs e a
found_spot {A = A} L k test tells es xs a p h is =
    elim (look L k test tells es xs p h) [
      | inl s ↦
          let t = s.1.1 in
          let e : s.1.0 ≡ a = inside s.1.0 a (sym (ap (find test) t.things_are ∙ find_spot test t.left s.1.0 t.right t.none_left t.passes) ∙ is) in
          (s.0, subst (λ (z : A). Spot L k test es xs s.0 z) e t)
      | inr n ↦ absurd (let z = find_none test xs n.none in let w : ⊥ = cc in w)
    ]

pub found_missing : {A : Type 0} (test : A → Bool) (xs : List A) → find test xs ≡ None → list_any test xs ≡ false
found_missing test [] h = refl
found_missing test (x ∷ xs) h = by (test x) h (found_missing test xs)
  where
    by : (t : Bool) → (if t then Some x else find test xs) ≡ None → (find test xs ≡ None → list_any test xs ≡ false) → (t || list_any test xs) ≡ false
    by true h r = absurd (let n : ⊥ = cc in n)
    by false h r = r h

-- ---- the last that passes

pub record LastAt {A : Type 0} (test : A → Bool) (xs : List A) (a : A) : Type 0 where
  pub left : List A
  pub right : List A
  pub is : xs ≡ left ++ a ∷ right
  pub passes : test a ≡ true
  pub none_right : list_any test right ≡ false

last_missing : {A : Type 0} (test : A → Bool) (xs : List A) → find_last test xs ≡ None → list_any test xs ≡ false
last_missing test [] h = refl
last_missing {A = A} test (x ∷ xs) h = through (find_last test xs) (test x) refl h (last_missing test xs)
  where
    through : (y : Option A) (t : Bool) → find_last test xs ≡ y → or_else y (if t then Some x else None) ≡ None → (find_last test xs ≡ None → list_any test xs ≡ false) → (t || list_any test xs) ≡ false
    through (Some b) t e h r = absurd (let n : ⊥ = cc in n)
    through None true e h r = absurd (let n : ⊥ = cc in n)
    through None false e h r = r e

pub last_at : {A : Type 0} (test : A → Bool) (xs : List A) (a : A) → find_last test xs ≡ Some a → LastAt test xs a
last_at test [] a h = absurd (let n : ⊥ = cc in n)
last_at {A = A} test (x ∷ xs) a h = by (find_last test xs) (test x) refl refl h (last_at test xs a)
  where
    by : (y : Option A) (t : Bool) → find_last test xs ≡ y → test x ≡ t → or_else y (if t then Some x else None) ≡ Some a → (find_last test xs ≡ Some a → LastAt test xs a) → LastAt test (x ∷ xs) a
    by (Some b) t e q h r =
        let s = r (e ∙ h) in
        record { left = x ∷ s.left; right = s.right; is = ap (λ z. x ∷ z) s.is; passes = s.passes; none_right = s.none_right }
    by None true e q h r =
        let same = inside x a h in
        record { left = []; right = xs; is = ap (λ z. z ∷ xs) same; passes = ap test (sym same) ∙ q; none_right = last_missing test xs e }
    by None false e q h r = absurd (let n : ⊥ = cc in n)

-- tests that agree on all of a list
abbrev pub Agree : {A : Type 0} → (A → Bool) → (A → Bool) → List A → Type 0
Agree p q [] = Unit {0}
Agree p q (x ∷ xs) = (p x ≡ q x) × Agree p q xs

pub last_agrees : {A : Type 0} (p q : A → Bool) (xs : List A) → Agree p q xs → find_last p xs ≡ find_last q xs
last_agrees p q [] h = refl
last_agrees p q (x ∷ xs) h = rw (h.0, last_agrees p q xs h.1) refl

pub agree_append : {A : Type 0} (p q : A → Bool) (xs ys : List A) → Agree p q xs → Agree p q ys → Agree p q (xs ++ ys)
agree_append p q [] ys h k = k
agree_append p q (x ∷ xs) ys h k = (h.0, agree_append p q xs ys h.1 k)

abbrev pub one_if : Bool → ℕ
one_if t = if t then 1 else 0

-- how many pass
abbrev pub count_of : {A : Type 0} → (A → Bool) → List A → ℕ
count_of p [] = 0
count_of p (x ∷ xs) = one_if (p x) + count_of p xs

pub count_append : {A : Type 0} (p : A → Bool) (xs ys : List A) → count_of p (xs ++ ys) ≡ count_of p xs + count_of p ys
count_append p [] ys = omega arith
count_append p (x ∷ xs) ys = omega (arith, count_append p xs ys)

pub count_most : {A : Type 0} (p : A → Bool) (xs : List A) → count_of p xs ≤ length xs
count_most p [] = omega arith
count_most p (x ∷ xs) = by (p x) (count_most p xs)
  where
    by : (t : Bool) → count_of p xs ≤ length xs → one_if t + count_of p xs ≤ suc (length xs)
    by true h = omega arith
    by false h = omega arith

-- ---- things rise

abbrev pub AllGood : {A : Type 0} → Level A → List A → Type 0
AllGood L [] = Unit {0}
AllGood L (x ∷ xs) = L.Good x × AllGood L xs

-- each lies below a key, or above it
abbrev pub AllLower : {A : Type 0} → Level A → TreeKey → List A → Type 0
AllLower L k [] = Unit {0}
AllLower L k (x ∷ xs) = (key_cmp (L.key x) k ≡ Less) × AllLower L k xs

abbrev pub AllHigher : {A : Type 0} → Level A → TreeKey → List A → Type 0
AllHigher L k [] = Unit {0}
AllHigher L k (x ∷ xs) = (key_cmp k (L.key x) ≡ Less) × AllHigher L k xs

-- those in front of a thing are below its key, and those behind it above
pub record Around {A : Type 0} (L : Level A) (left : List A) (a : A) (right : List A) : Type 0 where
  pub lower : AllLower L (L.key a) left
  pub higher : AllHigher L (L.key a) right
  pub left_good : AllGood L left
  pub good : L.Good a
  pub right_good : AllGood L right

all_higher : {A : Type 0} (L : Level A) (k : TreeKey) (es : List Entry) (xs : List A) → LeadToAll L es xs → AllAbove k es → AllHigher L k xs
all_higher L k [] [] p h = tt
all_higher L k [] (x ∷ xs) p h = absurd p
all_higher L k (e ∷ es) [] p h = absurd p
all_higher L k (e ∷ es) (x ∷ xs) p h = (ap (key_cmp k) (sym p.0.key) ∙ h.0, all_higher L k es xs p.1 h.1)

pub all_good : {A : Type 0} (L : Level A) (es : List Entry) (xs : List A) → LeadToAll L es xs → AllGood L xs
all_good L [] [] p = tt
all_good L [] (x ∷ xs) p = absurd p
all_good L (e ∷ es) [] p = absurd p
all_good L (e ∷ es) (x ∷ xs) p = (p.0.good, all_good L es xs p.1)

among_higher : {A : Type 0} (L : Level A) (k : TreeKey) (xs : List A) (a : A) (ys : List A) → AllHigher L k (xs ++ a ∷ ys) → key_cmp k (L.key a) ≡ Less
among_higher L k [] a ys h = h.0
among_higher L k (x ∷ xs) a ys h = among_higher L k xs a ys h.1

pub around : {A : Type 0} (L : Level A) (es : List Entry) (left : List A) (a : A) (right : List A) → LeadToAll L es (left ++ a ∷ right) → Rises es → Around L left a right
around L [] [] a right p h = absurd p
around L [] (x ∷ left) a right p h = absurd p
around L (e ∷ es) [] a right p h =
    let up = all_higher L e.key es right p.1 h.0 in
    record { lower = tt; higher = subst (λ z. AllHigher L z right) p.0.key up; left_good = tt; good = p.0.good; right_good = all_good L es right p.1 }
around L (e ∷ es) (x ∷ left) a right p h =
    let r = around L es left a right p.1 h.1 in
    let up = all_higher L e.key es (left ++ a ∷ right) p.1 h.0 in
    let first : key_cmp (L.key x) (L.key a) ≡ Less = ap (λ z. key_cmp z (L.key a)) (sym p.0.key) ∙ among_higher L e.key left a right up in
    record { lower = (first, r.lower); higher = r.higher; left_good = (p.0.good, r.left_good); good = r.good; right_good = r.right_good }

-- ---- one step of a walk down

chosen_greater : (o : Ordering) → chosen o false false true ≡ true → o ≡ Greater
chosen_greater Less h = absurd (let n : ⊥ = cc in n)
chosen_greater Equal h = absurd (let n : ⊥ = cc in n)
chosen_greater Greater h = refl

flip_greater : (a b : TreeKey) → key_cmp a b ≡ Greater → key_cmp b a ≡ Less
flip_greater a b h = key_total.antisymm b a ∙ ap ordering_reverse h

flip_less : (a b : TreeKey) → key_cmp a b ≡ Less → key_cmp b a ≡ Greater
flip_less a b h = key_total.antisymm b a ∙ ap ordering_reverse h

itself : (o : Ordering) → o ≡ ordering_reverse o → o ≡ Equal
itself Less h = absurd (let n : ⊥ = cc in n)
itself Equal h = refl
itself Greater h = absurd (let n : ⊥ = cc in n)

both_false : (s t : Bool) → s ≡ false → (s && t) ≡ false
both_false true t h = absurd (let n : ⊥ = cc in n)
both_false false t h = refl

then_no : (s t : Bool) → t ≡ false → (s && t) ≡ false
then_no true t h = h
then_no false t h = refl

pub last_spot : {A : Type 0} (test : A → Bool) (left : List A) (a : A) (right : List A) → test a ≡ true → list_any test right ≡ false → find_last test (left ++ a ∷ right) ≡ Some a
last_spot test [] a right h n = rw (h, last_none test right n) refl
last_spot test (x ∷ left) a right h n = rw (last_spot test left a right h n) refl

module _ {A : Type 0} (L : Level A) (k : TreeKey) (under : A → Bool) (tells : TellsAbove L k under) (es : List Entry) (xs : List A) (p : LeadToAll L es xs) (h : Rises es) (want : A → Bool) where
  -- nothing lies below
  pub walk_end : find_last under xs ≡ None → find_last (λ x. want x && under x) xs ≡ None
  walk_end e = last_none (λ x. want x && under x) xs (by xs (last_missing under xs e))
    where
      by : (ys : List A) → list_any under ys ≡ false → list_any (λ x. want x && under x) ys ≡ false
      by [] n = refl
      by (y ∷ ys) n = rw (then_no (want y) (under y) (first_false (under y) (list_any under ys) n), by ys (then_false (under y) (list_any under ys) n)) refl

  none_wanted : (ys : List A) → list_any under ys ≡ false → list_any (λ x. want x && under x) ys ≡ false
  none_wanted [] n = refl
  none_wanted (y ∷ ys) n = rw (then_no (want y) (under y) (first_false (under y) (list_any under ys) n), none_wanted ys (then_false (under y) (list_any under ys) n)) refl

  -- the last one below is wanted
  pub walk_found : (a : A) → find_last under xs ≡ Some a → want a ≡ true → find_last (λ x. want x && under x) xs ≡ Some a
  walk_found a e w =
      let s = last_at under xs a e in
      let both : (want a && under a) ≡ true = rw (w, s.passes) refl in
      ap (find_last (λ x. want x && under x)) s.is ∙ last_spot (λ x. want x && under x) s.left a s.right both (none_wanted s.right s.none_right)

  module _ (a : A) (found : find_last under xs ≡ Some a) (under2 : A → Bool) (tells2 : TellsAbove L (L.key a) under2) where
    abbrev here : LastAt under xs a
    here = last_at under xs a found

    about : Around L here.left a here.right
    about = around L es here.left a here.right (subst (λ z. LeadToAll L es z) here.is p) h

    below_k : key_cmp (L.key a) k ≡ Less
    below_k = flip_greater k (L.key a) (chosen_greater (key_cmp k (L.key a)) (sym (tells a about.good) ∙ here.passes))

    agree_left : (ys : List A) → AllGood L ys → AllLower L (L.key a) ys → Agree under under2 ys
    agree_left [] good low = tt
    agree_left (y ∷ ys) good low =
        let one : key_cmp k (L.key y) ≡ Greater = flip_less (L.key y) k (key_total.trans (L.key y) (L.key a) k low.0 below_k) in
        let two : key_cmp (L.key a) (L.key y) ≡ Greater = flip_less (L.key y) (L.key a) low.0 in
        (tells y good.0 ∙ (ap (λ o. chosen o false false true) (one ∙ sym two) ∙ sym (tells2 y good.0)), agree_left ys good.1 low.1)

    not_itself : under2 a ≡ false
    not_itself = tells2 a about.good ∙ ap (λ o. chosen o false false true) (itself (key_cmp (L.key a) (L.key a)) (key_total.antisymm (L.key a) (L.key a)))

    none_after : (ys : List A) → AllGood L ys → AllHigher L (L.key a) ys → list_any under2 ys ≡ false
    none_after [] good up = refl
    none_after (y ∷ ys) good up = rw (tells2 y good.0 ∙ ap (λ o. chosen o false false true) up.0, none_after ys good.1 up.1) refl

    agree_none : (ys : List A) → list_any under ys ≡ false → list_any under2 ys ≡ false → Agree under under2 ys
    agree_none [] n m = tt
    agree_none (y ∷ ys) n m = (first_false (under y) (list_any under ys) n ∙ sym (first_false (under2 y) (list_any under2 ys) m), agree_none ys (then_false (under y) (list_any under ys) n) (then_false (under2 y) (list_any under2 ys) m))

    wanted : (ys : List A) → Agree under under2 ys → Agree (λ x. want x && under x) (λ x. want x && under2 x) ys
    wanted [] g = tt
    wanted (y ∷ ys) g = (ap (λ t. want y && t) g.0, wanted ys g.1)

    same_count : (ys : List A) → Agree under under2 ys → count_of under ys ≡ count_of under2 ys
    same_count [] g = refl
    same_count (y ∷ ys) g = ap (λ (t : Bool). one_if t + count_of under ys) g.0 ∙ ap (λ n. one_if (under2 y) + n) (same_count ys g.1)

    right_agree : Agree under under2 here.right
    right_agree = agree_none here.right here.none_right (none_after here.right about.right_good about.higher)

    left_agree : Agree under under2 here.left
    left_agree = agree_left here.left about.left_good about.lower

    -- the last one below isn't wanted: the walk goes on below it
    pub walk_on : want a ≡ false → find_last (λ x. want x && under x) xs ≡ find_last (λ x. want x && under2 x) xs
    walk_on w =
        let one : (want a && under a) ≡ (want a && under2 a) = both_false (want a) (under a) w ∙ sym (both_false (want a) (under2 a) w) in
        let all : Agree (λ x. want x && under x) (λ x. want x && under2 x) (here.left ++ a ∷ here.right) =
        agree_append (λ x. want x && under x) (λ x. want x && under2 x) here.left (a ∷ here.right) (wanted here.left left_agree) (one, wanted here.right right_agree) in
        ap (find_last (λ x. want x && under x)) here.is ∙ (last_agrees (λ x. want x && under x) (λ x. want x && under2 x) (here.left ++ a ∷ here.right) all ∙ ap (find_last (λ x. want x && under2 x)) (sym here.is))

    -- fewer lie below it
    pub walk_less : count_of under2 xs + 1 ≤ count_of under xs
    walk_less =
        let a1 : count_of under xs ≡ count_of under here.left + (one_if (under a) + count_of under here.right) = ap (count_of under) here.is ∙ count_append under here.left (a ∷ here.right) in
        let a2 : count_of under2 xs ≡ count_of under2 here.left + (one_if (under2 a) + count_of under2 here.right) = ap (count_of under2) here.is ∙ count_append under2 here.left (a ∷ here.right) in
        let b1 : one_if (under a) ≡ 1 = ap one_if here.passes in
        let b2 : one_if (under2 a) ≡ 0 = ap one_if not_itself in
        omega (arith, a1, a2, b1, b2, same_count here.left left_agree, same_count here.right right_agree)

-- ---- what is read of a thing that was found

good_at : {A : Type 0} (L : Level A) (left : List A) (a : A) (right : List A) → AllGood L (left ++ a ∷ right) → L.Good a
good_at L [] a right h = h.0
good_at L (x ∷ left) a right h = good_at L left a right h.1

pub last_good : {A : Type 0} (L : Level A) (test : A → Bool) (xs : List A) (a : A) → AllGood L xs → find_last test xs ≡ Some a → L.Good a
last_good L test xs a good e = let s = last_at test xs a e in good_at L s.left a s.right (subst (λ z. AllGood L z) s.is good)

pub found_good : {A : Type 0} (L : Level A) (test : A → Bool) (xs : List A) (a : A) → AllGood L xs → find test xs ≡ Some a → L.Good a
found_good L test [] a good e = absurd (let n : ⊥ = cc in n)
found_good {A = A} L test (x ∷ xs) a good e = by (test x) e (found_good L test xs a good.1)
  where
    by : (t : Bool) → (if t then Some x else find test xs) ≡ Some a → (find test xs ≡ Some a → L.Good a) → L.Good a
    by true e r = subst (λ z. L.Good z) (inside x a e) good.0
    by false e r = r e

-- what a function reads of what another made of the thing
pub read_option : {A B C : Type 0} (x : Option A) (make : A → B) (read : B → Option C) (shown : A → C) → ((a : A) → x ≡ Some a → read (make a) ≡ Some (shown a)) → option_and_then read (option_map make x) ≡ option_map shown x
read_option None make read shown h = refl
read_option (Some a) make read shown h = h a refl

pub map_same : {A : Type 0} (x : Option A) → option_map (λ a. a) x ≡ x
map_same None = refl
map_same (Some a) = refl

-- none counts
pub none_counts : {A : Type 0} (p : A → Bool) (xs : List A) → count_of p xs ≤ 0 → list_any p xs ≡ false
none_counts p [] h = refl
none_counts p (x ∷ xs) h = by (p x) refl (none_counts p xs)
  where
    by : (t : Bool) → p x ≡ t → (count_of p xs ≤ 0 → list_any p xs ≡ false) → (t || list_any p xs) ≡ false
    by true e r = absurd (let k : one_if (p x) ≡ 1 = ap one_if e in omega (arith, h, k))
    by false e r = r (omega (arith, h))

pub none_wanted_there : {A : Type 0} (want under : A → Bool) (xs : List A) → list_any under xs ≡ false → find_last (λ x. want x && under x) xs ≡ None
none_wanted_there {A = A} want under xs n = last_none (λ x. want x && under x) xs (by xs n)
  where
    by : (ys : List A) → list_any under ys ≡ false → list_any (λ x. want x && under x) ys ≡ false
    by [] n = refl
    by (y ∷ ys) n = rw (then_no (want y) (under y) (first_false (under y) (list_any under ys) n), by ys (then_false (under y) (list_any under ys) n)) refl

-- a level has no more things than there are numbers of blocks
pub few_things : {A : Type 0} (L : Level A) (m : Blocks) (g : Hung A) → Holds (hung L) m g → length g.1 ≤ 2 ^ 32
few_things L m g h =
    let tree = hung_tree L m (root_of g.0) g h refl in
    let few = at_most (2 ^ 32) (blocks_of (entries g.0)) (λ q. omega (arith, tree.apart q, count_is q (entries g.0))) (λ q own. low_in m L.kind g.0 q tree.stands (omega (arith, own, count_is q (entries g.0)))) in
    omega (arith, few, same_length L (entries g.0) g.1 h.here.1.leads, length_blocks (entries g.0))
