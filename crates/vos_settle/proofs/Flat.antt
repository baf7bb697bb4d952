-- Lists of what things are shown as, where one of the things became another.
use Rattle.std.proofs.Common.{◌≡◌, Bool, true, false, List, [], ◌∷◌, ◌++◌, Some, map, refl, sym, ap, ◌∙◌, subst, inl, inr}
use Rattle.std.specs.Prelude.{filter, if◌then◌else◌}
use Rattle.std.specs.List.{find, list_any}
use Rattle.pmem_pages.specs.Blocks.{Blocks}
use Rattle.pmem_pages.specs.Owners.{Holds, each}
use Rattle.pmem_pages.specs.Shape.{entries}
use Rattle.vos_levels.specs.Changes.{changed_by}
use Rattle.vos_levels.specs.Levels.{Hung, Level, hung, map_those, things, without_those}
use Rattle.vos_levels.proofs.Changing.{holds_each, holds_spot}
use Rattle.vos_levels.proofs.Settling.{list_same}
use Rattle.vos_levels.proofs.Spots.{find_spot, first_false, then_false}
use Rattle.vos_levels.proofs.Testing.{all_good, found_good}
use Rattle.vos_path.specs.Objects.{together}
use Rattle.vos_path.proofs.Lists.{together_append}
use Rattle.vos_settle.specs.Nodes.{ChangesOne, OneOther}

pub any_append : {V : Type 0} (test : V → Bool) (xs ys : List V) → list_any test xs ≡ false → list_any test ys ≡ false → list_any test (xs ++ ys) ≡ false
any_append test [] ys h k = k
any_append test (x ∷ xs) ys h k = rw (first_false (test x) (list_any test xs) h, any_append test xs ys (then_false (test x) (list_any test xs) h) k) refl

pub any_together : {A V : Type 0} (test : V → Bool) (f : A → List V) (xs : List A) → ((a : A) → list_any test (f a) ≡ false) → list_any test (together f xs) ≡ false
any_together test f [] h = refl
any_together test f (x ∷ xs) h = any_append test (f x) (together f xs) (h x) (any_together test f xs h)

pub any_among : {A V : Type 0} (test : V → Bool) (is : A → Bool) (f : A → List V) (xs : List A) → list_any is xs ≡ false → ((a : A) → is a ≡ false → list_any test (f a) ≡ false) → list_any test (together f xs) ≡ false
any_among test is f [] n h = refl
any_among test is f (x ∷ xs) n h = any_append test (f x) (together f xs) (h x (first_false (is x) (list_any is xs) n)) (any_among test is f xs (then_false (is x) (list_any is xs) n) h)

module _ {V : Type 0} (test : V → Bool) (f : V → V) where
  mapped_append : (xs ys : List V) → map_those test f (xs ++ ys) ≡ map_those test f xs ++ map_those test f ys
  mapped_append [] ys = refl
  mapped_append (x ∷ xs) ys = ap (λ z. (if test x then f x else x) ∷ z) (mapped_append xs ys)

  without_append : (xs ys : List V) → without_those test (xs ++ ys) ≡ without_those test xs ++ without_those test ys
  without_append [] ys = refl
  without_append (x ∷ xs) ys = by (test x) (without_append xs ys)
    where
      by : (b : Bool) → without_those test (xs ++ ys) ≡ without_those test xs ++ without_those test ys → (if b then without_those test (xs ++ ys) else x ∷ without_those test (xs ++ ys)) ≡ (if b then without_those test xs else x ∷ without_those test xs) ++ without_those test ys
      by true r = r
      by false r = ap (λ z. x ∷ z) r

  pub changed_append : (keeps : Bool) (xs ys : List V) → changed_by keeps test f (xs ++ ys) ≡ changed_by keeps test f xs ++ changed_by keeps test f ys
  changed_append true xs ys = mapped_append xs ys
  changed_append false xs ys = without_append xs ys

-- ---- things that are shown, or not

module _ {A V : Type 0} (seen : A → Bool) (shown : A → V) (taken : A → Bool) (f : A → A) (test : V → Bool) (h : V → V) (same : (a : A) → seen a ≡ true → test (shown a) ≡ taken a) (shows : (a : A) → shown (f a) ≡ h (shown a)) (stays : (a : A) → seen (f a) ≡ seen a) where
  shown_one : (a : A) → seen a ≡ true → shown (if taken a then f a else a) ≡ (if test (shown a) then h (shown a) else shown a)
  shown_one a s = by (taken a) ∙ ap (λ (t : Bool). if t then h (shown a) else shown a) (sym (same a s))
    where
      by : (t : Bool) → shown (if t then f a else a) ≡ (if t then h (shown a) else shown a)
      by true = shows a
      by false = refl

  seen_one : (a : A) → seen (if taken a then f a else a) ≡ seen a
  seen_one a = by (taken a)
    where
      by : (t : Bool) → seen (if t then f a else a) ≡ seen a
      by true = stays a
      by false = refl

  seen_mapped : (xs : List A) → map shown (filter seen (map_those taken f xs)) ≡ map_those test h (map shown (filter seen xs))
  seen_mapped [] = refl
  seen_mapped (a ∷ xs) = ap (λ (s : Bool). map shown (if s then (if taken a then f a else a) ∷ filter seen (map_those taken f xs) else filter seen (map_those taken f xs))) (seen_one a) ∙ by (seen a) refl (seen_mapped xs)
    where
      by : (s : Bool) → seen a ≡ s → map shown (filter seen (map_those taken f xs)) ≡ map_those test h (map shown (filter seen xs))
          → map shown (if s then (if taken a then f a else a) ∷ filter seen (map_those taken f xs) else filter seen (map_those taken f xs)) ≡ map_those test h (map shown (if s then a ∷ filter seen xs else filter seen xs))
      by true e r = ap (λ z. z ∷ map shown (filter seen (map_those taken f xs))) (shown_one a e) ∙ ap (λ z. (if test (shown a) then h (shown a) else shown a) ∷ z) r
      by false e r = r

  seen_without : (xs : List A) → map shown (filter seen (without_those taken xs)) ≡ without_those test (map shown (filter seen xs))
  seen_without [] = refl
  seen_without (a ∷ xs) = by (seen a) (taken a) refl refl (seen_without xs)
    where
      by : (s t : Bool) → seen a ≡ s → taken a ≡ t → map shown (filter seen (without_those taken xs)) ≡ without_those test (map shown (filter seen xs))
          → map shown (filter seen (if t then without_those taken xs else a ∷ without_those taken xs)) ≡ without_those test (map shown (if s then a ∷ filter seen xs else filter seen xs))
      by true true e k r = let y = same a e ∙ k in rw y r
      by true false e k r = let y = same a e ∙ k in rw (e, y) (ap (λ z. shown a ∷ z) r)
      by false true e k r = r
      by false false e k r = rw e r

  pub seen_changed : (keeps : Bool) (xs : List A) → map shown (filter seen (changed_by keeps taken f xs)) ≡ changed_by keeps test h (map shown (filter seen xs))
  seen_changed true xs = seen_mapped xs
  seen_changed false xs = seen_without xs

-- what isn't shown was changed
module _ {A : Type 0} (seen taken : A → Bool) (f : A → A) (unseen : (a : A) → taken a ≡ true → seen a ≡ false) (stays : (a : A) → seen (f a) ≡ seen a) where
  unseen_mapped : (xs : List A) → filter seen (map_those taken f xs) ≡ filter seen xs
  unseen_mapped [] = refl
  unseen_mapped (a ∷ xs) = by (taken a) refl (unseen_mapped xs)
    where
      by : (t : Bool) → taken a ≡ t → filter seen (map_those taken f xs) ≡ filter seen xs → filter seen ((if t then f a else a) ∷ map_those taken f xs) ≡ filter seen (a ∷ xs)
      by true e r = let no = unseen a e in let still = stays a ∙ no in rw (still, no) r
      by false e r = ap (λ z. if seen a then a ∷ z else z) r

  unseen_without : (xs : List A) → filter seen (without_those taken xs) ≡ filter seen xs
  unseen_without [] = refl
  unseen_without (a ∷ xs) = by (taken a) refl (unseen_without xs)
    where
      by : (t : Bool) → taken a ≡ t → filter seen (without_those taken xs) ≡ filter seen xs → filter seen (if t then without_those taken xs else a ∷ without_those taken xs) ≡ filter seen (a ∷ xs)
      by true e r = let no = unseen a e in rw no r
      by false e r = ap (λ z. if seen a then a ∷ z else z) r

  pub unseen_changed : (keeps : Bool) (xs : List A) → filter seen (changed_by keeps taken f xs) ≡ filter seen xs
  unseen_changed true xs = unseen_mapped xs
  unseen_changed false xs = unseen_without xs

-- all are shown
module _ {A V : Type 0} (shown : A → V) (taken : A → Bool) (f : A → A) (test : V → Bool) (h : V → V) (same : (a : A) → test (shown a) ≡ taken a) (shows : (a : A) → shown (f a) ≡ h (shown a)) where
  all_mapped : (xs : List A) → map shown (map_those taken f xs) ≡ map_those test h (map shown xs)
  all_mapped [] = refl
  all_mapped (a ∷ xs) = ap (λ z. z ∷ map shown (map_those taken f xs)) (by (taken a) ∙ ap (λ (t : Bool). if t then h (shown a) else shown a) (sym (same a))) ∙ ap (λ z. (if test (shown a) then h (shown a) else shown a) ∷ z) (all_mapped xs)
    where
      by : (t : Bool) → shown (if t then f a else a) ≡ (if t then h (shown a) else shown a)
      by true = shows a
      by false = refl

  all_without : (xs : List A) → map shown (without_those taken xs) ≡ without_those test (map shown xs)
  all_without [] = refl
  all_without (a ∷ xs) = by (taken a) (all_without xs) ∙ ap (λ (t : Bool). if t then without_those test (map shown xs) else shown a ∷ without_those test (map shown xs)) (sym (same a))
    where
      by : (t : Bool) → map shown (without_those taken xs) ≡ without_those test (map shown xs) → map shown (if t then without_those taken xs else a ∷ without_those taken xs) ≡ (if t then without_those test (map shown xs) else shown a ∷ without_those test (map shown xs))
      by true r = r
      by false r = ap (λ z. shown a ∷ z) r

  pub all_changed : (keeps : Bool) (xs : List A) → map shown (changed_by keeps taken f xs) ≡ changed_by keeps test h (map shown xs)
  all_changed true xs = all_mapped xs
  all_changed false xs = all_without xs

-- ---- one of the things of a level became another

module _ {A V : Type 0} (L : Level A) (m : Blocks) (g : Hung A) (held : Holds (hung L) m g) (shown : A → List V) (is : A → Bool) (Q : A → A → Type 0) (keeps : Bool) (test : V → Bool) (h : V → V)
    (others : (a : A) → is a ≡ false → list_any test (shown a) ≡ false) (one : (a b : A) → Holds L.owner m a → L.Good a → is a ≡ true → Q a b → shown b ≡ changed_by keeps test h (shown a)) where
  among_stays : (xs : List A) → list_any is xs ≡ false → together shown xs ≡ changed_by keeps test h (together shown xs)
  among_stays xs n = list_same test h keeps (together shown xs) (any_among test is shown xs n others)

  one_changed : (ys : List A) → OneOther is Q (things g) ys → together shown ys ≡ changed_by keeps test h (together shown (things g))
  one_changed ys t =
      let stands = holds_spot L.owner m t.left t.was t.right (subst (λ z. Holds (each L.owner) m z) t.before_is (holds_each L m g held)) in
      let found : find is (things g) ≡ Some t.was = ap (find is) t.before_is ∙ find_spot is t.left t.was t.right t.none_left t.passes in
      let good = found_good L is (things g) t.was (all_good L (entries g.0) g.1 held.here.1.leads) found in
      let now = one t.was t.now stands good t.passes t.so in
      let split = ap (together shown) t.before_is ∙ together_append shown t.left (t.was ∷ t.right) in
      ap (together shown) t.after_is
      ∙ (together_append shown t.left (t.now ∷ t.right)
      ∙ (ap (λ z. z ++ (shown t.now ++ together shown t.right)) (among_stays t.left t.none_left)
      ∙ (ap (λ z. changed_by keeps test h (together shown t.left) ++ (z ++ together shown t.right)) now
      ∙ (ap (λ z. changed_by keeps test h (together shown t.left) ++ (changed_by keeps test h (shown t.was) ++ z)) (among_stays t.right t.none_right)
      ∙ (ap (λ z. changed_by keeps test h (together shown t.left) ++ z) (sym (changed_append test h keeps (shown t.was) (together shown t.right)))
      ∙ (sym (changed_append test h keeps (together shown t.left) (shown t.was ++ together shown t.right))
      ∙ sym (ap (changed_by keeps test h) split)))))))

  pub together_changed : (ys : List A) → ChangesOne is Q (things g) ys → together shown ys ≡ changed_by keeps test h (together shown (things g))
  together_changed ys c = elim c [
    | inl t ↦ one_changed ys t
    | inr n ↦ ap (together shown) n.same ∙ among_stays (things g) n.none
  ]
