-- Extents are settled or pruned by their moments, from the first to the last.
use Rattle.std.proofs.Common.{◌≡◌, ℕ, ◌+◌, ◌*◌, ◌≤◌, ◌^◌, ◌&&◌, ◌||◌, ◌==◌, Bool, true, false, List, [], ◌∷◌, ◌++◌, Option, Some, None, length, map, suc, refl, sym, ap, ◌∙◌, subst, arith}
use Rattle.std.specs.Prelude.{if◌then◌else◌}
use Rattle.std.specs.List.{find, list_any}
use Rattle.std.specs.Option.{option_and_then, option_map}
use Rattle.std.specs.Ordering.{nat_cmp, ordering_reverse, ordering_then}
use Rattle.std.specs.declared.cmp.Ordering.{Ordering}
use Rattle.std.specs.declared.cmp.Ordering.TheVariants.{Less, Equal, Greater}
use Rattle.std.proofs.lemmas.Bool.Decides.{nat_tests}
use Rattle.pmem_pages.specs.Blocks.{Blocks, Budget, IsSpent}
use Rattle.pmem_pages.specs.Node.{key_cmp}
use Rattle.pmem_pages.specs.Owners.{Holds}
use Rattle.pmem_pages.specs.Shape.{Entry, chosen, entries, first_above}
use Rattle.pmem_pages.specs.declared.node.TreeKey.{TreeKey}
use Rattle.pmem_pages.proofs.Lists.{key_total}
use Rattle.vos_moments.specs.pmem_tree.Calls.{TooFew}
use Rattle.vos_moments.specs.pmem_tree_base.Find.{pair_of}
use Rattle.vos_values.specs.declared.keys.ExtentKey.{ExtentKey}
use Rattle.vos_values.specs.declared.keys.Moment.{Moment}
use Rattle.vos_values.specs.Keys.{extent_key}
use Rattle.vos_moments.specs.vos_levels.declared.change.Change.{Change}
use Rattle.vos_moments.specs.vos_levels.Changes.{changed_by, keeps, takes}
use Rattle.vos_moments.specs.vos_levels.Calls.{Becomes}
use Rattle.vos_moments.specs.vos_levels.Levels.{LeadToAll, hung_root, map_those, things, without_those}
use Rattle.vos_moments.proofs.vos_levels.Spots.{first_false, then_false}
use Rattle.vos_moments.proofs.vos_levels.Testing.{Agree, AllGood, AllHigher, AllLower, agree_append, all_good, around, few_things}
use Rattle.vos_moments.specs.vos_punches.Moments.{has_moment}
use Rattle.vos_moments.specs.Taking.{TooFewToRemove, number_of}
use Rattle.vos_moments.proofs.Forms.{Form, not_again, took_nothing, took_one}
use Rattle.vos_moments.proofs.Taking.{agree_all, lacked_then, length_shown, spent_at_most, took_same, took_then}
use Rattle.vos_versions.specs.Marks.{StagesLess}
use Rattle.vos_extent.specs.declared.extent.ExtentVersion.{ExtentVersion}
use Rattle.vos_extent.specs.declared.pieces.Placed.{Placed}
use Rattle.vos_extent.specs.Extents.{Extents, IsChangedAt, IsStored, Stored, blocks_of_extent, done_extent, extent_level, extent_of, extent_owner, extents, freed_at, is_extent_at, is_taken, key_of_stored, place_of, placed_in_pair, placed_of, same_place}
use Rattle.vos_extent.specs.Settling.{TookExtents, is_next_taken, is_over, is_passed, is_taken_at, is_wanted}
use Rattle.vos_extent.specs.Shown.{moment_of, start_key}
use Rattle.vos_extent.proofs.Places.{tells_at}
use Rattle.vos_extent.proofs.Walking.{placed_again, start_order}

-- how extents stand in their tree
abbrev pub extent_form : Form Stored ExtentVersion
extent_form = record { level = extent_level; shown = extents; sized = λ g. length_shown extent_of (things g); moment = moment_of; by = λ v. v.by; is_done = λ v. v.done; done = done_extent; finished = λ v. refl; size = blocks_of_extent; chain = 5 }

-- ---- the first that passes a test

pub find_shown : {A V : Type 0} (shown : A → V) (p : V → Bool) (xs : List A) → find p (map shown xs) ≡ option_map shown (find (λ a. p (shown a)) xs)
find_shown shown p [] = refl
find_shown {A = A} {V = V} shown p (x ∷ xs) = by (p (shown x)) (find_shown shown p xs)
  where
    by : (t : Bool) → find p (map shown xs) ≡ option_map shown (find (λ a. p (shown a)) xs) → (if t then Some (shown x) else find p (map shown xs)) ≡ option_map shown (if t then Some x else find (λ a. p (shown a)) xs)
    by true r = refl
    by false r = r

record FirstAt {A : Type 0} (test : A → Bool) (xs : List A) (a : A) : Type 0 where
  left : List A
  right : List A
  is : xs ≡ left ++ a ∷ right
  passes : test a ≡ true
  none_left : list_any test left ≡ false

inside : {A : Type 0} (x y : A) → Some x ≡ Some y → x ≡ y
inside x y h = cc

first_spot : {A : Type 0} (test : A → Bool) (xs : List A) (a : A) → find test xs ≡ Some a → FirstAt test xs a
first_spot test [] a h = absurd (let n : ⊥ = cc in n)
first_spot {A = A} test (x ∷ xs) a h = by (test x) refl h (first_spot test xs a)
  where
    by : (t : Bool) → test x ≡ t → (if t then Some x else find test xs) ≡ Some a → (find test xs ≡ Some a → FirstAt test xs a) → FirstAt test (x ∷ xs) a
    by true e f r = let same = inside x a f in record { left = []; right = xs; is = ap (λ z. z ∷ xs) same; passes = ap test (sym same) ∙ e; none_left = refl }
    by false e f r = let s = r f in record { left = x ∷ s.left; right = s.right; is = ap (λ z. x ∷ z) s.is; passes = s.passes; none_left = rw (e, s.none_left) refl }

some_there : {A : Type 0} (test : A → Bool) (left : List A) (a : A) (right : List A) → test a ≡ true → list_any test (left ++ a ∷ right) ≡ true
some_there test [] a right h = rw h refl
some_there test (x ∷ left) a right h = rw (some_there test left a right h) (or_true (test x))
  where
    or_true : (b : Bool) → (b || true) ≡ true
    or_true true = refl
    or_true false = refl

-- what is found is there
pub found_there : {A : Type 0} (over test : A → Bool) (xs : List A) (a : A) → find over xs ≡ Some a → test a ≡ true → list_any test xs ≡ true
found_there over test xs a e h = let s = first_spot over xs a e in ap (list_any test) s.is ∙ some_there test s.left a s.right h

-- those that are done or gone are passed, so what is found stays the same
find_mapped : {A : Type 0} (p over : A → Bool) (f : A → A) → ((x : A) → over (f x) ≡ over x) → ((x : A) → p x ≡ true → over x ≡ false) → (xs : List A) → find over (map_those p f xs) ≡ find over xs
find_mapped p over f same past [] = refl
find_mapped {A = A} p over f same past (x ∷ xs) = by (p x) refl (find_mapped p over f same past xs)
  where
    by : (t : Bool) → p x ≡ t → find over (map_those p f xs) ≡ find over xs → find over ((if t then f x else x) ∷ map_those p f xs) ≡ (if over x then Some x else find over xs)
    by true e r = rw (same x ∙ past x e, past x e) r
    by false e r = ap (λ z. if over x then Some x else z) r

find_without : {A : Type 0} (p over : A → Bool) → ((x : A) → p x ≡ true → over x ≡ false) → (xs : List A) → find over (without_those p xs) ≡ find over xs
find_without p over past [] = refl
find_without {A = A} p over past (x ∷ xs) = by (p x) refl (find_without p over past xs)
  where
    by : (t : Bool) → p x ≡ t → find over (without_those p xs) ≡ find over xs → find over (if t then without_those p xs else x ∷ without_those p xs) ≡ (if over x then Some x else find over xs)
    by true e r = rw (past x e) r
    by false e r = ap (λ z. if over x then Some x else z) r

pub find_changed : {A : Type 0} (keep : Bool) (p over : A → Bool) (f : A → A) → ((x : A) → over (f x) ≡ over x) → ((x : A) → p x ≡ true → over x ≡ false) → (xs : List A) → find over (changed_by keep p f xs) ≡ find over xs
find_changed true p over f same past xs = find_mapped p over f same past xs
find_changed false p over f same past xs = find_without p over past xs

-- ---- what the tree says of the next

pair_is : (e : Entry) (s : Stored) → e.key ≡ key_of_stored s → e.value ≡ extent_level.value s → IsStored s → option_and_then placed_in_pair (pair_of (Some e)) ≡ Some (placed_of s)
pair_is e s k v good = (λ i. placed_in_pair (record { key = k i; value = v i })) ∙ placed_again s good

over_found : (k : TreeKey) (es : List Entry) (xs : List Stored) → LeadToAll extent_level es xs → option_and_then placed_in_pair (pair_of (first_above k es)) ≡ option_map placed_of (find (λ s. is_over k s.extent) xs)
over_found k [] [] p = refl
over_found k [] (s ∷ xs) p = absurd p
over_found k (e ∷ es) [] p = absurd p
over_found k (e ∷ es) (s ∷ xs) p = ap (λ z. option_and_then placed_in_pair (pair_of (chosen (key_cmp k z) (Some e) (first_above k es) (first_above k es)))) p.0.key ∙ by (key_cmp k (key_of_stored s)) (over_found k es xs p.1)
  where
    by : (o : Ordering) → option_and_then placed_in_pair (pair_of (first_above k es)) ≡ option_map placed_of (find (λ x. is_over k x.extent) xs)
        → option_and_then placed_in_pair (pair_of (chosen o (Some e) (first_above k es) (first_above k es))) ≡ option_map placed_of (if chosen o true false false then Some s else find (λ x. is_over k x.extent) xs)
    by Less r = pair_is e s p.0.key p.0.value p.0.good
    by Equal r = r
    by Greater r = r

pub next_found : (m : Blocks) (g : Extents) (k : TreeKey) (o : Option Placed) → Holds extent_owner m g → o ≡ option_and_then placed_in_pair (pair_of (first_above k (entries g.0))) → o ≡ option_map placed_of (find (λ s. is_over k s.extent) (things g))
next_found m g k o h found = found ∙ over_found k (entries g.0) g.1 h.here.1.leads

-- the next extent, as the tree tells it
pub record Next (k : TreeKey) (g : Extents) (placed : Placed) : Type 0 where
  pub stored : Stored
  pub found : find (is_over k) (extents g) ≡ Some stored.extent
  pub is : placed_of stored ≡ placed

pub next_is : (k : TreeKey) (g : Extents) (placed : Placed) → Some placed ≡ option_map placed_of (find (λ s. is_over k s.extent) (things g)) → Next k g placed
next_is k g placed e = by (find (λ s. is_over k s.extent) (things g)) refl e
  where
    by : (x : Option Stored) → find (λ s. is_over k s.extent) (things g) ≡ x → Some placed ≡ option_map placed_of x → Next k g placed
    by None f e = absurd (let n : ⊥ = cc in n)
    by (Some s) f e = record { stored = s; found = find_shown extent_of (is_over k) (things g) ∙ ap (option_map extent_of) f; is = sym (inside placed (placed_of s) e) }

pub none_is : (k : TreeKey) (g : Extents) → None ≡ option_map placed_of (find (λ s. is_over k s.extent) (things g)) → find (is_over k) (extents g) ≡ None
none_is k g e = find_shown extent_of (is_over k) (things g) ∙ by (find (λ s. is_over k s.extent) (things g)) e
  where
    by : (x : Option Stored) → None ≡ option_map placed_of x → option_map extent_of x ≡ None
    by None e = refl
    by (Some s) e = absurd (let n : ⊥ = cc in n)

pub next_place : (k : TreeKey) (g : Extents) (placed : Placed) → Next k g placed → Some placed.at ≡ option_map place_of (find (is_over k) (extents g))
next_place k g placed n = ap (λ (p : Placed). Some p.at) (sym n.is) ∙ ap (option_map place_of) (sym n.found)

pub none_place : (k : TreeKey) (g : Extents) → find (is_over k) (extents g) ≡ None → None ≡ option_map place_of (find (is_over k) (extents g))
none_place k g e = ap (option_map place_of) (sym e)

-- ---- past the next

flip_less : (a b : TreeKey) → key_cmp a b ≡ Less → key_cmp b a ≡ Greater
flip_less a b h = key_total.antisymm b a ∙ ap ordering_reverse h

itself : (o : Ordering) → o ≡ ordering_reverse o → o ≡ Equal
itself Less h = absurd (let n : ⊥ = cc in n)
itself Equal h = refl
itself Greater h = absurd (let n : ⊥ = cc in n)

same_key : (k : TreeKey) → key_cmp k k ≡ Equal
same_key k = itself (key_cmp k k) (key_total.antisymm k k)

over_less : (o : Ordering) → chosen o true false false ≡ true → o ≡ Less
over_less Less h = refl
over_less Equal h = absurd (let n : ⊥ = cc in n)
over_less Greater h = absurd (let n : ⊥ = cc in n)

pub not_over : (o : Ordering) → chosen o true false false ≡ false → chosen o false true true ≡ true
not_over Less h = absurd (let n : ⊥ = cc in n)
not_over Equal h = refl
not_over Greater h = refl

pub passed_not_over : (o : Ordering) → chosen o false true true ≡ true → chosen o true false false ≡ false
passed_not_over Less h = absurd (let n : ⊥ = cc in n)
passed_not_over Equal h = refl
passed_not_over Greater h = refl

-- Around the next extent: those in front of it were passed, those behind it not.
record Beside (k : TreeKey) (a : Stored) (y : Stored) : Type 0 where
  same : is_passed k y.extent ≡ is_passed (key_of_stored a) y.extent
  other : is_extent_at (place_of a.extent) y.extent ≡ false

module _ (k : TreeKey) (a : Stored) (good : IsStored a) (above : key_cmp k (key_of_stored a) ≡ Less) where
  in_front : (y : Stored) → IsStored y → key_cmp (key_of_stored y) (key_of_stored a) ≡ Less → is_over k y.extent ≡ false → Beside k a y
  in_front y fine less past =
      let after : key_cmp (key_of_stored a) (key_of_stored y) ≡ Greater = flip_less (key_of_stored y) (key_of_stored a) less in
      record {
        same = not_over (key_cmp k (key_of_stored y)) past ∙ sym (ap (λ o. chosen o false true true) after);
        other = tells_at (place_of a.extent) good.place y fine ∙ ap (λ o. chosen o false true false) after;
      }

  behind : (y : Stored) → IsStored y → key_cmp (key_of_stored a) (key_of_stored y) ≡ Less → Beside k a y
  behind y fine less =
      let later : key_cmp k (key_of_stored y) ≡ Less = key_total.trans k (key_of_stored a) (key_of_stored y) above less in
      record {
        same = ap (λ o. chosen o false true true) later ∙ sym (ap (λ o. chosen o false true true) less);
        other = tells_at (place_of a.extent) good.place y fine ∙ ap (λ o. chosen o false true false) less;
      }

abbrev AllBeside : TreeKey → Stored → List Stored → Type 0
AllBeside k a [] = Unit {0}
AllBeside k a (y ∷ ys) = Beside k a y × AllBeside k a ys

-- the next extent, with those on both sides
record Around_next (k : TreeKey) (xs : List Stored) (a : Stored) : Type 0 where
  left : List Stored
  right : List Stored
  is : xs ≡ left ++ a ∷ right
  before : AllBeside k a left
  after : AllBeside k a right
  ahead : is_passed k a.extent ≡ false
  reached : is_passed (key_of_stored a) a.extent ≡ true
  here : is_extent_at (place_of a.extent) a.extent ≡ true

around_next : (k : TreeKey) (m : Blocks) (g : Extents) (a : Stored) → Holds extent_owner m g → find (λ s. is_over k s.extent) (things g) ≡ Some a → Around_next k (things g) a
around_next k m g a h found =
    let s = first_spot (λ y. is_over k y.extent) (things g) a found in
    let t = around extent_level (entries g.0) s.left a s.right (subst (λ z. LeadToAll extent_level (entries g.0) z) s.is h.here.1.leads) h.here.1.rises in
    let above = over_less (key_cmp k (key_of_stored a)) s.passes in
    record {
      left = s.left;
      right = s.right;
      is = s.is;
      before = fronts s.left t.left_good t.lower s.none_left t.good above;
      after = backs s.right t.right_good t.higher t.good above;
      ahead = ap (λ o. chosen o false true true) above;
      reached = ap (λ o. chosen o false true true) (same_key (key_of_stored a));
      here = tells_at (place_of a.extent) t.good.place a t.good ∙ ap (λ o. chosen o false true false) (same_key (key_of_stored a));
    }
  where
    fronts : (ys : List Stored) → AllGood extent_level ys → AllLower extent_level (key_of_stored a) ys → list_any (λ y. is_over k y.extent) ys ≡ false → IsStored a → key_cmp k (key_of_stored a) ≡ Less → AllBeside k a ys
    fronts [] good low none fine above = tt
    fronts (y ∷ ys) good low none fine above = (in_front k a fine above y good.0 low.0 (first_false (is_over k y.extent) (list_any (λ z. is_over k z.extent) ys) none), fronts ys good.1 low.1 (then_false (is_over k y.extent) (list_any (λ z. is_over k z.extent) ys) none) fine above)

    backs : (ys : List Stored) → AllGood extent_level ys → AllHigher extent_level (key_of_stored a) ys → IsStored a → key_cmp k (key_of_stored a) ≡ Less → AllBeside k a ys
    backs [] good high fine above = tt
    backs (y ∷ ys) good high fine above = (behind k a fine above y good.0 high.0, backs ys good.1 high.1 fine above)

-- ---- which are taken so far

-- those that a change takes, of what was passed
abbrev pub taken_so_far : Change → List Moment → TreeKey → ExtentVersion → Bool
taken_so_far c ms k v = is_taken_at c ms v && is_passed k v

left_is : (t p q u s e : Bool) → p ≡ q → e ≡ false → (t && q) ≡ ((t && p) || (u && (e && s)))
left_is t p q u s true same none = absurd (let n : ⊥ = cc in n)
left_is t true q u s false same none = by t u q (sym same)
  where
    by : (x y z : Bool) → z ≡ true → (x && z) ≡ ((x && true) || (y && false))
    by true y true h = refl
    by false true true h = refl
    by false false true h = refl
    by x y false h = absurd (let n : ⊥ = cc in n)
left_is t false q u s false same none = by t u q (sym same)
  where
    by : (x y z : Bool) → z ≡ false → (x && z) ≡ ((x && false) || (y && false))
    by x y true h = absurd (let n : ⊥ = cc in n)
    by true true false h = refl
    by true false false h = refl
    by false true false h = refl
    by false false false h = refl

here_is : (h t p q e : Bool) → p ≡ false → q ≡ true → e ≡ true → ((h && t) && q) ≡ (((h && t) && p) || ((h && t) && (e && t)))
here_is h t p q e ahead reached is = rw (ahead, reached, is) (by h t)
  where
    by : (x y : Bool) → ((x && y) && true) ≡ (((x && y) && false) || ((x && y) && (true && y)))
    by true true = refl
    by true false = refl
    by false y = refl

taken_beside : (c : Change) (ms : List Moment) (k : TreeKey) (a : Stored) (ys : List Stored) → AllBeside k a ys → Agree (taken_so_far c ms (key_of_stored a)) (λ v. taken_so_far c ms k v || is_next_taken c ms (Some a.extent) v) (map extent_of ys)
taken_beside c ms k a [] b = tt
taken_beside c ms k a (y ∷ ys) b =
    let v = y.extent in
    (left_is (is_taken_at c ms v) (is_passed k v) (is_passed (key_of_stored a) v) (is_taken_at c ms a.extent) (takes c v.by v.done) (is_extent_at (place_of a.extent) v) b.0.same b.0.other, taken_beside c ms k a ys b.1)

map_append : (xs ys : List Stored) → map extent_of (xs ++ ys) ≡ map extent_of xs ++ map extent_of ys
map_append [] ys = refl
map_append (x ∷ xs) ys = ap (λ z. extent_of x ∷ z) (map_append xs ys)

-- one more was passed
pub taken_then : (c : Change) (ms : List Moment) (k : TreeKey) (m : Blocks) (g : Extents) (a : Stored) → Holds extent_owner m g → find (λ s. is_over k s.extent) (things g) ≡ Some a → Agree (taken_so_far c ms (key_of_stored a)) (λ v. taken_so_far c ms k v || is_next_taken c ms (Some a.extent) v) (extents g)
taken_then c ms k m g a h found =
    let r = around_next k m g a h found in
    let v = a.extent in
    let all = agree_append (taken_so_far c ms (key_of_stored a)) (λ x. taken_so_far c ms k x || is_next_taken c ms (Some a.extent) x) (map extent_of r.left) (map extent_of (a ∷ r.right)) (taken_beside c ms k a r.left r.before)
    (here_is (has_moment (moment_of v) ms) (takes c v.by v.done) (is_passed k v) (is_passed (key_of_stored a) v) (is_extent_at (place_of v) v) r.ahead r.reached r.here, taken_beside c ms k a r.right r.after) in
    subst (λ z. Agree (taken_so_far c ms (key_of_stored a)) (λ x. taken_so_far c ms k x || is_next_taken c ms (Some a.extent) x) z) (sym (ap (map extent_of) r.is ∙ map_append r.left (a ∷ r.right))) all

number_append : (p : ExtentVersion → Bool) (xs ys : List ExtentVersion) → number_of p (xs ++ ys) ≡ number_of p xs + number_of p ys
number_append p [] ys = omega arith
number_append p (x ∷ xs) ys = omega (arith, number_append p xs ys)

number_beside : (k : TreeKey) (a : Stored) (ys : List Stored) → AllBeside k a ys → number_of (is_passed k) (map extent_of ys) ≡ number_of (is_passed (key_of_stored a)) (map extent_of ys)
number_beside k a [] b = refl
number_beside k a (y ∷ ys) b = ap (λ (t : Bool). (if t then 1 else 0) + number_of (is_passed k) (map extent_of ys)) b.0.same ∙ ap (λ n. (if is_passed (key_of_stored a) y.extent then 1 else 0) + n) (number_beside k a ys b.1)

pub passed_then : (k : TreeKey) (m : Blocks) (g : Extents) (a : Stored) → Holds extent_owner m g → find (λ s. is_over k s.extent) (things g) ≡ Some a → number_of (is_passed k) (extents g) + 1 ≤ number_of (is_passed (key_of_stored a)) (extents g)
passed_then k m g a h found =
    let r = around_next k m g a h found in
    let q = key_of_stored a in
    let one : ◌≡◌ {A = ℕ} (if is_passed k a.extent then 1 else 0) 0 = ap (λ (t : Bool). if t then 1 else 0) r.ahead in
    let two : ◌≡◌ {A = ℕ} (if is_passed q a.extent then 1 else 0) 1 = ap (λ (t : Bool). if t then 1 else 0) r.reached in
    let l = ap (map extent_of) r.is ∙ map_append r.left (a ∷ r.right) in
    let before = ap (number_of (is_passed k)) l ∙ number_append (is_passed k) (map extent_of r.left) (map extent_of (a ∷ r.right)) in
    let after = ap (number_of (is_passed q)) l ∙ number_append (is_passed q) (map extent_of r.left) (map extent_of (a ∷ r.right)) in
    omega (arith, one, two, before, after, number_beside k a r.left r.before, number_beside k a r.right r.after)

-- ---- from the first to the last

or_not : (t p o : Bool) → (p ≡ false → o ≡ true) → t ≡ ((t && p) || (t && o))
or_not true true o h = refl
or_not true false o h = sym (h refl)
or_not false p o h = refl

not_passed : (o : Ordering) → chosen o false true true ≡ false → chosen o true false false ≡ true
not_passed Less h = refl
not_passed Equal h = absurd (let n : ⊥ = cc in n)
not_passed Greater h = absurd (let n : ⊥ = cc in n)

-- what is taken lies so far or ahead
abbrev pub taken_ahead : Change → List Moment → TreeKey → ExtentVersion → Bool
taken_ahead c ms k v = is_taken_at c ms v && is_over k v

pub both_ways : (c : Change) (ms : List Moment) (k : TreeKey) (v : ExtentVersion) → is_taken_at c ms v ≡ (taken_so_far c ms k v || taken_ahead c ms k v)
both_ways c ms k v = or_not (is_taken_at c ms v) (is_passed k v) (is_over k v) (not_passed (key_cmp k (extent_key (place_of v))))

and_no : (t p : Bool) → p ≡ false → (t && p) ≡ false
and_no true p h = h
and_no false p h = refl

and_yes : (t p : Bool) → p ≡ true → t ≡ (t && p)
and_yes true p h = sym h
and_yes false p h = refl

-- where none lies above, all were passed
pub all_passed : (c : Change) (ms : List Moment) (k : TreeKey) (vs : List ExtentVersion) → find (is_over k) vs ≡ None → Agree (is_taken_at c ms) (taken_so_far c ms k) vs
all_passed c ms k [] h = tt
all_passed c ms k (v ∷ vs) h = by (is_over k v) refl h (all_passed c ms k vs)
  where
    by : (t : Bool) → is_over k v ≡ t → (if t then Some v else find (is_over k) vs) ≡ None → (find (is_over k) vs ≡ None → Agree (is_taken_at c ms) (taken_so_far c ms k) vs) → Agree (is_taken_at c ms) (taken_so_far c ms k) (v ∷ vs)
    by true e f r = absurd (let n : ⊥ = cc in n)
    by false e f r = (and_yes (is_taken_at c ms v) (is_passed k v) (not_over (key_cmp k (extent_key (place_of v))) e), r f)

number_most : (p : ExtentVersion → Bool) (vs : List ExtentVersion) → number_of p vs ≤ length vs
number_most p [] = omega arith
number_most p (v ∷ vs) = by (p v) (number_most p vs)
  where
    by : (t : Bool) → number_of p vs ≤ length vs → (if t then 1 else 0) + number_of p vs ≤ suc (length vs)
    by true h = omega arith
    by false h = omega arith

all_counted : (c : Change) (ms : List Moment) (k : TreeKey) (vs : List ExtentVersion) → length vs ≤ number_of (is_passed k) vs → Agree (is_taken_at c ms) (taken_so_far c ms k) vs
all_counted c ms k [] h = tt
all_counted c ms k (v ∷ vs) h = by (is_passed k v) refl h (all_counted c ms k vs)
  where
    by : (t : Bool) → is_passed k v ≡ t → suc (length vs) ≤ (if t then 1 else 0) + number_of (is_passed k) vs → (length vs ≤ number_of (is_passed k) vs → Agree (is_taken_at c ms) (taken_so_far c ms k) vs) → Agree (is_taken_at c ms) (taken_so_far c ms k) (v ∷ vs)
    by true e n r = (and_yes (is_taken_at c ms v) (is_passed k v) e, r (omega arith))
    by false e n r = absurd (omega (arith, n, number_most (is_passed k) vs))

-- after as many as there may be none is left
pub all_over : (c : Change) (ms : List Moment) (k : TreeKey) (m : Blocks) (g : Extents) (n : ℕ) → Holds extent_owner m g → n ≤ number_of (is_passed k) (extents g) → 2 ^ 32 ≤ n → Agree (is_taken_at c ms) (taken_so_far c ms k) (extents g)
all_over c ms k m g n h passed over = all_counted c ms k (extents g) (omega (arith, passed, over, few_things extent_level m g h, length_shown extent_of (things g)))

-- the key of index 0 lies below all
pub none_before : (c : Change) (ms : List Moment) (m : Blocks) (g : Extents) → Holds extent_owner m g → list_any (taken_so_far c ms (start_key 0)) (extents g) ≡ false
none_before c ms m g h = by (things g) (all_good extent_level (entries g.0) g.1 h.here.1.leads)
  where
    low : (n : ℕ) → ordering_then (nat_cmp 0 n) Less ≡ Less
    low n = grind (arith, nat_tests)

    by : (xs : List Stored) → AllGood extent_level xs → list_any (taken_so_far c ms (start_key 0)) (map extent_of xs) ≡ false
    by [] good = refl
    by (s ∷ xs) good =
        let first : key_cmp (start_key 0) (extent_key (place_of s.extent)) ≡ Less = start_order 0 (place_of s.extent) (omega arith) good.0.place ∙ low s.extent.low in
        rw (and_no (is_taken_at c ms s.extent) (is_passed (start_key 0) s.extent) (ap (λ o. chosen o false true true) first), by xs good.1) refl

and_then : (s t : Bool) → (s && t) ≡ true → t ≡ true
and_then true t h = h
and_then false t h = absurd (let n : ⊥ = cc in n)

-- what was changed so far leaves the next where it was
pub next_same : (c : Change) (ms : List Moment) (k : TreeKey) (vs : List ExtentVersion) → find (is_over k) (changed_by (keeps c) (taken_so_far c ms k) done_extent vs) ≡ find (is_over k) vs
next_same c ms k vs = find_changed (keeps c) (taken_so_far c ms k) (is_over k) done_extent (λ v. refl) (λ v h. passed_not_over (key_cmp k (extent_key (place_of v))) (and_then (is_taken_at c ms v) (is_passed k v) h)) vs

-- ---- one turn

none_all : (vs : List ExtentVersion) → list_any (λ v. false) vs ≡ false
none_all [] = refl
none_all (v ∷ vs) = none_all vs

none_if : (t : Bool) (p : ExtentVersion → Bool) (vs : List ExtentVersion) → t ≡ false → list_any (λ v. t && p v) vs ≡ false
none_if true p vs h = absurd (let n : ⊥ = cc in n)
none_if false p vs h = none_all vs

pub took_no_next : (c : Change) (ms : List Moment) (k : TreeKey) (m : Blocks) (g : Extents) (b : Budget) (n : Blocks) (root : ℕ) (e : Budget) → Holds extent_owner m g → root ≡ hung_root g → n ≡ m → e ≡ b → find (is_over k) (extents g) ≡ None → TookExtents c (is_next_taken c ms (find (is_over k) (extents g))) m g b n root e
took_no_next c ms k m g b n root e h is same spent none =
    subst (λ z. TookExtents c (is_next_taken c ms z) m g b n root e) (sym none) (took_nothing extent_form (is_next_taken c ms None) c m g b n root e h is same spent (none_all (extents g)))

pub took_unwanted : (c : Change) (ms : List Moment) (k : TreeKey) (m : Blocks) (g : Extents) (b : Budget) (n : Blocks) (root : ℕ) (e : Budget) (placed : Placed) → Holds extent_owner m g → root ≡ hung_root g → n ≡ m → e ≡ b → Next k g placed → is_wanted c ms placed ≡ false → TookExtents c (is_next_taken c ms (find (is_over k) (extents g))) m g b n root e
took_unwanted c ms k m g b n root e placed h is same spent next unwanted =
    let v = next.stored.extent in
    let test : is_taken_at c ms v ≡ false = ap (is_wanted c ms) next.is ∙ unwanted in
    subst (λ z. TookExtents c (is_next_taken c ms z) m g b n root e) (sym next.found) (took_nothing extent_form (is_next_taken c ms (Some v)) c m g b n root e h is same spent (none_if (is_taken_at c ms v) (is_taken c (place_of v)) (extents g) test))

both_true : (s t : Bool) → s ≡ true → t ≡ true → (s && t) ≡ true
both_true true t h k = k
both_true false t h k = absurd (let n : ⊥ = cc in n)

and_first : (s t : Bool) → s ≡ true → (s && t) ≡ t
and_first true t h = refl
and_first false t h = absurd (let n : ⊥ = cc in n)

same_itself : (p : ExtentKey) → same_place p p ≡ true
same_itself p = by p.low p.epoch.0 p.minor
  where
    by : (a b c : ℕ) → ((a == a) && (b == b) && (c == c)) ≡ true
    by a b c = grind (arith, nat_tests)

pub took_wanted : (c : Change) (ms : List Moment) (k : TreeKey) (m : Blocks) (g : Extents) (b : Budget) (n : Blocks) (root : ℕ) (e : Budget) (placed : Placed) → Next k g placed → is_wanted c ms placed ≡ true → Becomes extent_owner hung_root extents m g n root (IsChangedAt c placed.at)
    → StagesLess g.0 b e → (keeps c ≡ true → root ≡ hung_root g) → (keeps c ≡ true → IsSpent 1 256 b e) → e.free ≡ b.free + freed_at c placed.at (extents g) → TookExtents c (is_next_taken c ms (find (is_over k) (extents g))) m g b n root e
took_wanted c ms k m g b n root e placed next wanted became staged kept put gave =
    let v = next.stored.extent in
    let test : is_taken_at c ms v ≡ true = ap (is_wanted c ms) next.is ∙ wanted in
    let place : place_of v ≡ placed.at = ap (λ (p : Placed). p.at) next.is in
    let mine : is_taken c placed.at v ≡ true = subst (λ p. is_taken c p v ≡ true) place (both_true (is_extent_at (place_of v) v) (takes c v.by v.done) (same_itself (place_of v)) (and_then (has_moment (moment_of v) ms) (takes c v.by v.done) test)) in
    let some = found_there (is_over k) (is_taken c placed.at) (extents g) v next.found mine in
    let one = took_one extent_form (is_taken c placed.at) c m g b n root e some became (λ d few. spent_at_most (8 * d + 21) (256 * (8 * d + 16) + 5) (8 * d + 16 + 5) (256 * (8 * d + 16) + 5) b e (omega arith) (omega arith) (staged d few)) kept put gave in
    let same = took_same extent_level extents (λ x. length_shown extent_of (things x)) (keeps c) done_extent blocks_of_extent 5 (is_taken c placed.at) (is_next_taken c ms (Some v)) m g b n root e
    (agree_all (is_next_taken c ms (Some v)) (is_taken c placed.at) (extents g) (λ x. and_first (is_taken_at c ms v) (is_taken c (place_of v) x) test ∙ ap (λ p. is_taken c p x) place)) one in
    subst (λ z. TookExtents c (is_next_taken c ms z) m g b n root e) (sym next.found) same

-- ---- one turn after another

-- the next extent, which is the same in what stood at first
record Turn (c : Change) (ms : List Moment) (k : TreeKey) (g now : Extents) (p : ExtentKey) : Type 0 where
  stored : Stored
  found : find (λ s. is_over k s.extent) (things g) ≡ Some stored
  there : find (is_over k) (extents now) ≡ Some stored.extent
  place : p ≡ place_of stored.extent

turn : (c : Change) (ms : List Moment) (k : TreeKey) (g now : Extents) (p : ExtentKey) → extents now ≡ changed_by (keeps c) (taken_so_far c ms k) done_extent (extents g) → Some p ≡ option_map place_of (find (is_over k) (extents now)) → Turn c ms k g now p
turn c ms k g now p is next = by (find (λ s. is_over k s.extent) (things g)) refl
  where
    same : find (is_over k) (extents now) ≡ option_map extent_of (find (λ s. is_over k s.extent) (things g))
    same = ap (find (is_over k)) is ∙ (next_same c ms k (extents g) ∙ find_shown extent_of (is_over k) (things g))

    by : (x : Option Stored) → find (λ s. is_over k s.extent) (things g) ≡ x → Turn c ms k g now p
    by None f = absurd (let no_place = next ∙ ap (option_map place_of) (same ∙ ap (option_map extent_of) f) in let n : ⊥ = cc in n)
    by (Some a) f =
        let there = same ∙ ap (option_map extent_of) f in
        record { stored = a; found = f; there = there; place = inside p (place_of a.extent) (next ∙ ap (option_map place_of) there) }

next_not_again : (c : Change) (ms : List Moment) (w : ExtentVersion) → keeps c ≡ true → (v : ExtentVersion) → is_next_taken c ms (Some w) (done_extent v) ≡ false
next_not_again c ms w kept v = and_no (is_taken_at c ms w) (is_taken c (place_of w) (done_extent v)) (not_again extent_form c (is_extent_at (place_of w)) kept v)

pub walked_on : (c : Change) (ms : List Moment) (k : TreeKey) (m : Blocks) (g : Extents) (b : Budget) (n : Blocks) (root : ℕ) (e : Budget) (o : Blocks) (next : ℕ) (f : Budget) (p : ExtentKey) (q : TreeKey) → q ≡ extent_key p → Holds extent_owner m g → (s : TookExtents c (taken_so_far c ms k) m g b n root e) → Some p ≡ option_map place_of (find (is_over k) (extents s.becomes.now))
    → TookExtents c (is_next_taken c ms (find (is_over k) (extents s.becomes.now))) n s.becomes.now e o next f → TookExtents c (taken_so_far c ms q) m g b o next f
walked_on c ms k m g b n root e o next f p q is h s found took =
    let t = turn c ms k g s.becomes.now p s.becomes.shown_is found in
    let took2 = subst (λ z. TookExtents c (is_next_taken c ms z) n s.becomes.now e o next f) t.there took in
    let all = took_then extent_level extents (λ x. length_shown extent_of (things x)) (keeps c) done_extent blocks_of_extent 5 (taken_so_far c ms k) (is_next_taken c ms (Some t.stored.extent)) (taken_so_far c ms (key_of_stored t.stored)) m g b n root e o next f h (next_not_again c ms t.stored.extent) (taken_then c ms k m g t.stored h t.found) s took2 in
    subst (λ z. TookExtents c (taken_so_far c ms z) m g b o next f) (sym (is ∙ ap extent_key t.place)) all

pub counted_on : (c : Change) (ms : List Moment) (k : TreeKey) (m : Blocks) (g : Extents) (b : Budget) (n : Blocks) (root : ℕ) (e : Budget) (p : ExtentKey) (q : TreeKey) (i : ℕ) → q ≡ extent_key p → Holds extent_owner m g → (s : TookExtents c (taken_so_far c ms k) m g b n root e) → Some p ≡ option_map place_of (find (is_over k) (extents s.becomes.now)) → i ≤ number_of (is_passed k) (extents g) → i + 1 ≤ number_of (is_passed q) (extents g)
counted_on c ms k m g b n root e p q i is h s found passed =
    let t = turn c ms k g s.becomes.now p s.becomes.shown_is found in
    let more = passed_then k m g t.stored h t.found in
    let same = ap (λ z. number_of (is_passed z) (extents g)) (is ∙ ap extent_key t.place) in
    omega (arith, passed, more, same)

-- none is left
pub walked_over : (c : Change) (ms : List Moment) (k : TreeKey) (m : Blocks) (g : Extents) (b : Budget) (n : Blocks) (root : ℕ) (e : Budget) (o : Blocks) (next : ℕ) (f : Budget) → Holds extent_owner m g → (s : TookExtents c (taken_so_far c ms k) m g b n root e) → None ≡ option_map place_of (find (is_over k) (extents s.becomes.now))
    → TookExtents c (is_next_taken c ms (find (is_over k) (extents s.becomes.now))) n s.becomes.now e o next f → TookExtents c (is_taken_at c ms) m g b o next f
walked_over c ms k m g b n root e o next f h s found took =
    let none = no_place (find (is_over k) (extents s.becomes.now)) found in
    let took2 = subst (λ z. TookExtents c (is_next_taken c ms z) n s.becomes.now e o next f) none took in
    let first = sym (ap (find (is_over k)) s.becomes.shown_is ∙ next_same c ms k (extents g)) ∙ none in
    took_then extent_level extents (λ x. length_shown extent_of (things x)) (keeps c) done_extent blocks_of_extent 5 (taken_so_far c ms k) (is_next_taken c ms None) (is_taken_at c ms) m g b n root e o next f h (λ kept v. refl)
    (nothing_more (extents g) (all_passed c ms k (extents g) first)) s took2
  where
    no_place : (x : Option ExtentVersion) → None ≡ option_map place_of x → x ≡ None
    no_place None h = refl
    no_place (Some v) h = absurd (let n : ⊥ = cc in n)

    or_none : (t : Bool) → t ≡ (t || false)
    or_none true = refl
    or_none false = refl

    nothing_more : (vs : List ExtentVersion) → Agree (is_taken_at c ms) (taken_so_far c ms k) vs → Agree (is_taken_at c ms) (λ v. taken_so_far c ms k v || is_next_taken c ms None v) vs
    nothing_more [] a = tt
    nothing_more (v ∷ vs) a = (a.0 ∙ or_none (taken_so_far c ms k v), nothing_more vs a.1)

pub walked_all : (c : Change) (ms : List Moment) (k : TreeKey) (m : Blocks) (g : Extents) (b : Budget) (n : Blocks) (root : ℕ) (e : Budget) (i : ℕ) → Holds extent_owner m g → i ≤ number_of (is_passed k) (extents g) → 2 ^ 32 ≤ i → TookExtents c (taken_so_far c ms k) m g b n root e → TookExtents c (is_taken_at c ms) m g b n root e
walked_all c ms k m g b n root e i h passed over s =
    took_same extent_level extents (λ x. length_shown extent_of (things x)) (keeps c) done_extent blocks_of_extent 5 (taken_so_far c ms k) (is_taken_at c ms) m g b n root e (all_over c ms k m g i h passed over) s

pub lacked_on : (c : Change) (ms : List Moment) (k : TreeKey) (m : Blocks) (g : Extents) (b : Budget) (n : Blocks) (root : ℕ) (e : Budget) → Holds extent_owner m g → (s : TookExtents c (taken_so_far c ms k) m g b n root e) → TooFew s.becomes.now.0 e → TooFewToRemove (number_of (is_taken_at c ms) (extents g)) 5 g.0 b
lacked_on c ms k m g b n root e h s few =
    lacked_then extent_level extents (λ x. length_shown extent_of (things x)) (keeps c) done_extent blocks_of_extent 5 (taken_so_far c ms k) (taken_ahead c ms k) (is_taken_at c ms) m g b n root e h (agree_all (is_taken_at c ms) (λ v. taken_so_far c ms k v || taken_ahead c ms k v) (extents g) (both_ways c ms k)) s few
