-- The thing of a key is settled or pruned.
use Rattle.std.proofs.Common.{◌≡◌, ℕ, ◌+◌, ◌<◌, ◌≤◌, ◌*◌, ◌^◌, ◌⊎◌, ◌&&◌, Bool, true, false, List, [], ◌∷◌, ◌++◌, Option, Some, None, length, map, refl, sym, ap, ◌∙◌, subst, arith, inl, inr}
use Rattle.std.specs.Prelude.{if◌then◌else◌}
use Rattle.std.specs.List.{find, list_any}
use Rattle.std.specs.Option.{option_map}
use Rattle.std.proofs.lemmas.Bool.{cases_lt}
use Rattle.pmem_tree.specs.pmem_pages.Blocks.{Blocks, Budget, IsSpent}
use Rattle.pmem_tree.specs.pmem_pages.Owned.{tree_owner}
use Rattle.pmem_tree.specs.pmem_pages.Owners.{Changed, Holds, Owner, each, maybe, owned_each, times, times-append}
use Rattle.pmem_tree.specs.pmem_pages.Shape.{Entry, Shape, blocks_of, entries, entry_at}
use Rattle.pmem_tree.specs.pmem_pages.declared.node.TreeKey.{TreeKey}
use Rattle.pmem_tree.proofs.pmem_pages.Owning.{not_free}
use Rattle.pmem_tree.specs.Calls.{StagesAtMost, TooFew}
use Rattle.pmem_tree.specs.Changes.{Removes}
use Rattle.vos_levels.specs.Calls.{Becomes}
use Rattle.vos_levels.specs.Changes.{changed_by, freed_by, sum_those}
use Rattle.vos_levels.specs.Levels.{Hung, Level, TellsKey, hung, hung_root, in_part, map_those, things, without_those}
use Rattle.vos_levels.proofs.Changing.{holds_each, holds_spot}
use Rattle.vos_levels.proofs.Spots.{Spot, first_false, look, mapped_none, some_not_none, then_false, without_none}
use Rattle.vos_levels.proofs.Testing.{fewer_none, found_missing, found_spot, spot_map, spot_none, spot_without}

-- ---- what is said of the thing of a key

-- the thing that says this
pub record Says {A K : Type 0} (mark : A → K) (at : A → Bool) (k : K) (xs : List A) : Type 0 where
  pub thing : A
  pub found : find at xs ≡ Some thing
  pub mark_is : mark thing ≡ k

inside : {K : Type 0} (x y : K) → Some x ≡ Some y → x ≡ y
inside x y h = cc

pub says : {A K : Type 0} (mark : A → K) (at : A → Bool) (k : K) (xs : List A) → option_map mark (find at xs) ≡ Some k → Says mark at k xs
says {A = A} {K = K} mark at k xs h = by (find at xs) refl h
  where
    by : (x : Option A) → find at xs ≡ x → option_map mark x ≡ Some k → Says mark at k xs
    by None e h = absurd (let n : ⊥ = cc in n)
    by (Some a) e h = record { thing = a; found = e; mark_is = inside (mark a) k h }

pub says_none : {A K : Type 0} (mark : A → K) (at : A → Bool) (xs : List A) → None ≡ option_map mark (find at xs) → list_any at xs ≡ false
says_none {A = A} mark at xs h = found_missing at xs (by (find at xs) h)
  where
    by : (x : Option A) → None ≡ option_map mark x → x ≡ None
    by None h = refl
    by (Some v) h = absurd (let n : ⊥ = cc in n)

-- where none has the key, the tree has it not
pub missing_key : {A : Type 0} (L : Level A) (k : TreeKey) (at : A → Bool) → TellsKey L k at → (m : Blocks) (g : Hung A) → Holds (hung L) m g → list_any at (things g) ≡ false → entry_at k (entries g.0) ≡ None
missing_key L k at tells m g h none =
    elim (look L k at tells (entries g.0) g.1 h.here.1.leads h.here.1.rises) [
      | inl s ↦ absurd (some_not_none at g.1 s.1.1.left s.1.0 s.1.1.right s.1.1.things_are s.1.1.passes none)
      | inr n ↦ n.at
    ]

-- where it stands
pub spot_at : {A : Type 0} (L : Level A) (k : TreeKey) (at : A → Bool) → TellsKey L k at → (m : Blocks) (g : Hung A) (a : A) → Holds (hung L) m g → find at (things g) ≡ Some a → (e : Entry) × Spot L k at (entries g.0) g.1 e a
spot_at L k at tells m g a h found = found_spot L k at tells (entries g.0) g.1 a h.here.1.leads h.here.1.rises found

-- ---- sums over a list with one thing that passes

pub sum_none : {A : Type 0} (test : A → Bool) (size : A → ℕ) (xs : List A) → list_any test xs ≡ false → sum_those test size xs ≡ 0
sum_none test size [] n = refl
sum_none test size (x ∷ xs) n =
    let one : test x ≡ false = first_false (test x) (list_any test xs) n in
    rw one (omega (arith, sum_none test size xs (then_false (test x) (list_any test xs) n)))

pub sum_spot : {A : Type 0} (test : A → Bool) (size : A → ℕ) (left : List A) (a : A) (right : List A) → list_any test left ≡ false → test a ≡ true → list_any test right ≡ false → sum_those test size (left ++ a ∷ right) ≡ size a
sum_spot test size [] a right n t k = rw t (omega (arith, sum_none test size right k))
sum_spot test size (x ∷ left) a right n t k =
    let one : test x ≡ false = first_false (test x) (list_any test left) n in
    rw one (omega (arith, sum_spot test size left a right (then_false (test x) (list_any test left) n) t k))

-- ---- what a change makes of the list

module _ {A : Type 0} (L : Level A) (k : TreeKey) (at takes : A → Bool) (es : List Entry) (xs : List A) (e : Entry) (a : A) (s : Spot L k at es xs e a) where
  -- it is kept as done
  pub list_kept : (f : A → A) (keeps : Bool) → takes a ≡ true → keeps ≡ true → map_those at f xs ≡ changed_by keeps (λ x. at x && takes x) f xs
  list_kept f keeps t h = sym (spot_map L k at takes es xs e a s f t) ∙ sym (ap (λ (b : Bool). if b then map_those (λ x. at x && takes x) f xs else without_those (λ x. at x && takes x) xs) h)

  -- it goes
  pub list_gone : (f : A → A) (keeps : Bool) → takes a ≡ true → keeps ≡ false → without_those at xs ≡ changed_by keeps (λ x. at x && takes x) f xs
  list_gone f keeps t h = sym (spot_without L k at takes es xs e a s t) ∙ sym (ap (λ (b : Bool). if b then map_those (λ x. at x && takes x) f xs else without_those (λ x. at x && takes x) xs) h)

  -- its blocks are those given back
  pub list_freed : (size : A → ℕ) (keeps : Bool) → takes a ≡ true → keeps ≡ false → freed_by keeps (λ x. at x && takes x) size xs ≡ size a
  list_freed size keeps t h =
      let both : (at a && takes a) ≡ true = rw (s.passes, t) refl in
      ap (λ (b : Bool). if b then 0 else sum_those (λ x. at x && takes x) size xs) h
      ∙ (ap (sum_those (λ x. at x && takes x) size) s.things_are
      ∙ (sum_spot (λ x. at x && takes x) size s.left a s.right (fewer_none at takes s.left s.none_left) both (fewer_none at takes s.right s.none_right)))

-- nothing is taken
pub list_same : {A : Type 0} (test : A → Bool) (f : A → A) (keeps : Bool) (xs : List A) → list_any test xs ≡ false → xs ≡ changed_by keeps test f xs
list_same test f true xs n = sym (mapped_none test f xs n)
list_same test f false xs n = sym (without_none test xs n)

pub none_freed : {A : Type 0} (test : A → Bool) (size : A → ℕ) (keeps : Bool) (xs : List A) → list_any test xs ≡ false → freed_by keeps test size xs ≡ 0
none_freed test size true xs n = refl
none_freed test size false xs n = sum_none test size xs n

pub kept_freed : {A : Type 0} (test : A → Bool) (size : A → ℕ) (keeps : Bool) (xs : List A) → keeps ≡ true → freed_by keeps test size xs ≡ 0
kept_freed test size keeps xs h = ap (λ (b : Bool). if b then 0 else sum_those test size xs) h

-- ---- what the things are shown as

module _ {A V : Type 0} (shown : A → V) (test : V → Bool) (f : A → A) (g : V → V) (same : (a : A) → shown (f a) ≡ g (shown a)) where
  shown_one : (a : A) (t : Bool) → shown (if t then f a else a) ≡ (if t then g (shown a) else shown a)
  shown_one a true = same a
  shown_one a false = refl

  shown_mapped : (xs : List A) → map shown (map_those (λ a. test (shown a)) f xs) ≡ map_those test g (map shown xs)
  shown_mapped [] = refl
  shown_mapped (a ∷ xs) = ap (λ z. z ∷ map shown (map_those (λ b. test (shown b)) f xs)) (shown_one a (test (shown a))) ∙ ap (λ z. (if test (shown a) then g (shown a) else shown a) ∷ z) (shown_mapped xs)

  shown_without : (xs : List A) → map shown (without_those (λ a. test (shown a)) xs) ≡ without_those test (map shown xs)
  shown_without [] = refl
  shown_without (a ∷ xs) = by (test (shown a)) (shown_without xs)
    where
      by : (t : Bool) → map shown (without_those (λ b. test (shown b)) xs) ≡ without_those test (map shown xs) → map shown (if t then without_those (λ b. test (shown b)) xs else a ∷ without_those (λ b. test (shown b)) xs) ≡ (if t then without_those test (map shown xs) else shown a ∷ without_those test (map shown xs))
      by true r = r
      by false r = ap (λ z. shown a ∷ z) r

  pub shown_changed : (keeps : Bool) (xs : List A) → map shown (changed_by keeps (λ a. test (shown a)) f xs) ≡ changed_by keeps test g (map shown xs)
  shown_changed true xs = shown_mapped xs
  shown_changed false xs = shown_without xs

pub shown_freed : {A V : Type 0} (shown : A → V) (test : V → Bool) (size : V → ℕ) (keeps : Bool) (xs : List A) → freed_by keeps test size (map shown xs) ≡ freed_by keeps (λ a. test (shown a)) (λ a. size (shown a)) xs
shown_freed shown test size true xs = refl
shown_freed {A = A} shown test size false xs = by xs
  where
    by : (ys : List A) → sum_those test size (map shown ys) ≡ sum_those (λ a. test (shown a)) (λ a. size (shown a)) ys
    by [] = refl
    by (y ∷ ys) = ap (λ n. (if test (shown y) then size (shown y) else 0) + n) (by ys)

-- what became another thing, shown otherwise
pub becomes_shown : {G V W : Type 0} {O : Owner G} {root : G → ℕ} {m n : Blocks} {g : G} {at : ℕ} (shown : G → List V) (R : List V → List V → Type 0) (other : G → List W) (Q : List W → List W → Type 0)
    → ((h : G) → R (shown g) (shown h) → Q (other g) (other h)) → Becomes O root shown m g n at R → Becomes O root other m g n at Q
becomes_shown shown R other Q f b = record { now = b.now; changed = b.changed; root_is = b.root_is; shown_is = f b.now b.shown_is }

-- ---- things in parts of others

pub made_part : {A B : Type 0} (f : A → B) (O : Owner B) (m n : Blocks) (a : A) → Changed (maybe O) m None n (Some (f a)) → Changed (maybe (in_part f O)) m None n (Some a)
made_part f O m n a c = record { holds = record { here = c.holds.here; apart = c.holds.apart }; outside = c.outside; taken = c.taken; given = c.given }

pub given_part : {A B : Type 0} (f : A → B) (O : Owner B) (m n : Blocks) (a : A) → Changed (maybe O) m (Some (f a)) n None → Changed (maybe (in_part f O)) m (Some a) n None
given_part f O m n a c = record { holds = record { here = c.holds.here; apart = c.holds.apart }; outside = c.outside; taken = c.taken; given = c.given }

-- a thing that stands in the same blocks as another
pub stays_part : {A B : Type 0} (f : A → B) (O : Owner B) (m : Blocks) (a b : A) → f a ≡ f b → Holds (in_part f O) m a → Changed (in_part f O) m a m b
stays_part f O m a b same h =
    let here : Holds O m (f a) = record { here = h.here; apart = h.apart } in
    let there : Holds O m (f b) = subst (λ z. Holds O m z) same here in
    let owns : (q : ℕ) → times q (O.owned (f a)) ≡ times q (O.owned (f b)) = λ q. ap (λ z. times q (O.owned z)) same in
    record {
      holds = record { here = there.here; apart = there.apart };
      outside = λ q x y. refl;
      taken = λ q x y. absurd (omega (arith, x, y, owns q));
      given = λ q x y. absurd (omega (arith, x, y, owns q));
    }

owned_at : {A : Type 0} (q : ℕ) (O : Owner A) (left : List A) (a : A) (right : List A) → times q (O.owned a) ≤ times q (owned_each O (left ++ a ∷ right))
owned_at q O [] a right = omega (arith, times-append q (O.owned a) (owned_each O right))
owned_at q O (x ∷ left) a right = omega (arith, owned_at q O left a right, times-append q (O.owned x) (owned_each O (left ++ a ∷ right)))

-- the thing at a spot stands
pub spot_stands : {A : Type 0} (L : Level A) (k : TreeKey) (at : A → Bool) (m : Blocks) (g : Hung A) (e : Entry) (a : A) → Holds (hung L) m g → Spot L k at (entries g.0) g.1 e a → Holds L.owner m a
spot_stands L k at m g e a h s = holds_spot L.owner m s.left a s.right (subst (λ z. Holds (each L.owner) m z) s.things_are (holds_each L m g h))

-- in no block of the tree
pub spot_apart : {A : Type 0} (L : Level A) (k : TreeKey) (at : A → Bool) (m : Blocks) (g : Hung A) (e : Entry) (a : A) → Holds (hung L) m g → Spot L k at (entries g.0) g.1 e a → (q : ℕ) → 0 < times q (L.owner.owned a) → times q (blocks_of (entries g.0)) ≡ 0
spot_apart L k at m g e a h s q own =
    let among : times q (L.owner.owned a) ≤ times q (owned_each L.owner g.1) = subst (λ z. times q (L.owner.owned a) ≤ times q (owned_each L.owner z)) (sym s.things_are) (owned_at q L.owner s.left a s.right) in
    omega (arith, own, among, h.apart q, times-append q (blocks_of (entries g.0)) (owned_each L.owner g.1))

-- and still where its pair went from the tree
pub still_thing : {A : Type 0} (L : Level A) (k : TreeKey) (at : A → Bool) (m n : Blocks) (g : Hung A) (e : Entry) (a : A) (root : ℕ) → Holds (hung L) m g → Spot L k at (entries g.0) g.1 e a → Removes m L.kind g.0 k e n root → Holds L.owner n a
still_thing L k at m n g e a root h s p =
    let mine = spot_stands L k at m g e a h s in
    let same : (q : ℕ) → 0 < times q (L.owner.owned a) → n q ≡ m q = λ q own.
    let none = spot_apart L k at m g e a h s q own in
    elim (cases_lt 0 (times q (blocks_of (entries p.tree)))) [
      | inl new ↦ absurd (not_free m q (L.owner.is_taken m a mine.here q own) (p.changed.taken q none new))
      | inr out ↦ p.changed.outside q none (omega arith)
    ] in
    record { here = L.owner.frame m n a same mine.here; apart = mine.apart }

-- ---- sums

pub few_left : (t : Shape) (b : Budget) → (b.ranges < 1) ⊎ (b.bytes < 256) → TooFew t b
few_left t b h d n = elim h [ inl r ↦ inl (omega arith) | inr r ↦ inr (omega arith) ]

pub stages_one : (t : Shape) (b a : Budget) → IsSpent 1 256 b a → StagesAtMost 8 16 t b a
stages_one t b a s d n = record { ranges_most = omega (arith, s.ranges_most); ranges_least = s.ranges_least; bytes_most = omega (arith, s.bytes_most); bytes_least = s.bytes_least }
