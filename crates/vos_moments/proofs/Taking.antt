-- One change of a tree's versions after another.
use Rattle.std.proofs.Common.{◌≡◌, ℕ, ◌+◌, ◌*◌, ◌<◌, ◌≤◌, ◌^◌, ◌||◌, ◌&&◌, ◌==◌, Bool, true, false, List, [], ◌∷◌, ◌++◌, Option, Some, None, length, map, suc, refl, sym, ap, ◌∙◌, subst, arith, inl, inr, add-one}
use Rattle.std.specs.Prelude.{if◌then◌else◌, OnOk, Result, Ok, Err, take, get_or}
use Rattle.std.proofs.Math.Seq.{take-suc}
use Rattle.std.proofs.Math.Nat.{mul-le-mul_right}
use Rattle.std.specs.List.{find, list_any}
use Rattle.std.specs.Option.{option_map}
use Rattle.std.proofs.lemmas.Bool.Decides.{nat_tests}
use Rattle.vos_punches.specs.pmem_pages.Blocks.{Blocks, Budget, IsSpent}
use Rattle.vos_punches.specs.pmem_pages.Owners.{Changed, Holds}
use Rattle.vos_punches.specs.pmem_pages.Shape.{Entry, Shape, entries}
use Rattle.vos_punches.specs.pmem_pages.declared.node.TreeKey.{TreeKey}
use Rattle.vos_punches.proofs.pmem_pages.Owning.{changed_then}
use Rattle.vos_punches.specs.pmem_tree.Calls.{TooFew}
use Rattle.vos_punches.specs.vos_values.declared.keys.Moment.{Moment}
use Rattle.vos_punches.specs.vos_levels.Changes.{changed_by, freed_by, sum_those}
use Rattle.vos_punches.specs.vos_levels.Levels.{Hung, Level, TellsKey, hung, hung_root, map_those, things, without_those}
use Rattle.vos_punches.specs.vos_levels.Moments.{same_moment}
use Rattle.vos_punches.proofs.vos_levels.Changing.{stays}
use Rattle.vos_punches.proofs.vos_levels.Settling.{list_same, none_freed, says, says_none, spot_at}
use Rattle.vos_punches.proofs.vos_levels.Spots.{Spot, same_length, some_not_none}
use Rattle.vos_punches.proofs.vos_levels.Testing.{Agree, fewer_none, spot_none}
use Rattle.vos_punches.specs.Moments.{has_moment}
use Rattle.vos_moments.specs.Taking.{PutsAtMost, RemovesAtMost, TooFewToRemove, Took, number_of, one_each, takes_one}

-- ---- lists

abbrev pub either : {A : Type 0} → (A → Bool) → (A → Bool) → A → Bool
either p q x = p x || q x

-- what two tests that agree take is the same
mapped_agree : {A : Type 0} (p q : A → Bool) (f : A → A) (xs : List A) → Agree p q xs → map_those p f xs ≡ map_those q f xs
mapped_agree p q f [] h = refl
mapped_agree p q f (x ∷ xs) h = rw (h.0, mapped_agree p q f xs h.1) refl

without_agree : {A : Type 0} (p q : A → Bool) (xs : List A) → Agree p q xs → without_those p xs ≡ without_those q xs
without_agree p q [] h = refl
without_agree p q (x ∷ xs) h = rw (h.0, without_agree p q xs h.1) refl

pub changed_agree : {A : Type 0} (keep : Bool) (p q : A → Bool) (f : A → A) (xs : List A) → Agree p q xs → changed_by keep p f xs ≡ changed_by keep q f xs
changed_agree true p q f xs h = mapped_agree p q f xs h
changed_agree false p q f xs h = without_agree p q xs h

pub sum_agree : {A : Type 0} (p q : A → Bool) (size : A → ℕ) (xs : List A) → Agree p q xs → sum_those p size xs ≡ sum_those q size xs
sum_agree p q size [] h = refl
sum_agree p q size (x ∷ xs) h = rw (h.0, sum_agree p q size xs h.1) refl

pub freed_agree : {A : Type 0} (keep : Bool) (p q : A → Bool) (size : A → ℕ) (xs : List A) → Agree p q xs → freed_by keep p size xs ≡ freed_by keep q size xs
freed_agree true p q size xs h = refl
freed_agree false p q size xs h = sum_agree p q size xs h

-- ---- one test after another

without_then : {A : Type 0} (p q : A → Bool) (xs : List A) → without_those q (without_those p xs) ≡ without_those (either p q) xs
without_then p q [] = refl
without_then {A = A} p q (x ∷ xs) = by (p x) (q x) refl (without_then p q xs)
  where
    by : (s t : Bool) → q x ≡ t → without_those q (without_those p xs) ≡ without_those (either p q) xs → without_those q (if s then without_those p xs else x ∷ without_those p xs) ≡ (if s || t then without_those (either p q) xs else x ∷ without_those (either p q) xs)
    by true t e r = r
    by false true e r = rw e r
    by false false e r = rw e (ap (λ z. x ∷ z) r)

mapped_then : {A : Type 0} (p q : A → Bool) (f : A → A) → ((x : A) → q (f x) ≡ false) → (xs : List A) → map_those q f (map_those p f xs) ≡ map_those (either p q) f xs
mapped_then p q f none [] = refl
mapped_then {A = A} p q f none (x ∷ xs) = by (p x) (q x) refl (mapped_then p q f none xs)
  where
    by : (s t : Bool) → q x ≡ t → map_those q f (map_those p f xs) ≡ map_those (either p q) f xs → map_those q f ((if s then f x else x) ∷ map_those p f xs) ≡ (if s || t then f x else x) ∷ map_those (either p q) f xs
    by true t e r = rw (none x) (ap (λ z. f x ∷ z) r)
    by false t e r = rw e (ap (λ z. (if t then f x else x) ∷ z) r)

changed_twice : {A : Type 0} (keep : Bool) (p q : A → Bool) (f : A → A) → (keep ≡ true → (x : A) → q (f x) ≡ false) → (xs : List A) → changed_by keep q f (changed_by keep p f xs) ≡ changed_by keep (either p q) f xs
changed_twice true p q f none xs = mapped_then p q f (none refl) xs
changed_twice false p q f none xs = without_then p q xs

sum_without : {A : Type 0} (p q : A → Bool) (size : A → ℕ) (xs : List A) → sum_those (either p q) size xs ≡ sum_those p size xs + sum_those q size (without_those p xs)
sum_without p q size [] = omega arith
sum_without {A = A} p q size (x ∷ xs) = by (p x) (q x) refl (sum_without p q size xs)
  where
    by : (s t : Bool) → q x ≡ t → sum_those (either p q) size xs ≡ sum_those p size xs + sum_those q size (without_those p xs)
        → (if s || t then size x else 0) + sum_those (either p q) size xs ≡ ((if s then size x else 0) + sum_those p size xs) + sum_those q size (if s then without_those p xs else x ∷ without_those p xs)
    by true t e r = omega (arith, r)
    by false true e r = rw e (omega (arith, r))
    by false false e r = rw e (omega (arith, r))

number_mapped : {A : Type 0} (p q : A → Bool) (f : A → A) → ((x : A) → q (f x) ≡ false) → (xs : List A) → number_of (either p q) xs ≡ number_of p xs + number_of q (map_those p f xs)
number_mapped p q f none [] = omega arith
number_mapped {A = A} p q f none (x ∷ xs) = by (p x) (q x) refl (number_mapped p q f none xs)
  where
    by : (s t : Bool) → q x ≡ t → number_of (either p q) xs ≡ number_of p xs + number_of q (map_those p f xs)
        → (if s || t then 1 else 0) + number_of (either p q) xs ≡ ((if s then 1 else 0) + number_of p xs) + number_of q ((if s then f x else x) ∷ map_those p f xs)
    by true t e r = rw (none x) (omega (arith, r))
    by false true e r = rw e (omega (arith, r))
    by false false e r = rw e (omega (arith, r))

number_twice : {A : Type 0} (keep : Bool) (p q : A → Bool) (f : A → A) → (keep ≡ true → (x : A) → q (f x) ≡ false) → (xs : List A) → number_of (either p q) xs ≡ number_of p xs + number_of q (changed_by keep p f xs)
number_twice true p q f none xs = number_mapped p q f (none refl) xs
number_twice false p q f none xs = sum_without p q one_each xs

freed_twice : {A : Type 0} (keep : Bool) (p q : A → Bool) (f : A → A) (size : A → ℕ) (xs : List A) → freed_by keep (either p q) size xs ≡ freed_by keep p size xs + freed_by keep q size (changed_by keep p f xs)
freed_twice true p q f size xs = omega arith
freed_twice false p q f size xs = sum_without p q size xs

pub number_less : {A : Type 0} (p q : A → Bool) (xs : List A) → number_of p xs ≤ number_of (either p q) xs
number_less p q xs = omega (arith, sum_without p q one_each xs)

-- no more are left
mapped_length : {A : Type 0} (p : A → Bool) (f : A → A) (xs : List A) → length (map_those p f xs) ≡ length xs
mapped_length p f [] = refl
mapped_length p f (x ∷ xs) = omega (arith, mapped_length p f xs)

without_length : {A : Type 0} (p : A → Bool) (xs : List A) → length (without_those p xs) ≤ length xs
without_length p [] = omega arith
without_length {A = A} p (x ∷ xs) = by (p x) (without_length p xs)
  where
    by : (t : Bool) → length (without_those p xs) ≤ length xs → length (if t then without_those p xs else x ∷ without_those p xs) ≤ length (x ∷ xs)
    by true h = omega arith
    by false h = omega arith

changed_length : {A : Type 0} (keep : Bool) (p : A → Bool) (f : A → A) (xs : List A) → length (changed_by keep p f xs) ≤ length xs
changed_length true p f xs = omega (arith, mapped_length p f xs)
changed_length false p f xs = without_length p xs

-- one that passes counts
pub some_number : {A : Type 0} (p : A → Bool) (xs : List A) → list_any p xs ≡ true → 1 ≤ number_of p xs
some_number p [] h = absurd (let n : ⊥ = cc in n)
some_number {A = A} p (x ∷ xs) h = by (p x) h (some_number p xs)
  where
    by : (t : Bool) → (t || list_any p xs) ≡ true → (list_any p xs ≡ true → 1 ≤ number_of p xs) → 1 ≤ (if t then 1 else 0) + number_of p xs
    by true h r = omega arith
    by false h r = omega (arith, r h)

-- what is shown of a list
pub any_shown : {A V : Type 0} (shown : A → V) (p : V → Bool) (xs : List A) → list_any p (map shown xs) ≡ list_any (λ a. p (shown a)) xs
any_shown shown p [] = refl
any_shown shown p (x ∷ xs) = ap (λ b. p (shown x) || b) (any_shown shown p xs)

pub length_shown : {A V : Type 0} (shown : A → V) (xs : List A) → length (map shown xs) ≡ length xs
length_shown shown [] = refl
length_shown shown (x ∷ xs) = ap suc (length_shown shown xs)

-- ---- moments

moments_turn : (a b : Moment) → same_moment a b ≡ same_moment b a
moments_turn a b = turn a.epoch.0 a.minor b.epoch.0 b.minor
  where
    turn : (i j k l : ℕ) → ((i == k) && (j == l)) ≡ ((k == i) && (l == j))
    turn i j k l = grind (arith, nat_tests)

or_assoc : (a b c : Bool) → ((a || b) || c) ≡ (a || (b || c))
or_assoc true b c = refl
or_assoc false b c = refl

or_none : (a : Bool) → (a || false) ≡ a
or_none true = refl
or_none false = refl

has_append : (x : Moment) (ms ns : List Moment) → has_moment x (ms ++ ns) ≡ (has_moment x ms || has_moment x ns)
has_append x [] ns = refl
has_append x (m ∷ ms) ns = ap (λ b. same_moment m x || b) (has_append x ms ns) ∙ sym (or_assoc (same_moment m x) (has_moment x ms) (has_moment x ns))

-- one moment more
pub has_more : (x : Moment) (ms : List Moment) (m : Moment) → has_moment x (ms ++ m ∷ []) ≡ (has_moment x ms || same_moment x m)
has_more x ms m = has_append x ms (m ∷ []) ∙ ap (λ b. has_moment x ms || b) (or_none (same_moment m x) ∙ moments_turn m x)

and_over : (a b t : Bool) → ((a || b) && t) ≡ ((a && t) || (b && t))
and_over true true true = refl
and_over true true false = refl
and_over true false t = sym (or_none t)
and_over false b t = refl

pub takes_more : (x : Moment) (ms : List Moment) (m : Moment) (t : Bool) → (has_moment x (ms ++ m ∷ []) && t) ≡ ((has_moment x ms && t) || (same_moment x m && t))
takes_more x ms m t = ap (λ b. b && t) (has_more x ms m) ∙ and_over (has_moment x ms) (same_moment x m) t

-- some moments, and then others
pub takes_both : (x : Moment) (ms ns : List Moment) (t : Bool) → (has_moment x (ms ++ ns) && t) ≡ ((has_moment x ms && t) || (has_moment x ns && t))
takes_both x ms ns t = ap (λ b. b && t) (has_append x ms ns) ∙ and_over (has_moment x ms) (has_moment x ns) t

pub take_more : (ms : List Moment) (i : ℕ) (none : Moment) → i < length ms → take (i + 1) ms ≡ take i ms ++ get_or ms i none ∷ []
take_more ms i none h = ap (λ n. take n ms) (add-one i) ∙ take-suc ms i none h

-- what holds of all holds of those of a list
pub agree_all : {A : Type 0} (p q : A → Bool) (xs : List A) → ((x : A) → p x ≡ q x) → Agree p q xs
agree_all p q [] h = tt
agree_all p q (x ∷ xs) h = (h x, agree_all p q xs h)

-- ---- whether a change takes the thing of a key

not_true : (b : Bool) → (b ≡ false → ⊥) → b ≡ true
not_true true h = refl
not_true false h = absurd (h refl)

pub taken_is : {A K : Type 0} (L : Level A) (k : TreeKey) (at : A → Bool) → TellsKey L k at → (m : Blocks) (g : Hung A) → Holds (hung L) m g → (mark : A → K) (takes : K → Bool) (o : Option K) → o ≡ option_map mark (find at (things g)) → takes_one takes o ≡ list_any (λ a. at a && takes (mark a)) (things g)
taken_is L k at tells m g h mark takes None e = sym (fewer_none at (λ a. takes (mark a)) (things g) (says_none mark at (things g) e))
taken_is {A = A} {K = K} L k at tells m g h mark takes (Some x) e =
    let s = says mark at x (things g) (sym e) in
    let spot = spot_at L k at tells m g s.thing h s.found in
    let is : takes (mark s.thing) ≡ takes x = ap takes s.mark_is in
    by (takes x) refl s.thing spot.0 spot.1 is
  where
    by : (t : Bool) → takes x ≡ t → (a : A) → (e : Entry) → Spot L k at (entries g.0) g.1 e a → takes (mark a) ≡ takes x → t ≡ list_any (λ b. at b && takes (mark b)) (things g)
    by true t a e s is = sym (not_true (list_any (λ b. at b && takes (mark b)) (things g)) (λ n. some_not_none (λ b. at b && takes (mark b)) g.1 s.left a s.right s.things_are (let q : takes (mark a) ≡ true = is ∙ t in rw (s.passes, q) refl) n))
    by false t a e s is = sym (spot_none L k at (λ b. takes (mark b)) (entries g.0) g.1 e a s (is ∙ t))

-- ---- what was staged

pub spent_none : (a b : ℕ) (x y : Budget) → y ≡ x → IsSpent a b x y
spent_none a b x y e = subst (λ z. IsSpent a b x z) (sym e) (record { ranges_most = omega arith; ranges_least = omega arith; bytes_most = omega arith; bytes_least = omega arith })

pub spent_at_most : (a b c e : ℕ) (x y : Budget) → a ≤ c → b ≤ e → IsSpent a b x y → IsSpent c e x y
spent_at_most a b c e x y ac be s = record {
  ranges_most = omega (arith, s.ranges_most, ac);
  ranges_least = s.ranges_least;
  bytes_most = omega (arith, s.bytes_most, be);
  bytes_least = s.bytes_least;
}

spent_then : (a b c e : ℕ) (x y z : Budget) → IsSpent a b x y → IsSpent c e y z → IsSpent (a + c) (b + e) x z
spent_then a b c e x y z s t = record {
  ranges_most = omega (arith, s.ranges_most, t.ranges_most);
  ranges_least = omega (arith, s.ranges_least, t.ranges_least);
  bytes_most = omega (arith, s.bytes_most, t.bytes_most);
  bytes_least = omega (arith, s.bytes_least, t.bytes_least);
}

times_most : (n k : ℕ) → 1 ≤ n → k ≤ n * k
times_most n k some = let h = mul-le-mul_right k some in omega (arith, h)

times_less : (a n k : ℕ) → a ≤ n → a * k ≤ n * k
times_less a n k h = mul-le-mul_right k h

-- a removal, of those that are counted
pub removes_one : (n chain : ℕ) (t : Shape) (x y : Budget) → 1 ≤ n → ((d : ℕ) → length (entries t) < 2 ^ d → IsSpent (8 * d + 16 + chain) (256 * (8 * d + 16) + chain) x y) → RemovesAtMost n chain t x y
removes_one n chain t x y some h d few =
    spent_at_most (8 * d + 16 + chain) (256 * (8 * d + 16) + chain) (n * (8 * d + 16 + chain)) (n * (256 * (8 * d + 16) + chain)) x y (times_most n (8 * d + 16 + chain) some) (times_most n (256 * (8 * d + 16) + chain) some) (h d few)

pub puts_one : (n : ℕ) (x y : Budget) → 1 ≤ n → IsSpent 1 256 x y → PutsAtMost n x y
puts_one n x y some h = spent_at_most 1 256 n (256 * n) x y some (omega (arith, some)) h

removes_then : (a b chain : ℕ) (t u : Shape) (x y z : Budget) → length (entries u) ≤ length (entries t) → RemovesAtMost a chain t x y → RemovesAtMost b chain u y z → RemovesAtMost (a + b) chain t x z
removes_then a b chain t u x y z le h k d few =
    spent_at_most (a * (8 * d + 16 + chain) + b * (8 * d + 16 + chain)) (a * (256 * (8 * d + 16) + chain) + b * (256 * (8 * d + 16) + chain)) ((a + b) * (8 * d + 16 + chain)) ((a + b) * (256 * (8 * d + 16) + chain)) x z
    (omega arith) (omega arith)
    (spent_then (a * (8 * d + 16 + chain)) (a * (256 * (8 * d + 16) + chain)) (b * (8 * d + 16 + chain)) (b * (256 * (8 * d + 16) + chain)) x y z (h d few) (k d (omega (arith, le, few))))

puts_then : (a b : ℕ) (x y z : Budget) → PutsAtMost a x y → PutsAtMost b y z → PutsAtMost (a + b) x z
puts_then a b x y z h k = spent_at_most (a + b) (256 * a + 256 * b) (a + b) (256 * (a + b)) x z (omega arith) (omega arith) (spent_then a (256 * a) b (256 * b) x y z h k)

pub fewer_still : (t u : Shape) (b : Budget) → length (entries u) ≤ length (entries t) → TooFew u b → TooFew t b
fewer_still t u b le h d few = h d (omega (arith, le, few))

-- too few were left after these, so too few before for all of them
lacked : (a n chain : ℕ) (t u : Shape) (x y : Budget) → a ≤ n → length (entries u) ≤ length (entries t) → RemovesAtMost a chain t x y → TooFew u y → TooFewToRemove n chain t x
lacked a n chain t u x y most le spent few d small =
    let s = spent d small in
    let r = times_less a n (8 * d + 16 + chain) most in
    let b = times_less a n (256 * (8 * d + 16) + chain) most in
    elim (few d (omega (arith, le, small))) [
      | inl less ↦ inl (omega (arith, less, s.ranges_most, r))
      | inr less ↦ inr (omega (arith, less, s.bytes_most, b))
    ]

-- ---- one change after another

module _ {A V : Type 0} (L : Level A) (shown : Hung A → List V) (sized : (h : Hung A) → length (shown h) ≡ length (things h)) (keep : Bool) (done : V → V) (size : V → ℕ) (chain : ℕ) where
  abbrev Took_of : (V → Bool) → Blocks → Hung A → Budget → Blocks → ℕ → Budget → Type 0
  Took_of taken m g before n at after = Took (hung L) shown keep taken done size chain m g before n at after

  number_things : (m : Blocks) (g : Hung A) → Holds (hung L) m g → length (entries g.0) ≡ length (shown g)
  number_things m g h = omega (arith, same_length L (entries g.0) g.1 h.here.1.leads, sized g)

  -- the tree has no more pairs than before
  pub no_more : (taken : V → Bool) (m : Blocks) (g : Hung A) (b : Budget) (n : Blocks) (at : ℕ) (c : Budget) → Holds (hung L) m g → (s : Took_of taken m g b n at c) → length (entries s.becomes.now.0) ≤ length (entries g.0)
  no_more taken m g b n at c h s =
      let now = s.becomes.now in
      let less = changed_length keep taken done (shown g) in
      let is = ap length s.becomes.shown_is in
      omega (arith, number_things m g h, number_things n now s.becomes.changed.holds, less, is)

  -- nothing is taken
  pub took_none : (taken : V → Bool) (m : Blocks) (g : Hung A) (b : Budget) (n : Blocks) (at : ℕ) (c : Budget) → Holds (hung L) m g → at ≡ hung_root g → n ≡ m → c ≡ b → list_any taken (shown g) ≡ false → Took_of taken m g b n at c
  took_none taken m g b n at c h root same spent none = record {
    becomes = record { now = g; changed = subst (λ z. Changed (hung L) m g z g) (sym same) (stays (hung L) m g h); root_is = root; shown_is = list_same taken done keep (shown g) none };
    removes = λ d few. spent_none (number_of taken (shown g) * (8 * d + 16 + chain)) (number_of taken (shown g) * (256 * (8 * d + 16) + chain)) b c spent;
    puts = λ k. spent_none (number_of taken (shown g)) (256 * number_of taken (shown g)) b c spent;
    root = λ k. root;
    gives = let f = none_freed taken size keep (shown g) none in let e = ap (λ (z : Budget). z.free) spent in omega (arith, f, e);
  }

  pub took_then : (p q r : V → Bool) (m : Blocks) (g : Hung A) (b : Budget) (n : Blocks) (at : ℕ) (c : Budget) (o : Blocks) (root : ℕ) (e : Budget) → Holds (hung L) m g → (keep ≡ true → (v : V) → q (done v) ≡ false) → Agree r (either p q) (shown g)
      → (s : Took_of p m g b n at c) → Took_of q n s.becomes.now c o root e → Took_of r m g b o root e
  took_then p q r m g b n at c o root e h none agree s t =
      let now = s.becomes.now in
      let is = s.becomes.shown_is in
      let after : number_of q (shown now) ≡ number_of q (changed_by keep p done (shown g)) = ap (number_of q) is in
      let all : number_of p (shown g) + number_of q (shown now) ≡ number_of r (shown g) = omega (arith, after, number_twice keep p q done none (shown g), sum_agree r (either p q) one_each (shown g) agree) in
      record {
        becomes = record {
          now = t.becomes.now;
          changed = changed_then (hung L) m n o g now t.becomes.now s.becomes.changed t.becomes.changed;
          root_is = t.becomes.root_is;
          shown_is = t.becomes.shown_is ∙ (ap (changed_by keep q done) is ∙ (changed_twice keep p q done none (shown g) ∙ sym (changed_agree keep r (either p q) done (shown g) agree)));
        };
        removes = subst (λ z. RemovesAtMost z chain g.0 b e) all (removes_then (number_of p (shown g)) (number_of q (shown now)) chain g.0 now.0 b c e (no_more p m g b n at c h s) s.removes t.removes);
        puts = λ k. subst (λ z. PutsAtMost z b e) all (puts_then (number_of p (shown g)) (number_of q (shown now)) b c e (s.puts k) (t.puts k));
        root = λ k. t.root k ∙ (sym s.becomes.root_is ∙ s.root k);
        gives =
            let one = s.gives in
            let two = t.gives in
            let gave : freed_by keep q size (shown now) ≡ freed_by keep q size (changed_by keep p done (shown g)) = ap (freed_by keep q size) is in
            omega (arith, one, two, gave, freed_twice keep p q done size (shown g), freed_agree keep r (either p q) size (shown g) agree);
      }

  -- a test that takes the same
  pub took_same : (p r : V → Bool) (m : Blocks) (g : Hung A) (b : Budget) (n : Blocks) (at : ℕ) (c : Budget) → Agree r p (shown g) → Took_of p m g b n at c → Took_of r m g b n at c
  took_same p r m g b n at c agree s =
      let count : number_of p (shown g) ≡ number_of r (shown g) = sym (sum_agree r p one_each (shown g) agree) in
      record {
        becomes = record { now = s.becomes.now; changed = s.becomes.changed; root_is = s.becomes.root_is; shown_is = s.becomes.shown_is ∙ sym (changed_agree keep r p done (shown g) agree) };
        removes = subst (λ z. RemovesAtMost z chain g.0 b c) count s.removes;
        puts = λ k. subst (λ z. PutsAtMost z b c) count (s.puts k);
        root = s.root;
        gives = let one = s.gives in omega (arith, one, freed_agree keep r p size (shown g) agree);
      }

  -- the next change wanted more than was left
  pub few_then : (p : V → Bool) (m : Blocks) (g : Hung A) (b : Budget) (n : Blocks) (at : ℕ) (c e : Budget) → Holds (hung L) m g → (s : Took_of p m g b n at c) → TooFew s.becomes.now.0 e → TooFew g.0 e
  few_then p m g b n at c e h s few = fewer_still g.0 s.becomes.now.0 e (no_more p m g b n at c h s) few

  pub lacked_then : (p q r : V → Bool) (m : Blocks) (g : Hung A) (b : Budget) (n : Blocks) (at : ℕ) (c : Budget) → Holds (hung L) m g → Agree r (either p q) (shown g) → (s : Took_of p m g b n at c) → TooFew s.becomes.now.0 c → TooFewToRemove (number_of r (shown g)) chain g.0 b
  lacked_then p q r m g b n at c h agree s few =
      let less = number_less p q (shown g) in
      let is = sum_agree r (either p q) one_each (shown g) agree in
      lacked (number_of p (shown g)) (number_of r (shown g)) chain g.0 s.becomes.now.0 b c (omega (arith, less, is)) (no_more p m g b n at c h s) s.removes few

-- what follows of a call's answer from three facts
pub on_ok_three : {T E P Q R S : Type 0} (r : Result T E) → (P → Q → R → S) → OnOk r P → OnOk r Q → OnOk r R → OnOk r S
on_ok_three (Ok x) f h k l = f h k l
on_ok_three (Err e) f h k l = h
