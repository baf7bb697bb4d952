-- What a level keeps still stands for all that was raised, once marks more are raised.
use Rattle.std.proofs.Common.{◌≡◌, ℕ, zero, suc, ◌≤◌, ◌<◌, ◌%◌, Bool, true, false, cond, nat_eq, List, [], ◌∷◌, ◌++◌, length, take, get_or, set, Contains, Option, Some, None, refl, sym, ap, subst, ◌∙◌, inl, inr, arith, min}
use Rattle.std.specs.Prelude.{slice_get}
use Rattle.std.specs.Map.{lookup, remove_entry}
use Rattle.std.proofs.lemmas.Bool.Decides.{nat_tests}
use Rattle.std.proofs.lemmas.List.{get_or-set_other, get_or-set_same, length-set, length-take}
use Rattle.std.proofs.lemmas.List.Elements.{Contains-append_left, Contains-push, Contains-push_cases}
use Rattle.base_types.specs.declared.shown.Shown.{Shown}
use Rattle.lru.proofs.CallerLemmas.{Contains-remove_entry, Contains-take}
use Rattle.lru.proofs.Splits.{Contains-cons, Contains-head, Contains-tail}
use Rattle.vos_stamp.specs.declared.marks.Marks.{Marks}
use Rattle.vos_stamp.specs.declared.marks.Raise.{Raise}
use Rattle.vos_stamp.specs.Marks.{joined, no_marks, rank, side}
use Rattle.vos_stamp.specs.Raised.{ComesIn, IsFound, Joins, RaisesOwn, StandsFor, StaysOut, WasRaised, WereRaised, given, own_mark, slot_marks}
use Rattle.vos_stamp.proofs.Entries.{finds, others-found, raised-first, stays-or_last}
use Rattle.vos_stamp.proofs.Joined.{joined-either, joined-left, joined-right}

abbrev Own : Type 0
Own = List (ℕ × Marks)

abbrev own_rank : Bool → Option Marks → ℕ
own_rank low o = rank (own_mark low o)

abbrev slot_rank : List Marks → Bool → ℕ → ℕ
slot_rank slots low k = rank (side low (slot_marks slots (k % 4096)))

min-left : (m n : ℕ) → min m n ≤ m
min-left m n = omega arith

Contains-slice_get : {X : Type 0} (xs : List X) (i : ℕ) (x : X) → slice_get xs i ≡ Some x → Contains xs x
Contains-slice_get [] i x h = absurd (let none : ⊥ = cc in none)
Contains-slice_get (y ∷ xs) zero x h = let same : y ≡ x = cc in subst (Contains (y ∷ xs)) same (Contains-head y xs)
Contains-slice_get (y ∷ xs) (suc i) x h = Contains-tail y xs x (Contains-slice_get xs i x h)

-- what stands at a place within a list does so whatever stands for the places past it
default-same : {X : Type 0} (xs : List X) (i : ℕ) (d e : X) → i < length xs → get_or xs i d ≡ get_or xs i e
default-same [] i d e lt = absurd (omega (arith, lt))
default-same (x ∷ xs) zero d e lt = refl
default-same (x ∷ xs) (suc i) d e lt = default-same xs i d e (omega (arith, lt))

-- the marks that stand at an entity's place are its slot's
pub slot-is : (slots : List Marks) (k i : ℕ) (m : Marks) → length slots ≡ 4096 → i ≡ k % 4096 → m ≡ get_or slots i m → m ≡ slot_marks slots (k % 4096)
slot-is slots k i m sized same is =
    let within : i < length slots = omega (arith, sized, same) in
    is ∙ default-same slots i m no_marks within ∙ ap (slot_marks slots) same

-- ---- a slot takes marks in

takes : (slots : List Marks) (low : Bool) (j : ℕ) (m : Marks) → length slots ≡ 4096 → rank (side low m) ≤ slot_rank (given slots (Some (j, m))) low j
takes slots low j m sized =
    let i = j % 4096 in
    let within : i < length slots = omega (arith, sized) in
    rw (get_or-set_same slots i (joined (slot_marks slots i) m) no_marks within) (joined-right low (slot_marks slots i) m)

stays : (slots : List Marks) (low : Bool) (k : ℕ) (out : Option (ℕ × Marks)) → length slots ≡ 4096 → slot_rank slots low k ≤ slot_rank (given slots out) low k
stays slots low k None sized = omega arith
stays slots low k (Some (j, m)) sized = by (nat_eq (k % 4096) (j % 4096)) refl
  where
    now : Marks
    now = joined (slot_marks slots (j % 4096)) m

    by : (b : Bool) → nat_eq (k % 4096) (j % 4096) ≡ b → slot_rank slots low k ≤ slot_rank (given slots (Some (j, m))) low k
    by true is =
        let same : k % 4096 ≡ j % 4096 = grind (arith, nat_tests) in
        let within : j % 4096 < length slots = omega (arith, sized) in
        rw (same, get_or-set_same slots (j % 4096) now no_marks within) (joined-left low (slot_marks slots (j % 4096)) m)
    by false apart =
        rw (get_or-set_other slots (j % 4096) (k % 4096) now no_marks (λ e. let both : ⊥ = grind (arith, nat_tests) in both)) (omega arith)

sizes : (slots : List Marks) (out : Option (ℕ × Marks)) → length (given slots out) ≡ length slots
sizes slots None = refl
sizes slots (Some (j, m)) = length-set slots (j % 4096) (joined (slot_marks slots (j % 4096)) m)

-- ---- every epoch is found again

module _ (es : Own) (slots : List Marks) (few : length es ≤ 1024) (sized : length slots ≡ 4096) (h : ℕ) (n : Marks) where
  -- in the slots that took marks in
  slot-found : (out : Option (ℕ × Marks)) (new : Own) (low : Bool) (k e : ℕ) → e ≤ slot_rank slots low k → IsFound new (given slots out) low k e
  slot-found out new low k e le = inr (let more : slot_rank slots low k ≤ slot_rank (given slots out) low k = stays slots low k out sized in omega (arith, le, more))

  joins-found : (held : Marks) → lookup (nat_eq h) es ≡ Some held → (low : Bool) (k e : ℕ) → e ≤ own_rank low (lookup (nat_eq k) es)
      → e ≤ own_rank low (lookup (nat_eq k) ((h, joined held n) ∷ remove_entry (nat_eq h) es))
  joins-found held is low k e le = by (nat_eq k h) refl
    where
      by : (b : Bool) → nat_eq k h ≡ b → e ≤ own_rank low (cond b (Some (joined held n)) (lookup (nat_eq k) (remove_entry (nat_eq h) es)))
      by true here =
          let same : k ≡ h = grind (arith, nat_tests) in
          let was : lookup (nat_eq k) es ≡ Some held = subst (λ x. lookup (nat_eq x) es ≡ Some held) (sym same) is in
          let before : e ≤ rank (side low held) = subst (λ o. e ≤ own_rank low o) was le in
          let more = joined-left low held n in omega (arith, before, more)
      by false apart = rw (others-found k h es apart) le

  comes-found : lookup (nat_eq h) es ≡ None → (low : Bool) (k e : ℕ) → e ≤ own_rank low (lookup (nat_eq k) es)
      → IsFound ((h, n) ∷ take 1023 es) (given slots (slice_get es 1023)) low k e
  comes-found none low k e le = by (lookup (nat_eq k) es) refl le
    where
      kept : (m : Marks) → e ≤ rank (side low m) → lookup (nat_eq k) (take 1023 es) ≡ Some m → (b : Bool) → nat_eq k h ≡ b → lookup (nat_eq k) es ≡ Some m
          → e ≤ own_rank low (cond b (Some n) (lookup (nat_eq k) (take 1023 es)))
      kept m below is true here there =
          let same : k ≡ h = grind (arith, nat_tests) in
          let both : ⊥ = cc (subst (λ x. lookup (nat_eq x) es ≡ Some m) same there, none) in absurd both
      kept m below is false apart there = rw is below

      by : (o : Option Marks) → lookup (nat_eq k) es ≡ o → e ≤ own_rank low o → IsFound ((h, n) ∷ take 1023 es) (given slots (slice_get es 1023)) low k e
      by None is below = inl (omega (arith, below))
      by (Some m) is below = elim (stays-or_last k 1023 es m (omega (arith, few)) is) [
        | inl there ↦ inl (kept m below there (nat_eq k h) refl is)
        | inr last ↦ inr (rw last (let more = takes slots low k m sized in omega (arith, below, more)))
      ]

-- ---- only what was raised is kept

module _ (rs : List Raise) (h : ℕ) (n : Marks) where
  abbrev More : List Raise
  More = rs ++ record { entity = h; marks = n } ∷ []

  was-more : (low : Bool) (i : ℕ) (q : Shown) → WasRaised rs low i q → WasRaised More low i q
  was-more low i q w = (w.0, Contains-more rs w.0 w.1, w.2, w.3)
    where
      Contains-more : (xs : List Raise) (r : Raise) → Contains xs r → Contains (xs ++ record { entity = h; marks = n } ∷ []) r
      Contains-more xs r c = Contains-append_left xs (record { entity = h; marks = n } ∷ []) r c

  were-more : (i : ℕ) (m : Marks) → WereRaised rs i m → WereRaised More i m
  were-more i m w = λ low q is. was-more low i q (w low q is)

  -- the marks that are raised now
  were-new : WereRaised More (h % 4096) n
  were-new = λ low q is. (record { entity = h; marks = n }, Contains-push rs (record { entity = h; marks = n }), refl, is)

  were-joined : (i : ℕ) (m o : Marks) → WereRaised More i m → WereRaised More i o → WereRaised More i (joined m o)
  were-joined i m o f g = λ low q is. elim (joined-either low m o q is) [ inl x ↦ f low q x | inr x ↦ g low q x ]

  -- a slot that took in what was raised
  given-were : (slots : List Marks) (out : Option (ℕ × Marks)) → length slots ≡ 4096 → ((i : ℕ) → i < 4096 → WereRaised rs i (slot_marks slots i))
      → ((e : ℕ × Marks) → out ≡ Some e → WereRaised More (e.0 % 4096) e.1) → (i : ℕ) → i < 4096 → WereRaised More i (slot_marks (given slots out) i)
  given-were slots None sized before right i lt = were-more i (slot_marks slots i) (before i lt)
  given-were slots (Some (j, m)) sized before right i lt = by (nat_eq i (j % 4096)) refl
    where
      now : Marks
      now = joined (slot_marks slots (j % 4096)) m

      by : (b : Bool) → nat_eq i (j % 4096) ≡ b → WereRaised More i (slot_marks (set slots (j % 4096) now) i)
      by true is =
          let same : i ≡ j % 4096 = grind (arith, nat_tests) in
          let within : j % 4096 < length slots = omega (arith, sized) in
          let low : j % 4096 < 4096 = omega arith in
          subst (λ x. WereRaised More x (slot_marks (set slots (j % 4096) now) x)) (sym same)
          (subst (WereRaised More (j % 4096)) (sym (get_or-set_same slots (j % 4096) now no_marks within))
          (were-joined (j % 4096) (slot_marks slots (j % 4096)) m (were-more (j % 4096) (slot_marks slots (j % 4096)) (before (j % 4096) low)) (right (j, m) refl)))
      by false apart =
          subst (WereRaised More i) (sym (get_or-set_other slots (j % 4096) i now no_marks (λ e. let both : ⊥ = grind (arith, nat_tests) in both)))
          (were-more i (slot_marks slots i) (before i lt))

-- ---- all together

module _ (es : Own) (slots : List Marks) (rs : List Raise) (h : ℕ) (n : Marks) (s : StandsFor es slots rs) where
  -- what it takes of the entities that have their own marks then, and of the one that goes out
  stands-more : (new : Own) (out : Option (ℕ × Marks)) → length new ≤ 1024
      → ((low : Bool) (k e : ℕ) → e ≤ own_rank low (lookup (nat_eq k) es) → IsFound new (given slots out) low k e)
      → ((low : Bool) → IsFound new (given slots out) low h (rank (side low n)))
      → ((e : ℕ × Marks) → Contains new e → WereRaised (More rs h n) (e.0 % 4096) e.1)
      → ((e : ℕ × Marks) → out ≡ Some e → WereRaised (More rs h n) (e.0 % 4096) e.1) → StandsFor new (given slots out) (More rs h n)
  stands-more new out bounded again adds own right = record {
    bounded = bounded;
    sized = sizes slots out ∙ s.sized;
    found = λ r c low. elim (Contains-push_cases rs (record { entity = h; marks = n }) r c) [
      | inl old ↦ elim (s.found r old low) [
        | inl le ↦ again low r.entity (rank (side low r.marks)) le
        | inr le ↦ slot-found es slots s.bounded s.sized h n out new low r.entity (rank (side low r.marks)) le
      ]
      | inr same ↦ subst (λ (x : Raise). IsFound new (given slots out) low x.entity (rank (side low x.marks))) same (adds low)
    ];
    own = own;
    shared = given-were rs h n slots out s.sized s.shared right;
  }

  -- what was kept before was raised
  own-more : (e : ℕ × Marks) → Contains es e → WereRaised (More rs h n) (e.0 % 4096) e.1
  own-more e c = were-more rs h n (e.0 % 4096) e.1 (s.own e c)

  joins-kept : (held : Marks) → lookup (nat_eq h) es ≡ Some held → StandsFor ((h, joined held n) ∷ remove_entry (nat_eq h) es) (given slots None) (More rs h n)
  joins-kept held is =
      let there = finds h es held is in
      let first : nat_eq h h ≡ true = grind (arith, nat_tests) in
      let few : length (remove_entry (nat_eq h) es) < length es = omega (arith, there.count) in
      stands-more ((h, joined held n) ∷ remove_entry (nat_eq h) es) None (omega (arith, few, s.bounded))
      (λ low k e le. inl (joins-found es slots s.bounded s.sized h n held is low k e le))
      (λ low. inl (rw first (joined-right low held n)))
      (λ e c. elim (Contains-cons (h, joined held n) (remove_entry (nat_eq h) es) e c) [
        | inl same ↦ subst (λ (x : ℕ × Marks). WereRaised (More rs h n) (x.0 % 4096) x.1) same
            (were-joined rs h n (h % 4096) held n (own-more (h, held) there.among) (were-new rs h n))
        | inr among ↦ own-more e (Contains-remove_entry (nat_eq h) es e among)
      ])
      (λ e none. absurd (let no_out : ⊥ = cc in no_out))

  comes-kept : lookup (nat_eq h) es ≡ None → StandsFor ((h, n) ∷ take 1023 es) (given slots (slice_get es 1023)) (More rs h n)
  comes-kept none =
      let first : nat_eq h h ≡ true = grind (arith, nat_tests) in
      let few : length (take 1023 es) ≤ 1023 = rw (length-take 1023 es) (min-left 1023 (length es)) in
      stands-more ((h, n) ∷ take 1023 es) (slice_get es 1023) (omega (arith, few))
      (λ low k e le. comes-found es slots s.bounded s.sized h n none low k e le)
      (λ low. inl (rw first (omega arith)))
      (λ e c. elim (Contains-cons (h, n) (take 1023 es) e c) [
        | inl same ↦ subst (λ (x : ℕ × Marks). WereRaised (More rs h n) (x.0 % 4096) x.1) same (were-new rs h n)
        | inr among ↦ own-more e (Contains-take 1023 es e among)
      ])
      (λ e last. own-more e (Contains-slice_get es 1023 e last))

  stays-kept : StandsFor es (given slots (Some (h, n))) (More rs h n)
  stays-kept =
      stands-more es (Some (h, n)) s.bounded
      (λ low k e le. inl le)
      (λ low. inr (takes slots low h n s.sized))
      own-more
      (λ e same. let is : (h, n) ≡ e = cc in subst (λ (x : ℕ × Marks). WereRaised (More rs h n) (x.0 % 4096) x.1) is (were-new rs h n))

-- a level stands for what was raised, with these marks more
pub raises-kept : (es : Own) (slots : List Marks) (rs : List Raise) (h : ℕ) (n : Marks) (new : Own) (out : Option (ℕ × Marks))
    → StandsFor es slots rs → RaisesOwn es 1024 h n new out → StandsFor new (given slots out) (rs ++ record { entity = h; marks = n } ∷ [])
raises-kept es slots rs h n new out s (Joins held is now none) =
    subst (λ o. StandsFor new (given slots o) (More rs h n)) (sym none)
    (subst (λ xs. StandsFor xs slots (More rs h n)) (sym (now ∙ raised-first h es held (joined held n) is)) (joins-kept es slots rs h n s held is))
raises-kept es slots rs h n new out s (ComesIn none now last) =
    subst (λ o. StandsFor new (given slots o) (More rs h n)) (sym last)
    (subst (λ xs. StandsFor xs (given slots (slice_get es 1023)) (More rs h n)) (sym now) (comes-kept es slots rs h n s none))
raises-kept es slots rs h n new out s (StaysOut none now back) =
    subst (λ o. StandsFor new (given slots o) (More rs h n)) (sym back)
    (subst (λ xs. StandsFor xs (given slots (Some (h, n))) (More rs h n)) (sym now) (stays-kept es slots rs h n s))
