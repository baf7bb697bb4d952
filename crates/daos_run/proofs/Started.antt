-- Targets that start over their stores, one after another; and their stores in the end.
use Rattle.std.specs.Prelude.{ℕ, ◌≡◌, ◌≤◌, ◌<◌, ◌+◌, true, false, List, [], ◌∷◌, ◌++◌, length, set, slice_get, Option, Some, None}
use Rattle.std.proofs.Common.{inl, inr, sym, ◌∙◌, ap, subst, arith}
use Rattle.std.proofs.lemmas.Bool.{cases_eq, cases_lt}
use Rattle.std.proofs.lemmas.Option.{slice_get_within}
use Rattle.base_types.specs.declared.job.Job.{Job}
use Rattle.model_laws.specs.Lists.{at-within}
use Rattle.daos_model.specs.declared.durable.Durable.{Durable}
use Rattle.daos_run.specs.Slots.{AreAsBefore, AreBack, AreClocksIn, AreSet, AreTaken, ClocksAreRead, FusesAreGone, IsAt, StoresAreServed}
use Rattle.daos_run.specs.Starts.{AreStarted, StartsOver}
use Rattle.daos_run.proofs.Places.{at-low}
use Rattle.daos_run.proofs.Slots.{at-end, length-end, same-pair}
use Rattle.daos_run.proofs.Taking.{one-taken}
use Rattle.run_targets.specs.Ends.{AreClocksAt}
use Rattle.run_targets.specs.Below.{AreServed, IsServed, TargetOf, length-set}
use Rattle.run_starts.specs.target_parts.Readings.{IsReadOn}
use Rattle.vos_store.specs.Calls.{State}
use Rattle.world_base.specs.StepLaws.{set-here, set-there}

module _ {S C : Type 0} (durable : S → Option Durable) (j : Job) where
  -- ---- so many started

  -- the first targets started, and there is room for all
  pub record AreStartedSoFar (n : ℕ) (old slots : List (Option (S × C))) (xs : List (TargetOf S C)) (cap : ℕ) : Type 0 where
    pub started : AreStarted durable j n old xs
    pub taken : AreTaken n old slots
    pub room : j.targets ≤ cap

  pub one-started : (n : ℕ) (old slots slots' : List (Option (S × C))) (xs xs' : List (TargetOf S C)) (cap cap' : ℕ) (pair : S × C) (x : TargetOf S C) → AreStartedSoFar n old slots xs cap → IsAt slots n pair → slots' ≡ set slots n None
      → xs' ≡ xs ++ x ∷ [] → cap ≤ cap' → StartsOver durable j n pair x → AreStartedSoFar (n + 1) old slots' xs' cap'
  one-started n old slots slots' xs xs' cap cap' pair x k at taken more grows new =
      let here : IsAt old n pair = sym (k.taken.left n (omega arith)) ∙ at in
      let last : length xs ≡ n = k.started.many in
      let its : (p : S × C) → IsAt old (length xs) p → StartsOver durable j (length xs) p x = λ p to. (
      let same : pair ≡ p = same-pair old n pair p here (ap (slice_get old) (sym last) ∙ to) in
      subst (λ m. StartsOver durable j m p x) (sym last) (subst (λ q. StartsOver durable j n q x) same new)) in
      let room = k.room in
      record {
        started = record {
          many = ap length more ∙ length-end xs x ∙ ap (λ m. m + 1) last;
          each = λ t y p there is. at-end (λ m z. (q : S × C) → IsAt old m q → StartsOver durable j m q z) xs x (λ m z old-one q to. k.started.each m z q old-one to) its t y (ap (λ l. slice_get l t) (sym more) ∙ there) p is;
        };
        taken = one-taken n old slots slots' pair k.taken at taken;
        room = omega (arith, room, grows);
      }

  -- where the store of one comes back, those of the targets before it are still to come
  pub taken-before : (t : ℕ) (old slots slots1 slots2 : List (Option (S × C))) (xs : List (TargetOf S C)) (store : S) (clock : C) → AreTaken t old slots → t ≤ length old → length xs ≡ t → slots1 ≡ set slots t None → slots2 ≡ set slots1 t (Some (store, clock))
      → (u : ℕ) → u < length xs → slice_get slots2 u ≡ Some None
  taken-before t old slots slots1 slots2 xs store clock k within many taken again u low =
      ap (λ l. slice_get l u) again ∙ set-there slots1 t u (Some (store, clock)) (λ same. omega (arith, low, many, same)) ∙ ap (λ l. slice_get l u) taken ∙ set-there slots t u None (λ same. omega (arith, low, many, same))
      ∙ k.taken u (omega (arith, low, many)) (omega (arith, low, many, within))

  -- ---- one target didn't start: the stores of those before it come back, and those that follow were never taken
  module _ (old slots slots1 slots2 new : List (Option (S × C))) (xs : List (TargetOf S C)) (t : ℕ) (pair : S × C)
      (before : AreSet j.targets old) (below : t < j.targets) (A : AreStarted durable j t old xs) (T : AreTaken t old slots) (at : IsAt slots t pair)
      (taken : slots1 ≡ set slots t None) (again : slots2 ≡ set slots1 t (Some pair)) (B : AreBack xs slots2 new) where
    its-place : IsAt new t pair
    its-place =
        let last : length xs ≡ t = A.many in
        B.left t (omega (arith, last)) ∙ ap (λ l. slice_get l t) again ∙ set-here slots1 t None (Some pair) (ap (λ l. slice_get l t) taken ∙ set-here slots t (Some pair) None at)

    others : (u : ℕ) → t < u → slice_get new u ≡ slice_get old u
    others u past =
        let last : length xs ≡ t = A.many in
        B.left u (omega (arith, last, past)) ∙ ap (λ l. slice_get l u) again ∙ set-there slots1 t u (Some pair) (λ same. omega (arith, same, past)) ∙ ap (λ l. slice_get l u) taken
        ∙ set-there slots t u None (λ same. omega (arith, same, past)) ∙ T.left u (omega (arith, past))

    -- what was in a place is there again
    there-again : (u : ℕ) (x : S × C) → IsAt old u x → IsAt new u x
    there-again u x here = elim (cases_lt u t) [
      | inl low ↦
          let y = at-within xs u (subst (λ n. u < n) (sym A.many) low) in
          let k = A.each u y.0 x y.1 here in
          let same : (y.0.store, y.0.clock) ≡ x = ap (λ (s : S). (s, y.0.clock)) k.store ∙ ap (λ (c : C). (x.0, c)) k.clock in
          B.back u y.0 y.1 ∙ ap (λ (z : S × C). Some (Some z)) same
      | inr high ↦ elim (cases_eq u t) [
        | inl same ↦
            let is : pair ≡ x = same-pair old t pair x (sym (T.left t (omega arith)) ∙ at) (ap (slice_get old) (sym same) ∙ here) in
            ap (slice_get new) same ∙ its-place ∙ ap (λ (z : S × C). Some (Some z)) is
        | inr apart ↦ others u (omega (arith, high, apart)) ∙ here
      ]
    ]

    pub as-before : AreAsBefore j.targets old new
    as-before = record {
      set = record {
        many = B.many ∙ ap length again ∙ length-set slots1 t (Some pair) ∙ ap length taken ∙ length-set slots t None ∙ T.many ∙ before.many;
        each = λ u within. (let x = before.each u within in (x.0, there-again u x.0 x.1));
      };
      same = there-again;
    }

  -- ---- all started, and ran
  module _ (old slots new : List (Option (S × C))) (xs ys : List (TargetOf S C)) (before : AreSet j.targets old) (A : AreStarted durable j j.targets old xs) (T : AreTaken j.targets old slots)
      (many : length ys ≡ length xs) (B : AreBack ys slots new) where
    pub all-set : AreSet j.targets new
    all-set = record {
      many = B.many ∙ T.many ∙ before.many;
      each = λ t within.
          let y = at-within ys t (subst (λ n. t < n) (sym (many ∙ A.many)) within) in
          ((y.0.store, y.0.clock), B.back t y.0 y.1);
    }

    its-parts : (t : ℕ) (x : S × C) (y : TargetOf S C) → IsAt new t x → slice_get ys t ≡ Some y → x ≡ (y.store, y.clock)
    its-parts t x y at here = let e : Some (Some x) ≡ Some (Some (y.store, y.clock)) = sym at ∙ B.back t y here in cc

    module _ (state : S → State) (is_read : C → C → Type 0) (V : AreServed durable state is_read xs ys) where
      -- between these two moments each store had calls, to start and in the run
      pub run-served : StoresAreServed durable state old new
      run-served t x z at to =
          let within = at-low j.targets old before t x at in
          let a = at-within xs t (subst (λ n. t < n) (sym A.many) within) in
          let b = at-within ys t (subst (λ n. t < n) (sym (many ∙ A.many)) within) in
          subst (λ q. IsServed (state x.0) (state q) (durable x.0) (durable q)) (sym (ap (λ p. p.0) (its-parts t z b.0 to b.1)))
          (subst (λ q. IsServed (state q) (state b.0.store) (durable q) (durable b.0.store)) (A.each t a.0 x a.1 at).store (V.stores t a.0 b.0 a.1 b.1))

      pub run-read : ClocksAreRead is_read old new
      run-read t x z at to =
          let within = at-low j.targets old before t x at in
          let a = at-within xs t (subst (λ n. t < n) (sym A.many) within) in
          let b = at-within ys t (subst (λ n. t < n) (sym (many ∙ A.many)) within) in
          subst (IsReadOn is_read x.1) (sym (ap (λ p. p.1) (its-parts t z b.0 to b.1))) (subst (λ d. IsReadOn is_read d b.0.clock) (A.each t a.0 x a.1 at).clock (V.clocks t a.0 b.0 a.1 b.1))

    -- the clocks at the places are those of the targets
    pub run-clocks : (t : ℕ) (c d : C) → AreClocksIn old new t c d → AreClocksAt xs ys t c d
    run-clocks t c d k =
        let within = at-low j.targets old before t k.before k.at in
        let a = at-within xs t (subst (λ n. t < n) (sym A.many) within) in
        let b = at-within ys t (subst (λ n. t < n) (sym (many ∙ A.many)) within) in
        record { before = a.0; after = b.0; at = a.1; there = b.1; first = k.first ∙ sym (A.each t a.0 k.before a.1 k.at).clock; last = k.last ∙ ap (λ p. p.1) (its-parts t k.after b.0 k.there b.1) }

    pub run-gone : (state : S → State) → ((t : ℕ) (y : TargetOf S C) → slice_get ys t ≡ Some y → (state y.store).tells_fuse ≡ true → (state y.store).fused ≡ false) → FusesAreGone state new
    run-gone state gone t z to =
        let within : t < length ys = subst (λ n. t < n) (B.many ∙ T.many ∙ before.many ∙ sym (many ∙ A.many)) (slice_get_within new t (Some z) to) in
        let b = at-within ys t within in
        subst (λ q. (state q).tells_fuse ≡ true → (state q).fused ≡ false) (sym (ap (λ p. p.0) (its-parts t z b.0 to b.1))) (gone t b.0 b.1)
