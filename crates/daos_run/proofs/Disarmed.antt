-- Stores whose fuses are taken away, one after another.
use Rattle.std.specs.Prelude.{ℕ, ◌≡◌, ◌≤◌, ◌<◌, ◌+◌, true, false, List, length, set, slice_get, Option, Some, None, is_some, refl}
use Rattle.std.proofs.Common.{inl, inr, sym, ◌∙◌, ap, subst, arith}
use Rattle.std.proofs.lemmas.Bool.{cases_eq}
use Rattle.daos_model.specs.declared.durable.Durable.{Durable}
use Rattle.daos_run.specs.Opens.{MayRun}
use Rattle.base_types.specs.declared.id.ContId.{ContId}
use Rattle.daos_run.specs.declared.stop.RunStop.{RunStop}
use Rattle.daos_run.specs.declared.stop.RunStop.TheVariants as stop
use Rattle.daos_run.specs.Stops.{MayStop}
use Rattle.run_targets.specs.Below.{IsServed, length-set, served-same}
use Rattle.run_starts.specs.Calls.{AreTooMany}
use Rattle.run_targets.specs.Ends.{one-there, same-lists}
use Rattle.daos_run.specs.Slots.{AreAsBefore, AreSet, ClocksStay, EachStore, FromTo, FusesAreGone, HasNoFuse, IsAt, IsDisarmed, StoresAreServed, stores_in}
use Rattle.daos_run.proofs.Places.{at-low, in-place, store-at, stores-many}
use Rattle.run_starts.specs.run_opening.All.{AreKept}
use Rattle.daos_run.proofs.Slots.{same-pair}
use Rattle.vos_store.specs.Calls.{State}
use Rattle.world_base.specs.StepLaws.{set-here, set-there, set-twice}

-- ---- one store

module _ {S : Type 0} (durable : S → Option Durable) (state : S → State) (may : S → Durable → Type 0) (a b : S) (f : HasNoFuse durable state may a b) where
  pub unfused-may_run : (targets : ℕ) → MayRun durable state targets a → MayRun durable state targets b
  unfused-may_run targets k = record {
    running = ap (λ h. h.stopped) f.state_is.rest ∙ k.running;
    made = subst (λ n. targets ≤ n) (sym (ap (λ h. h.targets) f.state_is.rest)) k.made;
    seldom = λ d told. k.seldom d (sym f.kept ∙ told);
  }

  pub unfused-served : IsServed (state a) (state b) (durable a) (durable b)
  unfused-served = record {
    faults = let e = ap (λ h. h.faults) f.state_is.rest in omega (arith, e);
    burns = let e = ap (λ h. h.burns) f.state_is.rest in omega (arith, e);
    tells_fuse = ap (λ h. h.tells_fuse) f.state_is.rest;
    may_fail = ap (λ h. h.may_fail) f.state_is.rest;
    sure = λ off. ap (λ h. h.faults) f.state_is.rest;
    targets = ap (λ h. h.targets) f.state_is.rest;
    told = ap is_some f.kept;
  }

  pub unfused-gone : (state b).tells_fuse ≡ true → (state b).fused ≡ false
  unfused-gone tells = (f.state_is.told (sym (ap (λ h. h.tells_fuse) f.state_is.rest) ∙ tells)).0

  pub unfused-free : (state b).free ≡ (state a).free
  unfused-free = ap (λ h. h.free) f.state_is.rest

-- ---- the stores in their places

module _ {S C : Type 0} (durable : S → Option Durable) (state : S → State) (may : S → Durable → Type 0) (targets : ℕ) where
  -- where a store is taken, its fuse taken away, and the store set in its place again, it is disarmed there
  pub disarmed-there : (t : ℕ) (old mid new : List (Option (S × C))) (x pair : S × C) (store : S) → IsAt old t x → IsAt old t pair → mid ≡ set old t None → new ≡ set mid t (Some (store, pair.1)) → HasNoFuse durable state may pair.0 store → IsDisarmed durable state may t x old new
  disarmed-there t old mid new x pair store at to taken again fuse =
      let same : pair ≡ x = same-pair old t pair x to at in
      record {
        store = store;
        fuse = subst (λ p. HasNoFuse durable state may p.0 store) same fuse;
        after = again ∙ ap (λ l. set l t (Some (store, pair.1))) taken ∙ set-twice old t None (Some (store, pair.1)) ∙ ap (λ p. set old t (Some (store, p.1))) same;
      }

  -- the fuses of the first so many are taken away, and the other places are as they were
  pub record AreDisarmedSoFar (n : ℕ) (old now : List (Option (S × C))) : Type 0 where
    pub set : AreSet targets now
    pub done : (t : ℕ) (x y : S × C) → t < n → IsAt old t x → IsAt now t y → HasNoFuse durable state may x.0 y.0
    pub clocks : ClocksStay old now
    pub left : (t : ℕ) → n ≤ t → slice_get now t ≡ slice_get old t

  pub none-disarmed : (old : List (Option (S × C))) → AreSet targets old → AreDisarmedSoFar 0 old old
  none-disarmed old set = record {
    set = set;
    done = λ t x y low. absurd (omega (arith, low));
    clocks = λ t x y at to. ap (λ z. z.1) (same-pair old t y x to at);
    left = λ t high. refl;
  }

  pub one-disarmed : (n : ℕ) (old now now' : List (Option (S × C))) (x : S × C) → AreDisarmedSoFar n old now → IsAt now n x → IsDisarmed durable state may n x now now' → AreDisarmedSoFar (n + 1) old now'
  one-disarmed n old now now' x k at d =
      let here : IsAt now' n (d.store, x.1) = ap (λ l. slice_get l n) d.after ∙ set-here now n (Some x) (Some (d.store, x.1)) at in
      let other : (t : ℕ) → ((t ≡ n) → ⊥) → slice_get now' t ≡ slice_get now t = (λ t apart. ap (λ l. slice_get l t) d.after ∙ set-there now n t (Some (d.store, x.1)) apart) in
      let before : IsAt old n x = sym (k.left n (omega arith)) ∙ at in
      record {
        set = record {
          many = ap length d.after ∙ length-set now n (Some (d.store, x.1)) ∙ k.set.many;
          each = λ t low. elim (cases_eq t n) [
            | inl same ↦ ((d.store, x.1), ap (slice_get now') same ∙ here)
            | inr apart ↦ (let y = k.set.each t low in (y.0, other t apart ∙ y.1))
          ];
        };
        done = λ t y z low first last. elim (cases_eq t n) [
          | inl same ↦
              let is-x : x ≡ y = same-pair old n x y before (ap (slice_get old) (sym same) ∙ first) in
              let is-new : (d.store, x.1) ≡ z = same-pair now' n (d.store, x.1) z here (ap (slice_get now') (sym same) ∙ last) in
              subst (λ q. HasNoFuse durable state may y.0 q.0) is-new (subst (λ p. HasNoFuse durable state may p.0 d.store) is-x d.fuse)
          | inr apart ↦ k.done t y z (omega (arith, low, apart)) first (sym (other t apart) ∙ last)
        ];
        clocks = λ t y z first last. elim (cases_eq t n) [
          | inl same ↦
              let is-x : x ≡ y = same-pair old n x y before (ap (slice_get old) (sym same) ∙ first) in
              let is-new : (d.store, x.1) ≡ z = same-pair now' n (d.store, x.1) z here (ap (slice_get now') (sym same) ∙ last) in
              ap (λ q. q.1) (sym is-new) ∙ ap (λ p. p.1) is-x
          | inr apart ↦ k.clocks t y z first (sym (other t apart) ∙ last)
        ];
        left = λ t high. other t (λ same. omega (arith, high, same)) ∙ k.left t (omega (arith, high));
      }

  pub all-disarmed : (n : ℕ) (old now : List (Option (S × C))) → AreDisarmedSoFar n old now → n ≡ targets → FromTo old now (λ t a b. HasNoFuse durable state may a b)
  all-disarmed n old now k done t x y at to = let low = at-low targets now k.set t y to in k.done t x y (omega (arith, low, done)) at to

  -- ---- all stores

  module _ (old now : List (Option (S × C))) (before : AreSet targets old) (after : AreSet targets now) (F : FromTo old now (λ t a b. HasNoFuse durable state may a b)) where
    -- the store that was in a place
    pub was-there : (t : ℕ) (y : S × C) → IsAt now t y → (x : S × C) × IsAt old t x × HasNoFuse durable state may x.0 y.0
    was-there t y to =
        let x = before.each t (at-low targets now after t y to) in
        (x.0, x.1, F t x.0 y x.1 to)

    pub all-run-on : EachStore (λ t store. MayRun durable state targets store) old → EachStore (λ t store. MayRun durable state targets store) now
    all-run-on k t y to = let w = was-there t y to in unfused-may_run durable state may w.0.0 y.0 w.2 targets (k t w.0 w.1)

    -- what they tell is the same
    pub kept-on : (B : List Durable) → AreKept durable (stores_in now) B → AreKept durable (stores_in old) B
    kept-on B k = record {
      many = k.many ∙ stores-many targets now after ∙ sym (stores-many targets old before);
      each = λ t x d at bt.
          let p = in-place targets old before t x at in
          let y = after.each t (at-low targets old before t p.pair p.at) in
          ap durable p.is ∙ sym (F t p.pair y.0 p.at y.1).kept ∙ k.each t y.0.0 d (store-at targets now after t y.0 y.1) bt;
    }

    pub kept-from : (B : List Durable) → AreKept durable (stores_in old) B → AreKept durable (stores_in now) B
    kept-from B k = record {
      many = k.many ∙ stores-many targets old before ∙ sym (stores-many targets now after);
      each = λ t y d to bt.
          let p = in-place targets now after t y to in
          let w = was-there t p.pair p.at in
          ap durable p.is ∙ w.2.kept ∙ k.each t w.0.0 d (store-at targets old before t w.0 w.1) bt;
    }

    pub all-served : StoresAreServed durable state old now
    all-served t x y at to = unfused-served durable state may x.0 y.0 (F t x y at to)

    pub all-gone : FusesAreGone state now
    all-gone t y to = let w = was-there t y to in unfused-gone durable state may w.0.0 y.0 w.2

    -- so what may stop a run on them is the same
    too-many-before : (cs : List ContId) (target together : ℕ) → AreTooMany durable cs (stores_in now) target together → AreTooMany durable cs (stores_in old) target together
    too-many-before cs target together k = record {
      many = k.many;
      told = λ x d at told.
          let p = in-place targets old before target x at in
          let y = after.each target (at-low targets old before target p.pair p.at) in
          k.told y.0.0 d (store-at targets now after target y.0 y.1) ((F target p.pair y.0 p.at y.1).kept ∙ ap durable (sym p.is) ∙ told);
    }

    pub may-stop-before : (cs : List ContId) (why : RunStop) → MayStop durable cs targets (stores_in now) why → MayStop durable cs targets (stores_in old) why
    may-stop-before cs (stop.RackFault target) k = k
    may-stop-before cs (stop.Foreign target at byte) k = k
    may-stop-before cs (stop.Shape target what found asked) k = (k.0, k.1, too-many-before cs target found k.2, k.3)
    may-stop-before cs stop.Memory k = k

-- ---- stores that are in their places again, as they were

module _ {S C : Type 0} (durable : S → Option Durable) (state : S → State) (targets : ℕ) (old new : List (Option (S × C))) (before : AreSet targets old) (k : AreAsBefore targets old new) where
  again : (t : ℕ) (x y : S × C) → IsAt old t x → IsAt new t y → y ≡ x
  again t x y at to = same-pair new t y x to (k.same t x at)

  pub again-served : StoresAreServed durable state old new
  again-served t x y at to = subst (λ z. IsServed (state x.0) (state z.0) (durable x.0) (durable z.0)) (sym (again t x y at to)) (served-same (state x.0) (durable x.0))

  pub again-clocks : ClocksStay old new
  again-clocks t x y at to = ap (λ z. z.1) (again t x y at to)

  pub again-gone : FusesAreGone state old → FusesAreGone state new
  again-gone gone t y to =
      let x = before.each t (at-low targets new k.set t y to) in
      subst (λ z. (state z.0).tells_fuse ≡ true → (state z.0).fused ≡ false) (sym (again t x.0 y x.1 to)) (gone t x.0 x.1)

  pub again-stores : stores_in new ≡ stores_in old
  again-stores = same-lists (stores_in new) (stores_in old) (stores-many targets new k.set ∙ sym (stores-many targets old before)) (λ t y x to at.
      let p = in-place targets old before t x at in
      one-there (stores_in new) t y p.pair.0 to (store-at targets new k.set t p.pair (k.same t p.pair p.at)) ∙ sym p.is)
