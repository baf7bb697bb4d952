-- Stores that are taken from their places, opened for a run, and set back.
use Rattle.std.specs.Prelude.{ℕ, zero, suc, ◌≡◌, ◌≤◌, ◌<◌, ◌++◌, false, List, [], ◌∷◌, take, length, slice_get, Option, Some, Ok, Err, refl}
use Rattle.std.proofs.Common.{sym, ◌∙◌, ap, subst, arith}
use Rattle.std.proofs.lemmas.Option.{slice_get_within}
use Rattle.base_types.specs.declared.epoch.Epoch.{Epoch}
use Rattle.base_types.specs.declared.id.ContId.{ContId}
use Rattle.base_types.specs.declared.script.Script.{Script}
use Rattle.base_types.specs.declared.snapshot.Snap.{Snap}
use Rattle.daos_model.specs.declared.durable.Durable.{Durable}
use Rattle.daos_run.specs.declared.stop.RunStop.{RunStop}
use Rattle.daos_run.specs.Slots.{AreApart, AreSet, AreSetBack, AreTaken, ClocksStay, EachStore, FromTo, IsAt, stores_in}
use Rattle.daos_run.specs.Stops.{ArePartsCalled, MayStop, is_fault_of, stopped_by}
use Rattle.daos_run.proofs.Places.{at-low, store-at, stores-many}
use Rattle.daos_run.proofs.Slots.{same-pair}
use Rattle.model_laws.specs.Lists.{at-within}
use Rattle.run_targets.specs.Ends.{one-there, same-lists}
use Rattle.run_starts.specs.run_opening.All.{AllRun, AreKept, FromTo as ListsFromTo, MayBeFound}
use Rattle.run_starts.specs.run_opening.Left.{IsLeftOf}
use Rattle.run_starts.specs.run_opening.LeftLaws.{left-itself}
use Rattle.run_starts.specs.Calls.{RunAll, WhyNotOpened}
use Rattle.run_starts.specs.Starts.{CanOpen, MayOpenAgain}
use Rattle.run_starts.specs.Stops.{is_fault_of as is_start_fault}
use Rattle.run_starts.specs.declared.stop.StartStop.{StartStop}
use Rattle.run_starts.specs.declared.stop.StartStop.TheVariants as start
use Rattle.run_starts.specs.target_parts.Parts.{Runs}
use Rattle.run_starts.specs.target_parts.Running.{runs_as}
use Rattle.vos_store.specs.Calls.{State}

fault-same : (t : ℕ) (why : StartStop) → is_fault_of t (stopped_by why) ≡ is_start_fault t why
fault-same t (start.Stopped target) = refl
fault-same t (start.TooMany target together) = refl
fault-same t start.Memory = refl

-- the first elements of a list with others behind them
pub take-first : {T : Type 0} (xs ys : List T) (n : ℕ) → length xs ≡ n → take n (xs ++ ys) ≡ xs
take-first [] ys zero many = refl
take-first [] ys (suc n) many = absurd (omega (arith, many))
take-first (x ∷ xs) ys zero many = absurd (omega (arith, many))
take-first (x ∷ xs) ys (suc n) many = ap (λ zs. x ∷ zs) (take-first xs ys n (omega (arith, many)))

-- ---- apart

module _ {S C : Type 0} (targets : ℕ) (old : List (Option (S × C))) (stores : List S) (clocks : List C) (before : AreSet targets old) (A : AreApart targets old stores clocks) where
  pub are-stores : stores ≡ stores_in old
  are-stores = same-lists stores (stores_in old) (A.many_stores ∙ sym (stores-many targets old before)) (λ t x y at to.
      let p = before.each t (subst (λ n. t < n) A.many_stores (slice_get_within stores t x at)) in
      one-there stores t x p.0.0 at (A.each t p.0 p.1).0 ∙ one-there (stores_in old) t p.0.0 y (store-at targets old before t p.0 p.1) to)

  pub each-runs : (state : S → State) → EachStore (λ t store. (state store).stopped ≡ false) old → AllRun state stores
  each-runs state run t x at =
      let p = before.each t (subst (λ n. t < n) A.many_stores (slice_get_within stores t x at)) in
      subst (λ z. (state z).stopped ≡ false) (one-there stores t p.0.0 x (A.each t p.0 p.1).0 at) (run t p.0 p.1)

  -- ---- and back
  module _ (taken new : List (Option (S × C))) (stores' : List S) (many : length stores' ≡ length stores) (T : AreTaken targets old taken) (B : AreSetBack stores' clocks taken new) where
    -- what is in a place again
    its-place : (t : ℕ) → t < targets → (x : S) × (y : C) × (slice_get stores' t ≡ Some x) × (slice_get clocks t ≡ Some y) × IsAt new t (x, y)
    its-place t low =
        let x = at-within stores' t (subst (λ n. t < n) (sym (many ∙ A.many_stores)) low) in
        let y = at-within clocks t (subst (λ n. t < n) (sym A.many_clocks) low) in
        (x.0, y.0, x.1, y.1, B.back t x.0 y.0 x.1 y.1)

    pub set-again : AreSet targets new
    set-again = record {
      many = B.many ∙ T.many ∙ before.many;
      each = λ t low. (let p = its-place t low in ((p.0, p.1), p.4));
    }

    new-at : (t : ℕ) (z : S × C) → IsAt new t z → (slice_get stores' t ≡ Some z.0) × (slice_get clocks t ≡ Some z.1)
    new-at t z to =
        let p = its-place t (at-low targets new set-again t z to) in
        let is : (p.0, p.1) ≡ z = same-pair new t (p.0, p.1) z p.4 to in
        subst (λ w. (slice_get stores' t ≡ Some w.0) × (slice_get clocks t ≡ Some w.1)) is (p.2, p.3)

    pub clocks-again : ClocksStay old new
    clocks-again t x z at to = one-there clocks t z.1 x.1 (new-at t z to).1 (A.each t x at).1

    pub places-from : (P : ℕ → S → S → Type 0) → ListsFromTo stores stores' P → FromTo old new P
    places-from P k t x z at to = k t x.0 z.0 (A.each t x at).0 (new-at t z to).0

    pub are-new : stores' ≡ stores_in new
    are-new = same-lists stores' (stores_in new) (many ∙ A.many_stores ∙ sym (stores-many targets new set-again)) (λ t x y at to.
        let low = subst (λ n. t < n) (many ∙ A.many_stores) (slice_get_within stores' t x at) in
        let p = its-place t low in
        one-there stores' t x p.0 at p.2 ∙ one-there (stores_in new) t p.0 y (store-at targets new set-again t (p.0, p.1) p.4) to)

    module _ (durable : S → Option Durable) (state : S → State) where
      pub called-ok : (opened : Epoch × List Snap) → RunAll durable state (Ok opened) stores stores' → ArePartsCalled durable state targets (Ok opened) old new
      called-ok opened k = record {
        set = set-again;
        clocks = clocks-again;
        runs = places-from (λ t a b. Runs (is_fault_of t) (Ok opened) (state a) (state b) (durable a) (durable b))
            (λ t a b at to. runs_as (is_start_fault t) (Ok opened) (is_fault_of t) (Ok opened) (state a) (state b) (durable a) (durable b) refl (k.each t a b at to));
        free = places-from (λ t a b. (state a).free ≤ (state b).free) k.free;
        still = places-from _ k.still;
      }

      pub called-err : (why : StartStop) (stop : RunStop) → stop ≡ stopped_by why → RunAll {T = Epoch × List Snap} durable state (Err why) stores stores' → ArePartsCalled {T = Epoch × List Snap} durable state targets (Err stop) old new
      called-err why stop is k = subst (λ w. ArePartsCalled {T = Epoch × List Snap} durable state targets (Err w) old new) (sym is) (record {
        set = set-again;
        clocks = clocks-again;
        runs = places-from (λ t a b. Runs {T = Epoch × List Snap} (is_fault_of t) (Err (stopped_by why)) (state a) (state b) (durable a) (durable b))
            (λ t a b at to. runs_as {T = Epoch × List Snap} {U = Epoch × List Snap} (is_start_fault t) (Err why) (is_fault_of t) (Err (stopped_by why)) (state a) (state b) (durable a) (durable b) (fault-same t why) (k.each t a b at to));
        free = places-from (λ t a b. (state a).free ≤ (state b).free) k.free;
        still = λ t a b at to. tt;
      })

  pub may-stop : (durable : S → Option Durable) (cs : List ContId) (why : StartStop) (stop : RunStop) → stop ≡ stopped_by why → WhyNotOpened durable cs stores why → MayStop durable cs targets (stores_in old) stop
  may-stop durable cs why stop is k = subst (MayStop durable cs targets (stores_in old)) (sym is) (subst (λ l. MayStop durable cs targets l (stopped_by why)) are-stores (by why k))
    where
      by : (why : StartStop) → WhyNotOpened durable cs stores why → MayStop durable cs targets stores (stopped_by why)
      by (start.Stopped target) k = subst (λ n. target < n) A.many_stores k
      by (start.TooMany target together) k = (subst (λ n. target < n) A.many_stores k.0, refl, k.1, refl)
      by start.Memory k = tt

-- ---- nothing was taken

module _ {S C : Type 0} (durable : S → Option Durable) (state : S → State) (may : S → Durable → Type 0) (steady : (x : S) (d g : Durable) → (state x).stopped ≡ false → durable x ≡ Some d → may x g → g ≡ d)
    (targets : ℕ) (old : List (Option (S × C))) (before : AreSet targets old) (run : EachStore (λ t store. (state store).stopped ≡ false) old) where
  -- the next openings find what was kept
  none-found : (B lasts : List Durable) → AreKept durable (stores_in old) B → MayBeFound may (stores_in old) lasts → B ≡ lasts
  none-found B lasts kept found = same-lists B lasts (kept.many ∙ sym found.many) (λ t b g at to.
      let p = before.each t (subst (λ n. t < n) (kept.many ∙ stores-many targets old before) (slice_get_within B t b at)) in
      let there = store-at targets old before t p.0 p.1 in
      sym (steady p.0.0 b g (run t p.0 p.1) (kept.each t p.0.0 b there at) (found.each t p.0.0 g there to)))

  module _ (new : List (Option (S × C))) (is : new ≡ old) (B : List Durable) (kept : AreKept durable (stores_in old) B) (can : CanOpen B) (lasts : List Durable) (found : MayBeFound may (stores_in new) lasts) where
    same-found : B ≡ lasts
    same-found = none-found B lasts kept (subst (λ l. MayBeFound may (stores_in l) lasts) is found)

    pub none-left : (s : Script) → IsLeftOf s B lasts
    none-left s = subst (IsLeftOf s B) same-found (left-itself s B can.sound)

    pub none-again : MayOpenAgain B lasts
    none-again = subst (MayOpenAgain B) same-found (record { opens = can; unsnapped = λ other none. none })
