-- Containers are added to the stores of all targets, one after another.
use Rattle.std.specs.Prelude.{ℕ, zero, suc, ◌≡◌, ◌≤◌, ◌<◌, ◌+◌, ◌⊎◌, Bool, true, false, nat_lt, List, [], ◌∷◌, length, slice_get, slice_index_or, slice_set, Option, Some, Result, Ok, Err, if◌then◌else◌, refl}
use Rattle.std.specs.Option.{option_map}
use Rattle.std.proofs.Common.{inl, inr, sym, ◌∙◌, ap, subst, arith}
use Rattle.std.proofs.lemmas.Bool.{cases_eq, cases_lt}
use Rattle.std.proofs.lemmas.Bool.Decides.{nat_tests}
use Rattle.std.proofs.lemmas.List.{length-set}
use Rattle.std.proofs.lemmas.Option.{slice_get_within}
use Rattle.base_types.specs.declared.id.ContId.{ContId}
use Rattle.daos_model.specs.declared.durable.Durable.{Durable}
use Rattle.daos_model.specs.BoolLaws.{false_of}
use Rattle.daos_model.specs.Changes.{enlisted}
use Rattle.model_laws.specs.Lists.{at-within}
use Rattle.model_laws.specs.TargetLaws.{number_same, same_number}
use Rattle.run_opening.specs.All.{AllRun, FromTo}
use Rattle.run_opening.specs.Left.{Leaves, LeavesAll, LeavesAt, or_not}
use Rattle.run_opening.specs.target_parts.Parts.{Runs, StillRuns}
use Rattle.run_opening.specs.target_parts.Running.{runs_as, runs_call, runs_first}
use Rattle.vos_store.specs.Answers.{IsManyShown, enlists}
use Rattle.vos_store.specs.Calls.{Answers, Makes, State, Turns}
use Rattle.vos_store.specs.Refusals.{always_stop, enlist_open, enlist_stop}
use Rattle.vos_store.specs.declared.refusal.EnlistNo.{EnlistNo}
use Rattle.vos_store.specs.declared.refusal.EnlistNo.TheVariants as enlist
use Rattle.world_base.specs.StepLaws.{set-here, set-is, set-there}
use Rattle.run_starts.specs.declared.stop.StartStop.{StartStop}
use Rattle.run_starts.specs.Calls.{AreFewWith, EnlistsAt, RunAll, WhyNotOpened, WithContainers}
use Rattle.run_starts.specs.Stops.{is_fault_of, not_enlisted}

-- ---- lists

pub at-read : {T : Type 0} (xs : List T) (i : ℕ) (z : T) → i < length xs → slice_get xs i ≡ Some (slice_index_or xs i z)
at-read [] i z lt = absurd (omega (arith, lt))
at-read (x ∷ xs) zero z lt = refl
at-read (x ∷ xs) (suc i) z lt = at-read xs i z (omega (arith, lt))

pub same-at : {T : Type 0} (xs : List T) (t : ℕ) (x y : T) → slice_get xs t ≡ Some x → slice_get xs t ≡ Some y → x ≡ y
same-at xs t x y at to = let e : Some x ≡ Some y = sym at ∙ to in cc

-- a list that is as long has an element there too
pub there : {T U : Type 0} (xs : List T) (ys : List U) (t : ℕ) (x : T) → length ys ≡ length xs → slice_get xs t ≡ Some x → (y : U) × (slice_get ys t ≡ Some y)
there xs ys t x many at = at-within ys t (let low = slice_get_within xs t x at in subst (λ n. t < n) (sym many) low)

-- ---- one store

pub enlist-fault : (t : ℕ) (no : EnlistNo) → is_fault_of t (not_enlisted t no) ≡ enlist_stop no
enlist-fault t (enlist.TooMany n) = refl
enlist-fault t enlist.Stopped = same_number t
enlist-fault t enlist.Memory = refl

pub enlist-own : (t u : ℕ) (no : EnlistNo) → is_fault_of u (not_enlisted t no) ≡ true → u ≡ t
enlist-own t u (enlist.TooMany n) h = let no : ⊥ = cc in absurd no
enlist-own t u enlist.Stopped h = number_same u t h
enlist-own t u enlist.Memory h = let no : ⊥ = cc in absurd no

-- containers that are added have their place
few-added : (cs : List ContId) (d : Durable) → Ok tt ≡ enlists cs d → AreFewWith cs d
unfolding enlists
few-added cs d is = by (nat_lt 256 (length (enlisted cs d).conts)) refl
  where
    low : (n : ℕ) → nat_lt 256 n ≡ false → n ≤ 256
    low n h = grind (arith, nat_tests)

    by : (b : Bool) → nat_lt 256 (length (enlisted cs d).conts) ≡ b → AreFewWith cs d
    by true e =
        let bad : Ok tt ≡ Err (enlist.TooMany (length (enlisted cs d).conts)) = is ∙ ap (λ b. if b then Err (enlist.TooMany (length (enlisted cs d).conts)) else Ok tt) e in
        let no : ⊥ = cc in absurd no
    by false e = low (length (enlisted cs d).conts) e

-- those that are too many are so many together
many-shown : (cs : List ContId) (d : Durable) (n : ℕ) → Err (enlist.TooMany n) ≡ enlists cs d → n ≡ length (enlisted cs d).conts
unfolding enlists
many-shown cs d n is = by (nat_lt 256 (length (enlisted cs d).conts)) refl
  where
    by : (b : Bool) → nat_lt 256 (length (enlisted cs d).conts) ≡ b → n ≡ length (enlisted cs d).conts
    by true e =
        let same : Err (enlist.TooMany n) ≡ Err (enlist.TooMany (length (enlisted cs d).conts)) = is ∙ ap (λ b. if b then Err (enlist.TooMany (length (enlisted cs d).conts)) else Ok tt) e in cc
    by false e =
        let bad : Err (enlist.TooMany n) ≡ Ok tt = is ∙ ap (λ b. if b then Err (enlist.TooMany (length (enlisted cs d).conts)) else Ok tt) e in
        let no : ⊥ = cc in absurd no

module _ {S : Type 0} (durable : S → Option Durable) (state : S → State) (cs : List ContId) (stores : List S) (t : ℕ) (z store : S) (low : t < length stores) (run : AllRun state stores) where
  abbrev old : S
  old = slice_index_or stores t z

  running : (state old).stopped ≡ false
  running = run t old (at-read stores t z low)

  its-own : (P : S → Type 0) → P old → (x : S) → slice_get stores t ≡ Some x → P x
  its-own P p x at = subst P (same-at stores t old x (at-read stores t z low) at) p

  pub added-ok : (may may' : Durable → Type 0) → Turns {T = Unit {0}} 0 enlist_stop (Ok (tt {0})) (state old) (state store) → (state store).free ≡ (state old).free → Answers {T = Unit {0}} enlist_open (Ok (tt {0})) (enlists cs) (durable old)
      → Makes {T = Unit {0}} (state old).stopped enlist_stop (enlisted cs) (Ok (tt {0})) (durable old) (durable store) may may' → EnlistsAt durable state cs t (Ok (tt {0})) stores (slice_set stores t store)
  added-ok may may' call free answer kept = record {
    store = store;
    set = refl;
    runs = its-own (λ x. Runs (is_fault_of t) (Ok (tt {0})) (state x) (state store) (durable x) (durable store))
        (runs_as {T = Unit {0}} enlist_stop (Ok (tt {0})) (is_fault_of t) (Ok (tt {0})) (state old) (state store) (durable old) (durable store) refl
        (runs_call {T = Unit {0}} 0 enlist_stop (Ok (tt {0})) (state old) (state store) (durable old) (durable store) running call kept.told));
    free = its-own (λ x. (state store).free ≡ (state x).free) free;
    made = its-own (λ x. WithContainers durable cs x store) (record { made = kept.done; few = λ d told. few-added cs d (answer d told refl) });
    own = λ u. tt;
    why = λ those is within. tt;
  }

  why-not : (no : EnlistNo) → Answers {T = Unit {0}} enlist_open (Err no) (enlists cs) (durable old) → IsManyShown no → (those : List S) → slice_get those t ≡ slice_get stores t → t < length those → WhyNotOpened durable cs those (not_enlisted t no)
  why-not (enlist.TooMany n) answer many those is within = (
    within,
    record {
      many = many;
      told = λ x d at told.
          let same : old ≡ x = same-at stores t old x (at-read stores t z low) (sym is ∙ at) in
          many-shown cs d n (answer d (ap durable same ∙ told) refl);
    },
  )
  why-not enlist.Stopped answer many those is within = within
  why-not enlist.Memory answer many those is within = tt

  pub added-err : (refusal : EnlistNo) (why : StartStop) → why ≡ not_enlisted t refusal → (may may' : Durable → Type 0) → Turns {T = Unit {0}} 0 enlist_stop (Err refusal) (state old) (state store) → (state store).free ≡ (state old).free
      → Answers {T = Unit {0}} enlist_open (Err refusal) (enlists cs) (durable old) → IsManyShown refusal → Makes {T = Unit {0}} (state old).stopped enlist_stop (enlisted cs) (Err refusal) (durable old) (durable store) may may'
      → EnlistsAt durable state cs t (Err why) stores (slice_set stores t store)
  added-err refusal why is may may' call free answer many kept = subst (λ w. EnlistsAt durable state cs t (Err w) stores (slice_set stores t store)) (sym is) (record {
    store = store;
    set = refl;
    runs = its-own (λ x. Runs {T = Unit {0}} (is_fault_of t) (Err (not_enlisted t refusal)) (state x) (state store) (durable x) (durable store))
        (runs_as {T = Unit {0}} {U = Unit {0}} enlist_stop (Err refusal) (is_fault_of t) (Err (not_enlisted t refusal)) (state old) (state store) (durable old) (durable store) (enlist-fault t refusal)
        (runs_call {T = Unit {0}} 0 enlist_stop (Err refusal) (state old) (state store) (durable old) (durable store) running call kept.told));
    free = its-own (λ x. (state store).free ≡ (state x).free) free;
    made = tt;
    own = λ u h. enlist-own t u refusal h;
    why = why-not refusal answer many;
  })

-- wherever the call is cut, its store has got them or not
pub enlist-left : {S T E : Type 0} (durable : S → Option Durable) (state : S → State) (may : S → Durable → Type 0) → ((s : S) (d x : Durable) → (state s).stopped ≡ false → durable s ≡ Some d → may s x → x ≡ d)
    → (cs : List ContId) (stores : List S) (t : ℕ) (z store : S) → t < length stores → AllRun state stores → (was : Bool) (stop : E → Bool) (result : Result T E)
    → Makes was stop (enlisted cs) result (durable (slice_index_or stores t z)) (durable store) (may (slice_index_or stores t z)) (may store) → LeavesAt durable may t (or_not (enlisted cs)) stores (slice_set stores t store)
enlist-left {S} durable state may steady cs stores t z store low run was stop result m x y at bt d g told found = by (m.left g (subst (λ w. may w g) (sym new) found))
  where
    old : slice_index_or stores t z ≡ x
    old = same-at stores t (slice_index_or stores t z) x (at-read stores t z low) at

    new : store ≡ y
    new = same-at (slice_set stores t store) t store y (set-here stores t x store at) bt

    kept : durable (slice_index_or stores t z) ≡ Some d
    kept = ap durable old ∙ told

    by : may (slice_index_or stores t z) g ⊎ ((was ≡ false) × (Some g ≡ option_map (enlisted cs) (durable (slice_index_or stores t z)))) → (n : ℕ) × (g ≡ or_not (enlisted cs) n d)
    by (inl before) = (0, steady (slice_index_or stores t z) d g (run t (slice_index_or stores t z) (at-read stores t z low)) kept before)
    by (inr made) = (1, let e : Some g ≡ Some (enlisted cs d) = made.1 ∙ ap (option_map (enlisted cs)) kept in cc)

-- ---- all stores

module _ {S : Type 0} (durable : S → Option Durable) (state : S → State) (cs : List ContId) where
  -- a store to which containers were added, and which still runs
  pub record IsAdded (x y : S) : Type 0 where
    pub runs : StillRuns (state x) (state y) (durable x) (durable y)
    pub free : (state y).free ≡ (state x).free
    pub added : WithContainers durable cs x y

  -- they were added to the stores of the first so many targets
  pub record AreAddedSoFar (n : ℕ) (old now : List S) : Type 0 where
    pub many : length now ≡ length old
    pub done : (t : ℕ) (x y : S) → t < n → slice_get old t ≡ Some x → slice_get now t ≡ Some y → IsAdded x y
    pub left : (t : ℕ) → n ≤ t → slice_get now t ≡ slice_get old t

  -- its next opening finds it with them
  added-leaves : (may : S → Durable → Type 0) → ((s : S) (d x : Durable) → (state s).stopped ≡ false → durable s ≡ Some d → may s x → x ≡ d) → (x y : S) → IsAdded x y → Leaves durable may (or_not (enlisted cs)) x y
  added-leaves may steady x y a d g told found = (1, steady y (enlisted cs d) g a.runs.stops (a.added.made ∙ ap (option_map (enlisted cs)) told) found)

  pub none-added : (stores : List S) → AreAddedSoFar 0 stores stores
  none-added stores = record { many = refl; done = λ t x y low. absurd (omega (arith, low)); left = λ t high. refl }

  pub still-run : (n : ℕ) (old now : List S) → AllRun state old → AreAddedSoFar n old now → AllRun state now
  still-run n old now run k t y to = elim (cases_lt t n) [
    | inl low ↦ (let x = there now old t y (sym k.many) to in (k.done t x.0 y low x.1 to).runs.stops)
    | inr high ↦ run t y (sym (k.left t (omega (arith, high))) ∙ to)
  ]

  module _ (n : ℕ) (old mid new : List S) (k : AreAddedSoFar n old mid) where
    -- the store that stands there stood there before
    stood : (x : S) → slice_get old n ≡ Some x → slice_get mid n ≡ Some x
    stood x at = k.left n (omega arith) ∙ at

    pub one-added : EnlistsAt durable state cs n (Ok (tt {0})) mid new → AreAddedSoFar (n + 1) old new
    one-added e = record {
      many = ap length e.set ∙ length-set mid n e.store ∙ k.many;
      done = λ t x y below at to. elim (cases_eq t n) [
        | inl same ↦
            let here : slice_get mid n ≡ Some x = stood x (ap (slice_get old) (sym same) ∙ at) in
            let is : e.store ≡ y = set-is mid n e.store y (ap (λ l. slice_get l n) (sym e.set) ∙ ap (slice_get new) (sym same) ∙ to) in
            subst (IsAdded x) is (record {
              runs = runs_as {T = Unit {0}} (is_fault_of n) (Ok (tt {0})) always_stop (Ok (tt {0})) (state x) (state e.store) (durable x) (durable e.store) refl (e.runs x here);
              free = e.free x here;
              added = e.made x here;
            })
        | inr apart ↦ k.done t x y (omega (arith, below, apart)) at (sym (set-there mid n t e.store apart) ∙ ap (λ l. slice_get l t) (sym e.set) ∙ to)
      ];
      left = λ t high. ap (λ l. slice_get l t) e.set ∙ set-there mid n t e.store (λ same. omega (arith, high, same)) ∙ k.left t (omega (arith, high));
    }

    -- ---- one store doesn't get them
    module _ (why : StartStop) (e : EnlistsAt durable state cs n (Err why) mid new) (low : n < length mid) (run : AllRun state old) where
      not-its : (t : ℕ) → ((t ≡ n) → ⊥) → is_fault_of t why ≡ false
      not-its t apart = false_of (is_fault_of t why) (λ is. apart (e.own t is))

      elsewhere : (t : ℕ) (y : S) → ((t ≡ n) → ⊥) → slice_get new t ≡ Some y → slice_get mid t ≡ Some y
      elsewhere t y apart to = sym (set-there mid n t e.store apart) ∙ ap (λ l. slice_get l t) (sym e.set) ∙ to

      goes-on : (t : ℕ) (x y : S) → ((t ≡ n) → ⊥) → StillRuns (state x) (state y) (durable x) (durable y) → Runs {T = Unit {0}} (is_fault_of t) (Err why) (state x) (state y) (durable x) (durable y)
      goes-on t x y apart r = runs_as {T = Unit {0}} {U = Unit {0}} always_stop (Ok (tt {0})) (is_fault_of t) (Err why) (state x) (state y) (durable x) (durable y) (not-its t apart) r

      -- what holds of the stores of the first targets, of the one that didn't get them, and of those that stay holds of each
      each-of : (P : ℕ → S → S → Type 0) → ((t : ℕ) (x y : S) → ((t ≡ n) → ⊥) → IsAdded x y → P t x y) → ((x : S) → slice_get mid n ≡ Some x → P n x e.store) → ((t : ℕ) (x : S) → ((t ≡ n) → ⊥) → slice_get old t ≡ Some x → P t x x) → FromTo old new P
      each-of P first one last t x y at to = elim (cases_lt t n) [
        | inl below ↦ first t x y (λ same. omega (arith, below, same)) (k.done t x y below at (elsewhere t y (λ same. omega (arith, below, same)) to))
        | inr high ↦ elim (cases_eq t n) [
          | inl same ↦
              let is : e.store ≡ y = set-is mid n e.store y (ap (λ l. slice_get l n) (sym e.set) ∙ ap (slice_get new) (sym same) ∙ to) in
              subst (λ u. P u x y) (sym same) (subst (P n x) is (one x (stood x (ap (slice_get old) (sym same) ∙ at))))
          | inr apart ↦
              let is : x ≡ y = same-at old t x y at (sym (k.left t (omega (arith, high, apart))) ∙ elsewhere t y apart to) in
              subst (P t x) is (last t x apart at)
        ]
      ]

      pub run-err : RunAll {T = Unit {0}} durable state (Err why) old new
      run-err = record {
        many = ap length e.set ∙ length-set mid n e.store ∙ k.many;
        each = each-of (λ t x y. Runs {T = Unit {0}} (is_fault_of t) (Err why) (state x) (state y) (durable x) (durable y)) (λ t x y apart a. goes-on t x y apart a.runs) e.runs
            (λ t x apart at. goes-on t x x apart (runs_first (state x) (durable x) (run t x at)));
        free = each-of (λ t x y. (state x).free ≤ (state y).free) (λ t x y apart a. let same = a.free in omega (arith, same)) (λ x at. let same = e.free x at in omega (arith, same)) (λ t x apart at. omega arith);
        still = λ t x y at to. tt;
        own = λ t is. let same = e.own t is in let many = k.many in omega (arith, same, many, low);
      }

      pub left-err : (may : S → Durable → Type 0) → ((s : S) (d x : Durable) → (state s).stopped ≡ false → durable s ≡ Some d → may s x → x ≡ d) → LeavesAt durable may n (or_not (enlisted cs)) mid new → LeavesAll durable may (λ t. or_not (enlisted cs)) old new
      left-err may steady l =
          each-of (λ t x y. Leaves durable may (or_not (enlisted cs)) x y) (λ t x y apart a. added-leaves may steady x y a) (λ x at. l x e.store at (ap (λ l. slice_get l n) e.set ∙ set-here mid n x e.store at))
          (λ t x apart at d g told found. (0, steady x d g (run t x at) told found))

      pub why-err : WhyNotOpened durable cs old why
      why-err = let many = k.many in e.why old (sym (k.left n (omega arith))) (omega (arith, many, low))

  -- ---- all have got them
  module _ (n : ℕ) (old now : List S) (k : AreAddedSoFar n old now) (done : length old ≤ n) where
    each-added : (t : ℕ) (x y : S) → slice_get old t ≡ Some x → slice_get now t ≡ Some y → IsAdded x y
    each-added t x y at to = let low = slice_get_within old t x at in k.done t x y (omega (arith, low, done)) at to

    pub run-ok : RunAll {T = Unit {0}} durable state (Ok (tt {0})) old now
    run-ok = record {
      many = k.many;
      each = λ t x y at to. runs_as {T = Unit {0}} {U = Unit {0}} always_stop (Ok (tt {0})) (is_fault_of t) (Ok (tt {0})) (state x) (state y) (durable x) (durable y) refl (each-added t x y at to).runs;
      free = λ t x y at to. let same = (each-added t x y at to).free in omega (arith, same);
      still = λ t x y at to d told none. (each-added t x y at to).free;
      own = λ t. tt;
    }

    pub left-ok : (may : S → Durable → Type 0) → ((s : S) (d x : Durable) → (state s).stopped ≡ false → durable s ≡ Some d → may s x → x ≡ d) → LeavesAll durable may (λ t. or_not (enlisted cs)) old now
    left-ok may steady t x y at to = added-leaves may steady x y (each-added t x y at to)

    pub with-all : FromTo old now (λ t x y. WithContainers durable cs x y)
    with-all t x y at to = (each-added t x y at to).added
