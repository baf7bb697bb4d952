-- Calls of all stores, one after another.
use Rattle.std.specs.Prelude.{ℕ, zero, suc, ◌≡◌, ◌≤◌, ◌<◌, ◌+◌, ◌==◌, Bool, true, false, nat_lt, List, [], ◌∷◌, ◌++◌, length, slice_get, slice_index_or, slice_set, Option, Some, Result, Ok, Err, IfErr, if◌then◌else◌}
use Rattle.std.specs.Option.{option_map}
use Rattle.std.proofs.Common.{refl, sym, ◌∙◌, ap, subst, inl, inr, arith}
use Rattle.std.proofs.lemmas.Bool.{cases_eq}
use Rattle.std.proofs.lemmas.Bool.Decides.{nat_tests}
use Rattle.std.proofs.lemmas.List.{length-set, length_push}
use Rattle.std.proofs.lemmas.Option.{slice_get_within}
use Rattle.base_types.specs.declared.entry.Entry.{Entry}
use Rattle.base_types.specs.declared.id.AttemptId.{AttemptId}
use Rattle.daos_model.specs.declared.durable.Durable.{Durable}
use Rattle.daos_model.specs.BoolLaws.{false_of}
use Rattle.model_laws.specs.TargetLaws.{number_same, same_number}
use Rattle.target_parts.specs.declared.halt.Halt.{Halt}
use Rattle.target_parts.specs.declared.halt.Halt.TheVariants as halt
use Rattle.target_parts.specs.Halts.{halt_stop}
use Rattle.vos_store.specs.Calls.{State}
use Rattle.vos_store.specs.Refusals.{always_stop, says}
use Rattle.vos_store.specs.declared.refusal.Stopped.{Stopped}
use Rattle.target_parts.specs.world_base.StepLaws.{set-here, set-there}
use Rattle.run_opening.specs.declared.stop.OpeningStop.{OpeningStop}
use Rattle.run_opening.specs.declared.stop.OpeningStop.TheVariants as stop
use Rattle.run_opening.specs.All.{AllRun, AreEntries, EachCommitted, GoesAll, GoesAt, IsCommitted, IsOwn, RunAll, alike, is_fault_of, only, stop_at, wanting}
use Rattle.run_opening.specs.Steps.{AllCommitted, Goes, ended, same}
use Rattle.run_opening.proofs.Direct.{ended-committed}
use Rattle.run_opening.proofs.Ending.{at-read}
use Rattle.run_opening.proofs.Going.{goes-as, goes-first, goes-on, goes-so, on-any, on-ok, was}

-- ---- lists

pub same-at : {T : Type 0} (xs : List T) (t : ℕ) (x y : T) → slice_get xs t ≡ Some x → slice_get xs t ≡ Some y → x ≡ y
same-at xs t x y at to = let e : Some x ≡ Some y = sym at ∙ to in cc

-- a list that is as long has an element there too
pub there : {T U : Type 0} (xs : List T) (ys : List U) (t : ℕ) (x : T) (y : U) → length ys ≡ length xs → slice_get xs t ≡ Some x → slice_get ys t ≡ Some (slice_index_or ys t y)
there xs ys t x y many at = at-read ys t y (let low = slice_get_within xs t x at in subst (λ n. t < n) (sym many) low)

-- an element of a list with one more is an old one, or the new one at its end
pub at-end : {T : Type 0} (P : ℕ → T → Type 0) (xs : List T) (x : T) → ((n : ℕ) (y : T) → slice_get xs n ≡ Some y → P n y) → P (length xs) x → (n : ℕ) (y : T) → slice_get (xs ++ x ∷ []) n ≡ Some y → P n y
at-end P [] x old new zero y at = let e : x ≡ y = cc in subst (P 0) e new
at-end P [] x old new (suc n) y at = let no : ⊥ = cc in absurd no
at-end P (z ∷ zs) x old new zero y at = old 0 y at
at-end P (z ∷ zs) x old new (suc n) y at = at-end (λ m. P (suc m)) zs x (λ m w h. old (suc m) w h) new n y at

-- ---- one store

-- why a part isn't done is no fault of another target's store
stop-own : (t : ℕ) (why : Halt) (u : ℕ) → is_fault_of u (stop_at t why) ≡ true → u ≡ t
stop-own t halt.Stopped u is = number_same u t is
stop-own t halt.Memory u is = let n : ⊥ = cc in absurd n

stop-fault : (t : ℕ) (why : Halt) → is_fault_of t (stop_at t why) ≡ halt_stop why
stop-fault t halt.Stopped = same_number t
stop-fault t halt.Memory = refl

module _ {S : Type 0} (durable : S → Option Durable) (state : S → State) (stores : List S) (t : ℕ) (z store : S) (low : t < length stores) where
  its-own : (P : S → Type 0) → P (slice_index_or stores t z) → (x : S) → slice_get stores t ≡ Some x → P x
  its-own P p x at = subst P (same-at stores t (slice_index_or stores t z) x (at-read stores t z low) at) p

  -- its calls came to their end
  pub ok-at : {T U E : Type 0} (change : Durable → Durable) (halts : E → Bool) (x : T) (y : U) → Goes halts change (Ok x) (state (slice_index_or stores t z)) (state store) (durable (slice_index_or stores t z)) (durable store)
      → GoesAt durable state t change (Ok y) stores (slice_set stores t store)
  ok-at change halts x y k = record {
    store = store;
    set = refl;
    goes = its-own (λ s. Goes (is_fault_of t) change (Ok y) (state s) (state store) (durable s) (durable store))
        (goes-so halts (Ok x) (is_fault_of t) (Ok y) change (state (slice_index_or stores t z)) (state store) (durable (slice_index_or stores t z)) (durable store) refl (λ P made. made) k);
    own = λ u. tt;
  }

  -- its store stopped, or memory was wanting
  pub err-at : {T U : Type 0} (change : Durable → Durable) (cause : Halt) (why : OpeningStop) → why ≡ stop_at t cause → Goes {T = T} halt_stop change (Err cause) (state (slice_index_or stores t z)) (state store) (durable (slice_index_or stores t z)) (durable store)
      → GoesAt {T = U} durable state t change (Err why) stores (slice_set stores t store)
  err-at {T} {U} change cause why is k = subst (λ e. GoesAt {T = U} durable state t change (Err e) stores (slice_set stores t store)) (sym is) (record {
    store = store;
    set = refl;
    goes = its-own (λ s. Goes {T = U} (is_fault_of t) change (Err (stop_at t cause)) (state s) (state store) (durable s) (durable store))
        (goes-so {T = T} {U = U} halt_stop (Err cause) (is_fault_of t) (Err (stop_at t cause)) change (state (slice_index_or stores t z)) (state store) (durable (slice_index_or stores t z)) (durable store) (stop-fault t cause) (λ P made. tt) k);
    own = λ u. stop-own t cause u;
  })

  -- its store stopped
  pub stopped-at : {T U : Type 0} (change : Durable → Durable) (cause : Stopped) → Goes {T = T} always_stop change (Err cause) (state (slice_index_or stores t z)) (state store) (durable (slice_index_or stores t z)) (durable store)
      → GoesAt {T = U} durable state t change (Err (stop.Stopped t)) stores (slice_set stores t store)
  stopped-at {T} {U} change cause k = record {
    store = store;
    set = refl;
    goes = its-own (λ s. Goes {T = U} (is_fault_of t) change (Err (stop.Stopped t)) (state s) (state store) (durable s) (durable store))
        (goes-so {T = T} {U = U} always_stop (Err cause) (is_fault_of t) (Err (stop.Stopped t)) change (state (slice_index_or stores t z)) (state store) (durable (slice_index_or stores t z)) (durable store) (same_number t) (λ P made. tt) k);
    own = λ u is. number_same u t is;
  }

-- ---- all stores

pub only-here : (t : ℕ) (c : Durable → Durable) (d : Durable) → c d ≡ only t c t d
only-here t c d = ap (λ (b : Bool). (if b then c else same) d) (sym (same_number t))

pub only-there : (t u : ℕ) (c : Durable → Durable) (d : Durable) → (u ≡ t → ⊥) → d ≡ only t c u d
only-there t u c d apart = ap (λ (b : Bool). (if b then c else same) d) (sym (false_of (u == t) (λ is. apart (number_same u t is))))

-- the targets below a number have made the change
abbrev pub upto : ℕ → (Durable → Durable) → ℕ → Durable → Durable
upto n c u = if nat_lt u n then c else same

none-upto : (c : Durable → Durable) (u : ℕ) (d : Durable) → d ≡ upto 0 c u d
none-upto c u d = ap (λ (b : Bool). (if b then c else same) d) (let off : false ≡ nat_lt u 0 = grind (arith, nat_tests) in off)

pub all-upto : (n : ℕ) (c : Durable → Durable) (u : ℕ) (d : Durable) → u < n → upto n c u d ≡ c d
all-upto n c u d low = ap (λ (b : Bool). (if b then c else same) d) (let on : nat_lt u n ≡ true = grind (arith, nat_tests) in on)

-- the next one hasn't
not-yet : (c : Durable → Durable) (n : ℕ) (d : Durable) → upto n c n d ≡ d
not-yet c n d = ap (λ (b : Bool). (if b then c else same) d) (let off : nat_lt n n ≡ false = grind (arith, nat_tests) in off)

more-upto : (n : ℕ) (c : Durable → Durable) (u : ℕ) (d : Durable) → only n c u (upto n c u d) ≡ upto (n + 1) c u d
more-upto n c u d = elim (cases_eq u n) [
  | inl is ↦
      let eq : (u == n) ≡ true = grind (arith, nat_tests) in
      let off : nat_lt u n ≡ false = grind (arith, nat_tests) in
      let on : true ≡ nat_lt u (n + 1) = grind (arith, nat_tests) in
      ap (λ (b : Bool). (if b then c else same) (upto n c u d)) eq ∙ ap (λ (b : Bool). c ((if b then c else same) d)) off ∙ ap (λ (b : Bool). (if b then c else same) d) on
  | inr apart ↦
      let alike' : nat_lt u n ≡ nat_lt u (n + 1) = grind (arith, nat_tests) in
      sym (only-there n u c (upto n c u d) apart) ∙ ap (λ (b : Bool). (if b then c else same) d) alike'
]

-- no fault is another target's
unsaid : {T : Type 0} (t u : ℕ) (result : Result T OpeningStop) → IfErr result (λ stop. is_fault_of u stop ≡ true → u ≡ t) → (u ≡ t → ⊥) → says (is_fault_of u) result ≡ false
unsaid t u (Ok x) own apart = refl
unsaid t u (Err e) own apart = false_of (is_fault_of u e) (λ is. apart (own is))

-- a store of which no call is made
stays : {T : Type 0} (u : ℕ) (change : Durable → Durable) (result : Result T OpeningStop) (h : State) (old : Option Durable) → ((d : Durable) → d ≡ change d) → h.stopped ≡ false → says (is_fault_of u) result ≡ false → Goes (is_fault_of u) change result h h old old
stays {T} u change result h old is running quiet =
    goes-as (is_fault_of u) result same change h h old old (λ d at. is d)
    (goes-so always_stop (Ok (tt {0})) (is_fault_of u) result same h h old old quiet (λ P. on-any result) (goes-first always_stop (tt {0}) h old running))

module _ {S : Type 0} (durable : S → Option Durable) (state : S → State) where
  -- before any call
  pub all-first : {T : Type 0} (x : T) (stores : List S) → AllRun state stores → GoesAll durable state (alike same) (Ok x) stores stores
  all-first x stores run = record {
    many = refl;
    each = λ t a b at bt. subst (λ s. Goes (is_fault_of t) same (Ok x) (state a) (state s) (durable a) (durable s)) (same-at stores t a b at bt)
        (stays t same (Ok x) (state a) (durable a) (λ d. refl) (run t a at) refl);
    own = λ t. tt;
  }

  -- calls of one store are calls of all
  pub all-one : {T : Type 0} (t : ℕ) (change : Durable → Durable) (result : Result T OpeningStop) (old new : List S) → t < length old → AllRun state old → GoesAt durable state t change result old new
      → GoesAll durable state (only t change) result old new
  all-one {T} t change result old new low run k = record {
    many = ap length k.set ∙ length-set old t k.store;
    each = λ u x y at bt. elim (cases_eq u t) [
      | inl is ↦
          let here : slice_get old t ≡ Some x = ap (slice_get old) (sym is) ∙ at in
          let new-here : k.store ≡ y = same-at new t k.store y (ap (λ l. slice_get l t) k.set ∙ set-here old t x k.store here) (ap (slice_get new) (sym is) ∙ bt) in
          subst (λ v. Goes (is_fault_of v) (only t change v) result (state x) (state y) (durable x) (durable y)) (sym is)
          (subst (λ s. Goes (is_fault_of t) (only t change t) result (state x) (state s) (durable x) (durable s)) new-here
          (goes-as (is_fault_of t) result change (only t change t) (state x) (state k.store) (durable x) (durable k.store) (λ d told. only-here t change d) (k.goes x here)))
      | inr apart ↦
          let stay : x ≡ y = same-at new u x y (ap (λ l. slice_get l u) k.set ∙ set-there old t u k.store apart ∙ at) bt in
          subst (λ s. Goes (is_fault_of u) (only t change u) result (state x) (state s) (durable x) (durable s)) stay
          (stays u (only t change u) result (state x) (durable x) (λ d. only-there t u change d apart) (run u x at) (unsaid t u result (k.own u) apart))
    ];
    own = λ u. within u result (k.own u);
  }
    where
      within : (u : ℕ) (result : Result T OpeningStop) → IfErr result (λ stop. is_fault_of u stop ≡ true → u ≡ t) → IfErr result (λ stop. is_fault_of u stop ≡ true → u < length old)
      within u (Ok x) own = tt
      within u (Err e) own = λ is. subst (λ n. n < length old) (sym (own is)) low

  -- after calls that came to their end all run still
  pub still-run : {T : Type 0} (changes : ℕ → Durable → Durable) (x : T) (old new : List S) → GoesAll durable state changes (Ok x) old new → AllRun state new
  still-run changes x old new k t y bt =
      let at = there new old t y y (sym k.many) bt in
      (k.each t (slice_index_or old t y) y at bt).runs.stops

  -- further calls
  pub all-on : {T U : Type 0} (c f : ℕ → Durable → Durable) (x : T) (result : Result U OpeningStop) (old mid new : List S) → GoesAll durable state c (Ok x) old mid → GoesAll durable state f result mid new
      → GoesAll durable state (λ t d. f t (c t d)) result old new
  all-on {T} {U} c f x result old mid new a b = record {
    many = b.many ∙ a.many;
    each = λ t y z at bt.
        let mt = there old mid t y y a.many at in
        goes-on (is_fault_of t) x (c t) (is_fault_of t) result (f t) (state y) (state (slice_index_or mid t y)) (state z) (durable y) (durable (slice_index_or mid t y)) (durable z)
        (a.each t y (slice_index_or mid t y) at mt) (b.each t (slice_index_or mid t y) z mt bt);
    own = λ t. subst (λ n. IfErr result (λ stop. is_fault_of t stop ≡ true → t < n)) a.many (b.own t);
  }

  -- the same changes, said in another way
  pub all-as : {T : Type 0} (c f : ℕ → Durable → Durable) (result : Result T OpeningStop) (old new : List S) → ((t : ℕ) → t < length old → (d : Durable) → c t d ≡ f t d) → GoesAll durable state c result old new
      → GoesAll durable state f result old new
  all-as c f result old new is k = record {
    many = k.many;
    each = λ t x y at bt. goes-as (is_fault_of t) result (c t) (f t) (state x) (state y) (durable x) (durable y) (λ d told. is t (slice_get_within old t x at) d) (k.each t x y at bt);
    own = k.own;
  }

  -- an error that is handed on
  pub all-err : {T U : Type 0} (c f : ℕ → Durable → Durable) (why : OpeningStop) (old new : List S) → GoesAll {T = T} durable state c (Err why) old new → GoesAll {T = U} durable state f (Err why) old new
  all-err {T} {U} c f why old new k = record {
    many = k.many;
    each = λ t x y at bt.
        let g = goes-so {T = T} {U = U} (is_fault_of t) (Err why) (is_fault_of t) (Err why) (c t) (state x) (state y) (durable x) (durable y) refl (λ P made. tt) (k.each t x y at bt) in
        record { runs = g.runs; free = g.free; made = tt; still = tt };
    own = k.own;
  }

  -- memory was wanting after calls that came to their end
  pub all-wanting : {T U : Type 0} (c f : ℕ → Durable → Durable) (x : T) (why : OpeningStop) (old new : List S) → why ≡ wanting → GoesAll durable state c (Ok x) old new → GoesAll {T = U} durable state f (Err why) old new
  all-wanting {T} {U} c f x why old new is k = subst (λ e. GoesAll {T = U} durable state f (Err e) old new) (sym is) (record {
    many = k.many;
    each = λ t a b at bt.
        let g = goes-so {U = U} (is_fault_of t) (Ok x) (is_fault_of t) (Err wanting) (c t) (state a) (state b) (durable a) (durable b) refl (λ P made. tt) (k.each t a b at bt) in
        record { runs = g.runs; free = g.free; made = tt; still = tt };
    own = λ t is'. let n : ⊥ = cc in absurd n;
  })

  -- another value
  pub all-so : {T U : Type 0} (c : ℕ → Durable → Durable) (x : T) (y : U) (old new : List S) → GoesAll durable state c (Ok x) old new → GoesAll durable state c (Ok y) old new
  all-so c x y old new k = record {
    many = k.many;
    each = λ t a b at bt. goes-so (is_fault_of t) (Ok x) (is_fault_of t) (Ok y) (c t) (state a) (state b) (durable a) (durable b) refl (λ P made. made) (k.each t a b at bt);
    own = λ t. tt;
  }

  -- what every call says
  pub run-all : {T : Type 0} (c : ℕ → Durable → Durable) (result : Result T OpeningStop) (old new : List S) → GoesAll durable state c result old new → RunAll durable state result old new
  run-all c result old new k = record {
    many = k.many;
    each = λ t x y at bt. (k.each t x y at bt).runs;
    free = λ t x y at bt. (k.each t x y at bt).free;
    still = λ t x y at bt. on-ok result (λ s d is none. (s d is none).0) (k.each t x y at bt).still;
    own = k.own;
  }

  -- ---- walks along stores

  -- none has made the change yet
  pub walk-first : {T : Type 0} (change : Durable → Durable) (x : T) (stores : List S) → AllRun state stores → GoesAll durable state (upto 0 change) (Ok x) stores stores
  walk-first change x stores run = all-as (alike same) (upto 0 change) (Ok x) stores stores (λ t low d. none-upto change t d) (all-first x stores run)

  -- one more
  pub walk-on : {T U : Type 0} (change : Durable → Durable) (n : ℕ) (x : T) (result : Result U OpeningStop) (old mid new : List S) → n < length mid → GoesAll durable state (upto n change) (Ok x) old mid
      → GoesAt durable state n change result mid new → GoesAll durable state (upto (n + 1) change) result old new
  walk-on change n x result old mid new low a b =
      all-as (λ u d. only n change u (upto n change u d)) (upto (n + 1) change) result old new (λ u within d. more-upto n change u d)
      (all-on (upto n change) (only n change) x result old mid new a (all-one n change result mid new low (still-run (upto n change) x old mid a) b))

  -- after the last one
  pub walk-last : {T U : Type 0} (change : Durable → Durable) (n : ℕ) (x : T) (y : U) (old new : List S) → length old ≤ n → GoesAll durable state (upto n change) (Ok x) old new → GoesAll durable state (alike change) (Ok y) old new
  walk-last change n x y old new le k =
      all-so (alike change) x y old new
      (all-as (upto n change) (alike change) (Ok x) old new (λ u low d. all-upto n change u d (omega (arith, le, low))) k)

  -- a walk that ends early
  pub walk-err : {T U V : Type 0} (change : Durable → Durable) (n : ℕ) (x : T) (why : OpeningStop) (old mid new : List S) → n < length mid → GoesAll durable state (upto n change) (Ok x) old mid
      → GoesAt {T = U} durable state n change (Err why) mid new → GoesAll {T = V} durable state (alike change) (Err why) old new
  walk-err {T} {U} {V} change n x why old mid new low a b = all-err {T = U} {U = V} (upto (n + 1) change) (alike change) why old new (walk-on change n x (Err why) old mid new low a b)

  -- ---- what the stores tell

  -- what a store tells comes of what it told, where calls came to their end
  pub told-was : {T : Type 0} (c : ℕ → Durable → Durable) (x : T) (old new : List S) → GoesAll durable state c (Ok x) old new → (t : ℕ) (a b : S) (d : Durable) → slice_get old t ≡ Some a → slice_get new t ≡ Some b → durable b ≡ Some d
      → (o : Durable) × (durable a ≡ Some o) × (d ≡ c t o)
  told-was c x old new k t a b d at bt told = was (c t) (durable a) (durable b) d (k.each t a b at bt).made told

  -- entries are a target's own before calls where they are after them, and after them where they are before, if these change none
  own-before : {T : Type 0} (c : ℕ → Durable → Durable) (x : T) (old new : List S) (t : ℕ) (es : List Entry) → GoesAll durable state c (Ok x) old new → ((d : Durable) → c t d ≡ d) → IsOwn durable new t es → IsOwn durable old t es
  own-before c x old new t es k stay own a d at told =
      let bt = there old new t a a k.many at in
      own (slice_index_or new t a) d bt ((k.each t a (slice_index_or new t a) at bt).made ∙ ap (option_map (c t)) told ∙ ap (λ y. Some y) (stay d))

  own-after : {T : Type 0} (c : ℕ → Durable → Durable) (x : T) (old new : List S) (t : ℕ) (es : List Entry) → GoesAll durable state c (Ok x) old new → ((d : Durable) → c t d ≡ d) → IsOwn durable old t es → IsOwn durable new t es
  own-after c x old new t es k stay own b d bt told =
      let at = there new old t b b (sym k.many) bt in
      let w = told-was c x old new k t (slice_index_or old t b) b d at bt told in
      own (slice_index_or old t b) w.0 at w.1 ∙ ap (λ y. y.entries) (sym (w.2 ∙ stay w.0))

  -- ---- all entries are read

  -- the entries of so many targets are read, and nothing is changed
  pub record ReadSoFar (n : ℕ) (all : List (List Entry)) (old now : List S) : Type 0 where
    pub goes : GoesAll durable state (alike same) (Ok (tt {0})) old now
    pub many : length all ≡ n
    pub each : (t : ℕ) (es : List Entry) → slice_get all t ≡ Some es → IsOwn durable old t es

  pub none-read : (stores : List S) → AllRun state stores → ReadSoFar 0 [] stores stores
  none-read stores run = record { goes = all-first (tt {0}) stores run; many = refl; each = λ t es at. let no : ⊥ = cc in absurd no }

  -- one store is asked, which changes nothing
  pub asked : {T : Type 0} (n : ℕ) (result : Result T OpeningStop) (all : List (List Entry)) (old mid new : List S) → n < length mid → ReadSoFar n all old mid → GoesAt durable state n same result mid new → GoesAll durable state (alike same) result old new
  asked n result all old mid new low k g =
      all-as (λ u d. only n same u d) (alike same) result old new (λ u within d. plain (u == n) d)
      (all-on (alike same) (only n same) (tt {0}) result old mid new k.goes (all-one n same result mid new low (still-run (alike same) (tt {0}) old mid k.goes) g))
    where
      plain : (b : Bool) (d : Durable) → (if b then same else same) d ≡ d
      plain true d = refl
      plain false d = refl

  pub one-read : (n : ℕ) (es : List Entry) (all : List (List Entry)) (old mid new : List S) → n < length mid → ReadSoFar n all old mid → GoesAt durable state n same (Ok es) mid new → IsOwn durable mid n es → ReadSoFar (n + 1) (all ++ es ∷ []) old new
  one-read n es all old mid new low k g own = record {
    goes = all-so (alike same) es (tt {0}) old new (asked n (Ok es) all old mid new low k g);
    many = length_push all es ∙ ap (λ m. m + 1) k.many;
    each = at-end (λ t fs. IsOwn durable old t fs) all es k.each (subst (λ t. IsOwn durable old t es) (sym k.many) (own-before (alike same) (tt {0}) old mid n es k.goes (λ d. refl) own));
  }

  -- no memory for one more
  pub unread : {U : Type 0} (n : ℕ) (es : List Entry) (why : OpeningStop) (all : List (List Entry)) (old mid new : List S) → n < length mid → ReadSoFar n all old mid → GoesAt durable state n same (Ok es) mid new → why ≡ wanting
      → GoesAll {T = U} durable state (alike same) (Err why) old new
  unread n es why all old mid new low k g is = all-wanting (alike same) (alike same) es why old new is (asked n (Ok es) all old mid new low k g)

  pub read-err : {T U : Type 0} (n : ℕ) (why : OpeningStop) (all : List (List Entry)) (old mid new : List S) → n < length mid → ReadSoFar n all old mid → GoesAt {T = T} durable state n same (Err why) mid new → GoesAll {T = U} durable state (alike same) (Err why) old new
  read-err {T} {U} n why all old mid new low k g = all-err {T = T} {U = U} (alike same) (alike same) why old new (asked n (Err why) all old mid new low k g)

  pub all-read : (n : ℕ) (all : List (List Entry)) (old now : List S) → n ≡ length old → ReadSoFar n all old now → AreEntries durable old all
  all-read n all old now done k = record { many = k.many ∙ done; each = k.each }

  -- ---- what holds at each store of a walk

  -- the entries of the next store are those that were read
  pub own-next : {T : Type 0} (change : Durable → Durable) (n : ℕ) (x : T) (all : List (List Entry)) (old mid : List S) → GoesAll durable state (upto n change) (Ok x) old mid → AreEntries durable old all → (es : List Entry) → slice_get all n ≡ Some es → IsOwn durable mid n es
  own-next change n x all old mid k entries es at = own-after (upto n change) x old mid n es k (λ d. not-yet change n d) (entries.each n es at)

  -- those of the next store are committed as they were
  pub committed-next : {T : Type 0} (change : Durable → Durable) (n : ℕ) (x : T) (old mid : List S) → GoesAll durable state (upto n change) (Ok x) old mid → EachCommitted durable old → IsCommitted durable mid n
  committed-next change n x old mid k committed b d bt told =
      let at = there mid old n b b (sym k.many) bt in
      let w = told-was (upto n change) x old mid k n (slice_index_or old n b) b d at bt told in
      subst (λ y. AllCommitted y) (sym (w.2 ∙ not-yet change n w.0)) (committed n (slice_index_or old n b) w.0 at w.1)

  -- what was read stays so while nothing changes
  pub entries-stay : {T : Type 0} (x : T) (all : List (List Entry)) (old new : List S) → GoesAll durable state (alike same) (Ok x) old new → AreEntries durable old all → AreEntries durable new all
  entries-stay x all old new k entries = record {
    many = entries.many ∙ sym k.many;
    each = λ t es at. own-after (alike same) x old new t es k (λ d. refl) (entries.each t es at);
  }

  -- once attempts are ended, all entries are committed
  pub committed-ended : {T : Type 0} (r : AttemptId → Bool) (x : T) (old new : List S) → GoesAll durable state (alike (ended r)) (Ok x) old new → EachCommitted durable new
  committed-ended r x old new k t b d bt told =
      let at = there new old t b b (sym k.many) bt in
      let w = told-was (alike (ended r)) x old new k t (slice_index_or old t b) b d at bt told in
      subst (λ y. AllCommitted y) (sym w.2) (ended-committed r w.0)
