-- The map as of an epoch, by the writes of decided transactions.
use Rattle.std.specs.Prelude.{ℕ, ◌≡◌, ◌≢◌, ◌<◌, ◌⊎◌, ◌==◌, Bool, true, false, ◌&&◌, ◌||◌, nat_le, nat_lt, List, [], ◌∷◌, ◌++◌, map, filter, All, AllPairs, if◌then◌else◌, refl}
use Rattle.std.proofs.Common.{sym, ◌∙◌, ap, subst, arith, inl, inr}
use Rattle.std.proofs.lemmas.Bool.Decides.{nat_tests}
use Rattle.std.proofs.lemmas.List.Elements.{All-cons, All-head, All-nil, All-tail}
use Rattle.std.proofs.lemmas.List.Kept.{AllPairs-filter, AllPairs-from_increasing}
use Rattle.base_types.specs.declared.epoch.Epoch.{Epoch}
use Rattle.base_types.specs.declared.operation.MinorWrite.{MinorWrite}
use Rattle.daos_model.specs.declared.cell.Cell.{Cell}
use Rattle.daos_model.specs.declared.cell.CellValue.{CellValue}
use Rattle.daos_model.specs.declared.stand.Stand.{Stand}
use Rattle.daos_model.specs.Answers.{is_before}
use Rattle.daos_model.specs.AsOf.{as_of, below, in_order, put_in, run_all}
use Rattle.daos_model.specs.BoolLaws.{and_left, and_right, both}
use Rattle.daos_model.specs.Cells.{value_at}
use Rattle.daos_model.specs.Effect.{effect, effects}
use Rattle.daos_model.specs.Forms.{minor_of}
use Rattle.daos_model.specs.OrderLaws.{rising-put}
use Rattle.daos_model.specs.Ordered.{all_after, is_rising, put, puts}
use Rattle.model_laws.specs.Dated.{Dated, after_all, dated_key, is_earlier}
use Rattle.model_laws.specs.Decided.{AreDecided, Decided, IsNumbered, all_dated, dated_at, dated_by, taken_in, taken_of, write_of}
use Rattle.model_laws.specs.Members.{Has, has-cases, has-filter, has-from_filter, has-from_map, has-left, has-map, has-right}
use Rattle.model_laws.specs.RisingLaws.{after-all, after-has}
use Rattle.model_laws.specs.VersionLaws.{after-append, pairs-head, pairs-tail, rising-append}
use Rattle.model_laws.specs.WriteLaws.{value-effect}

pub all-from_has : {T : Type 0} (P : T → Type 0) (xs : List T) → ((x : T) → Has x xs → P x) → All P xs
all-from_has P [] h = All-nil P
all-from_has P (x ∷ xs) h = All-cons P x xs (h x (inl refl)) (all-from_has P xs (λ y i. h y (inr i)))

pub has-all : {T : Type 0} (P : T → Type 0) (xs : List T) (x : T) → All P xs → Has x xs → P x
has-all P [] x all i = absurd i
has-all P (y ∷ xs) x all (inl same) = subst P (sym same) (All-head P y xs all)
has-all P (y ∷ xs) x all (inr i) = has-all P xs x (All-tail P y xs all) i

-- ---- the order of epochs

abbrev epoch_key : Decided → List ℕ
epoch_key d = d.epoch.0 ∷ []

abbrev is_decided_below : ℕ → Decided → Bool
is_decided_below e d = nat_lt d.epoch.0 e

has-put : {T : Type 0} (key : T → List ℕ) (v : T) (us : List T) (x : T) → Has x (v ∷ us) → Has x (put key v us)
has-put key v [] x h = h
has-put {T = T} key v (u ∷ us) x h = by (has-put key v us x) (is_before (key u) (key v)) h
  where
    by : (Has x (v ∷ us) → Has x (put key v us)) → (b : Bool) → Has x (v ∷ u ∷ us) → Has x (if b then u ∷ put key v us else v ∷ u ∷ us)
    by rest false h = h
    by rest true (inl same) = inr (rest (inl same))
    by rest true (inr (inl same)) = inl same
    by rest true (inr (inr i)) = inr (rest (inr i))

has-from_put : {T : Type 0} (key : T → List ℕ) (v : T) (us : List T) (x : T) → Has x (put key v us) → Has x (v ∷ us)
has-from_put key v [] x h = h
has-from_put {T = T} key v (u ∷ us) x h = by (has-from_put key v us x) (is_before (key u) (key v)) h
  where
    deeper : Has x (v ∷ us) → Has x (v ∷ u ∷ us)
    deeper (inl same) = inl same
    deeper (inr i) = inr (inr i)

    by : (Has x (put key v us) → Has x (v ∷ us)) → (b : Bool) → Has x (if b then u ∷ put key v us else v ∷ u ∷ us) → Has x (v ∷ u ∷ us)
    by rest false h = h
    by rest true (inl same) = inr (inl same)
    by rest true (inr i) = deeper (rest i)

in_turn : List Decided → List Decided
in_turn ds = puts epoch_key ds []

has-turn : (ds : List Decided) (d : Decided) → Has d ds → Has d (in_turn ds)
unfolding in_turn
has-turn [] d h = h
has-turn (f ∷ ds) d (inl same) = has-put epoch_key f (puts epoch_key ds []) d (inl same)
has-turn (f ∷ ds) d (inr h) = has-put epoch_key f (puts epoch_key ds []) d (inr (has-turn ds d h))

has-from_turn : (ds : List Decided) (d : Decided) → Has d (in_turn ds) → Has d ds
unfolding in_turn
has-from_turn [] d h = h
has-from_turn (f ∷ ds) d h = by (has-from_turn ds d) (has-from_put epoch_key f (puts epoch_key ds []) d h)
  where
    by : (Has d (in_turn ds) → Has d ds) → Has d (f ∷ in_turn ds) → Has d (f ∷ ds)
    by rest (inl same) = inl same
    by rest (inr i) = inr (rest i)

rising-turn : (ds : List Decided) → AllPairs (λ d f. d.epoch.0 ≢ f.epoch.0) ds → is_rising epoch_key (in_turn ds) ≡ true
unfolding in_turn
rising-turn [] apart = refl
rising-turn (d ∷ ds) apart =
    rising-put epoch_key d (puts epoch_key ds [])
    (all-from_has (λ f. epoch_key f ≢ epoch_key d) (puts epoch_key ds []) (λ f i e. pairs-head epoch_key (λ a b. a.epoch.0 ≢ b.epoch.0) d ds f apart (has-from_turn ds f i) (sym (ap first e))))
    (rising-turn ds (pairs-tail epoch_key (λ a b. a.epoch.0 ≢ b.epoch.0) d ds apart))
  where
    first : List ℕ → ℕ
    first [] = 0
    first (n ∷ ns) = n

-- transactions that took effect stand in the same order
put_in-taken : (d : Decided) (ds : List Decided) → put_in (taken_of d) (map taken_of ds) ≡ map taken_of (put epoch_key d ds)
put_in-taken d [] = refl
put_in-taken d (f ∷ ds) = by (put_in-taken d ds) (nat_le d.epoch.0 f.epoch.0) (is_before (epoch_key f) (epoch_key d)) refl refl
  where
    by : put_in (taken_of d) (map taken_of ds) ≡ map taken_of (put epoch_key d ds) → (a b : Bool) → nat_le d.epoch.0 f.epoch.0 ≡ a → is_before (epoch_key f) (epoch_key d) ≡ b
        → (if a then taken_of d ∷ map taken_of (f ∷ ds) else taken_of f ∷ put_in (taken_of d) (map taken_of ds)) ≡ map taken_of (if b then f ∷ put epoch_key d ds else d ∷ f ∷ ds)
    by rest true false e g = refl
    by rest false true e g = ap (λ ts. taken_of f ∷ ts) rest
    by rest true true e g = absurd (let n : ⊥ = grind (arith, nat_tests) in n)
    by rest false false e g = absurd (let n : ⊥ = grind (arith, nat_tests) in n)

in_order-taken : (ds : List Decided) → in_order (map taken_of ds) ≡ map taken_of (in_turn ds)
unfolding in_turn
in_order-taken [] = refl
in_order-taken (d ∷ ds) = ap (put_in (taken_of d)) (in_order-taken ds) ∙ put_in-taken d (puts epoch_key ds [])

below-taken : (e : ℕ) (ds : List Decided) → below e (map taken_of ds) ≡ map taken_of (filter (is_decided_below e) ds)
below-taken e [] = refl
below-taken e (d ∷ ds) =
    elim (nat_lt d.epoch.0 e) as (λ b. (if b then taken_of d ∷ below e (map taken_of ds) else below e (map taken_of ds)) ≡ map taken_of (if b then d ∷ filter (is_decided_below e) ds else filter (is_decided_below e) ds)) [
      | true ↦ ap (λ ts. taken_of d ∷ ts) (below-taken e ds)
      | false ↦ below-taken e ds
    ]

-- ---- their writes

-- a write is one of a transaction
pub record IsWriteOf (ds : List Decided) (x : Dated) : Type 0 where
  pub by : Decided
  pub among : Has by ds
  pub has : Has x (dated_by by)

pub has-dated : (ds : List Decided) (x : Dated) → IsWriteOf ds x → Has x (all_dated ds)
has-dated [] x h = absurd h.among
has-dated (d ∷ ds) x h = at (has-dated ds x) h.among
  where
    at : (IsWriteOf ds x → Has x (all_dated ds)) → Has h.by (d ∷ ds) → Has x (dated_by d ++ all_dated ds)
    at rest (inl same) = has-left (dated_by d) (all_dated ds) x (subst (λ f. Has x (dated_by f)) same h.has)
    at rest (inr i) = has-right (dated_by d) (all_dated ds) x (rest (record { by = h.by; among = i; has = h.has }))

pub has-from_dated : (ds : List Decided) (x : Dated) → Has x (all_dated ds) → IsWriteOf ds x
has-from_dated [] x h = absurd h
has-from_dated (d ∷ ds) x h = at (has-from_dated ds x) (has-cases (dated_by d) (all_dated ds) x h)
  where
    at : (Has x (all_dated ds) → IsWriteOf ds x) → Has x (dated_by d) ⊎ Has x (all_dated ds) → IsWriteOf (d ∷ ds) x
    at rest (inl i) = record { by = d; among = inl refl; has = i }
    at rest (inr i) = let r = rest i in record { by = r.by; among = inr r.among; has = r.has }

pub epoch-dated : (d : Decided) (x : Dated) → Has x (dated_by d) → x.epoch ≡ d.epoch.0
epoch-dated d x h = let w = has-from_map (dated_at d.epoch) d.writes x h in ap (λ y. y.epoch) (sym w.2)

pub before-epochs : (x y : Dated) → x.epoch < y.epoch → is_before (dated_key x) (dated_key y) ≡ true
before-epochs x y lt = let e : nat_lt x.epoch y.epoch ≡ true = grind (arith, nat_tests) in or_first (nat_lt x.epoch y.epoch) _ e
  where
    or_first : (a b : Bool) → a ≡ true → (a || b) ≡ true
    or_first true b e = refl
    or_first false b e = absurd (let n : ⊥ = cc in n)

before-minors : (e : Epoch) (v w : MinorWrite) → v.minor < w.minor → is_before (dated_key (dated_at e v)) (dated_key (dated_at e w)) ≡ true
before-minors e v w lt =
    let n : nat_lt v.minor w.minor ≡ true = grind (arith, nat_tests) in
    let s : (e.0 == e.0) ≡ true = grind (arith, nat_tests) in
    or_second (nat_lt e.0 e.0) _ (both (e.0 == e.0) _ s (or_first (nat_lt v.minor w.minor) _ n))
  where
    or_first : (a b : Bool) → a ≡ true → (a || b) ≡ true
    or_first true b e = refl
    or_first false b e = absurd (let n : ⊥ = cc in n)

    or_second : (a b : Bool) → b ≡ true → (a || b) ≡ true
    or_second true b e = refl
    or_second false b e = e

rising-writes : (e : Epoch) (ws : List MinorWrite) → AllPairs (λ m n. m < n) (map minor_of ws) → is_rising dated_key (map (dated_at e) ws) ≡ true
rising-writes e [] rises = refl
rising-writes e (w ∷ ws) rises =
    both (all_after dated_key (dated_key (dated_at e w)) (map (dated_at e) ws)) (is_rising dated_key (map (dated_at e) ws))
    (after-all dated_key (dated_key (dated_at e w)) (map (dated_at e) ws) (λ x i.
    let u = has-from_map (dated_at e) ws x i in
    subst (λ y. is_before (dated_key (dated_at e w)) (dated_key y) ≡ true) u.2
    (before-minors e w u.0 (pairs-head alone (λ m n. m < n) w.minor (map minor_of ws) u.0.minor rises (has-map minor_of ws u.0 u.1)))))
    (rising-writes e ws (pairs-tail alone (λ m n. m < n) w.minor (map minor_of ws) rises))
  where
    alone : ℕ → List ℕ
    alone n = n ∷ []

rising-all : (ds : List Decided) → is_rising epoch_key ds ≡ true → ((d : Decided) → Has d ds → IsNumbered d) → is_rising dated_key (all_dated ds) ≡ true
rising-all [] r numbered = refl
rising-all (d ∷ ds) r numbered =
    rising-append dated_key (dated_by d) (all_dated ds) (rising-writes d.epoch d.writes (AllPairs-from_increasing (map minor_of d.writes) (numbered d (inl refl))))
    (rising-all ds (and_right (all_after epoch_key (epoch_key d) ds) (is_rising epoch_key ds) r) (λ f i. numbered f (inr i)))
    (λ x y i j.
    let w = has-from_dated ds y j in
    let lt : is_before (epoch_key d) (epoch_key w.by) ≡ true = after-has epoch_key (epoch_key d) ds w.by (and_left (all_after epoch_key (epoch_key d) ds) (is_rising epoch_key ds) r) w.among in
    before-epochs x y (let a = epoch-dated d x i in let b = epoch-dated w.by y w.has in let c = epochs_before d.epoch.0 w.by.epoch.0 lt in omega (arith, a, b, c)))
  where
    epochs_before : (m n : ℕ) → (nat_lt m n || (m == n && false)) ≡ true → m < n
    epochs_before m n h = grind (arith, nat_tests)

-- the writes below an epoch, in their order
pub ordered : ℕ → List Decided → List Dated
ordered e ds = all_dated (in_turn (filter (is_decided_below e) ds))

pairs-filter : {T : Type 0} (R : T → T → Type 0) (t : T → Bool) (xs : List T) → AllPairs R xs → AllPairs R (filter t xs)
pairs-filter R t xs all = AllPairs-filter R t xs all

pub rising-ordered : (e : ℕ) (ds : List Decided) → AreDecided ds → is_rising dated_key (ordered e ds) ≡ true
unfolding ordered
rising-ordered e ds f =
    rising-all (in_turn (filter (is_decided_below e) ds)) (rising-turn (filter (is_decided_below e) ds) (pairs-filter (λ a b. a.epoch.0 ≢ b.epoch.0) (is_decided_below e) ds f.apart))
    (λ d i. has-all IsNumbered ds d f.numbered (has-from_filter (is_decided_below e) ds d (has-from_turn (filter (is_decided_below e) ds) d i)).0)

pub has-ordered : (e : ℕ) (ds : List Decided) (x : Dated) → Has x (all_dated ds) → is_earlier e x ≡ true → Has x (ordered e ds)
unfolding ordered
has-ordered e ds x h lt =
    let w = has-from_dated ds x h in
    has-dated (in_turn (filter (is_decided_below e) ds)) x (record {
      by = w.by;
      among = has-turn (filter (is_decided_below e) ds) w.by (has-filter (is_decided_below e) ds w.by w.among (ap (λ n. nat_lt n e) (sym (epoch-dated w.by x w.has)) ∙ lt));
      has = w.has;
    })

pub has-from_ordered : (e : ℕ) (ds : List Decided) (x : Dated) → Has x (ordered e ds) → Has x (all_dated ds) × (is_earlier e x ≡ true)
unfolding ordered
has-from_ordered e ds x h =
    let w = has-from_dated (in_turn (filter (is_decided_below e) ds)) x h in
    let d = has-from_filter (is_decided_below e) ds w.by (has-from_turn (filter (is_decided_below e) ds) w.by w.among) in
    (has-dated ds x (record { by = w.by; among = d.0; has = w.has }), ap (λ n. nat_lt n e) (epoch-dated w.by x w.has) ∙ d.1)

-- ---- the map as of an epoch

effects-dated : (c : Cell) (e : Epoch) (ws : List MinorWrite) (m : List CellValue) → value_at (effects (map write_of ws) m) c ≡ after_all c (map (dated_at e) ws) (value_at m c)
effects-dated c e [] m = refl
effects-dated c e (w ∷ ws) m = effects-dated c e ws (effect w.write m) ∙ ap (after_all c (map (dated_at e) ws)) (value-effect c w.write m)

run-dated : (c : Cell) (ds : List Decided) (m : List CellValue) → value_at (run_all (map taken_of ds) m) c ≡ after_all c (all_dated ds) (value_at m c)
run-dated c [] m = refl
run-dated c (d ∷ ds) m =
    run-dated c ds (effects (map write_of d.writes) m)
    ∙ ap (after_all c (all_dated ds)) (effects-dated c d.epoch d.writes m)
    ∙ sym (after-append c (dated_by d) (all_dated ds) (value_at m c))

-- what the map as of an epoch holds at a cell is what the writes below the epoch leave there, in their order
pub as_of-dated : (c : Cell) (opening : Stand) (ds : List Decided) (e : ℕ) → value_at (as_of opening (taken_in ds) e) c ≡ after_all c (ordered e ds) (value_at opening.now c)
unfolding as_of ordered
as_of-dated c opening ds e =
    ap (λ ts. value_at (run_all (in_order ts) opening.now) c) (below-taken e ds)
    ∙ ap (λ ts. value_at (run_all ts opening.now) c) (in_order-taken (filter (is_decided_below e) ds))
    ∙ run-dated c (in_turn (filter (is_decided_below e) ds)) opening.now
