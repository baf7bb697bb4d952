-- A walk along a chain takes the marks of the punches that lead to a path.
use Rattle.std.proofs.Common.{◌≡◌, ◌≢◌, ℕ, suc, ◌+◌, ◌%◌, ◌<◌, ◌≤◌, Bool, true, false, ◌&&◌, ◌||◌, not, List, [], ◌∷◌, length, get_or, set, map, refl, sym, ◌∙◌, ap, arith, get_or-set_other, length-set}
use Rattle.std.specs.Prelude.{◌==◌, nat_le, nat_lt}
use Rattle.std.specs.List.{list_all}
use Rattle.std.proofs.lemmas.Bool.Decides.{nat_tests}
use Rattle.std.proofs.lemmas.Grind.{get_or-set_at}
use Rattle.std.proofs.lemmas.List.{get_or-map, get_or_default}
use Rattle.base_types.specs.declared.epoch.Epoch.{Epoch}
use Rattle.base_types.specs.declared.id.ContId.{ContId}
use Rattle.base_types.specs.declared.operation.Write.{Write}
use Rattle.base_types.specs.declared.operation.Write.TheVariants.{Single, Extent, PunchObject, PunchDkey, PunchAkey}
use Rattle.base_types.specs.declared.path.Level.{Level}
use Rattle.base_types.specs.declared.path.Level.TheVariants.{Cont, Obj, Dkey, Akey}
use Rattle.base_types.specs.declared.path.Path.{Path}
use Rattle.daos_model.specs.declared.durable.Version.{Version}
use Rattle.daos_model.specs.BoolLaws.{and_right, clash, false_of, not_true}
use Rattle.daos_model.specs.Durables.{version_key}
use Rattle.daos_model.specs.Ordered.{is_rising}
use Rattle.daos_model.specs.Prunes.{is_old}
use Rattle.daos_model.specs.Versions.{version_path}
use Rattle.vos_aggregate.specs.Buckets.{bucket_by, bucket_of}
use Rattle.vos_aggregate.specs.Chains.{LeadsTo}
use Rattle.vos_aggregate.specs.Saying.{is_plain, is_plain_version}
use Rattle.vos_aggregate.specs.Sparing.{ArePlanned, is_over, level_hash, spared}
use Rattle.vos_aggregate.proofs.Covering.{akey-under, dkey-under, object-under}
use Rattle.vos_aggregate.proofs.Hiding.{epochs-at, plain-at}

-- a punch of a level that leads to a path is in the bucket of that path at the level
pub over-bucket : (m : ℕ) (l : Level) (q : Path) (w : Write) → is_plain w ≡ true → is_over l q w ≡ true → bucket_of m w ≡ level_hash l q % m
unfolding is_plain bucket_of
over-bucket m Cont q w plain h = absurd (let n : ⊥ = cc in n)
over-bucket m Obj q (Single p bytes) plain h = absurd (let n : ⊥ = cc in n)
over-bucket m Obj q (Extent p low bytes) plain h = absurd (let n : ⊥ = cc in n)
over-bucket m Obj q (PunchObject p) plain h = ap (λ n. n % m) (object-under p q plain h)
over-bucket m Obj q (PunchDkey p) plain h = absurd (let n : ⊥ = cc in n)
over-bucket m Obj q (PunchAkey p) plain h = absurd (let n : ⊥ = cc in n)
over-bucket m Dkey q (Single p bytes) plain h = absurd (let n : ⊥ = cc in n)
over-bucket m Dkey q (Extent p low bytes) plain h = absurd (let n : ⊥ = cc in n)
over-bucket m Dkey q (PunchObject p) plain h = absurd (let n : ⊥ = cc in n)
over-bucket m Dkey q (PunchDkey p) plain h = ap (λ n. n % m) (dkey-under p q plain h)
over-bucket m Dkey q (PunchAkey p) plain h = absurd (let n : ⊥ = cc in n)
over-bucket m Akey q (Single p bytes) plain h = absurd (let n : ⊥ = cc in n)
over-bucket m Akey q (Extent p low bytes) plain h = absurd (let n : ⊥ = cc in n)
over-bucket m Akey q (PunchObject p) plain h = absurd (let n : ⊥ = cc in n)
over-bucket m Akey q (PunchDkey p) plain h = absurd (let n : ⊥ = cc in n)
over-bucket m Akey q (PunchAkey p) plain h = ap (λ n. n % m) (akey-under p q plain h)

-- marks that are at each place what is spared there are the spared ones
pub spared-is : (l : Level) (q : Path) (ns ms : List Bool) (vs : List Version) → length ns ≡ length ms → length ms ≡ length vs
    → ((k : ℕ) (d : Version) → k < length vs → get_or ns k false ≡ (get_or ms k false && not (is_over l q (get_or vs k d).write)))
    → ns ≡ spared l q ms vs
spared-is l q [] [] vs e f each = refl
spared-is l q [] (m ∷ ms) vs e f each = absurd (omega arith)
spared-is l q (n ∷ ns) [] vs e f each = absurd (omega arith)
spared-is l q (n ∷ ns) (m ∷ ms) [] e f each = absurd (omega arith)
spared-is l q (n ∷ ns) (m ∷ ms) (v ∷ vs) e f each =
    let here : n ≡ (m && not (is_over l q v.write)) = each 0 v (omega arith) in
    let rest : ns ≡ spared l q ms vs = spared-is l q ns ms vs (omega arith) (omega arith) (λ k d lt. each (suc k) d (omega arith)) in
    ap (λ x. x ∷ ns) here ∙ ap (λ xs. (m && not (is_over l q v.write)) ∷ xs) rest

-- the marks of the places before one are spared, and the others as they were
pub record SparedUpto (l : Level) (q : Path) (os ms : List Bool) (vs : List Version) (at : ℕ) : Type 0 where
  pub each : length ms ≡ length os
  pub below : (k : ℕ) (d : Version) → k < at → k < length vs → get_or ms k false ≡ (get_or os k false && not (is_over l q (get_or vs k d).write))
  pub above : (k : ℕ) → at ≤ k → get_or ms k false ≡ get_or os k false

and-not_false : (x y : Bool) → y ≡ false → x ≡ (x && not y)
and-not_false true true e = absurd (let n : ⊥ = cc in n)
and-not_false true false e = refl
and-not_false false y e = refl

from-false : (x y : Bool) → x ≡ false → x ≡ (x && not y)
from-false true y e = absurd (let n : ⊥ = cc in n)
from-false false y e = refl

module _ (m : ℕ) (l : Level) (q : Path) (b : ℕ) (is : b ≡ level_hash l q % m) (os : List Bool) (vs : List Version) (plain : list_all is_plain_version vs ≡ true) where
  not-over : (k : ℕ) (d : Version) → k < length vs → get_or (map (bucket_by m) vs) k 0 ≢ b → is_over l q (get_or vs k d).write ≡ false
  not-over k d lt ne =
      false_of (is_over l q (get_or vs k d).write) (λ h.
      ne (get_or-map (bucket_by m) vs k d 0 lt ∙ over-bucket m l q (get_or vs k d).write (plain-at vs k d lt plain) h ∙ sym is))

  -- no mark is taken in other buckets
  pub spared-on : (ms : List Bool) (i j : ℕ) → LeadsTo (map (bucket_by m) vs) b i j → SparedUpto l q os ms vs i → SparedUpto l q os ms vs j
  spared-on ms i j leads so = record {
    each = so.each;
    below = λ k d lt in'. by k d lt in' (nat_lt k i) refl;
    above = λ k ge. so.above k (omega (arith, leads.above));
  }
    where
      by : (k : ℕ) (d : Version) → k < j → k < length vs → (t : Bool) → nat_lt k i ≡ t → get_or ms k false ≡ (get_or os k false && not (is_over l q (get_or vs k d).write))
      by k d lt in' true e = so.below k d (grind (arith, nat_tests)) in'
      by k d lt in' false e =
          let ge : i ≤ k = grind (arith, nat_tests) in
          so.above k ge ∙ and-not_false (get_or os k false) (is_over l q (get_or vs k d).write) (not-over k d in' (leads.none k ge lt))

  -- the walk begins with marks of which none before a place is set
  pub spared-begin : (start at : ℕ) → ((k : ℕ) → k < start → get_or os k false ≡ false) → LeadsTo (map (bucket_by m) vs) b start at → SparedUpto l q os os vs at
  spared-begin start at before leads = spared-on os start at leads (record {
    each = refl;
    below = λ k d lt in'. from-false (get_or os k false) (is_over l q (get_or vs k d).write) (before k lt);
    above = λ k ge. refl;
  })

  -- one more
  pub spared-next : (ms : List Bool) (at : ℕ) (d : Version) → at < length vs → length os ≡ length vs → SparedUpto l q os ms vs at → SparedUpto l q os (set ms at (get_or ms at false && not (is_over l q (get_or vs at d).write))) vs (at + 1)
  spared-next ms at d lt all so = record {
    each = omega (arith, length-set ms at (get_or ms at false && not (is_over l q (get_or vs at d).write)), so.each);
    below = λ k e le in'. by k e le in' (nat_lt k at) refl;
    above = λ k ge. let ne : k ≢ at = omega arith in get_or-set_other ms at k new false ne ∙ so.above k (omega arith);
  }
    where
      new : Bool
      new = get_or ms at false && not (is_over l q (get_or vs at d).write)

      by : (k : ℕ) (e : Version) → k < at + 1 → k < length vs → (t : Bool) → nat_lt k at ≡ t → get_or (set ms at new) k false ≡ (get_or os k false && not (is_over l q (get_or vs k e).write))
      by k e le in' true t =
          let lt' : k < at = grind (arith, nat_tests) in
          let ne : k ≢ at = omega arith in
          get_or-set_other ms at k new false ne ∙ so.below k e lt' in'
      by k e le in' false t =
          let ge : at ≤ k = grind (arith, nat_tests) in
          let same : k ≡ at = omega arith in
          let there : at < length ms = omega (arith, so.each) in
          get_or-set_at ms at k new false same there
          ∙ ap (λ x. x && not (is_over l q (get_or vs at d).write)) (so.above at (omega arith))
          ∙ ap (λ (v : Version). get_or os at false && not (is_over l q v.write)) (get_or_default vs at d e lt)
          ∙ ap (λ n. get_or os n false && not (is_over l q (get_or vs n e).write)) (sym same)

  -- the end
  pub spared-end : (ms : List Bool) (at : ℕ) → length vs ≤ at → length os ≡ length vs → SparedUpto l q os ms vs at → ms ≡ spared l q os vs
  spared-end ms at ge all so = spared-is l q ms os vs so.each all (λ k d lt. so.below k d (omega arith) lt)

  -- or a place behind which none is marked that would be spared
  pub spared-stop : (ms : List Bool) (at : ℕ) → length os ≡ length vs → SparedUpto l q os ms vs at
      → ((k : ℕ) (d : Version) → at ≤ k → k < length vs → is_over l q (get_or vs k d).write ≡ true → get_or os k false ≡ false)
      → ms ≡ spared l q os vs
  spared-stop ms at all so none = spared-is l q ms os vs so.each all (λ k d lt. by k d lt (nat_lt k at) refl)
    where
      free : (k : ℕ) (d : Version) → at ≤ k → k < length vs → (t : Bool) → is_over l q (get_or vs k d).write ≡ t → get_or os k false ≡ (get_or os k false && not (is_over l q (get_or vs k d).write))
      free k d ge lt true e = from-false (get_or os k false) (is_over l q (get_or vs k d).write) (none k d ge lt e)
      free k d ge lt false e = and-not_false (get_or os k false) (is_over l q (get_or vs k d).write) e

      by : (k : ℕ) (d : Version) → k < length vs → (t : Bool) → nat_lt k at ≡ t → get_or ms k false ≡ (get_or os k false && not (is_over l q (get_or vs k d).write))
      by k d lt true e = so.below k d (grind (arith, nat_tests)) lt
      by k d lt false e =
          let ge : at ≤ k = grind (arith, nat_tests) in
          so.above k ge ∙ free k d ge lt (is_over l q (get_or vs k d).write) refl

and3 : (x y z : Bool) → (x && y && z) ≡ true → (x ≡ true) × (y ≡ true) × (z ≡ true)
and3 true true true h = (refl, refl, refl)
and3 true true false h = absurd (let n : ⊥ = cc in n)
and3 true false z h = absurd (let n : ⊥ = cc in n)
and3 false y z h = absurd (let n : ⊥ = cc in n)

module _ (c : ContId) (upto : Epoch) (start : ℕ) (os : List Bool) (vs : List Version) (planned : ArePlanned c upto start os vs) (rising : is_rising version_key vs ≡ true) where
  not-old : (v : Version) → upto.0 < v.epoch.0 → is_old c upto v ≡ false
  unfolding is_old
  not-old v lt = false_of (is_old c upto v) (λ h. let e : nat_le v.epoch.0 upto.0 ≡ true = and_right (v.done && ((version_path v).cont.0 == c.0)) (nat_le v.epoch.0 upto.0) h in let n : ⊥ = grind (arith, nat_tests) in n)

  unmarked-above : (k : ℕ) (d : Version) → k < length vs → upto.0 < (get_or vs k d).epoch.0 → get_or os k false ≡ false
  unmarked-above k d lt above = false_of (get_or os k false) (λ h. clash (is_old c upto (get_or vs k d)) (planned.old k d lt h) (not-old (get_or vs k d) above))

  -- none of the punches is marked from a place on at which the walk stops
  pub none-marked : (l : Level) (q : Path) (at : ℕ) (d : Version) (marked : Bool) → start ≤ at → at < length vs → marked ≡ get_or os at false
      → (nat_lt upto.0 (get_or vs at d).epoch.0 || (not marked && is_over l q (get_or vs at d).write && is_old c upto (get_or vs at d))) ≡ true
      → (k : ℕ) (e : Version) → at ≤ k → k < length vs → is_over l q (get_or vs k e).write ≡ true → get_or os k false ≡ false
  none-marked l q at d marked from lt m stop k e ge in' over = by (nat_lt upto.0 (get_or vs at d).epoch.0) refl stop (nat_lt at k) refl
    where
      at-itself : nat_lt at k ≡ false → get_or vs k e ≡ get_or vs at d
      at-itself t = let same : k ≡ at = grind (arith, nat_tests) in ap (λ n. get_or vs n e) same ∙ get_or_default vs at e d lt

      by : (x : Bool) → nat_lt upto.0 (get_or vs at d).epoch.0 ≡ x → (x || (not marked && is_over l q (get_or vs at d).write && is_old c upto (get_or vs at d))) ≡ true → (t : Bool) → nat_lt at k ≡ t → get_or os k false ≡ false
      by true x h true t =
          let lt' : at < k = grind (arith, nat_tests) in
          let above : upto.0 < (get_or vs at d).epoch.0 = grind (arith, nat_tests) in
          let later : (get_or vs at d).epoch.0 ≤ (get_or vs k e).epoch.0 = epochs-at vs at k d e lt' in' rising in
          unmarked-above k e in' (omega arith)
      by true x h false t =
          let above : upto.0 < (get_or vs at d).epoch.0 = grind (arith, nat_tests) in
          let same : (get_or vs k e).epoch.0 ≡ (get_or vs at d).epoch.0 = ap (λ (v : Version). v.epoch.0) (at-itself t) in
          unmarked-above k e in' (omega arith)
      by false x h true t =
          let lt' : at < k = grind (arith, nat_tests) in
          let parts = and3 (not marked) (is_over l q (get_or vs at d).write) (is_old c upto (get_or vs at d)) h in
          let free : get_or os at false ≡ false = sym m ∙ not_true marked parts.0 in
          let same : get_or vs k e ≡ get_or vs k d = get_or_default vs k e d in' in
          planned.behind l q at k d from lt' in' parts.1 (ap (λ (v : Version). is_over l q v.write) (sym same) ∙ over) parts.2 free
      by false x h false t =
          let same : k ≡ at = grind (arith, nat_tests) in
          let parts = and3 (not marked) (is_over l q (get_or vs at d).write) (is_old c upto (get_or vs at d)) h in
          ap (λ n. get_or os n false) same ∙ sym m ∙ not_true marked parts.0
