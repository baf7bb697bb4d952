-- Each change leaves what a target keeps in order and in form.
use Rattle.std.proofs.Common.{◌≡◌, ℕ, ◌+◌, ◌<◌, ◌≤◌, ◌^◌, Bool, true, false, ◌&&◌, ◌||◌, List, [], ◌∷◌, Option, Some, None, length, map, refl, sym, ◌∙◌, ap, subst, arith}
use Rattle.std.specs.Prelude.{◌==◌, ◌≢◌, nat_lt, filter, find, is_none, is_some, All, IfSome, if◌then◌else◌}
use Rattle.std.specs.List.{list_all, list_any}
use Rattle.std.proofs.lemmas.Bool.Decides.{nat_tests}
use Rattle.std.proofs.lemmas.List.Elements.{All-cons, All-head, All-tail}
use Rattle.base_types.specs.declared.entry.Entry.{Entry}
use Rattle.base_types.specs.declared.entry.Settle.{Settle}
use Rattle.base_types.specs.declared.entry.Settle.TheVariants.{Commit, Abort, Confirm, Forget}
use Rattle.base_types.specs.declared.epoch.Epoch.{Epoch}
use Rattle.base_types.specs.declared.id.AttemptId.{AttemptId}
use Rattle.base_types.specs.declared.id.ContId.{ContId}
use Rattle.base_types.specs.declared.operation.MinorWrite.{MinorWrite}
use Rattle.base_types.specs.declared.operation.Write.{Write}
use Rattle.base_types.specs.declared.operation.Write.TheVariants as write
use Rattle.base_types.specs.declared.outcome.FloorWhy.{FloorWhy}
use Rattle.base_types.specs.declared.outcome.FloorWhy.TheVariants.{Snapshot, Aggregate}
use Rattle.base_types.specs.declared.path.Path.{Path}
use Rattle.base_types.specs.declared.snapshot.Snap.{Snap}
use Rattle.base_types.specs.Operations.{write_path}
use Rattle.daos_model.specs.declared.durable.ContRow.{ContRow}
use Rattle.daos_model.specs.declared.durable.Durable.{Durable}
use Rattle.daos_model.specs.declared.durable.Version.{Version}
use Rattle.daos_model.specs.Answers.{is_before}
use Rattle.daos_model.specs.BoolLaws.{and_left, and_right, both, clash, or_from_right}
use Rattle.daos_model.specs.Changes.{committed_at, confirmed_at, created, created_at, discarded, enlisted, frozen, is_other, is_other_snap, is_out_of_range, leased, marked, marked_at, new_snap, prepared, pruned, raised, raised_at, reopened, settled, thawed, with_cont, with_conts, with_versions}
use Rattle.daos_model.specs.Durables.{IsInForm, attempt_key, cont_key, entry_key, entry_of, is_entry_of, is_floor_in_form, is_frozen, is_row_of, is_snap_at, is_stored_why, is_version_in_form, new_row, row_of, row_or_new, same_attempt, snap_key, version_key}
use Rattle.daos_model.specs.ExtentForms.{written-at_akey}
use Rattle.daos_model.specs.Forms.{AreWritesInForm, ends_at_akey, ends_at_dkey, ends_at_object, is_length, is_path_in_form, is_write_in_form}
use Rattle.daos_model.specs.OrderLaws.{in_order-filter, in_order-map, in_order-puts, rising-filter, rising-map, rising-put}
use Rattle.daos_model.specs.Ordered.{is_rising, put, puts}
use Rattle.daos_model.specs.Prunes.{is_staying}
use Rattle.daos_model.specs.Versions.{done_by, is_not_pending, version_of, versions_of}

-- ---- tests of every element

module _ {T : Type 0} (t : T → Bool) where
  pub all-put : (key : T → List ℕ) (v : T) (us : List T) → t v ≡ true → list_all t us ≡ true → list_all t (put key v us) ≡ true
  all-put key v [] e h = both (t v) true e refl
  all-put key v (u ∷ us) e h =
      elim (is_before (key u) (key v)) as (λ b. list_all t (if b then u ∷ put key v us else v ∷ u ∷ us) ≡ true) [
        | true ↦ both (t u) (list_all t (put key v us)) (and_left (t u) (list_all t us) h) (all-put key v us e (and_right (t u) (list_all t us) h))
        | false ↦ both (t v) (list_all t (u ∷ us)) e h
      ]

  all-filter : (s : T → Bool) (us : List T) → list_all t us ≡ true → list_all t (filter s us) ≡ true
  all-filter s [] h = refl
  all-filter s (u ∷ us) h =
      let rest : list_all t (filter s us) ≡ true = all-filter s us (and_right (t u) (list_all t us) h) in
      elim (s u) as (λ b. list_all t (if b then u ∷ filter s us else filter s us) ≡ true) [
        | true ↦ both (t u) (list_all t (filter s us)) (and_left (t u) (list_all t us) h) rest
        | false ↦ rest
      ]

  all-map : (f : T → T) → ((v : T) → t (f v) ≡ t v) → (us : List T) → list_all t (map f us) ≡ list_all t us
  all-map f same [] = refl
  all-map f same (u ∷ us) = ap (λ b. b && list_all t (map f us)) (same u) ∙ ap (λ b. t u && b) (all-map f same us)

  pub all-kept : (f : T → T) → ((v : T) → t v ≡ true → t (f v) ≡ true) → (us : List T) → list_all t us ≡ true → list_all t (map f us) ≡ true
  all-kept f keeps [] h = refl
  all-kept f keeps (u ∷ us) h =
      both (t (f u)) (list_all t (map f us)) (keeps u (and_left (t u) (list_all t us) h)) (all-kept f keeps us (and_right (t u) (list_all t us) h))

pub length-put : {T : Type 0} (key : T → List ℕ) (v : T) (us : List T) → length (put key v us) ≡ length us + 1
length-put key v [] = omega arith
length-put key v (u ∷ us) =
    elim (is_before (key u) (key v)) as (λ b. length (if b then u ∷ put key v us else v ∷ u ∷ us) ≡ length (u ∷ us) + 1) [
      | true ↦ omega (arith, length-put key v us)
      | false ↦ omega arith
    ]

pub length-map : {T U : Type 0} (f : T → U) (us : List T) → length (map f us) ≡ length us
length-map f [] = refl
length-map f (u ∷ us) = omega (arith, length-map f us)

pub length-filter : {T : Type 0} (t : T → Bool) (us : List T) → length (filter t us) ≤ length us
length-filter t [] = omega arith
length-filter t (u ∷ us) =
    elim (t u) as (λ b. length (if b then u ∷ filter t us else filter t us) ≤ length (u ∷ us)) [
      | true ↦ omega (arith, length-filter t us)
      | false ↦ omega (arith, length-filter t us)
    ]

-- ---- paths

akey-in_form : (p : Path) → ends_at_akey p ≡ true → is_path_in_form p ≡ true
akey-in_form p h = by p.obj p.dkey p.akey h
  where
    by : {A B C : Type 0} (o : Option A) (d : Option B) (a : Option C) → (is_some o && is_some d && is_some a) ≡ true → ((is_none d || is_some o) && (is_none a || is_some d)) ≡ true
    by None d a e = absurd (let n : ⊥ = cc in n)
    by (Some o) None a e = absurd (let n : ⊥ = cc in n)
    by (Some o) (Some d) None e = refl
    by (Some o) (Some d) (Some a) e = refl

dkey-in_form : (p : Path) → ends_at_dkey p ≡ true → is_path_in_form p ≡ true
dkey-in_form p h = by p.obj p.dkey p.akey h
  where
    by : {A B C : Type 0} (o : Option A) (d : Option B) (a : Option C) → (is_some o && is_some d && is_none a) ≡ true → ((is_none d || is_some o) && (is_none a || is_some d)) ≡ true
    by None d a e = absurd (let n : ⊥ = cc in n)
    by (Some o) None a e = absurd (let n : ⊥ = cc in n)
    by (Some o) (Some d) None e = refl
    by (Some o) (Some d) (Some a) e = refl

object-in_form : (p : Path) → ends_at_object p ≡ true → is_path_in_form p ≡ true
object-in_form p h = by p.obj p.dkey p.akey h
  where
    by : {A B C : Type 0} (o : Option A) (d : Option B) (a : Option C) → (is_some o && is_none d && is_none a) ≡ true → ((is_none d || is_some o) && (is_none a || is_some d)) ≡ true
    by None d a e = absurd (let n : ⊥ = cc in n)
    by (Some o) (Some d) a e = absurd (let n : ⊥ = cc in n)
    by (Some o) None (Some a) e = absurd (let n : ⊥ = cc in n)
    by (Some o) None None e = refl

-- ---- each part

same_attempt-key : (a b : AttemptId) → attempt_key a ≡ attempt_key b → same_attempt a b ≡ true
unfolding same_attempt
same_attempt-key a b e =
    let client : a.client ≡ b.client = cc in
    let command : a.command ≡ b.command = cc in
    let attempt : a.attempt ≡ b.attempt = cc in
    both ((a.client == b.client) && (a.command == b.command)) (a.attempt == b.attempt)
    (both (a.client == b.client) (a.command == b.command) (grind (arith, nat_tests)) (grind (arith, nat_tests))) (grind (arith, nat_tests))

-- where an attempt has no entry, no entry has its key
pub absent_keys : (a : AttemptId) (es : List Entry) → find (is_entry_of a) es ≡ None → All (λ e. entry_key e ≢ attempt_key a) es
absent_keys a [] h = λ k e lt same. absurd (omega arith)
absent_keys a (e ∷ es) h =
    elim (is_entry_of a e) as (λ b. is_entry_of a e ≡ b → (if b then Some e else find (is_entry_of a) es) ≡ None → All (λ e. entry_key e ≢ attempt_key a) (e ∷ es)) [
      | true ↦ λ is no. absurd (let n : ⊥ = cc in n)
      | false ↦ λ is no. All-cons (λ x. entry_key x ≢ attempt_key a) e es (λ k. clash (is_entry_of a e) (same_attempt-key e.attempt a k) is) (absent_keys a es no)
    ] refl h

-- the writes of an entry are in form as versions
new_in_form : (e : Entry) (ws : List MinorWrite) (vs : List Version) → All (λ w. is_write_in_form w.write ≡ true) ws → list_all is_version_in_form vs ≡ true → list_all is_version_in_form (puts version_key (versions_of e ws) vs) ≡ true
new_in_form e [] vs h k = k
new_in_form e (w ∷ ws) vs h k = all-put is_version_in_form version_key (version_of e w) (puts version_key (versions_of e ws) vs) (All-head (λ x. is_write_in_form x.write ≡ true) w ws h) (new_in_form e ws vs (All-tail (λ x. is_write_in_form x.write ≡ true) w ws h) k)

pub prepared-in_form : (e : Entry) (ws : List MinorWrite) (d : Durable) → entry_of d e.attempt ≡ None → AreWritesInForm ws → IsInForm d → IsInForm (prepared e ws d)
unfolding prepared entry_of
prepared-in_form e ws d absent form k = record {
  versions = in_order-puts version_key (versions_of e ws) d.versions k.versions;
  writes = new_in_form e ws d.versions form.each k.writes;
  entries = rising-put entry_key e d.entries (absent_keys e.attempt d.entries absent) k.entries;
  conts = k.conts;
  floors = k.floors;
  snaps = k.snaps;
  few_conts = k.few_conts;
  few_snaps = k.few_snaps;
  lease = k.lease;
}

same_key-done : (a : AttemptId) (v : Version) → version_key (done_by a v) ≡ version_key v
unfolding done_by
same_key-done a v = refl

same_form-done : (a : AttemptId) (v : Version) → is_version_in_form (done_by a v) ≡ is_version_in_form v
unfolding done_by
same_form-done a v = refl

same_key-committed : (a : AttemptId) (e : Entry) → entry_key (committed_at a e) ≡ entry_key e
same_key-committed a e = by (same_attempt e.attempt a)
  where
    by : (b : Bool) → entry_key (if b then record e { committed = true } else e) ≡ entry_key e
    by true = refl
    by false = refl

same_key-confirmed : (a : AttemptId) (t : ℕ) (e : Entry) → entry_key (confirmed_at a t e) ≡ entry_key e
same_key-confirmed a t e = by (same_attempt e.attempt a) _
  where
    by : (b : Bool) (bits : ℕ) → entry_key (if b then record e { confirmed = bits } else e) ≡ entry_key e
    by true bits = refl
    by false bits = refl

pub settled-in_form : (a : AttemptId) (step : Settle) (d : Durable) → IsInForm d → IsInForm (settled a step d)
unfolding settled
settled-in_form a Commit d k = record {
  versions = in_order-map version_key (done_by a) (same_key-done a) d.versions ∙ k.versions;
  writes = all-map is_version_in_form (done_by a) (same_form-done a) d.versions ∙ k.writes;
  entries = rising-map entry_key (committed_at a) (same_key-committed a) d.entries ∙ k.entries;
  conts = k.conts;
  floors = k.floors;
  snaps = k.snaps;
  few_conts = k.few_conts;
  few_snaps = k.few_snaps;
  lease = k.lease;
}
settled-in_form a Abort d k = record {
  versions = in_order-filter version_key (is_not_pending a) d.versions k.versions;
  writes = all-filter is_version_in_form (is_not_pending a) d.versions k.writes;
  entries = rising-filter entry_key (is_other a) d.entries k.entries;
  conts = k.conts;
  floors = k.floors;
  snaps = k.snaps;
  few_conts = k.few_conts;
  few_snaps = k.few_snaps;
  lease = k.lease;
}
settled-in_form a (Confirm t) d k = record {
  versions = k.versions;
  writes = k.writes;
  entries = rising-map entry_key (confirmed_at a t) (same_key-confirmed a t) d.entries ∙ k.entries;
  conts = k.conts;
  floors = k.floors;
  snaps = k.snaps;
  few_conts = k.few_conts;
  few_snaps = k.few_snaps;
  lease = k.lease;
}
settled-in_form a Forget d k = record {
  versions = k.versions;
  writes = k.writes;
  entries = rising-filter entry_key (is_other a) d.entries k.entries;
  conts = k.conts;
  floors = k.floors;
  snaps = k.snaps;
  few_conts = k.few_conts;
  few_snaps = k.few_snaps;
  lease = k.lease;
}

pub leased-in_form : (ticks : ℕ) (d : Durable) → ticks < 2 ^ 56 → IsInForm d → IsInForm (leased ticks d)
unfolding leased
leased-in_form ticks d lt k = record {
  versions = k.versions;
  writes = k.writes;
  entries = k.entries;
  conts = k.conts;
  floors = k.floors;
  snaps = k.snaps;
  few_conts = k.few_conts;
  few_snaps = k.few_snaps;
  lease = lt;
}

pub reopened-in_form : (d : Durable) → IsInForm d → IsInForm (reopened d)
unfolding reopened
reopened-in_form d k = record {
  versions = k.versions;
  writes = k.writes;
  entries = k.entries;
  conts = k.conts;
  floors = k.floors;
  snaps = k.snaps;
  few_conts = k.few_conts;
  few_snaps = k.few_snaps;
  lease = k.lease;
}

-- a container that isn't there has no row of its key
pub absent_rows : (c : ContId) (rows : List ContRow) → list_any (is_row_of c) rows ≡ false → All (λ r. cont_key r ≢ cont_key (new_row c)) rows
absent_rows c [] h = λ k r lt same. absurd (omega arith)
absent_rows c (r ∷ rows) h =
    elim (is_row_of c r) as (λ b. is_row_of c r ≡ b → (b || list_any (is_row_of c) rows) ≡ false → All (λ r. cont_key r ≢ cont_key (new_row c)) (r ∷ rows)) [
      | true ↦ λ is no. absurd (let n : ⊥ = cc in n)
      | false ↦ λ is no. All-cons (λ q. cont_key q ≢ cont_key (new_row c)) r rows (λ k. let e : r.cont.0 ≡ c.0 = cc in let n : ⊥ = grind (arith, nat_tests) in n) (absent_rows c rows no)
    ] refl h

pub with_cont-rising : (c : ContId) (rows : List ContRow) → is_rising cont_key rows ≡ true → is_rising cont_key (with_cont c rows) ≡ true
with_cont-rising c rows h = by (list_any (is_row_of c) rows) refl
  where
    by : (b : Bool) → list_any (is_row_of c) rows ≡ b → is_rising cont_key (if b then rows else put cont_key (new_row c) rows) ≡ true
    by true is = h
    by false is = rising-put cont_key (new_row c) rows (absent_rows c rows is) h

with_conts-rising : (cs : List ContId) (rows : List ContRow) → is_rising cont_key rows ≡ true → is_rising cont_key (with_conts cs rows) ≡ true
with_conts-rising [] rows h = h
with_conts-rising (c ∷ cs) rows h = with_conts-rising cs (with_cont c rows) (with_cont-rising c rows h)

with_cont-floors : (c : ContId) (rows : List ContRow) → list_all is_floor_in_form rows ≡ true → list_all is_floor_in_form (with_cont c rows) ≡ true
with_cont-floors c rows h = by (list_any (is_row_of c) rows)
  where
    by : (b : Bool) → list_all is_floor_in_form (if b then rows else put cont_key (new_row c) rows) ≡ true
    by true = h
    by false = all-put is_floor_in_form cont_key (new_row c) rows refl h

with_conts-floors : (cs : List ContId) (rows : List ContRow) → list_all is_floor_in_form rows ≡ true → list_all is_floor_in_form (with_conts cs rows) ≡ true
with_conts-floors [] rows h = h
with_conts-floors (c ∷ cs) rows h = with_conts-floors cs (with_cont c rows) (with_cont-floors c rows h)

pub enlisted-in_form : (cs : List ContId) (d : Durable) → length (enlisted cs d).conts ≤ 256 → IsInForm d → IsInForm (enlisted cs d)
unfolding enlisted
enlisted-in_form cs d few k = record {
  versions = k.versions;
  writes = k.writes;
  entries = k.entries;
  conts = with_conts-rising cs d.conts k.conts;
  floors = with_conts-floors cs d.conts k.floors;
  snaps = k.snaps;
  few_conts = few;
  few_snaps = k.few_snaps;
  lease = k.lease;
}

same_key-raised : (c : ContId) (e : Epoch) (why : FloorWhy) (r : ContRow) → cont_key (raised_at c e why r) ≡ cont_key r
same_key-raised c e why r = by (is_row_of c r) (nat_lt r.floor.0 e.0)
  where
    by : (b t : Bool) → cont_key (if b then (if t then record r { floor = e; why = why } else r) else r) ≡ cont_key r
    by true true = refl
    by true false = refl
    by false t = refl

floor-raised : (e : Epoch) (why : FloorWhy) (r : ContRow) → is_stored_why why ≡ true → is_floor_in_form r ≡ true → is_floor_in_form (raised e why r) ≡ true
floor-raised e why r w h = by (nat_lt r.floor.0 e.0)
  where
    by : (t : Bool) → is_floor_in_form (if t then record r { floor = e; why = why } else r) ≡ true
    by true = or_from_right (e.0 == 0) (is_stored_why why) w
    by false = h

floor-raised_at : (c : ContId) (e : Epoch) (why : FloorWhy) → is_stored_why why ≡ true → (r : ContRow) → is_floor_in_form r ≡ true → is_floor_in_form (raised_at c e why r) ≡ true
floor-raised_at c e why w r h = by (is_row_of c r)
  where
    by : (b : Bool) → is_floor_in_form (if b then raised e why r else r) ≡ true
    by true = floor-raised e why r w h
    by false = h

snap_at-key : (c : ContId) (s : Epoch) (x : Snap) → snap_key x ≡ snap_key (new_snap c s) → is_snap_at c s x ≡ true
snap_at-key c s x k =
    let e : x.cont.0 ≡ c.0 = cc in
    let f : x.epoch.0 ≡ s.0 = cc in
    both (x.cont.0 == c.0) (x.epoch.0 == s.0) (grind (arith, nat_tests)) (grind (arith, nat_tests))

absent_snaps : (c : ContId) (s : Epoch) (xs : List Snap) → list_any (is_snap_at c s) xs ≡ false → All (λ x. snap_key x ≢ snap_key (new_snap c s)) xs
absent_snaps c s [] h = λ k x lt same. absurd (omega arith)
absent_snaps c s (x ∷ xs) h =
    elim (is_snap_at c s x) as (λ b. is_snap_at c s x ≡ b → (b || list_any (is_snap_at c s) xs) ≡ false → All (λ x. snap_key x ≢ snap_key (new_snap c s)) (x ∷ xs)) [
      | true ↦ λ is no. absurd (let n : ⊥ = cc in n)
      | false ↦ λ is no. All-cons (λ y. snap_key y ≢ snap_key (new_snap c s)) x xs (λ k. clash (is_snap_at c s x) (snap_at-key c s x k) is) (absent_snaps c s xs no)
    ] refl h

pub frozen-in_form : (c : ContId) (s : Epoch) (d : Durable) → (is_frozen d c s ≡ false → length d.snaps < 256) → IsInForm d → IsInForm (frozen c s d)
unfolding frozen is_frozen
frozen-in_form c s d place k = by (list_any (is_snap_at c s) d.snaps) refl
  where
    rows : List ContRow
    rows = map (raised_at c s (Snapshot s)) d.conts

    by : (b : Bool) → list_any (is_snap_at c s) d.snaps ≡ b → IsInForm (if b then d else record d { conts = map (raised_at c s (Snapshot s)) d.conts; snaps = put snap_key (new_snap c s) d.snaps })
    by true is = k
    by false is = record {
      versions = k.versions;
      writes = k.writes;
      entries = k.entries;
      conts = rising-map cont_key (raised_at c s (Snapshot s)) (same_key-raised c s (Snapshot s)) d.conts ∙ k.conts;
      floors = all-kept is_floor_in_form (raised_at c s (Snapshot s)) (floor-raised_at c s (Snapshot s) refl) d.conts k.floors;
      snaps = rising-put snap_key (new_snap c s) d.snaps (absent_snaps c s d.snaps is) k.snaps;
      few_conts = subst (λ n. n ≤ 256) (sym (length-map (raised_at c s (Snapshot s)) d.conts)) k.few_conts;
      few_snaps = let lt : length d.snaps < 256 = place is in omega (arith, length-put snap_key (new_snap c s) d.snaps);
      lease = k.lease;
    }

same_key-created : (c : ContId) (s : Epoch) (x : Snap) → snap_key (created_at c s x) ≡ snap_key x
same_key-created c s x = by (is_snap_at c s x)
  where
    by : (b : Bool) → snap_key (if b then record x { created = true } else x) ≡ snap_key x
    by true = refl
    by false = refl

pub created-in_form : (c : ContId) (s : Epoch) (d : Durable) → IsInForm d → IsInForm (created c s d)
unfolding created
created-in_form c s d k = record {
  versions = k.versions;
  writes = k.writes;
  entries = k.entries;
  conts = k.conts;
  floors = k.floors;
  snaps = rising-map snap_key (created_at c s) (same_key-created c s) d.snaps ∙ k.snaps;
  few_conts = k.few_conts;
  few_snaps = subst (λ n. n ≤ 256) (sym (length-map (created_at c s) d.snaps)) k.few_snaps;
  lease = k.lease;
}

pub thawed-in_form : (c : ContId) (s : Epoch) (d : Durable) → IsInForm d → IsInForm (thawed c s d)
unfolding thawed
thawed-in_form c s d k = record {
  versions = k.versions;
  writes = k.writes;
  entries = k.entries;
  conts = k.conts;
  floors = k.floors;
  snaps = rising-filter snap_key (is_other_snap c s) d.snaps k.snaps;
  few_conts = k.few_conts;
  few_snaps = omega (arith, length-filter (is_other_snap c s) d.snaps, k.few_snaps);
  lease = k.lease;
}

same_key-marked : (c : ContId) (upto : Epoch) (n : ℕ) (r : ContRow) → cont_key (marked_at c upto n r) ≡ cont_key r
same_key-marked c upto n r = by (is_row_of c r) (nat_lt r.aggregated.0 upto.0)
  where
    by_floor : (q : ContRow) (t : Bool) → cont_key (if t then record q { floor = upto; why = Aggregate n } else q) ≡ cont_key q
    by_floor q true = refl
    by_floor q false = refl

    by : (b t : Bool) → cont_key (if b then raised upto (Aggregate n) (if t then record r { aggregated = upto; number = n } else r) else r) ≡ cont_key r
    by true true = by_floor (record r { aggregated = upto; number = n }) (nat_lt r.floor.0 upto.0)
    by true false = by_floor r (nat_lt r.floor.0 upto.0)
    by false t = refl

floor-marked_at : (c : ContId) (upto : Epoch) (n : ℕ) (r : ContRow) → is_floor_in_form r ≡ true → is_floor_in_form (marked_at c upto n r) ≡ true
floor-marked_at c upto n r h = by (is_row_of c r) (nat_lt r.aggregated.0 upto.0)
  where
    by : (b t : Bool) → is_floor_in_form (if b then raised upto (Aggregate n) (if t then record r { aggregated = upto; number = n } else r) else r) ≡ true
    by true true = floor-raised upto (Aggregate n) (record r { aggregated = upto; number = n }) refl h
    by true false = floor-raised upto (Aggregate n) r refl h
    by false t = h

pub marked-in_form : (c : ContId) (upto : Epoch) (n : ℕ) (d : Durable) → IsInForm d → IsInForm (marked c upto n d)
unfolding marked
marked-in_form c upto n d k = record {
  versions = k.versions;
  writes = k.writes;
  entries = k.entries;
  conts = rising-map cont_key (marked_at c upto n) (same_key-marked c upto n) d.conts ∙ k.conts;
  floors = all-kept is_floor_in_form (marked_at c upto n) (floor-marked_at c upto n) d.conts k.floors;
  snaps = k.snaps;
  few_conts = subst (λ m. m ≤ 256) (sym (length-map (marked_at c upto n) d.conts)) k.few_conts;
  few_snaps = k.few_snaps;
  lease = k.lease;
}

-- fewer versions
pub with_versions-in_form : (t : Version → Bool) (d : Durable) → IsInForm d → IsInForm (with_versions (filter t d.versions) d)
unfolding with_versions
with_versions-in_form t d k = record {
  versions = in_order-filter version_key t d.versions k.versions;
  writes = all-filter is_version_in_form t d.versions k.writes;
  entries = k.entries;
  conts = k.conts;
  floors = k.floors;
  snaps = k.snaps;
  few_conts = k.few_conts;
  few_snaps = k.few_snaps;
  lease = k.lease;
}

same_versions-marked : (c : ContId) (upto : Epoch) (n : ℕ) (d : Durable) → (marked c upto n d).versions ≡ d.versions
unfolding marked
same_versions-marked c upto n d = refl

pub pruned-in_form : (c : ContId) (upto : Epoch) (n : ℕ) (d : Durable) → IsInForm d → IsInForm (pruned c upto n d)
unfolding pruned
pruned-in_form c upto n d k =
    subst (λ vs. IsInForm (with_versions (filter (is_staying c upto d) vs) (marked c upto n d))) (same_versions-marked c upto n d)
    (with_versions-in_form (is_staying c upto d) (marked c upto n d) (marked-in_form c upto n d k))

pub discarded-in_form : (c : ContId) (lo hi : Epoch) (d : Durable) → IsInForm d → IsInForm (discarded c lo hi d)
unfolding discarded
discarded-in_form c lo hi d k = with_versions-in_form (is_out_of_range c lo hi) d k

-- ---- what is found in what is in form

-- what is found passes the tests that all pass
pub all-find : {T : Type 0} (t s : T → Bool) (us : List T) → list_all t us ≡ true → IfSome (find s us) (λ v. t v ≡ true)
all-find t s [] h = tt
all-find t s (u ∷ us) h =
    elim (s u) as (λ b. IfSome (if b then Some u else find s us) (λ v. t v ≡ true)) [
      | true ↦ and_left (t u) (list_all t us) h
      | false ↦ all-find t s us (and_right (t u) (list_all t us) h)
    ]

-- a write in form has a path in form
pub path-in_form : (w : Write) → is_write_in_form w ≡ true → is_path_in_form (write_path w) ≡ true
unfolding is_write_in_form
path-in_form (write.Single p bytes) h = akey-in_form p (and_left (ends_at_akey p) (is_length (length bytes)) h)
path-in_form (write.Extent p low bytes) h =
    akey-in_form p (written-at_akey p low bytes h)
path-in_form (write.PunchObject p) h = object-in_form p h
path-in_form (write.PunchDkey p) h = dkey-in_form p h
path-in_form (write.PunchAkey p) h = akey-in_form p h

-- the floor of a container is in form
pub row_of-in_form : (d : Durable) (c : ContId) → list_all is_floor_in_form d.conts ≡ true → is_floor_in_form (row_of d c) ≡ true
unfolding row_of
row_of-in_form d c h = by (find (is_row_of c) d.conts) (all-find is_floor_in_form (is_row_of c) d.conts h)
  where
    by : (o : Option ContRow) → IfSome o (λ r. is_floor_in_form r ≡ true) → is_floor_in_form (row_or_new c o) ≡ true
    by None k = refl
    by (Some r) k = k
