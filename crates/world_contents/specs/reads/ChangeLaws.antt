-- Each change of what a target keeps leaves its versions standing for the decided transactions.
use Rattle.std.specs.Prelude.{ℕ, ◌≡◌, ◌⊎◌, ◌<◌, ◌≤◌, ◌/◌, ◌^◌, Bool, true, false, ◌||◌, ◌&&◌, not, bit_or, List, map, filter, Contains, Option, Some, None, refl, if◌then◌else◌}
use Rattle.std.proofs.Common.{sym, ◌∙◌, ap, subst, inl, inr, arith}
use Rattle.std.specs.Option.{option_map}
use Rattle.base_types.specs.declared.entry.Entry.{Entry}
use Rattle.base_types.specs.declared.entry.Settle.TheVariants.{Abort, Commit, Confirm}
use Rattle.base_types.specs.declared.epoch.Epoch.{Epoch}
use Rattle.base_types.specs.declared.id.AttemptId.{AttemptId}
use Rattle.base_types.specs.declared.operation.MinorWrite.{MinorWrite}
use Rattle.base_types.specs.Placement.{path_members}
use Rattle.model_laws.specs.EntryLaws.{found-has, pairs-map, same-attempt}
use Rattle.model_laws.specs.DecidingLaws.{aborting-keeps, settling-keeps}
use Rattle.model_laws.specs.Members.{Has, any-has, contains-from_has, has-any, has-filter, has-from_contains, has-from_filter, has-from_map, has-map}
use Rattle.model_laws.specs.Targets.{ArePlaced}
use Rattle.model_laws.specs.VersionLaws.{rising-from_single}
use Rattle.daos_model.specs.declared.durable.Durable.{Durable}
use Rattle.daos_model.specs.declared.durable.Version.{Version}
use Rattle.daos_model.specs.BoolLaws.{clash, not_true}
use Rattle.daos_model.specs.Changes.{committed_at, confirmed_at, is_other, leased, settled}
use Rattle.daos_model.specs.Durables.{entry_of, is_entry_of, row_of, same_attempt, version_key}
use Rattle.daos_model.specs.EntryLaws.{same_attempt-itself}
use Rattle.daos_model.specs.FormLaws.{leased-in_form, settled-in_form}
use Rattle.daos_model.specs.Opening.{Opening}
use Rattle.daos_model.specs.OrderLaws.{rising-filter}
use Rattle.daos_model.specs.Versions.{done_by, is_not_pending, is_pending, version_of, version_path}
use Rattle.world_commit.specs.attempts.History.{Decided, History, is_decided}
use Rattle.world_commit.specs.attempts.Stored.{found-attempt}
use Rattle.world_commit.specs.world_base.Events.{Rules, is_issue_of}
use Rattle.world_commit.specs.world_base.EntryLaws.{entry-aborted, entry-aborted_other, entry-committed, entry-confirmed}
use Rattle.world_contents.specs.reads.ListLaws.{pairs-from_rising}
use Rattle.world_contents.specs.reads.Transactions.{counts_by, transactions}
use Rattle.world_contents.specs.reads.Versions.{IsPreparedAt, IsVersionOf, IsWriteAt, VersionsStand, is_own_in, mark_of}
use Rattle.model_laws.specs.MatchLaws.{aborts-keep, commits-keep}
use Rattle.world_contents.specs.reads.SnapLaws.{snapshots-stay}

-- ---- what was decided

-- an attempt was decided, at whichever epoch
abbrev pub WasDecided : History → AttemptId → Type 0
WasDecided h x = (e : Epoch) × Decided h x e

pub decided-has : (h : History) (x : AttemptId) → is_decided h x ≡ true → WasDecided h x
decided-has h x is = let z = has-any (is_issue_of x) h.decided is in (z.0.1, subst (λ y. Decided h y z.0.1) (same-attempt z.0.0 x z.2) z.1)

pub has-decided : (h : History) (x : AttemptId) (e : Epoch) → Decided h x e → is_decided h x ≡ true
has-decided h x e i = any-has (is_issue_of x) h.decided (x, e) i (same_attempt-itself x)

-- ---- entries

pub entry-among : (d : Durable) (x : AttemptId) (k : Entry) → entry_of d x ≡ Some k → Contains d.entries k
unfolding entry_of
entry-among d x k found = contains-from_has d.entries k (found-has (is_entry_of x) d.entries k found)

pub committed-open : (a : AttemptId) (e : Entry) → (committed_at a e).committed ≡ false → same_attempt e.attempt a ≡ false
committed-open a e h = by (same_attempt e.attempt a) refl h
  where
    by : (b : Bool) → same_attempt e.attempt a ≡ b → (if b then record e { committed = true } else e).committed ≡ false → same_attempt e.attempt a ≡ false
    by true s f = let no : ⊥ = cc in absurd no
    by false s f = s

pub other-entry : (a : AttemptId) (e : Entry) → same_attempt e.attempt a ≡ false → committed_at a e ≡ e
other-entry a e s = ap (λ b. if b then record e { committed = true } else e) s

pub entry-settled : (d : Durable) (a x : AttemptId) → entry_of (settled a Commit d) x ≡ option_map (committed_at a) (entry_of d x)
entry-settled d a x = entry-committed a d x

-- the attempts differ where one is a's and the other isn't
pub apart-of : (x y a : AttemptId) → x ≡ y → same_attempt y a ≡ false → same_attempt x a ≡ false
apart-of x y a e s = ap (λ z. same_attempt z a) e ∙ s

-- ---- the lease is extended

pub extends-stands : (r : Rules) (o : Opening) (held : List Version) (h : History) (t : ℕ) (d : Durable) (ticks : ℕ) → d.lease ≤ ticks → ticks < 2 ^ 56
    → VersionsStand r o held h t d → VersionsStand r o held h t (leased ticks d)
unfolding leased entry_of row_of
extends-stands r o held h t d ticks more last k = record {
  form = leased-in_form ticks d last k.form;
  single = k.single;
  placed = k.placed;
  done = k.done;
  unsettled = λ v i f. let z = k.unsettled v i f in record { entry = z.entry; found = z.found; open' = z.open'; epoch = z.epoch };
  only = k.only;
  whole = k.whole;
  settled = k.settled;
  epochs = k.epochs;
  matches = k.matches;
  leased = λ v i. let low : v.epoch.0 / 256 ≤ d.lease = k.leased v i in omega (arith, low, more);
  aggregated = k.aggregated;
  clear = k.clear;
  snapshots = snapshots-stay r o h t d (leased ticks d) refl (λ c. refl) more refl k.snapshots;
}

-- ---- a decided attempt is settled

-- a version of another attempt stays as it is
pub other-stays : (a : AttemptId) (v : Version) → same_attempt v.by a ≡ false → done_by a v ≡ v
unfolding done_by
other-stays a v e = by v.done refl
  where
    by : (b : Bool) → v.done ≡ b → record v { done = v.done || same_attempt v.by a } ≡ v
    by true d = ap (λ b. record v { done = b }) (ap (λ b. b || same_attempt v.by a) d ∙ sym d)
    by false d = ap (λ b. record v { done = b }) (ap (λ b. b || same_attempt v.by a) d ∙ e ∙ sym d)

-- and so does one that was done
done-stays : (a : AttemptId) (v : Version) → v.done ≡ true → done_by a v ≡ v
unfolding done_by
done-stays a v d = ap (λ b. record v { done = b }) (ap (λ b. b || same_attempt v.by a) d ∙ sym d)

-- a version that isn't done after that is of another attempt, and wasn't done before
pub still-open : (a : AttemptId) (v : Version) → (done_by a v).done ≡ false → (v.done ≡ false) × (same_attempt v.by a ≡ false)
unfolding done_by
still-open a v e = by v.done (same_attempt v.by a) refl refl e
  where
    by : (d s : Bool) → v.done ≡ d → same_attempt v.by a ≡ s → (d || s) ≡ false → (v.done ≡ false) × (same_attempt v.by a ≡ false)
    by true s d e f = let no : ⊥ = cc in absurd no
    by false true d e f = let no : ⊥ = cc in absurd no
    by false false d e f = (d, e)

now-done : (a : AttemptId) (v : Version) → (done_by a v).done ≡ true → (v.done ≡ true) ⊎ (same_attempt v.by a ≡ true)
unfolding done_by
now-done a v e = by v.done (same_attempt v.by a) refl refl e
  where
    by : (d s : Bool) → v.done ≡ d → same_attempt v.by a ≡ s → (d || s) ≡ true → (v.done ≡ true) ⊎ (same_attempt v.by a ≡ true)
    by true s d e f = inl d
    by false true d e f = inr e
    by false false d e f = let no : ⊥ = cc in absurd no

counts-done : (h : History) (a : AttemptId) (v : Version) → is_decided h a ≡ true → counts_by h (done_by a v) ≡ counts_by h v
unfolding done_by
counts-done h a v decided = by v.done (same_attempt v.by a) refl
  where
    by : (d s : Bool) → same_attempt v.by a ≡ s → ((d || s) || is_decided h v.by) ≡ (d || is_decided h v.by)
    by true s e = refl
    by false true e = sym (ap (is_decided h) (same-attempt v.by a e) ∙ decided)
    by false false e = refl

same-key-done : (a : AttemptId) (v : Version) → version_key (done_by a v) ≡ version_key v
unfolding done_by
same-key-done a v = refl

pub settles-stands : (r : Rules) (o : Opening) (held : List Version) (h : History) (t : ℕ) (d : Durable) (a : AttemptId) → WasDecided h a → VersionsStand r o held h t d → VersionsStand r o held h t (settled a Commit d)
unfolding settled row_of done_by
settles-stands r o held h t d a decided s = record {
  form = settled-in_form a Commit d s.form;
  single = record { in_order = (settled-in_form a Commit d s.form).versions; single = pairs-map version_key (done_by a) d.versions (same-key-done a) s.single.single };
  placed = placed;
  done = done;
  unsettled = unsettled;
  only = only;
  whole = whole;
  settled = settled-before;
  epochs = epochs;
  matches = λ cont. settling-keeps (is_own_in r.script.targets t cont) a (counts_by h) d.versions o.stand (transactions r.script h) (mark_of o d cont) (λ v i. counts-done h a v (has-decided h a decided.0 decided.1)) (s.matches cont);
  leased = leased';
  aggregated = s.aggregated;
  clear = λ v i f. let u = old v i in let was = still-open a u.0 (ap (λ x. x.done) u.2 ∙ f) in subst Clear (sym (other-stays a u.0 was.1) ∙ u.2) (s.clear u.0 u.1 was.0);
  snapshots = snapshots-stay r o h t d (settled a Commit d) refl (λ c. refl) (omega arith) (commits-keep a (counts_by h) (counts_by h) d.versions (λ v i. counts-done h a v (has-decided h a decided.0 decided.1))) s.snapshots;
}
  where
    old : (v : Version) → Contains (map (done_by a) d.versions) v → (u : Version) × Contains d.versions u × (done_by a u ≡ v)
    old v i = let z = has-from_map (done_by a) d.versions v (has-from_contains (map (done_by a) d.versions) v i) in (z.0, contains-from_has d.versions z.0 z.1, z.2)

    placed : ArePlaced r.script.targets t (map (done_by a) d.versions)
    placed v i = let u = old v i in subst (λ x. Contains (path_members (version_path x) r.script.targets) t) u.2 (place u.0 u.1)
      where
        place : (u : Version) → Contains d.versions u → Contains (path_members (version_path (done_by a u)) r.script.targets) t
        place u j = s.placed u j

    Done : Version → Type 0
    Done v = Contains held v ⊎ (Decided h v.by v.epoch × IsVersionOf r t v)

    was-done : (u : Version) → Contains d.versions u → u.done ≡ true → Done (done_by a u)
    was-done u j f = subst Done (sym (done-stays a u f)) (s.done u j f)

    open-now : (u : Version) → Contains d.versions u → u.done ≡ false → same_attempt u.by a ≡ true → Done (done_by a u)
    open-now u j f own = let its = s.only u j f in inr (decided-here, record { write = its.write; at = its.at; minor = its.minor; same = its.same })
      where
        by-it : u.by ≡ a
        by-it = same-attempt u.by a own

        found : IsPreparedAt d u.by u.epoch
        found = s.unsettled u j f

        epoch : found.entry.epoch ≡ decided.0
        epoch = s.epochs a found.entry decided.0 (ap (entry_of d) (sym by-it) ∙ found.found) decided.1

        decided-here : Decided h u.by u.epoch
        decided-here = subst (λ x. Decided h x u.epoch) (sym by-it) (subst (Decided h a) (sym epoch ∙ found.epoch) decided.1)

    done-of : (u : Version) → Contains d.versions u → (done_by a u).done ≡ true → Done (done_by a u)
    done-of u j f = by u.done refl (now-done a u f)
      where
        by : (b : Bool) → u.done ≡ b → (u.done ≡ true) ⊎ (same_attempt u.by a ≡ true) → Done (done_by a u)
        by true q r = was-done u j q
        by false q (inl r) = was-done u j r
        by false q (inr r) = open-now u j q r

    done : (v : Version) → Contains (map (done_by a) d.versions) v → v.done ≡ true → Done v
    done v i f = let u = old v i in subst Done u.2 (done-of u.0 u.1 (ap (λ x. x.done) u.2 ∙ f))

    Clear : Version → Type 0
    Clear v = (row_of d (version_path v).cont).aggregated.0 < v.epoch.0

    Open : Version → Type 0
    Open v = IsPreparedAt (settled a Commit d) v.by v.epoch

    open-of : (u : Version) → Contains d.versions u → u.done ≡ false → same_attempt u.by a ≡ false → Open u
    open-of u j f other =
        let z = s.unsettled u j f in
        let apart : same_attempt z.entry.attempt a ≡ false = apart-of z.entry.attempt u.by a (found-attempt d u.by z.entry z.found) other in
        record { entry = z.entry; found = entry-settled d a u.by ∙ ap (option_map (committed_at a)) z.found ∙ ap (λ x. Some x) (other-entry a z.entry apart); open' = z.open'; epoch = z.epoch }

    unsettled : (v : Version) → Contains (map (done_by a) d.versions) v → v.done ≡ false → Open v
    unsettled v i f =
        let u = old v i in
        let was = still-open a u.0 (ap (λ x. x.done) u.2 ∙ f) in
        subst Open (sym (other-stays a u.0 was.1) ∙ u.2) (open-of u.0 u.1 was.0 was.1)

    whole : (z : Entry) (m : MinorWrite) → Contains (map (committed_at a) d.entries) z → z.committed ≡ false → IsWriteAt r z.attempt t m → Contains (map (done_by a) d.versions) (version_of z m)
    whole z m i f at =
        let y = has-from_map (committed_at a) d.entries z (has-from_contains (map (committed_at a) d.entries) z i) in
        let other : same_attempt y.0.attempt a ≡ false = committed-open a y.0 (ap (λ x. x.committed) y.2 ∙ f) in
        let same : y.0 ≡ z = sym (other-entry a y.0 other) ∙ y.2 in
        let was : Contains d.versions (version_of z m) = s.whole z m (subst (λ x. Contains d.entries x) same (contains-from_has d.entries y.0 y.1)) f at in
        let mapped : Has (done_by a (version_of z m)) (map (done_by a) d.versions) = has-map (done_by a) d.versions (version_of z m) (has-from_contains d.versions (version_of z m) was) in
        contains-from_has (map (done_by a) d.versions) (version_of z m) (subst (λ x. Has x (map (done_by a) d.versions)) (other-stays a (version_of z m) (sym (ap (λ x. same_attempt x.attempt a) same) ∙ other)) mapped)

    only : (v : Version) → Contains (map (done_by a) d.versions) v → v.done ≡ false → IsVersionOf r t v
    only v i f =
        let u = old v i in
        let was = still-open a u.0 (ap (λ x. x.done) u.2 ∙ f) in
        subst (IsVersionOf r t) (sym (other-stays a u.0 was.1) ∙ u.2) (s.only u.0 u.1 was.0)

    -- an entry that is found was there, of the same epoch
    before : (x : AttemptId) (z : Entry) → entry_of (settled a Commit d) x ≡ Some z → (y : Entry) × (entry_of d x ≡ Some y) × (committed_at a y ≡ z)
    before x z found = by (entry_of d x) refl (sym (entry-settled d a x) ∙ found)
      where
        by : (e : Option Entry) → entry_of d x ≡ e → option_map (committed_at a) e ≡ Some z → (y : Entry) × (entry_of d x ≡ Some y) × (committed_at a y ≡ z)
        by None e f = let no : ⊥ = cc in absurd no
        by (Some y) e f = (y, e, cc)

    same-epoch : (y : Entry) → (committed_at a y).epoch ≡ y.epoch
    same-epoch y = by (same_attempt y.attempt a)
      where
        by : (b : Bool) → (if b then record y { committed = true } else y).epoch ≡ y.epoch
        by true = refl
        by false = refl

    settled-before : (x : AttemptId) (z : Entry) → entry_of (settled a Commit d) x ≡ Some z → z.committed ≡ true → Decided h x z.epoch
    settled-before x z found is =
        let y = before x z found in
        subst (Decided h x) (sym (same-epoch y.0) ∙ ap (λ e. e.epoch) y.2) (by y.0 y.1 (same_attempt y.0.attempt a) refl (ap (λ e. e.committed) y.2 ∙ is))
      where
        by : (y : Entry) → entry_of d x ≡ Some y → (b : Bool) → same_attempt y.attempt a ≡ b → (committed_at a y).committed ≡ true → Decided h x y.epoch
        by y here true own f =
            let same : x ≡ a = sym (found-attempt d x y here) ∙ same-attempt y.attempt a own in
            let at : y.epoch ≡ decided.0 = s.epochs x y decided.0 here (subst (λ z. Decided h z decided.0) (sym same) decided.1) in
            subst (λ z. Decided h z y.epoch) (sym same) (subst (Decided h a) (sym at) decided.1)
        by y here false other f = s.settled x y here (ap (λ e. e.committed) (sym (other-entry a y other)) ∙ f)

    epochs : (x : AttemptId) (z : Entry) (f : Epoch) → entry_of (settled a Commit d) x ≡ Some z → Decided h x f → z.epoch ≡ f
    epochs x z f found is = let y = before x z found in ap (λ e. e.epoch) (sym y.2) ∙ same-epoch y.0 ∙ s.epochs x y.0 f y.1 is

    leased' : (v : Version) → Contains (map (done_by a) d.versions) v → v.epoch.0 / 256 ≤ d.lease
    leased' v i = let u = old v i in subst (λ x. x.epoch.0 / 256 ≤ d.lease) u.2 (low u.0 u.1)
      where
        low : (u : Version) → Contains d.versions u → (done_by a u).epoch.0 / 256 ≤ d.lease
        low u j = s.leased u j

-- ---- an attempt is aborted

-- a version that stays, and isn't settled, is of another attempt
pub open-other : (a : AttemptId) (v : Version) → is_not_pending a v ≡ true → v.done ≡ false → same_attempt v.by a ≡ false
unfolding is_pending
open-other a v stays open' = by (same_attempt v.by a) refl
  where
    by : (b : Bool) → same_attempt v.by a ≡ b → same_attempt v.by a ≡ false
    by true own = let no : ⊥ = clash (same_attempt v.by a && not v.done) (ap (λ b. b && not v.done) own ∙ ap not open') (not_true (same_attempt v.by a && not v.done) stays) in absurd no
    by false other = other

pub other-not-pending : (a : AttemptId) (v : Version) → same_attempt v.by a ≡ false → is_not_pending a v ≡ true
unfolding is_pending
other-not-pending a v other = ap (λ b. not (b && not v.done)) other

-- none of its versions counted
pub pending-off : (h : History) (a : AttemptId) (v : Version) → (WasDecided h a → ⊥) → is_pending a v ≡ true → counts_by h v ≡ false
unfolding is_pending
pending-off h a v none is = by (same_attempt v.by a) v.done refl refl is
  where
    by : (b c : Bool) → same_attempt v.by a ≡ b → v.done ≡ c → (b && not c) ≡ true → (v.done || is_decided h v.by) ≡ false
    by true true f g e = let no : ⊥ = cc in absurd no
    by false c f g e = let no : ⊥ = cc in absurd no
    by true false f g e = ap (λ c. c || is_decided h v.by) g ∙ off (is_decided h v.by) refl
      where
        off : (b : Bool) → is_decided h v.by ≡ b → is_decided h v.by ≡ false
        off true e = absurd (none (subst (WasDecided h) (same-attempt v.by a f) (decided-has h v.by e)))
        off false e = e

-- entries of other attempts stay, and its own goes
entry-left : (d : Durable) (a x : AttemptId) → same_attempt x a ≡ false → entry_of (settled a Abort d) x ≡ entry_of d x
entry-left d a x other = entry-aborted_other a d x (λ same. clash (same_attempt x a) (ap (λ y. same_attempt y a) same ∙ same_attempt-itself a) other)

left-before : (d : Durable) (a x : AttemptId) (z : Entry) → entry_of (settled a Abort d) x ≡ Some z → entry_of d x ≡ Some z
left-before d a x z found = by (same_attempt x a) refl
  where
    by : (b : Bool) → same_attempt x a ≡ b → entry_of d x ≡ Some z
    by true same = let gone : entry_of (settled a Abort d) x ≡ None = ap (entry_of (settled a Abort d)) (same-attempt x a same) ∙ entry-aborted a d in let no : ⊥ = cc (gone, found) in absurd no
    by false other = sym (entry-left d a x other) ∙ found

pub aborts-stands : (r : Rules) (o : Opening) (held : List Version) (h : History) (t : ℕ) (d : Durable) (a : AttemptId) → (WasDecided h a → ⊥) → VersionsStand r o held h t d → VersionsStand r o held h t (settled a Abort d)
unfolding settled row_of
aborts-stands r o held h t d a none s = record {
  form = settled-in_form a Abort d s.form;
  single = record {
    in_order = (settled-in_form a Abort d s.form).versions;
    single = pairs-from_rising version_key (filter (is_not_pending a) d.versions) (rising-filter version_key (is_not_pending a) d.versions (rising-from_single version_key d.versions s.single.in_order s.single.single));
  };
  placed = λ v i. s.placed v (old v i).0;
  done = λ v i f. s.done v (old v i).0 f;
  unsettled = λ v i f. unsettled v (old v i) f;
  only = λ v i f. s.only v (old v i).0 f;
  whole = whole;
  settled = λ x z found is. s.settled x z (left-before d a x z found) is;
  epochs = λ x z f found is. s.epochs x z f (left-before d a x z found) is;
  matches = λ cont. aborting-keeps (is_own_in r.script.targets t cont) a (counts_by h) d.versions o.stand (transactions r.script h) (mark_of o d cont) (λ v i is. pending-off h a v none is) (s.matches cont);
  leased = λ v i. s.leased v (old v i).0;
  aggregated = s.aggregated;
  clear = λ v i f. s.clear v (old v i).0 f;
  snapshots = snapshots-stay r o h t d (settled a Abort d) refl (λ c. refl) (omega arith) (aborts-keep a (counts_by h) d.versions (λ v i is. pending-off h a v none is)) s.snapshots;
}
  where
    old : (v : Version) → Contains (filter (is_not_pending a) d.versions) v → Contains d.versions v × (is_not_pending a v ≡ true)
    old v i = let z = has-from_filter (is_not_pending a) d.versions v (has-from_contains (filter (is_not_pending a) d.versions) v i) in (contains-from_has d.versions v z.0, z.1)

    unsettled : (v : Version) → Contains d.versions v × (is_not_pending a v ≡ true) → v.done ≡ false → IsPreparedAt (settled a Abort d) v.by v.epoch
    unsettled v i f =
        let z = s.unsettled v i.0 f in
        record { entry = z.entry; found = entry-left d a v.by (open-other a v i.1 f) ∙ z.found; open' = z.open'; epoch = z.epoch }

    whole : (z : Entry) (m : MinorWrite) → Contains (filter (is_other a) d.entries) z → z.committed ≡ false → IsWriteAt r z.attempt t m → Contains (filter (is_not_pending a) d.versions) (version_of z m)
    whole z m i f at =
        let y = has-from_filter (is_other a) d.entries z (has-from_contains (filter (is_other a) d.entries) z i) in
        let was = s.whole z m (contains-from_has d.entries z y.0) f at in
        contains-from_has (filter (is_not_pending a) d.versions) (version_of z m)
        (has-filter (is_not_pending a) d.versions (version_of z m) (has-from_contains d.versions (version_of z m) was) (other-not-pending a (version_of z m) (not_true (same_attempt z.attempt a) y.1)))

-- ---- a member confirms

-- it is the same entry, but for who confirmed it
record IsSameEntry (k j : Entry) : Type 0 where
  attempt : j.attempt ≡ k.attempt
  epoch : j.epoch ≡ k.epoch
  committed : j.committed ≡ k.committed

same-confirmed : (a : AttemptId) (n : ℕ) (k : Entry) → IsSameEntry k (confirmed_at a n k)
same-confirmed a n k = by (same_attempt k.attempt a)
  where
    by : (b : Bool) → IsSameEntry k (if b then record k { confirmed = bit_or k.confirmed (2 ^ n) } else k)
    by true = record { attempt = refl; epoch = refl; committed = refl }
    by false = record { attempt = refl; epoch = refl; committed = refl }

pub confirms-stands : (r : Rules) (o : Opening) (held : List Version) (h : History) (t : ℕ) (d : Durable) (a : AttemptId) (n : ℕ) → VersionsStand r o held h t d → VersionsStand r o held h t (settled a (Confirm n) d)
unfolding settled row_of
confirms-stands r o held h t d a n s = record {
  form = settled-in_form a (Confirm n) d s.form;
  single = s.single;
  placed = s.placed;
  done = s.done;
  unsettled = λ v i f. unsettled v (s.unsettled v i f);
  only = s.only;
  whole = λ z m i f at. let y = has-from_map (confirmed_at a n) d.entries z (has-from_contains (map (confirmed_at a n) d.entries) z i) in whole z m f at y.0 (contains-from_has d.entries y.0 y.1) (subst (IsSameEntry y.0) y.2 (same-confirmed a n y.0));
  settled = λ x z found is. let y = before x z found in subst (Decided h x) (sym y.2.epoch) (s.settled x y.0 y.1 (sym y.2.committed ∙ is));
  epochs = λ x z f found is. let y = before x z found in y.2.epoch ∙ s.epochs x y.0 f y.1 is;
  matches = s.matches;
  leased = s.leased;
  aggregated = s.aggregated;
  clear = s.clear;
  snapshots = snapshots-stay r o h t d (settled a (Confirm n) d) refl (λ c. refl) (omega arith) refl s.snapshots;
}
  where
    before : (x : AttemptId) (z : Entry) → entry_of (settled a (Confirm n) d) x ≡ Some z → (y : Entry) × (entry_of d x ≡ Some y) × IsSameEntry y z
    before x z found = by (entry_of d x) refl (sym (entry-confirmed a n d x) ∙ found)
      where
        by : (e : Option Entry) → entry_of d x ≡ e → option_map (confirmed_at a n) e ≡ Some z → (y : Entry) × (entry_of d x ≡ Some y) × IsSameEntry y z
        by None e f = let no : ⊥ = cc in absurd no
        by (Some y) e f = let same : confirmed_at a n y ≡ z = cc in (y, e, subst (IsSameEntry y) same (same-confirmed a n y))

    unsettled : (v : Version) → IsPreparedAt d v.by v.epoch → IsPreparedAt (settled a (Confirm n) d) v.by v.epoch
    unsettled v z =
        let k = same-confirmed a n z.entry in
        record { entry = confirmed_at a n z.entry; found = entry-confirmed a n d v.by ∙ ap (option_map (confirmed_at a n)) z.found; open' = k.committed ∙ z.open'; epoch = k.epoch ∙ z.epoch }

    whole : (z : Entry) (m : MinorWrite) → z.committed ≡ false → IsWriteAt r z.attempt t m → (y : Entry) → Contains d.entries y → IsSameEntry y z → Contains d.versions (version_of z m)
    whole z m f at y i k =
        subst (λ e. Contains d.versions (record { epoch = e; minor = m.minor; by = z.attempt; done = false; write = m.write })) (sym k.epoch)
        (subst (λ x. Contains d.versions (record { epoch = y.epoch; minor = m.minor; by = x; done = false; write = m.write })) (sym k.attempt)
        (s.whole y m i (sym k.committed ∙ f) (subst (λ x. IsWriteAt r x t m) k.attempt at)))
