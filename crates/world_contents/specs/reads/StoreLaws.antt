-- A target stores an attempt's writes, which count for nothing yet: what it keeps stands for the same transactions.
use Rattle.std.specs.Prelude.{ℕ, ◌≡◌, ◌≢◌, ◌⊎◌, ◌≤◌, ◌<◌, ◌/◌, Bool, true, false, List, map, Contains, Some, None, refl}
use Rattle.std.proofs.Common.{sym, ◌∙◌, ap, subst, inl, inr, arith}
use Rattle.std.proofs.lemmas.List.Kept.{AllPairs-from_increasing}
use Rattle.base_types.specs.declared.entry.Entry.{Entry}
use Rattle.base_types.specs.declared.epoch.Epoch.{Epoch}
use Rattle.base_types.specs.declared.id.AttemptId.{AttemptId}
use Rattle.base_types.specs.declared.operation.MinorWrite.{MinorWrite}
use Rattle.base_types.specs.Placement.{path_members}
use Rattle.model_laws.specs.EntryLaws.{has-put, has-puts, puts-has, same-attempt}
use Rattle.model_laws.specs.DecidingLaws.{stores-keep}
use Rattle.model_laws.specs.Members.{Has, contains-from_has, has-from_contains, has-from_map, has-map}
use Rattle.model_laws.specs.VersionLaws.{rising-from_single}
use Rattle.daos_model.specs.declared.durable.Durable.{Durable}
use Rattle.daos_model.specs.declared.durable.Version.{Version}
use Rattle.daos_model.specs.BoolLaws.{clash, false_of}
use Rattle.daos_model.specs.Changes.{prepared}
use Rattle.daos_model.specs.Durables.{IsInForm, entry_key, entry_of, row_of, same_attempt, version_key}
use Rattle.daos_model.specs.EntryLaws.{entry_of-prepared, same_attempt-itself}
use Rattle.daos_model.specs.FormLaws.{prepared-in_form}
use Rattle.daos_model.specs.Forms.{AreWritesInForm, minor_of}
use Rattle.daos_model.specs.Opening.{Opening, top}
use Rattle.daos_model.specs.Ordered.{is_rising, put, puts}
use Rattle.daos_model.specs.Versions.{version_of, version_path, versions_of}
use Rattle.world_commit.specs.attempts.History.{Decided, History, is_decided}
use Rattle.world_commit.specs.world_base.declared.world.World.{World}
use Rattle.world_commit.specs.world_base.Events.{Rules}
use Rattle.world_contents.specs.reads.ChangeLaws.{WasDecided, decided-has}
use Rattle.world_commit.specs.world_base.EntryLaws.{entry-prepared_other}
use Rattle.world_contents.specs.reads.ListLaws.{pairs-from_rising, rising-news}
use Rattle.world_contents.specs.reads.Transactions.{counts_by, transactions}
use Rattle.world_contents.specs.reads.Versions.{IsPreparedAt, IsVersionOf, IsWriteAt, VersionsStand, is_own_in, mark_of}
use Rattle.model_laws.specs.MatchLaws.{prepares-keep}
use Rattle.world_contents.specs.reads.SnapLaws.{snapshots-stay}
use Rattle.base_types.specs.Operations.{write_path}

-- ---- what may be stored

-- these are the writes of an attempt that a target holds
pub record AreItsOwn (r : Rules) (x : AttemptId) (t : ℕ) (ws : List MinorWrite) : Type 0 where
  pub from : (m : MinorWrite) → Has m ws → IsWriteAt r x t m
  pub all : (m : MinorWrite) → IsWriteAt r x t m → Has m ws
  pub form : AreWritesInForm ws

-- an entry of such writes is new: its attempt has none and isn't decided, no version has its epoch, the lease covers that, and it lies
-- above what was aggregated of the containers of its writes
pub record IsNewEntry (h : History) (d : Durable) (k : Entry) (ws : List MinorWrite) : Type 0 where
  pub open' : k.committed ≡ false
  pub absent : entry_of d k.attempt ≡ None
  pub undecided : WasDecided h k.attempt → ⊥
  pub alone : (v : Version) → Contains d.versions v → v.epoch.0 ≢ k.epoch.0
  pub covered : k.epoch.0 / 256 ≤ d.lease
  pub clear : (m : MinorWrite) → Has m ws → (row_of d (write_path m.write).cont).aggregated.0 < k.epoch.0

-- each entry's epoch was issued to its attempt
abbrev pub AreIssued : World → Durable → Type 0
AreIssued w d = (x : AttemptId) (e : Entry) → entry_of d x ≡ Some e → Contains w.issued (x, e.epoch)

-- no version has an epoch that is an attempt's which isn't decided and has no entry
pub epoch-alone : (r : Rules) (o : Opening) (held : List Version) (h : History) (w : World) (t : ℕ) (d : Durable) (x : AttemptId) (f : Epoch)
    → ((v : Version) → Contains held v → v.epoch.0 ≤ top o) → ((y : AttemptId) (e : Epoch) → Decided h y e → Contains w.issued (y, e)) → AreIssued w d
    → top o < f.0 → ((y : AttemptId) (e : Epoch) → Contains w.issued (y, e) → e.0 ≡ f.0 → y ≡ x) → (WasDecided h x → ⊥) → entry_of d x ≡ None → VersionsStand r o held h t d
    → (v : Version) → Contains d.versions v → v.epoch.0 ≢ f.0
epoch-alone r o held h w t d x f before issued entries above alone undecided absent s v i same = by v.done refl
  where
    of-done : Contains held v ⊎ (Decided h v.by v.epoch × IsVersionOf r t v) → ⊥
    of-done (inl j) = let low = before v j in omega (arith, low, above, same)
    of-done (inr z) = undecided (v.epoch, subst (λ y. Decided h y v.epoch) (alone v.by v.epoch (issued v.by v.epoch z.0) same) z.0)

    by : (b : Bool) → v.done ≡ b → ⊥
    by true e = of-done (s.done v i e)
    by false e =
        let z = s.unsettled v i e in
        let own : v.by ≡ x = alone v.by z.entry.epoch (entries v.by z.entry z.found) (ap (λ g. g.0) z.epoch ∙ same) in
        let no : ⊥ = cc (z.found, absent, own) in no

-- ---- entries

-- one that is found then is the new one, or was there
pub entry-stored : (k : Entry) (ws : List MinorWrite) (d : Durable) (x : AttemptId) (z : Entry) → entry_of d k.attempt ≡ None → entry_of (prepared k ws d) x ≡ Some z
    → ((x ≡ k.attempt) × (z ≡ k)) ⊎ (entry_of d x ≡ Some z)
entry-stored k ws d x z none found = by (same_attempt x k.attempt) refl
  where
    by : (b : Bool) → same_attempt x k.attempt ≡ b → ((x ≡ k.attempt) × (z ≡ k)) ⊎ (entry_of d x ≡ Some z)
    by true is =
        let same : x ≡ k.attempt = same-attempt x k.attempt is in
        let new : entry_of (prepared k ws d) x ≡ Some k = ap (entry_of (prepared k ws d)) same ∙ entry_of-prepared k ws d none in
        inl (same, cc (new, found))
    by false other = inr (sym (entry-prepared_other k ws d x (λ same. clash (same_attempt x k.attempt) (ap (λ y. same_attempt y k.attempt) same ∙ same_attempt-itself k.attempt) other)) ∙ found)

-- and one that was found stays
pub entry-kept : (k : Entry) (ws : List MinorWrite) (d : Durable) (y : AttemptId) (z : Entry) → entry_of d k.attempt ≡ None → entry_of d y ≡ Some z → entry_of (prepared k ws d) y ≡ Some z
entry-kept k ws d y z none found = entry-prepared_other k ws d y (λ same. let no : ⊥ = cc (none, found, same) in no) ∙ found

-- ---- what versions stand for

-- versions that are stored are new or were there
pub new-or-old : (k : Entry) (ws : List MinorWrite) (vs : List Version) (v : Version) → Contains (puts version_key (versions_of k ws) vs) v → ((m : MinorWrite) × Has m ws × (version_of k m ≡ v)) ⊎ Has v vs
new-or-old k ws vs v i = by (has-puts version_key (versions_of k ws) vs v (has-from_contains (puts version_key (versions_of k ws) vs) v i))
  where
    by : Has v (versions_of k ws) ⊎ Has v vs → ((m : MinorWrite) × Has m ws × (version_of k m ≡ v)) ⊎ Has v vs
    by (inl j) = inl (has-from_map (version_of k) ws v j)
    by (inr j) = inr j

new-there : (k : Entry) (ws : List MinorWrite) (vs : List Version) (m : MinorWrite) → Has m ws → Contains (puts version_key (versions_of k ws) vs) (version_of k m)
new-there k ws vs m i = contains-from_has (puts version_key (versions_of k ws) vs) (version_of k m) (puts-has version_key (versions_of k ws) vs (version_of k m) (inl (has-map (version_of k) ws m i)))

old-there : (k : Entry) (ws : List MinorWrite) (vs : List Version) (v : Version) → Contains vs v → Contains (puts version_key (versions_of k ws) vs) v
old-there k ws vs v i = contains-from_has (puts version_key (versions_of k ws) vs) v (puts-has version_key (versions_of k ws) vs v (inr (has-from_contains vs v i)))

not-decided : (h : History) (x : AttemptId) → (WasDecided h x → ⊥) → is_decided h x ≡ false
not-decided h x none = false_of (is_decided h x) (λ is. none (decided-has h x is))

pub stores-stands : (r : Rules) (o : Opening) (held : List Version) (h : History) (t : ℕ) (d : Durable) (k : Entry) (ws : List MinorWrite)
    → IsNewEntry h d k ws → AreItsOwn r k.attempt t ws → VersionsStand r o held h t d → VersionsStand r o held h t (prepared k ws d)
unfolding prepared row_of
stores-stands r o held h t d k ws new own s = record {
  form = form;
  single = record { in_order = form.versions; single = pairs-from_rising version_key (puts version_key (versions_of k ws) d.versions) rises };
  placed = λ v i. placed v (new-or-old k ws d.versions v i);
  done = λ v i f. done v f (new-or-old k ws d.versions v i);
  unsettled = λ v i f. unsettled v f (new-or-old k ws d.versions v i);
  only = λ v i f. only v f (new-or-old k ws d.versions v i);
  whole = λ z m i f at. whole z m f at (has-put entry_key k d.entries z (has-from_contains (put entry_key k d.entries) z i));
  settled = λ x z found is. settled x z is (entry-stored k ws d x z new.absent found);
  epochs = λ x z f found is. epochs x z f is (entry-stored k ws d x z new.absent found);
  matches = λ cont. stores-keep (is_own_in r.script.targets t cont) k ws (counts_by h) d.versions o.stand (transactions r.script h) (mark_of o d cont) off (s.matches cont);
  leased = λ v i. leased v (new-or-old k ws d.versions v i);
  aggregated = s.aggregated;
  clear = λ v i f. clear v f (new-or-old k ws d.versions v i);
  snapshots = snapshots-stay r o h t d (prepared k ws d) refl (λ c. refl) (omega arith) (prepares-keep k ws (counts_by h) d.versions off) s.snapshots;
}
  where
    stored : List Version
    stored = puts version_key (versions_of k ws) d.versions

    New : Version → Type 0
    New v = ((m : MinorWrite) × Has m ws × (version_of k m ≡ v)) ⊎ Has v d.versions

    form : IsInForm (prepared k ws d)
    form = prepared-in_form k ws d new.absent own.form s.form

    rises : is_rising version_key (puts version_key (versions_of k ws) d.versions) ≡ true
    rises =
        rising-news k ws d.versions (AllPairs-from_increasing (map minor_of ws) own.form.rising) (λ u i. new.alone u (contains-from_has d.versions u i))
        (rising-from_single version_key d.versions s.single.in_order s.single.single)

    Here : Version → Type 0
    Here v = Contains (path_members (version_path v) r.script.targets) t

    placed : (v : Version) → New v → Here v
    placed v (inl z) = subst Here z.2 (own.from z.0 z.1).here
    placed v (inr i) = s.placed v (contains-from_has d.versions v i)

    done : (v : Version) → v.done ≡ true → New v → Contains held v ⊎ (Decided h v.by v.epoch × IsVersionOf r t v)
    done v f (inl z) = clash v.done f (sym (ap (λ u. u.done) z.2))
    done v f (inr i) = s.done v (contains-from_has d.versions v i) f

    Open : Version → Type 0
    Open v = IsPreparedAt (prepared k ws d) v.by v.epoch

    unsettled : (v : Version) → v.done ≡ false → New v → Open v
    unsettled v f (inl z) = subst Open z.2 (record { entry = k; found = entry_of-prepared k ws d new.absent; open' = new.open'; epoch = refl })
    unsettled v f (inr i) = let z = s.unsettled v (contains-from_has d.versions v i) f in record { entry = z.entry; found = entry-kept k ws d v.by z.entry new.absent z.found; open' = z.open'; epoch = z.epoch }

    only : (v : Version) → v.done ≡ false → New v → IsVersionOf r t v
    only v f (inl z) = subst (IsVersionOf r t) z.2 (record { write = z.0; at = own.from z.0 z.1; minor = refl; same = refl })
    only v f (inr i) = s.only v (contains-from_has d.versions v i) f

    whole : (z : Entry) (m : MinorWrite) → z.committed ≡ false → IsWriteAt r z.attempt t m → (z ≡ k) ⊎ Has z d.entries → Contains stored (version_of z m)
    whole z m f at (inl same) =
        subst (λ y. Contains stored (version_of y m)) (sym same) (new-there k ws d.versions m (own.all m (subst (λ y. IsWriteAt r y.attempt t m) same at)))
    whole z m f at (inr i) = old-there k ws d.versions (version_of z m) (s.whole z m (contains-from_has d.entries z i) f at)

    settled : (x : AttemptId) (z : Entry) → z.committed ≡ true → ((x ≡ k.attempt) × (z ≡ k)) ⊎ (entry_of d x ≡ Some z) → Decided h x z.epoch
    settled x z is (inl same) = clash z.committed is (ap (λ y. y.committed) same.1 ∙ new.open')
    settled x z is (inr found) = s.settled x z found is

    epochs : (x : AttemptId) (z : Entry) (f : Epoch) → Decided h x f → ((x ≡ k.attempt) × (z ≡ k)) ⊎ (entry_of d x ≡ Some z) → z.epoch ≡ f
    epochs x z f is (inl same) = absurd (new.undecided (f, subst (λ y. Decided h y f) same.0 is))
    epochs x z f is (inr found) = s.epochs x z f found is

    off : (v : Version) → Contains (versions_of k ws) v → counts_by h v ≡ false
    off v i =
        let z = has-from_map (version_of k) ws v (has-from_contains (versions_of k ws) v i) in
        ap (counts_by h) (sym z.2) ∙ not-decided h k.attempt new.undecided

    leased : (v : Version) → New v → v.epoch.0 / 256 ≤ d.lease
    leased v (inl z) = subst (λ u. u.epoch.0 / 256 ≤ d.lease) z.2 new.covered
    leased v (inr i) = s.leased v (contains-from_has d.versions v i)

    Clear : Version → Type 0
    Clear v = (row_of d (version_path v).cont).aggregated.0 < v.epoch.0

    clear : (v : Version) → v.done ≡ false → New v → Clear v
    clear v f (inl z) = subst Clear z.2 (new.clear z.0 z.1)
    clear v f (inr i) = s.clear v (contains-from_has d.versions v i) f
