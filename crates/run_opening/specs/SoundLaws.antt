-- An opening leaves sound targets sound.
use Rattle.std.specs.Prelude.{ℕ, zero, suc, ◌≡◌, ◌≢◌, ◌≤◌, ◌&&◌, ◌==◌, Bool, true, List, [], ◌∷◌, All, Contains, filter, length, map, slice_get, Some, refl}
use Rattle.std.proofs.Common.{sym, ◌∙◌, ap, subst, arith}
use Rattle.std.proofs.lemmas.List.Elements.{All-nil}
use Rattle.std.proofs.lemmas.List.Kept.{AllPairs-filter}
use Rattle.base_types.specs.declared.script.Script.{Script}
use Rattle.base_types.specs.declared.snapshot.Snap.{Snap}
use Rattle.base_types.specs.Epochs.{restart_floor}
use Rattle.base_types.specs.Placement.{path_members}
use Rattle.model_laws.specs.DecidedLaws.{all-from_has, has-all}
use Rattle.model_laws.specs.EntryLaws.{pairs-map}
use Rattle.model_laws.specs.Lists.{all-pass}
use Rattle.model_laws.specs.Members.{Has, any-has, has-any, has-filter, has-from_contains, has-from_filter, has-from_map}
use Rattle.model_laws.specs.ServeLaws.{all-has}
use Rattle.model_laws.specs.TargetLaws.{number_same, same_number}
use Rattle.daos_model.specs.declared.durable.Durable.{Durable}
use Rattle.daos_model.specs.declared.durable.Version.{Version}
use Rattle.daos_model.specs.BoolLaws.{and_left, and_right, both}
use Rattle.daos_model.specs.Cells.{value_at}
use Rattle.daos_model.specs.Durables.{IsInForm, is_frozen, is_snap_at, is_version_in_form, snap_key, version_key}
use Rattle.daos_model.specs.Family.{Agree, AgreeOn, counts, counts_at, created_snaps, map_where}
use Rattle.daos_model.specs.FormLaws.{length-filter, length-map}
use Rattle.daos_model.specs.OrderLaws.{in_order-filter, in_order-map, rising-filter}
use Rattle.daos_model.specs.Sound.{IsCovered, IsOfEntry, IsPlaced, IsSoundAt, SayTheSame, Sound}
use Rattle.run_opening.specs.Laws.{OpeningsKeepForm, OpeningsKeepSound, OpeningsSettleAll}
use Rattle.run_opening.specs.Opened.{as_done, is_at_one_of, keeps, lasting_snaps, opened, opened_family, settled_versions}
use Rattle.run_opening.specs.StandLaws.{at-opened, counts-opened, created-opened, map-opened}

-- ---- lists

-- what stands in a list that was mapped comes of what stood there
pub at-mapped : {T U : Type 0} (f : T → U) (xs : List T) (n : ℕ) (u : U) → slice_get (map f xs) n ≡ Some u → (x : T) × (slice_get xs n ≡ Some x) × (f x ≡ u)
at-mapped f [] n u at = let no : ⊥ = cc in absurd no
at-mapped f (x ∷ xs) zero u at = (x, refl, let same : f x ≡ u = cc in same)
at-mapped f (x ∷ xs) (suc n) u at = at-mapped f xs n u at

-- ---- versions

-- a version that is left is one that counted, and is done
pub left-from : (F : List Durable) (vs : List Version) (v : Version) → Has v (settled_versions F vs) → (u : Version) × Has u vs × (as_done u ≡ v)
left-from F vs v i =
    let u = has-from_map as_done (filter (counts F) vs) v i in
    (u.0, (has-from_filter (counts F) vs u.0 u.1).0, u.2)

left-holds : (P : Version → Type 0) (F : List Durable) (vs : List Version) → ((u : Version) → P u → P (as_done u)) → All P vs → All P (settled_versions F vs)
left-holds P F vs same all = all-from_has P (settled_versions F vs) each
  where
    each : (v : Version) → Has v (settled_versions F vs) → P v
    each v i = let u = left-from F vs v i in subst P u.2 (same u.0 (has-all P vs u.0 all u.1))

pub left-done : (F : List Durable) (vs : List Version) (v : Version) → Has v (settled_versions F vs) → v.done ≡ true
left-done F vs v i = let u = left-from F vs v i in ap (λ z. z.done) (sym u.2)

pub opened-settled : OpeningsSettleAll
unfolding opened
opened-settled s F t d at =
    let e = at-mapped (opened s F) F t d at in
    record {
      done = λ v i. left-done F e.0.versions v (has-from_contains (settled_versions F e.0.versions) v (subst (λ y. Contains y.versions v) (sym e.2) i));
      entries = ap (λ y. y.entries) (sym e.2);
    }

-- ---- form

form-opened : (s : Script) (F : List Durable) (d : Durable) → IsInForm d → IsInForm (opened s F d)
unfolding opened
form-opened s F d k = record {
  versions = in_order-map version_key as_done (λ v. refl) (filter (counts F) d.versions) ∙ in_order-filter version_key (counts F) d.versions k.versions;
  writes = all-pass is_version_in_form (settled_versions F d.versions) (λ v i. let u = left-from F d.versions v i in ap is_version_in_form (sym u.2) ∙ all-has is_version_in_form d.versions u.0 k.writes u.1);
  entries = refl;
  conts = k.conts;
  floors = k.floors;
  snaps = rising-filter snap_key (is_at_one_of (lasting_snaps s F)) d.snaps k.snaps;
  few_conts = k.few_conts;
  few_snaps = omega (arith, length-filter (is_at_one_of (lasting_snaps s F)) d.snaps, k.few_snaps);
  lease = k.lease;
}

pub opened-form : OpeningsKeepForm
opened-form s F forms t d at = let e = at-mapped (opened s F) F t d at in subst IsInForm e.2 (form-opened s F e.0 (forms t e.0 e.1))

-- ---- soundness

-- replicas agree after the opening on the versions of a test where they agreed on what it passes then
agree-opened : (s : Script) (F : List Durable) (q p : Version → Bool) → ((v : Version) → q v ≡ (counts F v && p (as_done v))) → AgreeOn F q → AgreeOn (opened_family s F) p
agree-opened s F q p same agree c t u d e dkey i j at bt =
    let x = at-mapped (opened s F) F t d at in
    let y = at-mapped (opened s F) F u e bt in
    let many : length (opened_family s F) ≡ length F = length-map (opened s F) F in
    subst (λ z. value_at z c ≡ value_at (map_where p e) c) (sym (map-opened F q p same s x.0) ∙ ap (map_where p) x.2)
    (subst (λ z. value_at (map_where q x.0) c ≡ value_at z c) (sym (map-opened F q p same s y.0) ∙ ap (map_where p) y.2)
    (agree c t u x.0 y.0 dkey (subst (λ n. Contains (path_members c.path n) t) many i) (subst (λ n. Contains (path_members c.path n) u) many j) x.1 y.1))

created-from : (s : Script) (F : List Durable) (x : Snap) → Has x (created_snaps (opened_family s F)) → Has x (lasting_snaps s F) × Has x (created_snaps F)
created-from s F x i =
    let lasts = subst (λ xs. Has x xs) (created-opened s F) i in
    (lasts, (has-from_filter (keeps s) (created_snaps F) x lasts).0)

turned : (x y : Snap) → is_snap_at x.cont x.epoch y ≡ true → is_snap_at y.cont y.epoch x ≡ true
turned x y h =
    let cont = number_same y.cont.0 x.cont.0 (and_left (y.cont.0 == x.cont.0) (y.epoch.0 == x.epoch.0) h) in
    let epoch = number_same y.epoch.0 x.epoch.0 (and_right (y.cont.0 == x.cont.0) (y.epoch.0 == x.epoch.0) h) in
    both (x.cont.0 == y.cont.0) (x.epoch.0 == y.epoch.0)
    (subst (λ n. (x.cont.0 == n) ≡ true) (sym cont) (same_number x.cont.0)) (subst (λ n. (x.epoch.0 == n) ≡ true) (sym epoch) (same_number x.epoch.0))

-- a snapshot that lasts is as frozen as it was
frozen-opened : (s : Script) (F : List Durable) (d : Durable) (x : Snap) → Has x (lasting_snaps s F) → is_frozen d x.cont x.epoch ≡ true → is_frozen (opened s F d) x.cont x.epoch ≡ true
unfolding is_frozen opened
frozen-opened s F d x lasts frozen =
    let y = has-any (is_snap_at x.cont x.epoch) d.snaps frozen in
    any-has (is_snap_at x.cont x.epoch) (filter (is_at_one_of (lasting_snaps s F)) d.snaps) y.0
    (has-filter (is_at_one_of (lasting_snaps s F)) d.snaps y.0 y.1 (any-has (is_snap_at y.0.cont y.0.epoch) (lasting_snaps s F) x lasts (turned x y.0 y.2))) y.2

module _ (s : Script) (F : List Durable) (k : Sound F) where
  agrees : Agree (opened_family s F)
  agrees = record {
    now = agree-opened s F (counts F) (counts (opened_family s F)) (counts-opened F (opened_family s F)) k.agree.now;
    snaps = all-from_has (λ x. AgreeOn (opened_family s F) (counts_at (opened_family s F) x)) (created_snaps (opened_family s F))
        (λ x i. agree-opened s F (counts_at F x) (counts_at (opened_family s F) x) (at-opened F (opened_family s F) x)
        (has-all (λ y. AgreeOn F (counts_at F y)) (created_snaps F) x k.agree.snaps (created-from s F x i).1));
  }

  covered-opened : (d : Durable) → IsCovered d → IsCovered (opened s F d)
  unfolding opened
  covered-opened d c = record {
    versions = left-holds (λ v. v.epoch.0 ≤ restart_floor d.lease) F d.versions (λ u le. le) c.versions;
    entries = All-nil (λ e. e.epoch.0 ≤ restart_floor d.lease);
    floors = c.floors;
    aggregated = c.aggregated;
    snaps = all-from_has (λ x. x.epoch.0 ≤ restart_floor d.lease) (filter (is_at_one_of (lasting_snaps s F)) d.snaps)
        (λ x i. has-all (λ y. y.epoch.0 ≤ restart_floor d.lease) d.snaps x c.snaps (has-from_filter (is_at_one_of (lasting_snaps s F)) d.snaps x i).0);
  }

  at-each : (t : ℕ) (d : Durable) → IsSoundAt F t d → IsSoundAt (opened_family s F) t (opened s F d)
  unfolding opened
  at-each t d c = record {
    covered = covered-opened d c.covered;
    holds = All-nil _;
    unsettled = all-from_has (IsOfEntry (opened s F d)) (settled_versions F d.versions) (λ v i not. let no : ⊥ = cc (not, left-done F d.versions v i) in absurd no);
    placed = subst (λ n. All (IsPlaced n t) (settled_versions F d.versions)) (sym (length-map (opened s F) F)) (left-holds (IsPlaced (length F) t) F d.versions (λ u here. here) c.placed);
    single = pairs-map version_key as_done (filter (counts F) d.versions) (λ v. refl) (AllPairs-filter (λ v w. version_key v ≢ version_key w) (counts F) d.versions c.single);
    frozen = all-from_has (λ x. is_frozen (opened s F d) x.cont x.epoch ≡ true) (created_snaps (opened_family s F))
        (λ x i. let j = created-from s F x i in frozen-opened s F d x j.0 (has-all (λ y. is_frozen d y.cont y.epoch ≡ true) (created_snaps F) x c.frozen j.1));
  }

  none-there : (t : ℕ) (d : Durable) → slice_get (opened_family s F) t ≡ Some d → d.entries ≡ []
  none-there t d at = (opened-settled s F t d at).entries

  sound-opened : Sound (opened_family s F)
  sound-opened = record {
    agree = agrees;
    targets = λ t d at. let e = at-mapped (opened s F) F t d at in subst (IsSoundAt (opened_family s F) t) e.2 (at-each t e.0 (k.targets t e.0 e.1));
    entries = λ t u d f at bt. subst (All (λ e. All (λ g. e.attempt ≡ g.attempt → SayTheSame e g) f.entries)) (sym (none-there t d at)) (All-nil _);
  }

pub opened-sound : OpeningsKeepSound
opened-sound s F k = sound-opened s F k
