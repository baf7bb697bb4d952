-- A target serves a read: its answer is right, and is guarded from then on.
use Rattle.std.specs.Prelude.{ℕ, ◌≡◌, ◌⊎◌, ◌<◌, ◌≤◌, ◌/◌, ◌==◌, ◌&&◌, ◌||◌, Bool, true, false, not, nat_lt, List, [], ◌∷◌, ◌++◌, Contains, Option, Some, None, Ok, Err, refl, if◌then◌else◌, nat_le, is_some}
use Rattle.std.proofs.Common.{sym, ◌∙◌, ap, subst, inl, inr, arith}
use Rattle.std.proofs.lemmas.Bool.{cases_lt}
use Rattle.std.proofs.lemmas.Bool.Decides.{nat_tests}
use Rattle.std.proofs.lemmas.List.Elements.{Contains-append_left, Contains-push, Contains-push_cases}
use Rattle.base_types.specs.declared.answer.Answer.{Answer}
use Rattle.base_types.specs.declared.epoch.Epoch.{Epoch}
use Rattle.base_types.specs.declared.operation.Read.{Read}
use Rattle.base_types.specs.declared.outcome.FloorWhy.{FloorWhy}
use Rattle.base_types.specs.declared.shown.Shown.{Shown}
use Rattle.base_types.specs.Operations.{read_path}
use Rattle.base_types.specs.Paths.{overlaps, leads_to}
use Rattle.base_types.specs.PathLaws.{overlaps-comm}
use Rattle.base_types.specs.Placement.{members, ClassFits, groups}
use Rattle.model_laws.specs.Dated.{map_of, AreSingleInOrder}
use Rattle.model_laws.specs.Decided.{AreDecided, taken_in}
use Rattle.model_laws.specs.Matches.{GivesAsOf, counts_under}
use Rattle.model_laws.specs.MatchLaws.{matches-give}
use Rattle.model_laws.specs.Members.{Has, contains-from_has, has-from_contains}
use Rattle.model_laws.specs.ServeLaws.{served-all}
use Rattle.model_laws.specs.TargetLaws.{members-parts, same_number}
use Rattle.model_laws.specs.Targets.{is_own, ArePlaced}
use Rattle.daos_model.specs.declared.durable.Durable.{Durable}
use Rattle.daos_model.specs.declared.durable.Version.{Version}
use Rattle.daos_model.specs.Accesses.{asked_member}
use Rattle.daos_model.specs.Answers.{answer}
use Rattle.daos_model.specs.BoolLaws.{both, clash}
use Rattle.daos_model.specs.Durables.{row_of, is_frozen, is_version_in_form}
use Rattle.daos_model.specs.Opening.{Opening, top, kept_map}
use Rattle.daos_model.specs.Versions.{blocks_read, first_blocking, map_below, version_path}
use Rattle.vos_store.specs.declared.refusal.FetchNo.TheVariants as fetch
use Rattle.vos_store.specs.Answers.{answer_unless, fetched, is_past, floor_of}
use Rattle.world_commit.specs.attempts.History.{History, Served, is_decided}
use Rattle.world_commit.specs.world_base.declared.request.FetchRequest.{FetchRequest}
use Rattle.world_commit.specs.world_base.Events.{Rules}
use Rattle.world_contents.specs.reads.Adds.{served_at}
use Rattle.world_contents.specs.reads.DecideLaws.{mark-low}
use Rattle.world_contents.specs.reads.Given.{IsFetchRight, IsItsSnapshot, IsKept, IsMade}
use Rattle.world_contents.specs.reads.Transactions.{counts_by, transactions}
use Rattle.world_contents.specs.reads.ListLaws.{none-found}
use Rattle.world_contents.specs.reads.Midway.{IsGuardedBy, IsStampOf, Shows}
use Rattle.model_laws.specs.PlaceLaws.{asked-member, group-own, leads-object}
use Rattle.world_contents.specs.reads.Reads.{IsAnsweredRight, IsOfAttempt, map_seen, map_then}
use Rattle.world_contents.specs.reads.Versions.{VersionsStand, is_own_in, mark_of, HoldsMap}
use Rattle.std.specs.List.{list_all}
use Rattle.base_types.specs.declared.id.AttemptId.{AttemptId}
use Rattle.base_types.specs.declared.id.ContId.{ContId}
use Rattle.base_types.specs.declared.id.ObjId.{ObjId}
use Rattle.base_types.specs.declared.path.Path.{Path}
use Rattle.base_types.specs.declared.script.OldDecl.{OldDecl}
use Rattle.base_types.specs.declared.snapshot.Snap.{Snap}
use Rattle.model_laws.specs.Groups.{IsPartUnder, is_in_group}
use Rattle.daos_model.specs.declared.cell.Cell.{Cell}
use Rattle.daos_model.specs.declared.cell.CellValue.{CellValue}
use Rattle.daos_model.specs.AsOf.{as_of}
use Rattle.daos_model.specs.Attempts.{snapshot_of}
use Rattle.daos_model.specs.Cells.{value_at}
use Rattle.daos_model.specs.ReadsLegal.{map_at, old_map}
use Rattle.world_contents.specs.reads.SnapLaws.{frozen-among, leads-container}
use Rattle.world_commit.specs.world_letters.clients.Snapshots.{is_at_snapshot}

-- ---- what a read is answered

-- the versions below its epoch weren't aggregated, and none keeps a read from its answer, which is that on the map below its epoch
pub record IsFree (read : Read) (e : Epoch) (d : Durable) (b : Answer) : Type 0 where
  pub there : is_past (read_path read).cont e d ≡ false
  pub free : first_blocking (read_path read) e.0 d.versions ≡ None
  pub right : b ≡ answer read (map_below d.versions e.0)

pub free-read : (read : Read) (e : Epoch) (d : Durable) (b : Answer) → fetched read e d ≡ Ok b → IsFree read e d b
unfolding fetched
free-read read e d b h = by (is_past (read_path read).cont e d) (first_blocking (read_path read) e.0 d.versions) refl refl h
  where
    by : (past : Bool) (o : Option Version) → is_past (read_path read).cont e d ≡ past → first_blocking (read_path read) e.0 d.versions ≡ o
        → (if past then Err (fetch.Aggregated (row_of d (read_path read).cont).aggregated (row_of d (read_path read).cont).number) else answer_unless o (answer read (map_below d.versions e.0))) ≡ Ok b
        → IsFree read e d b
    by true o p f g = absurd (let no : ⊥ = cc in no)
    by false (Some v) p f g = absurd (let no : ⊥ = cc in no)
    by false None p f g = record { there = p; free = f; right = let same : answer read (map_below d.versions e.0) ≡ b = cc in sym same }

unblocked : (read : Read) (e : Epoch) (vs : List Version) → first_blocking (read_path read) e.0 vs ≡ None → (v : Version) → Contains vs v → blocks_read (read_path read) e.0 v ≡ false
unfolding first_blocking
unblocked read e vs none v i = none-found (blocks_read (read_path read) e.0) vs v none (has-from_contains vs v i)

-- so no unsettled version lies below it
lies-above : (read : Read) (e : Epoch) (v : Version) → blocks_read (read_path read) e.0 v ≡ false → v.done ≡ false → overlaps (version_path v) (read_path read) ≡ true → e.0 ≤ v.epoch.0
unfolding blocks_read
lies-above read e v off open' over = by (cases_lt v.epoch.0 e.0)
  where
    by : v.epoch.0 < e.0 ⊎ e.0 ≤ v.epoch.0 → e.0 ≤ v.epoch.0
    by (inl lt) =
        clash (not v.done && nat_lt v.epoch.0 e.0 && overlaps (read_path read) (version_path v))
        (both (not v.done && nat_lt v.epoch.0 e.0) (overlaps (read_path read) (version_path v)) (both (not v.done) (nat_lt v.epoch.0 e.0) (ap not open') (grind (arith, nat_tests))) (overlaps-comm (read_path read) (version_path v) ∙ over)) off
    by (inr le) = le

-- ---- the answer is right

-- the versions that count give the map as of an epoch above the opening, where those below it weren't aggregated
pub stands-give : (r : Rules) (o : Opening) (held : List Version) (h : History) (t : ℕ) (d : Durable) (cont : ContId) (e : Epoch) → top o < e.0 → is_past cont e d ≡ false → AreDecided (transactions r.script h)
    → VersionsStand r o held h t d → GivesAsOf (is_own_in r.script.targets t cont) (counts_by h) d.versions o.stand (transactions r.script h) e.0
unfolding is_past
stands-give r o held h t d cont e above there apart k = by (is_frozen d cont e) refl (cases_lt (row_of d cont).aggregated.0 e.0)
  where
    Given : ContId → Epoch → Type 0
    Given c f = GivesAsOf (is_own_in r.script.targets t c) (counts_by h) d.versions o.stand (transactions r.script h) f.0

    frozen : (s : Snap) → Contains d.snaps s → s.cont ≡ cont → s.epoch ≡ e → Given cont e
    frozen s i at when = subst (λ c. Given c e) at (subst (Given s.cont) when (k.snapshots.given s i (subst (λ f. top o < f.0) (sym when) above)))

    by : (b : Bool) → is_frozen d cont e ≡ b → ((row_of d cont).aggregated.0 < e.0) ⊎ (e.0 ≤ (row_of d cont).aggregated.0) → Given cont e
    by b is (inl lt) =
        matches-give (is_own_in r.script.targets t cont) (counts_by h) d.versions o.stand (transactions r.script h) (mark_of o d cont) e.0 k.single apart (k.matches cont)
        (mark-low (top o) (row_of d cont).aggregated.0 e.0 lt above)
    by true is (inr le) = let s = frozen-among d cont e is in frozen s.0 s.1 s.2 s.3
    by false is (inr le) =
        clash (nat_le e.0 (row_of d cont).aggregated.0 && not (is_frozen d cont e)) (both (nat_le e.0 (row_of d cont).aggregated.0) (not (is_frozen d cont e)) (grind (arith, nat_tests)) (ap not is)) there

-- the map that an attempt reads, which a target's versions hold at its own cells of a container
pub record SeesMap (r : Rules) (o : Opening) (h : History) (t : ℕ) (d : Durable) (x : AttemptId) (cont : ContId) (e : Epoch) : Type 0 where
  pub map : List CellValue
  pub seen : map_seen r o h x e ≡ Some map
  pub holds : HoldsMap (is_own_in r.script.targets t cont) (counts_by h) d.versions e.0 map

no-snapshot : (r : Rules) (x : AttemptId) → is_at_snapshot r x ≡ false → snapshot_of r.script x ≡ None
no-snapshot r x off = by (snapshot_of r.script x) refl
  where
    by : (n : Option (List ℕ)) → snapshot_of r.script x ≡ n → snapshot_of r.script x ≡ None
    by None is = is
    by (Some name) is = clash (is_at_snapshot r x) (ap is_some is) off

-- one that reads at no snapshot reads the map as of its epoch
pub sees-own : (r : Rules) (o : Opening) (held : List Version) (h : History) (t : ℕ) (d : Durable) (x : AttemptId) (cont : ContId) (e : Epoch) → is_at_snapshot r x ≡ false → top o < e.0 → is_past cont e d ≡ false
    → AreDecided (transactions r.script h) → VersionsStand r o held h t d → SeesMap r o h t d x cont e
sees-own r o held h t d x cont e off above there apart k = record {
  map = map_then r o h e;
  seen = ap (map_at r.script o.stand (taken_in (transactions r.script h)) e.0) (no-snapshot r x off);
  holds = stands-give r o held h t d cont e above there apart k;
}

-- one that reads at a snapshot reads that one's
pub sees-snapshot : (r : Rules) (o : Opening) (held : List Version) (h : History) (t : ℕ) (d : Durable) (x : AttemptId) (cont : ContId) (e : Epoch) → IsItsSnapshot r o x cont e → is_frozen d cont e ≡ true
    → VersionsStand r o held h t d → SeesMap r o h t d x cont e
sees-snapshot r o held h t d x cont e its is k = by its (frozen-among d cont e is)
  where
    At : Option (List ℕ) → Option (List CellValue)
    At n = map_at r.script o.stand (taken_in (transactions r.script h)) e.0 n

    Old : Option OldDecl → Option (List CellValue)
    Old g = old_map o.stand (taken_in (transactions r.script h)) e.0 g

    by : IsItsSnapshot r o x cont e → (s : Snap) × Contains d.snaps s × (s.cont ≡ cont) × (s.epoch ≡ e) → SeesMap r o h t d x cont e
    by (IsKept name old m named found at when low kept) z = record {
      map = m;
      seen = ap At named ∙ ap Old found ∙ ap (λ c. kept_map c old.epoch.0 o.stand.snaps) at ∙ ap (λ f. kept_map cont f.0 o.stand.snaps) when ∙ kept;
      holds = subst (λ c. HoldsMap (is_own_in r.script.targets t c) (counts_by h) d.versions e.0 m) z.2 (subst (λ f. HoldsMap (is_own_in r.script.targets t z.0.cont) (counts_by h) d.versions f.0 m) z.3
          (k.snapshots.kept z.0 m z.1 (subst (λ f. f.0 ≤ top o) (sym z.3) low) (ap (λ c. kept_map c z.0.epoch.0 o.stand.snaps) z.2 ∙ ap (λ f. kept_map cont f.0 o.stand.snaps) z.3 ∙ kept)));
    }
    by (IsMade name named none above) z = record {
      map = map_then r o h e;
      seen = ap At named ∙ ap Old none;
      holds = subst (λ c. HoldsMap (is_own_in r.script.targets t c) (counts_by h) d.versions e.0 (map_then r o h e)) z.2
          (subst (λ f. HoldsMap (is_own_in r.script.targets t z.0.cont) (counts_by h) d.versions f.0 (map_then r o h f)) z.3 (k.snapshots.given z.0 z.1 (subst (λ f. top o < f.0) (sym z.3) above)));
    }

-- ---- the group's part of it

-- at a member the versions make the group's part of a map that they hold at its own cells
part-here : (obj : ObjId) (group targets t : ℕ) (p : Path) (q : Version → Bool) (vs : List Version) (e : ℕ) (m : List CellValue) → ClassFits obj.class targets → group < groups obj.class targets → Contains (members obj group targets) t → p.obj ≡ Some obj
    → AreSingleInOrder vs → list_all is_version_in_form vs ≡ true → ArePlaced targets t vs → ((c : Cell) → leads_to p c.path ≡ true → is_own targets t c ≡ true → value_at (map_of (counts_under q e) vs) c ≡ value_at m c)
    → IsPartUnder obj.class targets p group m (map_of (counts_under q e) vs)
unfolding as_of
part-here obj group targets t p q vs e m fits within member of_object form forms placed holds c under =
    members-parts obj group targets t p q vs (record { now = map_of (counts_under q e) vs; snaps = [] }) [] e fits within member of_object form forms placed (λ k own. refl) c under
    ∙ by (is_in_group obj.class targets group c) refl
  where
    by : (b : Bool) → is_in_group obj.class targets group c ≡ b → (if b then value_at (map_of (counts_under q e) vs) c else None) ≡ (if b then value_at m c else None)
    by true of = holds c under (group-own obj targets group t c (leads-object p c.path obj of_object under) of (has-from_contains (members obj group targets) t member))
    by false of = refl

pub answers-right : (r : Rules) (o : Opening) (held : List Version) (h : History) (t : ℕ) (d : Durable) (q : FetchRequest) (e : Epoch) (b : Answer) → IsFetchRight r t q.attempt q.op q.group q.read q.snapshot
    → SeesMap r o h t d q.attempt (read_path q.read).cont e → IsFree q.read e d b → VersionsStand r o held h t d → IsAnsweredRight r o h (served_at t q e b)
answers-right r o held h t d q e b asks sees free k = record {
  map = sees.map;
  seen = sees.seen;
  obj = asks.obj;
  of_object = asks.of_object;
  part = map_of (counts_under (counts_by h) e.0) d.versions;
  is_part =
      part-here asks.obj q.group r.script.targets t (read_path q.read) (counts_by h) d.versions e.0 sees.map asks.fits asks.within
      (contains-from_has (members asks.obj q.group r.script.targets) t member) asks.of_object k.single k.form.writes k.placed
      (λ c under own. sees.holds c (both (is_own r.script.targets t c) (c.path.cont.0 == (read_path q.read).cont.0) own (ap (λ n. n == (read_path q.read).cont.0) (sym (leads-container (read_path q.read) c.path under)) ∙ same_number (read_path q.read).cont.0)));
  right =
      free.right
      ∙ served-all q.read (counts_by h) d.versions e.0 k.single k.form.writes asks.form (λ v done. ap (λ c. c || is_decided h v.by) done) (unblocked q.read e d.versions free.free);
}
  where
    its : IsOfAttempt r (served_at t q e b)
    its = asks.asked e b

    same : its.obj ≡ asks.obj
    same = let f : Some its.obj ≡ Some asks.obj = sym its.of_object ∙ asks.of_object in cc

    member : Has t (members asks.obj q.group r.script.targets)
    member =
        subst (λ u. Has u (members asks.obj q.group r.script.targets)) (sym its.member)
        (subst (λ y. Has (asked_member its.obj q.attempt.command r.script.targets q.group) (members y q.group r.script.targets)) same (asked-member its.obj q.attempt.command r.script.targets q.group))

-- ---- and is guarded from then on

-- a timestamp that may be raised for a served read
abbrev pub stamp_of : Served → Shown
stamp_of q = record { by = q.by; epoch = q.epoch; path = read_path q.read }

-- it is guarded, by the timestamps that there are then, of which one may be its own
pub record IsShownBy (r : Rules) (opening : Epoch × FloorWhy) (d : Durable) (stamps later : List Shown) (q : Served) : Type 0 where
  pub guards : IsGuardedBy opening d later q
  pub kept : (z : Shown) → Contains stamps z → Contains later z
  pub only : (z : Shown) → Contains later z → Contains stamps z ⊎ ((stamp_of q ≡ z) × (is_at_snapshot r q.by ≡ false))

-- a timestamp is raised for it
pub shown-by_stamp : (r : Rules) (opening : Epoch × FloorWhy) (d : Durable) (stamps : List Shown) (q : Served) → is_at_snapshot r q.by ≡ false → IsShownBy r opening d stamps (stamps ++ stamp_of q ∷ []) q
shown-by_stamp r opening d stamps q off = record {
  guards = inr (Contains-push stamps (stamp_of q));
  kept = λ z i. Contains-append_left stamps (stamp_of q ∷ []) z i;
  only = λ z i. elim (Contains-push_cases stamps (stamp_of q) z i) [ inl j ↦ inl j | inr same ↦ inr (same, off) ];
}

-- or it is at or below the floor, as one at a snapshot is
pub shown-by_floor : (r : Rules) (opening : Epoch × FloorWhy) (d : Durable) (stamps : List Shown) (q : Served) → q.epoch.0 ≤ (floor_of opening d (read_path q.read).cont).0.0 → IsShownBy r opening d stamps stamps q
shown-by_floor r opening d stamps q low = record { guards = inl low; kept = λ z i. i; only = λ z i. inl i }

pub serves-shows : (r : Rules) (served : List Served) (opening : Epoch × FloorWhy) (t : ℕ) (d : Durable) (stamps later : List Shown) (q : FetchRequest) (e : Epoch) (b : Answer) → e.0 / 256 ≤ d.lease → IsFree q.read e d b
    → IsShownBy r opening d stamps later (served_at t q e b) → Shows r served opening t d stamps → Shows r (served_at t q e b ∷ served) opening t d later
serves-shows r served opening t d stamps later x e b covered free by s = record {
  guarded = guarded;
  leased = leased;
  barred = barred;
  stamped = λ z i. stamped z (by.only z i);
}
  where
    one : Served
    one = served_at t x e b

    guarded : (q : Served) → (q ≡ one) ⊎ Has q served → q.target ≡ t → IsGuardedBy opening d later q
    guarded q (inl same) at = subst (IsGuardedBy opening d later) (sym same) by.guards
    guarded q (inr i) at = elim (s.guarded q i at) [ inl low ↦ inl low | inr j ↦ inr (by.kept (stamp_of q) j) ]

    leased : (q : Served) → (q ≡ one) ⊎ Has q served → q.target ≡ t → q.epoch.0 / 256 ≤ d.lease
    leased q (inl same) at = subst (λ p. p.epoch.0 / 256 ≤ d.lease) (sym same) covered
    leased q (inr i) at = s.leased q i at

    barred : (q : Served) (v : Version) → (q ≡ one) ⊎ Has q served → q.target ≡ t → Contains d.versions v → v.done ≡ false → overlaps (version_path v) (read_path q.read) ≡ true → q.epoch.0 ≤ v.epoch.0
    barred q v (inl same) at j f over =
        subst (λ p. p.epoch.0 ≤ v.epoch.0) (sym same)
        (lies-above x.read e v (unblocked x.read e d.versions free.free v j) f (ap (λ p. overlaps (version_path v) (read_path p.read)) (sym same) ∙ over))
    barred q v (inr i) at j f over = s.barred q v i at j f over

    Stamped : Shown → Type 0
    Stamped z = (q : Served) × Has q (one ∷ served) × (q.target ≡ t) × IsStampOf r z q

    stamped : (z : Shown) → Contains stamps z ⊎ ((stamp_of one ≡ z) × (is_at_snapshot r one.by ≡ false)) → Stamped z
    stamped z (inl i) = let y = s.stamped z i in (y.0, inr y.1, y.2, y.3)
    stamped z (inr same) = subst Stamped same.0 (one, inl refl, refl, (refl, refl, refl, same.1))
