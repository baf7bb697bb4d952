-- What the targets stand for, where it is known which attempts are decided that they hold resolved: now, and at each snapshot.
use Rattle.std.specs.Prelude.{ℕ, ◌≡◌, ◌⊎◌, ◌<◌, ◌≤◌, ◌^◌, ◌+◌, ◌*◌, ◌/◌, ◌&&◌, ◌||◌, ◌==◌, Bool, true, false, max, nat_lt, All, Contains, List, [], filter, length, map, slice_get, Some, refl}
use Rattle.std.specs.List.{list_all}
use Rattle.std.proofs.Common.{inl, inr, sym, ◌∙◌, ap, subst, arith}
use Rattle.std.proofs.lemmas.Bool.{cases_lt}
use Rattle.base_types.specs.declared.epoch.Epoch.{Epoch}
use Rattle.base_types.specs.declared.id.ContId.{ContId}
use Rattle.base_types.specs.declared.snapshot.Snap.{Snap}
use Rattle.base_types.specs.Epochs.{restart_floor}
use Rattle.base_types.specs.Scripts.{IsInForm}
use Rattle.model_laws.specs.Decided.{Decided, taken_in}
use Rattle.model_laws.specs.DecidedLaws.{all-from_has}
use Rattle.model_laws.specs.FamilyLaws.{EachGivesOwn, HasNoneUnowned, IsFamilyInForm, as_of-objects, families-agree, families-stand_for}
use Rattle.model_laws.specs.Lists.{at-within, place-of}
use Rattle.model_laws.specs.MatchLaws.{filter_on, matches-give}
use Rattle.model_laws.specs.Matches.{GivesAsOf, counts_under}
use Rattle.model_laws.specs.Members.{Has, contains-from_has, has-from_contains, has-from_map, has-map}
use Rattle.model_laws.specs.TargetLaws.{as_of-dkeys, same_number}
use Rattle.model_laws.specs.Targets.{is_own}
use Rattle.daos_model.specs.declared.cell.CellValue.{CellValue}
use Rattle.daos_model.specs.declared.durable.Durable.{Durable}
use Rattle.daos_model.specs.declared.durable.Version.{Version}
use Rattle.daos_model.specs.declared.stand.SnapMap.{SnapMap}
use Rattle.daos_model.specs.AsOf.{as_of}
use Rattle.daos_model.specs.BoolLaws.{both, clash, false_of}
use Rattle.daos_model.specs.Cells.{value_at}
use Rattle.daos_model.specs.Durables.{is_frozen, is_version_in_form, row_of}
use Rattle.daos_model.specs.Effect.{effects}
use Rattle.daos_model.specs.Family.{Agree, AgreeOn, counts, counts_at, counts_below, created_snaps, map_where, part_of, resolved, snap_map, stand}
use Rattle.daos_model.specs.Finals.{IsKeptIn, IsSameAs, SameMap}
use Rattle.daos_model.specs.FormLaws.{length-map}
use Rattle.daos_model.specs.Opening.{Opening, kept_map, top}
use Rattle.daos_model.specs.Versions.{writes_in}
use Rattle.world_commit.specs.attempts.History.{History, is_decided}
use Rattle.world_base.specs.declared.target.TargetState.{TargetState}
use Rattle.world_base.specs.declared.world.World.{World}
use Rattle.world_base.specs.Events.{Rules}
use Rattle.world_answers.specs.world_contents.reads.ChangeLaws.{decided-has, has-decided}
use Rattle.world_answers.specs.world_contents.reads.Given.{Given}
use Rattle.world_answers.specs.world_contents.reads.SnapLaws.{frozen-among}
use Rattle.world_answers.specs.world_contents.reads.Transactions.{counts_by, transactions, decided_of}
use Rattle.world_answers.specs.world_contents.reads.Versions.{HoldsMap, VersionsStand, is_own_in, mark_of}
use Rattle.world_answers.specs.world_making.freezings.Freezings.{Freezings, IsOfSnap}
use Rattle.world_answers.specs.world_making.freezings.Snapping.{created-frozen}
use Rattle.world_upheld.specs.below.Legal.{from-durables, durable_of, durables_of}
use Rattle.world_upheld.specs.below.Standing.{AreAll}
use Rattle.world_upheld.specs.below.Legal.{Resolves}
use Rattle.world_closing.specs.stands.Containers.{EachGivesIn, IsMapIn, containers-agree, containers-stand_for, part-whole}
use Rattle.world_closing.specs.stands.Covered.{IsWithin, edge_over, row-within}
use Rattle.world_closing.specs.stands.Created.{AreKeptBy, IsCreatedThere, IsKeptOf, created-at, created-from, kept-among, kept-from, same-cont}
use Rattle.world_closing.specs.stands.Stands.{HoldsOpenings, IsMadeHere, StandsForAll}
use Rattle.world_answers.specs.world_contents.posts.ScriptForm.{attempt-writes-form, of-end}
use Rattle.daos_model.specs.Forms.{is_write_in_form}

-- epochs that a lease covers are below a bound
pub below-lease : (x l n : ℕ) → x / 256 ≤ l → l < n → x < n * 256
below-lease x l n a b = omega (arith, a, b)

-- a decided transaction's writes are in form
pub decided-form : (r : Rules) (h : History) (targets : ℕ) → IsInForm targets r.script → (d : Decided) → Contains (transactions r.script h) d → All (λ w. is_write_in_form w.write ≡ true) d.writes
decided-form r h targets form d i =
    let p = has-from_map (decided_of r.script) h.decided d (has-from_contains (transactions r.script h) d i) in
    subst (λ f. All (λ w. is_write_in_form w.write ≡ true) f.writes) p.2 (attempt-writes-form targets r.script p.0.0 form)

-- ---- what is known of the targets

-- There is one for each number. No epoch that one keeps is above the opening and what its lease covers; what is frozen is known; and each snapshot
-- of before the run that target 0 holds as created is one of which the opening keeps a map.
pub record AreStores (r : Rules) (o : Opening) (v : World) : Type 0 where
  pub form : IsInForm r.script.targets r.script
  pub targets : length v.targets ≡ r.script.targets
  pub some : 0 < r.script.targets
  pub within : AreAll (IsWithin (top o)) v
  pub freezings : Freezings r o v
  pub old : AreKeptBy o v

-- ---- plain lemmas

same-truth : (a b : Bool) → (a ≡ true → b ≡ true) → (b ≡ true → a ≡ true) → a ≡ b
same-truth true b there back = sym (there refl)
same-truth false b there back = sym (false_of b (λ is. clash false (back is) refl))

and-true : (a b : Bool) → b ≡ true → a ≡ (a && b)
and-true true b is = sym is
and-true false b is = refl

-- a mark up to which a container was pruned is within a bound that covers the opening and all leases
mark-within : (t a l n last : ℕ) → l < n → n * 256 ≤ last → t < last → a ≤ edge_over t l → max t a + 1 ≤ last
mark-within t a l n last low bound under le = omega (arith, low, bound, under, le)

lease-below : (x l n last : ℕ) → x / 256 ≤ l → l < n → n * 256 ≤ last → x < last
lease-below x l n last a b c = let low : x < n * 256 = below-lease x l n a b in omega (arith, low, c)

-- ---- the family

module _ (r : Rules) (o : Opening) (held : ℕ → List Version) (h : History) (v : World) (given : Given r o held v) (c : Resolves r o held h v) (k : AreStores r o v) where
  abbrev F : List Durable
  F = durables_of v

  abbrev all : List Decided
  all = transactions r.script c.later

  -- what was decided, below an epoch
  abbrev decided_at : ℕ → List CellValue
  decided_at e = as_of o.stand (taken_in all) e

  many : length F ≡ r.script.targets
  many = length-map durable_of v.targets ∙ k.targets

  some-target : 0 < length F
  some-target = subst (λ n. 0 < n) (sym many) k.some

  stand-at : (t : ℕ) (z : TargetState) → slice_get v.targets t ≡ Some z → VersionsStand r o (held t) c.later t z.durable
  stand-at t z here = c.versions.stand t z here

  -- what counts is what is decided in the end
  counts-same : (u : Version) → counts F u ≡ counts_by c.later u
  counts-same u =
      ap (λ b. u.done || b) (same-truth (resolved F u.by) (is_decided c.later u.by)
      (λ is. let z = c.all u.by is in has-decided c.later u.by z.0 z.1)
      (λ is. let z = decided-has c.later u.by is in c.only u.by z.0 z.1))

  below-same : (e t : ℕ) (z : TargetState) → slice_get v.targets t ≡ Some z → filter (counts_below F e) z.durable.versions ≡ filter (counts_under (counts_by c.later) e) z.durable.versions
  below-same e t z here = filter_on (counts_below F e) (counts_under (counts_by c.later) e) z.durable.versions (λ u i. ap (λ b. b && nat_lt u.epoch.0 e) (counts-same u))

  in-form : IsFamilyInForm F
  in-form d i =
      let p = place-of F d (has-from_contains F d i) in
      let z = from-durables v.targets p.0 d p.1 in
      subst (λ y. list_all is_version_in_form y.versions ≡ true) z.2 (stand-at p.0 z.0 z.1).form.writes

  unowned-at : (e : ℕ) → HasNoneUnowned o.stand.now → HasNoneUnowned (decided_at e)
  unowned-at e none cell (inl dkey) = as_of-dkeys o.stand all e (λ d off. none d (inl off)) (decided-form r c.later r.script.targets k.form) cell dkey
  unowned-at e none cell (inr obj) = as_of-objects o.stand all e cell (decided-form r c.later r.script.targets k.form) obj ∙ none cell (inr obj)

  -- ---- now

  module _ (last : ℕ) (late : 2 ^ 64 ≤ last) (high : top o < last) where
    counted-same : (t : ℕ) (z : TargetState) → slice_get v.targets t ≡ Some z → filter (counts F) z.durable.versions ≡ filter (counts_under (counts_by c.later) last) z.durable.versions
    counted-same t z here =
        filter_on (counts F) (counts_under (counts_by c.later) last) z.durable.versions
        (λ u i. counts-same u ∙ and-true (counts_by c.later u) (nat_lt u.epoch.0 last) (of-end u.epoch.0 last
        (lease-below u.epoch.0 z.durable.lease (2 ^ 56) last ((stand-at t z here).leased u (contains-from_has z.durable.versions u i)) (stand-at t z here).form.lease late)))

    own-gives : (t : ℕ) (z : TargetState) → slice_get v.targets t ≡ Some z → GivesAsOf (is_own r.script.targets t) (counts_by c.later) z.durable.versions o.stand all last
    own-gives t z here cell own =
        let d : VersionsStand r o (held t) c.later t z.durable = stand-at t z here in
        matches-give (is_own_in r.script.targets t cell.path.cont) (counts_by c.later) z.durable.versions o.stand all (mark_of o z.durable cell.path.cont) last d.single c.versions.apart (d.matches cell.path.cont)
        (mark-within (top o) (row_of z.durable cell.path.cont).aggregated.0 z.durable.lease (2 ^ 56) last d.form.lease late high (row-within (top o) z.durable cell.path.cont (k.within t z here)).aggregated) cell
        (both (is_own r.script.targets t cell) (cell.path.cont.0 == cell.path.cont.0) own (same_number cell.path.cont.0))

    each-gives : EachGivesOwn F (counts F) (decided_at last)
    each-gives t d at cell own =
        let z = from-durables v.targets t d at in
        subst (λ y. value_at (effects (writes_in (filter (counts F) y.versions)) []) cell ≡ value_at (decided_at last) cell) z.2
        (ap (λ us. value_at (effects (writes_in us) []) cell) (counted-same t z.0 z.1) ∙ own-gives t z.0 z.1 cell (subst (λ n. is_own n t cell ≡ true) many own))

    pub agree-now : AgreeOn F (counts F)
    agree-now = families-agree F (counts F) (decided_at last) each-gives

    pub stands-now : HasNoneUnowned o.stand.now → SameMap (stand F).now (decided_at last)
    unfolding stand
    stands-now none = families-stand_for F (counts F) (decided_at last) some-target in-form each-gives (unowned-at last none)

  -- ---- at snapshots

  -- target 0 is there
  pub target-first : (z : TargetState) × (slice_get v.targets 0 ≡ Some z)
  target-first = let targets : length v.targets ≡ r.script.targets = k.targets in let enough : 0 < r.script.targets = k.some in at-within v.targets 0 (omega (arith, targets, enough))

  -- each target's versions below an epoch that count give a map at the target's own cells of a container
  abbrev GivesBelow : ContId → ℕ → List CellValue → Type 0
  GivesBelow cont e m = (t : ℕ) (z : TargetState) → slice_get v.targets t ≡ Some z → HoldsMap (is_own_in r.script.targets t cont) (counts_by c.later) z.durable.versions e m

  -- what is created is frozen at every target
  frozen-there : (s : Snap) → Has s (created_snaps F) → (t : ℕ) (z : TargetState) → slice_get v.targets t ≡ Some z → (x : Snap) × Contains z.durable.snaps x × (x.cont ≡ s.cont) × (x.epoch ≡ s.epoch)
  frozen-there s i t z here =
      let y = created-from v s i in frozen-among z.durable s.cont s.epoch (k.freezings.everywhere y.z s.cont s.epoch y.here y.created t z here)

  new-gives : (s : Snap) → Has s (created_snaps F) → top o < s.epoch.0 → GivesBelow s.cont s.epoch.0 (decided_at s.epoch.0)
  new-gives s i high t z here =
      let x = frozen-there s i t z here in
      subst (λ a. HoldsMap (is_own_in r.script.targets t a) (counts_by c.later) z.durable.versions s.epoch.0 (decided_at s.epoch.0)) x.2
      (subst (λ e. HoldsMap (is_own_in r.script.targets t x.0.cont) (counts_by c.later) z.durable.versions e.0 (decided_at e.0)) x.3
      ((stand-at t z here).snapshots.given x.0 x.1 (subst (λ e. top o < e.0) (sym x.3) high)))

  old-gives : (s : Snap) (m : List CellValue) → Has s (created_snaps F) → s.epoch.0 ≤ top o → kept_map s.cont s.epoch.0 o.stand.snaps ≡ Some m → GivesBelow s.cont s.epoch.0 m
  old-gives s m i low kept t z here =
      let x = frozen-there s i t z here in
      subst (λ a. HoldsMap (is_own_in r.script.targets t a) (counts_by c.later) z.durable.versions s.epoch.0 m) x.2
      (subst (λ e. HoldsMap (is_own_in r.script.targets t x.0.cont) (counts_by c.later) z.durable.versions e.0 m) x.3
      ((stand-at t z here).snapshots.kept x.0 m x.1 (subst (λ e. e.0 ≤ top o) (sym x.3) low)
      (ap (λ a. kept_map a x.0.epoch.0 o.stand.snaps) x.2 ∙ ap (λ e. kept_map s.cont e.0 o.stand.snaps) x.3 ∙ kept)))

  each-in : (s : Snap) (m : List CellValue) → GivesBelow s.cont s.epoch.0 m → EachGivesIn F (counts_below F s.epoch.0) s.cont m
  each-in s m gives t d at cell own =
      let z = from-durables v.targets t d at in
      subst (λ y. value_at (map_where (counts_below F s.epoch.0) y) cell ≡ value_at m cell) z.2
      (ap (λ us. value_at (effects (writes_in us) []) cell) (below-same s.epoch.0 t z.0 z.1) ∙ gives t z.0 z.1 cell (subst (λ n. is_own_in n t s.cont cell ≡ true) many own))

  -- a snapshot of before the run is one of which the opening keeps a map
  was-kept : (s : Snap) → Has s (created_snaps F) → s.epoch.0 ≤ top o → (m : List CellValue) × (kept_map s.cont s.epoch.0 o.stand.snaps ≡ Some m)
  was-kept s i low = let y = created-from v s i in k.old y.z s.cont s.epoch y.here y.created low

  agree-at : (s : Snap) → Has s (created_snaps F) → AgreeOn F (counts_at F s)
  agree-at s i = elim (cases_lt (top o) s.epoch.0) [
    | inl high ↦ containers-agree F (counts_below F s.epoch.0) s.cont (decided_at s.epoch.0) (each-in s (decided_at s.epoch.0) (new-gives s i high))
    | inr low ↦ (let m = was-kept s i low in containers-agree F (counts_below F s.epoch.0) s.cont m.0 (each-in s m.0 (old-gives s m.0 i low m.1)))
  ]

  -- replicas agree, now and at each created snapshot
  pub replicas-agree : Agree F
  replicas-agree = record {
    now = agree-now (2 ^ 64 + top o + 1) (bound (2 ^ 64) (top o)).0 (bound (2 ^ 64) (top o)).1;
    snaps = all-from_has (λ s. AgreeOn F (counts_at F s)) (created_snaps F) (λ s i. agree-at s i);
  }
    where
      bound : (n t : ℕ) → (n ≤ n + t + 1) × (t < n + t + 1)
      bound n t = (omega arith, omega arith)

  -- a created snapshot is frozen at every target
  pub all-frozen : (t : ℕ) (z : TargetState) → slice_get v.targets t ≡ Some z → All (λ s. is_frozen z.durable s.cont s.epoch ≡ true) (created_snaps F)
  all-frozen t z here = all-from_has (λ s. is_frozen z.durable s.cont s.epoch ≡ true) (created_snaps F) (λ s i. let y = created-from v s i in k.freezings.everywhere y.z s.cont s.epoch y.here y.created t z here)

  -- ---- what they stand for at snapshots

  module _ (first : HoldsOpenings o v) (low-first : (s : SnapMap) → Contains o.stand.snaps s → s.epoch.0 ≤ top o) where
    new-map : (s : Snap) → Has s (created_snaps F) → top o < s.epoch.0 → SameMap (snap_map F s).map (part_of s.cont (decided_at s.epoch.0))
    new-map s i high =
        containers-stand_for F (counts_below F s.epoch.0) s.cont (decided_at s.epoch.0) (each-in s (decided_at s.epoch.0) (new-gives s i high)) some-target in-form (unowned-at s.epoch.0 first.unowned)

    old-map : (s : Snap) (m : List CellValue) → Has s (created_snaps F) → s.epoch.0 ≤ top o → kept_map s.cont s.epoch.0 o.stand.snaps ≡ Some m → SameMap (snap_map F s).map m
    old-map s m i low kept cell =
        containers-stand_for F (counts_below F s.epoch.0) s.cont m (each-in s m (old-gives s m i low kept)) some-target in-form is.unowned cell ∙ part-whole s.cont m is cell
      where
        j : IsKeptOf o.stand.snaps s.cont s.epoch.0 m
        j = kept-from o.stand.snaps s.cont s.epoch.0 m kept

        is : IsMapIn s.cont m
        is = subst (IsMapIn s.cont) j.map (subst (λ a. IsMapIn a j.k.map) (same-cont j.k.cont s.cont j.cont) (first.snaps j.k (contains-from_has o.stand.snaps j.k j.among)).map)

    -- target 0's snapshots are those of the opening, and new ones
    pub each-snap : (s : Snap) → Has s (created_snaps F) → IsKeptIn o.stand.snaps (snap_map F s) ⊎ IsMadeHere r o v all (snap_map F s)
    each-snap s i = elim (cases_lt (top o) s.epoch.0) [
      | inl high ↦ inr (record { above = high; made = made high; map = new-map s i high })
      | inr low ↦ inl (let m = was-kept s i low in subst (IsSameAs (snap_map F s).map) (sym m.1) (old-map s m.0 i low m.1))
    ]
      where
        made : top o < s.epoch.0 → IsOfSnap r v.issued s.cont s.epoch
        made high =
            let y = created-from v s i in
            elim (k.freezings.origin 0 y.z s.cont s.epoch y.here (created-frozen y.z.durable s.cont s.epoch y.created)) [
              | inl low ↦ absurd (omega (arith, low, high))
              | inr of ↦ of
            ]

    pub all-snaps : All (λ s. IsKeptIn o.stand.snaps s ⊎ IsMadeHere r o v all s) (stand F).snaps
    unfolding stand
    all-snaps = all-from_has (λ s. IsKeptIn o.stand.snaps s ⊎ IsMadeHere r o v all s) (map (snap_map F) (created_snaps F))
        (λ x i. let z = has-from_map (snap_map F) (created_snaps F) x i in subst (λ y. IsKeptIn o.stand.snaps y ⊎ IsMadeHere r o v all y) z.2 (each-snap z.0 z.1))

    -- and each of them target 0 holds as created
    pub created-then : (s : SnapMap) → Has s (stand F).snaps → IsCreatedThere v s.cont s.epoch
    unfolding stand
    created-then s i = let z = has-from_map (snap_map F) (created_snaps F) s i in subst (λ y. IsCreatedThere v y.cont y.epoch) z.2 (created-from v z.0 z.1)

    -- a snapshot that target 0 holds as created is kept
    pub created-kept : (cont : ContId) (s : Epoch) → IsCreatedThere v cont s → (x : Snap) × Has x (created_snaps F) × (x.cont.0 ≡ cont.0) × (x.epoch.0 ≡ s.0) × (kept_map cont s.0 (stand F).snaps ≡ Some (snap_map F x).map)
    unfolding stand
    created-kept cont s at =
        let y = created-at v cont s at in
        let m = kept-among (map (snap_map F) (created_snaps F)) cont s.0 (snap_map F y.s) (has-map (snap_map F) (created_snaps F) y.s y.among) y.cont y.epoch in
        let j = kept-from (map (snap_map F) (created_snaps F)) cont s.0 m.0 m.1 in
        let z = has-from_map (snap_map F) (created_snaps F) j.k j.among in (
          z.0,
          z.1,
          ap (λ q. q.cont.0) z.2 ∙ j.cont,
          ap (λ q. q.epoch.0) z.2 ∙ j.epoch,
          m.1 ∙ ap (λ n. Some n) (sym j.map) ∙ ap (λ q. Some q.map) (sym z.2),
        )

    -- so are those of the opening, with the same maps
    each-old : (s : SnapMap) → Contains o.stand.snaps s → IsKeptIn (stand F).snaps s
    each-old s i = subst (IsSameAs s.map) (sym x.4) (λ cell. sym (old-map x.0 s.map x.1 (subst (λ n. n ≤ top o) (sym x.3) (low-first s i)) named cell))
      where
        there : IsCreatedThere v s.cont s.epoch
        there = record { z = target-first.0; here = target-first.1; created = (first.snaps s i).created target-first.0 target-first.1 }

        x : (y : Snap) × Has y (created_snaps F) × (y.cont.0 ≡ s.cont.0) × (y.epoch.0 ≡ s.epoch.0) × (kept_map s.cont s.epoch.0 (stand F).snaps ≡ Some (snap_map F y).map)
        x = created-kept s.cont s.epoch there

        named : kept_map x.0.cont x.0.epoch.0 o.stand.snaps ≡ Some s.map
        named = ap (λ a. kept_map a x.0.epoch.0 o.stand.snaps) (same-cont x.0.cont s.cont x.2) ∙ ap (λ n. kept_map s.cont n o.stand.snaps) x.3 ∙ (first.snaps s i).once

    pub all-old : All (IsKeptIn (stand F).snaps) o.stand.snaps
    all-old = all-from_has (IsKeptIn (stand F).snaps) o.stand.snaps (λ s i. each-old s (contains-from_has o.stand.snaps s i))

    -- ---- all of it

    pub now-map : SameMap (stand F).now (decided_at (2 ^ 64))
    now-map = stands-now (2 ^ 64) (omega arith) (under (top o) o.lease (2 ^ 56) refl first.lease) first.unowned
      where
        under : (t l n : ℕ) → t ≡ restart_floor l → l < n → t < n * 256
        under t l n is low = omega (arith, is, low)

    pub stands-for_all : StandsForAll r o v
    stands-for_all = record {
      attempts = c.later.decided;
      only = λ x e i. (let d = has-from_contains c.later.decided (x, e) i in (c.only x e d, given.above x e (c.versions.issued x e d)));
      all = λ x is. (let z = c.all x is in (z.0, contains-from_has c.later.decided (x, z.0) z.1));
      apart = c.versions.apart;
      now = now-map;
      old = all-old;
      snaps = all-snaps;
      agree = replicas-agree;
    }
