-- A freeze, and the creation of a snapshot, leave what a target keeps sound.
use Rattle.std.specs.Prelude.{ℕ, ◌≡◌, ◌≤◌, ◌<◌, ◌/◌, ◌+◌, ◌⊎◌, Bool, true, false, ◌&&◌, not, max, nat_le, length, List, map, Contains, Result, Ok, Err, Some, refl, if◌then◌else◌}
use Rattle.std.proofs.Common.{sym, ap, subst, inl, inr, arith}
use Rattle.std.proofs.lemmas.Bool.Decides.{nat_tests}
use Rattle.base_types.specs.declared.epoch.Epoch.{Epoch}
use Rattle.base_types.specs.declared.id.ContId.{ContId}
use Rattle.base_types.specs.declared.outcome.FloorWhy.{FloorWhy}
use Rattle.base_types.specs.declared.outcome.FloorWhy.TheVariants.{Snapshot}
use Rattle.base_types.specs.declared.shown.Shown.{Shown}
use Rattle.base_types.specs.declared.snapshot.Snap.{Snap}
use Rattle.daos_model.specs.declared.cell.CellValue.{CellValue}
use Rattle.daos_model.specs.declared.durable.ContRow.{ContRow}
use Rattle.daos_model.specs.declared.durable.Durable.{Durable}
use Rattle.daos_model.specs.declared.durable.Version.{Version}
use Rattle.daos_model.specs.Changes.{created, created_at, frozen, new_snap, raised_at}
use Rattle.daos_model.specs.Durables.{IsInForm, entry_of, is_enlisted, is_frozen, is_snap_at, row_of, snap_key}
use Rattle.daos_model.specs.FormLaws.{created-in_form, frozen-in_form}
use Rattle.daos_model.specs.Opening.{Opening, kept_map, top}
use Rattle.daos_model.specs.Ordered.{put}
use Rattle.daos_model.specs.Versions.{version_path}
use Rattle.model_laws.specs.Decided.{AreDecided}
use Rattle.model_laws.specs.EntryLaws.{has-put}
use Rattle.model_laws.specs.MatchLaws.{matches-give}
use Rattle.model_laws.specs.Matches.{GivesAsOf, Matches}
use Rattle.model_laws.specs.Members.{contains-from_has, has-from_contains, has-from_map}
use Rattle.vos_store.specs.Answers.{freezes}
use Rattle.vos_store.specs.declared.refusal.FreezeNo.{FreezeNo}
use Rattle.vos_store.specs.declared.refusal.FreezeNo.TheVariants as freeze
use Rattle.world_commit.specs.attempts.History.{History, Served}
use Rattle.world_commit.specs.world_base.Events.{Rules}
use Rattle.world_contents.specs.frozen.Laws.{CreatesKeepSound, FreezesKeepSound, MayBeFrozen}
use Rattle.world_contents.specs.frozen.Rows.{FloorRises, of-raised_at, raised_at-reaches, raised_at-rises, floor-itself, row-each, row-there}
use Rattle.world_contents.specs.frozen.Shown.{shows-on}
use Rattle.world_contents.specs.reads.Midway.{Sound}
use Rattle.world_contents.specs.reads.Transactions.{counts_by, transactions}
use Rattle.world_contents.specs.reads.Versions.{HoldsMap, SnapshotsStand, VersionsStand, is_own_in, mark_of}

-- ---- other containers and snapshots

-- with other rows and snapshots
abbrev with_tables : List ContRow → List Snap → Durable → Durable
with_tables rows snaps d = record d { conts = rows; snaps = snaps }

-- versions stand on where floors go up alone, and the snapshots stand that are there then
tables-stand : (r : Rules) (o : Opening) (held : List Version) (h : History) (t : ℕ) (d : Durable) (rows : List ContRow) (snaps : List Snap) → IsInForm (with_tables rows snaps d)
    → ((c : ContId) → FloorRises (row_of d c) (row_of (with_tables rows snaps d) c)) → SnapshotsStand r o h t (with_tables rows snaps d) → VersionsStand r o held h t d
    → VersionsStand r o held h t (with_tables rows snaps d)
unfolding entry_of
tables-stand r o held h t d rows snaps form rise stand k = record {
  form = form;
  single = k.single;
  placed = k.placed;
  done = k.done;
  unsettled = λ v i f. let z = k.unsettled v i f in record { entry = z.entry; found = z.found; open' = z.open'; epoch = z.epoch };
  only = k.only;
  whole = k.whole;
  settled = k.settled;
  epochs = k.epochs;
  matches = λ c. subst (λ (e : Epoch). AtMark c (max (top o) e.0 + 1)) (sym (rise c).aggregated) (k.matches c);
  leased = k.leased;
  aggregated = λ c.
      let up = (rise c).floor in
      let low = k.aggregated c in
      subst (λ (e : Epoch). e.0 ≤ max (top o) (row_of (with_tables rows snaps d) c).floor.0) (sym (rise c).aggregated) (omega (arith, up, low));
  clear = λ v i f. subst (λ (e : Epoch). e.0 < v.epoch.0) (sym (rise (version_path v).cont).aggregated) (k.clear v i f);
  snapshots = stand;
}
  where
    AtMark : ContId → ℕ → Type 0
    AtMark c mark = Matches (is_own_in r.script.targets t c) (counts_by h) d.versions o.stand (transactions r.script h) mark

-- ---- a freeze

-- a freeze that isn't refused lies above what was aggregated, and has a place
record IsAdmitted (c : ContId) (s : Epoch) (d : Durable) : Type 0 where
  above : (row_of d c).aggregated.0 < s.0
  place : is_frozen d c s ≡ false → length d.snaps < 256

-- what a freeze is answered
abbrev answered : Bool → Bool → Bool → FreezeNo → Result (Unit {0}) FreezeNo
answered low frozen full below = if low then Err below else if not frozen && full then Err freeze.NoPlace else Ok tt

abbrev freely : Result (Unit {0}) FreezeNo
freely = Ok tt

admits : (c : ContId) (s : Epoch) (d : Durable) → freezes c s d ≡ Ok tt → IsAdmitted c s d
unfolding freezes
admits c s d is = by (nat_le s.0 (row_of d c).aggregated.0) (is_frozen d c s) (nat_le 256 (length d.snaps)) refl refl refl is
  where
    by : (low frozen full : Bool) → nat_le s.0 (row_of d c).aggregated.0 ≡ low → is_frozen d c s ≡ frozen → nat_le 256 (length d.snaps) ≡ full
        → answered low frozen full (freeze.Below (row_of d c).aggregated (row_of d c).number) ≡ freely → IsAdmitted c s d
    by true f g e1 e2 e3 h = let no : ⊥ = cc in absurd no
    by false true g e1 e2 e3 h = record { above = grind (arith, nat_tests); place = λ off. let no : ⊥ = cc (off, e2) in absurd no }
    by false false true e1 e2 e3 h = let no : ⊥ = cc in absurd no
    by false false false e1 e2 e3 h = record { above = grind (arith, nat_tests); place = λ off. grind (arith, nat_tests) }

module _ (r : Rules) (o : Opening) (held : List Version) (h : History) (served : List Served) (opening : Epoch × FloorWhy) (t : ℕ) (stamps : List Shown) (c : ContId) (s : Epoch) (d : Durable)
    (apart : AreDecided (transactions r.script h)) (may : MayBeFrozen o c s d) (k : Sound r o held h served opening t d stamps) where
  abbrev rows : List ContRow
  rows = map (raised_at c s (Snapshot s)) d.conts

  abbrev snaps : List Snap
  snaps = put snap_key (new_snap c s) d.snaps

  abbrev after : Durable
  after = with_tables rows snaps d

  rise : (b : ContId) → FloorRises (row_of d b) (row_of after b)
  unfolding row_of
  rise b = row-each (raised_at c s (Snapshot s)) b (of-raised_at b c s (Snapshot s)) FloorRises d.conts (floor-itself _) (λ q is. raised_at-rises c s (Snapshot s) q)

  reaches : s.0 ≤ (row_of after c).floor.0
  unfolding row_of is_enlisted
  reaches = row-there (raised_at c s (Snapshot s)) c (of-raised_at c c s (Snapshot s)) (λ p q. s.0 ≤ q.floor.0) d.conts may.known (λ q is. raised_at-reaches c s (Snapshot s) q is)

  new-given : GivesAsOf (is_own_in r.script.targets t c) (counts_by h) d.versions o.stand (transactions r.script h) s.0
  new-given =
      let admitted = admits c s d may.allowed in
      let up = admitted.above in
      let more = may.above in
      matches-give (is_own_in r.script.targets t c) (counts_by h) d.versions o.stand (transactions r.script h) (mark_of o d c) s.0 k.stand.single apart (k.stand.matches c) (omega (arith, up, more))

  -- one of the snapshots then is the new one, or was there
  among : (x : Snap) → Contains snaps x → (x ≡ new_snap c s) ⊎ Contains d.snaps x
  among x i = elim (has-put snap_key (new_snap c s) d.snaps x (has-from_contains snaps x i)) [
    | inl new ↦ inl new
    | inr old ↦ inr (contains-from_has d.snaps x old)
  ]

  stand : SnapshotsStand r o h t after
  stand = record {
    floored = λ x i. floored x (among x i);
    leased = λ x i. leased x (among x i);
    kept = λ x m i low is. kept x m (among x i) low is;
    given = λ x i above. given x (among x i) above;
  }
    where
      Was : Snap → Type 0
      Was x = (x ≡ new_snap c s) ⊎ Contains d.snaps x

      floored : (x : Snap) → Was x → x.epoch.0 ≤ (row_of after x.cont).floor.0
      floored x (inl new) = subst (λ y. y.epoch.0 ≤ (row_of after y.cont).floor.0) (sym new) reaches
      floored x (inr old) = let low = k.stand.snapshots.floored x old in let up = (rise x.cont).floor in omega (arith, low, up)

      leased : (x : Snap) → Was x → x.epoch.0 / 256 ≤ d.lease
      leased x (inl new) = subst (λ y. y.epoch.0 / 256 ≤ d.lease) (sym new) may.covered
      leased x (inr old) = k.stand.snapshots.leased x old

      kept : (x : Snap) (m : List CellValue) → Was x → x.epoch.0 ≤ top o → kept_map x.cont x.epoch.0 o.stand.snaps ≡ Some m
          → HoldsMap (is_own_in r.script.targets t x.cont) (counts_by h) d.versions x.epoch.0 m
      kept x m (inl new) low is = let high = may.above in let same : x.epoch.0 ≡ s.0 = ap (λ y. y.epoch.0) new in absurd (omega (arith, high, low, same))
      kept x m (inr old) low is = k.stand.snapshots.kept x m old low is

      given : (x : Snap) → Was x → top o < x.epoch.0 → GivesAsOf (is_own_in r.script.targets t x.cont) (counts_by h) d.versions o.stand (transactions r.script h) x.epoch.0
      given x (inl new) above = subst (λ y. GivesAsOf (is_own_in r.script.targets t y.cont) (counts_by h) d.versions o.stand (transactions r.script h) y.epoch.0) (sym new) new-given
      given x (inr old) above = k.stand.snapshots.given x old above

  new-sound : IsInForm after → Sound r o held h served opening t after stamps
  new-sound form = record {
    stand = tables-stand r o held h t d rows snaps form rise stand k.stand;
    shows = shows-on r served opening t d after stamps (λ b. (rise b).floor) (omega arith) (λ v i. i) k.shows;
  }

  frozen-sound : Sound r o held h served opening t (frozen c s d) stamps
  unfolding frozen
  frozen-sound = by (is_frozen d c s) refl (frozen-in_form c s d (admits c s d may.allowed).place k.stand.form)
    where
      by : (b : Bool) → is_frozen d c s ≡ b → IsInForm (if b then d else after) → Sound r o held h served opening t (if b then d else after) stamps
      by true is form = k
      by false is form = new-sound form

pub freezes-sound : FreezesKeepSound
freezes-sound r o held h served opening t stamps c s d apart may k = frozen-sound r o held h served opening t stamps c s d apart may k

-- ---- a snapshot is created

-- it keeps its container and its epoch
record IsSameSnap (x y : Snap) : Type 0 where
  cont : y.cont ≡ x.cont
  epoch : y.epoch ≡ x.epoch

same-created : (c : ContId) (s : Epoch) (x : Snap) → IsSameSnap x (created_at c s x)
same-created c s x = by (is_snap_at c s x)
  where
    by : (b : Bool) → IsSameSnap x (if b then record x { created = true } else x)
    by true = record { cont = refl; epoch = refl }
    by false = record { cont = refl; epoch = refl }

pub creates-sound : CreatesKeepSound
unfolding created row_of
creates-sound r o held h served opening t stamps c s d k = record {
  stand = tables-stand r o held h t d d.conts (map (created_at c s) d.snaps) (created-in_form c s d k.stand.form) rise stand k.stand;
  shows = shows-on r served opening t d (with_tables d.conts (map (created_at c s) d.snaps) d) stamps (λ b. (rise b).floor) (omega arith) (λ v i. i) k.shows;
}
  where
    rise : (b : ContId) → FloorRises (row_of d b) (row_of (with_tables d.conts (map (created_at c s) d.snaps) d) b)
    rise b = floor-itself _

    was : (x : Snap) → Contains (map (created_at c s) d.snaps) x → (y : Snap) × Contains d.snaps y × IsSameSnap y x
    was x i =
        let y = has-from_map (created_at c s) d.snaps x (has-from_contains (map (created_at c s) d.snaps) x i) in
        (y.0, contains-from_has d.snaps y.0 y.1, subst (IsSameSnap y.0) y.2 (same-created c s y.0))

    stand : SnapshotsStand r o h t (with_tables d.conts (map (created_at c s) d.snaps) d)
    stand = record {
      floored = λ x i. let y = was x i in floored x y.0 y.2 (k.stand.snapshots.floored y.0 y.1);
      leased = λ x i. let y = was x i in subst (λ (e : Epoch). e.0 / 256 ≤ d.lease) (sym y.2.epoch) (k.stand.snapshots.leased y.0 y.1);
      kept = λ x m i low is. let y = was x i in kept x m y.0 y.1 y.2 low is;
      given = λ x i above. let y = was x i in given x y.0 y.1 y.2 above;
    }
      where
        floored : (x y : Snap) → IsSameSnap y x → y.epoch.0 ≤ (row_of d y.cont).floor.0 → x.epoch.0 ≤ (row_of (with_tables d.conts (map (created_at c s) d.snaps) d) x.cont).floor.0
        floored x y same low =
            let up = (rise y.cont).floor in
            subst (λ b. x.epoch.0 ≤ (row_of (with_tables d.conts (map (created_at c s) d.snaps) d) b).floor.0) (sym same.cont)
            (subst (λ (e : Epoch). e.0 ≤ (row_of (with_tables d.conts (map (created_at c s) d.snaps) d) y.cont).floor.0) (sym same.epoch) (omega (arith, low, up)))

        kept : (x : Snap) (m : List CellValue) (y : Snap) → Contains d.snaps y → IsSameSnap y x → x.epoch.0 ≤ top o → kept_map x.cont x.epoch.0 o.stand.snaps ≡ Some m
            → HoldsMap (is_own_in r.script.targets t x.cont) (counts_by h) d.versions x.epoch.0 m
        kept x m y i same = subst (λ b. At b x.epoch) (sym same.cont) (subst (λ e. At y.cont e) (sym same.epoch) (λ low is. k.stand.snapshots.kept y m i low is))
          where
            At : ContId → Epoch → Type 0
            At b e = e.0 ≤ top o → kept_map b e.0 o.stand.snaps ≡ Some m → HoldsMap (is_own_in r.script.targets t b) (counts_by h) d.versions e.0 m

        given : (x y : Snap) → Contains d.snaps y → IsSameSnap y x → top o < x.epoch.0
            → GivesAsOf (is_own_in r.script.targets t x.cont) (counts_by h) d.versions o.stand (transactions r.script h) x.epoch.0
        given x y i same = subst (λ b. At b x.epoch) (sym same.cont) (subst (λ e. At y.cont e) (sym same.epoch) (λ above. k.stand.snapshots.given y i above))
          where
            At : ContId → Epoch → Type 0
            At b e = top o < e.0 → GivesAsOf (is_own_in r.script.targets t b) (counts_by h) d.versions o.stand (transactions r.script h) e.0
