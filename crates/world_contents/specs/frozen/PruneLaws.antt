-- A prune, whole or cut, leaves what a target keeps sound.
use Rattle.std.specs.Prelude.{ℕ, ◌≡◌, ◌≢◌, ◌≤◌, ◌<◌, ◌+◌, ◌==◌, Bool, true, false, ◌&&◌, ◌||◌, nat_le, max, List, Contains, refl}
use Rattle.std.proofs.Common.{sym, ◌∙◌, ap, subst, inr, arith}
use Rattle.std.proofs.lemmas.Bool.Decides.{nat_tests}
use Rattle.base_types.specs.declared.epoch.Epoch.{Epoch}
use Rattle.base_types.specs.declared.id.ContId.{ContId}
use Rattle.base_types.specs.declared.outcome.FloorWhy.{FloorWhy}
use Rattle.base_types.specs.declared.shown.Shown.{Shown}
use Rattle.base_types.specs.declared.snapshot.Snap.{Snap}
use Rattle.daos_model.specs.declared.cell.Cell.{Cell}
use Rattle.daos_model.specs.declared.durable.Durable.{Durable}
use Rattle.daos_model.specs.declared.durable.Version.{Version}
use Rattle.daos_model.specs.BoolLaws.{and_left, and_right, clash}
use Rattle.daos_model.specs.Cells.{value_at}
use Rattle.daos_model.specs.Changes.{marked, marked_at, pruned, with_versions}
use Rattle.daos_model.specs.Durables.{IsInForm, entry_of, is_enlisted, row_of}
use Rattle.daos_model.specs.FormLaws.{marked-in_form, with_versions-in_form}
use Rattle.daos_model.specs.Opening.{Opening, top}
use Rattle.daos_model.specs.Prunes.{Partly, is_going, is_old}
use Rattle.daos_model.specs.Versions.{version_of, version_path}
use Rattle.model_laws.specs.Dated.{map_of}
use Rattle.model_laws.specs.Decided.{AreDecided}
use Rattle.model_laws.specs.Matches.{Matches, counts_under}
use Rattle.model_laws.specs.Members.{Has, contains-from_has, has-filter, has-from_contains, has-from_filter}
use Rattle.model_laws.specs.PruneLaws.{going-old, prunes-order, prunes-sights}
use Rattle.model_laws.specs.PruneMatchLaws.{prunes-elsewhere, prunes-matches, prunes-others, prunes-whole}
use Rattle.model_laws.specs.Targets.{is_own}
use Rattle.model_laws.specs.TargetLaws.{number_same}
use Rattle.world_commit.specs.attempts.History.{History, Served, is_decided}
use Rattle.world_commit.specs.world_base.Events.{Rules}
use Rattle.world_contents.specs.frozen.Laws.{MayBePruned, PartsKeepSound, PrunesKeepSound}
use Rattle.world_contents.specs.frozen.Rows.{IsMarked, row-marked, marks-other, of-marked_at, row-each, row-there}
use Rattle.world_contents.specs.frozen.Shown.{shows-on}
use Rattle.world_contents.specs.reads.Midway.{Sound}
use Rattle.world_contents.specs.reads.Transactions.{counts_by, transactions}
use Rattle.world_contents.specs.reads.Versions.{VersionsStand, is_own_in, mark_of}

-- a version that goes is done
going-done : (c : ContId) (upto : Epoch) (vs : List Version) (snaps : List Snap) (v : Version) → is_going c upto vs snaps v ≡ true → v.done ≡ true
unfolding is_old
going-done c upto vs snaps v going = and_left v.done ((version_path v).cont.0 == c.0) (and_left (v.done && ((version_path v).cont.0 == c.0)) (nat_le v.epoch.0 upto.0) (going-old c upto vs snaps v going))

-- whether a container is another one
data Whether (k c : ContId) : Type 0 where
  Itself : k ≡ c → Whether k c
  Another : k.0 ≢ c.0 → Whether k c

whether : (k c : ContId) → Whether k c
whether k c = by (k.0 == c.0) refl
  where
    cont_of : ℕ → ContId
    cont_of n = record { 0 = n }

    by : (b : Bool) → (k.0 == c.0) ≡ b → Whether k c
    by true is = Itself (ap cont_of (number_same k.0 c.0 is))
    by false is = Another (λ same. grind (arith, nat_tests))

module _ (r : Rules) (o : Opening) (held : List Version) (h : History) (served : List Served) (opening : Epoch × FloorWhy) (t : ℕ) (stamps : List Shown) (c : ContId) (upto : Epoch) (n : ℕ) (d : Durable)
    (apart : AreDecided (transactions r.script h)) (may : MayBePruned o c upto d) (k : Sound r o held h served opening t d stamps) (vs : List Version) (cut : Partly d.versions (is_going c upto d.versions d.snaps) vs) where
  abbrev after : Durable
  after = with_versions vs (marked c upto n d)

  -- ---- rows

  own-row : IsMarked upto (row_of d c) (row_of after c)
  unfolding row_of with_versions marked is_enlisted
  own-row = row-there (marked_at c upto n) c (of-marked_at c c upto n) (IsMarked upto) d.conts may.known (λ q is. row-marked c upto n q is)

  other-row : (b : ContId) → b.0 ≢ c.0 → row_of after b ≡ row_of d b
  unfolding row_of with_versions marked
  other-row b other = row-each (marked_at c upto n) b (of-marked_at b c upto n) (λ p q. q ≡ p) d.conts refl (λ q is. marks-other b c upto n q other is)

  own-mark : (row_of after c).aggregated ≡ upto
  own-mark = own-row.aggregated may.higher

  floors : (b : ContId) → (row_of d b).floor.0 ≤ (row_of after b).floor.0
  floors b = by (whether b c)
    where
      by : Whether b c → (row_of d b).floor.0 ≤ (row_of after b).floor.0
      by (Itself same) = subst (λ x. (row_of d x).floor.0 ≤ (row_of after x).floor.0) (sym same) own-row.floor
      by (Another other) = subst (λ q. (row_of d b).floor.0 ≤ q.floor.0) (sym (other-row b other)) (omega arith)

  -- ---- versions

  old : (v : Version) → Contains vs v → Contains d.versions v
  old v i = contains-from_has d.versions v (has-from_filter cut.stays d.versions v (subst (Has v) cut.left (has-from_contains vs v i))).0

  -- one that isn't settled stays
  stays : (v : Version) → Contains d.versions v → v.done ≡ false → Contains vs v
  stays v i open' =
      contains-from_has vs v (subst (Has v) (sym cut.left) (has-filter cut.stays d.versions v (has-from_contains d.versions v i) (here (cut.stays v) refl)))
    where
      here : (b : Bool) → cut.stays v ≡ b → cut.stays v ≡ true
      here true is = is
      here false is = clash v.done (going-done c upto d.versions d.snaps v (cut.planned v is)) open'

  form : IsInForm after
  unfolding marked with_versions
  form = subst (λ ws. IsInForm (with_versions ws (marked c upto n d))) (sym cut.left) (with_versions-in_form cut.stays (marked c upto n d) (marked-in_form c upto n d k.stand.form))

  -- ---- maps

  counts : (v : Version) → v.done ≡ true → counts_by h v ≡ true
  counts v done = ap (λ b. b || is_decided h v.by) done

  -- a cell of another container
  own-cell : (b : ContId) (x : Cell) → is_own_in r.script.targets t b x ≡ true → x.path.cont.0 ≡ b.0
  own-cell b x own = number_same x.path.cont.0 b.0 (and_right (is_own r.script.targets t x) (x.path.cont.0 == b.0) own)

  matches : (b : ContId) → Matches (is_own_in r.script.targets t b) (counts_by h) vs o.stand (transactions r.script h) (mark_of o after b)
  matches b = by (whether b c)
    where
      At : ContId → ℕ → Type 0
      At x mark = Matches (is_own_in r.script.targets t x) (counts_by h) vs o.stand (transactions r.script h) mark

      raised : mark_of o d c ≤ upto.0 + 1
      raised = let high = may.higher in let top' = may.opening in omega (arith, high, top')

      mark : upto.0 + 1 ≡ mark_of o after c
      mark = let top' = may.opening in let e : upto.0 + 1 ≡ max (top o) upto.0 + 1 = omega (arith, top') in e ∙ ap (λ (z : Epoch). max (top o) z.0 + 1) (sym own-mark)

      by : Whether b c → At b (mark_of o after b)
      by (Itself same) =
          subst (λ x. At x (mark_of o after x)) (sym same)
          (subst (At c) mark (prunes-matches c upto d.snaps (is_own_in r.script.targets t c) (counts_by h) d.versions vs o.stand (transactions r.script h) (mark_of o d c) k.stand.single apart counts cut raised (k.stand.matches c)))
      by (Another other) =
          subst (λ q. At b (max (top o) q.aggregated.0 + 1)) (sym (other-row b other))
          (prunes-others c upto d.snaps (is_own_in r.script.targets t b) (counts_by h) d.versions vs o.stand (transactions r.script h) (mark_of o d b) k.stand.single cut
          (λ x own same. other (sym (own-cell b x own) ∙ same)) (k.stand.matches b))

  -- the map of a snapshot stays
  snap-map : (s : Snap) → Contains d.snaps s → (x : Cell) → is_own_in r.script.targets t s.cont x ≡ true
      → value_at (map_of (counts_under (counts_by h) s.epoch.0) vs) x ≡ value_at (map_of (counts_under (counts_by h) s.epoch.0) d.versions) x
  snap-map s i x own = by (whether s.cont c)
    where
      by : Whether s.cont c → value_at (map_of (counts_under (counts_by h) s.epoch.0) vs) x ≡ value_at (map_of (counts_under (counts_by h) s.epoch.0) d.versions) x
      by (Itself same) = prunes-sights c upto d.snaps (counts_by h) d.versions vs s.epoch.0 k.stand.single counts cut (inr (s, i, ap (λ b. b.0) same, refl)) x
      by (Another other) = prunes-elsewhere c upto d.snaps (counts_under (counts_by h) s.epoch.0) d.versions vs x k.stand.single cut (λ same. other (sym (own-cell s.cont x own) ∙ same))

  stand : VersionsStand r o held h t after
  unfolding with_versions marked entry_of
  stand = record {
    form = form;
    single = prunes-order d.versions vs (is_going c upto d.versions d.snaps) k.stand.single cut;
    placed = λ v i. k.stand.placed v (old v i);
    done = λ v i f. k.stand.done v (old v i) f;
    unsettled = λ v i f. let z = k.stand.unsettled v (old v i) f in record { entry = z.entry; found = z.found; open' = z.open'; epoch = z.epoch };
    only = λ v i f. k.stand.only v (old v i) f;
    whole = λ e m i f at. stays (version_of e m) (k.stand.whole e m i f at) refl;
    settled = k.stand.settled;
    epochs = k.stand.epochs;
    matches = matches;
    leased = λ v i. k.stand.leased v (old v i);
    aggregated = λ b. aggregated b (whether b c);
    clear = λ v i f. clear v (old v i) f (whether (version_path v).cont c);
    snapshots = record {
      floored = λ s i. let low = k.stand.snapshots.floored s i in let up = floors s.cont in omega (arith, low, up);
      leased = k.stand.snapshots.leased;
      kept = λ s m i low is x own. snap-map s i x own ∙ k.stand.snapshots.kept s m i low is x own;
      given = λ s i above x own. snap-map s i x own ∙ k.stand.snapshots.given s i above x own;
    };
  }
    where
      aggregated : (b : ContId) → Whether b c → (row_of after b).aggregated.0 ≤ max (top o) (row_of after b).floor.0
      aggregated b (Itself same) =
          subst (λ x. (row_of after x).aggregated.0 ≤ max (top o) (row_of after x).floor.0) (sym same)
          (subst (λ (e : Epoch). e.0 ≤ max (top o) (row_of after c).floor.0) (sym own-mark) (let up = own-row.reaches in omega (arith, up)))
      aggregated b (Another other) = subst (λ q. q.aggregated.0 ≤ max (top o) q.floor.0) (sym (other-row b other)) (k.stand.aggregated b)

      clear : (v : Version) → Contains d.versions v → v.done ≡ false → Whether (version_path v).cont c → (row_of after (version_path v).cont).aggregated.0 < v.epoch.0
      clear v i f (Itself same) =
          subst (λ x. (row_of after x).aggregated.0 < v.epoch.0) (sym same)
          (subst (λ (e : Epoch). e.0 < v.epoch.0) (sym own-mark) (may.clear v i f (ap (λ b. b.0) same)))
      clear v i f (Another other) = subst (λ q. q.aggregated.0 < v.epoch.0) (sym (other-row (version_path v).cont other)) (k.stand.clear v i f)

  part-sound : Sound r o held h served opening t after stamps
  unfolding with_versions marked
  part-sound = record {
    stand = stand;
    shows = shows-on r served opening t d after stamps floors (omega arith) old k.shows;
  }

pub parts-sound : PartsKeepSound
parts-sound r o held h served opening t stamps c upto n d x apart may part k =
    subst (λ y. Sound r o held h served opening t y stamps) (sym part.2) (part-sound r o held h served opening t stamps c upto n d apart may k part.0 part.1)

pub prunes-sound : PrunesKeepSound
unfolding pruned with_versions
prunes-sound r o held h served opening t stamps c upto n d apart may k =
    part-sound r o held h served opening t stamps c upto n d apart may k (pruned c upto n d).versions (prunes-whole c upto n d)
