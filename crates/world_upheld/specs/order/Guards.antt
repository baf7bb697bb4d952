-- What was aggregated is guarded by floors: an access above them lies behind what was answered before, also where its version is gone.
use Rattle.std.specs.Prelude.{ℕ, ◌≡◌, ◌⊎◌, ◌≤◌, ◌<◌, ◌+◌, ◌*◌, max, nat_le, nat_lt, Bool, true, false, List, ◌∷◌, [], Contains, Option, Some, None, filter, not, ◌&&◌, ◌||◌, ◌==◌, refl, if◌then◌else◌}
use Rattle.std.proofs.Common.{sym, ◌∙◌, ap, subst, inl, inr, arith}
use Rattle.std.proofs.lemmas.Bool.{cases_lt}
use Rattle.std.proofs.lemmas.Bool.Decides.{nat_tests}
use Rattle.base_types.specs.declared.epoch.Epoch.{Epoch}
use Rattle.base_types.specs.declared.id.AttemptId.{AttemptId}
use Rattle.base_types.specs.declared.id.ContId.{ContId}
use Rattle.base_types.specs.declared.operation.MinorWrite.{MinorWrite}
use Rattle.base_types.specs.declared.outcome.Cause.{Cause}
use Rattle.base_types.specs.declared.outcome.Cause.TheVariants as cause
use Rattle.base_types.specs.declared.outcome.FloorWhy.{FloorWhy}
use Rattle.base_types.specs.declared.outcome.FloorWhy.TheVariants as why
use Rattle.base_types.specs.declared.path.Path.{Path}
use Rattle.base_types.specs.declared.shown.Shown.{Shown}
use Rattle.base_types.specs.Operations.{read_path, write_path}
use Rattle.base_types.specs.Paths.{leads_to, overlaps}
use Rattle.daos_model.specs.declared.durable.Durable.{Durable}
use Rattle.daos_model.specs.declared.cell.Cell.{Cell}
use Rattle.daos_model.specs.declared.durable.ContRow.{ContRow}
use Rattle.daos_model.specs.declared.durable.Version.{Version}
use Rattle.daos_model.specs.Durables.{is_frozen, row_of}
use Rattle.daos_model.specs.Opening.{Opening, top}
use Rattle.daos_model.specs.BoolLaws.{both}
use Rattle.daos_model.specs.Prunes.{is_punch, touches}
use Rattle.model_laws.specs.Dated.{Dated, dated, dated_of, is_from}
use Rattle.model_laws.specs.Decided.{all_dated, dated_at}
use Rattle.model_laws.specs.DecidedLaws.{has-dated}
use Rattle.model_laws.specs.Members.{Has, contains-from_has, has-filter, has-from_contains, has-from_filter, has-from_map, has-map}
use Rattle.model_laws.specs.PlaceLaws.{overlaps-container}
use Rattle.model_laws.specs.TargetLaws.{same_number}
use Rattle.model_laws.specs.Targets.{is_own}
use Rattle.model_laws.specs.TouchLaws.{punch-path, update-path}
use Rattle.world_base.specs.vos_stamp.Stamps.{aggregated_cause, floor_cause, or_later}
use Rattle.vos_store.specs.Answers.{floor_of, is_past}
use Rattle.world_legal.specs.world_commit.attempts.Attempts.{writes_of}
use Rattle.world_legal.specs.world_commit.attempts.History.{Decided, History}
use Rattle.world_base.specs.declared.request.FetchRequest.{FetchRequest}
use Rattle.world_base.specs.declared.target.TargetPlan.{TargetPlan}
use Rattle.world_base.specs.Commits.{IsAllowed, first_floor, or_else}
use Rattle.world_base.specs.Events.{Rules, target_plan}
use Rattle.world_base.specs.Reads.{aggregated_unless, fetch_cause, later_of, later_unless, uncertain_from}
use Rattle.world_legal.specs.world_standing.external.Behind.{FirstIsKnown, IsBehind, IsFar, IsFarOfFirst, IsLater, Issued, WritesAt}
use Rattle.world_legal.specs.world_standing.external.Checks.{unrefused}
use Rattle.world_legal.specs.world_contents.reads.Transactions.{counts_by, decided_of, transactions}
use Rattle.world_legal.specs.world_contents.reads.Versions.{VersionsStand, is_own_in, mark_of}

-- an epoch is above what was aggregated of a container in this run
abbrev pub IsAboveAggregated : Opening → Durable → ContId → Epoch → Type 0
IsAboveAggregated o d cont f = ((row_of d cont).aggregated.0 ≤ top o) ⊎ ((row_of d cont).aggregated.0 < f.0)

-- ---- what isn't aggregated is there

-- a write that says what a cell holds is in the cell's container
touched-container : (w : MinorWrite) (c : Cell) → touches c w.write ≡ true → (write_path w.write).cont.0 ≡ c.path.cont.0
unfolding overlaps
touched-container w c touched = by (is_punch w.write) refl
  where
    by : (b : Bool) → is_punch w.write ≡ b → (write_path w.write).cont.0 ≡ c.path.cont.0
    by true is = overlaps-container (write_path w.write) c.path (ap (λ a. a || leads_to c.path (write_path w.write)) (punch-path w.write c is touched))
    by false is = ap (λ p. p.cont.0) (update-path w.write c is touched)

module _ (r : Rules) (o : Opening) (held : List Version) (h : History) (t : ℕ) (d : Durable) (stand : VersionsStand r o held h t d) (x : AttemptId) (e : Epoch)
    (decided : Decided h x e) (m : MinorWrite) (its : WritesAt r x t m)
    (marked : mark_of o d (write_path m.write).cont ≤ e.0) where
  abbrev cont : ContId
  cont = (write_path m.write).cont

  abbrev its_write : Dated
  its_write = dated_at e m

  from-mark : (mark : ℕ) → mark ≤ e.0 → is_from mark its_write ≡ true
  from-mark mark le = grind (arith, nat_tests)

  among : Has its_write (filter (is_from (mark_of o d cont)) (all_dated (transactions r.script h)))
  among =
      has-filter (is_from (mark_of o d cont)) (all_dated (transactions r.script h)) its_write
      (has-dated (transactions r.script h) its_write (record {
        by = decided_of r.script (x, e);
        among = has-map (decided_of r.script) h.decided (x, e) decided;
        has = has-map (dated_at e) (writes_of r x) m (has-from_contains (writes_of r x) m its.of_it);
      }))
      (from-mark (mark_of o d cont) marked)

  own-here : is_own_in r.script.targets t cont its.cell ≡ true
  own-here = both (is_own r.script.targets t its.cell) (its.cell.path.cont.0 == cont.0) its.own
      (ap (λ n. n == cont.0) (sym (touched-container m its.cell its.touched)) ∙ same_number cont.0)

  -- a version of a decided attempt's write stands where it says what a cell holds, above what was aggregated
  version-above : (v : Version) × Contains d.versions v × (v.epoch.0 ≡ e.0) × (v.write ≡ m.write)
  version-above =
      let same = (stand.matches cont).above its.cell own-here its_write its.touched in
      let here = has-from_filter (is_from (mark_of o d cont)) (dated_of (counts_by h) d.versions) its_write
      (has-from_contains _ its_write (same.1 (contains-from_has _ its_write among))) in
      let v = has-from_map dated (filter (counts_by h) d.versions) its_write here.0 in
      (v.0, contains-from_has d.versions v.0 (has-from_filter (counts_by h) d.versions v.0 v.1).0, ap (λ z. z.epoch) v.2, ap (λ z. z.write) v.2)

-- ---- an access lies behind what was answered

-- one above what was aggregated that no later write refuses, also where the version is gone
abbrev pub AccessesLieBehind : Type 0
AccessesLieBehind =
    (r : Rules) (o : Opening) (held : List Version) (h : History) (t : ℕ) (d : Durable) → VersionsStand r o held h t d
    → (issued : Issued) (y : AttemptId) (first : Option Epoch) (f : Epoch) (path : Path) → FirstIsKnown issued y first
    → later_of (target_plan r t) first f path d ≡ None → IsAboveAggregated o d path.cont f → (x : AttemptId) (e : Epoch) (m : MinorWrite) → Decided h x e → top o < e.0
    → WritesAt r x t m
    → overlaps path (write_path m.write) ≡ true
    → IsBehind r.epsilon issued e y f

pub accesses-lie-behind : AccessesLieBehind
accesses-lie-behind r o held h t d stand issued y first f path known none above x e m decided low its over = by (cases_lt (row_of d cont').aggregated.0 e.0)
    (subst (λ c. IsAboveAggregated o d c f) same above)
  where
    cont' : ContId
    cont' = (write_path m.write).cont

    same : path.cont ≡ cont'
    same = ap (λ n. record { 0 = n }) (overlaps-container path (write_path m.write) over)

    held-there : mark_of o d cont' ≤ e.0 → IsBehind r.epsilon issued e y f
    held-there marked = apart first refl (unrefused (target_plan r t) first f path d v.0 none v.1 (subst (λ z. overlaps path (write_path z) ≡ true) (sym v.3) over))
      where
        v : (z : Version) × Contains d.versions z × (z.epoch.0 ≡ e.0) × (z.write ≡ m.write)
        v = version-above r o held h t d stand x e decided m its marked

        apart : (g : Option Epoch) → first ≡ g → (v.0.epoch.0 ≤ f.0) ⊎ (uncertain_from first f + 256 * r.epsilon < v.0.epoch.0) → IsBehind r.epsilon issued e y f
        apart g is (inl le) = IsLater (subst (λ n. n ≤ f.0) v.2 le)
        apart None is (inr far) = IsFar (subst (λ n. f.0 + 256 * r.epsilon < n) v.2 (subst (λ z. uncertain_from z f + 256 * r.epsilon < v.0.epoch.0) is far))
        apart (Some g) is (inr far) = let k = known g is in IsFarOfFirst k.0 g k.1 k.2
            (subst (λ n. g.0 + 256 * r.epsilon < n) v.2 (subst (λ z. uncertain_from z f + 256 * r.epsilon < v.0.epoch.0) is far))

    by : ((row_of d cont').aggregated.0 < e.0) ⊎ (e.0 ≤ (row_of d cont').aggregated.0) → IsAboveAggregated o d cont' f → IsBehind r.epsilon issued e y f
    by (inl higher) guard = held-there (omega (arith, higher, low))
    by (inr gone) (inl before) = let no : ⊥ = omega (arith, gone, before, low) in absurd no
    by (inr gone) (inr guarded) = IsLater (omega (arith, gone, guarded))

-- ---- who is above

none-first : (a b : Option Cause) → or_else a b ≡ None → (a ≡ None) × (b ≡ None)
none-first None b is = (refl, is)
none-first (Some c) b is = let no : ⊥ = cc in absurd no

-- what no floor refuses is above it
unfloored : (target e : ℕ) (floor : Epoch × FloorWhy) → floor_cause target e floor ≡ None → floor.0.0 < e
unfloored target e floor is = by (nat_le e floor.0.0) refl is
  where
    by : (b : Bool) → nat_le e floor.0.0 ≡ b → (if b then Some (cause.Floor target floor.0 floor.1) else None) ≡ None → floor.0.0 < e
    by true at none = let no : ⊥ = cc in absurd no
    by false at none = grind (arith, nat_tests)

-- the floor of a container is at least that which is stored
floor-low : (opening : Epoch × FloorWhy) (d : Durable) (cont : ContId) → (row_of d cont).floor.0 ≤ (floor_of opening d cont).0.0
unfolding floor_of
floor-low opening d cont = by (nat_lt opening.0.0 (row_of d cont).floor.0) refl
  where
    by : (b : Bool) → nat_lt opening.0.0 (row_of d cont).floor.0 ≡ b → (row_of d cont).floor.0 ≤ (if b then ((row_of d cont).floor, (row_of d cont).why) else opening).0.0
    by true at = omega arith
    by false at = grind (arith, nat_tests)

-- writes that aren't refused are above what was aggregated
abbrev pub WritesAreAbove : Type 0
WritesAreAbove =
    (r : Rules) (o : Opening) (held : List Version) (h : History) (t : ℕ) (d : Durable) → VersionsStand r o held h t d
    → (opening : Epoch × FloorWhy) (first : Option Epoch) (f : Epoch) (stamps : List Shown) (ws : List MinorWrite)
    → IsAllowed (target_plan r t) opening first f d stamps ws → (n : MinorWrite) → Has n ws
    → IsAboveAggregated o d (write_path n.write).cont f

each-unfloored : (t : TargetPlan) (opening : Epoch × FloorWhy) (f : Epoch) (d : Durable) (ws : List MinorWrite) → first_floor t opening f d ws ≡ None → (n : MinorWrite) → Has n ws
    → (floor_of opening d (write_path n.write).cont).0.0 < f.0
unfolding first_floor
each-unfloored t opening f d [] none n i = absurd i
each-unfloored t opening f d (w ∷ ws) none n (inl same) =
    subst (λ z. (floor_of opening d (write_path z.write).cont).0.0 < f.0) (sym same)
    (unfloored t.me f.0 (floor_of opening d (write_path w.write).cont)
    (none-first (floor_cause t.me f.0 (floor_of opening d (write_path w.write).cont)) (first_floor t opening f d ws) none).0)
each-unfloored t opening f d (w ∷ ws) none n (inr i) =
    each-unfloored t opening f d ws (none-first (floor_cause t.me f.0 (floor_of opening d (write_path w.write).cont)) (first_floor t opening f d ws) none).1 n i

pub writes-are-above : WritesAreAbove
writes-are-above r o held h t d stand opening first f stamps ws allowed n i = by (cases_lt (top o) (row_of d cont').aggregated.0)
  where
    cont' : ContId
    cont' = (write_path n.write).cont

    low : (row_of d cont').aggregated.0 ≤ max (top o) (row_of d cont').floor.0
    low = stand.aggregated cont'

    floor : (row_of d cont').floor.0 ≤ (floor_of opening d cont').0.0
    floor = floor-low opening d cont'

    under : (floor_of opening d cont').0.0 < f.0
    under = each-unfloored (target_plan r t) opening f d ws allowed.floors n i

    by : (top o < (row_of d cont').aggregated.0) ⊎ ((row_of d cont').aggregated.0 ≤ top o) → IsAboveAggregated o d cont' f
    by (inl higher) = inr (omega (arith, higher, low, floor, under))
    by (inr before) = inl before

-- and so is a read that isn't refused, unless it is at a frozen snapshot
abbrev pub ReadsAreAbove : Type 0
ReadsAreAbove = (p : TargetPlan) (q : FetchRequest) (f : Epoch) (d : Durable) → fetch_cause p q f d ≡ None → is_frozen d (read_path q.read).cont f ≡ false
    → (row_of d (read_path q.read).cont).aggregated.0 < f.0

pub reads-are-above : ReadsAreAbove
unfolding is_past
reads-are-above p q f d none unfrozen = by (nat_le f.0 row.aggregated.0) refl (is_frozen d (read_path q.read).cont f) unfrozen none
  where
    row : ContRow
    row = row_of d (read_path q.read).cont

    by : (b : Bool) → nat_le f.0 row.aggregated.0 ≡ b → (c : Bool) → c ≡ false
        → or_later (aggregated_cause p.me f.0 (aggregated_unless (b && not c) row)) (later_unless q.snapshot (later_of p q.first f (read_path q.read) d)) ≡ None
        → row.aggregated.0 < f.0
    by false at c off is = grind (arith, nat_tests)
    by true at true off is = let no : ⊥ = cc in absurd no
    by true at false off is = refused (nat_le f.0 row.aggregated.0) at is
      where
        refused : (b : Bool) → b ≡ true → or_later (if b then Some (cause.Floor p.me row.aggregated (why.Aggregate row.number)) else None)
            (later_unless q.snapshot (later_of p q.first f (read_path q.read) d)) ≡ None → row.aggregated.0 < f.0
        refused true at is = let no : ⊥ = cc in absurd no
        refused false at is = let no : ⊥ = cc in absurd no
