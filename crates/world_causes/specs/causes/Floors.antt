-- What floor refuses an access, and that it is told; and what a later write is that refuses one.
use Rattle.std.specs.Prelude.{ℕ, ◌≡◌, ◌≤◌, ◌<◌, ◌+◌, ◌*◌, true, false, ◌&&◌, not, nat_le, nat_lt, Any, Bool, List, [], ◌∷◌, find, slice_get, Option, Some, None, Err, refl, if◌then◌else◌}
use Rattle.std.proofs.Common.{inl, inr, sym, ◌∙◌, ap, subst, arith}
use Rattle.std.proofs.lemmas.Bool.Decides.{nat_tests}
use Rattle.base_types.specs.declared.epoch.Epoch.{Epoch}
use Rattle.base_types.specs.declared.id.AttemptId.{AttemptId}
use Rattle.base_types.specs.declared.id.ContId.{ContId}
use Rattle.base_types.specs.declared.operation.MinorWrite.{MinorWrite}
use Rattle.base_types.specs.declared.operation.Read.{Read}
use Rattle.base_types.specs.declared.outcome.Cause.{Cause}
use Rattle.base_types.specs.declared.outcome.Cause.TheVariants.{Floor}
use Rattle.base_types.specs.declared.outcome.FloorWhy.{FloorWhy}
use Rattle.base_types.specs.declared.outcome.FloorWhy.TheVariants as why
use Rattle.base_types.specs.declared.path.Path.{Path}
use Rattle.base_types.specs.declared.report.Line.{Line}
use Rattle.base_types.specs.declared.shown.Shown.{Shown}
use Rattle.base_types.specs.Operations.{read_path, write_path}
use Rattle.base_types.specs.Paths.{overlaps}
use Rattle.model_laws.specs.EntryLaws.{found-has, found-passes}
use Rattle.model_laws.specs.Members.{Has}
use Rattle.daos_model.specs.declared.durable.ContRow.{ContRow}
use Rattle.daos_model.specs.declared.durable.Durable.{Durable}
use Rattle.daos_model.specs.declared.durable.Version.{Version}
use Rattle.daos_model.specs.Answers.{answer}
use Rattle.daos_model.specs.BoolLaws.{and_left, and_right, not_true}
use Rattle.daos_model.specs.CausesShown.{ShowsFloor}
use Rattle.daos_model.specs.Durables.{is_row_of, row_of, row_or_new}
use Rattle.daos_model.specs.Opening.{Opening, top}
use Rattle.daos_model.specs.Versions.{blocks_read, first_between, first_blocking, is_between, map_below, version_path}
use Rattle.world_base.specs.vos_stamp.Stamps.{aggregated_cause, floor_cause, later_cause, or_later, write_later}
use Rattle.vos_store.specs.declared.refusal.FetchNo.TheVariants as fetch
use Rattle.vos_store.specs.Answers.{answer_unless, fetched, floor_of, is_past, later_floor, later_write, shown_or_none, shown_version}
use Rattle.world_base.specs.declared.request.FetchRequest.{FetchRequest}
use Rattle.world_base.specs.declared.target.Life.TheVariants.{Running}
use Rattle.world_base.specs.declared.target.TargetPlan.{TargetPlan}
use Rattle.world_base.specs.declared.target.TargetState.{TargetState}
use Rattle.world_base.specs.declared.world.World.{World}
use Rattle.world_base.specs.Commits.{first_floor, first_later, or_else}
use Rattle.world_base.specs.Reads.{aggregated_above, aggregated_unless, fetch_cause, later_of, later_unless, uncertain_from, uncertain_to}
use Rattle.world_causes.specs.causes.Shown.{FloorsShown, HasLine, IsOfBefore, IsTold}

-- the floors of a target, and what it aggregated to, are told
pub record AreTold (o : Opening) (lines : List Line) (t : ℕ) (opening : Epoch × FloorWhy) (d : Durable) : Type 0 where
  pub floor : (cont : ContId) → IsTold o lines t cont (floor_of opening d cont).0 (floor_of opening d cont).1
  pub aggregated : (cont : ContId) → IsTold o lines t cont (row_of d cont).aggregated (why.Aggregate (row_of d cont).number)

-- ---- floors

-- a floor that refuses an epoch above the opening's has its line
pub has-line : (o : Opening) (lines : List Line) (t : ℕ) (cont : ContId) (floor : Epoch) (reason : FloorWhy) (e : ℕ) → top o < e → e ≤ floor.0 → IsTold o lines t cont floor reason → Any (ShowsFloor t floor cont reason) lines
has-line o lines t cont floor reason e above reached (IsOfBefore low) = absurd (omega (arith, above, reached, low))
has-line o lines t cont floor reason e above reached (HasLine i) = i

-- a floor that refuses an epoch
pub record IsFloorAt (t e : ℕ) (floor : Epoch × FloorWhy) (c : Cause) : Type 0 where
  pub reached : e ≤ floor.0.0
  pub is : c ≡ Floor t floor.0 floor.1

refused-by : (t e : ℕ) (floor : Epoch × FloorWhy) (c : Cause) → floor_cause t e floor ≡ Some c → IsFloorAt t e floor c
refused-by t e floor c h = by (nat_le e floor.0.0) refl h
  where
    by : (b : Bool) → nat_le e floor.0.0 ≡ b → (if b then Some (Floor t floor.0 floor.1) else None) ≡ Some c → IsFloorAt t e floor c
    by true is k = record { reached = grind (arith, nat_tests); is = let same : Floor t floor.0 floor.1 ≡ c = cc in sym same }
    by false is k = let no : ⊥ = cc in absurd no

-- the write of which a floor is shown
pub first-floor-is : (t : TargetPlan) (opening : Epoch × FloorWhy) (e : Epoch) (d : Durable) (ws : List MinorWrite) (c : Cause) → first_floor t opening e d ws ≡ Some c
    → (w : MinorWrite) × Has w ws × IsFloorAt t.me e.0 (floor_of opening d (write_path w.write).cont) c
unfolding first_floor
first-floor-is t opening e d [] c h = let no : ⊥ = cc in absurd no
first-floor-is t opening e d (w ∷ ws) c h = by (first-floor-is t opening e d ws c) (floor_cause t.me e.0 (floor_of opening d (write_path w.write).cont)) refl h
  where
    by : (first_floor t opening e d ws ≡ Some c → (w : MinorWrite) × Has w ws × IsFloorAt t.me e.0 (floor_of opening d (write_path w.write).cont) c) → (f : Option Cause) → floor_cause t.me e.0 (floor_of opening d (write_path w.write).cont) ≡ f
        → or_else f (first_floor t opening e d ws) ≡ Some c → (u : MinorWrite) × Has u (w ∷ ws) × IsFloorAt t.me e.0 (floor_of opening d (write_path u.write).cont) c
    by rest None k f = let m = rest f in (m.0, inr m.1, m.2)
    by rest (Some y) k f = (w, inl refl, refused-by t.me e.0 (floor_of opening d (write_path w.write).cont) c (k ∙ f))

-- ---- later writes

-- a version that refuses an access on a path: it is later, within what the clocks leave uncertain, and overlaps
pub record IsLater (t : TargetPlan) (first : Option Epoch) (e : Epoch) (p : Path) (d : Durable) (z : Shown) : Type 0 where
  pub v : Version
  pub among : Has v d.versions
  pub shown : shown_version v ≡ z
  pub above : e.0 < v.epoch.0
  pub within : v.epoch.0 ≤ uncertain_from first e + 256 * t.epsilon
  pub overlap : overlaps p (version_path v) ≡ true

above-is : (m n : ℕ) → nat_lt m n ≡ true → m < n
above-is m n h = grind (arith, nat_tests)

within-is : (m n : ℕ) → nat_le m n ≡ true → m ≤ n
within-is m n h = grind (arith, nat_tests)

pub later-is : (t : TargetPlan) (first : Option Epoch) (e : Epoch) (p : Path) (d : Durable) (z : Shown) → later_of t first e p d ≡ Some z → IsLater t first e p d z
unfolding later_write first_between is_between
later-is t first e p d z h = by (find (is_between p e.0 (uncertain_to t first e).0) d.versions) refl h
  where
    by : (o : Option Version) → find (is_between p e.0 (uncertain_to t first e).0) d.versions ≡ o → shown_or_none o ≡ Some z → IsLater t first e p d z
    by None k f = let no : ⊥ = cc in absurd no
    by (Some v) k f =
        let passes : is_between p e.0 (uncertain_to t first e).0 v ≡ true = found-passes (is_between p e.0 (uncertain_to t first e).0) d.versions v k in
        let both = and_left (nat_lt e.0 v.epoch.0 && nat_le v.epoch.0 (uncertain_to t first e).0) (overlaps p (version_path v)) passes in
        record {
          v = v;
          among = found-has (is_between p e.0 (uncertain_to t first e).0) d.versions v k;
          shown = cc;
          above = above-is e.0 v.epoch.0 (and_left (nat_lt e.0 v.epoch.0) (nat_le v.epoch.0 (uncertain_to t first e).0) both);
          within = within-is v.epoch.0 (uncertain_from first e + 256 * t.epsilon) (and_right (nat_lt e.0 v.epoch.0) (nat_le v.epoch.0 (uncertain_to t first e).0) both);
          overlap = and_right (nat_lt e.0 v.epoch.0 && nat_le v.epoch.0 (uncertain_to t first e).0) (overlaps p (version_path v)) passes;
        }

-- the write of which a later one is shown
pub first-later-is : (t : TargetPlan) (first : Option Epoch) (e : Epoch) (d : Durable) (ws : List MinorWrite) (z : Shown) → first_later t first e d ws ≡ Some z
    → (w : MinorWrite) × Has w ws × (later_of t first e (write_path w.write) d ≡ Some z)
unfolding first_later
first-later-is t first e d [] z h = let no : ⊥ = cc in absurd no
first-later-is t first e d (w ∷ ws) z h = by (first-later-is t first e d ws z) (later_of t first e (write_path w.write) d) refl h
  where
    by : (first_later t first e d ws ≡ Some z → (w : MinorWrite) × Has w ws × (later_of t first e (write_path w.write) d ≡ Some z)) → (o : Option Shown) → later_of t first e (write_path w.write) d ≡ o
        → or_else o (first_later t first e d ws) ≡ Some z → (u : MinorWrite) × Has u (w ∷ ws) × (later_of t first e (write_path u.write) d ≡ Some z)
    by rest None k f = let m = rest f in (m.0, inr m.1, m.2)
    by rest (Some y) k f = (w, inl refl, k ∙ f)

-- ---- reads

-- why a read is refused: the versions at its epoch were aggregated, or a later write
pub data IsReadRefused (t : TargetPlan) (q : FetchRequest) (e : Epoch) (d : Durable) (c : Cause) : Type 0 where
  IsAggregated : IsFloorAt t.me e.0 ((row_of d (read_path q.read).cont).aggregated, why.Aggregate (row_of d (read_path q.read).cont).number) c → IsReadRefused t q e d c
  IsWritten : (z : Shown) → later_of t q.first e (read_path q.read) d ≡ Some z → c ≡ write_later z → IsReadRefused t q e d c

pub read-refused : (t : TargetPlan) (q : FetchRequest) (e : Epoch) (d : Durable) (c : Cause) → q.snapshot ≡ false → fetch_cause t q e d ≡ Some c → IsReadRefused t q e d c
read-refused t q e d c plain h = by (is_past (read_path q.read).cont e d) (subst (λ b. or_later (aggregated_cause t.me e.0 (aggregated_above (read_path q.read) e d)) (later_unless b (later_of t q.first e (read_path q.read) d)) ≡ Some c) plain h)
  where
    written : (o : Option Shown) → later_of t q.first e (read_path q.read) d ≡ o → later_cause o ≡ Some c → IsReadRefused t q e d c
    written None k f = let no : ⊥ = cc in absurd no
    written (Some z) k f = IsWritten z k (let same : write_later z ≡ c = cc in sym same)

    row : ContRow
    row = row_of d (read_path q.read).cont

    floored : (o : Option Cause) → floor_cause t.me e.0 (row.aggregated, why.Aggregate row.number) ≡ o → or_later o (later_of t q.first e (read_path q.read) d) ≡ Some c → IsReadRefused t q e d c
    floored None k f = written (later_of t q.first e (read_path q.read) d) refl f
    floored (Some y) k f = IsAggregated (refused-by t.me e.0 (row.aggregated, why.Aggregate row.number) c (k ∙ f))

    by : (b : Bool) → or_later (aggregated_cause t.me e.0 (aggregated_unless b (row_of d (read_path q.read).cont))) (later_of t q.first e (read_path q.read) d) ≡ Some c → IsReadRefused t q e d c
    by false f = written (later_of t q.first e (read_path q.read) d) refl f
    by true f = floored (floor_cause t.me e.0 (row.aggregated, why.Aggregate row.number)) refl f

-- a version that is in a read's way: it isn't settled, it is below the read's epoch, and overlaps
pub record IsInTheWay (r : Read) (e : Epoch) (d : Durable) (a : AttemptId) : Type 0 where
  pub v : Version
  pub among : Has v d.versions
  pub unsettled : v.done ≡ false
  pub its : v.by ≡ a
  pub below : v.epoch.0 < e.0
  pub overlap : overlaps (read_path r) (version_path v) ≡ true

-- one that meets an attempt meets such a version of it
pub meets-open : (r : Read) (e : Epoch) (d : Durable) (a : AttemptId) → fetched r e d ≡ Err (fetch.Unsettled a) → IsInTheWay r e d a
unfolding fetched first_blocking blocks_read
meets-open r e d a h = past (is_past (read_path r).cont e d) h
  where
    found : (v : Version) → blocks_read (read_path r) e.0 v ≡ true → Has v d.versions → v.by ≡ a → IsInTheWay r e d a
    found v k among its =
        let both = and_left (not v.done && nat_lt v.epoch.0 e.0) (overlaps (read_path r) (version_path v)) k in
        record {
          v = v;
          among = among;
          unsettled = not_true v.done (and_left (not v.done) (nat_lt v.epoch.0 e.0) both);
          its = its;
          below = above-is v.epoch.0 e.0 (and_right (not v.done) (nat_lt v.epoch.0 e.0) both);
          overlap = and_right (not v.done && nat_lt v.epoch.0 e.0) (overlaps (read_path r) (version_path v)) k;
        }

    by : (o : Option Version) → find (blocks_read (read_path r) e.0) d.versions ≡ o → answer_unless o (answer r (map_below d.versions e.0)) ≡ Err (fetch.Unsettled a) → IsInTheWay r e d a
    by None k f = let no : ⊥ = cc in absurd no
    by (Some v) k f = found v (found-passes (blocks_read (read_path r) e.0) d.versions v k) (found-has (blocks_read (read_path r) e.0) d.versions v k) (cc)

    past : (b : Bool) → (if b then Err (fetch.Aggregated (row_of d (read_path r).cont).aggregated (row_of d (read_path r).cont).number) else answer_unless (first_blocking (read_path r) e.0 d.versions) (answer r (map_below d.versions e.0))) ≡ Err (fetch.Unsettled a) → IsInTheWay r e d a
    past true f = let no : ⊥ = cc in absurd no
    past false f = by (find (blocks_read (read_path r) e.0) d.versions) refl f

-- ---- rows that stay

pub row-stays : (d x : Durable) (cont : ContId) → x.conts ≡ d.conts → row_of x cont ≡ row_of d cont
unfolding row_of
row-stays d x cont same = ap (λ rows. row_or_new cont (find (is_row_of cont) rows)) same

floor-stays : (opening : Epoch × FloorWhy) (d x : Durable) (cont : ContId) → x.conts ≡ d.conts → floor_of opening x cont ≡ floor_of opening d cont
unfolding floor_of
floor-stays opening d x cont same = ap (later_floor opening) (row-stays d x cont same)

-- what is told of floors is told where the rows stay
pub told-stays : (o : Opening) (lines : List Line) (t : ℕ) (opening : Epoch × FloorWhy) (d x : Durable) → x.conts ≡ d.conts → AreTold o lines t opening d → AreTold o lines t opening x
told-stays o lines t opening d x same k = record {
  floor = λ cont. subst (λ f. IsTold o lines t cont f.0 f.1) (sym (floor-stays opening d x cont same)) (k.floor cont);
  aggregated = λ cont. subst (λ row. IsTold o lines t cont row.aggregated (why.Aggregate row.number)) (sym (row-stays d x cont same)) (k.aggregated cont);
}

-- the floors of a running target are told, since what its opening's floor covers refuses nothing by itself
pub floors-told : (o : Opening) (w : World) (t : ℕ) (s : TargetState) → slice_get w.targets t ≡ Some s → s.life ≡ Running → FloorsShown o w → AreTold o w.lines t s.opening s.durable
unfolding floor_of
floors-told o w t s here runs F = record { floor = told; aggregated = λ cont. F.aggregated t s cont here }
  where
    told : (cont : ContId) → IsTold o w.lines t cont (later_floor s.opening (row_of s.durable cont)).0 (later_floor s.opening (row_of s.durable cont)).1
    told cont = by (nat_lt s.opening.0.0 (row_of s.durable cont).floor.0) refl
      where
        by : (b : Bool) → nat_lt s.opening.0.0 (row_of s.durable cont).floor.0 ≡ b
            → IsTold o w.lines t cont (if b then ((row_of s.durable cont).floor, (row_of s.durable cont).why) else s.opening).0 (if b then ((row_of s.durable cont).floor, (row_of s.durable cont).why) else s.opening).1
        by false is = F.opening t s cont here runs
        by true is = elim (F.stored t s cont here) [
          | inl k ↦ k
          | inr c ↦ (let low : (row_of s.durable cont).floor.0 ≤ s.opening.0.0 = c.running runs in let up : s.opening.0.0 < (row_of s.durable cont).floor.0 = grind (arith, nat_tests) in absurd (omega (arith, low, up)))
        ]
