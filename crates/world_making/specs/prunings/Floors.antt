-- Whatever happens keeps what is said of floors, also what is heard of snapshots and aggregation.
use Rattle.std.specs.Prelude.{ℕ, ◌≡◌, ◌⊎◌, ◌≤◌, ◌++◌, Any, Bool, true, false, List, [], ◌∷◌, map, slice_get, Some, refl}
use Rattle.std.proofs.Common.{sym, ◌∙◌, ap, subst, arith, append_assoc, inl, inr}
use Rattle.std.proofs.Math.ListN.{set}
use Rattle.base_types.specs.Epochs.{restart_floor}
use Rattle.base_types.specs.declared.epoch.Epoch.{Epoch}
use Rattle.base_types.specs.declared.id.AttemptId.{AttemptId}
use Rattle.base_types.specs.declared.id.ContId.{ContId}
use Rattle.base_types.specs.declared.outcome.FloorWhy.{FloorWhy}
use Rattle.base_types.specs.declared.outcome.FloorWhy.TheVariants as why
use Rattle.base_types.specs.declared.report.Line.{Line}
use Rattle.base_types.specs.declared.report.Line.TheVariants as line
use Rattle.model_laws.specs.Lists.{any-of}
use Rattle.model_laws.specs.Members.{Has, has-left, has-map, has-right}
use Rattle.daos_model.specs.CausesShown.{ShowsFloor}
use Rattle.daos_model.specs.Durables.{row_of}
use Rattle.daos_model.specs.Opening.{Opening, top}
use Rattle.daos_model.specs.declared.durable.ContRow.{ContRow}
use Rattle.world_base.specs.declared.target.Life.TheVariants.{Running}
use Rattle.world_base.specs.declared.target.TargetState.{TargetState}
use Rattle.world_base.specs.declared.world.World.{World}
use Rattle.world_base.specs.Events.{Rules, TargetHearsBy, kept, target_after, target_plan, with_epoch}
use Rattle.world_base.specs.Further.{HearsFurther}
use Rattle.world_base.specs.Roles.{is_prepared}
use Rattle.world_base.specs.Stops.{AtWork, CutOf, Draws, Fails, Further, GivenUp, Happening, Hearing, HearsMore, IdleWork, IsCut, Opens, Plainly, TargetCut, WorldEvent, stopped_at, stops_so_far}
use Rattle.world_causes.specs.causes.FloorLaws.{KeepsFloors, sweeps-keep-floors}
use Rattle.world_causes.specs.causes.Growth.{at-set}
use Rattle.world_causes.specs.causes.Lasting.{told-more}
use Rattle.world_causes.specs.causes.Shown.{FloorsShown, HasLine, IsCovered, IsOfBefore, IsTold}
use Rattle.world_causes.specs.hearing.Floors.{happenings-keep-floors}
use Rattle.world_letters.specs.lives.Leases.{further-lasts, hearing-lasts}
use Rattle.world_causes.specs.world_commit.statuses.Heard.{is_of_attempts}
use Rattle.world_causes.specs.world_commit.stops.CutEvents.{IsWithoutSnapshots, is_without_snapshots}
use Rattle.world_making.specs.prunings.FloorRows.{BelowLease, HasFloorLine, RowsGo}
use Rattle.world_making.specs.prunings.FloorTurns.{NoneLow, cut-floors-go, floors-go}

abbrev pub AllEventsKeepFloors : Type 0
AllEventsKeepFloors = (r : Rules) (w v : World) → WorldEvent r w v → KeepsFloors w v

-- ---- one target

-- what is said of one target's floors
record FloorsOf (o : Opening) (lines : List Line) (t : ℕ) (s : TargetState) : Type 0 where
  opening : (c : ContId) → s.life ≡ Running → IsTold o lines t c s.opening.0 s.opening.1
  leased : s.life ≡ Running → (s.opening.0.0 ≤ top o) ⊎ (s.opening.0.0 ≤ restart_floor s.durable.lease)
  stored : (c : ContId) → IsTold o lines t c (row_of s.durable c).floor (row_of s.durable c).why ⊎ IsCovered s (row_of s.durable c).floor.0
  aggregated : (c : ContId) → IsTold o lines t c (row_of s.durable c).aggregated (why.Aggregate (row_of s.durable c).number)

-- as more lines are told
later-of : (o : Opening) (w : World) (more : List Line) (t : ℕ) (s : TargetState) → FloorsShown o w → slice_get w.targets t ≡ Some s → FloorsOf o (w.lines ++ more) t s
later-of o w more t s F here = record {
  opening = λ c runs. told-more o w.lines more t c s.opening.0 s.opening.1 (F.opening t s c here runs);
  leased = λ runs. F.leased t s here runs;
  stored = λ c. stored c (F.stored t s c here);
  aggregated = λ c. told-more o w.lines more t c (row_of s.durable c).aggregated (why.Aggregate (row_of s.durable c).number) (F.aggregated t s c here);
}
  where
    stored : (c : ContId) → IsTold o w.lines t c (row_of s.durable c).floor (row_of s.durable c).why ⊎ IsCovered s (row_of s.durable c).floor.0
        → IsTold o (w.lines ++ more) t c (row_of s.durable c).floor (row_of s.durable c).why ⊎ IsCovered s (row_of s.durable c).floor.0
    stored c (inl told) = inl (told-more o w.lines more t c (row_of s.durable c).floor (row_of s.durable c).why told)
    stored c (inr covered) = inr covered

-- a world in which one target changed, and more lines are told
one-changed : (o : Opening) (w v : World) (t : ℕ) (s z : TargetState) (more : List Line) → slice_get w.targets t ≡ Some s → v.targets ≡ set w.targets t z → v.lines ≡ w.lines ++ more → FloorsOf o (w.lines ++ more) t z → FloorsShown o w → FloorsShown o v
one-changed o w v t s z more here targets lines own F = record {
  opening = λ u y c at runs. (all u y at).opening c runs;
  leased = λ u y at runs. (all u y at).leased runs;
  stored = λ u y c at. (all u y at).stored c;
  aggregated = λ u y c at. (all u y at).aggregated c;
}
  where
    all : (u : ℕ) (y : TargetState) → slice_get v.targets u ≡ Some y → FloorsOf o v.lines u y
    all u y at =
        subst (λ ls. FloorsOf o ls u y) (sym lines)
        (at-set w.targets t s z (FloorsOf o (w.lines ++ more)) here own (λ n x there. later-of o w more n x F there) u y (ap (λ ts. slice_get ts u) (sym targets) ∙ at))

-- ---- a target whose rows go so

module _ (o : Opening) (w : World) (more ls : List Line) (t : ℕ) (s z : TargetState) (here : slice_get w.targets t ≡ Some s) (F : FloorsShown o w) (Low : ℕ → Type 0) (rows : RowsGo t ls Low s.durable z.durable)
    (shown : (floor : Epoch) (c : ContId) (reason : FloorWhy) → HasFloorLine t ls floor c reason → Any (ShowsFloor t floor c reason) (w.lines ++ more))
    (low : (n : ℕ) → Low n → IsCovered z n) (cover : (n : ℕ) → IsCovered s n → (n ≤ top o) ⊎ IsCovered z n) where
  was : FloorsOf o (w.lines ++ more) t s
  was = later-of o w more t s F here

  stored-now : (c : ContId) → IsTold o (w.lines ++ more) t c (row_of z.durable c).floor (row_of z.durable c).why ⊎ IsCovered z (row_of z.durable c).floor.0
  stored-now c = by (rows c).floor
    where
      r : ContRow
      r = row_of s.durable c

      q : ContRow
      q = row_of z.durable c

      before : IsTold o (w.lines ++ more) t c r.floor r.why ⊎ IsCovered s r.floor.0 → IsTold o (w.lines ++ more) t c r.floor r.why ⊎ IsCovered z r.floor.0
      before (inl told) = inl told
      before (inr covered) = elim (cover r.floor.0 covered) [ inl small ↦ inl (IsOfBefore small) | inr k ↦ inr k ]

      by : ((q.floor ≡ r.floor) × (q.why ≡ r.why)) ⊎ HasFloorLine t ls q.floor c q.why ⊎ Low q.floor.0 → IsTold o (w.lines ++ more) t c q.floor q.why ⊎ IsCovered z q.floor.0
      by (inl same) =
          subst (λ e. IsTold o (w.lines ++ more) t c e q.why ⊎ IsCovered z e.0) (sym same.0) (subst (λ x. IsTold o (w.lines ++ more) t c r.floor x ⊎ IsCovered z r.floor.0) (sym same.1) (before (was.stored c)))
      by (inr (inl told)) = inl (HasLine (shown q.floor c q.why told))
      by (inr (inr small)) = inr (low q.floor.0 small)

  aggregated-now : (c : ContId) → IsTold o (w.lines ++ more) t c (row_of z.durable c).aggregated (why.Aggregate (row_of z.durable c).number)
  aggregated-now c = by (rows c).aggregated
    where
      r : ContRow
      r = row_of s.durable c

      q : ContRow
      q = row_of z.durable c

      by : ((q.aggregated ≡ r.aggregated) × (q.number ≡ r.number)) ⊎ HasFloorLine t ls q.aggregated c (why.Aggregate q.number) → IsTold o (w.lines ++ more) t c q.aggregated (why.Aggregate q.number)
      by (inl same) =
          subst (λ e. IsTold o (w.lines ++ more) t c e (why.Aggregate q.number)) (sym same.0) (subst (λ n. IsTold o (w.lines ++ more) t c r.aggregated (why.Aggregate n)) (sym same.1) (was.aggregated c))
      by (inr told) = HasLine (shown q.aggregated c (why.Aggregate q.number) told)

-- ---- lines

-- a line that shows a floor is added as it is
dated-same : (issued : List (AttemptId × Epoch)) (t : ℕ) (floor : Epoch) (c : ContId) (reason : FloorWhy) (l : Line) → ShowsFloor t floor c reason l → with_epoch issued l ≡ l
dated-same issued t floor c why.Opening l shows = absurd shows
dated-same issued t floor c (why.Restart n) l shows = ap (with_epoch issued) shows.1 ∙ sym shows.1
dated-same issued t floor c (why.Snapshot e) l shows = ap (with_epoch issued) shows.0 ∙ sym shows.0
dated-same issued t floor c (why.Aggregate n) l shows = ap (with_epoch issued) shows ∙ sym shows

-- ---- events

module _ (o : Opening) (r : Rules) (w v : World) (F : FloorsShown o w) where
  making-floors : (f : HearsMore r w v) → is_of_attempts f.hears.l.message ≡ false → FloorsShown o v
  making-floors f ours = one-changed o w v g.t g.s z more g.here (ap (λ u. u.targets) g.after) (ap (λ u. u.lines) g.after) own F
    where
      g : TargetHearsBy (HearsFurther f.number) r w v
      g = f.hears

      z : TargetState
      z = target_after g.s g.new g.memory

      more : List Line
      more = map (with_epoch w.issued) g.did.lines

      shown : (floor : Epoch) (c : ContId) (reason : FloorWhy) → HasFloorLine g.t g.did.lines floor c reason → Any (ShowsFloor g.t floor c reason) (w.lines ++ more)
      shown floor c reason told =
          any-of (ShowsFloor g.t floor c reason) (w.lines ++ more) told.0
          (has-right w.lines more told.0 (subst (λ l. Has l more) (dated-same w.issued g.t floor c reason told.0 told.2) (has-map (with_epoch w.issued) g.did.lines told.0 told.1))) told.2

      rows : RowsGo g.t g.did.lines NoneLow g.s.durable g.new.durable
      rows = floors-go f.number (target_plan r g.t) g.s.opening g.s.memory g.reading g.l.from g.l.message (kept g.s) g.new (g.memory, g.did) ours g.turn

      lease : g.s.durable.lease ≤ g.new.durable.lease
      lease = (further-lasts f.number (target_plan r g.t) g.s.opening g.s.memory g.reading g.l.from g.l.message (kept g.s) g.new (g.memory, g.did) g.turn).lease

      before : FloorsOf o (w.lines ++ more) g.t g.s
      before = later-of o w more g.t g.s F g.here

      cover : (n : ℕ) → IsCovered g.s n → (n ≤ top o) ⊎ IsCovered z n
      cover n c = inr (record { running = c.running; stopped = λ off. absurd (off g.runs) })

      own : FloorsOf o (w.lines ++ more) g.t z
      own = record {
        opening = before.opening;
        leased = λ runs. elim (before.leased runs) [ inl low ↦ inl low | inr low ↦ inr (omega (arith, low, lease)) ];
        stored = stored-now o w more g.did.lines g.t g.s z g.here F NoneLow rows shown (λ n none. absurd none) cover;
        aggregated = aggregated-now o w more g.did.lines g.t g.s z g.here F NoneLow rows shown (λ n none. absurd none) cover;
      }

  cut-floors : (g : TargetCut r w v) → RowsGo g.t g.cut.lines (BelowLease g.cut.left.durable.lease) g.s.durable g.cut.left.durable → g.s.durable.lease ≤ g.cut.left.durable.lease → FloorsShown o v
  cut-floors g rows lease = one-changed o w v g.t g.s z more g.here (ap (λ u. u.targets) g.after) (ap (λ u. u.lines) g.after ∙ append_assoc w.lines g.cut.lines stop) own F
    where
      z : TargetState
      z = stopped_at g.s g.cut.left

      stop : List Line
      stop = line.Stop (stops_so_far w.lines) g.t ∷ []

      more : List Line
      more = g.cut.lines ++ stop

      still : z.life ≡ Running → ⊥
      still runs = let no : ⊥ = cc in no

      shown : (floor : Epoch) (c : ContId) (reason : FloorWhy) → HasFloorLine g.t g.cut.lines floor c reason → Any (ShowsFloor g.t floor c reason) (w.lines ++ more)
      shown floor c reason told = any-of (ShowsFloor g.t floor c reason) (w.lines ++ more) told.0 (has-right w.lines more told.0 (has-left g.cut.lines stop told.0 told.1)) told.2

      low : (n : ℕ) → BelowLease g.cut.left.durable.lease n → IsCovered z n
      low n small = record { running = λ runs. absurd (still runs); stopped = λ off. small }

      cover : (n : ℕ) → IsCovered g.s n → (n ≤ top o) ⊎ IsCovered z n
      cover n c = by (F.leased g.t g.s g.here g.runs)
        where
          is : n ≤ g.s.opening.0.0
          is = c.running g.runs

          by : (g.s.opening.0.0 ≤ top o) ⊎ (g.s.opening.0.0 ≤ restart_floor g.s.durable.lease) → (n ≤ top o) ⊎ IsCovered z n
          by (inl small) = let k = is in inl (omega (arith, k, small))
          by (inr small) = let k = is in inr (low n (omega (arith, k, small, lease)))

      own : FloorsOf o (w.lines ++ more) g.t z
      own = record {
        opening = λ c runs. absurd (still runs);
        leased = λ runs. absurd (still runs);
        stored = stored-now o w more g.cut.lines g.t g.s z g.here F (BelowLease g.cut.left.durable.lease) rows shown low cover;
        aggregated = aggregated-now o w more g.cut.lines g.t g.s z g.here F (BelowLease g.cut.left.durable.lease) rows shown low cover;
      }

all-happenings-keep-floors : (r : Rules) (w v : World) → Happening r w v → KeepsFloors w v
all-happenings-keep-floors r w v (Plainly e up) = happenings-keep-floors r w v (Plainly e up) tt
all-happenings-keep-floors r w v (Further f) = by (is_of_attempts f.hears.l.message) refl
  where
    by : (plain : Bool) → is_of_attempts f.hears.l.message ≡ plain → KeepsFloors w v
    by true plain = happenings-keep-floors r w v (Further f) plain
    by false ours = λ o F. making-floors o r w v F f ours
all-happenings-keep-floors r w v (IsCut g) = by g.work refl
  where
    by : (a : AtWork) → g.work ≡ a → KeepsFloors w v
    by IdleWork is = happenings-keep-floors r w v (IsCut g) (subst IsWithoutSnapshots (sym is) tt)
    by (Hearing l reading number) is = heard (is_without_snapshots l.message) refl
      where
        turn : CutOf (target_plan r g.t) g.s (Hearing l reading number) g.cut
        turn = subst (λ a. CutOf (target_plan r g.t) g.s a g.cut) is g.turn

        heard : (plain : Bool) → is_without_snapshots l.message ≡ plain → KeepsFloors w v
        heard true plain = happenings-keep-floors r w v (IsCut g) (subst IsWithoutSnapshots (sym is) plain)
        heard false ours = λ o F. cut-floors o r w v F g
            (cut-floors-go is_prepared number (target_plan r g.t) g.s.opening g.s.memory reading l.from l.message (kept g.s) g.cut ours turn)
            (hearing-lasts is_prepared number (target_plan r g.t) g.s.opening g.s.memory reading l.from l.message (kept g.s) g.cut turn).lease
all-happenings-keep-floors r w v (Opens g) = happenings-keep-floors r w v (Opens g) tt
all-happenings-keep-floors r w v (Fails g) = happenings-keep-floors r w v (Fails g) tt
all-happenings-keep-floors r w v (GivenUp g) = happenings-keep-floors r w v (GivenUp g) tt
all-happenings-keep-floors r w v (Draws g) = happenings-keep-floors r w v (Draws g) tt

pub all-events-keep_floors : AllEventsKeepFloors
all-events-keep_floors r w v e o F = subst (FloorsShown o) (sym e.after) (sweeps-keep-floors e.u o (all-happenings-keep-floors r w e.u e.happens o F))
