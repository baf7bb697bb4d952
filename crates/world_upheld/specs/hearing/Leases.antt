-- What a target keeps is covered by its lease at each moment of any run, and wherever a turn of it is cut.
use Rattle.std.specs.Prelude.{ℕ, ◌≡◌, ◌≤◌, ◌/◌, Bool, true, false, All, List, [], ◌∷◌, filter, map, slice_get, Some, refl, if◌then◌else◌}
use Rattle.std.proofs.Common.{sym, ap, subst, ◌∙◌, arith}
use Rattle.std.proofs.lemmas.List.Elements.{All-cons, All-filter, All-head, All-tail}
use Rattle.base_types.specs.declared.entry.Entry.{Entry}
use Rattle.base_types.specs.declared.entry.Settle.{Settle}
use Rattle.base_types.specs.declared.epoch.Epoch.{Epoch}
use Rattle.base_types.specs.declared.id.AttemptId.{AttemptId}
use Rattle.base_types.specs.declared.id.ContId.{ContId}
use Rattle.base_types.specs.declared.operation.MinorWrite.{MinorWrite}
use Rattle.base_types.specs.declared.outcome.FloorWhy.TheVariants.{Snapshot}
use Rattle.base_types.specs.declared.snapshot.Snap.{Snap}
use Rattle.daos_model.specs.Changes.{created, created_at, frozen, leased, marked, new_snap, prepared, pruned, raised_at, reopened, settled, with_versions}
use Rattle.daos_model.specs.declared.durable.Durable.{Durable}
use Rattle.daos_model.specs.declared.durable.Version.{Version}
use Rattle.daos_model.specs.Durables.{is_frozen, is_snap_at, snap_key}
use Rattle.daos_model.specs.Opening.{Opening}
use Rattle.daos_model.specs.Ordered.{put}
use Rattle.model_laws.specs.DecidedLaws.{all-from_has}
use Rattle.model_laws.specs.Members.{contains-from_has}
use Rattle.world_legal.specs.world_commit.attempts.History.{History}
use Rattle.world_base.specs.declared.target.TargetState.{TargetState}
use Rattle.world_base.specs.declared.world.World.{World}
use Rattle.world_base.specs.ChangeLaws.{lease-settled, snaps-made}
use Rattle.world_base.specs.Changes.{IsPartly, Prunes, Settles}
use Rattle.world_base.specs.CutTurns.{Cutting}
use Rattle.world_base.specs.Events.{Rules, target_plan}
use Rattle.world_base.specs.Snapshots.{prune_limit}
use Rattle.world_base.specs.StepLaws.{set-here}
use Rattle.world_base.specs.Stops.{AtWork, Begins, CutOf, Goes, IsCut, TargetCut, WorldEvent, WorldRun, swept}
use Rattle.world_legal.specs.world_standing.hearable.Covered.{AreCovered, IsCovered, stays-covered}
use Rattle.world_legal.specs.world_standing.standing.Covering.{all-put, epochs-puts}
use Rattle.world_upheld.specs.upheld.Begins.{AreRulesInForm, RunBeginsWell}
use Rattle.world_upheld.specs.upheld.Upheld.{Upheld}
use Rattle.world_upheld.specs.hearing.Staying.{StaysCoveredOn, cuts-leave_what_stays, events-keep_what_stays}

-- ---- the statements

-- no version and no snapshot is later than the ticks that the lease covers
pub record KeepsCovered (d : Durable) : Type 0 where
  pub versions : IsCovered d
  pub snapshots : All (λ s. s.epoch.0 / 256 ≤ d.lease) d.snaps

-- so it is of what each target keeps, whether it runs, is stopped, or is given up
abbrev pub AllKeepCovered : World → Type 0
AllKeepCovered w = (t : ℕ) (s : TargetState) → slice_get w.targets t ≡ Some s → KeepsCovered s.durable

-- where all is upheld
abbrev pub UpheldIsCovered : Type 0
UpheldIsCovered = (r : Rules) (o : Opening) (held : ℕ → List Version) (h : History) (w : World) → Upheld r o held h w → AllKeepCovered w

-- so at each moment of any run
abbrev pub AllRunsAreCovered : Type 0
AllRunsAreCovered = (r : Rules) (o : Opening) (w v : World) → AreRulesInForm r → RunBeginsWell r o w → WorldRun r w v → AllKeepCovered v

-- and so it is of what a cut leaves, of any turn of a running target
abbrev pub AllRunsCutCovered : Type 0
AllRunsCutCovered = (r : Rules) (o : Opening) (w v u : World) → AreRulesInForm r → RunBeginsWell r o w → WorldRun r w v → (g : TargetCut r v u) → KeepsCovered g.cut.left.durable

-- Each event keeps it, whatever else holds.
abbrev pub AllEventsKeepCovered : Type 0
AllEventsKeepCovered = (r : Rules) (w v : World) → WorldEvent r w v → AllKeepCovered w → AllKeepCovered v

-- where a turn of a target is cut, what it leaves is covered
abbrev pub AllCutsLeaveCovered : Type 0
AllCutsLeaveCovered =
    (r : Rules) (t : ℕ) (s : TargetState) (work : AtWork) (cut : Cutting) → CutOf (target_plan r t) s work cut → KeepsCovered s.durable → KeepsCovered cut.left.durable

-- and so it is where its incarnation is raised, by an opening or by one that fails
abbrev pub AllRaisedIsCovered : Type 0
AllRaisedIsCovered = (d : Durable) → KeepsCovered d → KeepsCovered (reopened d)

-- of versions alone, too
abbrev pub AllEventsKeepVersionsCovered : Type 0
AllEventsKeepVersionsCovered = (r : Rules) (w v : World) → WorldEvent r w v → AreCovered w → AreCovered v

abbrev pub AllCutsLeaveVersionsCovered : Type 0
AllCutsLeaveVersionsCovered = (r : Rules) (t : ℕ) (s : TargetState) (work : AtWork) (cut : Cutting) → CutOf (target_plan r t) s work cut → IsCovered s.durable → IsCovered cut.left.durable

-- ---- changes

abbrev AreLeased : ℕ → List Snap → Type 0
AreLeased lease = All (λ s. s.epoch.0 / 256 ≤ lease)

later : (old lease x : ℕ) → old ≤ lease → x ≤ old → x ≤ lease
later old lease x a b = omega arith

kept-leased : (lease : ℕ) (d : Durable) → d.lease ≤ lease → KeepsCovered d → KeepsCovered (leased lease d)
unfolding leased
kept-leased lease d up k = record { versions = λ i v lt. later d.lease lease _ up (k.versions i v lt); snapshots = λ i v lt. later d.lease lease _ up (k.snapshots i v lt) }

kept-prepared : (e : Entry) (ws : List MinorWrite) (d : Durable) → e.epoch.0 / 256 ≤ d.lease → KeepsCovered d → KeepsCovered (prepared e ws d)
unfolding prepared
kept-prepared e ws d within k = record { versions = epochs-puts (λ x. x / 256 ≤ d.lease) e ws d.versions within k.versions; snapshots = k.snapshots }

kept-settled : (a : AttemptId) (step : Settle) (d : Durable) → KeepsCovered d → KeepsCovered (settled a step d)
kept-settled a step d k = record {
  versions = stays-covered.settles a step d k.versions;
  snapshots = subst (λ n. AreLeased n (settled a step d).snaps) (sym (lease-settled a step d)) (subst (AreLeased d.lease) (sym (snaps-made (Settles a step) d refl)) k.snapshots);
}

pub kept-reopened : AllRaisedIsCovered
unfolding reopened
kept-reopened d k = record { versions = k.versions; snapshots = k.snapshots }

versions-frozen : (c : ContId) (s : Epoch) (d : Durable) → IsCovered d → IsCovered (frozen c s d)
unfolding frozen
versions-frozen c s d all = by (is_frozen d c s)
  where
    by : (b : Bool) → IsCovered (if b then d else record d { conts = map (raised_at c s (Snapshot s)) d.conts; snaps = put snap_key (new_snap c s) d.snaps })
    by true = all
    by false = all

kept-frozen : (c : ContId) (s : Epoch) (d : Durable) → s.0 / 256 ≤ d.lease → KeepsCovered d → KeepsCovered (frozen c s d)
unfolding frozen
kept-frozen c s d within k = by (is_frozen d c s)
  where
    by : (b : Bool) → KeepsCovered (if b then d else record d { conts = map (raised_at c s (Snapshot s)) d.conts; snaps = put snap_key (new_snap c s) d.snaps })
    by true = k
    by false = record { versions = k.versions; snapshots = all-put (λ x. x.epoch.0 / 256 ≤ d.lease) snap_key (new_snap c s) d.snaps within k.snapshots }

made-leased : (lease : ℕ) (c : ContId) (s : Epoch) (xs : List Snap) → AreLeased lease xs → AreLeased lease (map (created_at c s) xs)
made-leased lease c s [] all = all
made-leased lease c s (x ∷ xs) all =
    All-cons (λ y. y.epoch.0 / 256 ≤ lease) (created_at c s x) (map (created_at c s) xs) (by (is_snap_at c s x) (All-head (λ y. y.epoch.0 / 256 ≤ lease) x xs all))
    (made-leased lease c s xs (All-tail (λ y. y.epoch.0 / 256 ≤ lease) x xs all))
  where
    by : (b : Bool) → x.epoch.0 / 256 ≤ lease → (if b then record x { created = true } else x).epoch.0 / 256 ≤ lease
    by true low = low
    by false low = low

kept-created : (c : ContId) (s : Epoch) (d : Durable) → KeepsCovered d → KeepsCovered (created c s d)
unfolding created
kept-created c s d k = record { versions = k.versions; snapshots = made-leased d.lease c s d.snaps k.snapshots }

versions-created : (c : ContId) (s : Epoch) (d : Durable) → IsCovered d → IsCovered (created c s d)
unfolding created
versions-created c s d all = all

versions-some : (stays : Version → Bool) (c : ContId) (upto : Epoch) (n : ℕ) (d : Durable) → IsCovered d → IsCovered (with_versions (filter stays d.versions) (marked c upto n d))
unfolding with_versions marked
versions-some stays c upto n d all = All-filter stays (λ v. v.epoch.0 / 256 ≤ d.lease) d.versions all

versions-pruned : (c : ContId) (upto : Epoch) (n : ℕ) (d : Durable) → IsCovered d → IsCovered (pruned c upto n d)
unfolding pruned
versions-pruned c upto n d all = versions-some _ c upto n d all

versions-partly : (c : ContId) (upto : Epoch) (n : ℕ) (d x : Durable) → IsPartly (Prunes c upto n) d x → IsCovered d → IsCovered x
versions-partly c upto n d x (vs, part, is) all =
    subst (λ y. IsCovered y) (sym is) (subst (λ ws. IsCovered (with_versions ws (marked c upto n d))) (sym part.left) (versions-some part.stays c upto n d all))

kept-some : (stays : Version → Bool) (c : ContId) (upto : Epoch) (n : ℕ) (d : Durable) → KeepsCovered d → KeepsCovered (with_versions (filter stays d.versions) (marked c upto n d))
unfolding with_versions marked
kept-some stays c upto n d k = record { versions = All-filter stays (λ v. v.epoch.0 / 256 ≤ d.lease) d.versions k.versions; snapshots = k.snapshots }

kept-pruned : (c : ContId) (upto : Epoch) (n : ℕ) (d : Durable) → KeepsCovered d → KeepsCovered (pruned c upto n d)
unfolding pruned
kept-pruned c upto n d k = kept-some _ c upto n d k

kept-partly : (c : ContId) (upto : Epoch) (n : ℕ) (d x : Durable) → IsPartly (Prunes c upto n) d x → KeepsCovered d → KeepsCovered x
kept-partly c upto n d x (vs, part, is) k =
    subst KeepsCovered (sym is) (subst (λ ws. KeepsCovered (with_versions ws (marked c upto n d))) (sym part.left) (kept-some part.stays c upto n d k))

stays-kept : StaysCoveredOn KeepsCovered
stays-kept = record {
  plainly = record { extends = kept-leased; stores = kept-prepared; settles = kept-settled; opens = kept-reopened };
  freezes = kept-frozen;
  creates = kept-created;
  prunes = λ c g n d low due k. kept-pruned c (prune_limit c g d) n d k;
  parts = λ c g n d x low due part k. kept-partly c (prune_limit c g d) n d x part k;
}

versions-stay : StaysCoveredOn IsCovered
versions-stay = record {
  plainly = stays-covered;
  freezes = λ c s d low all. versions-frozen c s d all;
  creates = versions-created;
  prunes = λ c g n d low due all. versions-pruned c (prune_limit c g d) n d all;
  parts = λ c g n d x low due part all. versions-partly c (prune_limit c g d) n d x part all;
}

-- ---- the proofs

pub all-events-keep_versions_covered : AllEventsKeepVersionsCovered
all-events-keep_versions_covered = events-keep_what_stays IsCovered versions-stay

pub all-cuts-leave_versions_covered : AllCutsLeaveVersionsCovered
all-cuts-leave_versions_covered = cuts-leave_what_stays IsCovered versions-stay

pub all-events-keep_covered : AllEventsKeepCovered
all-events-keep_covered = events-keep_what_stays KeepsCovered stays-kept

pub all-cuts-leave_covered : AllCutsLeaveCovered
all-cuts-leave_covered = cuts-leave_what_stays KeepsCovered stays-kept

pub upheld-is_covered : UpheldIsCovered
upheld-is_covered r o held h w k t s here =
    let z = k.contents.versions.stand t s here in
    record { versions = all-from_has (λ v. v.epoch.0 / 256 ≤ s.durable.lease) s.durable.versions (λ v i. z.leased v (contains-from_has s.durable.versions v i)); snapshots = all-from_has (λ x. x.epoch.0 / 256 ≤ s.durable.lease) s.durable.snaps (λ x i. z.snapshots.leased x (contains-from_has s.durable.snaps x i)) }

covered-begins : (r : Rules) (o : Opening) (w : World) → RunBeginsWell r o w → AllKeepCovered w
covered-begins r o w B t s here =
    let k = (B.starts t s here).keeps in
    record {
      versions = all-from_has (λ v. v.epoch.0 / 256 ≤ s.durable.lease) s.durable.versions (λ v i. (k.covered v (contains-from_has s.durable.versions v i)).1);
      snapshots = all-from_has (λ x. x.epoch.0 / 256 ≤ s.durable.lease) s.durable.snaps (λ x i. k.leased x (contains-from_has s.durable.snaps x i));
    }

pub all-runs-are_covered : AllRunsAreCovered
all-runs-are_covered r o w v A B Begins = covered-begins r o w B
all-runs-are_covered r o w v A B (Goes u x run e) = all-events-keep_covered r u v e (all-runs-are_covered r o w u A B run)

-- what a cut leaves is kept then
pub all-runs-cut_covered : AllRunsCutCovered
all-runs-cut_covered r o w v u A B run g =
    let longer = Goes v (swept u) run (record { u = u; happens = IsCut g; after = refl }) in
    all-runs-are_covered r o w (swept u) A B longer g.t _ (ap (λ x. slice_get x.targets g.t) g.after ∙ set-here v.targets g.t g.s _ g.here)
