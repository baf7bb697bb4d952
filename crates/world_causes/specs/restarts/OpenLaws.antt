-- A target opens again, or fails to, or is given up; and what changes no target.
use Rattle.std.specs.Prelude.{ℕ, ◌≡◌, ◌⊎◌, ◌≤◌, ◌/◌, Bool, true, false, nat_lt, List, [], Contains, slice_get, Some, refl, if◌then◌else◌}
use Rattle.std.proofs.Common.{sym, ap, subst, arith, inl, inr}
use Rattle.std.proofs.lemmas.Bool.Decides.{nat_tests}
use Rattle.base_types.specs.Epochs.{restart_floor}
use Rattle.base_types.specs.Operations.{read_path}
use Rattle.base_types.specs.declared.epoch.Epoch.{Epoch}
use Rattle.base_types.specs.declared.id.ContId.{ContId}
use Rattle.base_types.specs.declared.outcome.FloorWhy.{FloorWhy}
use Rattle.model_laws.specs.Members.{has-from_contains, Has}
use Rattle.daos_model.specs.declared.durable.Durable.{Durable}
use Rattle.daos_model.specs.declared.durable.Version.{Version}
use Rattle.daos_model.specs.Changes.{reopened}
use Rattle.daos_model.specs.Durables.{entry_of, row_of}
use Rattle.daos_model.specs.Opening.{Opening}
use Rattle.vos_store.specs.Answers.{floor_of}
use Rattle.world_contents.specs.world_commit.attempts.History.{History, Served}
use Rattle.world_base.specs.declared.target.Life.TheVariants.{Running, Down}
use Rattle.world_base.specs.declared.target.TargetState.{TargetState}
use Rattle.world_base.specs.declared.world.World.{World}
use Rattle.world_base.specs.Events.{Rules}
use Rattle.world_base.specs.Stops.{NumbersDrawn, OpeningFails, TargetGivenUp, TargetOpens, opened_at, swept}
use Rattle.world_contents.specs.reads.EventLaws.{others-keep}
use Rattle.world_contents.specs.reads.Reads.{IsGuarded, Reads}
use Rattle.world_contents.specs.reads.Versions.{Versions, VersionsStand}
use Rattle.world_causes.specs.restarts.StopLaws.{KeepsSound, ShowsNow, one-changes}

-- ---- an opening raises the incarnation alone of what is kept

pub reopened-stands : (r : Rules) (o : Opening) (held : List Version) (h : History) (t : ℕ) (d : Durable) → VersionsStand r o held h t d → VersionsStand r o held h t (reopened d)
unfolding reopened entry_of row_of
reopened-stands r o held h t d k = record {
  form = record {
    versions = k.form.versions;
    writes = k.form.writes;
    entries = k.form.entries;
    conts = k.form.conts;
    floors = k.form.floors;
    snaps = k.form.snaps;
    few_conts = k.form.few_conts;
    few_snaps = k.form.few_snaps;
    lease = k.form.lease;
  };
  single = k.single;
  placed = k.placed;
  done = k.done;
  unsettled = λ v i f. let z = k.unsettled v i f in record { entry = z.entry; found = z.found; open' = z.open'; epoch = z.epoch };
  only = k.only;
  whole = k.whole;
  settled = k.settled;
  epochs = k.epochs;
  matches = k.matches;
  leased = k.leased;
  aggregated = k.aggregated;
  clear = k.clear;
  snapshots = record { floored = k.snapshots.floored; leased = k.snapshots.leased; kept = k.snapshots.kept; given = k.snapshots.given };
}

-- what a target keeps is sound while it is in a world
keeps-now : (r : Rules) (o : Opening) (held : ℕ → List Version) (h : History) (w : World) (t : ℕ) (s : TargetState) → slice_get w.targets t ≡ Some s → Versions r o held h w → Reads r o h w → KeepsSound r o (held t) h t s.durable
keeps-now r o held h w t s here k l = record {
  stand = k.stand t s here;
  leased = λ q i at. l.leased q s i (there q at);
  barred = λ q v i at j f over. l.barred q s v i (there q at) j f over;
}
  where
    there : (q : Served) → q.target ≡ t → slice_get w.targets q.target ≡ Some s
    there q at = subst (λ n. slice_get w.targets n ≡ Some s) (sym at) here

reopened-keeps : (r : Rules) (o : Opening) (held : List Version) (h : History) (t : ℕ) (d : Durable) → KeepsSound r o held h t d → KeepsSound r o held h t (reopened d)
unfolding reopened
reopened-keeps r o held h t d k = record { stand = reopened-stands r o held h t d k.stand; leased = k.leased; barred = k.barred }

-- ---- the floor of an opening covers what the lease covers

floor-covers : (e lease : ℕ) → e / 256 ≤ lease → e ≤ restart_floor lease
floor-covers e lease low = omega (arith, low)

floor-least : (opening : Epoch × FloorWhy) (d : Durable) (c : ContId) → opening.0.0 ≤ (floor_of opening d c).0.0
unfolding floor_of
floor-least opening d c = by (nat_lt opening.0.0 (row_of d c).floor.0) refl
  where
    by : (b : Bool) → nat_lt opening.0.0 (row_of d c).floor.0 ≡ b → opening.0.0 ≤ (if b then ((row_of d c).floor, (row_of d c).why) else opening).0.0
    by true is = grind (arith, nat_tests)
    by false is = omega arith

-- so a target that opens guards each read that it served before
pub opening-keeps : (r : Rules) (o : Opening) (held : ℕ → List Version) (h : History) (w v : World) → TargetOpens r w v → Versions r o held h w → Reads r o h w → Versions r o held h v × Reads r o h v
opening-keeps r o held h w v g k l =
    one-changes r o held h w v g.t g.s z g.here (ap (λ u. u.targets) g.after) (λ i j. subst (λ u. Contains u.issued i) (sym g.after) j) (reopened-keeps r o (held g.t) h g.t g.s.durable old)
    (record { guarded = λ q i at runs. guarded q i at; stamps = λ y runs i. absurd (has-from_contains [] y i) }) k l
  where
    z : TargetState
    z = opened_at r g.t g.number g.s g.free

    old : KeepsSound r o (held g.t) h g.t g.s.durable
    old = keeps-now r o held h w g.t g.s g.here k l

    guarded : (q : Served) → Has q h.served → q.target ≡ g.t → IsGuarded z q
    guarded q i at =
        let low = floor-covers q.epoch.0 g.s.durable.lease (old.leased q i at) in
        let least = floor-least z.opening z.durable (read_path q.read).cont in
        inl (omega (arith, low, least))

-- ---- an opening that fails, and a target that is given up

-- a target that doesn't run shows nothing
silent : (r : Rules) (h : History) (t : ℕ) (z : TargetState) → (z.life ≡ Running → ⊥) → ShowsNow r h t z
silent r h t z stopped = record { guarded = λ q i at runs. absurd (stopped runs); stamps = λ y runs i. absurd (stopped runs) }

pub failure-keeps : (r : Rules) (o : Opening) (held : ℕ → List Version) (h : History) (w v : World) → OpeningFails r w v → Versions r o held h w → Reads r o h w → Versions r o held h v × Reads r o h v
failure-keeps r o held h w v g k l =
    one-changes r o held h w v g.t g.s (record g.s { durable = g.k.durable; free = g.k.free }) g.here (ap (λ u. u.targets) g.after) (λ i j. subst (λ u. Contains u.issued i) (sym g.after) j) (left g.left)
    (silent r h g.t (record g.s { durable = g.k.durable; free = g.k.free }) (λ runs. let no : ⊥ = cc (g.stopped, runs) in no)) k l
  where
    old : KeepsSound r o (held g.t) h g.t g.s.durable
    old = keeps-now r o held h w g.t g.s g.here k l

    left : (g.k.durable ≡ g.s.durable) ⊎ (g.k.durable ≡ reopened g.s.durable) → KeepsSound r o (held g.t) h g.t g.k.durable
    left (inl same) = subst (KeepsSound r o (held g.t) h g.t) (sym same) old
    left (inr raised) = subst (KeepsSound r o (held g.t) h g.t) (sym raised) (reopened-keeps r o (held g.t) h g.t g.s.durable old)

pub given_up-keeps : (r : Rules) (o : Opening) (held : ℕ → List Version) (h : History) (w v : World) → TargetGivenUp r w v → Versions r o held h w → Reads r o h w → Versions r o held h v × Reads r o h v
given_up-keeps r o held h w v g k l =
    one-changes r o held h w v g.t g.s (record g.s { life = Down }) g.here (ap (λ u. u.targets) g.after) (λ i j. subst (λ u. Contains u.issued i) (sym g.after) j) (keeps-now r o held h w g.t g.s g.here k l)
    (silent r h g.t (record g.s { life = Down }) (λ runs. let no : ⊥ = cc in no)) k l

-- ---- what changes no target

pub sweep-keeps : (r : Rules) (o : Opening) (held : ℕ → List Version) (h : History) (w : World) → Versions r o held h w → Reads r o h w → Versions r o held h (swept w) × Reads r o h (swept w)
sweep-keeps r o held h w k l = others-keep r o held h w (swept w) refl (λ i j. j) k l

pub numbers-keep : (r : Rules) (o : Opening) (held : ℕ → List Version) (h : History) (w v : World) → NumbersDrawn w v → Versions r o held h w → Reads r o h w → Versions r o held h v × Reads r o h v
numbers-keep r o held h w v g k l = others-keep r o held h w v (ap (λ u. u.targets) g.after) (λ i j. subst (λ u. Contains u.issued i) (sym g.after) j) k l
