-- What each change of a turn leaves of what a target served.
use Rattle.std.specs.Prelude.{ℕ, ◌≡◌, ◌⊎◌, ◌<◌, ◌≤◌, ◌/◌, Bool, true, false, nat_le, nat_lt, List, [], ◌∷◌, map, filter, Contains, Option, Some, None, refl, if◌then◌else◌}
use Rattle.std.proofs.Common.{sym, ◌∙◌, ap, subst, inl, inr, arith}
use Rattle.std.proofs.lemmas.Bool.{cases_lt}
use Rattle.std.proofs.lemmas.Bool.Decides.{nat_tests}
use Rattle.base_types.specs.declared.entry.Entry.{Entry}
use Rattle.base_types.specs.declared.entry.Settle.TheVariants.{Abort, Commit, Confirm}
use Rattle.base_types.specs.declared.epoch.Epoch.{Epoch}
use Rattle.base_types.specs.declared.id.AttemptId.{AttemptId}
use Rattle.base_types.specs.declared.id.ContId.{ContId}
use Rattle.base_types.specs.declared.operation.MinorWrite.{MinorWrite}
use Rattle.base_types.specs.declared.outcome.Cause.{Cause}
use Rattle.base_types.specs.declared.outcome.Cause.TheVariants.{Floor}
use Rattle.base_types.specs.declared.outcome.FloorWhy.{FloorWhy}
use Rattle.base_types.specs.declared.shown.Shown.{Shown}
use Rattle.base_types.specs.Operations.{read_path, write_path}
use Rattle.base_types.specs.Paths.{overlaps}
use Rattle.model_laws.specs.DecidedLaws.{has-all}
use Rattle.model_laws.specs.Members.{Has, contains-from_has, has-from_contains, has-from_filter, has-from_map}
use Rattle.daos_model.specs.declared.durable.Durable.{Durable}
use Rattle.daos_model.specs.declared.durable.Version.{Version}
use Rattle.daos_model.specs.BoolLaws.{both, clash}
use Rattle.daos_model.specs.Changes.{leased, prepared, settled}
use Rattle.daos_model.specs.Durables.{row_of}
use Rattle.daos_model.specs.Versions.{done_by, is_not_pending, version_of, version_path}
use Rattle.world_commit.specs.vos_stamp.Stamps.{NoneAgainst, floor_cause, stands_against}
use Rattle.vos_store.specs.Answers.{floor_of}
use Rattle.world_commit.specs.attempts.History.{Served}
use Rattle.world_commit.specs.world_base.declared.target.TargetPlan.{TargetPlan}
use Rattle.world_contents.specs.reads.ChangeLaws.{other-stays, still-open}
use Rattle.world_contents.specs.reads.Midway.{IsGuardedBy, Shows}
use Rattle.model_laws.specs.PlaceLaws.{overlaps-container}
use Rattle.world_contents.specs.reads.StoreLaws.{new-or-old}
use Rattle.world_commit.specs.world_base.Commits.{IsAllowed, first_floor, or_else}
use Rattle.world_commit.specs.world_base.Events.{Rules}

module _ (r : Rules) (served : List Served) (opening : Epoch × FloorWhy) (t : ℕ) (d : Durable) (stamps : List Shown) where
  -- the lease is extended
  pub extends-shows : (ticks : ℕ) → d.lease ≤ ticks → Shows r served opening t d stamps → Shows r served opening t (leased ticks d) stamps
  unfolding leased floor_of row_of
  extends-shows ticks more k = record {
    guarded = k.guarded;
    leased = λ q i at. let low : q.epoch.0 / 256 ≤ d.lease = k.leased q i at in omega (arith, low, more);
    barred = k.barred;
    stamped = k.stamped;
  }

  -- a decided attempt is settled
  pub settles-shows : (a : AttemptId) → Shows r served opening t d stamps → Shows r served opening t (settled a Commit d) stamps
  unfolding settled floor_of row_of
  settles-shows a k = record {
    guarded = k.guarded;
    leased = k.leased;
    barred = λ q v i at j f over. barred q v i at f over (has-from_map (done_by a) d.versions v (has-from_contains (map (done_by a) d.versions) v j));
    stamped = k.stamped;
  }
    where
      barred : (q : Served) (v : Version) → Has q served → q.target ≡ t → v.done ≡ false → overlaps (version_path v) (read_path q.read) ≡ true → (u : Version) × Has u d.versions × (done_by a u ≡ v) → q.epoch.0 ≤ v.epoch.0
      barred q v i at f over u =
          let was = still-open a u.0 (ap (λ x. x.done) u.2 ∙ f) in
          let same : u.0 ≡ v = sym (other-stays a u.0 was.1) ∙ u.2 in
          k.barred q v i at (subst (Contains d.versions) same (contains-from_has d.versions u.0 u.1)) f over

  -- an attempt is aborted
  pub aborts-shows : (a : AttemptId) → Shows r served opening t d stamps → Shows r served opening t (settled a Abort d) stamps
  unfolding settled floor_of row_of
  aborts-shows a k = record {
    guarded = k.guarded;
    leased = k.leased;
    barred = λ q v i at j f over.
        k.barred q v i at (contains-from_has d.versions v (has-from_filter (is_not_pending a) d.versions v (has-from_contains (filter (is_not_pending a) d.versions) v j)).0) f over;
    stamped = k.stamped;
  }

  -- a member confirms
  pub confirms-shows : (a : AttemptId) (n : ℕ) → Shows r served opening t d stamps → Shows r served opening t (settled a (Confirm n) d) stamps
  unfolding settled floor_of row_of
  confirms-shows a n k = record { guarded = k.guarded; leased = k.leased; barred = k.barred; stamped = k.stamped }

-- ---- the checks of writes

floor-above : (me e : ℕ) (f : Epoch × FloorWhy) → floor_cause me e f ≡ None → f.0.0 < e
floor-above me e f h = by (nat_le e f.0.0) refl h
  where
    by : (b : Bool) → nat_le e f.0.0 ≡ b → (if b then Some (Floor me f.0 f.1) else None) ≡ None → f.0.0 < e
    by true is h = absurd (let no : ⊥ = cc in no)
    by false is h = grind (arith, nat_tests)

or-none : (x y : Option Cause) → or_else x y ≡ None → (x ≡ None) × (y ≡ None)
or-none None y h = (refl, h)
or-none (Some c) y h = absurd (let no : ⊥ = cc in no)

-- each write is above its container's floor
pub floors-above : (p : TargetPlan) (opening : Epoch × FloorWhy) (e : Epoch) (d : Durable) (ws : List MinorWrite) → first_floor p opening e d ws ≡ None → (m : MinorWrite) → Has m ws
    → (floor_of opening d (write_path m.write).cont).0.0 < e.0
unfolding first_floor
floors-above p opening e d [] h m i = absurd i
floors-above p opening e d (w ∷ ws) h m i = by (floors-above p opening e d ws both-none.1 m) i
  where
    both-none : (floor_cause p.me e.0 (floor_of opening d (write_path w.write).cont) ≡ None) × (first_floor p opening e d ws ≡ None)
    both-none = or-none (floor_cause p.me e.0 (floor_of opening d (write_path w.write).cont)) (first_floor p opening e d ws) h

    by : (Has m ws → (floor_of opening d (write_path m.write).cont).0.0 < e.0) → Has m (w ∷ ws) → (floor_of opening d (write_path m.write).cont).0.0 < e.0
    by rest (inl same) = subst (λ u. (floor_of opening d (write_path u.write).cont).0.0 < e.0) (sym same) (floor-above p.me e.0 (floor_of opening d (write_path w.write).cont) both-none.0)
    by rest (inr j) = rest j

-- a floor lies at or above the one that is stored
pub floor-stored : (opening : Epoch × FloorWhy) (d : Durable) (c : ContId) → (row_of d c).floor.0 ≤ (floor_of opening d c).0.0
unfolding floor_of
floor-stored opening d c = by (nat_lt opening.0.0 (row_of d c).floor.0) refl
  where
    by : (b : Bool) → nat_lt opening.0.0 (row_of d c).floor.0 ≡ b → (row_of d c).floor.0 ≤ (if b then ((row_of d c).floor, (row_of d c).why) else opening).0.0
    by true is = omega arith
    by false is = grind (arith, nat_tests)

-- a write that isn't refused lies at or above each read that was served on an overlapping path
clears : (p : TargetPlan) (opening : Epoch × FloorWhy) (first : Option Epoch) (e : Epoch) (d : Durable) (stamps : List Shown) (ws : List MinorWrite) (q : Served) (m : MinorWrite)
    → IsAllowed p opening first e d stamps ws → IsGuardedBy opening d stamps q → Has m ws → overlaps (write_path m.write) (read_path q.read) ≡ true → q.epoch.0 ≤ e.0
clears p opening first e d stamps ws q m allowed guarded i over = by (cases_lt e.0 q.epoch.0)
  where
    same : (write_path m.write).cont ≡ (read_path q.read).cont
    same = ap cont_of (overlaps-container (write_path m.write) (read_path q.read) over)
      where
        cont_of : ℕ → ContId
        cont_of n = record { 0 = n }

    none : NoneAgainst (write_path m.write) e.0 stamps
    none = has-all (λ w. NoneAgainst (write_path w.write) e.0 stamps) ws m allowed.reads i

    refused : e.0 < q.epoch.0 → IsGuardedBy opening d stamps q → ⊥
    refused lt (inl low) =
        let up : (floor_of opening d (read_path q.read).cont).0.0 < e.0 = subst (λ c. (floor_of opening d c).0.0 < e.0) same (floors-above p opening e d ws allowed.floors m i) in
        omega (arith, lt, low, up)
    refused lt (inr j) =
        let off : stands_against (write_path m.write) e.0 (record { by = q.by; epoch = q.epoch; path = read_path q.read }) ≡ false = has-all (λ z. stands_against (write_path m.write) e.0 z ≡ false) stamps (record { by = q.by; epoch = q.epoch; path = read_path q.read }) none (has-from_contains stamps (record { by = q.by; epoch = q.epoch; path = read_path q.read }) j) in
        clash (stands_against (write_path m.write) e.0 (record { by = q.by; epoch = q.epoch; path = read_path q.read })) (both (nat_lt e.0 q.epoch.0) (overlaps (write_path m.write) (read_path q.read)) (grind (arith, nat_tests)) over) off

    by : e.0 < q.epoch.0 ⊎ q.epoch.0 ≤ e.0 → q.epoch.0 ≤ e.0
    by (inl lt) = absurd (refused lt guarded)
    by (inr le) = le

-- ---- an attempt's writes are stored

pub stores-shows : (r : Rules) (served : List Served) (opening : Epoch × FloorWhy) (t : ℕ) (d : Durable) (stamps : List Shown) (k : Entry) (ws : List MinorWrite) (p : TargetPlan) (first : Option Epoch)
    → IsAllowed p opening first k.epoch d stamps ws → Shows r served opening t d stamps → Shows r served opening t (prepared k ws d) stamps
unfolding prepared floor_of row_of
stores-shows r served opening t d stamps k ws p first allowed s = record {
  guarded = s.guarded;
  leased = s.leased;
  barred = λ q v i at j f over. barred q v i at f over (new-or-old k ws d.versions v j);
  stamped = s.stamped;
}
  where
    barred : (q : Served) (v : Version) → Has q served → q.target ≡ t → v.done ≡ false → overlaps (version_path v) (read_path q.read) ≡ true
        → ((m : MinorWrite) × Has m ws × (version_of k m ≡ v)) ⊎ Has v d.versions → q.epoch.0 ≤ v.epoch.0
    barred q v i at f over (inl z) =
        subst (λ e. q.epoch.0 ≤ e.0) (ap (λ u. u.epoch) z.2)
        (clears p opening first k.epoch d stamps ws q z.0 allowed (s.guarded q i at) z.1 (ap (λ u. overlaps (version_path u) (read_path q.read)) z.2 ∙ over))
    barred q v i at f over (inr j) = s.barred q v i at (contains-from_has d.versions v j) f over
