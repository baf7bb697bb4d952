-- What a target served stays guarded where floors go up and no version comes.
use Rattle.std.specs.Prelude.{ℕ, ◌≡◌, ◌≤◌, ◌<◌, ◌/◌, Bool, true, false, nat_lt, List, Contains, refl, if◌then◌else◌}
use Rattle.std.proofs.Common.{inl, inr, arith}
use Rattle.std.proofs.lemmas.Bool.Decides.{nat_tests}
use Rattle.base_types.specs.declared.epoch.Epoch.{Epoch}
use Rattle.base_types.specs.declared.id.ContId.{ContId}
use Rattle.base_types.specs.declared.outcome.FloorWhy.{FloorWhy}
use Rattle.base_types.specs.declared.shown.Shown.{Shown}
use Rattle.base_types.specs.Operations.{read_path}
use Rattle.daos_model.specs.declared.durable.ContRow.{ContRow}
use Rattle.daos_model.specs.declared.durable.Durable.{Durable}
use Rattle.daos_model.specs.declared.durable.Version.{Version}
use Rattle.daos_model.specs.Durables.{row_of}
use Rattle.vos_store.specs.Answers.{floor_of, later_floor}
use Rattle.world_commit.specs.attempts.History.{Served}
use Rattle.world_commit.specs.world_base.Events.{Rules}
use Rattle.world_contents.specs.reads.Midway.{IsGuardedBy, Shows}

later-rises : (opening : Epoch × FloorWhy) (r q : ContRow) → r.floor.0 ≤ q.floor.0 → (later_floor opening r).0.0 ≤ (later_floor opening q).0.0
later-rises opening r q up = by (nat_lt opening.0.0 r.floor.0) (nat_lt opening.0.0 q.floor.0) refl refl
  where
    by : (a b : Bool) → nat_lt opening.0.0 r.floor.0 ≡ a → nat_lt opening.0.0 q.floor.0 ≡ b → (if a then (r.floor, r.why) else opening).0.0 ≤ (if b then (q.floor, q.why) else opening).0.0
    by true true e f = up
    by true false e f = let lt : opening.0.0 < r.floor.0 = grind (arith, nat_tests) in let le : q.floor.0 ≤ opening.0.0 = grind (arith, nat_tests) in omega (arith, lt, le, up)
    by false true e f = let lt : opening.0.0 < q.floor.0 = grind (arith, nat_tests) in omega (arith, lt)
    by false false e f = omega arith

pub shows-on : (r : Rules) (served : List Served) (opening : Epoch × FloorWhy) (t : ℕ) (d e : Durable) (stamps : List Shown) → ((c : ContId) → (row_of d c).floor.0 ≤ (row_of e c).floor.0)
    → d.lease ≤ e.lease → ((v : Version) → Contains e.versions v → Contains d.versions v) → Shows r served opening t d stamps → Shows r served opening t e stamps
unfolding floor_of
shows-on r served opening t d e stamps floors lease old k = record {
  guarded = λ q i at. guarded q (k.guarded q i at);
  leased = λ q i at. let low : q.epoch.0 / 256 ≤ d.lease = k.leased q i at in omega (arith, low, lease);
  barred = λ q v i at j f over. k.barred q v i at (old v j) f over;
  stamped = k.stamped;
}
  where
    guarded : (q : Served) → IsGuardedBy opening d stamps q → IsGuardedBy opening e stamps q
    guarded q (inl low) =
        let up = later-rises opening (row_of d (read_path q.read).cont) (row_of e (read_path q.read).cont) (floors (read_path q.read).cont) in
        inl (omega (arith, low, up))
    guarded q (inr stamp) = inr stamp
