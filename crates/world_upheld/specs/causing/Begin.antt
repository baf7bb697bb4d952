-- So it is at the beginning, whatever the script makes.
use Rattle.std.specs.Prelude.{ℕ, ◌≡◌, ◌≤◌, ◌<◌, ◌+◌, ◌*◌, ◌^◌, ◌++◌, nat_lt, max, Bool, true, false, List, [], ◌∷◌, length, slice_get, Some, refl, if◌then◌else◌, ◌/◌}
use Rattle.std.proofs.Common.{inl, arith}
use Rattle.std.proofs.lemmas.Bool.Decides.{nat_tests}
use Rattle.base_types.specs.declared.epoch.Epoch.{Epoch}
use Rattle.base_types.specs.declared.outcome.FloorWhy.{FloorWhy}
use Rattle.base_types.specs.declared.id.ContId.{ContId}
use Rattle.base_types.specs.declared.report.Attempt.{Attempt}
use Rattle.base_types.specs.declared.report.Line.{Line}
use Rattle.base_types.specs.declared.report.Line.TheVariants as line
use Rattle.model_laws.specs.Lists.{none-in}
use Rattle.daos_model.specs.declared.durable.ContRow.{ContRow}
use Rattle.daos_model.specs.Durables.{row_of}
use Rattle.daos_model.specs.Opening.{Opening, top}
use Rattle.daos_model.specs.Stops.{restart_numbers}
use Rattle.vos_store.specs.Answers.{floor_of, later_floor}
use Rattle.world_base.specs.declared.target.TargetState.{TargetState}
use Rattle.world_base.specs.declared.world.World.{World}
use Rattle.world_base.specs.Events.{Rules}
use Rattle.world_legal.specs.world_causes.causes.Shown.{Causes, FloorsShown, IsOfBefore, OutcomeStands, limit_over}
use Rattle.world_upheld.specs.causing.Places.{Places}
use Rattle.world_upheld.specs.causing.Refusing.{FreezeRefusalsShow}
use Rattle.world_base.specs.declared.client.ClientState.{ClientState}
use Rattle.world_legal.specs.world_causes.causes.Causes.{LowFloors}

-- a world at its beginning: nothing is in flight, issued, parked or told of; free blocks, ticks, trackers, floors and leases are the opening's
pub record IsBegun (o : Opening) (w : World) : Type 0 where
  pub messages : w.messages ≡ []
  pub issued : w.issued ≡ []
  pub lines : w.lines ≡ []
  pub parked : (t : ℕ) (s : TargetState) → slice_get w.targets t ≡ Some s → s.memory.member.parked ≡ []
  pub space : (t : ℕ) (s : TargetState) → slice_get w.targets t ≡ Some s → o.free t ≤ s.free
  pub ticks : (t : ℕ) (s : TargetState) → slice_get w.targets t ≡ Some s → s.memory.ticks ≤ o.lease
  pub trackers : (n : ℕ) (c : ClientState) → slice_get w.clients n ≡ Some c → c.tracker.0 / 256 ≤ o.lease
  pub floors : LowFloors o w
  pub leases : (t : ℕ) (s : TargetState) → slice_get w.targets t ≡ Some s → s.durable.lease ≤ o.lease

-- where nothing is in flight, issued, parked or told, outcomes show their causes
abbrev pub AllCausesBegin : Type 0
AllCausesBegin = (r : Rules) (o : Opening) (w : World) → IsBegun o w → Causes r o [] w

-- and refusals of Freezes do; and no more snapshots stand at a target than those of the opening
abbrev pub RefusalsAndPlacesBegin : Type 0
RefusalsAndPlacesBegin =
    (r : Rules) (o : Opening) (w : World) → w.messages ≡ [] → ((t : ℕ) (z : TargetState) → slice_get w.targets t ≡ Some z → length z.durable.snaps ≤ length o.stand.snaps) → FreezeRefusalsShow r o w × Places r o w

-- ---- floors

floor-parts : (f : Epoch × FloorWhy) (row : ContRow) (n : ℕ) → (later_floor f row).0.0 ≤ n → (f.0.0 ≤ n) × (row.floor.0 ≤ n)
floor-parts f row n low = by (nat_lt f.0.0 row.floor.0) refl low
  where
    by : (b : Bool) → nat_lt f.0.0 row.floor.0 ≡ b → (if b then (row.floor, row.why) else f).0.0 ≤ n → (f.0.0 ≤ n) × (row.floor.0 ≤ n)
    by true is k = let up : f.0.0 < row.floor.0 = grind (arith, nat_tests) in (omega (arith, up, k), k)
    by false is k = let up : row.floor.0 ≤ f.0.0 = grind (arith, nat_tests) in (k, omega (arith, up, k))

floors-begin : (o : Opening) (w : World) → IsBegun o w → FloorsShown o w
unfolding floor_of
floors-begin o w B = record {
  opening = λ t s cont here runs. IsOfBefore (floor-parts s.opening (row_of s.durable cont) (top o) (B.floors t s cont here).0).0;
  leased = λ t s here runs. inl (floor-parts s.opening (row_of s.durable any) (top o) (B.floors t s any here).0).0;
  stored = λ t s cont here. inl (IsOfBefore (floor-parts s.opening (row_of s.durable cont) (top o) (B.floors t s cont here).0).1);
  aggregated = λ t s cont here. IsOfBefore (B.floors t s cont here).1;
}
  where
    any : ContId
    any = record { 0 = 0 }

-- ---- all of it

no-try : (r : Rules) (o : Opening) (w : World) (before : List Line) (a : Attempt) (after : List Line) → w.lines ≡ [] → w.lines ≡ before ++ line.Try a ∷ after → OutcomeStands r o [] w.issued before a.id a.outcome
no-try r o w [] a after none e = let no : ⊥ = cc in absurd no
no-try r o w (b ∷ before) a after none e = let no : ⊥ = cc in absurd no

pub causes-begin : AllCausesBegin
causes-begin r o w B = record {
  bounded = record {
    ticks = λ t s at runs. within (B.ticks t s at);
    trackers = λ n c at. within (B.trackers n c at);
    issued = λ x e i. absurd (none-in w.issued (x, e) B.issued i);
    told = λ l e i j. absurd (none-in w.messages l B.messages i);
    floors = λ t floor cont reason i. absurd (none-in w.lines i.1 B.lines (i.0, i.2, i.3));
    leases = λ t s at. more s.durable.lease (limit_over o w.lines w.issued) (within (B.leases t s at));
  };
  space = λ t s at. let k : o.free t ≤ s.free = B.space t s at in omega (arith, k);
  floors = floors-begin o w B;
  waiting = record {
    meets = λ t s p x e here i. absurd (none-in s.memory.member.parked p (B.parked t s here) i);
    undecided = λ l x y i. absurd (none-in w.messages l B.messages i);
    asked = λ l x i. absurd (none-in w.messages l B.messages i);
    own = λ l x i. absurd (none-in w.messages l B.messages i);
  };
  flight = λ l i. absurd (none-in w.messages l B.messages i);
  lines = λ before a after e. no-try r o w before a after B.lines e;
}
  where
    within : {n : ℕ} → n ≤ o.lease → n ≤ limit_over o w.lines w.issued
    within {n = n} low = by (2 ^ 55) (length w.issued) (length (restart_numbers w.lines))
      where
        by : (a b c : ℕ) → n ≤ max a o.lease + b + 65536 * c
        by a b c = omega (arith, low)

    more : (a b : ℕ) → a ≤ b → a ≤ b + 65536
    more a b low = omega (arith, low)

pub refusals-and_places_begin : RefusalsAndPlacesBegin
refusals-and_places_begin r o w none few = (λ l x how i. absurd (none-in w.messages l none i), λ t z at. let low = few t z at in omega (arith, low))
