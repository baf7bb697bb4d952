-- A turn, with all that it leaves.
use Rattle.std.specs.Prelude.{ℕ, ◌≡◌, ◌≤◌, ◌+◌, ◌++◌, ◌⊎◌, ◌&&◌, Bool, true, false, List, length, slice_get, Option, Some, None, is_some, refl}
use Rattle.std.proofs.Common.{inl, inr, sym, ◌∙◌, ap, subst, arith}
use Rattle.base_messages.specs.declared.actor.ActorId.{ActorId}
use Rattle.base_outside.specs.Causes.{Rose}
use Rattle.base_types.specs.declared.script.StopDecl.{StopDecl}
use Rattle.daos_model.specs.Stops.{down_targets}
use Rattle.daos_model.specs.declared.durable.Durable.{Durable}
use Rattle.model_laws.specs.Members.{Has, contains-from_has, has-cases, has-from_contains}
use Rattle.run_laws.specs.shows.Accounting.{downs-told, fuse-less, no-more, none-rise, one-rise, stops-told}
use Rattle.run_laws.specs.shows.Accounts.{AreAccounted, AreOfStopLines, AreServed, AreWithinRises, AtMostBothRise, AtMostRises, IsAccounted, one_if, stop_lines_of, stops_told_in}
use Rattle.run_laws.specs.shows.CanGo.{CanGo}
use Rattle.run_laws.specs.shows.Fitting.{Fits, can-go}
use Rattle.run_laws.specs.shows.Going.{AreAlike, AreFindable, going-on}
use Rattle.run_laws.specs.shows.Ends.{TellsOn}
use Rattle.run_laws.specs.shows.Parts.{IsTurnSo, at-both}
use Rattle.run_laws.specs.shows.Shows.{IsGoing, Leads}
use Rattle.run_laws.specs.shows.Stages.{StageNow}
use Rattle.run_laws.specs.steps.Going.{AllTell, GoesOn, leads-as}
use Rattle.run_laws.specs.steps.Ways.{GoesWithin, HaveGiven, turn_of}
use Rattle.run_laws.specs.turns.Faults.{fault_by, once_for}
use Rattle.run_laws.specs.turns.OrderLaws.{turn-goes}
use Rattle.run_laws.specs.turns.Readings.{GivesOn, HasGiven, read_by, reading_of, readings_of, turn-reads}
use Rattle.run_laws.specs.turns.StopLines.{one_or_none}
use Rattle.run_laws.specs.turns.Turns.{TurnOf}
use Rattle.target_core.specs.Targets.{TargetOf}
use Rattle.vos_store.specs.Calls.{Ailed, Fires, State}
use Rattle.world_base.specs.declared.world.World.{World}
use Rattle.world_base.specs.Events.{Rules}
use Rattle.world_base.specs.Stops.{WorldRun}
use Rattle.world_letters.specs.lives.Adding.{stops_of}

-- ---- counts

-- this is no more than that; or one more, where a count rose
abbrev pub AtMostOne : ℕ → ℕ → ℕ → ℕ → Type 0
AtMostOne n m before now = (n ≤ m) ⊎ ((n ≤ m + 1) × Rose before now)

more-or-one : (m n more before now later : ℕ) → AtMostOne n m now later → now ≤ later → AtMostRises m more before now → AtMostRises n more before later
more-or-one m n more before now later (inl fewer) up k = no-more m n more before now later fewer up k
more-or-one m n more before now later (inr z) up k = one-rise m n more before now later z.0 z.1 k

-- one came of a fuse, or of the outside
pub one-struck : (h k : State) → Fires h k → Ailed h k → h.tells_fuse ≡ true → (n l m : ℕ) → n ≡ 1 → m ≡ l → AtMostOne (n + m + one_if k.fused) (l + one_if h.fused) h.faults k.faults
one-struck h k fires (inl rose) tells n l m one same = let less = fuse-less h k fires tells in inr (omega (arith, one, same, less), rose)
one-struck h k fires (inr z) tells n l m one same =
    let off : k.fused ≡ false = ap (λ b. b && k.fused) (sym tells) ∙ z.2 in
    let none : one_if k.fused ≡ 0 = ap one_if off in
    let set' : one_if h.fused ≡ 1 = ap one_if z.1 in
    inl (omega (arith, one, same, none, set'))

-- What a turn in which some targets stopped and were given up, and which was cut, or in which an opening failed, leaves of what is counted of a target.
pub record Counts {S C : Type 0} (state : S → State) (a b : StageNow S C) (stops downs faults : Option ℕ) (t : ℕ) (x y : TargetOf S C) : Type 0 where
  pub up : (state x.store).faults ≤ (state y.store).faults
  pub tells : (state y.store).tells_fuse ≡ (state x.store).tells_fuse
  pub stopped : (state x.store).tells_fuse ≡ true
      → AtMostOne (stops_of stops t + stop_lines_of t b.watch.stops + one_if (state y.store).fused) (stop_lines_of t a.watch.stops + one_if (state x.store).fused) (state x.store).faults (state y.store).faults
  pub failed : (n : ℕ) → slice_get b.watch.faults t ≡ Some n → (m : ℕ) × (slice_get a.watch.faults t ≡ Some m) × AtMostOne n m (state x.store).faults (state y.store).faults
  pub down : downs ≡ Some t → (slice_get a.watch.faults t ≡ Some 8) × Rose (state x.store).faults (state y.store).faults
  pub fault : AtMostBothRise (once_for faults t) (state x.store) (state y.store)
  pub struck : (state x.store).tells_fuse ≡ true
      → AtMostOne (once_for faults t + stop_lines_of t b.watch.stops + one_if (state y.store).fused) (stop_lines_of t a.watch.stops + one_if (state x.store).fused) (state x.store).faults (state y.store).faults

-- of a target that no turn touched nothing is counted
pub counts-none : {S C : Type 0} (state : S → State) (a b : StageNow S C) (stops downs faults : Option ℕ) (t : ℕ) (x : TargetOf S C) → stops_of stops t ≡ 0 → (downs ≡ Some t → ⊥) → once_for faults t ≡ 0 → stop_lines_of t b.watch.stops ≤ stop_lines_of t a.watch.stops
    → ((n : ℕ) → slice_get b.watch.faults t ≡ Some n → slice_get a.watch.faults t ≡ Some n) → Counts state a b stops downs faults t x x
counts-none state a b stops downs faults t x none up no_fault fewer same = record {
  up = omega arith;
  tells = refl;
  stopped = λ tells. inl (omega (arith, none, fewer));
  failed = λ n at. (n, same n at, inl (omega arith));
  down = λ is. absurd (up is);
  fault = none-rise (once_for faults t) (state x.store) (state x.store) no_fault (omega arith) (omega arith);
  struck = λ tells. inl (omega (arith, no_fault, fewer));
}

its-down : (t : ℕ) (downs : Option ℕ) → Has t (one_or_none downs) → downs ≡ Some t
its-down t None i = absurd i
its-down t (Some u) (inl same) = ap (λ n. Some n) (sym same)
its-down t (Some u) (inr none) = absurd none

-- ---- a turn

module _ {S C : Type 0} (durable : S → Option Durable) (state : S → State) (may : S → Durable → Type 0) (is_read : C → C → Type 0) (next_reading : C → Option ℕ) where
  module _ (a b : StageNow S C) (settling : Bool) (actor : ActorId) (number raised : ℕ) (stops downs faults : Option ℕ) (read : Option (ℕ × ℕ)) (can : CanGo durable state may a) (leads : AllTell durable → (r : Rules) → Leads durable state may (IsTurnSo settling r actor number raised stops downs faults read) r a b) (findable : AreFindable durable may)
      (alike : AreAlike durable) (served : AreServed durable state is_read a.targets b.targets) (clocks : (t : ℕ) (x y : TargetOf S C) → slice_get a.targets t ≡ Some x → slice_get b.targets t ≡ Some y → GivesOn is_read next_reading read t x.clock y.clock) where
    going-by : (t : ℕ) (x : TargetOf S C) → slice_get a.targets t ≡ Some x → (o : Option Durable) → durable x.store ≡ o → is_some o ≡ true → IsGoing durable state may a
    going-by t x at None is some = let no : ⊥ = cc in absurd no
    going-by t x at (Some d) is some = can.told t x d at is

    -- where a store tells what it keeps, the run was begun
    was-going : (t : ℕ) (y : TargetOf S C) → slice_get b.targets t ≡ Some y → is_some (durable y.store) ≡ true → IsGoing durable state may a
    was-going t y at is = let x = at-both b.targets a.targets t y (sym served.many) at in going-by t x.0 x.1 (durable x.0.store) refl (alike y.store x.0.store is)

    accounted : ((t : ℕ) (x y : TargetOf S C) → slice_get a.targets t ≡ Some x → slice_get b.targets t ≡ Some y → is_some (durable x.store) ≡ true → Counts state a b stops downs faults t x y)
        → (h : ℕ → State) (lines : List StopDecl) → AreAccounted durable state h lines a → AreAccounted durable state h lines b
    accounted counts h lines all t y at is = record {
      stopped = λ tells. more-or-one (stops_told_in a.between.lines t + stop_lines_of t a.watch.stops + one_if (state x.0.store).fused) _ (stop_lines_of t lines) (h t).faults (state x.0.store).faults (state y.store).faults
          (more (c.stopped (before.told ∙ tells))) c.up (before.stopped tells);
      failed = λ n here. let m = c.failed n here in more-or-one m.0 n 0 (h t).faults (state x.0.store).faults (state y.store).faults m.2 c.up (before.failed m.0 m.1);
      down = λ i. elim (has-cases (down_targets a.between.lines) (one_or_none downs) t (subst (Has t) downs-are (has-from_contains (down_targets b.between.lines) t i))) [
        | inl j ↦ no-more 9 9 0 (h t).faults (state x.0.store).faults (state y.store).faults (omega arith) c.up (before.down (contains-from_has (down_targets a.between.lines) t j))
        | inr j ↦ (let d = c.down (its-down t downs j) in one-rise 8 9 0 (h t).faults (state x.0.store).faults (state y.store).faults (omega arith) d.1 (before.failed 8 d.0))
      ];
      told = c.tells ∙ before.told;
    }
      where
        x : (z : TargetOf S C) × (slice_get a.targets t ≡ Some z)
        x = at-both b.targets a.targets t y (sym served.many) at

        x-tells : is_some (durable x.0.store) ≡ true
        x-tells = alike y.store x.0.store is

        c : Counts state a b stops downs faults t x.0 y
        c = counts t x.0 y x.1 at x-tells

        before : IsAccounted state (h t) lines a t x.0
        before = all t x.0 x.1 x-tells

        g : IsGoing durable state may a
        g = was-going t y at is

        tell : AllTell durable
        tell s = alike y.store s is

        told : stops_told_in b.between.lines t ≡ stops_told_in a.between.lines t + stops_of stops t
        told = stops-told durable state may a b settling actor number raised stops downs faults read g (leads tell g.rules) findable (λ z. tell z.store) t

        downs-are : down_targets b.between.lines ≡ down_targets a.between.lines ++ one_or_none downs
        downs-are = downs-told durable state may a b settling actor number raised stops downs faults read g (leads tell g.rules) findable (λ z. tell z.store)

        more : AtMostOne (stops_of stops t + stop_lines_of t b.watch.stops + one_if (state y.store).fused) (stop_lines_of t a.watch.stops + one_if (state x.0.store).fused) (state x.0.store).faults (state y.store).faults
            → AtMostOne (stops_told_in b.between.lines t + stop_lines_of t b.watch.stops + one_if (state y.store).fused) (stops_told_in a.between.lines t + stop_lines_of t a.watch.stops + one_if (state x.0.store).fused) (state x.0.store).faults (state y.store).faults
        more (inl fewer) = inl (omega (arith, fewer, told))
        more (inr z) = let few = z.0 in inr (omega (arith, few, told), z.1)

    -- with no more faults of each target than counts of its store rose, each by a stop line or by the outside
    leads-within : (r : Rules) → AllTell durable → AreWithinRises state (once_for faults) a.targets b.targets → AreOfStopLines state (once_for faults) a b → Leads durable state may (GoesWithin state is_read next_reading (turn_of settling actor number) r a b) r a b
    leads-within r tell few lines =
        leads-as durable state may r (IsTurnSo settling r actor number raised stops downs faults read) (GoesWithin state is_read next_reading (turn_of settling actor number) r a b) a b
        (λ found before w v s z one. record { goes = one.turn; within = λ t x y at there. subst (λ o. AtMostBothRise (once_for o t) (state x.store) (state y.store)) (sym one.faults_is) (few t x y at there); by_lines = by-lines (fault_by one.turn) one.faults_is; clocks = λ u run t x y at there first given. given-on w v one.turn one.read_is u run t x y at there first given }) (leads tell r)
      where
        by-lines : (o : Option ℕ) → o ≡ faults → AreOfStopLines state (once_for o) a b
        by-lines o is t x y at there tells =
            subst (λ f. AtMostRises (once_for f t + stop_lines_of t b.watch.stops + one_if (state y.store).fused) (stop_lines_of t a.watch.stops + one_if (state x.store).fused) (state x.store).faults (state y.store).faults) (sym is) (lines t x y at there tells)

        given-on : (w v : World) (turn : TurnOf settling r actor number w v) → read_by turn ≡ read → (u : World) (run : WorldRun r u w) → HaveGiven is_read next_reading a.targets b.targets run (turn-goes settling r actor number u w v turn run)
        given-on w v turn is u run t x y at there first given =
            subst (λ xs. HasGiven is_read next_reading first xs y.clock) (sym (turn-reads t settling r actor number u w v turn run)) (subst (λ o. HasGiven is_read next_reading first (readings_of t run ++ reading_of o t) y.clock) (sym is) (clocks t x y at there first (readings_of t run) given))

    -- what a turn of an actor leads to, and that the actors can go on, are accounted for, and have told in turn then
    pub turn-done : Fits state can.rules b → a.watch.openings + raised ≤ b.watch.openings → length b.clients ≡ length a.clients → ((r : Rules) → TellsOn r a b)
        → ((t : ℕ) (x y : TargetOf S C) → slice_get a.targets t ≡ Some x → slice_get b.targets t ≡ Some y → is_some (durable x.store) ≡ true → Counts state a b stops downs faults t x y)
        → GoesOn durable state may is_read next_reading (turn_of settling actor number) a b
    turn-done fits up clients tells counts = record {
      led = λ tell r. leads-within r tell (λ t x y at there. (counts t x y at there (tell x.store)).fault) (λ t x y at there tells. struck t x y (counts t x y at there (tell x.store)) tells);
      going = can-go durable state may can.rules b can.form fits
          (λ t y d at is.
          let some : is_some (durable y.store) ≡ true = ap is_some is in
          let g = was-going t y at some in
          going-on durable state may a b settling actor number raised stops downs faults read g (leads (λ s. alike y.store s some) g.rules) findable (λ z. alike y.store z.store some) up);
      clients = clients;
      served = served;
      accounts = accounted counts;
      tells = tells;
    }
      where
        struck : (t : ℕ) (x y : TargetOf S C) → Counts state a b stops downs faults t x y → (state x.store).tells_fuse ≡ true
            → AtMostRises (once_for faults t + stop_lines_of t b.watch.stops + one_if (state y.store).fused) (stop_lines_of t a.watch.stops + one_if (state x.store).fused) (state x.store).faults (state y.store).faults
        struck t x y c tells =
            more-or-one (stop_lines_of t a.watch.stops + one_if (state x.store).fused) (once_for faults t + stop_lines_of t b.watch.stops + one_if (state y.store).fused) (stop_lines_of t a.watch.stops + one_if (state x.store).fused)
            (state x.store).faults (state x.store).faults (state y.store).faults (c.struck tells) c.up (inr (omega arith))
