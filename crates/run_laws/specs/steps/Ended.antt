-- Where a run of the actors ends.
use Rattle.run_laws.specs.turns.Drawn.{AreDrawn}
use Rattle.run_laws.specs.shows.Beginning.{RunBegins}
use Rattle.std.specs.Prelude.{ℕ, ◌≡◌, ◌+◌, ◌<◌, ◌^◌, true, List, [], length, slice_get, Option, Some, is_some}
use Rattle.std.specs.Option.{ForSome}
use Rattle.std.proofs.Common.{sym, ◌∙◌, ap, subst, arith}
use Rattle.base_types.specs.declared.report.Line.{Line}
use Rattle.base_types.specs.declared.script.StopDecl.{StopDecl}
use Rattle.daos_model.specs.FormLaws.{length-map}
use Rattle.daos_model.specs.declared.durable.Durable.{Durable}
use Rattle.daos_model.specs.Opening.{Opening}
use Rattle.run_base.specs.Picks.{due}
use Rattle.run_base.specs.Sweeps.{lives_of}
use Rattle.model_laws.specs.Lists.{at-within}
use Rattle.run_laws.specs.shows.Accounts.{AreAccounted, AreOfStopLines, AreWithinRises, AtMostBothRise, AtMostRises, one_if, stop_lines_of}
use Rattle.run_laws.specs.shows.CanGo.{CanGo}
use Rattle.run_laws.specs.shows.Going.{AreAlike, AreSteady}
use Rattle.run_laws.specs.shows.ListLaws.{map-get}
use Rattle.run_laws.specs.shows.Parts.{at-both}
use Rattle.run_laws.specs.shows.Shows.{IsTargetOf, Leads, Shows}
use Rattle.run_laws.specs.shows.Stages.{AreFound, IsPlace, StageNow}
use Rattle.run_laws.specs.steps.Going.{AllTell}
use Rattle.run_laws.specs.steps.Ways.{GoesWithin, HaveGiven, in_order}
use Rattle.run_laws.specs.turns.Faults.{cuts_and_failures}
use Rattle.run_laws.specs.turns.OrderLaws.{order-faults, orders-are-runs, orders-end-quiet, orders-have-ended}
use Rattle.run_laws.specs.turns.Orders.{InOrder}
use Rattle.run_watch.specs.Watches.{WatchNow}
use Rattle.target_core.specs.Targets.{TargetOf}
use Rattle.vos_store.specs.Calls.{State}
use Rattle.world_base.specs.declared.target.Life.{Life}
use Rattle.world_base.specs.declared.target.Life.TheVariants.{Down, Running, Stopped}
use Rattle.world_base.specs.declared.target.TargetState.{TargetState}
use Rattle.world_base.specs.declared.world.World.{World}
use Rattle.world_base.specs.Ended.{HasEnded}
use Rattle.world_base.specs.Events.{Rules, target_plan}
use Rattle.world_base.specs.Stops.{Begins}
use Rattle.world_closing.specs.Below.{client_begins}

-- ---- a run that was begun

-- where a world that is shown is one with which a run begins, all stores tell what they keep
pub begun-tell : {S C : Type 0} (durable : S → Option Durable) (state : S → State) → AreAlike durable → (r : Rules) (o : Opening) (w : World) (found : ℕ → Durable) (a : StageNow S C) → RunBegins r o w → Shows durable state r found a w → AllTell durable
begun-tell durable state alike r o w found a begins shows s =
    let first = at-within w.targets 0 (let some = begins.form.some_target in let many = begins.begins.targets in omega (arith, some, many)) in
    let x = at-both w.targets a.targets 0 first.0 (sym shows.many) first.1 in
    let runs = (begins.begins.starts 0 first.0 first.1).runs in
    let place : IsPlace a 0 x.0 Running = record { there = x.1; stands = ap (λ ls. slice_get ls 0) (sym shows.lives) ∙ map-get (λ z. z.life) w.targets 0 first.0 first.1 ∙ ap (λ l. Some l) runs } in
    let is = shows.targets 0 x.0 Running first.0 place first.1 in
    alike x.0.store s (ap is_some is.so.told)

-- ---- a run that has ended

-- What a run leaves: its targets, how they stand, and its lines. The clients are gone, and nothing else lies between actors.
abbrev pub left_of : {S C : Type 0} → List (TargetOf S C) → WatchNow → List Line → StageNow S C
left_of xs watch lines = record { clients = []; targets = xs; watch = watch; between = record { messages = []; asked = []; issued = []; lines = lines } }

module _ {S C : Type 0} (durable : S → Option Durable) (state : S → State) (is_read : C → C → Type 0) (next_reading : C → Option ℕ) where
  -- A run in this order, from a world, has ended in one in which no actor has anything to do; what it left are its targets, how they stand, and
  -- its lines, where stores of targets that don't run would be found so. It began with the actors at first; and of each target no more turns were cut, and
  -- no more openings failed, than counts of its store rose in it, each by a stop line or by the outside; and its clock gave the readings at which it
  -- issued epochs, and no others.
  pub record HasRun (r : Rules) (order : ℕ) (first : World) (start : StageNow S C) (found : ℕ → Durable) (left : StageNow S C) : Type 0 where
    pub last : World
    pub run : InOrder r order first last
    pub quiet : due true r last ≡ []
    pub ended : HasEnded r last
    pub told : left.between.lines ≡ last.lines
    pub many : length last.targets ≡ length left.targets
    pub lives : lives_of last ≡ left.watch.lives
    pub targets : (t : ℕ) (x : TargetOf S C) (life : Life) (s : TargetState) → IsPlace left t x life → slice_get last.targets t ≡ Some s → IsTargetOf durable state (target_plan r t) life (found t) x s
    pub restarts : last.numbers.restarts ≡ left.watch.restarts
    pub faults : AreWithinRises state (λ t. cuts_and_failures t (orders-are-runs r order first last run)) start.targets left.targets
    pub by_lines : AreOfStopLines state (λ t. cuts_and_failures t (orders-are-runs r order first last run)) start left
    pub clocks : HaveGiven is_read next_reading start.targets left.targets Begins (orders-are-runs r order first last run)

  -- whatever these stores would be found with, a run has ended so
  abbrev pub HasRunWith : (S → Durable → Type 0) → Rules → ℕ → World → StageNow S C → StageNow S C → Type 0
  HasRunWith may r order first start left = (found : ℕ → Durable) → AreFound may left found → HasRun r order first start found left

  -- where the actors of a begun run came in order to where none has anything to do, it has run
  pub has-run : AreAlike durable → (may : S → Durable → Type 0) (r : Rules) (order : ℕ) (w : World) (o : Opening) (a b : StageNow S C) → RunBegins r o w → AreDrawn w → ((found : ℕ → Durable) → Shows durable state r found a w) → (AllTell durable → Leads durable state may (GoesWithin state is_read next_reading (in_order order) r a b) r a b)
      → HasRunWith may r order w a (left_of b.targets b.watch b.between.lines)
  unfolding orders-are-runs
  has-run alike may r order w o a b begins drawn shows leads found are =
      let m = leads (begun-tell durable state alike r o w found a begins (shows found)) found (λ t x life place rests. are t x life (record { there = place.there; stands = place.stands }) rests) in
      let x = m.led w (record { opening = o; first = w; begins = begins; run = Begins; drawn = drawn }) (shows m.before) in
      record {
        last = x.next;
        run = x.turn.goes;
        quiet = orders-end-quiet r order w x.next x.turn.goes;
        ended = orders-have-ended r order w x.next (ap length begins.begins.clients ∙ length-map (client_begins r o w) r.script.clients) x.turn.goes;
        told = x.shows.lines;
        many = x.shows.many;
        lives = x.shows.lives;
        targets = λ t z life s place at. x.shows.targets t z life s (record { there = place.there; stands = place.stands }) at;
        restarts = x.shows.restarts;
        clocks = λ t y z at there c given. x.turn.clocks w Begins t y z at there c given;
        faults = λ t y z at there. subst (λ n. AtMostBothRise n (state y.store) (state z.store)) (sym (order-faults t r order w x.next x.turn.goes)) (x.turn.within t y z at there);
        by_lines = λ t y z at there tells. subst (λ n. AtMostRises (n + stop_lines_of t b.watch.stops + one_if (state z.store).fused) (stop_lines_of t a.watch.stops + one_if (state y.store).fused) (state y.store).faults (state z.store).faults) (sym (order-faults t r order w x.next x.turn.goes)) (x.turn.by_lines t y z at there tells);
      }

-- how often targets stopped is accounted for by what is left
pub left-accounted : {S C : Type 0} (durable : S → Option Durable) (state : S → State) (h : ℕ → State) (stops : List StopDecl) (a : StageNow S C) → AreAccounted durable state h stops a → AreAccounted durable state h stops (left_of a.targets a.watch a.between.lines)
left-accounted durable state h stops a k t x there told = let one = k t x there told in record { stopped = one.stopped; failed = one.failed; down = one.down; told = one.told }

-- ---- another opening

-- Whatever the next opening of a store finds, that opening has its number, where the store tells what it keeps.
abbrev pub CanReopen : {S : Type 0} → (S → Option Durable) → (S → Durable → Type 0) → S → Type 0
CanReopen durable may store = ForSome (durable store) (λ _. (e : Durable) → may store e → e.incarnation + 1 < 2 ^ 64)

module _ {S C : Type 0} (durable : S → Option Durable) (state : S → State) (may : S → Durable → Type 0) where
  -- so it is of the stores of all targets
  abbrev pub AllCanReopen : List (TargetOf S C) → Type 0
  AllCanReopen xs = (t : ℕ) (x : TargetOf S C) → slice_get xs t ≡ Some x → CanReopen durable may x.store

  -- the stores of actors that can go on may be opened again
  pub can-reopen : AreSteady durable state may → (a : StageNow S C) → CanGo durable state may a → AllCanReopen a.targets
  can-reopen steady a can t x at d told e found = let life = at-both a.targets a.watch.lives t x can.standing at in by life.0 (record { there = at; stands = life.1 })
    where
      few : a.watch.openings < 2 ^ 32
      few = can.openings

      by : (life : Life) → IsPlace a t x life → e.incarnation + 1 < 2 ^ 64
      by Running place =
          let same : e.incarnation ≡ d.incarnation = ap (λ z. z.incarnation) (steady x.store d e (can.work t x place).running told found) in
          let low = (can.told t x d at told).counted t x Running place d told in
          omega (arith, same, low, few)
      by Stopped place = let low = (can.told t x d at told).counted t x Stopped place e found in omega (arith, low, few)
      by Down place = let low = (can.told t x d at told).counted t x Down place e found in omega (arith, low, few)
