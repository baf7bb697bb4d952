-- Turns of actors one after another.
use Rattle.run_laws.specs.turns.Drawn.{RunsOn, runs-on-none, runs-on-then, turn-runs-on}
use Rattle.std.specs.Prelude.{ℕ, ◌≡◌, ◌+◌, true, List, length, slice_get, Bool, Option, Some, is_some, refl}
use Rattle.std.proofs.Common.{sym, ◌∙◌, subst, arith}
use Rattle.base_messages.specs.declared.actor.ActorId.{ActorId}
use Rattle.base_types.specs.declared.script.StopDecl.{StopDecl}
use Rattle.daos_model.specs.declared.durable.Durable.{Durable}
use Rattle.run_laws.specs.shows.Accounts.{AreAccounted, AreOfStopLines, AreServed, AtMostBothRise, AtMostRises, one_if, stop_lines_of}
use Rattle.run_laws.specs.shows.Accounting.{lines-none, lines-then, none-rise, rise-then}
use Rattle.run_laws.specs.shows.Broken.{GoesOnRuns}
use Rattle.run_laws.specs.shows.Serving.{served-first, served-then}
use Rattle.run_laws.specs.shows.CanGo.{CanGo}
use Rattle.run_laws.specs.shows.Ends.{TellsOn}
use Rattle.run_laws.specs.shows.EndsLaws.{tells-none, tells-then}
use Rattle.run_laws.specs.shows.Parts.{at-both}
use Rattle.run_laws.specs.shows.Shows.{Leads, Shows, WasReached}
use Rattle.run_laws.specs.shows.Stages.{StageNow}
use Rattle.run_laws.specs.turns.Keeping.{TurnsKeep, draws-keep, in_turn-keeps, rounds-keep}
use Rattle.run_laws.specs.turns.Readings.{HasGiven, readings_of}
use Rattle.run_laws.specs.steps.Ways.{GoesWithin, HaveGiven, Way, all_from_draw, all_rounds, from_draw, some_rounds, turned}
use Rattle.target_core.specs.Targets.{TargetOf}
use Rattle.vos_store.specs.Calls.{State}
use Rattle.world_base.specs.declared.world.World.{World}
use Rattle.world_base.specs.Events.{Rules}
use Rattle.world_base.specs.Stops.{WorldRun}

-- each store tells what it keeps
abbrev pub AllTell : {S : Type 0} → (S → Option Durable) → Type 0
AllTell {S} durable = (s : S) → is_some (durable s) ≡ true

-- ---- runs of events

-- from one world to another in some way, as a run of events
abbrev pub IsRun : Way → Type 0
IsRun way = (r : Rules) (w v : World) → way.goes r w v → RunsOn r w v

runs-keep : (r : Rules) (w : World) → TurnsKeep r (RunsOn r w)
runs-keep r w settling a k u v t on = runs-on-then r w u v on (turn-runs-on settling r a k u v t)

pub turns-are-run : (settling : Bool) (some : List ActorId) → IsRun (turned settling some)
turns-are-run settling some r w v k = in_turn-keeps r (RunsOn r w) (runs-keep r w) settling w some v k (runs-on-none r w)

pub rounds-are-run : (settling : Bool) → IsRun (some_rounds settling)
rounds-are-run settling r w v k = rounds-keep r (RunsOn r w) (runs-keep r w) settling w v k (runs-on-none r w)

pub draws-are-run : (settling : Bool) (x y : ℕ) → IsRun (from_draw settling x y)
draws-are-run settling x y r w v k = draws-keep r (RunsOn r w) (runs-keep r w) settling x w y v k (runs-on-none r w)

pub all-rounds-are-run : (settling : Bool) → IsRun (all_rounds settling)
all-rounds-are-run settling r w v k = rounds-are-run settling r w v k.rounds

pub all-draws-are-run : (settling : Bool) (x y : ℕ) → IsRun (all_from_draw settling x y)
all-draws-are-run settling x y r w v k = draws-are-run settling x y r w v k.draws

-- ---- one way made of others

-- no turn is a way, without a fault and without an event
abbrev pub IsNoWay : Way → Rules → World → Type 0
IsNoWay way r w = (k : way.goes r w w) × ((t : ℕ) → way.faults r w w k t ≡ 0) × ((u : World) (run : WorldRun r u w) → way.runs r u w w k run ≡ run)

-- so it is where one way is gone and then another, with the faults and the events of both
abbrev pub IsBothWays : (one other both : Way) (r : Rules) (w u v : World) → one.goes r w u → other.goes r u v → Type 0
IsBothWays one other both r w u v p q = (k : both.goes r w v) × ((t : ℕ) → both.faults r w v k t ≡ one.faults r w u p t + other.faults r u v q t) × ((z : World) (run : WorldRun r z w) → both.runs r z w v k run ≡ other.runs r z u v q (one.runs r z w u p run))

-- or one way as another, with the same faults and the same events
abbrev pub IsWayAs : (one other : Way) (r : Rules) (w v : World) → one.goes r w v → Type 0
IsWayAs one other r w v p = (k : other.goes r w v) × ((t : ℕ) → other.faults r w v k t ≡ one.faults r w v p t) × ((u : World) (run : WorldRun r u w) → other.runs r u w v k run ≡ one.runs r u w v p run)

-- ---- what leads from stage to stage

reached-then : (r : Rules) (T : World → World → Type 0) (w v : World) → GoesOnRuns T r → T w v → WasReached r w → WasReached r v
reached-then r T w v runs one was = let on = runs w v one in record { opening = was.opening; first = was.first; begins = was.begins; run = on.run was.first was.run; drawn = on.drawn was.drawn }

module _ {S C : Type 0} (durable : S → Option Durable) (state : S → State) (may : S → Durable → Type 0) where
  -- no turn
  pub leads-none : (r : Rules) (T : World → World → Type 0) (a : StageNow S C) → ((w : World) → T w w) → Leads durable state may T r a a
  leads-none r T a none found are = record { before = found; were = are; led = λ w was k. record { next = w; turn = none w; shows = k } }

  -- one thing and then another
  pub leads-then : (r : Rules) (one other both : World → World → Type 0) (a b c : StageNow S C) → GoesOnRuns one r → ((found : ℕ → Durable) (w u v : World) → Shows durable state r found b u → one w u → other u v → both w v) → Leads durable state may one r a b
      → Leads durable state may other r b c → Leads durable state may both r a c
  leads-then r one other both a b c runs join k l found are =
      let n = l found are in
      let m = k n.before n.were in
      record {
        before = m.before;
        were = m.were;
        led = λ w was s.
            let x = m.led w was s in
            let y = n.led x.next (reached-then r one w x.next runs x.turn was) x.shows in
            record { next = y.next; turn = join n.before w x.next y.next x.shows x.turn y.turn; shows = y.shows };
      }

  -- said in another way
  pub leads-as : (r : Rules) (one other : World → World → Type 0) (a b : StageNow S C) → ((found before : ℕ → Durable) (w v : World) → Shows durable state r before a w → Shows durable state r found b v → one w v → other w v) → Leads durable state may one r a b
      → Leads durable state may other r a b
  leads-as r one other a b said k found are =
      let m = k found are in
      record { before = m.before; were = m.were; led = λ w was s. let x = m.led w was s in record { next = x.next; turn = said found m.before w x.next s x.shows x.turn; shows = x.shows } }

  module _ (is_read : C → C → Type 0) (next_reading : C → Option ℕ) where
    -- Turns led in this way from one stage to another, where stores tell what they keep, with no more faults of a target than counts of its store rose, each
    -- by a stop line or by the outside: those of a begun run, as many clients, and the same stores after some calls; how often targets stopped is still
    -- accounted for; and the lines still tell of clients' commands in turn, and of answers that fit.
    pub record GoesOn (way : Way) (a b : StageNow S C) : Type 0 where
      pub led : AllTell durable → (r : Rules) → Leads durable state may (GoesWithin state is_read next_reading way r a b) r a b
      pub going : CanGo durable state may b
      pub clients : length b.clients ≡ length a.clients
      pub served : AreServed durable state is_read a.targets b.targets
      pub accounts : (h : ℕ → State) (stops : List StopDecl) → AreAccounted durable state h stops a → AreAccounted durable state h stops b
      pub tells : (r : Rules) → TellsOn r a b

    pub goes-none : (way : Way) (a : StageNow S C) → ((r : Rules) (w : World) → IsNoWay way r w) → CanGo durable state may a → GoesOn way a a
    goes-none way a none going = record {
      led = λ tell r. leads-none r (GoesWithin state is_read next_reading way r a a) a (λ w. record { goes = (none r w).0; within = λ t x y at there. still r w t x y at there; by_lines = λ t x y at there tells. unasked r w t x y at there tells; clocks = λ u run t x y at there first given. same-given r w u run t x y at there first given });
      going = going;
      clients = refl;
      served = served-first durable state is_read a.targets;
      accounts = λ h stops k. k;
      tells = λ r. tells-none r a;
    }
      where
        same-given : (r : Rules) (w u : World) (run : WorldRun r u w) → HaveGiven is_read next_reading a.targets a.targets run (way.runs r u w w (none r w).0 run)
        same-given r w u run t x y at there first given =
            let same : x ≡ y = let e : Some x ≡ Some y = sym at ∙ there in cc in
            subst (λ z. HasGiven is_read next_reading first (readings_of t z) y.clock) (sym ((none r w).2 u run)) (subst (λ z. HasGiven is_read next_reading first (readings_of t run) z.clock) same given)

        still : (r : Rules) (w : World) (t : ℕ) (x y : TargetOf S C) → slice_get a.targets t ≡ Some x → slice_get a.targets t ≡ Some y → AtMostBothRise (way.faults r w w (none r w).0 t) (state x.store) (state y.store)
        still r w t x y at there =
            let same : x ≡ y = let e : Some x ≡ Some y = sym at ∙ there in cc in
            subst (λ z. AtMostBothRise (way.faults r w w (none r w).0 t) (state x.store) (state z.store)) same (none-rise (way.faults r w w (none r w).0 t) (state x.store) (state x.store) ((none r w).1 t) (omega arith) (omega arith))

        unasked : (r : Rules) (w : World) → AreOfStopLines state (way.faults r w w (none r w).0) a a
        unasked r w t x y at there tells =
            let same : x ≡ y = let e : Some x ≡ Some y = sym at ∙ there in cc in
            subst (λ z. AtMostRises (way.faults r w w (none r w).0 t + stop_lines_of t a.watch.stops + one_if (state z.store).fused) (stop_lines_of t a.watch.stops + one_if (state x.store).fused) (state x.store).faults (state z.store).faults) same
            (lines-none (way.faults r w w (none r w).0 t) (stop_lines_of t a.watch.stops) (one_if (state x.store).fused) (state x.store).faults ((none r w).1 t))

    pub goes-then : (one other both : Way) (a b c : StageNow S C) → IsRun one → ((r : Rules) (found : ℕ → Durable) (w u v : World) → Shows durable state r found b u → (p : one.goes r w u) (q : other.goes r u v) → IsBothWays one other both r w u v p q) → GoesOn one a b → GoesOn other b c → GoesOn both a c
    goes-then one other both a b c runs join k l = record {
      led = λ tell r. leads-then r (GoesWithin state is_read next_reading one r a b) (GoesWithin state is_read next_reading other r b c) (GoesWithin state is_read next_reading both r a c) a b c (λ w u p. runs r w u p.goes)
          (λ found w u v s p q. record { goes = (join r found w u v s p.goes q.goes).0; within = λ t x z at there. within r found w u v s p q t x z at there; by_lines = λ t x z at there tells. by-lines r found w u v s p q t x z at there tells; clocks = λ y run t x z at there first given. both-given r found w u v s p q y run t x z at there first given }) (k.led tell r) (l.led tell r);
      going = l.going;
      clients = l.clients ∙ k.clients;
      served = served-then durable state is_read a.targets b.targets c.targets k.served l.served;
      accounts = λ h stops all. l.accounts h stops (k.accounts h stops all);
      tells = λ r. tells-then r a b c (k.tells r) (l.tells r);
    }
      where
        both-given : (r : Rules) (found : ℕ → Durable) (w u v : World) (s : Shows durable state r found b u) (p : GoesWithin state is_read next_reading one r a b w u) (q : GoesWithin state is_read next_reading other r b c u v) (o : World) (run : WorldRun r o w)
            → HaveGiven is_read next_reading a.targets c.targets run (both.runs r o w v (join r found w u v s p.goes q.goes).0 run)
        both-given r found w u v s p q o run t x z at there first given =
            let y = at-both a.targets b.targets t x k.served.many at in
            subst (λ e. HasGiven is_read next_reading first (readings_of t e) z.clock) (sym ((join r found w u v s p.goes q.goes).2 o run)) (q.clocks o (one.runs r o w u p.goes run) t y.0 z y.1 there first (p.clocks o run t x y.0 at y.1 first given))

        within : (r : Rules) (found : ℕ → Durable) (w u v : World) (s : Shows durable state r found b u) (p : GoesWithin state is_read next_reading one r a b w u) (q : GoesWithin state is_read next_reading other r b c u v) (t : ℕ) (x z : TargetOf S C) → slice_get a.targets t ≡ Some x
            → slice_get c.targets t ≡ Some z → AtMostBothRise (both.faults r w v (join r found w u v s p.goes q.goes).0 t) (state x.store) (state z.store)
        within r found w u v s p q t x z at there =
            let y = at-both a.targets b.targets t x k.served.many at in
            let later = l.served.stores t y.0 z y.1 there in
            rise-then (one.faults r w u p.goes t) (other.faults r u v q.goes t) (both.faults r w v (join r found w u v s p.goes q.goes).0 t) (state x.store) (state y.0.store) (state z.store) ((join r found w u v s p.goes q.goes).1 t) later.faults later.burns
            (p.within t x y.0 at y.1) (q.within t y.0 z y.1 there)

        by-lines : (r : Rules) (found : ℕ → Durable) (w u v : World) (s : Shows durable state r found b u) (p : GoesWithin state is_read next_reading one r a b w u) (q : GoesWithin state is_read next_reading other r b c u v) → AreOfStopLines state (both.faults r w v (join r found w u v s p.goes q.goes).0) a c
        by-lines r found w u v s p q t x z at there tells =
            let y = at-both a.targets b.targets t x k.served.many at in
            lines-then (one.faults r w u p.goes t) (other.faults r u v q.goes t) (both.faults r w v (join r found w u v s p.goes q.goes).0 t) (stop_lines_of t a.watch.stops) (one_if (state x.store).fused) (stop_lines_of t b.watch.stops) (one_if (state y.0.store).fused)
            (stop_lines_of t c.watch.stops) (one_if (state z.store).fused) (state x.store).faults (state y.0.store).faults (state z.store).faults ((join r found w u v s p.goes q.goes).1 t) (l.served.stores t y.0 z y.1 there).faults
            (p.by_lines t x y.0 at y.1 tells) (q.by_lines t y.0 z y.1 there ((k.served.stores t x y.0 at y.1).tells_fuse ∙ tells))

    pub goes-as : (one other : Way) (a b : StageNow S C) → ((r : Rules) (found before : ℕ → Durable) (w v : World) → Shows durable state r before a w → Shows durable state r found b v → (p : one.goes r w v) → IsWayAs one other r w v p) → GoesOn one a b → GoesOn other a b
    goes-as one other a b said k = record {
      led = λ tell r. leads-as r (GoesWithin state is_read next_reading one r a b) (GoesWithin state is_read next_reading other r a b) a b
          (λ found before w v s z p.
          let as' = said r found before w v s z p.goes in
          record { goes = as'.0; within = λ t x y at there. subst (λ n. AtMostBothRise n (state x.store) (state y.store)) (sym (as'.1 t)) (p.within t x y at there); by_lines = λ t x y at there tells. same-lines t x y (as'.1 t) (p.by_lines t x y at there tells); clocks = λ u run t x y at there first given. subst (λ e. HasGiven is_read next_reading first (readings_of t e) y.clock) (sym (as'.2 u run)) (p.clocks u run t x y at there first given) }) (k.led tell r);
      going = k.going;
      clients = k.clients;
      served = k.served;
      accounts = k.accounts;
      tells = k.tells;
    }
      where
        same-lines : (t : ℕ) (x y : TargetOf S C) {n m : ℕ} → m ≡ n → AtMostRises (n + stop_lines_of t b.watch.stops + one_if (state y.store).fused) (stop_lines_of t a.watch.stops + one_if (state x.store).fused) (state x.store).faults (state y.store).faults
            → AtMostRises (m + stop_lines_of t b.watch.stops + one_if (state y.store).fused) (stop_lines_of t a.watch.stops + one_if (state x.store).fused) (state x.store).faults (state y.store).faults
        same-lines t x y same z = subst (λ n. AtMostRises (n + stop_lines_of t b.watch.stops + one_if (state y.store).fused) (stop_lines_of t a.watch.stops + one_if (state x.store).fused) (state x.store).faults (state y.store).faults) (sym same) z
