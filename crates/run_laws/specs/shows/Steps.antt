-- What a turn leaves of the actors of a run.
use Rattle.target_core.specs.target_snaps.Following.{TellsNoAttempt}
use Rattle.std.specs.Prelude.{ℕ, ◌≡◌, ◌+◌, ◌<◌, ◌^◌, Bool, true, List, [], slice_get, slice_set, Option, Some, Result, Ok, Err, IfOk, IfErr, IsSome, is_ok, false}
use Rattle.std.specs.Option.{ForSome}
use Rattle.client_core.specs.Clients.{ClientNow}
use Rattle.daos_model.specs.declared.durable.Durable.{Durable}
use Rattle.run_base.specs.Letters.{BetweenNow, IsPicked}
use Rattle.run_base.specs.Picks.{count_to, heard_awake}
use Rattle.run_laws.specs.shows.Ends.{LettersGoWith}
use Rattle.run_laws.specs.shows.Kinds.{TurnsOnce}
use Rattle.run_laws.specs.shows.Openings.{AfterOpening, HasFuse}
use Rattle.run_laws.specs.shows.Stages.{IsPlace, StageNow}
use Rattle.run_laws.specs.shows.Turned.{AfterCut, AfterFailure, HasTurned, followed, swept_stage, with_between, with_client_at, with_target_at}
use Rattle.run_watch.specs.Watches.{next_fuse, opening_tried}
use Rattle.target_core.specs.Targets.{OpensAs, TargetOf}
use Rattle.run_opening.specs.target_parts.Parts.{Runs}
use Rattle.run_opening.specs.target_parts.Readings.{IsReadOn}
use Rattle.run_opening.specs.target_parts.Stops.{stop_foreign, stop_store}
use Rattle.run_opening.specs.target_parts.declared.stop.TargetStop.{TargetStop}
use Rattle.target_core.specs.target_resync.Openings.{IsBare, Left, Reopens, TellsRestart}
use Rattle.vos_store.specs.Calls.{State}
use Rattle.vos_store.specs.Refusals.{says}
use Rattle.world_base.specs.declared.did.Did.{Did}
use Rattle.world_base.specs.declared.letter.Letter.{Letter}
use Rattle.world_base.specs.declared.target.Life.TheVariants.{Running, Stopped}
use Rattle.world_base.specs.ClientTurns.{HearTurn, NextTurn}
use Rattle.world_base.specs.Letters.{client, target}
use Rattle.target_core.specs.world_ended.Asking.{Asked, TurnLeavesWith, TurnsEndAsked}
use Rattle.world_letters.specs.kinds.PostLaws.{CarryNone}
use Rattle.run_opening.specs.world_contents.posts.Forms.{TurnFollows, TurnsPostInForm}

-- ---- a client's turn

-- A client heard the letter of this number among those in flight to it; or, where it skips its turn or none is, went on without one.
pub data ClientWorks (n number : ℕ) (c d : ClientNow) (b left : BetweenNow) (did : Did) : Type 0 where
  HeardOne : (l : Letter) (rest : List Letter) → c.state.skip ≡ 0 → IsPicked b.messages (client n) number l rest → left ≡ record b { messages = rest } → HearTurn c.plan c.state l.message did d.state → ClientWorks n number c d b left did
  WentOn : heard_awake c.state (count_to (client n) b.messages) ≡ 0 → left ≡ b → NextTurn c.plan c.state did d.state → ClientWorks n number c d b left did

-- A client had its turn, and what followed came about.
pub record ClientTurned {S C : Type 0} (n number : ℕ) (a b : StageNow S C) : Type 0 where
  pub before : ClientNow
  pub now : ClientNow
  pub did : Did
  pub left : BetweenNow
  pub here : slice_get a.clients n ≡ Some before
  pub plan : now.plan ≡ before.plan
  pub works : ClientWorks n number before now a.between left did
  pub after : b ≡ swept_stage (with_between (followed (client n) did left) (with_client_at n now a))

-- ---- a target's turn

module _ {S C : Type 0} (durable : S → Option Durable) (state : S → State) (may : S → Durable → Type 0) where
  -- The turn of a target that ran was whole, and what followed came about; or it was cut, and then the target is stopped, or given up.
  pub data WorkEnds (t : ℕ) (x y : TargetOf S C) (left : BetweenNow) (a b : StageNow S C) (result : Result Did TargetStop) : Type 0 where
    Whole : (did : Did) → result ≡ Ok did → b ≡ swept_stage (with_between (followed (target t) did left) (with_target_at t y a)) → WorkEnds t x y left a b result
    Cut : (stop : TargetStop) → result ≡ Err stop → AfterCut t (state x.store).faults (state y.store).faults stop (with_between left (with_target_at t y a)) b → WorkEnds t x y left a b result

  -- A target that was stopped opened again, its next fuse was set, and what followed came about; or it didn't open.
  pub data OpeningEnds (t : ℕ) (x y : TargetOf S C) (a b : StageNow S C) (result : Result Did TargetStop) : Type 0 where
    Opened : (did : Did) → result ≡ Ok did → AfterOpening durable state may t y did a b → OpeningEnds t x y a b result
    NotOpened : (stop : TargetStop) → result ≡ Err stop → AfterFailure t (state x.store).faults (state y.store).faults stop a b → OpeningEnds t x y a b result

  -- One that is stopped was to be opened, by the restart of the next number, and its store did so with this result.
  pub record WasReopened (t : ℕ) (a : StageNow S C) : Type 0 where
    pub before : TargetOf S C
    pub now : TargetOf S C
    pub result : Result Did TargetStop
    pub place : IsPlace a t before Stopped
    pub few : a.watch.openings + 1 < 2 ^ 32
    pub plan : now.plan ≡ before.plan
    pub clock : now.clock ≡ before.clock
    pub opens : Reopens result (state before.store) (state now.store) (durable before.store) (durable now.store)
    pub turn : ForSome (durable before.store) (λ d. IfOk result (OpensAs before.plan a.watch.restarts (may before.store) (durable now.store) (state now.store) now.memory))
    pub left : Left (may before.store) (may now.store)
    pub bare : IfErr result IsBare
    pub native : IsSome (durable before.store) → says stop_foreign result ≡ false
    pub posts : IfOk result (λ did. TurnFollows before.plan.targets now.memory did.posts)
    pub line : IfOk result (TellsRestart a.watch.restarts before.plan.me)
    pub reads : IfOk result (λ did. CarryNone did.posts)
    pub ends : (asked : Asked) → IfOk result (λ did. TurnLeavesWith asked now.memory did.posts)
    pub fresh : is_ok result ≡ true → now.memory.member.parked ≡ []
    pub opened : now.opened ≡ is_ok result

  -- And what came of it came about.
  pub record TargetReopened (t : ℕ) (a b : StageNow S C) : Type 0 where
    pub was : WasReopened t a
    pub ends : OpeningEnds t was.before was.now (record a { targets = slice_set a.targets t was.now; watch = opening_tried a.watch }) b was.result

  module _ (is_read : C → C → Type 0) (next_reading : C → Option ℕ) where
    -- A target that runs worked, with this result.
    pub record HasWorked (settling : Bool) (t number : ℕ) (a : StageNow S C) : Type 0 where
      pub before : TargetOf S C
      pub now : TargetOf S C
      pub left : BetweenNow
      pub result : Result Did TargetStop
      pub place : IsPlace a t before Running
      pub plan : now.plan ≡ before.plan
      pub opened : now.opened ≡ true
      pub runs : Runs stop_store result (state before.store) (state now.store) (durable before.store) (durable now.store)
      pub told : TellsNoAttempt result
      pub clock : IsReadOn is_read before.clock now.clock
      pub posts : IfOk result (λ did. TurnsPostInForm before.plan.targets before.memory now.memory did.posts)
      pub once : IfOk result (TurnsOnce a.between left before.memory.member now.memory.member)
      pub ends : (asked : Asked) → LettersGoWith asked a.between.messages → IfOk result (λ did. TurnsEndAsked asked before.memory now.memory did.posts)
      pub came : HasTurned durable state may is_read next_reading settling t number before now a.between left result

    -- And what came of it came about.
    pub record TargetWorked (settling : Bool) (t number : ℕ) (a b : StageNow S C) : Type 0 where
      pub work : HasWorked settling t number a
      pub ends : WorkEnds t work.before work.now work.left a b work.result

    -- A target had its turn: one that runs worked, and one that is stopped was opened.
    pub data TargetTurned (settling : Bool) (t number : ℕ) (a b : StageNow S C) : Type 0 where
      Worked : TargetWorked settling t number a b → TargetTurned settling t number a b
      Reopened : TargetReopened t a b → TargetTurned settling t number a b

    -- Memory was wanting in a target's turn, which left these targets: before it began; in its work, or for what came of that; in its opening, or
    -- for what came of one that failed; or for what came of an opening, once the target's next fuse was set.
    pub data TargetBroke (settling : Bool) (t number : ℕ) (a : StageNow S C) (xs : List (TargetOf S C)) : Type 0 where
      NotBegun : xs ≡ a.targets → TargetBroke settling t number a xs
      InWork : (k : HasWorked settling t number a) → xs ≡ slice_set a.targets t k.now → TargetBroke settling t number a xs
      InOpening : (k : WasReopened t a) (why : TargetStop) → k.result ≡ Err why → xs ≡ slice_set a.targets t k.now → TargetBroke settling t number a xs
      OnceOpened : (k : WasReopened t a) (did : Did) (armed : TargetOf S C) → k.result ≡ Ok did → HasFuse durable state may (next_fuse t a.watch.stops) k.now armed → xs ≡ slice_set a.targets t armed → TargetBroke settling t number a xs
