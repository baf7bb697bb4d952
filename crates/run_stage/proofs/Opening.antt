-- What is left of the actors where a target opened again.
use Rattle.std.specs.Prelude.{ℕ, ◌≡◌, Bool, ◌<◌, ◌^◌, true, false, List, [], length, slice_get, slice_set, Option, Some, IsSome, Result, Ok, Err, IfOk, IfErr, OnErr, OnOk, is_ok}
use Rattle.std.specs.Option.{ForSome}
use Rattle.std.proofs.Common.{◌∙◌, ap, subst, sym}
use Rattle.daos_model.specs.declared.durable.Durable.{Durable}
use Rattle.model_laws.specs.Lists.{at-within}
use Rattle.run_laws.specs.shows.Openings.{AfterOpening, HasFuse, IsArmed}
use Rattle.run_laws.specs.shows.Stages.{IsPlace, StageNow}
use Rattle.run_laws.specs.shows.Steps.{InOpening, NotOpened, OnceOpened, Opened, OpeningEnds, TargetBroke, TargetReopened, WasReopened}
use Rattle.run_laws.specs.shows.Reopening.{set-twice}
use Rattle.run_laws.specs.shows.Turned.{AfterFailure, followed, swept_stage, with_between}
use Rattle.run_watch.specs.Watches.{WatchNow, fuse_set, next_fuse, opened_again, opening_tried}
use Rattle.run_stage.proofs.Stopping.{watched}
use Rattle.run_laws.specs.target_core.Targets.{OpensAs, TargetOf}
use Rattle.run_laws.specs.target_parts.Stops.{stop_foreign}
use Rattle.run_laws.specs.target_parts.declared.stop.TargetStop.{TargetStop}
use Rattle.run_laws.specs.target_resync.Openings.{IsBare, Left, Reopens, TellsRestart}
use Rattle.vos_store.specs.Calls.{State}
use Rattle.vos_store.specs.Refusals.{says}
use Rattle.world_base.specs.declared.did.Did.{Did}
use Rattle.world_base.specs.declared.target.Life.TheVariants.{Stopped}
use Rattle.world_base.specs.Letters.{target}
use Rattle.run_laws.specs.world_ended.Asking.{Asked, TurnLeavesWith}
use Rattle.run_laws.specs.world_letters.kinds.PostLaws.{CarryNone}
use Rattle.run_laws.specs.world_contents.posts.Forms.{TurnFollows}

-- what holds where a call fails holds where it may fail
pub on-err : {T E : Type 0} (P : Type 0) (result : Result T E) → P → OnErr result P
on-err P (Ok x) p = tt
on-err P (Err e) p = p

-- one thing stands at a place
pub same-there : {A : Type 0} (xs : List A) (n : ℕ) (x y : A) → slice_get xs n ≡ Some x → slice_get xs n ≡ Some y → x ≡ y
same-there xs n x y one other = let same : Some x ≡ Some y = sym one ∙ other in cc

-- once the next fuse of a target was set that is there, targets stand as before
pub armed-watch : {S C : Type 0} (durable : S → Option Durable) (state : S → State) (may : S → Durable → Type 0) (t : ℕ) (a m : StageNow S C) → t < length a.targets
    → ((x : TargetOf S C) → slice_get a.targets t ≡ Some x → IsArmed durable state may t x a m) → m.watch ≡ fuse_set t a.watch
armed-watch durable state may t a m within armed = let x = at-within a.targets t within in ap (λ z. z.watch) (armed x.0 x.1).after

module _ {S C : Type 0} (durable : S → Option Durable) (state : S → State) (may : S → Durable → Type 0) (t : ℕ) (x : TargetOf S C) where
  -- the next fuse of a target was set
  pub armed-so : (a b : StageNow S C) (y z : TargetOf S C) → y ≡ x → HasFuse durable state may (next_fuse t a.watch.stops) y z → b ≡ record a { targets = slice_set a.targets t z; watch = fuse_set t a.watch } → IsArmed durable state may t x a b
  armed-so a b y z same fuse after = record { armed = z; fuse = subst (λ q. HasFuse durable state may (next_fuse t a.watch.stops) q z) same fuse; after = after }

  -- a target opened again: its next fuse was set, it runs, and what followed came about
  pub opened-so : {T E : Type 0} (result : Result T E) (did : Did) (a m b : StageNow S C) (w : WatchNow) → IsArmed durable state may t x a m → w ≡ opened_again t m.watch
      → OnOk result (b ≡ swept_stage (with_between (followed (target t) did m.between) (watched m w))) → OnOk result (AfterOpening durable state may t x did a b)
  opened-so (Ok u) did a m b w armed runs came = record {
    armed = armed.armed;
    fuse = armed.fuse;
    after =
        came
        ∙ ap (λ v. swept_stage (with_between (followed (target t) did m.between) (watched m v))) runs
        ∙ ap (λ z. swept_stage (record z { watch = opened_again t z.watch; between = followed (target t) did z.between })) armed.after;
  }
  opened-so (Err e) did a m b w armed runs came = tt

module _ {S C : Type 0} (durable : S → Option Durable) (state : S → State) (may : S → Durable → Type 0) (t number : ℕ) (x y : TargetOf S C) (said : Result Did TargetStop) (w : WatchNow) (a b : StageNow S C)
    (place : IsPlace a t x Stopped) (tried : w ≡ opening_tried a.watch) (few : w.openings < 2 ^ 32) (numbered : number ≡ w.restarts) (plan : y.plan ≡ x.plan) (clock : y.clock ≡ x.clock) (opens : Reopens said (state x.store) (state y.store) (durable x.store) (durable y.store))
    (turn : ForSome (durable x.store) (λ d. IfOk said (OpensAs x.plan number (may x.store) (durable y.store) (state y.store) y.memory))) (left : Left (may x.store) (may y.store)) (bare : IfErr said IsBare) (native : IsSome (durable x.store) → says stop_foreign said ≡ false)
    (posts : IfOk said (λ did. TurnFollows x.plan.targets y.memory did.posts)) (line : IfOk said (TellsRestart number x.plan.me)) (reads : IfOk said (λ did. CarryNone did.posts)) (ends-so : (asked : Asked) → IfOk said (λ did. TurnLeavesWith asked y.memory did.posts)) (fresh : is_ok said ≡ true → y.memory.member.parked ≡ []) (opened : y.opened ≡ is_ok said) where
  abbrev was-reopened : WasReopened durable state may t a
  was-reopened =
      let next = numbered ∙ ap (λ v. v.restarts) tried in
      record {
        before = x;
        now = y;
        result = said;
        place = place;
        few = subst (λ v. v.openings < 2 ^ 32) tried few;
        plan = plan;
        clock = clock;
        opens = opens;
        turn = subst (λ n. ForSome (durable x.store) (λ d. IfOk said (OpensAs x.plan n (may x.store) (durable y.store) (state y.store) y.memory))) next turn;
        left = left;
        bare = bare;
        native = native;
        posts = posts;
        line = subst (λ n. IfOk said (TellsRestart n x.plan.me)) next line;
        reads = reads;
        ends = ends-so;
        fresh = fresh;
        opened = opened;
      }

  reopened : OpeningEnds durable state may t x y (record a { targets = slice_set a.targets t y; watch = opening_tried a.watch }) b said → TargetReopened durable state may t a b
  reopened ends = record { was = was-reopened; ends = ends }

  -- a target that was stopped opened again
  pub reopened-whole : {E : Type 0} (result : Result (Unit {0}) E) (did : Did) → said ≡ Ok did → OnOk result (AfterOpening durable state may t y did (record a { targets = slice_set a.targets t y; watch = w }) b) → OnOk result (TargetReopened durable state may t a b)
  reopened-whole (Ok u) did is came = reopened (Opened did is (subst (λ v. AfterOpening durable state may t y did (record a { targets = slice_set a.targets t y; watch = v }) b) tried came))
  reopened-whole (Err e) did is came = tt

  -- or it didn't open
  pub reopened-not : {E : Type 0} (result : Result (Unit {0}) E) (stop : TargetStop) (before : ℕ) → said ≡ Err stop → before ≡ (state x.store).faults
      → OnOk result (AfterFailure t before (state y.store).faults stop (record a { targets = slice_set a.targets t y; watch = w }) b) → OnOk result (TargetReopened durable state may t a b)
  reopened-not (Ok u) stop before is counted came =
      reopened (NotOpened stop is (subst (λ v. AfterFailure t (state x.store).faults (state y.store).faults stop (record a { targets = slice_set a.targets t y; watch = v }) b) tried
      (subst (λ n. AfterFailure t n (state y.store).faults stop (record a { targets = slice_set a.targets t y; watch = w }) b) counted came)))
  reopened-not (Err e) stop before is counted came = tt

  module _ (is_read : C → C → Type 0) (next_reading : C → Option ℕ) (settling : Bool) (k : ℕ) where
    -- it opened again, and its next fuse was set, but memory was wanting for what followed
    pub opened-broke : {E : Type 0} (result : Result (Unit {0}) E) (did : Did) → said ≡ Ok did → OnErr result ((armed : TargetOf S C) × HasFuse durable state may (next_fuse t w.stops) y armed × (b.targets ≡ slice_set (slice_set a.targets t y) t armed))
        → OnErr result (TargetBroke durable state may is_read next_reading settling t k a b.targets)
    opened-broke (Ok u) did is came = tt
    opened-broke (Err e) did is came = OnceOpened was-reopened did came.0 is (subst (λ v. HasFuse durable state may (next_fuse t v.stops) y came.0) tried came.1) (came.2 ∙ set-twice a.targets t y came.0)

    -- or it didn't open, and memory was wanting then
    pub opening-broke : {E : Type 0} (result : Result (Unit {0}) E) (why : TargetStop) → said ≡ Err why → b.targets ≡ slice_set a.targets t y → OnErr result (TargetBroke durable state may is_read next_reading settling t k a b.targets)
    opening-broke (Ok u) why is left-so = tt
    opening-broke (Err e) why is left-so = InOpening was-reopened why is left-so
