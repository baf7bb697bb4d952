-- What a run of targets comes to.
use Rattle.std.specs.Prelude.{ℕ, ◌≡◌, ◌≤◌, ◌<◌, ◌+◌, ◌-◌, ◌^◌, ◌⊎◌, Bool, true, false, List, Contains, slice_get, is_some, Option, Some, None, [], ◌%◌}
use Rattle.base_types.specs.declared.entry.Entry.{Entry}
use Rattle.base_types.specs.declared.id.AttemptId.{AttemptId}
use Rattle.base_types.specs.declared.report.Line.{Line}
use Rattle.base_types.specs.declared.report.Report.{Report}
use Rattle.base_types.specs.declared.script.Script.{Script}
use Rattle.daos_model.specs.declared.durable.Durable.{Durable}
use Rattle.daos_model.specs.Durables.{entry_of}
use Rattle.daos_model.specs.Family.{created_snaps}
use Rattle.daos_model.specs.Finals.{HeadlineOver}
use Rattle.daos_model.specs.Headline.{Headline}
use Rattle.daos_model.specs.Opening.{Given, Outside, top, undisturbed}
use Rattle.daos_model.specs.Sound.{Sound}
use Rattle.daos_model.specs.Stops.{down_targets, least, stop_numbers}
use Rattle.dtx_base.specs.Members.{has_target}
use Rattle.model_lone.specs.Only.{TellsOfOnlyClient}
use Rattle.model_reports.specs.Lone.{HasOneClient}
use Rattle.report_writer.specs.Forms.{IsReportOf}
pub use Rattle.run_opening.specs.All.{AreKept, MayBeFound}
use Rattle.run_laws.specs.shows.Accounts.{AtMostBothRise, AtMostRises, stop_lines_of}
use Rattle.run_laws.specs.steps.Ended.{CanReopen}
use Rattle.run_laws.specs.turns.Faults.{cuts_and_failures}
use Rattle.run_laws.specs.turns.OrderLaws.{orders-are-runs}
use Rattle.run_laws.specs.turns.Orders.{InOrder}
use Rattle.run_laws.specs.turns.Readings.{HasGiven, readings_of}
use Rattle.target_core.specs.Targets.{TargetOf}
use Rattle.run_laws.specs.ends.Starts.{stores_of}
use Rattle.vos_store.specs.Calls.{State}
use Rattle.world_commit.specs.attempts.Attempts.{IsOther, IsMember}
use Rattle.world_base.specs.declared.target.Life.TheVariants.{Running}
use Rattle.world_base.specs.declared.target.TargetMemory.{TargetMemory}
use Rattle.world_base.specs.declared.target.TargetState.{TargetState}
use Rattle.world_base.specs.declared.world.World.{World}
use Rattle.world_closing.specs.Rules.{rules_of}
use Rattle.world_closing.specs.Below.{durables_of}
use Rattle.world_closing.specs.Below.{AreExternallyConsistent, KeepsTheBound}
pub use Rattle.run_laws.specs.ends.Standing.{StandsForAttempts}
pub use Rattle.run_laws.specs.reports.Reports.{AreIssuedSince, IsKeyed}
use Rattle.run_laws.specs.shows.Beginning.{RunBegins}
use Rattle.run_opening.specs.Opened.{AreFloored}
use Rattle.world_closing.specs.Below.{no_joining, no_leading}
use Rattle.world_letters.specs.epochs.Epochs.{Unsnapped}
use Rattle.base_types.specs.declared.report.Attempt.{Attempt}
use Rattle.base_types.specs.declared.epoch.Epoch.{Epoch}
use Rattle.daos_model.specs.Attempts.{tries}

-- one of the targets issued each epoch
abbrev pub AreIssuedThere : Report → Type 0
AreIssuedThere q = (a : Attempt) (e : Epoch) → Contains (tries q.lines) a → a.epoch ≡ Some e → e.0 % 256 < q.targets

-- ---- the report

-- the report of these lines; it names the least of the targets that were given up, if one was
abbrev pub report_with : Script → List Line → Report
report_with s lines = record { targets = s.targets; lines = lines; down = least (down_targets lines) }

-- it is the one of its lines for a script: it names its targets, and the least of those that were given up
abbrev pub IsReportOfLines : Script → Report → Type 0
IsReportOfLines s q = q ≡ report_with s q.lines

-- the report is legal though the outside failed no region, whichever attempts are taken as resolved
abbrev pub IsLegal : Given → Report → Type 0
IsLegal g q = (resolved : AttemptId → Bool) → Headline g undisturbed resolved q

-- ---- the outside

-- An outside that may have failed each target's store, xs at first and ys in the end, as often as its count rose. Of a store it may say
-- nothing; where it says how often it failed it at most, the store tells its fuse, so that no other stops it, and its count doesn't stand at
-- its end.
pub record IsOutside {S : Type 0} (state : S → State) (o : Outside) (xs ys : List S) : Type 0 where
  pub counts : (t : ℕ) (x y : S) (k : ℕ) → slice_get xs t ≡ Some x → slice_get ys t ≡ Some y → o.rises t ≡ Some k → ((state x).tells_fuse ≡ true) × ((state y).faults < 2 ^ 64 - 1) × ((state y).faults ≤ (state x).faults + k)

-- ---- the stores in the end

-- a target keeps an entry of an attempt, and has committed it
pub record IsCommittedIn (d : Durable) (x : AttemptId) : Type 0 where
  pub entry : Entry
  pub found : entry_of d x ≡ Some entry
  pub committed : entry.committed ≡ true

-- a member of an attempt was given up, as a line tells
pub record LacksMember (g : Given) (q : Report) (x : AttemptId) : Type 0 where
  pub member : ℕ
  pub its : IsMember (rules_of g) x member
  pub down : Contains (down_targets q.lines) member

-- Each entry that is kept by a target that wasn't given up is committed, and so at each member that wasn't given up; or a member of its attempt was
-- given up. Of what is committed at a target, whatever the next openings find, each member keeps an entry.
pub record LeavesSettled {S : Type 0} (durable : S → Option Durable) (may : S → Durable → Type 0) (g : Given) (q : Report) (ys : List S) : Type 0 where
  pub entries : (t : ℕ) (y : S) (d : Durable) (e : Entry) → slice_get ys t ≡ Some y → (Contains (down_targets q.lines) t → ⊥) → durable y ≡ Some d → Contains d.entries e → (e.committed ≡ true) ⊎ LacksMember g q e.attempt
  pub everywhere : (t : ℕ) (y : S) (d : Durable) (e : Entry) → slice_get ys t ≡ Some y → (Contains (down_targets q.lines) t → ⊥) → durable y ≡ Some d → Contains d.entries e
      → (m : ℕ) (z : S) (f : Durable) → IsMember (rules_of g) e.attempt m → slice_get ys m ≡ Some z → (Contains (down_targets q.lines) m → ⊥) → durable z ≡ Some f
      → IsCommittedIn f e.attempt ⊎ LacksMember g q e.attempt
  pub held : (lasts : List Durable) → MayBeFound may ys lasts → (t : ℕ) (d : Durable) (e : Entry) → slice_get lasts t ≡ Some d → Contains d.entries e → e.committed ≡ true → (m : ℕ) (f : Durable) → IsMember (rules_of g) e.attempt m → slice_get lasts m ≡ Some f → is_some (entry_of f e.attempt) ≡ true

-- Each target of which no line tells that it was given up has a store that runs.
abbrev pub LeavesRunning : {S : Type 0} → (S → State) → Report → List S → Type 0
LeavesRunning {S} state q ys = (t : ℕ) (y : S) → slice_get ys t ≡ Some y → (Contains (down_targets q.lines) t → ⊥) → (state y).stopped ≡ false

-- ---- where no snapshot is made

-- no snapshot is there when the run begins, and its script makes none and reads at none
abbrev pub HasNoSnapshots : Given → Type 0
HasNoSnapshots g = Unsnapped (rules_of g) × (g.opening.stand.snaps ≡ [])

-- ---- where nothing stopped

-- In the end the stores stand for what the report tells, by the headline, where replicas agree; and nothing is left to settle: each entry is
-- committed, and so at each member that it names; and where its leader keeps it, each other member has confirmed that.
pub record StandPlainly {S : Type 0} (durable : S → Option Durable) (g : Given) (q : Report) (ys : List S) : Type 0 where
  pub lasts : List Durable
  pub kept : AreKept durable ys lasts
  pub headline : HeadlineOver g undisturbed lasts q
  pub settled : (t : ℕ) (d : Durable) (e : Entry) → slice_get lasts t ≡ Some d → Contains d.entries e → e.committed ≡ true
  pub everywhere : (t : ℕ) (d : Durable) (e : Entry) → slice_get lasts t ≡ Some d → Contains d.entries e → (m : ℕ) (f : Durable) → has_target e.members m ≡ true → slice_get lasts m ≡ Some f → IsCommittedIn f e.attempt
  pub confirmed : (t : ℕ) (d : Durable) (e : Entry) → slice_get lasts t ≡ Some d → Contains d.entries e → e.leader ≡ t → (m : ℕ) → IsOther (rules_of g) e.attempt m → has_target e.confirmed m ≡ true

-- Where no line tells of a stop, the run ended as one in which nothing can stop.
pub record EndsUnstopped {S : Type 0} (durable : S → Option Durable) (g : Given) (q : Report) (ys : List S) : Type 0 where
  pub stand : StandPlainly durable g q ys
  pub legal : IsLegal g q
  pub none_down : q.down ≡ None

-- ---- the order

-- A report's lines are those of a run of the world in the order that the job names, to where that order ends: turn by turn, those of the
-- actor and the message that it picks. It begins where no client had a turn, and all numbers of aggregations were drawn.
pub record FollowsOrder (g : Given) (q : Report) : Type 0 where
  pub first : World
  pub begins : RunBegins (rules_of g) g.opening first
  pub numbers : first.numbers ≡ record { restarts = 0; aggregates = 2 ^ 32 }
  pub last : World
  pub run : InOrder (rules_of g) g.job.order first last
  pub lines : q.lines ≡ last.lines

-- how often in that run a target's turn was cut, or its opening failed
abbrev pub cuts_and_failures_in : (g : Given) (q : Report) → FollowsOrder g q → ℕ → ℕ
cuts_and_failures_in g q f t = cuts_and_failures t (orders-are-runs (rules_of g) g.job.order f.first f.last f.run)

-- what a target remembers that keeps this, and has just opened: its ticks begin at the lease, and nothing else is there
abbrev pub memory_at_first : Durable → TargetMemory
memory_at_first d = record { ticks = d.lease; stamps = []; leader = no_leading; member = no_joining; collecting = [] }

-- A target of a world is as its store says: it keeps what that tells, with its free blocks, and the floor of its last opening; and it has just opened.
pub record IsAsStored {S : Type 0} (durable : S → Option Durable) (state : S → State) (x : S) (s : TargetState) : Type 0 where
  pub kept : durable x ≡ Some s.durable
  pub as_it_is : s ≡ record { durable = s.durable; free = (state x).free; opening = (state x).opening; life = Running; memory = memory_at_first s.durable }

-- That run begins with the targets over these stores, as they are, and the next openings of their stores may find what the targets keep in the end.
-- Of each target no more turns were cut in it, and no more openings failed, than the counts of its store rose together; and where the store tells its fuse,
-- no more than the script has stop lines for the target and faults of the store rose together.
pub record IsOrdered {S : Type 0} (durable : S → Option Durable) (state : S → State) (may : S → Durable → Type 0) (g : Given) (q : Report) (xs ys : List S) : Type 0 where
  pub follows : FollowsOrder g q
  pub begins : (t : ℕ) (x : S) (s : TargetState) → slice_get xs t ≡ Some x → slice_get follows.first.targets t ≡ Some s → IsAsStored durable state x s
  pub kept : MayBeFound may ys (durables_of follows.last)
  pub faults : (t : ℕ) (x y : S) → slice_get xs t ≡ Some x → slice_get ys t ≡ Some y → AtMostBothRise (cuts_and_failures_in g q follows t) (state x) (state y)
  pub by_lines : (t : ℕ) (x y : S) → slice_get xs t ≡ Some x → slice_get ys t ≡ Some y → (state x).tells_fuse ≡ true → AtMostRises (cuts_and_failures_in g q follows t) (stop_lines_of t g.script.stops) (state x).faults (state y).faults

-- In the run that a report follows each of these clocks, by the number of a target, gave just the readings at which that target's events issued
-- epochs, or found that none are left: one after another, each where it is the clock's next one, if that is told, and no others.
abbrev pub ClocksGave : {C : Type 0} → (C → C → Type 0) → (C → Option ℕ) → (g : Given) (q : Report) → FollowsOrder g q → (ℕ → C → C → Type 0) → Type 0
ClocksGave {C} is_read next_reading g q f AreOf = (t : ℕ) (c d : C) → AreOf t c d → HasGiven is_read next_reading c (readings_of t (orders-are-runs (rules_of g) g.job.order f.first f.last f.run)) d

-- A target's clock, as it is given before the run that a report follows and as it is after it, gave just the readings at which the target issued epochs, or found that none are
-- left, and no others: one after another, each where it is the clock's next one, if that is told.
pub record HasClock {C : Type 0} (gives : C → Type 0) (is_read : C → C → Type 0) (next_reading : C → Option ℕ) (g : Given) (q : Report) (f : FollowsOrder g q) (t : ℕ) : Type 0 where
  pub before : C
  pub given : gives before
  pub after : C
  pub gave : HasGiven is_read next_reading before (readings_of t (orders-are-runs (rules_of g) g.job.order f.first f.last f.run)) after

-- ---- a run after this one

-- What was kept is sound together, and each frozen snapshot lies at or below the floor of its container.
pub record IsSoundAgain (lasts : List Durable) : Type 0 where
  pub sound : Sound lasts
  pub floored : AreFloored lasts

-- Where the stores kept what is sound together, so is whatever their next openings find.
abbrev pub LeavesSound : {S : Type 0} → (S → Option Durable) → (S → Durable → Type 0) → List S → List S → Type 0
LeavesSound durable may xs ys = (F : List Durable) → AreKept durable xs F → Sound F → (lasts : List Durable) → MayBeFound may ys lasts → IsSoundAgain lasts

-- Each store may be opened again.
abbrev pub LeavesReopenable : {S : Type 0} → (S → Option Durable) → (S → Durable → Type 0) → List S → Type 0
LeavesReopenable {S} durable may ys = (t : ℕ) (y : S) → slice_get ys t ≡ Some y → CanReopen durable may y

-- ---- where memory was wanting

-- Whatever the next openings find stands for the opening and the attempts that are resolved there; it is sound where the stores kept what is
-- sound together; and target 0 holds no snapshot where none is there and none is made.
pub record BreaksOffSo {S : Type 0} (durable : S → Option Durable) (may : S → Durable → Type 0) (g : Given) (xs ys : List S) : Type 0 where
  pub stand : (lasts : List Durable) → MayBeFound may ys lasts → StandsForAttempts (rules_of g) g.opening lasts
  pub sound : LeavesSound durable may xs ys
  pub unsnapped : HasNoSnapshots g → (lasts : List Durable) → MayBeFound may ys lasts → created_snaps lasts ≡ []

-- ---- all of it

-- where the clocks keep the bound, conflicting committed attempts have epochs in the order of real time
abbrev pub IsInRealTime : Given → Report → Type 0
IsInRealTime g q = KeepsTheBound g.script g.job.epsilon q.lines → AreExternallyConsistent g.script q.lines

-- What a run of these targets, which begins so, comes to. Whatever the next openings of their stores find, these stand for what the report
-- tells, which is legal, by the headline, for each outside that may have failed them so. The report is in form where names and keys are keys;
-- one of the targets issued each epoch of which it tells, but for those of snapshots of earlier runs, and so all where there are none; conflicting committed attempts have epochs in the order of real time where clocks
-- keep the bound; stores of targets that weren't given up run, and nothing is left to settle there; the only client of a script is never told to
-- restart where no line tells of a stop; what is kept is sound again, and may be opened again; and the report tells of the turns in the order asked,
-- from where the targets are just as they are stored; and no more turns of a target were cut, and openings failed, than counts of its store rose, nor,
-- where its fuse is told, than there are stop lines for it and failures of the outside.
pub record ComesTo {S : Type 0} (durable : S → Option Durable) (state : S → State) (may : S → Durable → Type 0) (g : Given) (xs ys : List S) (q : Report) : Type 0 where
  pub stand : (lasts : List Durable) (o : Outside) → MayBeFound may ys lasts → IsOutside state o xs ys → HeadlineOver g o lasts q
  pub form : IsKeyed g → IsReportOf g.script q
  pub issued : AreIssuedSince (top g.opening) q
  pub issued_there : g.opening.stand.snaps ≡ [] → AreIssuedThere q
  pub in_real_time : IsInRealTime g q
  pub running : LeavesRunning state q ys
  pub settled : LeavesSettled durable may g q ys
  pub unstopped : stop_numbers q.lines ≡ [] → EndsUnstopped durable g q ys
  pub alone : HasOneClient g.script → stop_numbers q.lines ≡ [] → TellsOfOnlyClient g.script q
  pub sound : LeavesSound durable may xs ys
  pub unsnapped : HasNoSnapshots g → (lasts : List Durable) → MayBeFound may ys lasts → created_snaps lasts ≡ []
  pub reopens : LeavesReopenable durable may ys
  pub ordered : IsOrdered durable state may g q xs ys

-- the clocks of a target, before a run and after it
pub record AreClocksAt {S C : Type 0} (xs ys : List (TargetOf S C)) (t : ℕ) (c d : C) : Type 0 where
  pub before : TargetOf S C
  pub after : TargetOf S C
  pub at : slice_get xs t ≡ Some before
  pub there : slice_get ys t ≡ Some after
  pub first : c ≡ before.clock
  pub last : d ≡ after.clock

-- What a run of these targets comes to, with their clocks: those gave just the readings of the run that the report follows.
pub record ComesByClocks {S C : Type 0} (durable : S → Option Durable) (state : S → State) (may : S → Durable → Type 0) (is_read : C → C → Type 0) (next_reading : C → Option ℕ) (g : Given) (xs ys : List (TargetOf S C)) (q : Report) : Type 0 where
  pub comes : ComesTo durable state may g (stores_of xs) (stores_of ys) q
  pub clocks : ClocksGave is_read next_reading g q comes.ordered.follows (AreClocksAt xs ys)
