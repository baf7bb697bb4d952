-- What a run in an order reports, where targets may stop and open again.
use Rattle.std.specs.Prelude.{ℕ, ◌≡◌, ◌⊎◌, ◌≤◌, ◌<◌, ◌%◌, ◌^◌, Bool, true, false, List, All, Contains, slice_get, Some, None, []}
use Rattle.base_types.specs.declared.entry.Entry.{Entry}
use Rattle.base_types.specs.declared.epoch.Epoch.{Epoch}
use Rattle.base_types.specs.declared.id.AttemptId.{AttemptId}
use Rattle.base_types.specs.declared.outcome.Outcome.TheVariants.{Unknown}
use Rattle.base_types.specs.declared.report.Attempt.{Attempt}
use Rattle.base_types.specs.declared.report.Line.{Line}
use Rattle.base_types.specs.declared.report.Line.TheVariants as line
use Rattle.base_types.specs.declared.report.Report.{Report}
use Rattle.dtx_base.specs.Members.{has_target}
use Rattle.model_laws.specs.Members.{Has}
use Rattle.model_lone.specs.Only.{TellsOfOnlyClient}
use Rattle.model_reports.specs.Lone.{HasOneClient}
use Rattle.daos_model.specs.Accesses.{attempt_targets}
use Rattle.daos_model.specs.Attempts.{is_unknown, tries}
use Rattle.daos_model.specs.Finals.{HeadlineOver}
use Rattle.daos_model.specs.Headline.{Headline}
use Rattle.daos_model.specs.Opening.{Given, Outside, top, undisturbed}
use Rattle.daos_model.specs.Stops.{down_targets, stop_numbers}
use Rattle.report_writer.specs.Forms.{IsReportOf}
use Rattle.run_laws.specs.shows.Beginning.{RunBegins}
use Rattle.run_laws.specs.turns.Orders.{InOrder}
use Rattle.script_traits.specs.Keyed.{ScriptHasKeys}
use Rattle.world_closing.specs.forming.Forming.{StandHasKeys}
use Rattle.world_closing.specs.stands.Stands.{HoldsOpenings}
use Rattle.world_commit.specs.attempts.Attempts.{IsHeld, IsOther, IsSettled, IsMember}
use Rattle.world_base.specs.declared.target.Life.TheVariants.{Running}
use Rattle.world_base.specs.declared.target.TargetState.{TargetState}
use Rattle.world_base.specs.declared.world.World.{World}
use Rattle.world_base.specs.Events.{Rules}
use Rattle.world_closing.specs.Below.{report_over, durables_of}
use Rattle.world_closing.specs.Rules.{rules_of}
use Rattle.world_letters.specs.lives.Legal.{AreCaused, NoneIsStopped}

-- ---- the run

-- A run in the order that the job names, of a script in form for some targets, from its beginning, where no number of a restart was drawn yet.
-- Targets may stop in it, open again, or be given up; snapshots may be made and read, and containers aggregated.
pub record GoesInOrder (g : Given) (w v : World) : Type 0 where
  pub begins : RunBegins (rules_of g) g.opening w
  pub restarts : w.numbers.restarts ≡ 0
  pub run : InOrder (rules_of g) g.job.order w v

-- where it ends, so it is
abbrev pub OfEachOrder : (Given → World → Type 0) → Type 0
OfEachOrder P = (g : Given) (w v : World) → GoesInOrder g w v → P g v

-- and so, where targets hold at the beginning all that the opening stands for
abbrev pub OfEachHeldOrder : (Given → World → Type 0) → Type 0
OfEachHeldOrder P = (g : Given) (w v : World) → HoldsOpenings g.opening w → GoesInOrder g w v → P g v

-- and so of such a one where no line tells of a stop
abbrev pub OfEachUnstoppedOrder : (Given → World → Type 0) → Type 0
OfEachUnstoppedOrder P = OfEachHeldOrder (λ g v. stop_numbers v.lines ≡ [] → P g v)

-- ---- what it reports

-- numbers of a line of a stop, of an opening or of an aggregation are as small as their types hold; so it is of each line that is kept as one
abbrev pub HasTypedNumbers : Line → Type 0
HasTypedNumbers (line.Stop number target) = number < 2 ^ 32
HasTypedNumbers (line.Restart number target incarnation floor) = (number < 2 ^ 32) × (incarnation < 2 ^ 64)
HasTypedNumbers (line.Aggregate number target cont upto) = number < 2 ^ 32
HasTypedNumbers l = Unit {0}

abbrev pub AreTyped : List Line → Type 0
AreTyped lines = (l : Line) → Has l lines → HasTypedNumbers l

-- one of the targets issued each epoch above this one: no epoch of before the run is
abbrev pub AreIssuedSince : ℕ → Report → Type 0
AreIssuedSince top q = (a : Attempt) (e : Epoch) → Contains (tries q.lines) a → a.epoch ≡ Some e → top < e.0 → e.0 % 256 < q.targets

-- What the report's form asks for besides: names and keys are keys, in the script, in what the opening stands for and in the maps that it keeps;
-- and a command has at most 256 attempts.
pub record IsKeyed (g : Given) : Type 0 where
  pub script : ScriptHasKeys g.script
  pub opening : StandHasKeys g.opening.stand
  pub byte : g.job.attempts ≤ 256

-- ---- what is left of it

-- a member of an attempt was given up: its leader, or another one
pub record LacksMember (r : Rules) (v : World) (x : AttemptId) : Type 0 where
  pub member : ℕ
  pub its : IsMember r x member
  pub down : Has (line.Down member) v.lines

-- an entry is committed, or a member of its attempt was given up
abbrev pub IsSettledOrLeft : Rules → World → Entry → Type 0
IsSettledOrLeft r v e = (e.committed ≡ true) ⊎ LacksMember r v e.attempt

-- Each target runs or is given up. Each entry that a running one keeps is committed, or a member of its attempt was given up. Where one is committed
-- at some target, running or not, all members of its attempt hold that; and those that run have confirmed it where their leader keeps it. The targets
-- that an entry names are members.
pub record LeavesInTheEnd (r : Rules) (v : World) : Type 0 where
  pub targets : NoneIsStopped v
  pub entries : (t : ℕ) (s : TargetState) (e : Entry) → slice_get v.targets t ≡ Some s → s.life ≡ Running → Contains s.durable.entries e → IsSettledOrLeft r v e
  pub held : (t : ℕ) (s : TargetState) (e : Entry) → slice_get v.targets t ≡ Some s → Contains s.durable.entries e → e.committed ≡ true → (m : ℕ) → IsMember r e.attempt m → IsHeld v m e.attempt
  pub confirmed : (t m : ℕ) (s z : TargetState) (e : Entry) → slice_get v.targets t ≡ Some s → s.life ≡ Running → Contains s.durable.entries e → e.committed ≡ true → e.leader ≡ t → IsOther r e.attempt m → slice_get v.targets m ≡ Some z → z.life ≡ Running
      → has_target e.confirmed m ≡ true
  pub named : (t m : ℕ) (s z : TargetState) (e : Entry) → slice_get v.targets t ≡ Some s → Contains s.durable.entries e → slice_get v.targets m ≡ Some z → has_target e.members m ≡ true → IsMember r e.attempt m

-- ---- where nothing stopped

-- Nothing is left to settle at a target: each entry that it keeps is committed, and confirmed by each other member where the target leads
-- it; it leads no attempt that is undecided; and no Fetch waits.
pub record IsSettledAt (r : Rules) (t : ℕ) (s : TargetState) : Type 0 where
  pub committed : (e : Entry) → Has e s.durable.entries → e.committed ≡ true
  pub confirmed : (e : Entry) → Has e s.durable.entries → e.leader ≡ t → (m : ℕ) → IsOther r e.attempt m → has_target e.confirmed m ≡ true
  pub undecided : s.memory.leader.undecided ≡ []
  pub parked : s.memory.member.parked ≡ []

-- each member of an entry's attempt has committed it: those by the script, and those that the entry names
pub record IsCommittedAtAll (r : Rules) (v : World) (e : Entry) : Type 0 where
  pub members : (m : ℕ) → IsMember r e.attempt m → IsSettled v m e.attempt
  pub named : (m : ℕ) (z : TargetState) → slice_get v.targets m ≡ Some z → has_target e.members m ≡ true → IsSettled v m e.attempt

-- The report is legal whichever attempts are taken as resolved, though the outside failed no region. Each target runs, and no line tells that one was
-- given up. Of each attempt it is known what became of it. The targets stand for what the report tells. Nothing is left to settle at any: each entry is
-- committed, and so at all members; and where its leader keeps it, each other member has confirmed that.
pub record EndsPlainlyIn (g : Given) (v : World) : Type 0 where
  pub legal : (resolved : AttemptId → Bool) → Headline g undisturbed resolved (report_over (rules_of g) v)
  pub stands : HeadlineOver g undisturbed (durables_of v) (report_over (rules_of g) v)
  pub running : (t : ℕ) (s : TargetState) → slice_get v.targets t ≡ Some s → s.life ≡ Running
  pub none_down : (report_over (rules_of g) v).down ≡ None
  pub known : All (λ a. is_unknown a.outcome ≡ false) (tries v.lines)
  pub settled : (t : ℕ) (s : TargetState) → slice_get v.targets t ≡ Some s → IsSettledAt (rules_of g) t s
  pub everywhere : (t : ℕ) (s : TargetState) (e : Entry) → slice_get v.targets t ≡ Some s → Contains s.durable.entries e → IsCommittedAtAll (rules_of g) v e

-- ---- the statements

-- The report is legal in each part, and the targets stand for what it tells, and replicas agree; of what the outside did it is asked alone
-- that it caused the stops for which the script doesn't ask, and what was given up.
abbrev pub OrdersAreLegal : Type 0
OrdersAreLegal = OfEachHeldOrder (λ g v. (outside : Outside) → AreCaused g.script outside v → HeadlineOver g outside (durables_of v) (report_over (rules_of g) v))

-- its text determines it
abbrev pub OrdersReportInForm : Type 0
OrdersReportInForm = OfEachHeldOrder (λ g v. IsKeyed g → AreTyped v.lines → IsReportOf g.script (report_over (rules_of g) v))

-- one of the targets issued each epoch of which it tells, but for those of snapshots that earlier runs made
abbrev pub OrdersIssueThere : Type 0
OrdersIssueThere = OfEachOrder (λ g v. AreIssuedSince (top g.opening) (report_over (rules_of g) v))

-- the only client of a script, whatever its commands do, is never told to restart where no line tells of a stop; and what follows
abbrev pub OrdersOfOnlyClients : Type 0
OrdersOfOnlyClients = OfEachHeldOrder (λ g v. HasOneClient g.script → stop_numbers v.lines ≡ [] → TellsOfOnlyClient g.script (report_over (rules_of g) v))

-- what is left in the end
abbrev pub OrdersLeaveInTheEnd : Type 0
OrdersLeaveInTheEnd = OfEachOrder (λ g v. LeavesInTheEnd (rules_of g) v)

-- where no line tells of a stop, it is as where nothing can stop, whatever the script does
abbrev pub UnstoppedOrdersEndPlainly : Type 0
UnstoppedOrdersEndPlainly = OfEachUnstoppedOrder EndsPlainlyIn

-- ---- of legal reports

-- a legal report, of whatever run
abbrev pub OfLegalReports : (Given → Report → Type 0) → Type 0
OfLegalReports P = (g : Given) (o : Outside) (resolved : AttemptId → Bool) (q : Report) → Headline g o resolved q → P g q

-- it is told as unknown what became of an attempt only by a target of the attempt that was given up
abbrev pub UnknownIsOfGivenUp : Type 0
UnknownIsOfGivenUp = OfLegalReports (λ g q. (a : Attempt) (t : ℕ) → Contains (tries q.lines) a → a.outcome ≡ Unknown t → Contains (attempt_targets g.script a.id) t × Has t (down_targets q.lines))

-- so, where no target was given up, it is known of each
abbrev pub NoneUnknownWithoutGivenUp : Type 0
NoneUnknownWithoutGivenUp = OfLegalReports (λ g q. q.down ≡ None → All (λ a. is_unknown a.outcome ≡ false) (tries q.lines))
