-- What the outcomes of attempts show at each moment of a run in which targets may stop and open again, snapshots are made and read, and
-- versions are aggregated.
use Rattle.std.specs.Prelude.{ℕ, ◌≡◌, ◌≤◌, ◌<◌, ◌+◌, ◌*◌, ◌/◌, ◌++◌, ◌⊎◌, ◌&&◌, Bool, true, false, not, is_some, Any, List, [], ◌∷◌, filter, length, Contains, slice_get, Option, Some, None}
use Rattle.base_types.specs.declared.epoch.Epoch.{Epoch}
use Rattle.base_types.specs.declared.id.AttemptId.{AttemptId}
use Rattle.base_types.specs.declared.id.ContId.{ContId}
use Rattle.base_types.specs.declared.outcome.Cause.{Cause}
use Rattle.base_types.specs.declared.outcome.Cause.TheVariants as cause
use Rattle.base_types.specs.declared.outcome.FloorWhy.{FloorWhy}
use Rattle.base_types.specs.declared.outcome.FloorWhy.TheVariants as why
use Rattle.base_types.specs.declared.outcome.Outcome.{Outcome}
use Rattle.base_types.specs.declared.outcome.Outcome.TheVariants as outcome
use Rattle.base_types.specs.declared.path.Path.{Path}
use Rattle.base_types.specs.declared.report.Attempt.{Attempt}
use Rattle.base_types.specs.declared.report.Line.{Line}
use Rattle.base_types.specs.declared.report.Line.TheVariants as line
use Rattle.base_types.specs.declared.script.Script.{Script}
use Rattle.base_types.specs.Epochs.{last_ticks, restart_floor}
use Rattle.base_types.specs.Operations.{write_path}
use Rattle.base_types.specs.Paths.{near}
use Rattle.base_messages.specs.declared.message.Message.{Message}
use Rattle.base_messages.specs.declared.message.Message.TheVariants as message
use Rattle.base_messages.specs.declared.message.Reply.{Reply}
use Rattle.base_messages.specs.declared.message.Reply.TheVariants as reply
use Rattle.daos_model.specs.Accesses.{access_paths, attempt_targets, minor_writes}
use Rattle.daos_model.specs.Attempts.{EachTry, is_lost, is_unknown, snapshot_of, tries, up_to_last_of}
use Rattle.daos_model.specs.CausesShown.{ShowsFloor, StopsAfter, containers_or_none, is_snap, leader_of_attempt}
use Rattle.daos_model.specs.Durables.{row_of, same_attempt}
use Rattle.daos_model.specs.Opening.{Opening, top}
use Rattle.daos_model.specs.Stops.{restart_numbers}
use Rattle.daos_model.specs.Transactions.{attempt_ops, command_of}
use Rattle.dtx_base.specs.declared.member.Parked.{Parked}
use Rattle.world_base.specs.declared.client.ClientState.{ClientState}
use Rattle.world_base.specs.declared.letter.Letter.{Letter}
use Rattle.world_base.specs.declared.target.TargetState.{TargetState}
use Rattle.world_base.specs.declared.target.Life.TheVariants.{Running}
use Rattle.world_base.specs.declared.world.World.{World}
use Rattle.world_base.specs.Events.{Rules}
use Rattle.world_base.specs.Letters.{client}
use Rattle.world_causes.specs.causes.Causes.{Dated, EndsOf, IsAskedFor, IsUnanswered, IsUndecidedFor, MeetsOther, ShowsLack, ShowsRead, Space, Stored, epochs_told, limit}
use Rattle.world_contents.specs.world_letters.epochs.Epochs.{BearsEpoch, IsPresent}

-- ---- what is counted

-- no ticks pass this: those of the opening, or the clock's last reading, one for each epoch that was issued, and a lease for each restart
abbrev pub limit_over : Opening → List Line → Dated → ℕ
limit_over o lines issued = limit o issued + 65536 * length (restart_numbers lines)

-- ticks, trackers, epochs that were issued, epochs that go about, and floors that lines tell of stay within the limit; and leases, but for
-- one
pub record BoundedOver (o : Opening) (w : World) : Type 0 where
  pub ticks : (t : ℕ) (s : TargetState) → slice_get w.targets t ≡ Some s → s.life ≡ Running → s.memory.ticks ≤ limit_over o w.lines w.issued
  pub trackers : (n : ℕ) (c : ClientState) → slice_get w.clients n ≡ Some c → c.tracker.0 / 256 ≤ limit_over o w.lines w.issued
  pub issued : (x : AttemptId) (e : Epoch) → Contains w.issued (x, e) → e.0 / 256 ≤ limit_over o w.lines w.issued
  pub told : (l : Letter) (e : ℕ) → Contains w.messages l → Contains (epochs_told l.message) e → e / 256 ≤ limit_over o w.lines w.issued
  pub floors : (t : ℕ) (floor : Epoch) (cont : ContId) (reason : FloorWhy) → Any (ShowsFloor t floor cont reason) w.lines → floor.0 / 256 ≤ limit_over o w.lines w.issued
  pub leases : (t : ℕ) (s : TargetState) → slice_get w.targets t ≡ Some s → s.durable.lease ≤ limit_over o w.lines w.issued + 65536

-- ---- floors

-- what a target refuses by its last opening's floor where it runs, and will refuse by its next one's where it is stopped
pub record IsCovered (s : TargetState) (n : ℕ) : Type 0 where
  pub running : s.life ≡ Running → n ≤ s.opening.0.0
  pub stopped : (s.life ≡ Running → ⊥) → n ≤ restart_floor s.durable.lease

-- a floor of a target is of before the run, or a line tells why it is there
pub data IsTold (o : Opening) (lines : List Line) (t : ℕ) (cont : ContId) (floor : Epoch) (reason : FloorWhy) : Type 0 where
  IsOfBefore : floor.0 ≤ top o → IsTold o lines t cont floor reason
  HasLine : Any (ShowsFloor t floor cont reason) lines → IsTold o lines t cont floor reason

-- The floor of a running target's last opening is told, and its lease covers it. So are the epochs that containers were aggregated to, and
-- the floors that are kept of them, but for those that an opening's floor covers.
pub record FloorsShown (o : Opening) (w : World) : Type 0 where
  pub opening : (t : ℕ) (s : TargetState) (cont : ContId) → slice_get w.targets t ≡ Some s → s.life ≡ Running → IsTold o w.lines t cont s.opening.0 s.opening.1
  pub leased : (t : ℕ) (s : TargetState) → slice_get w.targets t ≡ Some s → s.life ≡ Running → (s.opening.0.0 ≤ top o) ⊎ (s.opening.0.0 ≤ restart_floor s.durable.lease)
  pub stored : (t : ℕ) (s : TargetState) (cont : ContId) → slice_get w.targets t ≡ Some s
      → IsTold o w.lines t cont (row_of s.durable cont).floor (row_of s.durable cont).why ⊎ IsCovered s (row_of s.durable cont).floor.0
  pub aggregated : (t : ℕ) (s : TargetState) (cont : ContId) → slice_get w.targets t ≡ Some s → IsTold o w.lines t cont (row_of s.durable cont).aggregated (why.Aggregate (row_of s.durable cont).number)

-- ---- the first epoch of a command

-- a line tells that an attempt was lost at a stop
abbrev pub WasLost : List Line → AttemptId → Type 0
WasLost lines x = Any (λ b. (b.id ≡ x) × (is_lost b.id b.outcome ≡ true)) (tries lines)

-- the first epoch of an attempt's command was issued to one of its attempts up to this one, and those before that one were lost
pub record IsFirstEpoch (issued : Dated) (lines : List Line) (x : AttemptId) (first : Epoch) : Type 0 where
  pub number : ℕ
  pub early : number ≤ x.attempt
  pub its : Contains issued (record x { attempt = number }, first)
  pub lost : (k : ℕ) → k < number → WasLost lines (record x { attempt = k })

-- the attempts of a command before this one were lost at stops
abbrev pub AreLostBefore : List Line → AttemptId → Type 0
AreLostBefore lines x = (k : ℕ) → k < x.attempt → WasLost lines (record x { attempt = k })

-- What goes with an attempt: the first epoch of its command, which was issued to its first attempt that wasn't lost, or to one before it;
-- or none, where all attempts before it were lost.
abbrev pub IsFirstOf : Dated → List Line → AttemptId → Option Epoch → Type 0
IsFirstOf issued lines x None = AreLostBefore lines x
IsFirstOf issued lines x (Some first) = IsFirstEpoch issued lines x first

-- ---- what an outcome shows

-- a later write within what the clocks leave uncertain since the command's first epoch
pub record MeetsLaterWrite (r : Rules) (issued : Dated) (lines : List Line) (x : AttemptId) (by : AttemptId) (epoch : Epoch) (path : Path) : Type 0 where
  pub own : Epoch
  pub its : Contains issued (x, own)
  pub later : own.0 < epoch.0
  pub first : Epoch
  pub begun : IsFirstEpoch issued lines x first
  pub uncertain : epoch.0 ≤ first.0 + 256 * r.epsilon
  pub writer : Contains issued (by, epoch)
  pub writes : Any (λ w. write_path w.write ≡ path) (minor_writes 0 (attempt_ops r.script by))
  pub near : Any (λ p. near p path ≡ true) (access_paths (attempt_ops r.script x))

-- a floor of a target of the attempt, at or above its epoch, and the line that tells of it
pub record MeetsFloor (r : Rules) (issued : Dated) (lines : List Line) (x : AttemptId) (t : ℕ) (floor : Epoch) (reason : FloorWhy) : Type 0 where
  pub own : Epoch
  pub its : Contains issued (x, own)
  pub reached : own.0 ≤ floor.0
  pub target : Contains (attempt_targets r.script x) t
  pub cont : ContId
  pub accessed : Contains (containers_or_none (command_of r.script x)) cont
  pub shown : Any (ShowsFloor t floor cont reason) lines

-- why another attempt may be unresolved for one that is about to end: it wasn't answered before this one began, it is unknown, or its
-- leader stopped since it began
pub data IsOpenTo (s : Script) (lines : List Line) (x by : AttemptId) : Type 0 where
  NotAnswered : IsUnanswered lines x by → IsOpenTo s lines x by
  IsUnknown : Any (λ b. (b.id ≡ by) × (is_unknown b.outcome ≡ true)) (tries lines) → IsOpenTo s lines x by
  LeaderStopped : (before after : List Line) (b : Attempt) → b.id ≡ by → lines ≡ before ++ line.Try b ∷ after → StopsAfter (leader_of_attempt s by ∷ []) (up_to_last_of by.client before) lines → IsOpenTo s lines x by

-- it may be so for any other
abbrev pub IsOpenToAll : Script → List Line → AttemptId → Type 0
IsOpenToAll s lines by = (x : AttemptId) → IsOpenTo s lines x by

-- an unresolved attempt: another one in the way, or the attempt itself, of which a target stopped since it began
abbrev pub MeetsUnresolved : Bool → Rules → Dated → List Line → AttemptId → AttemptId → Type 0
MeetsUnresolved true r issued lines x by = StopsAfter (attempt_targets r.script x) (up_to_last_of x.client lines) lines
MeetsUnresolved false r issued lines x by = MeetsOther r issued x by × IsOpenTo r.script lines x by

-- another attempt makes a snapshot
abbrev pub is_other_snap : Script → AttemptId → AttemptId × Epoch → Bool
is_other_snap s x i = is_snap (command_of s i.0) && not (same_attempt i.0 x)

-- no place is left for a snapshot: those of the opening and those that others were to make may fill all 256
pub record LacksPlace (r : Rules) (o : Opening) (issued : Dated) (x : AttemptId) (t : ℕ) (need : ℕ) (free : ℕ) : Type 0 where
  pub own : Epoch
  pub its : Contains issued (x, own)
  pub target : Contains (attempt_targets r.script x) t
  pub need_is : need ≡ 1
  pub free_is : free ≡ 0
  pub full : 256 ≤ length o.stand.snaps + length (filter (is_other_snap r.script x) issued)

abbrev pub LacksSpace : Bool → Rules → Opening → Stored → Dated → AttemptId → ℕ → ℕ → ℕ → Type 0
LacksSpace true r o stored issued x t need free = LacksPlace r o issued x t need free
LacksSpace false r o stored issued x t need free = ShowsLack r o stored issued x t need free

-- spent ticks: one more than what was issued to others, before anything was to this attempt, and the leases of restarts pass the last
pub record SpendsAll (o : Opening) (issued : Dated) (lines : List Line) (x : AttemptId) : Type 0 where
  pub before : Dated
  pub since : Dated
  pub among : issued ≡ before ++ since
  pub none : (e : Epoch) → Contains before (x, e) → ⊥
  pub spent : last_ticks < limit_over o lines before + 1

-- what a refusal at any member of an attempt shows, where these lines stand
abbrev pub CauseStands : Rules → Dated → List Line → AttemptId → Cause → Type 0
CauseStands r issued lines x (cause.ReadLater by epoch path) = ShowsRead r issued x by epoch path
CauseStands r issued lines x (cause.WriteLater by epoch path) = MeetsLaterWrite r issued lines x by epoch path
CauseStands r issued lines x (cause.Unresolved by) = ⊥
CauseStands r issued lines x (cause.Floor target epoch reason) = MeetsFloor r issued lines x target epoch reason

abbrev pub RefusalStands : Rules → Opening → Stored → Dated → List Line → AttemptId → Outcome → Type 0
RefusalStands r o stored issued lines x outcome.Committed = Unit {0}
RefusalStands r o stored issued lines x (outcome.CondFailed op) = Unit {0}
RefusalStands r o stored issued lines x (outcome.Restart reason) = CauseStands r issued lines x reason
RefusalStands r o stored issued lines x (outcome.NoSpace target need free) = LacksSpace (is_snap (command_of r.script x)) r o stored issued x target need free
RefusalStands r o stored issued lines x outcome.EpochsSpent = SpendsAll o issued lines x
RefusalStands r o stored issued lines x outcome.NoSnapshot = is_some (snapshot_of r.script x) ≡ true
RefusalStands r o stored issued lines x (outcome.Unknown target) = Contains (attempt_targets r.script x) target × Contains lines (line.Down target)

-- what an attempt's outcome shows, where these lines stand before its own
abbrev pub OutcomeStands : Rules → Opening → Stored → Dated → List Line → AttemptId → Outcome → Type 0
OutcomeStands r o stored issued lines x (outcome.Restart (cause.Unresolved by)) = MeetsUnresolved (same_attempt by x) r issued lines x by
OutcomeStands r o stored issued lines x how = RefusalStands r o stored issued lines x how

abbrev pub ReplyStands : Rules → Opening → Stored → Dated → List Line → AttemptId → Reply → Type 0
ReplyStands r o stored issued lines x (reply.Answer b) = Unit {0}
ReplyStands r o stored issued lines x (reply.Outcome how) = OutcomeStands r o stored issued lines x how

-- what a message shows that ends an attempt, or refuses one: a member's refusal shows its cause already
abbrev pub MessageStands : Rules → Opening → Stored → Dated → List Line → Message → Type 0
MessageStands r o stored issued lines (message.Fetched x op group e b) = ReplyStands r o stored issued lines x b
MessageStands r o stored issued lines (message.Ended x e how) = OutcomeStands r o stored issued lines x how
MessageStands r o stored issued lines (message.Ack x inc (Some how)) = RefusalStands r o stored issued lines x how
MessageStands r o stored issued lines m = Unit {0}

-- ---- what holds of a world

-- What holds of Fetches that wait: what each waits for is in its way; and while its attempt is the present one of its client, what a
-- leader answers as undecided is open to it. Attempts for which leaders are asked have epochs. And what came of an attempt is told to
-- its client.
pub record WaitingFor (r : Rules) (w : World) : Type 0 where
  pub meets : (t : ℕ) (s : TargetState) (p : Parked) (x : AttemptId) (e : Epoch) → slice_get w.targets t ≡ Some s → Contains s.memory.member.parked p → BearsEpoch p.ask x e → MeetsOther r w.issued x p.on
  pub undecided : (l : Letter) (x by : AttemptId) → Contains w.messages l → IsUndecidedFor l.message x by → IsPresent r w x → IsOpenTo r.script w.lines x by
  pub asked : (l : Letter) (x : AttemptId) → Contains w.messages l → IsAskedFor l.message x → (e : Epoch) × Contains w.issued (x, e)
  pub own : (l : Letter) (x : AttemptId) → Contains w.messages l → EndsOf l.message x → l.to ≡ client x.client

-- each outcome that goes about, or that a line tells of, shows its cause, where these attempts were stored
pub record Causes (r : Rules) (o : Opening) (stored : Stored) (w : World) : Type 0 where
  pub bounded : BoundedOver o w
  pub space : Space r o stored w
  pub floors : FloorsShown o w
  pub waiting : WaitingFor r w
  pub flight : (l : Letter) → Contains w.messages l → MessageStands r o stored w.issued w.lines l.message
  pub lines : EachTry (λ before a. OutcomeStands r o stored w.issued before a.id a.outcome) w.lines
