-- What holds between any two events of any run, whatever its targets' versions stood for when it began: by this what targets are asked can be
-- heard, leases cover what they keep, the report is in form and tells of commands in turn, and answers are of their reads' kinds; and where the run has
-- ended it is over. The statements.
use Rattle.std.specs.Prelude.{ℕ, ◌≡◌, ◌≤◌, ◌<◌, ◌++◌, [], slice_get, Contains, Some, List}
use Rattle.base_messages.specs.declared.actor.ActorId.{ActorId}
use Rattle.base_messages.specs.declared.message.Message.{Message}
use Rattle.base_messages.specs.declared.message.Message.TheVariants as message
use Rattle.base_messages.specs.declared.message.Post.{Post}
use Rattle.daos_model.specs.declared.durable.Durable.{Durable}
use Rattle.daos_model.specs.Opening.{Given, Opening}
use Rattle.daos_model.specs.Order.{AllInTurn}
use Rattle.report_writer.specs.Forms.{IsReportOf}
use Rattle.script_traits.specs.Keyed.{ScriptHasKeys}
use Rattle.world_answers.specs.Forms.{AnswersInForm, AsksAreInForm, TargetsHaveKeys}
use Rattle.world_base.specs.declared.letter.Letter.{Letter}
use Rattle.world_base.specs.declared.target.Life.TheVariants.{Running}
use Rattle.world_base.specs.declared.target.TargetState.{TargetState}
use Rattle.world_base.specs.declared.world.World.{World}
use Rattle.world_base.specs.Ended.{HasEnded}
use Rattle.world_base.specs.Events.{Rules, target_plan}
use Rattle.world_base.specs.Letters.{target}
use Rattle.world_base.specs.Stops.{WorldEvent, WorldRun}
use Rattle.world_answers.specs.world_causes.causes.Causes.{Stored}
use Rattle.world_answers.specs.world_causes.showing.Happening.{stored_in}
use Rattle.world_commit.specs.attempts.History.{GrowsBy, History}
use Rattle.world_commit.specs.statuses.Events.{told_by}
use Rattle.world_answers.specs.world_contents.posts.Forms.{IsInForm}
use Rattle.world_upheld.specs.world_ended.Clients.{AllEndWell}
use Rattle.world_upheld.specs.below.Legal.{report_over, stored_over}
use Rattle.world_letters.specs.kinds.Fitting.{AllAnswersFit}
use Rattle.world_closing.specs.Rules.{rules_of}
use Rattle.world_upheld.specs.below.Readers.{AllBeginInTurn, AllKeepInForm, AnswersFitInWorld}
use Rattle.world_upheld.specs.below.Standing.{AreSentSo}
use Rattle.world_upheld.specs.causing.OverDates.{CausesOverDates}
use Rattle.world_upheld.specs.explained.Explanations.{Explanations, HoldNoMoreSnapshots}
use Rattle.world_upheld.specs.hearing.Across.{GoAcross}
use Rattle.world_upheld.specs.hearing.Hearable.{CanHearLetter}
use Rattle.world_upheld.specs.hearing.Leases.{AllKeepCovered}
use Rattle.world_upheld.specs.upheld.Begins.{AreRulesInForm, RunBeginsWell, AreEnlisted, no_history}
use Rattle.world_closing.specs.asked.Over.{IsAllOver}
use Rattle.world_closing.specs.forming.Forming.{IsSmallRun}

-- ---- the facts

-- Each outcome shows its cause over dates, by all that is accounted for; letters go between whom such go; leases cover what targets keep, which know the
-- script's containers, and whose versions are in form; and what goes about of reads and what lines tell of answers fits the script.
pub record IsSafe (r : Rules) (o : Opening) (h : History) (stored : Stored) (w : World) : Type 0 where
  pub explanations : Explanations r o h stored w
  pub sent : AreSentSo r.script.targets w
  pub across : GoAcross r.script.targets w
  pub covered : AllKeepCovered w
  pub enlisted : (t : ℕ) (s : TargetState) → slice_get w.targets t ≡ Some s → AreEnlisted r.script s.durable
  pub forms : AllKeepInForm w
  pub fitting : AnswersFitInWorld r w

-- Where names and keys are keys: those of versions that targets keep, and of answers that go about and that lines tell; and reads are in form.
pub record IsKeyed (w : World) : Type 0 where
  pub targets : TargetsHaveKeys w
  pub answers : AnswersInForm w
  pub asks : AsksAreInForm w

-- ---- each event keeps them

-- a run of a script in form begins so, whatever its targets' versions stand for, where they hold no more snapshots than the opening keeps maps of, of
-- nothing decided, aborted or stored
abbrev pub SafetyBegins : Type 0
SafetyBegins = (r : Rules) (o : Opening) (w : World) → AreRulesInForm r → RunBeginsWell r o w → HoldNoMoreSnapshots o w → IsSafe r o no_history [] w

-- each event keeps it, with what is stored in it, of what is decided and aborted by then
abbrev pub AllEventsKeepSafety : Type 0
AllEventsKeepSafety =
    (r : Rules) (o : Opening) (h later : History) (stored : Stored) (w v : World) → AreRulesInForm r → IsSafe r o h stored w → (e : WorldEvent r w v) → GrowsBy h (told_by e.happens) later
    → IsSafe r o later (stored_in r e.happens ++ stored) v

-- it holds of what was decided and aborted before, and what was told since
pub record IsSafeStill (r : Rules) (o : Opening) (h : History) (told : List Post) (stored : Stored) (v : World) : Type 0 where
  pub later : History
  pub grows : GrowsBy h told later
  pub safe : IsSafe r o later stored v

-- there is always such a later history
abbrev pub SafetyGoesOn : Type 0
SafetyGoesOn =
    (r : Rules) (o : Opening) (h : History) (stored : Stored) (w v : World) → AreRulesInForm r → IsSafe r o h stored w → (e : WorldEvent r w v)
    → IsSafeStill r o h (told_by e.happens) (stored_in r e.happens ++ stored) v

-- so it is at each moment of a run
abbrev pub AllRunsAreSafe : Type 0
AllRunsAreSafe =
    (r : Rules) (o : Opening) (w v : World) → AreRulesInForm r → RunBeginsWell r o w → HoldNoMoreSnapshots o w → (run : WorldRun r w v) → (h : History) × IsSafe r o h (stored_over r run) v

-- keys are keys at the beginning, where those are of what targets keep
abbrev pub KeysBegin : Type 0
KeysBegin = (r : Rules) (o : Opening) (w : World) → AreRulesInForm r → RunBeginsWell r o w → TargetsHaveKeys w → IsKeyed w

-- each event keeps it, where names and keys of the script are keys
abbrev pub AllEventsKeepKeys : Type 0
AllEventsKeepKeys =
    (r : Rules) (o : Opening) (h : History) (stored : Stored) (w v : World) → AreRulesInForm r → ScriptHasKeys r.script → IsSafe r o h stored w → WorldEvent r w v → IsKeyed w → IsKeyed v

-- so it is at each moment of a run
abbrev pub AllRunsAreKeyed : Type 0
AllRunsAreKeyed =
    (r : Rules) (o : Opening) (w v : World) → AreRulesInForm r → ScriptHasKeys r.script → RunBeginsWell r o w → HoldNoMoreSnapshots o w → TargetsHaveKeys w → WorldRun r w v → IsKeyed v

-- ---- what they give

-- what answers a Freeze or a Prune comes from one of at most 64 targets
abbrev pub SenderFits : ActorId → Message → Type 0
SenderFits from (message.Held x refusal) = from.number < 64
SenderFits from m = Unit {0}

-- each letter in flight to a running target has the form that the target asks for, and a sender that fits, and can be heard there, by a store that
-- tells what it keeps
pub record IsHeardSafely (r : Rules) (t : ℕ) (d : Durable) (l : Letter) : Type 0 where
  pub form : IsInForm (target_plan r t) l.message
  pub sender : SenderFits l.from l.message
  pub can : CanHearLetter r t d l

abbrev pub SafeLettersCanBeHeard : Type 0
SafeLettersCanBeHeard =
    (r : Rules) (o : Opening) (h : History) (stored : Stored) (w : World) → AreRulesInForm r → IsSafe r o h stored w → (l : Letter) (t : ℕ) (s : TargetState) → Contains w.messages l → l.to ≡ target t
    → slice_get w.targets t ≡ Some s → s.life ≡ Running → IsHeardSafely r t s.durable l

-- lines tell of the commands of each client in turn; each attempt told of ended as its answers and conditions say; and each answer is of the kind
-- of its read
pub record TellsSafely (r : Rules) (w : World) : Type 0 where
  pub in_turn : AllBeginInTurn r.attempts r.script w.lines
  pub ends : AllEndWell r.script w.lines
  pub kinds : AllAnswersFit r.script w.lines

abbrev pub SafeLinesAreInOrder : Type 0
SafeLinesAreInOrder = (r : Rules) (o : Opening) (h : History) (stored : Stored) (w : World) → AreRulesInForm r → IsSafe r o h stored w → TellsSafely r w

-- leases cover the versions and snapshots that targets keep, whether they run, are stopped, or are given up
abbrev pub SafeLeasesCover : Type 0
SafeLeasesCover = (r : Rules) (o : Opening) (h : History) (stored : Stored) (w : World) → IsSafe r o h stored w → AllKeepCovered w

-- each outcome that goes about, or that a line tells of, shows its cause over dates
abbrev pub SafeOutcomesShow : Type 0
SafeOutcomesShow = (r : Rules) (o : Opening) (h : History) (stored : Stored) (w : World) → IsSafe r o h stored w → (late : ℕ) → late ≤ 1 → CausesOverDates r o late stored w

-- where a run has ended it is over, with nothing being made, and its lines tell of each client's commands, all of them, in turn
pub record EndsSafely (r : Rules) (v : World) : Type 0 where
  pub over : IsAllOver r v
  pub in_turn : AllInTurn r.attempts r.script v.lines

abbrev pub AllRunsEndSafely : Type 0
AllRunsEndSafely = (r : Rules) (o : Opening) (w v : World) → AreRulesInForm r → RunBeginsWell r o w → WorldRun r w v → HasEnded r v → EndsSafely r v

-- the report of the lines so far is in the form in which its text determines it
abbrev pub SafeReportsHaveForm : Type 0
SafeReportsHaveForm =
    (g : Given) (h : History) (stored : Stored) (v : World) → AreRulesInForm (rules_of g) → IsSafe (rules_of g) g.opening h stored v → IsKeyed v → IsSmallRun g v
    → IsReportOf g.script (report_over (rules_of g) v)
