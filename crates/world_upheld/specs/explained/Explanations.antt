-- All that is accounted for in any run, where leaders' stops show, and beside it the causes that outcomes show.
use Rattle.std.specs.Prelude.{ℕ, ◌≡◌, ◌≤◌, ◌++◌, true, is_some, List, [], ◌∷◌, length, slice_get, Contains, Some}
use Rattle.base_messages.specs.declared.message.Post.{Post}
use Rattle.base_types.specs.declared.epoch.Epoch.{Epoch}
use Rattle.base_types.specs.declared.id.AttemptId.{AttemptId}
use Rattle.base_types.specs.declared.outcome.Cause.TheVariants as cause
use Rattle.base_types.specs.declared.outcome.Outcome.TheVariants as outcome
use Rattle.base_types.specs.declared.path.Path.{Path}
use Rattle.base_types.specs.declared.report.Attempt.{Attempt}
use Rattle.base_types.specs.declared.report.Line.{Line}
use Rattle.base_types.specs.declared.report.Line.TheVariants as line
use Rattle.base_types.specs.declared.snapshot.Snap.{Snap}
use Rattle.daos_model.specs.declared.durable.Version.{Version}
use Rattle.daos_model.specs.Opening.{Opening, kept_map}
use Rattle.world_legal.specs.world_commit.attempts.History.{Grew, GrowsBy, History}
use Rattle.world_legal.specs.world_commit.statuses.Events.{told_by}
use Rattle.world_base.specs.declared.target.TargetState.{TargetState}
use Rattle.world_base.specs.declared.world.World.{World}
use Rattle.world_base.specs.Events.{Rules}
use Rattle.world_base.specs.Stops.{WorldEvent, WorldRun}
use Rattle.world_legal.specs.world_causes.causes.Causes.{Stored}
use Rattle.world_upheld.specs.causing.Dates.{with_dates}
use Rattle.world_upheld.specs.causing.OverDates.{CausesOverDates}
use Rattle.world_upheld.specs.causing.Happening.{IsOtherwiseKnown}
use Rattle.world_upheld.specs.causing.Known.{IsMakingKnown}
use Rattle.world_upheld.specs.causing.Places.{Places}
use Rattle.world_legal.specs.reasons.Accounted.{stored_over}
use Rattle.world_legal.specs.world_causes.showing.Happening.{stored_in}
use Rattle.world_upheld.specs.upheld.Begins.{AreRulesInForm, RunBeginsWell, RunBeginsWith, held_at, no_history, AreBefore}
use Rattle.world_upheld.specs.upheld.Upheld.{Contents, Upheld}
use Rattle.world_upheld.specs.reasons.Reasons.{Reasons}

-- ---- the facts

-- All that is accounted for, and where leaders' stops show; that each outcome that goes about, or that a line tells of, shows its cause over dates, where
-- epochs of snapshots count as they are for who reads there, or one later; and how many places of snapshots are taken.
pub record Explanations (r : Rules) (o : Opening) (h : History) (stored : Stored) (w : World) : Type 0 where
  pub reasons : Reasons r o h stored w
  pub causes : (late : ℕ) → late ≤ 1 → CausesOverDates r o late stored w
  pub places : Places r o w

-- no target holds more snapshots than the opening keeps maps of
abbrev pub HoldNoMoreSnapshots : Opening → World → Type 0
HoldNoMoreSnapshots o w = (t : ℕ) (s : TargetState) → slice_get w.targets t ≡ Some s → length s.durable.snaps ≤ length o.stand.snaps

-- each holds only such as it keeps a map of
abbrev pub HoldKeptSnapshots : Opening → World → Type 0
HoldKeptSnapshots o w =
    (t : ℕ) (s : TargetState) → slice_get w.targets t ≡ Some s → (x : Snap) → Contains s.durable.snaps x → is_some (kept_map x.cont x.epoch.0 o.stand.snaps) ≡ true

-- the explanations, and what targets keep and answer, of a run that stands for the opening
pub record Explained (r : Rules) (o : Opening) (held : ℕ → List Version) (h : History) (stored : Stored) (w : World) : Type 0 where
  pub explanations : Explanations r o h stored w
  pub contents : Contents r o held h w

-- all that is upheld is among it
abbrev pub upheld_of : {r : Rules} {o : Opening} {held : ℕ → List Version} {h : History} {stored : Stored} {w : World} → Explained r o held h stored w → Upheld r o held h w
upheld_of x = record { grounds = x.explanations.reasons.accounted.grounds; contents = x.contents }

-- ---- the statements

-- what causes stand on is known where snapshots are made and containers aggregated
abbrev pub MakingIsKnown : Type 0
MakingIsKnown =
    (r : Rules) (o : Opening) (h : History) (stored : Stored) (w : World) → AreRulesInForm r → (k : Explanations r o h stored w) → (late : ℕ) (low : late ≤ 1)
    → IsMakingKnown r o (with_dates (k.causes late low).dated w)

-- and so is what is heard in an event, once the epoch of its snapshot counts for a read that is heard
pub record IsHeardKnown (r : Rules) (o : Opening) (h : History) (stored : Stored) (w v : World) (e : WorldEvent r w v) : Type 0 where
  pub explanations : Explanations r o h stored w
  pub known : (late : ℕ) (low : late ≤ 1) → IsOtherwiseKnown r o stored (explanations.causes late low).dated e.happens

abbrev pub AllHeardIsKnown : Type 0
AllHeardIsKnown =
    (r : Rules) (o : Opening) (h : History) (stored : Stored) (w v : World) → AreRulesInForm r → Explanations r o h stored w → (e : WorldEvent r w v) → IsHeardKnown r o h stored w v e

-- So each event of a run of a script in form keeps it, with what is stored in it, of what is decided and aborted by then.
abbrev pub AllEventsKeepExplanations : Type 0
AllEventsKeepExplanations =
    (r : Rules) (o : Opening) (h later : History) (stored : Stored) (w v : World) → AreRulesInForm r → Explanations r o h stored w → (e : WorldEvent r w v)
    → GrowsBy h (told_by e.happens) later → Explanations r o later (stored_in r e.happens ++ stored) v

-- and beside it what targets keep and answer, of what was decided and aborted before, and what was told since, and of all that was served before,
-- and perhaps more
pub record IsExplainedStill (r : Rules) (o : Opening) (held : ℕ → List Version) (h : History) (told : List Post) (stored : Stored) (v : World) : Type 0 where
  pub later : History
  pub grows : GrowsBy h told later
  pub grew : Grew h later
  pub explained : Explained r o held later stored v

abbrev pub AllEventsExplain : Type 0
AllEventsExplain =
    (r : Rules) (o : Opening) (held : ℕ → List Version) (h : History) (stored : Stored) (w v : World) → AreRulesInForm r → AreBefore o held
    → Explained r o held h stored w → (e : WorldEvent r w v) → IsExplainedStill r o held h (told_by e.happens) (stored_in r e.happens ++ stored) v

-- where targets hold only snapshots of which the opening keeps maps, they hold no more than those
abbrev pub KeptAreNoMore : Type 0
KeptAreNoMore = (r : Rules) (o : Opening) (w : World) → RunBeginsWell r o w → HoldKeptSnapshots o w → HoldNoMoreSnapshots o w

-- a run begins with explanations, whatever the script does, and whatever its targets' versions stand for, where nothing is stored yet
abbrev pub RunsBeginWithExplanations : Type 0
RunsBeginWithExplanations =
    (r : Rules) (o : Opening) (w : World) → AreRulesInForm r → RunBeginsWell r o w → HoldNoMoreSnapshots o w → Explanations r o no_history [] w

-- So they hold at each moment of a run, of what was decided, aborted and stored by then;
abbrev pub RunsHaveExplanations : Type 0
RunsHaveExplanations =
    (r : Rules) (o : Opening) (w v : World) → AreRulesInForm r → RunBeginsWell r o w → HoldNoMoreSnapshots o w → (run : WorldRun r w v)
    → (h : History) × Explanations r o h (stored_over r run) v

-- each outcome shows its cause over dates;
abbrev pub AllRunsShowCauses : Type 0
AllRunsShowCauses =
    (r : Rules) (o : Opening) (w v : World) → AreRulesInForm r → RunBeginsWell r o w → HoldNoMoreSnapshots o w → (run : WorldRun r w v)
    → (late : ℕ) → late ≤ 1 → CausesOverDates r o late (stored_over r run) v

-- and each later read that a line's cause names was issued its epoch.
abbrev pub AllRunsNameIssuedReads : Type 0
AllRunsNameIssuedReads =
    (r : Rules) (o : Opening) (w v : World) → AreRulesInForm r → RunBeginsWell r o w → HoldNoMoreSnapshots o w → WorldRun r w v
    → (before : List Line) (a : Attempt) (after : List Line) (by : AttemptId) (epoch : Epoch) (path : Path) → v.lines ≡ before ++ line.Try a ∷ after → a.outcome ≡ outcome.Restart (cause.ReadLater by epoch path) → Contains v.issued (by, epoch)

-- Of a run that stands for the opening all is explained at each moment, of what was decided, aborted, served and stored by then.
abbrev pub RunsAreExplained : Type 0
RunsAreExplained =
    (r : Rules) (o : Opening) (w v : World) → AreRulesInForm r → RunBeginsWith r o w → HoldNoMoreSnapshots o w → (run : WorldRun r w v)
    → (h : History) × Explained r o (held_at w) h (stored_over r run) v
