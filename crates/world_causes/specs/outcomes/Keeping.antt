-- The laws of outcomes, as statements.
use Rattle.std.specs.Prelude.{ℕ, ◌≡◌, ◌⊎◌, true, List, [], slice_get, Contains, Option, Some}
use Rattle.base_types.specs.declared.epoch.Epoch.{Epoch}
use Rattle.base_types.specs.declared.id.AttemptId.{AttemptId}
use Rattle.base_types.specs.declared.outcome.Outcome.{Outcome}
use Rattle.base_types.specs.declared.outcome.Outcome.TheVariants.{Committed}
use Rattle.base_types.specs.declared.report.Attempt.{Attempt}
use Rattle.daos_model.specs.Attempts.{is_unknown, tries}
use Rattle.world_contents.specs.world_commit.attempts.History.{Decided, GrowsBy, History}
use Rattle.world_base.specs.declared.client.ClientState.{ClientState}
use Rattle.world_base.specs.declared.letter.Letter.{Letter}
use Rattle.world_base.specs.declared.world.World.{World}
use Rattle.world_base.specs.ClientTurns.{heard, moved}
use Rattle.world_base.specs.Events.{ByClient, ByTarget, RightEvent, Rules, ToClient, ToTarget, client_plan}
use Rattle.world_base.specs.Letters.{Takes}
use Rattle.world_base.specs.Steps.{KeptByCounting, after_move, without}
use Rattle.world_base.specs.Stops.{Happening, Plainly, swept}
use Rattle.world_contents.specs.world_commit.fates.Facts.{Attempts}
use Rattle.world_contents.specs.world_commit.fates.Keeping.{HasNoneYet}
use Rattle.world_contents.specs.world_commit.fates.Told.{told_posts}
use Rattle.world_contents.specs.world_letters.lines.Lines.{Lines}
use Rattle.world_causes.specs.outcomes.Outcomes.{IsEndTrue, Outcomes, is_failed, Agrees, HasWrites}
use Rattle.world_causes.specs.outcomes.Premises.{AsksGoRight, CommitsAreOfClients, HandsOver, HearsFitly, LinesArePast, MakersWriteNothing}
use Rattle.world_contents.specs.world_commit.statuses.Events.{told_by}

-- they hold where nothing is in flight, told or kept
abbrev pub OutcomesBegin : Type 0
OutcomesBegin = (r : Rules) (h : History) (w : World) → HasNoneYet h w → w.lines ≡ [] → Outcomes r h w

-- a client's own move keeps them
abbrev pub MovesKeepOutcomes : Type 0
MovesKeepOutcomes = (r : Rules) (h : History) (w : World) (n : ℕ) (c : ClientState) → Lines r w → slice_get w.clients n ≡ Some c → Outcomes r h w → Outcomes r h (after_move w n (moved (client_plan r n) c))

-- so does one turn fewer to wait
abbrev pub CountingKeepsOutcomes : Type 0
CountingKeepsOutcomes = (r : Rules) (h : History) → KeptByCounting (Outcomes r h)

-- and hearing whatever goes with what it asked, where the client knows the epoch that was decided
abbrev pub HearingKeepsOutcomes : Type 0
HearingKeepsOutcomes = (r : Rules) (h : History) (w : World) (n : ℕ) (c : ClientState) (l : Letter) (rest : List Letter) → Agrees r h w → Outcomes r h w → slice_get w.clients n ≡ Some c → Takes w.messages l rest → HearsFitly (client_plan r n) c l.message
    → Outcomes r h (after_move (without w rest) n (heard (client_plan r n) c l.message))

-- what else is known of the world before an event of a target, and of the one after it
pub record IsUsual (r : Rules) (h later : History) (w v : World) : Type 0 where
  pub attempts : Attempts r h w
  pub attempts_then : Attempts r later v
  pub hands : HandsOver r w
  pub commits_then : CommitsAreOfClients v
  pub past : LinesArePast w
  pub asks : AsksGoRight r w
  pub makers : MakersWriteNothing r w

-- an event of a target
abbrev pub IsOfTarget : {r : Rules} {w v : World} → Happening r w v → Type 0
IsOfTarget (Plainly (ByClient g) up) = ⊥
IsOfTarget (Plainly (ToClient g) up) = ⊥
IsOfTarget e = Unit {0}

-- A right event of a target keeps them, of what is told in it, or would be if a client waited.
abbrev pub IsOfTargetRightly : {r : Rules} {w v : World} → RightEvent r w v → Type 0
IsOfTargetRightly (ByClient g) = ⊥
IsOfTargetRightly (ToClient g) = ⊥
IsOfTargetRightly (ToTarget g) = Unit {0}
IsOfTargetRightly (ByTarget g) = Unit {0}

abbrev pub TargetsKeepOutcomes : Type 0
TargetsKeepOutcomes = (r : Rules) (h later : History) (w v : World) → IsUsual r h later w v → Outcomes r h w → (e : RightEvent r w v) → IsOfTargetRightly e → GrowsBy h (told_posts e) later → Outcomes r later v

-- So does whatever becomes of a target: a further message is heard, a turn of it is cut, it opens again or fails to, it is given up, or
-- numbers are drawn.
abbrev pub HappeningsKeepOutcomes : Type 0
HappeningsKeepOutcomes = (r : Rules) (h later : History) (w v : World) → IsUsual r h later w v → Outcomes r h w → (e : Happening r w v) → IsOfTarget e → GrowsBy h (told_by e) later → Outcomes r later v

-- and what goes to targets that are given up is lost
abbrev pub SweepingKeepsOutcomes : Type 0
SweepingKeepsOutcomes = (r : Rules) (h : History) (w : World) → HandsOver r w → LinesArePast w → Outcomes r h w → Outcomes r h (swept w)

-- ---- what follows

-- an attempt with writes that is told to have failed isn't decided
abbrev pub ToldAreUndecided : Type 0
ToldAreUndecided = (r : Rules) (h : History) (w : World) (x : AttemptId) (own : Option Epoch) (how : Outcome) (e : Epoch) → Attempts r h w → IsEndTrue r h w x own how → is_failed how ≡ true → Decided h x e → ⊥

-- nor is one that a line tells of so
abbrev pub FailedAreUndecided : Type 0
FailedAreUndecided = (r : Rules) (h : History) (w : World) (a : Attempt) (e : Epoch) → Attempts r h w → Outcomes r h w → Contains (tries w.lines) a → HasWrites r a.id → is_failed a.outcome ≡ true → Decided h a.id e → ⊥

-- of a decided one a line tells that it is committed, or that it is unknown what became of it
abbrev pub DecidedAreTold : Type 0
DecidedAreTold = (r : Rules) (h : History) (w : World) (a : Attempt) (e : Epoch) → Attempts r h w → Outcomes r h w → Contains (tries w.lines) a → HasWrites r a.id → Decided h a.id e → (a.outcome ≡ Committed) ⊎ (is_unknown a.outcome ≡ true)
