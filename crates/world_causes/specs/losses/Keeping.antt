-- The laws of losses, as statements.
use Rattle.std.specs.Prelude.{ℕ, ◌≡◌, true, []}
use Rattle.world_contents.specs.world_commit.attempts.History.{History}
use Rattle.world_base.specs.declared.world.World.{World}
use Rattle.world_base.specs.Events.{ClientGoes, ClientHears, Rules, TargetHears, TargetHearsBy, TargetIdles}
use Rattle.world_base.specs.Further.{HearsFurther}
use Rattle.world_base.specs.Stops.{HearsMore, NumbersDrawn, OpeningFails, TargetCut, TargetGivenUp, TargetOpens, swept}
use Rattle.world_contents.specs.world_commit.fates.Facts.{Attempts}
use Rattle.world_contents.specs.world_commit.fates.Keeping.{HasNoneYet}
use Rattle.world_causes.specs.losses.ClientHears.{LossesAreAsked}
use Rattle.world_causes.specs.losses.Clients.{AreBegun}
use Rattle.world_causes.specs.losses.Hearing.{is_answered_back}
use Rattle.world_causes.specs.losses.Readers.{OpenAreHeld, ReadersAreNew}
use Rattle.world_contents.specs.world_commit.statuses.Heard.{is_of_attempts}
use Rattle.world_causes.specs.losses.Resets.{WaitForOthers, is_reset}
use Rattle.world_causes.specs.losses.Losses.{AsksItsTargets, LeadersAreTargets, Losses}

-- they hold where nothing is in flight, told or kept
abbrev pub LossesBegin : Type 0
LossesBegin = (r : Rules) (h : History) (w : World) → HasNoneYet h w → w.lines ≡ [] → Losses r w

-- a turn of a target is cut, and it stops
abbrev pub CutsKeepLosses : Type 0
CutsKeepLosses = (r : Rules) (w v : World) → AsksItsTargets r w → LeadersAreTargets r v → Losses r w → TargetCut r w v → Losses r v

-- it opens again, or fails to
abbrev pub OpeningsKeepLosses : Type 0
OpeningsKeepLosses = (r : Rules) (h : History) (w v : World) → Attempts r h w → Losses r w → TargetOpens r w v → Losses r v

abbrev pub FailedOpeningsKeepLosses : Type 0
FailedOpeningsKeepLosses = (r : Rules) (w v : World) → Losses r w → OpeningFails r w v → Losses r v

-- it is given up, and what goes to such targets is lost
abbrev pub GivenUpTargetsKeepLosses : Type 0
GivenUpTargetsKeepLosses = (r : Rules) (w v : World) → Losses r w → TargetGivenUp r w v → Losses r v

abbrev pub SweepingKeepsLosses : Type 0
SweepingKeepsLosses = (r : Rules) (w : World) → Losses r w → Losses r (swept w)

-- A target is asked after an attempt, or told what a member holds.
abbrev pub AnswersKeepLosses : Type 0
AnswersKeepLosses = (number : ℕ) (r : Rules) (w v : World) → Losses r w → (g : TargetHearsBy (HearsFurther number) r w v) → is_answered_back g.l.message ≡ true → Losses r v

-- It is told that a question of its got no answer, where what was asked about is no attempt that reads there.
abbrev pub ResetsKeepLosses : Type 0
ResetsKeepLosses = (number : ℕ) (r : Rules) (w v : World) → Losses r w → (g : TargetHearsBy (HearsFurther number) r w v) → is_reset g.l.message ≡ true → WaitForOthers g.l.message g.s.memory.member.parked → Losses r v

-- numbers are drawn
abbrev pub DrawnNumbersKeepLosses : Type 0
DrawnNumbersKeepLosses = (r : Rules) (w v : World) → Losses r w → NumbersDrawn w v → Losses r v

-- ---- what is heard as without stops, and clients

-- a target hears what it hears without stops, where what reads is new, and what isn't settled is held
abbrev pub HearingKeepsLosses : Type 0
HearingKeepsLosses = (r : Rules) (h : History) (w v : World) → ReadersAreNew r h w → OpenAreHeld w → Attempts r h w → TargetHears r w v → Losses r w → Losses r v

-- it does its idle work
abbrev pub IdleWorkKeepsLosses : Type 0
IdleWorkKeepsLosses = (r : Rules) (w v : World) → TargetIdles r w v → Losses r w → Losses r v

-- it hears what it hears after stops of attempts: so also a Commit with a member that is known to be down
abbrev pub FurtherHearingKeepsLosses : Type 0
FurtherHearingKeepsLosses = (r : Rules) (h : History) (w v : World) → ReadersAreNew r h w → Attempts r h w → (g : HearsMore r w v) → is_of_attempts g.hears.l.message ≡ true → Losses r w → Losses r v

-- a client goes on without a message, or hears one, where what tells of a stop is of attempts that were begun
abbrev pub ClientsKeepLosses : Type 0
ClientsKeepLosses = (r : Rules) (w v : World) → AreBegun r w → ClientGoes r w v → Losses r w → Losses r v

abbrev pub HearingClientsKeepLosses : Type 0
HearingClientsKeepLosses = (r : Rules) (w v : World) → AreBegun r w → LossesAreAsked w → ClientHears r w v → Losses r w → Losses r v

-- ---- every event

-- what else holds of the world before an event
pub record AllBeside (r : Rules) (h : History) (w : World) : Type 0 where
  pub attempts : Attempts r h w
  pub new : ReadersAreNew r h w
  pub held : OpenAreHeld w
  pub begun : AreBegun r w
  pub lost : LossesAreAsked w
  pub asks : AsksItsTargets r w
