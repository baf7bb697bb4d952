-- The laws of doubts, as statements.
use Rattle.std.specs.Prelude.{◌≡◌, ◌<◌, []}
use Rattle.world_standing.specs.world_commit.attempts.History.{History}
use Rattle.world_base.specs.declared.world.World.{World}
use Rattle.world_base.specs.Events.{Rules}
use Rattle.world_standing.specs.world_commit.fates.Asked.{AskedRight}
use Rattle.world_standing.specs.world_commit.fates.Facts.{Attempts}
use Rattle.world_standing.specs.world_commit.fates.Keeping.{HasNoneYet}
use Rattle.world_standing.specs.world_causes.hearing.Going.{EntriesWrite}
use Rattle.world_standing.specs.world_letters.lines.Lines.{Endings, Lines}
use Rattle.world_standing.specs.world_causes.losses.ClientHears.{LossesAreAsked}
use Rattle.world_standing.specs.world_causes.losses.Losses.{Losses}
use Rattle.world_standing.specs.world_causes.outcomes.Outcomes.{Outcomes}
use Rattle.world_standing.specs.world_causes.outcomes.Premises.{AsksGoRight}
use Rattle.world_standing.specs.world_letters.waits.Premises.{RequestsAreOfClients}
use Rattle.world_standing.specs.world_letters.waits.Waits.{Conversation}
use Rattle.world_legal.specs.doubts.Doubts.{Doubts}

-- they hold where nothing is in flight, told or kept
abbrev pub DoubtsBegin : Type 0
DoubtsBegin = (r : Rules) (h : History) (w : World) → HasNoneYet h w → w.lines ≡ [] → Doubts r h w

-- what else holds of the world before an event, and once it happened
pub record IsBeside (r : Rules) (h later : History) (w u : World) : Type 0 where
  pub some : 0 < r.attempts
  pub right : AskedRight r h w
  pub asks : AsksGoRight r w
  pub attempts : Attempts r h w
  pub talk : Conversation r w
  pub endings : Endings w
  pub lines : Lines r w
  pub outcomes : Outcomes r h w
  pub losses : Losses r w
  pub lost : LossesAreAsked w
  pub attempts_then : Attempts r later u
  pub outcomes_then : Outcomes r later u
  pub requests_then : RequestsAreOfClients u
  pub writes_then : EntriesWrite r u
