-- What a report tells of a client that is alone.
use Rattle.base_types.specs.declared.report.Report.{Report}
use Rattle.model_reports.specs.Lone.{AllAreCommitted, EachIsTriedOnce, EndsPlainly, EpochsRise, HasNoConditions, HasTicks, NeverRestarts}
use Rattle.daos_model.specs.Opening.{Given}
use Rattle.model_reports.specs.Rooms.{HasRoom}

-- A client that is alone is never told to restart: each of its commands has one attempt, in the order of the script, epochs rise in the
-- order of the lines, and it is known what became of each; each is committed where there are no conditions, room, and ticks.
pub record TellsOfLoneClient (g : Given) (q : Report) : Type 0 where
  pub never_restarted : NeverRestarts q
  pub one_attempt : EachIsTriedOnce g.script q
  pub rising : EpochsRise q
  pub plainly : EndsPlainly q
  pub committed : HasNoConditions g.script → HasRoom g.script g.job.attempts g.opening.free → HasTicks g.script g.opening → AllAreCommitted q

-- over regions of zeros there are always ticks
pub record IsOfLoneClient (g : Given) (q : Report) : Type 0 where
  pub never_restarted : NeverRestarts q
  pub one_attempt : EachIsTriedOnce g.script q
  pub rising : EpochsRise q
  pub plainly : EndsPlainly q
  pub committed : HasNoConditions g.script → HasRoom g.script g.job.attempts g.opening.free → AllAreCommitted q
