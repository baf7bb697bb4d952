-- Which attempts a report has, under which epochs, how they end, and which lines tell of snapshots, aggregations, stops and
-- restarts.
use Rattle.std.specs.Prelude.{◌≡◌, All}
use Rattle.base_types.specs.declared.report.Report.{Report}
use Rattle.daos_model.specs.Attempts.{tries}
use Rattle.daos_model.specs.Conditions.{ConditionsLegal}
use Rattle.daos_model.specs.Opening.{Given, Outside, top}
use Rattle.daos_model.specs.Order.{AllInTurn, AllRise, AreIssued}
use Rattle.daos_model.specs.Snapshots.{SnapshotsLegal}
use Rattle.daos_model.specs.Stops.{StopsLegal}

pub record OutcomesLegal (g : Given) (o : Outside) (q : Report) : Type 0 where
  pub targets : q.targets ≡ g.script.targets
  pub in_turn : AllInTurn g.job.attempts g.script q.lines
  pub issued : AreIssued g.script (top g.opening) q.lines
  pub rising : AllRise g.script q.lines
  pub conditions : All (ConditionsLegal g.script) (tries q.lines)
  pub snapshots : SnapshotsLegal g.script g.opening.stand q.lines
  pub stops : StopsLegal g.script g.job.threads o q
