-- The headline: every reported answer is what the transactions that took effect give when run one by one in epoch order from what
-- the regions stood for at opening; outcomes go with what stands beside them; each restart shows a later access, a floor or an
-- unresolved transaction.
use Rattle.std.specs.Prelude.{Bool}
use Rattle.base_types.specs.declared.id.AttemptId.{AttemptId}
use Rattle.base_types.specs.declared.report.Report.{Report}
use Rattle.daos_model.specs.CausesShown.{CausesShown}
use Rattle.daos_model.specs.Opening.{Given, Outside}
use Rattle.daos_model.specs.OutcomesLegal.{OutcomesLegal}
use Rattle.daos_model.specs.ReadsLegal.{ReadsLegal}
use Rattle.daos_model.specs.TookEffect.{took}

-- a report is legal for what a run was given, for what the outside did, and for which attempts are found resolved in the end
pub record Headline (g : Given) (o : Outside) (resolved : AttemptId → Bool) (q : Report) : Type 0 where
  pub reads : ReadsLegal g.script g.opening.stand (took g.script resolved q.lines) q
  pub outcomes : OutcomesLegal g o q
  pub causes : CausesShown g q
