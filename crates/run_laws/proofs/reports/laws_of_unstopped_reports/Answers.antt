use Rattle.run_laws.specs.reports.Unstopped.{unstopped-end-plainly}
use Rattle.run_laws.proofs.reports.laws_of_unstopped_reports.Goals as goal

pub returns : goal.returns
returns c = unstopped-end-plainly
