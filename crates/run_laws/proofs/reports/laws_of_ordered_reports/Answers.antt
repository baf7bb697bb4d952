use Rattle.run_laws.specs.reports.Alone.{orders-of_only_clients}
use Rattle.run_laws.specs.reports.Forms.{orders-report_in_form}
use Rattle.run_laws.specs.reports.Issued.{orders-issue}
use Rattle.run_laws.specs.reports.Kept.{orders-leave}
use Rattle.run_laws.specs.reports.Legal.{orders-are-legal}
use Rattle.run_laws.proofs.reports.laws_of_ordered_reports.Goals as goal

pub returns : goal.returns
returns c = record { legal = orders-are-legal; form = orders-report_in_form; issued = orders-issue; left = orders-leave; alone = orders-of_only_clients }
