-- The text of the report of a run in an order determines it.
use Rattle.base_types.specs.declared.report.Line.{Line}
use Rattle.base_types.specs.declared.report.Line.TheVariants as line
use Rattle.world_closing.specs.forming.Forming.{HasSmallCounts}
use Rattle.world_closing.specs.forming.Runs.{all-runs-report_in_form}
use Rattle.run_laws.specs.reports.Legal.{events}
use Rattle.run_laws.specs.reports.Reports.{HasTypedNumbers, OrdersReportInForm}

typed-counts : (l : Line) → HasTypedNumbers l → HasSmallCounts l
typed-counts (line.Stop n t) typed = typed
typed-counts (line.Restart n t incarnation floor) typed = typed
typed-counts (line.Aggregate n t cont upto) typed = typed
typed-counts l typed = tt

pub orders-report_in_form : OrdersReportInForm
orders-report_in_form g w v holds k keyed typed =
    all-runs-report_in_form g w v k.begins.form k.begins.begins k.begins.few holds (events g w v k)
    (record { small = record { script = keyed.script; byte = keyed.byte; counts = λ l i. typed-counts l (typed l i) }; opening = keyed.opening })
