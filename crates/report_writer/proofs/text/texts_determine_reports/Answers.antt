use Rattle.report_writer.proofs.Law.{texts_determine_reports}
use Rattle.report_writer.proofs.text.texts_determine_reports.Goals as goal

pub returns : goal.returns
returns c = texts_determine_reports
