-- That the report of a run is read back of its text.
use Rattle.std.specs.Prelude.{◌≡◌, Ok}
use Rattle.base_types.specs.declared.report.Report.{Report}
use Rattle.base_types.specs.declared.script.Script.{Script}
use Rattle.report_reader.specs.Law.{IsReportFor}
use Rattle.report_reader.specs.Reading.{report_of}
use Rattle.report_writer.specs.Reports.{report_text}

-- A report is one for the script, and what is read of its text is that report.
pub record IsReadBack (s : Script) (q : Report) : Type 0 where
  pub for_script : IsReportFor s q
  pub back : report_of s (report_text s q) ≡ Ok q
