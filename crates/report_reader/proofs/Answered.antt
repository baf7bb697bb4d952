-- What is answered of a text, by what the text is read as.
use Rattle.std.proofs.Common.{◌≡◌, ℕ, List, Result, Ok, Err, sym, ap, ◌∙◌}
use Rattle.std.specs.Prelude.{IfOk}
use Rattle.base_types.specs.declared.report.Report.{Report}
use Rattle.base_types.specs.declared.script.Script.{Script}
use Rattle.report_writer.specs.Reports.{report_text}
use Rattle.report_reader.specs.declared.fault.ReportNo.{ReportNo}
use Rattle.report_reader.specs.declared.fault.ReportNo.TheVariants as no
use Rattle.report_reader.specs.Law.{AreBytes, IsNamed, IsReadAs, IsReportFor, TellsFirstBad}
use Rattle.report_reader.specs.Reading.{report_of}
use Rattle.report_reader.specs.Reads.{ReadsAt}
use Rattle.report_reader.proofs.Back.{is_read_back}
use Rattle.report_reader.proofs.Bad.{is_first_bad}
use Rattle.report_reader.proofs.Kept.{is_for_script}
use Rattle.report_reader.proofs.Sound.{read_is_spelled}

same_read : (x q : Report) → ◌≡◌ {A = Result Report ℕ} (Ok x) (Ok q) → x ≡ q
same_read x q e = cc

not_both : (at : ℕ) (q : Report) → ◌≡◌ {A = Result Report ℕ} (Err at) (Ok q) → ⊥
not_both at q e = absurd cc

module _ (s : Script) (bytes : List ℕ) where
  pub text_answered : (r : Result Report ReportNo) → ReadsAt (λ (q : Report). q) r (report_of s bytes) → IfOk r (λ q. bytes ≡ report_text s q)
  text_answered (Ok q) h = read_is_spelled s bytes q h
  text_answered (Err e) h = tt

  read_as : (q : Report) → IsReportFor s q → bytes ≡ report_text s q → report_of s bytes ≡ Ok q
  read_as q h text = ap (report_of s) text ∙ is_read_back s q h

  pub back_answered : (r : Result Report ReportNo) → ReadsAt (λ (q : Report). q) r (report_of s bytes) → (q : Report) → IsReportFor s q → bytes ≡ report_text s q → IsReadAs q r
  back_answered (Ok x) h q f text = same_read x q (sym h ∙ read_as q f text)
  back_answered (Err no.Memory) h q f text = tt
  back_answered (Err (no.BadLine told)) h q f text = absurd (not_both h.0 q (sym h.1 ∙ read_as q f text))

  pub form_answered : (r : Result Report ReportNo) → ReadsAt (λ (q : Report). q) r (report_of s bytes) → IsNamed s → AreBytes bytes → IfOk r (λ q. IsReportFor s q)
  form_answered (Ok q) h named are = is_for_script s named bytes q are h
  form_answered (Err e) h named are = tt

  pub bad_answered : (r : Result Report ReportNo) → ReadsAt (λ (q : Report). q) r (report_of s bytes) → IsNamed s → AreBytes bytes → TellsFirstBad s bytes r
  bad_answered (Ok q) h named are = tt
  bad_answered (Err no.Memory) h named are = tt
  bad_answered (Err (no.BadLine told)) h named are = (h.0, is_first_bad s named bytes are h.0 h.1, h.2)
