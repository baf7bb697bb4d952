-- The fold over the lines of a text, and where it ends.
use Rattle.std.proofs.Common.{◌≡◌, ℕ, ◌+◌, ◌≤◌, List, [], ◌∷◌, length, Ok, Err, Result, sym, ap, ◌∙◌, arith, eqb}
use Rattle.std.proofs.lemmas.List.Splits.{length-slice_split}
use Rattle.std.proofs.lemmas.List.Sums.{count_by-le-length}
use Rattle.base_types.specs.declared.script.Script.{Script}
use Rattle.base_text.specs.Parts.{parts_of}
use Rattle.base_text.specs.Results.{◌>>=◌}
use Rattle.base_text.specs.Steps.{steps, steps-nil, steps-cons_err}
use Rattle.report_reader.specs.declared.fault.ReportNo.{ReportNo}
use Rattle.report_reader.specs.declared.fault.ReportNo.TheVariants as no
use Rattle.report_reader.specs.declared.report.Stage.{Stage}
use Rattle.report_reader.specs.declared.report.Stage.TheVariants.{Start}
use Rattle.report_reader.specs.Marks.{Marks, table_of}
use Rattle.report_reader.specs.Reads.{FailsAt}
use Rattle.report_reader.specs.Reading.{step, finished, report_of}

-- a text has no more lines than bytes, but one
pub few_lines : (bytes : List ℕ) → length (parts_of 10 bytes) ≤ length bytes + 1
few_lines bytes = omega (arith, length-slice_split (λ b. eqb b 10) bytes, count_by-le-length (λ b. eqb b 10) bytes)

module _ (s : Script) (bytes : List ℕ) (marks : List (List Marks)) (are : marks ≡ table_of s) where
  -- all lines
  abbrev pub all_steps : Result Stage ℕ
  all_steps = steps (step s marks) 1 Start (parts_of 10 bytes)

  whole : (r : Result Stage ℕ) → r ≡ all_steps → report_of s bytes ≡ (r >>= finished (length (parts_of 10 bytes)))
  unfolding report_of
  whole r e =
      sym (ap (λ x. x >>= finished (length (parts_of 10 bytes))) (e ∙ ap (λ t. steps (step s t) 1 Start (parts_of 10 bytes)) are))

  -- a bad line is the text's
  pub fault_of : (e : ReportNo) (at : ℕ) (stage : Stage) (line : List ℕ) (lines : List (List ℕ)) → FailsAt e (step s marks at stage line) → steps (step s marks) at stage (line ∷ lines) ≡ all_steps
      → FailsAt e (report_of s bytes)
  fault_of no.Memory at stage line lines h e = tt
  fault_of (no.BadLine n) at stage line lines h e = (h.0, whole (Err h.0) (sym (steps-cons_err (step s marks) at stage line lines h.0 h.1) ∙ e), h.2)

  -- after the last line
  pub end_of : (at next : ℕ) (stage : Stage) → steps (step s marks) next stage [] ≡ all_steps → at ≡ length (parts_of 10 bytes) → report_of s bytes ≡ finished at stage
  end_of at next stage e all = whole (Ok stage) (sym (steps-nil (step s marks) next stage) ∙ e) ∙ ap (λ n. finished n stage) (sym all)
