use Rattle.std.proofs.Common.{◌≡◌, ◌+◌, length}
use Rattle.base_text.specs.Parts.{parts_of}
use Rattle.base_text.specs.Steps.{steps}
use Rattle.report_reader.specs.Reading.{step}
use Rattle.report_reader.specs.declared.report.Stage.TheVariants.{Start}
use Rattle.report_reader.proofs.report.read_report.Given as goal

abbrev pub invariant-loop-line : goal.invariant-loop-line
invariant-loop-line l = record {
  so_far : steps (step l.script l.marks) (l.at + 1) l.stage l.lines ≡ steps (step l.script l.marks) 1 Start (parts_of 10 l.bytes);
  count : l.at + length l.lines ≡ length (parts_of 10 l.bytes);
}

abbrev pub decreases-loop-line : goal.decreases-loop-line
decreases-loop-line l = length l.lines
