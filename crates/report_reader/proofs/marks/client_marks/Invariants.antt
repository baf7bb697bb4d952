use Rattle.std.proofs.Common.{◌≡◌, ◌++◌, drop}
use Rattle.std.specs.List.{filter_map}
use Rattle.report_reader.specs.Marks.{marks_of}
use Rattle.report_reader.proofs.marks.client_marks.Given as goal

abbrev pub invariant-loop-command : goal.invariant-loop-command
invariant-loop-command l = l.all ++ filter_map marks_of (drop l.command-index l.commands) ≡ filter_map marks_of l.commands
