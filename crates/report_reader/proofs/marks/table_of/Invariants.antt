use Rattle.std.proofs.Common.{◌≡◌, ◌++◌, drop, map}
use Rattle.std.specs.List.{filter_map}
use Rattle.report_reader.specs.Marks.{marks_of}
use Rattle.report_reader.proofs.marks.table_of.Given as goal

abbrev pub invariant-loop-commands : goal.invariant-loop-commands
invariant-loop-commands l = l.table ++ map (filter_map marks_of) (drop l.commands-index l.commands-items) ≡ map (filter_map marks_of) l.commands-items
