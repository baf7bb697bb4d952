use Rattle.std.proofs.Common.{◌≡◌, ◌++◌, drop, map}
use Rattle.report_reader.specs.Marks.{mark_of}
use Rattle.report_reader.proofs.marks.op_marks.Given as goal

abbrev pub invariant-loop-op : goal.invariant-loop-op
invariant-loop-op l = l.marks ++ map mark_of (drop l.op-index l.ops) ≡ map mark_of l.ops
