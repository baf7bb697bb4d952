use Rattle.std.proofs.Common.{◌≡◌, ◌++◌, drop}
use Rattle.report_writer.specs.Words.{spaced}
use Rattle.report_writer.proofs.answers.push_names.Given as goal

abbrev pub invariant-loop-name : goal.invariant-loop-name
invariant-loop-name l = l.out.items ++ spaced (drop l.name-index l.names) ≡ l.initial.out.items ++ spaced l.names
