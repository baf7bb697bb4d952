use Rattle.std.proofs.Common.{◌≡◌, [], length}
use Rattle.report_grammar.specs.Answers.{hex_of}
use Rattle.report_grammar.proofs.answers.hex_of.Given as goal

abbrev pub invariant-loop-high : goal.invariant-loop-high
invariant-loop-high l = hex_of l.bytes l.rest ≡ hex_of [] l.digits

abbrev pub decreases-loop-high : goal.decreases-loop-high
decreases-loop-high l = length l.rest
