use Rattle.std.proofs.Common.{◌≡◌, [], length}
use Rattle.report_grammar.specs.Answers.{names_from}
use Rattle.report_grammar.proofs.answers.names_from.Given as goal

abbrev pub invariant-loop-word : goal.invariant-loop-word
invariant-loop-word l = names_from l.names l.words ≡ names_from [] l.fn.words

abbrev pub decreases-loop-word : goal.decreases-loop-word
decreases-loop-word l = length l.words
