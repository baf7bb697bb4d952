use Rattle.std.proofs.Common.{◌≡◌, [], length}
use Rattle.report_grammar.specs.Answers.{pieces_from}
use Rattle.report_grammar.proofs.answers.pieces_from.Given as goal

abbrev pub invariant-loop-word : goal.invariant-loop-word
invariant-loop-word l = pieces_from l.pieces l.words ≡ pieces_from [] l.fn.words

abbrev pub decreases-loop-word : goal.decreases-loop-word
decreases-loop-word l = length l.words
