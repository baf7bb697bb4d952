use Rattle.report_grammar.proofs.Hex.{hex_more}
use Rattle.report_grammar.proofs.answers.hex_of.Goals as goal

pub loop-high-preserved : goal.loop-high-preserved
loop-high-preserved c =
    hex_more _ _ _ _ _ _ _ _ _ _ c.in-Some.ensures.cases.0 c.in-Some-split_first.ensures.cases.0 c.in-Some-digit_of.ensures.exact c.in-Some-digit_of-2.ensures.exact c.in_ok-push.ensures.ok c.loop-high.invariant
