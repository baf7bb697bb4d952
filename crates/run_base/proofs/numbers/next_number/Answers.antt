use Rattle.std.proofs.Common.{◌∙◌}
use Rattle.run_base.specs.Numbers.{aggregations-counted}
use Rattle.run_base.proofs.numbers.next_number.Goals as goal

pub returns : goal.returns
returns c = c.count_aggregations.ensures ∙ aggregations-counted c.args.lines.now
