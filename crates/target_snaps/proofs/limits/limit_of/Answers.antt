use Rattle.std.proofs.Common.{◌∙◌}
use Rattle.target_snaps.proofs.Limiting.{limit-is}
use Rattle.target_snaps.proofs.limits.limit_of.Goals as goal

pub returns : goal.returns
returns g c d at = c.limit_under.ensures ∙ limit-is c.args.cont c.args.epoch d c.open_below.result (c.open_below.ensures c.requires.running d at)
