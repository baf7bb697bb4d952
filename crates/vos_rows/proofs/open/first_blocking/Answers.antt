use Rattle.std.proofs.Common.{◌-◌, ◌∙◌, length, arith}
use Rattle.vos_rows.proofs.Settled.{blocking-behind}
use Rattle.vos_rows.proofs.open.first_blocking.Goals as goal

pub returns : goal.returns
returns c = c.blocking_among.ensures ∙ blocking-behind c.args.path.now c.args.below.0 c.args.settled (length c.args.rows.now - c.args.settled) c.args.rows.now (omega (arith, c.requires.within)) c.requires.done
