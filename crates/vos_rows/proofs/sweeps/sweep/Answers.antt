use Rattle.std.proofs.Common.{◌∙◌, arith}
use Rattle.vos_rows.specs.Sweeps.{unmarked}
use Rattle.vos_rows.proofs.Sweeping.{swept-all}
use Rattle.vos_rows.proofs.sweeps.sweep.Goals as goal

pub returns-clause-items : goal.returns-clause-items
returns-clause-items c =
    c.truncate.ensures.items ∙ swept-all c.args.marks.now c.loop-i.rows.items (unmarked c.args.marks.now c.args.rows.now.items) c.loop-i.kept c.loop-i.i (omega arith) (omega arith) c.loop-i.invariant.items
