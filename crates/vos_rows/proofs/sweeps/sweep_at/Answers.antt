use Rattle.std.proofs.Common.{arith}
use Rattle.vos_rows.proofs.Sweeping.{swept-gone, swept-kept}
use Rattle.vos_rows.proofs.sweeps.sweep_at.Goals as goal

pub returns-then-marks-i-clause-items : goal.returns-then-marks-i-clause-items
returns-then-marks-i-clause-items c =
    swept-gone c.args.marks.now c.args.rows.now.items c.args.kept c.args.i c.requires.behind c.requires.marks (omega arith) c.if-marks-i.true

pub returns-clause-items : goal.returns-clause-items
returns-clause-items c =
    swept-kept c.args.marks.now c.args.rows.now.items c.swap.new.self.items c.args.kept c.args.i c.requires.behind c.requires.marks (omega arith) c.swap.ensures.by_index c.if-marks-i.false
