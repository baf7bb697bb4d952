use Rattle.std.proofs.Common.{arith}
use Rattle.vos_scan.proofs.Known.{index-kept}
use Rattle.vos_scan.proofs.index.ReadIndex.keep.Goals as goal

pub returns-else-same-self : goal.returns-else-same-self
returns-else-same-self c = λ before after h same within. index-kept _ c.args.same before after h same within (omega (arith, c.if-same-self.false))
