use Rattle.std.proofs.Common.{arith, sym}
use Rattle.vos_check.proofs.EntrySteps.{below_power}
use Rattle.vos_check.proofs.entry.fits_targets.Goals as goal

pub returns-then-ground-ge64 : goal.returns-then-ground-ge64
returns-then-ground-ge64 c f = sym (below_power c.args.bits c.args.ground.now.targets (omega arith) (omega arith))
