use Rattle.std.proofs.Common.{Some, ap}
use Rattle.vos_stamp.specs.Stamps.{ByRead, IsShown}
use Rattle.vos_stamp.proofs.checks.by_read_or_write.Goals as goal

pub returns-in_ok-by_read-in-Some : goal.returns-in_ok-by_read-in-Some
returns-in_ok-by_read-in-Some c =
    let shown : IsShown c.args.path.now c.args.epoch.0 c.args.stamps.now.reads c.in-Some.read.now = rw c.in-Some.is at c.later_read.ensures in
    ByRead c.in-Some.read.now shown (ap (λ cause. Some cause) c.in_ok-by_read-in-Some.ensures)
