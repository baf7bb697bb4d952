use Rattle.std.proofs.Common.{ap, is_some}
use Rattle.target_parts.specs.Readings.{not-read, read-once}
use Rattle.target_parts.proofs.OwnEpochs.{own_epoch}
use Rattle.target_parts.proofs.epochs.request_epoch.Goals as goal

pub returns-in-Some-clause-epoch : goal.returns-in-Some-clause-epoch
returns-in-Some-clause-epoch g c = own_epoch (g.C.Clock.next c.args.clock.now) c.args.hlc.now c.args.tracker c.in-Some.epoch c.args.ep c.in-Some.is

pub returns-in-Some-clause-clock : goal.returns-in-Some-clause-clock
returns-in-Some-clause-clock g c = not-read g.C.Clock.is_read (is_some c.args.ep) c.args.clock.now (ap is_some c.in-Some.is)

pub returns-in-None-clause-clock : goal.returns-in-None-clause-clock
returns-in-None-clause-clock g c = read-once g.C.Clock.is_read c.args.ep c.args.clock.now c.now.new.self c.in-None.is c.now.ensures.read
