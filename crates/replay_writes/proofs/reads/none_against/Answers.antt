use Rattle.vos_stamp.specs.Stamps.{stands_against}
use Rattle.replay_writes.proofs.Reading.{none_decides}
use Rattle.replay_writes.proofs.reads.none_against.Goals as goal

pub returns : goal.returns
returns c = none_decides (stands_against c.args.path.now c.args.epoch.0) c.args.stamps.now c.some_against.result c.some_against.ensures
