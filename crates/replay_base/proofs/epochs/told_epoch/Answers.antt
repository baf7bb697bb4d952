use Rattle.std.proofs.Common.{inl}
use Rattle.replay_base.proofs.Issuing.{tells_issued}
use Rattle.replay_base.proofs.epochs.told_epoch.Goals as goal

pub returns-in-Some : goal.returns-in-Some
returns-in-Some c = inl c.in-Some.is

pub returns-in-None : goal.returns-in-None
returns-in-None c = tells_issued c.args.ep c.args.did.now.issued c.epoch_of.result c.in-None.is c.epoch_of.ensures
