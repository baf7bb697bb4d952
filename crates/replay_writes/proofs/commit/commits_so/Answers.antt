use Rattle.std.proofs.Common.{subst}
use Rattle.replay_base.specs.Requested.{TellsEpoch}
use Rattle.replay_writes.proofs.commit.commits_so.Goals as goal

pub asked_so-requires-clause-told : goal.asked_so-requires-clause-told
asked_so-requires-clause-told c = subst (TellsEpoch c.args.request.now.ep c.args.did.now.issued) c.in-Some.is c.told_epoch.ensures

pub spent_so-requires : goal.spent_so-requires
spent_so-requires c = subst (TellsEpoch c.args.request.now.ep c.args.did.now.issued) c.in-None.is c.told_epoch.ensures
