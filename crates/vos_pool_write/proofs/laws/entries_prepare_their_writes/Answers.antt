use Rattle.vos_pool_write.proofs.Prepared.{entries_prepare}
use Rattle.vos_pool_write.proofs.laws.entries_prepare_their_writes.Goals as goal

pub returns : goal.returns
returns c = entries_prepare
