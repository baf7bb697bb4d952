use Rattle.vos_pool_write.proofs.Lists.{entries_come, versions_come}
use Rattle.vos_pool_write.proofs.laws.they_come_in_order.Goals as goal

pub returns-clause-entries : goal.returns-clause-entries
returns-clause-entries c = entries_come

pub returns-clause-versions : goal.returns-clause-versions
returns-clause-versions c = versions_come
