use Rattle.pmem_pages.proofs.Parts.{inserted_between, removed_between, valued_replaced}
use Rattle.pmem_pages.proofs.laws.entries_have_places.Goals as goal

pub returns-clause-inserted : goal.returns-clause-inserted
returns-clause-inserted c = inserted_between

pub returns-clause-removed : goal.returns-clause-removed
returns-clause-removed c = removed_between

pub returns-clause-valued : goal.returns-clause-valued
returns-clause-valued c = valued_replaced
