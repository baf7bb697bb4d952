use Rattle.vos_fresh.proofs.Holding.{frees, holds, keeps, read}
use Rattle.vos_fresh.proofs.laws.fresh_is_empty.Goals as goal

pub returns-clause-holds : goal.returns-clause-holds
returns-clause-holds c = holds

pub returns-clause-read : goal.returns-clause-read
returns-clause-read c = read c.tables_are_read.ensures

pub returns-clause-kept : goal.returns-clause-kept
returns-clause-kept c = keeps c.tables_are_read.ensures

pub returns-clause-free : goal.returns-clause-free
returns-clause-free c = frees
