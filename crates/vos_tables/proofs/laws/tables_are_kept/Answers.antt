use Rattle.vos_tables.proofs.Keeping.{kept_of_table}
use Rattle.vos_tables.proofs.laws.tables_are_kept.Goals as goal

pub returns : goal.returns
returns c = kept_of_table c.what_stands_is_read.ensures.kept
