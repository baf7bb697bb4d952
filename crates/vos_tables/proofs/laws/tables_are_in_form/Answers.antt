use Rattle.std.proofs.Common.{subst}
use Rattle.vos_tables.specs.Laws.{IsKeptInForm}
use Rattle.vos_tables.proofs.Forms.{kept_in_form}
use Rattle.vos_tables.proofs.laws.tables_are_in_form.Goals as goal

pub returns : goal.returns
returns c = subst IsKeptInForm c.tables.view_is (kept_in_form _ c.tables.invariant)
