use Rattle.std.proofs.Common.{◌∙◌, sym}
use Rattle.vos_tables.proofs.Planning.{row_found}
use Rattle.vos_tables.proofs.Reading.{row_kept, row_new}
use Rattle.vos_tables.proofs.table.Tables.row.Goals as goal

pub returns-in-Some-clause-row : goal.returns-in-Some-clause-row
returns-in-Some-clause-row c = λ vs es. sym (row_found c.args.self.now c.args.cont c.in-Some.field-0-0 c.in-Some.row vs es c.cont_at.ensures.table.apart c.in-Some.ensures.found)

pub returns-in-Some-clause-why : goal.returns-in-Some-clause-why
returns-in-Some-clause-why c = row_kept c.args.self.now c.in-Some.field-0-0 c.args.cont c.in-Some.row c.cont_at.ensures.table c.in-Some.ensures.found

pub returns-in-None-clause-row : goal.returns-in-None-clause-row
returns-in-None-clause-row c = λ vs es. c.new_row.ensures.row ∙ sym (row_new c.args.self.now c.args.cont c.in-None.ensures.found vs es)
