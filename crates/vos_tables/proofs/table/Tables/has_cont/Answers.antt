use Rattle.std.proofs.Common.{◌∙◌}
use Rattle.vos_tables.proofs.Reading.{cont_told}
use Rattle.vos_tables.proofs.table.Tables.has_cont.Goals as goal

pub returns : goal.returns
returns c = λ vs es. c.is_some.ensures ∙ cont_told c.args.self.now c.args.cont c.cont_at.result vs es c.cont_at.ensures.table c.cont_at.ensures.found
