use Rattle.std.proofs.Common.{◌∙◌}
use Rattle.vos_tables.proofs.Reading.{snap_told}
use Rattle.vos_tables.proofs.table.Tables.has_snap.Goals as goal

pub returns : goal.returns
returns c = λ vs es. c.is_some.ensures ∙ snap_told c.args.self.now c.args.cont c.args.s c.snap_at.result vs es c.snap_at.ensures.table c.snap_at.ensures.found
