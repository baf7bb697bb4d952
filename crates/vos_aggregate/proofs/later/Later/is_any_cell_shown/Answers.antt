use Rattle.std.proofs.Common.{◌/◌, ◌≤◌, length, not, sym, subst, ◌∙◌, ap}
use Rattle.base_types.specs.Paths.{record_size}
use Rattle.vos_aggregate.proofs.Hiding.{few-records, plain-last, shown-single}
use Rattle.vos_aggregate.proofs.later.Later.is_any_cell_shown.Goals as goal

pub is_any_shown-requires-clause-few : goal.is_any_shown-requires-clause-few
is_any_shown-requires-clause-few c =
    subst (λ bs. length bs / record_size c.in-Extent.path ≤ 1024) (sym c.as_slice.ensures)
    (few-records c.args.version.now.write c.in-Extent.path c.in-Extent.low c.in-Extent.bytes c.in-Extent.is
    (plain-last c.args.self.now.versions.now c.args.self.now.from c.args.version.now c.requires.last c.args.self.now.later.plain))

pub returns-in-Single : goal.returns-in-Single
returns-in-Single c =
    ap not c.is_single_said.ensures
    ∙ shown-single c.args.self.now.versions.now c.args.sight c.args.self.now.from c.args.version.now c.in-Single.path c.in-Single.field-1 c.in-Single.is c.requires.last c.args.self.now.later.rising
