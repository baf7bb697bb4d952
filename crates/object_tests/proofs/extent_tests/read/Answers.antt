use Rattle.std.proofs.Common.{◌∙◌, ap}
use Rattle.base_types.specs.declared.operation.Read.TheVariants.{Extent}
use Rattle.daos_model.specs.Forms.{is_read_in_form}
use Rattle.vos_object.proofs.RecordForms.{read_form}
use Rattle.object_tests.proofs.extent_tests.read.Goals as goal

pub returns-clause-form : goal.returns-clause-form
returns-clause-form c =
    ap (λ n. is_read_in_form (Extent c.in_ok-path.path c.args.low n)) c.from.ensures
    ∙ read_form c.in_ok-path.path c.args.low c.args.unit c.args.count c.in_ok-path.ensures.ends c.in_ok-path.ensures.size c.requires.some c.requires.few c.requires.one c.requires.most c.requires.low
