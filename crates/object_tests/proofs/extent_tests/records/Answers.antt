use Rattle.std.proofs.Common.{◌≡◌, ◌*◌, ◌∙◌, length}
use Rattle.vos_object.proofs.RecordForms.{extent_form}
use Rattle.object_tests.proofs.extent_tests.records.Goals as goal

pub returns-clause-form : goal.returns-clause-form
returns-clause-form c =
    let len : length c.in_ok-bytes.bytes ≡ c.args.unit * c.args.count = c.in_ok-bytes.ensures ∙ (λ i. c.from.ensures i * c.from-2.ensures i) in
    extent_form c.in_ok-path.path c.args.low c.in_ok-bytes.bytes c.args.unit c.args.count c.in_ok-path.ensures.ends c.in_ok-path.ensures.size len c.requires.some c.requires.few c.requires.one c.requires.most c.requires.low
