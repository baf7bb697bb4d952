use Rattle.std.proofs.Common.{◌≡◌, ◌∙◌, List, [], ap, subst}
use Rattle.std.specs.Prelude.{IfOk, filter}
use Rattle.base_types.specs.declared.operation.Write.{Write}
use Rattle.daos_model.specs.Answers.{answer}
use Rattle.daos_model.specs.Versions.{sees, writes_in}
use Rattle.vos_scan.specs.Marks.{marks_by}
use Rattle.vos_scan.proofs.Marking.{answer-marks}
use Rattle.vos_scan.proofs.reads.answer_by_marks.Goals as goal

pub returns : goal.returns
returns c =
    let seen : List Write = writes_in (filter (sees c.args.below.0) c.args.rows.now) in
    subst (λ x. IfOk c.answer_of.result (λ a. a ≡ x))
    (ap (answer c.args.read.now) (c.in_ok-marks.ensures ∙ ap (λ p. marks_by p seen []) c.path.ensures)
    ∙ answer-marks c.args.read.now c.args.rows.now c.args.below.0 c.requires.names c.requires.form)
    c.answer_of.ensures
