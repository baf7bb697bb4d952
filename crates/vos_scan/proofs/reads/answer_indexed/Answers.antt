use Rattle.std.proofs.Common.{◌≡◌, ◌∙◌, ap, subst, sym}
use Rattle.std.specs.Prelude.{IfOk}
use Rattle.daos_model.specs.Answers.{answer, value_answer}
use Rattle.daos_model.specs.Versions.{map_below}
use Rattle.vos_scan.specs.Newest.{single_of}
use Rattle.vos_scan.proofs.Newest.{answer-newest}
use Rattle.vos_scan.proofs.reads.answer_indexed.Goals as goal

pub returns-in-Single : goal.returns-in-Single
returns-in-Single c =
    subst (λ x. IfOk c.single_answer.result (λ a. a ≡ x))
    (sym
    (ap (λ r. answer r (map_below c.args.rows.now c.args.below.0)) c.in-Single.is
    ∙ answer-newest c.in-Single.path c.args.below.0 c.args.rows.now
    ∙ ap (λ o. value_answer (single_of o)) (sym c.newest_indexed.ensures)))
    c.single_answer.ensures
