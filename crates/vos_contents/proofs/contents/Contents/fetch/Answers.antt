use Rattle.std.proofs.Common.{◌≡◌, true, subst, sym}
use Rattle.std.specs.List.{list_all}
use Rattle.daos_model.specs.Durables.{is_version_in_form}
use Rattle.vos_contents.proofs.Answering.{kind_of}
use Rattle.vos_contents.proofs.contents.Contents.fetch.Goals as goal

pub returns-clause-kind : goal.returns-clause-kind
returns-clause-kind c = λ form.
    kind_of c.answered.result c.args.read.now c.args.below.0 c.rows-2.result.now form
    (subst (λ vs. list_all is_version_in_form vs ≡ true) (sym c.rows-2.ensures) c.args.self.now.formed.writes)
    c.answered.ensures.answer
