use Rattle.std.proofs.Common.{◌≡◌, true, subst, sym}
use Rattle.daos_model.specs.Durables.{is_floor_in_form}
use Rattle.daos_model.specs.FormLaws.{row_of-in_form}
use Rattle.vos_contents.specs.Contents.{contents_of}
use Rattle.vos_contents.proofs.Answering.{raised_shown}
use Rattle.vos_contents.proofs.contents.Contents.floor.Goals as goal

pub returns-then-opening-row-clause-why : goal.returns-then-opening-row-clause-why
returns-then-opening-row-clause-why c =
    raised_shown c.args.opening c.row-row.result
    (subst (λ r. is_floor_in_form r ≡ true) (sym c.row-row.ensures) (row_of-in_form (contents_of c.args.self.now) c.args.cont c.args.self.now.formed.floors))
    c.if-opening-row.true
