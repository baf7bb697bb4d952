use Rattle.std.proofs.Common.{◌≡◌, subst}
use Rattle.std.specs.Prelude.{IfOk}
use Rattle.vos_store.specs.Answers.{later_write, shown_or_none}
use Rattle.vos_contents.specs.Contents.{contents_of}
use Rattle.vos_contents.proofs.Answering.{shows_in_form}
use Rattle.vos_contents.proofs.contents.Contents.later_write.Goals as goal

pub returns-clause-shown : goal.returns-clause-shown
unfolding later_write
returns-clause-shown c =
    shows_in_form c.shown.result c.args.path.now c.args.above c.args.upto (contents_of c.args.self.now) c.args.self.now.formed.writes
    (subst (λ o. IfOk c.shown.result (λ s. s ≡ shown_or_none o)) c.first_between.ensures c.shown.ensures)
