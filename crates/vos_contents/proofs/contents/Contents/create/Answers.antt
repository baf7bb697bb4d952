use Rattle.std.proofs.Common.{sym, subst}
use Rattle.daos_model.specs.Durables.{IsInForm}
use Rattle.daos_model.specs.FormLaws.{created-in_form}
use Rattle.vos_contents.specs.Contents.{contents_of}
use Rattle.vos_contents.proofs.Kept.{created_is}
use Rattle.vos_contents.proofs.contents.Contents.create.Goals as goal

pub invariant_of-self-clause-formed : goal.invariant_of-self-clause-formed
invariant_of-self-clause-formed c =
    subst IsInForm (sym (created_is c.args.cont c.args.s (contents_of c.args.self.now) c.create.new.rows.items c.create.ensures.items))
    (created-in_form c.args.cont c.args.s (contents_of c.args.self.now) c.args.self.now.formed)

pub returns-clause-kept : goal.returns-clause-kept
returns-clause-kept c = created_is c.args.cont c.args.s (contents_of c.args.self.now) c.create.new.rows.items c.create.ensures.items
