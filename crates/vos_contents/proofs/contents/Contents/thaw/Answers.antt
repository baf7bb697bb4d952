use Rattle.std.proofs.Common.{sym, subst}
use Rattle.daos_model.specs.Durables.{IsInForm}
use Rattle.daos_model.specs.FormLaws.{thawed-in_form}
use Rattle.vos_contents.specs.Contents.{contents_of}
use Rattle.vos_contents.proofs.Kept.{thawed_is}
use Rattle.vos_contents.proofs.contents.Contents.thaw.Goals as goal

pub invariant_of-self-clause-formed : goal.invariant_of-self-clause-formed
invariant_of-self-clause-formed c =
    subst IsInForm (sym (thawed_is c.args.cont c.args.s (contents_of c.args.self.now) c.remove_snap.new.rows.items c.remove_snap.ensures.items))
    (thawed-in_form c.args.cont c.args.s (contents_of c.args.self.now) c.args.self.now.formed)

pub returns-clause-kept : goal.returns-clause-kept
returns-clause-kept c = thawed_is c.args.cont c.args.s (contents_of c.args.self.now) c.remove_snap.new.rows.items c.remove_snap.ensures.items
