use Rattle.std.proofs.Common.{sym, subst}
use Rattle.daos_model.specs.Durables.{IsInForm}
use Rattle.daos_model.specs.FormLaws.{settled-in_form}
use Rattle.vos_contents.specs.Contents.{contents_of}
use Rattle.vos_contents.proofs.Kept.{entries-forgotten, forgotten_is}
use Rattle.base_types.specs.declared.entry.Settle.TheVariants.{Forget}
use Rattle.vos_contents.proofs.contents.Contents.forget.Goals as goal

pub invariant_of-self-clause-formed : goal.invariant_of-self-clause-formed
invariant_of-self-clause-formed c =
    subst IsInForm (sym (forgotten_is c.args.attempt (contents_of c.args.self.now) c.settle.new.self.items (entries-forgotten c.args.attempt c.args.self.now.entries.items c.settle.new.self.items c.settle.ensures)))
    (settled-in_form c.args.attempt Forget (contents_of c.args.self.now) c.args.self.now.formed)

pub returns-clause-kept : goal.returns-clause-kept
returns-clause-kept c = forgotten_is c.args.attempt (contents_of c.args.self.now) c.settle.new.self.items (entries-forgotten c.args.attempt c.args.self.now.entries.items c.settle.new.self.items c.settle.ensures)
