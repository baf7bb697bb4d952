use Rattle.std.proofs.Common.{sym, subst}
use Rattle.daos_model.specs.Durables.{IsInForm}
use Rattle.daos_model.specs.FormLaws.{settled-in_form}
use Rattle.vos_contents.specs.Contents.{contents_of}
use Rattle.vos_contents.proofs.Kept.{confirmed_is, entries-confirmed}
use Rattle.base_types.specs.declared.entry.Settle.TheVariants.{Confirm}
use Rattle.vos_contents.proofs.contents.Contents.confirm.Goals as goal

pub invariant_of-self-clause-formed : goal.invariant_of-self-clause-formed
invariant_of-self-clause-formed c =
    subst IsInForm (sym (confirmed_is c.args.attempt c.args.member (contents_of c.args.self.now) c.settle.new.self.items (entries-confirmed c.args.attempt c.args.member c.args.self.now.entries.items c.settle.new.self.items c.settle.ensures)))
    (settled-in_form c.args.attempt (Confirm c.args.member) (contents_of c.args.self.now) c.args.self.now.formed)

pub returns-clause-kept : goal.returns-clause-kept
returns-clause-kept c = confirmed_is c.args.attempt c.args.member (contents_of c.args.self.now) c.settle.new.self.items (entries-confirmed c.args.attempt c.args.member c.args.self.now.entries.items c.settle.new.self.items c.settle.ensures)
