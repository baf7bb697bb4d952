use Rattle.std.proofs.Common.{sym, subst}
use Rattle.daos_model.specs.Durables.{IsInForm}
use Rattle.daos_model.specs.FormLaws.{settled-in_form}
use Rattle.vos_contents.specs.Contents.{contents_of}
use Rattle.vos_contents.proofs.Kept.{committed_is, entries-committed}
use Rattle.base_types.specs.declared.entry.Settle.TheVariants.{Commit}
use Rattle.vos_contents.proofs.Indexing.{index-settled}
use Rattle.vos_contents.proofs.contents.Contents.commit.Goals as goal

pub invariant_of-self-clause-formed : goal.invariant_of-self-clause-formed
invariant_of-self-clause-formed c =
    subst IsInForm (sym (committed_is c.args.attempt (contents_of c.args.self.now) c.settle.new.self.items c.settle-2.new.self.items c.settle.ensures (entries-committed c.args.attempt c.args.self.now.entries.items c.settle-2.new.self.items c.settle-2.ensures)))
    (settled-in_form c.args.attempt Commit (contents_of c.args.self.now) c.args.self.now.formed)

pub returns-clause-kept : goal.returns-clause-kept
returns-clause-kept c = committed_is c.args.attempt (contents_of c.args.self.now) c.settle.new.self.items c.settle-2.new.self.items c.settle.ensures (entries-committed c.args.attempt c.args.self.now.entries.items c.settle-2.new.self.items c.settle-2.ensures)

pub invariant_of-self-clause-indexed : goal.invariant_of-self-clause-indexed
invariant_of-self-clause-indexed c = index-settled c.args.attempt c.args.self.now.index c.args.self.now.rows.items c.settle.new.self.items c.args.self.now.indexed c.settle.ensures
