use Rattle.daos_model.specs.Versions.{is_not_pending}
use Rattle.std.proofs.Common.{◌≤◌, sym, subst, length, arith}
use Rattle.daos_model.specs.Durables.{IsInForm}
use Rattle.daos_model.specs.FormLaws.{settled-in_form}
use Rattle.vos_contents.specs.Contents.{contents_of}
use Rattle.vos_contents.proofs.Kept.{aborted_is, entries-aborted, fewer_versions}
use Rattle.base_types.specs.declared.entry.Settle.TheVariants.{Abort}
use Rattle.vos_contents.proofs.Indexing.{index-unpended}
use Rattle.vos_contents.proofs.contents.Contents.abort.Goals as goal

pub invariant_of-self-clause-formed : goal.invariant_of-self-clause-formed
invariant_of-self-clause-formed c =
    subst IsInForm (sym (aborted_is c.args.attempt (contents_of c.args.self.now) c.remove_pending.new.self.items c.settle.new.self.items c.remove_pending.ensures (entries-aborted c.args.attempt c.args.self.now.entries.items c.settle.new.self.items c.settle.ensures)))
    (settled-in_form c.args.attempt Abort (contents_of c.args.self.now) c.args.self.now.formed)

pub returns-clause-kept : goal.returns-clause-kept
returns-clause-kept c = aborted_is c.args.attempt (contents_of c.args.self.now) c.remove_pending.new.self.items c.settle.new.self.items c.remove_pending.ensures (entries-aborted c.args.attempt c.args.self.now.entries.items c.settle.new.self.items c.settle.ensures)

pub invariant_of-self-clause-planned : goal.invariant_of-self-clause-planned
invariant_of-self-clause-planned c =
    let few : length c.remove_pending.new.self.items ≤ length c.args.self.now.rows.items = fewer_versions c.args.self.now.rows.items c.remove_pending.new.self.items (is_not_pending c.args.attempt) c.remove_pending.ensures in
    omega (arith, c.args.self.now.planned, few)

pub invariant_of-self-clause-indexed : goal.invariant_of-self-clause-indexed
invariant_of-self-clause-indexed c = index-unpended c.args.attempt c.args.self.now.index c.args.self.now.rows.items c.remove_pending.new.self.items c.args.self.now.indexed c.remove_pending.ensures
