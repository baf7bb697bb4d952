use Rattle.daos_model.specs.Changes.{is_out_of_range}
use Rattle.std.proofs.Common.{◌≤◌, sym, subst, length, arith}
use Rattle.daos_model.specs.Durables.{IsInForm}
use Rattle.daos_model.specs.FormLaws.{discarded-in_form}
use Rattle.vos_contents.specs.Contents.{contents_of}
use Rattle.vos_contents.proofs.Kept.{discarded_is, fewer_versions}
use Rattle.vos_contents.proofs.contents.Contents.discard.Goals as goal

pub invariant_of-self-clause-formed : goal.invariant_of-self-clause-formed
invariant_of-self-clause-formed c =
    subst IsInForm (sym (discarded_is c.args.cont c.args.lo c.args.hi (contents_of c.args.self.now) c.remove_range.new.self.items c.remove_range.ensures))
    (discarded-in_form c.args.cont c.args.lo c.args.hi (contents_of c.args.self.now) c.args.self.now.formed)

pub returns-clause-kept : goal.returns-clause-kept
returns-clause-kept c = discarded_is c.args.cont c.args.lo c.args.hi (contents_of c.args.self.now) c.remove_range.new.self.items c.remove_range.ensures

pub invariant_of-self-clause-planned : goal.invariant_of-self-clause-planned
invariant_of-self-clause-planned c =
    let few : length c.remove_range.new.self.items ≤ length c.args.self.now.rows.items = fewer_versions c.args.self.now.rows.items c.remove_range.new.self.items (is_out_of_range c.args.cont c.args.lo c.args.hi) c.remove_range.ensures in
    omega (arith, c.args.self.now.planned, few)

pub invariant_of-self-clause-indexed : goal.invariant_of-self-clause-indexed
invariant_of-self-clause-indexed c = c.forget.ensures c.remove_range.new.self.items
