use Rattle.std.proofs.Common.{◌≡◌, ◌+◌, ◌∙◌, ap, length, sym, subst, arith}
use Rattle.daos_model.specs.Durables.{IsInForm}
use Rattle.vos_contents.specs.Contents.{contents_of}
use Rattle.vos_contents.proofs.Kept.{entry_added, length-puts, with_entry-in_form}
use Rattle.vos_contents.proofs.contents.Contents.prepare.Goals as goal

pub invariant_of-self-clause-formed : goal.invariant_of-self-clause-formed
invariant_of-self-clause-formed c =
    subst IsInForm (sym (entry_added (contents_of c.args.self.now) c.args.self.now.rows.coming c.args.entry c.put_coming-same.new.self.items c.put.new.self.items c.put_coming-same.ensures.items c.put.ensures))
    (with_entry-in_form c.args.self.now.rows.coming c.args.entry (contents_of c.args.self.now) c.requires.absent c.requires.form c.args.self.now.formed)

pub invariant_of-self-clause-planned : goal.invariant_of-self-clause-planned
invariant_of-self-clause-planned c =
    let more : length c.put_coming-same.new.self.items ≡ length c.args.self.now.rows.coming + length c.args.self.now.rows.items = ap (λ z. length z) c.put_coming-same.ensures.items ∙ length-puts c.args.self.now.rows.coming c.args.self.now.rows.items in
    omega (arith, c.requires.planner, more)

pub invariant_of-self-clause-indexed : goal.invariant_of-self-clause-indexed
invariant_of-self-clause-indexed c = c.keep.ensures c.args.self.now.rows.items c.put_coming-same.new.self.items c.args.self.now.indexed (sym c.put_coming-same.ensures.same) c.put_coming-same.ensures.within
