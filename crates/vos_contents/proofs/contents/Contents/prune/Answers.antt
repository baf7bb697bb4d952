use Rattle.std.proofs.Common.{◌≡◌, ◌≤◌, ap, sym, ◌∙◌, subst, filter, length, arith}
use Rattle.daos_model.specs.Durables.{IsInForm}
use Rattle.daos_model.specs.FormLaws.{length-map, pruned-in_form}
use Rattle.daos_model.specs.Prunes.{is_going, is_staying}
use Rattle.vos_contents.specs.Contents.{contents_of}
use Rattle.vos_contents.proofs.Kept.{fewer_versions, pruned_is, swept_by}
use Rattle.vos_contents.proofs.contents.Contents.prune.Goals as goal

pub sweep-requires : goal.sweep-requires
sweep-requires c = ap (λ z. length z) (c.marks.ensures ∙ c.mark_going.ensures.marks) ∙ length-map (is_going c.args.cont c.args.upto c.rows.result.now c.deref.result.now) c.rows.result.now ∙ ap (λ z. length z) c.rows.ensures

pub invariant_of-self-clause-formed : goal.invariant_of-self-clause-formed
invariant_of-self-clause-formed c =
    let rows : c.sweep.new.self.items ≡ filter (is_staying c.args.cont c.args.upto (contents_of c.args.self.now)) c.args.self.now.rows.items = swept_by c.args.cont c.args.upto (contents_of c.args.self.now) c.rows.result.now c.deref.result.now c.mark_going.new.self.marks c.marks.result.now c.sweep.new.self.items c.mark_going.ensures.marks c.rows.ensures c.deref.ensures.value c.marks.ensures c.sweep.ensures in
    subst IsInForm (sym (pruned_is c.args.cont c.args.upto c.args.number (contents_of c.args.self.now) c.mark.new.rows.items c.sweep.new.self.items c.mark.ensures rows))
    (pruned-in_form c.args.cont c.args.upto c.args.number (contents_of c.args.self.now) c.args.self.now.formed)

pub returns-clause-kept : goal.returns-clause-kept
returns-clause-kept c =
    let rows : c.sweep.new.self.items ≡ filter (is_staying c.args.cont c.args.upto (contents_of c.args.self.now)) c.args.self.now.rows.items = swept_by c.args.cont c.args.upto (contents_of c.args.self.now) c.rows.result.now c.deref.result.now c.mark_going.new.self.marks c.marks.result.now c.sweep.new.self.items c.mark_going.ensures.marks c.rows.ensures c.deref.ensures.value c.marks.ensures c.sweep.ensures in
    pruned_is c.args.cont c.args.upto c.args.number (contents_of c.args.self.now) c.mark.new.rows.items c.sweep.new.self.items c.mark.ensures rows

pub invariant_of-self-clause-planned : goal.invariant_of-self-clause-planned
invariant_of-self-clause-planned c =
    let rows : c.sweep.new.self.items ≡ filter (is_staying c.args.cont c.args.upto (contents_of c.args.self.now)) c.args.self.now.rows.items = swept_by c.args.cont c.args.upto (contents_of c.args.self.now) c.rows.result.now c.deref.result.now c.mark_going.new.self.marks c.marks.result.now c.sweep.new.self.items c.mark_going.ensures.marks c.rows.ensures c.deref.ensures.value c.marks.ensures c.sweep.ensures in
    let few : length c.sweep.new.self.items ≤ length c.args.self.now.rows.items = fewer_versions c.args.self.now.rows.items c.sweep.new.self.items (is_staying c.args.cont c.args.upto (contents_of c.args.self.now)) rows in
    omega (arith, c.args.self.now.planned, few, c.mark_going.ensures.room)

pub invariant_of-self-clause-indexed : goal.invariant_of-self-clause-indexed
invariant_of-self-clause-indexed c = c.forget.ensures c.sweep.new.self.items
