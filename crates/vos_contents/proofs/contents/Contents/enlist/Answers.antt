use Rattle.std.proofs.Common.{◌≡◌, ◌≤◌, ap, ◌∙◌, length, vec_len, arith, rules}
use Rattle.daos_model.specs.Changes.{with_conts}
use Rattle.vos_contents.specs.Contents.{contents_of}
use Rattle.vos_contents.proofs.Kept.{enlisted_is}
use Rattle.vos_contents.proofs.contents.Contents.enlist.Goals as goal

pub invariant_of-self-clause-formed : goal.invariant_of-self-clause-formed
invariant_of-self-clause-formed c =
    let rows : c.in-Ok.rows.items ≡ with_conts c.args.conts.now c.args.self.now.conts.items = c.in-Ok.ensures ∙ ap (with_conts c.args.conts.now) c.deref.ensures.value in
    let len : vec_len c.in-Ok.rows ≡ length c.in-Ok.rows.items = search rules in
    let few : length c.in-Ok.rows.items ≤ 256 = omega (arith, len) in
    enlisted_is c.args.conts.now (contents_of c.args.self.now) c.in-Ok.rows.items rows few c.args.self.now.formed
