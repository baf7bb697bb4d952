use Rattle.std.proofs.Common.{◌∷◌, [], refl, rules}
use Rattle.vos_values.proofs.Filling.{link_filled}
use Rattle.vos_values.proofs.links.put_parts.Goals as goal

pub returns : goal.returns
returns c =
    let a = c.copy_from_slice.ensures.after in
    let b = c.copy_from_slice-2.ensures.after in
    let d = c.copy_from_slice-3.ensures.after in
    let w = link_filled c.args.to.now (8 ∷ 0 ∷ 0 ∷ 0 ∷ []) c.args.next.now c.args.tail.now (search rules) refl (search rules) (search rules) in
    rw (a, b, d) w
