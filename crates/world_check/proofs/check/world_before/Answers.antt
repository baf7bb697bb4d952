use Rattle.std.proofs.Common.{◌≡◌, ◌∙◌, ◌+◌, ◌-◌, ◌<◌, ap, arith, length, sym}
use Rattle.world_check.proofs.Sorting.{before_next}
use Rattle.world_check.proofs.check.world_before.Goals as goal

pub returns-else-i-eq0 : goal.returns-else-i-eq0
returns-else-i-eq0 c =
    let some = c.if-i-eq0.false in
    let same_length = ap length c.as_slice.ensures in
    let within = c.requires in
    let next : c.args.i - 1 + 1 ≡ c.args.i = omega (arith, some) in
    let lt : c.args.i - 1 < length c.as_slice.result.now = omega (arith, some, same_length, within) in
    ap (λ e. e.after) (sym c.index-as_slice-i.is)
    ∙ before_next c.args.events.now.start c.args.events.now.list c.as_slice.result.now c.args.i (c.args.i - 1) c.index-as_slice-i.result c.as_slice.ensures next lt c.index-as_slice-i.is
