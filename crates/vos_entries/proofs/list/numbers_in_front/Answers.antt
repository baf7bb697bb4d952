use Rattle.std.proofs.Common.{◌≡◌, ◌+◌, ◌*◌, ◌∙◌, List, ℕ, ◌++◌, get_or, take, sym, ap, arith}
use Rattle.byteorder.specs.Endian.{big_bytes}
use Rattle.vos_entries.proofs.Lists.{one_more_at}
use Rattle.vos_entries.proofs.list.numbers_in_front.Goals as goal

pub loop-node-preserved : goal.loop-node-preserved
loop-node-preserved c =
    let i = c.loop-node.invariant in
    let at : 4 * (c.loop-node.count + 1) ≡ 4 * c.loop-node.count + 4 = omega arith in
    record {
      count = omega (arith, i.count);
      front = ap (λ (z : ℕ). take z c.put_number.new.bytes) at ∙ (c.put_number.ensures ∙ (ap (λ (z : List ℕ). z ++ big_bytes 4 (get_or c.args.nodes.now c.loop-node.node-index 0)) i.front ∙ sym (one_more_at c.loop-node.node-index c.args.nodes.now c.loop-node-test.true)));
    }
