use Rattle.std.proofs.Common.{sym, ◌∙◌, ap, ◌++◌}
use Rattle.daos_model.specs.Accesses.{minor_write}
use Rattle.client_moves.proofs.Writes.{writes_more, writes_none}
use Rattle.client_moves.proofs.asks.minor_writes.Goals as goal

pub loop-i-init : goal.loop-i-init
loop-i-init c = c.new-writes.ensures.items ∙ sym writes_none

pub loop-i-preserved : goal.loop-i-preserved
loop-i-preserved c =
    let op = c.index-ops-i.result in
    c.in_ok-put_written.ensures
    ∙ ap (λ ws. ws ++ minor_write c.loop-i.i op.act) c.loop-i.invariant
    ∙ sym (writes_more c.args.ops.now c.loop-i.i op c.loop-i-test.true c.index-ops-i.is)
