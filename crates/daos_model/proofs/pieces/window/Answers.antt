use Rattle.std.proofs.Common.{sym, ◌∙◌, ap, rules}
use Rattle.daos_model.specs.Pieces.{index_in, lent, with_index}
use Rattle.daos_model.proofs.PieceSteps.{lent_none, window_more, window_none}
use Rattle.daos_model.proofs.pieces.window.Goals as goal

pub loop-value-init : goal.loop-value-init
loop-value-init c =
    ap lent (c.in_ok-held.ensures.items_if_clones_equal (λ y clone. search rules)) ∙ lent_none c.args.len ∙ sym (window_none c.args.path.now c.args.low c.args.len)

pub loop-value-preserved : goal.loop-value-preserved
loop-value-preserved c =
    c.set_index.ensures
    ∙ ap (λ index. with_index index c.args.low c.value-item.result.bytes (lent c.loop-value.held.items)) c.index_in.ensures
    ∙ ap (with_index (index_in c.args.path.now c.value-item.result) c.args.low c.value-item.result.bytes) c.loop-value.invariant
    ∙ sym (window_more c.args.path.now c.args.low c.args.len c.args.newest_last.now c.loop-value.value-index c.value-item.result c.loop-value-test.true c.value-item.is)
