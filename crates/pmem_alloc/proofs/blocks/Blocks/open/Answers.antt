use Rattle.std.proofs.Common.{◌≡◌, ◌∙◌, [], ap, sym, subst}
use Rattle.base_outside.specs.Images.{Image, all_over, bytes_at}
use Rattle.pmem_undo.specs.Undo.{UndoState}
use Rattle.pmem_alloc.specs.Map.{MapState, blocks_end, map_place, map_length}
use Rattle.pmem_alloc.specs.Blocks.{HoldsBlocks}
use Rattle.pmem_alloc.proofs.Staging.{is_blocks}
use Rattle.pmem_alloc.proofs.Holding.{holds_opened, when_no_err}
use Rattle.pmem_alloc.proofs.blocks.Blocks.open.Goals as goal

pub invariant_of-result : goal.invariant_of-result
invariant_of-result g c =
    let m = c.new-map.result in
    let none : c.read.new.self.staged ≡ [] = c.read.ensures.staged ∙ ap (λ (u : UndoState _). u.staged) c.drop_stage.ensures.dropped in
    let end : m.end ≡ blocks_end (g.R.Region.extent c.read.new.self.region) = ap (λ (n : MapState). n.end) c.new-map.ensures ∙ (c.blocks_end.ensures.is ∙ ap blocks_end c.size.ensures.size) in
    let read = when_no_err c.read.result c.is_err.result c.is_err.ensures.value c.if-is_err.false c.read.ensures.bytes in
    subst (λ (n : MapState). HoldsBlocks (g.R.Region.extent c.read.new.self.region) g.R.Region.tells (g.R.Region.image c.read.new.self.region) c.read.new.self.staged c.read.new.self.stopped m.bytes n.bytes m.end n.end 0) (sym c.copy-lasting.ensures)
    (holds_opened _ _ _ _ _ m.bytes m.end end none
    (λ t. ap (λ (n : MapState). n.bytes) c.new-map.ensures ∙ (read t ∙ (ap (λ (u : UndoState _). bytes_at (all_over u.staged (g.R.Region.image c.drop_stage.new.self.region)) map_place map_length) c.drop_stage.ensures.dropped
    ∙ ap (λ (f : Image). bytes_at f map_place map_length) (sym (c.read.ensures.looks t).image)))))

pub returns-clause-holds : goal.returns-clause-holds
returns-clause-holds g c = is_blocks _ _ _ _ _ c.new-map.result c.copy-lasting.result 0 (invariant_of-result g c)
