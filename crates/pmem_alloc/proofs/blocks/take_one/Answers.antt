use Rattle.std.proofs.Common.{◌+◌, subst, sym, ◌∙◌, ap}
use Rattle.std.specs.Prelude.{slice_index}
use Rattle.base_outside.specs.Images.{all_over}
use Rattle.pmem_undo.specs.Undo.{UndoState}
use Rattle.pmem_alloc.specs.Map.{MapState, map_place}
use Rattle.pmem_alloc.specs.Blocks.{StagesMap}
use Rattle.pmem_alloc.proofs.Staging.{stages_one, stands_on}
use Rattle.pmem_alloc.proofs.blocks.take_one.Goals as goal

pub returns-clause-staged : goal.returns-clause-staged
returns-clause-staged g c =
    subst (λ (u : UndoState _). StagesMap 1 c.args.undo.now.staged u.staged) (sym c.stage_byte.ensures) (stages_one c.args.undo.now.staged c.least-block.result c.take-byte.result c.least-block.ensures.small)

pub returns-clause-stands : goal.returns-clause-stands
returns-clause-stands g c f stands k below =
    ap (λ (m : MapState). slice_index m.bytes k) c.take-byte.ensures.bytes
    ∙ (stands_on c.args.map.now.bytes c.args.undo.now.staged c.least-block.result c.take-byte.result f c.take-byte.ensures.long c.least-block.ensures.small stands k below
    ∙ ap (λ (u : UndoState _). all_over u.staged f (map_place + k)) (sym c.stage_byte.ensures))
