use Rattle.std.proofs.Common.{ap, subst, List, arith}
use Rattle.std.specs.Prelude.{MatchBool}
use Rattle.base_outside.specs.Images.{Range}
use Rattle.pmem_undo.specs.Undo.{UndoState, HasRoom, IsTooMuch}
use Rattle.pmem_undo.proofs.Undoing.{room_told}
use Rattle.pmem_undo.proofs.undo_region.UndoRegion.has_room.Goals as goal

pub returns : goal.returns
returns g c =
    let e = ap (λ (u : UndoState _). u.staged) c.self.view_is in
    subst (λ (rs : List Range). MatchBool c.is_room.result (HasRoom rs c.args.bytes) (IsTooMuch rs c.args.bytes)) e
    (room_told _ c.self.inside.staged.items c.self.inside.spans.items _ _ _ c.args.bytes c.is_room.result c.self.invariant.0
    (λ t. let r = c.is_room.ensures.0 t in (omega (arith, r.0), omega (arith, r.1)), λ r. c.is_room.ensures.1 (omega (arith, r.0), omega (arith, r.1))))
