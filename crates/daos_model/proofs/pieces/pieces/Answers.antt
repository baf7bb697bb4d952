use Rattle.std.proofs.Common.{◌≡◌, ◌∙◌, List, subst, length, reverse, sym, ap, arith}
use Rattle.std.specs.Prelude.{IfOk}
use Rattle.base_types.specs.declared.answer.Piece.{Piece}
use Rattle.daos_model.specs.Pieces.{lent, pieces_of, window}
use Rattle.daos_model.proofs.PieceSteps.{length-lent, length-window, pieces-window}
use Rattle.daos_model.proofs.pieces.pieces.Goals as goal

pub pieces_of-requires : goal.pieces_of-requires
pieces_of-requires c =
    let long : length c.as_slice.result.now ≡ c.args.len =
    ap length c.as_slice.ensures.value ∙ sym (length-lent c.in_ok-held.held.items) ∙ ap length c.in_ok-held.ensures
    ∙ length-window c.args.path.now c.args.low c.args.len (reverse c.args.newest_last.now) in
    omega arith

pub returns : goal.returns
returns c =
    let P : List Piece → Type 0 = λ ps. IfOk c.pieces_of.result (λ made. made.items ≡ ps) in
    subst P
    (ap (pieces_of c.record_size.result) (ap lent c.as_slice.ensures.value ∙ c.in_ok-held.ensures)
    ∙ ap (λ size. pieces_of size (window c.args.path.now c.args.low c.args.len (reverse c.args.newest_last.now))) c.record_size.ensures
    ∙ sym (pieces-window c.args.path.now c.args.low c.args.len (reverse c.args.newest_last.now)))
    c.pieces_of.ensures
