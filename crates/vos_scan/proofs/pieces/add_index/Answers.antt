use Rattle.std.proofs.Common.{◌≡◌, List, ◌∙◌, ap, subst, sym, arith}
use Rattle.std.specs.Prelude.{OnOk}
use Rattle.std.specs.Option.{option_copied}
use Rattle.base_types.specs.declared.answer.Piece.{Piece}
use Rattle.daos_model.specs.Pieces.{hole_length, index_after, last_hole}
use Rattle.daos_model.proofs.PieceSteps.{index_after-push, last_hole-push}
use Rattle.vos_scan.proofs.pieces.add_index.Goals as goal

pub add_after-requires : goal.add_after-requires
add_after-requires c =
    let same : last_hole c.args.pieces.now.items ≡ hole_length c.in-Some.last =
    ap last_hole c.in-Some.ensures.items ∙ last_hole-push c.pop.new.self.items c.in-Some.last in
    omega arith

pub returns-in-Some : goal.returns-in-Some
returns-in-Some c =
    let P : List Piece → Type 0 = λ ps. OnOk c.add_after.result (c.add_after.new.pieces.items ≡ ps) in
    subst P (sym (ap (λ ps. index_after ps (option_copied c.args.held)) c.in-Some.ensures.items ∙ index_after-push c.pop.new.self.items c.in-Some.last (option_copied c.args.held))) c.add_after.ensures
