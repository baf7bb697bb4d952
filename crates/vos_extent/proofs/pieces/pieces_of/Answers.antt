use Rattle.std.proofs.Common.{◌≡◌, ◌∙◌, None, get_or, take, sym, ap, arith}
use Rattle.std.specs.Option.{option_copied}
use Rattle.daos_model.specs.Answers.{record_of}
use Rattle.daos_model.specs.Pieces.{index_after, last_hole, pieces_of}
use Rattle.daos_model.proofs.PieceSteps.{last_hole-index_after, pieces_of-push}
use Rattle.vos_extent.specs.Looks.{record_of_cell, records_of}
use Rattle.vos_extent.proofs.Records.{records_more, sized_record}
use Rattle.vos_extent.proofs.pieces.pieces_of.Goals as goal

pub loop-cell-preserved : goal.loop-cell-preserved
loop-cell-preserved c =
    let o = record_of_cell c.args.unit (get_or c.args.cells.now c.loop-cell.cell-index None) in
    let held : option_copied c.record_of_cell.result ≡ record_of c.args.unit o = c.record_of_cell.ensures.held ∙ sym (sized_record c.args.unit o (option_copied c.record_of_cell.result) c.record_of_cell.ensures.held c.record_of_cell.ensures.size) in
    let made : c.add_index.new.pieces.items ≡ index_after c.loop-cell.pieces.items (record_of c.args.unit o) = c.in_ok-add_index.ensures ∙ ap (index_after c.loop-cell.pieces.items) held in
    record {
      made =
          made
          ∙ ap (λ pieces. index_after pieces (record_of c.args.unit o)) c.loop-cell.invariant.made
          ∙ sym (pieces_of-push c.args.unit (records_of c.args.unit (take c.loop-cell.cell-index c.args.cells.now)) o)
          ∙ ap (pieces_of c.args.unit) (sym (records_more c.args.unit c.args.cells.now c.loop-cell.cell-index c.loop-cell-test.true));
      short =
          let grown : last_hole c.add_index.new.pieces.items ≡ last_hole (index_after c.loop-cell.pieces.items (record_of c.args.unit o)) = ap last_hole made in
          omega (arith, last_hole-index_after c.loop-cell.pieces.items (record_of c.args.unit o));
    }
