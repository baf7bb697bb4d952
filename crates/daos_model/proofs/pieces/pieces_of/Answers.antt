use Rattle.std.proofs.Common.{◌≡◌, take, sym, ◌∙◌, ap, arith}
use Rattle.std.specs.Option.{option_copied}
use Rattle.daos_model.specs.Answers.{record_of}
use Rattle.daos_model.specs.Pieces.{index_after, last_hole, lent, pieces_of}
use Rattle.daos_model.proofs.PieceSteps.{last_hole-index_after, lent_more, pieces_of-push}
use Rattle.daos_model.proofs.pieces.pieces_of.Goals as goal

pub loop-bytes-preserved : goal.loop-bytes-preserved
loop-bytes-preserved c =
    let made : c.add_index.new.pieces.items ≡ index_after c.loop-bytes.pieces.items (record_of c.args.size (option_copied c.bytes-item.result)) =
    c.in_ok-add_index.ensures ∙ ap (index_after c.loop-bytes.pieces.items) c.record_of.ensures in
    record {
      made =
          made
          ∙ ap (λ pieces. index_after pieces (record_of c.args.size (option_copied c.bytes-item.result))) c.loop-bytes.invariant.made
          ∙ sym (pieces_of-push c.args.size (lent (take c.loop-bytes.bytes-index c.args.held.now)) (option_copied c.bytes-item.result))
          ∙ ap (pieces_of c.args.size) (sym (lent_more c.args.held.now c.loop-bytes.bytes-index c.bytes-item.result c.loop-bytes-test.true c.bytes-item.is));
      short =
          let grown : last_hole c.add_index.new.pieces.items ≡ last_hole (index_after c.loop-bytes.pieces.items (record_of c.args.size (option_copied c.bytes-item.result))) =
          ap last_hole made in
          omega (arith, last_hole-index_after c.loop-bytes.pieces.items (record_of c.args.size (option_copied c.bytes-item.result)));
    }
