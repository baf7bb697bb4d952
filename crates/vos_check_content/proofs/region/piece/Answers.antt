use Rattle.std.proofs.Common.{◌≡◌, ◌-◌, ◌∙◌, List, length, drop, ap, arith}
use Rattle.std.proofs.lemmas.List.{length-drop, length-take}
use borrow.Rule.Slice.PartMut.{mid_of}
use Rattle.base_outside.specs.Images.{Range, all_over, bytes_at}
use Rattle.vos_check_content.proofs.PieceSteps.{on_ok, piece_some}
use Rattle.vos_check_content.proofs.region.piece.Goals as goal

pub returns-clause-bytes : goal.returns-clause-bytes
returns-clause-bytes g c =
    let at = c.args.at in
    let buf = c.args.buf.now in
    let from = c.max-from.result in
    let to = c.min-to.result in
    let k = to - at - (from - at) in
    let f = g.R.Region.image c.args.undo.now.region in
    on_ok c.read.result c.read.ensures.bytes (λ read told.
    let long : length (mid_of (from - at) k buf) ≡ k = omega (arith, length-take k (drop (from - at) buf), length-drop (from - at) buf) in
    let bytes = read told ∙ (ap (λ (s : List Range). bytes_at (all_over s f) from (length (mid_of (from - at) k buf))) c.requires.unstaged ∙ ap (bytes_at f from) long) in
    piece_some f at c.args.low c.args.high from to k buf c.read.new.buf (omega arith) (omega arith) (omega arith) (omega arith) bytes)
