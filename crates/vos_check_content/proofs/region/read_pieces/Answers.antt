use Rattle.std.proofs.Common.{◌≡◌, ◌∙◌, ◌<◌, ℕ, List, length, replicate, ap, subst, arith}
use Rattle.std.specs.Prelude.{slice_index}
use Rattle.std.proofs.lemmas.List.{get_or-replicate}
use Rattle.base_outside.specs.Images.{Image, bytes_at}
use Rattle.vos_check_content.specs.Region.{IsPieceRead, region_content}
use Rattle.vos_check_content.proofs.PieceSteps.{on_ok, pieces_read}
use Rattle.vos_check_content.proofs.region.read_pieces.Goals as goal

pub returns-clause-bytes : goal.returns-clause-bytes
returns-clause-bytes g c =
    let f = g.R.Region.image c.args.undo.now.region in
    let at = c.args.at in
    let n = length c.args.buf.now in
    let size = g.R.Region.extent c.args.undo.now.region in
    let zeros = c.fill.new.self in
    on_ok c.piece-3.result c.piece-3.ensures.bytes (λ last told.
    let one = (c.in_ok-piece.ensures.stops.looks.only told).image in
    let two = (c.in_ok-piece-2.ensures.stops.looks.only told).image ∙ one in
    let fill : zeros ≡ replicate n 0 = c.fill.ensures.after (λ y h. h) in
    let long : length zeros ≡ n = c.fill.ensures.len in
    let b2 = subst (λ (z : Image). IsPieceRead z at 32769 36864 c.piece.new.buf c.piece-2.new.buf) one (c.in_ok-piece-2.ensures.bytes told) in
    let b3 = subst (λ (z : Image). IsPieceRead z at 307200 c.size-size.result c.piece-2.new.buf c.piece-3.new.buf) two (last told) in
    let b4 = subst (λ (m : ℕ). IsPieceRead f at 307200 m c.piece-2.new.buf c.piece-3.new.buf) c.size-size.ensures.size b3 in
    pieces_read size at f zeros c.piece.new.buf c.piece-2.new.buf c.piece-3.new.buf c.size-size.ensures.holds.big c.piece.auto.buf (c.piece-2.auto.buf ∙ c.piece.auto.buf) (c.piece-3.auto.buf ∙ (c.piece-2.auto.buf ∙ c.piece.auto.buf))
    (λ i low. let below : i < n = omega (arith, low, long) in ap (λ (z : List ℕ). slice_index z i) fill ∙ get_or-replicate n i 0 0 below)
    (c.in_ok-piece.ensures.bytes told) b2 b4 ∙ ap (bytes_at (region_content size f) at) long)
