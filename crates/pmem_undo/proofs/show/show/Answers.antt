use Rattle.std.proofs.Common.{◌≡◌, ◌∙◌, List, ℕ, take, length, get_or, ap, sym, arith}
use Rattle.base_outside.specs.Images.{Image, Range, over, all_over, bytes_at}
use Rattle.base_outside.specs.ImageLaws.{all_over-push}
use Rattle.pmem_undo.specs.Spans.{range_of, ranges_of}
use Rattle.pmem_undo.proofs.Phases.{ranges_more}
use Rattle.pmem_undo.proofs.show.show.Goals as goal

pub loop-span-preserved : goal.loop-span-preserved
loop-span-preserved c f read =
    let k = c.loop-span.span-index in
    let buffer = c.args.buffer.now in
    let spans = c.args.spans.now in
    let r : Range = range_of buffer (get_or spans k (record { place = 0; start = 0; length = 0 })) in
    let m = ranges_more buffer spans k (omega arith) in
    let so_far = c.loop-span.invariant f read in
    let shown : Image = all_over (ranges_of buffer (take k spans)) f in
    let size : length c.loop-span.buf ≡ length c.args.buf.now = omega arith in
    let laid = c.lay.ensures shown (so_far ∙ ap (λ (n : ℕ). bytes_at shown c.args.at n) (sym size)) in
    laid ∙ (ap (λ (n : ℕ). bytes_at (over r shown) c.args.at n) size ∙ ap (λ (h : Image). bytes_at h c.args.at (length c.args.buf.now)) (sym (all_over-push (ranges_of buffer (take k spans)) r f) ∙ ap (λ (rs : List Range). all_over rs f) (sym m)))
