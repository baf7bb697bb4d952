use Rattle.std.proofs.Common.{◌≡◌, ◌+◌, ◌-◌, ◌*◌, ◌/◌, ◌∙◌, ℕ, None, get_or, length, take, drop, sym, ap, arith}
use Rattle.vos_extent.specs.Cells.{dated_in, dated_with}
use Rattle.vos_extent.proofs.Painting.{record_inside, so_far_first, so_far_next}
use Rattle.vos_extent.proofs.cells.paint.Goals as goal

pub loop-i-init : goal.loop-i-init
loop-i-init c = record {
  so_far = so_far_first c.args.unit c.args.first c.args.low c.args.moment c.args.bytes.now c.args.cells.now _ (omega arith);
  from = omega arith;
}

pub nth_record-requires : goal.nth_record-requires
nth_record-requires c =
    let i = c.loop-i.invariant in
    let size : c.from-size.result ≡ c.args.unit = c.from-size.ensures in
    let same : length c.args.bytes.now / c.from-size.result ≡ length c.args.bytes.now / c.args.unit = ap (λ k. length c.args.bytes.now / k) size in
    let a = c.loop-i-test.true in
    let b = c.min-to.ensures in
    let d = c.saturating_sub.ensures in
    record_inside (c.from-in-loop-i.result + c.loop-i.i - c.from-in-loop-i-2.result) c.from-size.result (length c.args.bytes.now) (let e = i.from in omega (arith, a, b, d, e, c.from.ensures, c.from-2.ensures, c.from-in-loop-i.ensures, c.from-in-loop-i-2.ensures))

pub loop-i-preserved : goal.loop-i-preserved
loop-i-preserved c =
    let i = c.loop-i.invariant in
    let size : c.from-size.result ≡ c.args.unit = c.from-size.ensures in
    let same : length c.args.bytes.now / c.from-size.result ≡ length c.args.bytes.now / c.args.unit = ap (λ k. length c.args.bytes.now / k) size in
    let a = c.loop-i-test.true in
    let b = c.min-to.ensures in
    let d = c.saturating_sub.ensures in
    let e = i.from in
    let number : ℕ = c.from-in-loop-i.result + c.loop-i.i - c.from-in-loop-i-2.result in
    let is : number ≡ c.args.first + c.loop-i.i - c.args.low = omega (arith, c.from-in-loop-i.ensures, c.from-in-loop-i-2.ensures) in
    let held : c.nth_record.result.now ≡ take c.args.unit (drop (number * c.args.unit) c.args.bytes.now) = c.nth_record.ensures.held ∙ ap (λ k. take k (drop (number * k) c.args.bytes.now)) size in
    let long : c.args.unit ≡ length c.nth_record.result.now = sym (c.nth_record.ensures.long ∙ size) in
    let made : dated_in c.args.unit c.later.result ≡ dated_with (dated_in c.args.unit (get_or c.loop-i.cells c.loop-i.i None)) (c.args.moment, c.nth_record.result.now) = c.later.ensures c.args.unit long in
    record {
      so_far = so_far_next c.args.unit c.args.first c.args.low c.args.moment c.args.bytes.now c.args.cells.now c.loop-i.i number c.loop-i.cells c.later.result i.so_far (omega (arith, a, b)) e
          (omega (arith, a, b, d, same, c.from.ensures, c.from-2.ensures)) is (made ∙ ap (λ r. dated_with (dated_in c.args.unit (get_or c.loop-i.cells c.loop-i.i None)) (c.args.moment, r)) held);
      from = omega (arith, e);
    }
