use Rattle.std.proofs.Common.{sym, ap, ◌∙◌, arith, ℕ}
use Rattle.base_outside.specs.Images.{Image, bytes_at}
use Rattle.pmem_undo.specs.Log.{number_in}
use Rattle.vos_check_region.specs.Fault.{ranges_fault}
use Rattle.vos_check_region.proofs.Faults.{many_bytes, many_ranges, ranges_judged}
use Rattle.vos_check_region.proofs.log.log_fault.Goals as goal

pub returns-then-count-gt-MOST_RANGES-clause-told : goal.returns-then-count-gt-MOST_RANGES-clause-told
returns-then-count-gt-MOST_RANGES-clause-told g c t = sym (many_ranges (g.R.Region.extent c.args.region.now) c.in_ok-count.count (g.R.Region.image c.args.region.now) (c.in_ok-count.ensures.number t) c.if-count-gt-MOST_RANGES.true)

pub returns-then-long-count-clause-told : goal.returns-then-long-count-clause-told
returns-then-long-count-clause-told g c t =
    let f = g.R.Region.image c.args.region.now in
    let two = c.in_ok-long.ensures.number t ∙ ap (λ (z : Image). number_in (bytes_at z 36868 4)) (c.number_at.ensures.looks t).image in
    sym (many_bytes (g.R.Region.extent c.args.region.now) c.in_ok-count.count c.in_ok-long.long f (c.in_ok-count.ensures.number t) two c.if-count-gt-MOST_RANGES.false (omega arith))

pub returns-clause-told : goal.returns-clause-told
returns-clause-told g c t =
    let f = g.R.Region.image c.args.region.now in
    let one = (c.number_at.ensures.looks t).image in
    let next = (c.number_at-2.ensures.looks t).image in
    let two = c.in_ok-long.ensures.number t ∙ ap (λ (z : Image). number_in (bytes_at z 36868 4)) one in
    let bytes = c.in_ok-body.ensures.bytes t ∙ ap (λ (z : Image). bytes_at z 36872 c.in_ok-long.long) (next ∙ one) in
    let size = c.size.ensures.size ∙ (c.body.ensures.extent ∙ (c.number_at-2.ensures.extent ∙ c.number_at.ensures.extent)) in
    c.ranges_fault.ensures.told
    ∙ (ap (λ (n : ℕ). ranges_fault n c.in_ok-count.count 36872 c.deref.result.now) size
    ∙ sym (ranges_judged (g.R.Region.extent c.args.region.now) c.in_ok-count.count c.in_ok-long.long f c.deref.result.now (c.in_ok-count.ensures.number t) two c.if-count-gt-MOST_RANGES.false (omega arith) (c.deref.ensures.value ∙ bytes)))
