use Rattle.std.proofs.Common.{◌≡◌, ◌+◌, ◌-◌, ℕ, suc, sym, ap, ◌∙◌, arith}
use Rattle.vos_check_region.specs.Fault.{ranges_fault}
use Rattle.vos_check_region.proofs.RangeSteps.{fault_left, fault_none, fault_off, fault_on}
use Rattle.vos_check_region.proofs.ranges.ranges_fault.Goals as goal

pub loop-range-init : goal.loop-range-init
loop-range-init c = record { inside = omega arith; told = λ left e. let same : left ≡ c.args.count = omega (arith, e) in ap (λ n. ranges_fault c.args.size n 36872 c.args.bytes.now) same }

pub loop-range-preserved : goal.loop-range-preserved
loop-range-preserved c =
    let l = c.loop-range in
    record {
      inside = omega (arith, c.in-Ok.ensures.fits);
      told = λ left e. sym (fault_on c.args.size left l.at c.in-Ok.long c.args.bytes.now c.in-Ok.ensures.told) ∙ l.invariant.told (suc left) (omega (arith, e));
    }

pub returns-in-Err-clause-told : goal.returns-in-Err-clause-told
returns-in-Err-clause-told c =
    let l = c.loop-range in
    let left : ℕ = c.args.count - (l._range + 1) in
    sym (fault_off c.args.size left l.at c.in-Err.place c.args.bytes.now c.in-Err.ensures.told) ∙ l.invariant.told (suc left) (omega arith)

pub returns-then-at-bytes-clause-told : goal.returns-then-at-bytes-clause-told
returns-then-at-bytes-clause-told c = let l = c.loop-range in sym (fault_left c.args.size l.at (36872 + l.at) c.args.bytes.now (omega arith)) ∙ l.invariant.told 0 (omega arith)

pub returns-clause-told : goal.returns-clause-told
returns-clause-told c = let l = c.loop-range in sym (fault_none c.args.size l.at (36872 + l.at) c.args.bytes.now (omega arith)) ∙ l.invariant.told 0 (omega arith)
