use Rattle.std.proofs.Common.{sym, ◌∙◌, arith}
use Rattle.vos_check_region.proofs.RangeSteps.{next_far, next_good, next_off, next_out, next_short}
use Rattle.vos_check_region.proofs.ranges.next_range.Goals as goal

pub returns-then-bytes-at-lt8-clause-told : goal.returns-then-bytes-at-lt8-clause-told
returns-then-bytes-at-lt8-clause-told c = sym (next_short c.args.size _ c.args.at c.args.bytes.now c.if-bytes-at-lt8.true)

pub returns-then-not-is_content-clause-told : goal.returns-then-not-is_content-clause-told
returns-then-not-is_content-clause-told c =
    sym (next_off c.args.size _ c.args.at c.from-place.result c.number-long.result c.args.bytes.now (omega arith) (c.from-place.ensures ∙ c.number.ensures) c.number-long.ensures (sym c.is_content.ensures ∙ c.if-not-is_content.true))

pub returns-then-long-bytes-clause-told : goal.returns-then-long-bytes-clause-told
returns-then-long-bytes-clause-told c =
    sym (next_far c.args.size _ c.args.at c.from-place.result c.number-long.result c.args.bytes.now (omega arith) (c.from-place.ensures ∙ c.number.ensures) c.number-long.ensures (sym c.is_content.ensures ∙ c.if-not-is_content.false) (omega arith))

pub returns-then-not-is_content-2-clause-told : goal.returns-then-not-is_content-2-clause-told
returns-then-not-is_content-2-clause-told c =
    sym (next_out c.args.size _ c.args.at c.from-place.result c.number-long.result c.args.bytes.now (omega arith) (c.from-place.ensures ∙ c.number.ensures) c.number-long.ensures (sym c.is_content.ensures ∙ c.if-not-is_content.false) (sym c.is_content-2.ensures ∙ c.if-not-is_content-2.true))

pub returns-clause-told : goal.returns-clause-told
returns-clause-told c =
    sym (next_good c.args.size _ c.args.at c.from-place.result c.number-long.result c.args.bytes.now (omega arith) (c.from-place.ensures ∙ c.number.ensures) c.number-long.ensures (sym c.is_content.ensures ∙ c.if-not-is_content.false) (omega arith) (sym c.is_content-2.ensures ∙ c.if-not-is_content-2.false))
