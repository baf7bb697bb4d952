use Rattle.std.proofs.Common.{◌∙◌, sym, arith}
use Rattle.pmem_undo.proofs.Parsing.{next_read, none_short, none_long, none_off}
use Rattle.pmem_undo.proofs.restore.next_span.Goals as goal

pub returns-then-bytes-at-lt8-clause-none : goal.returns-then-bytes-at-lt8-clause-none
returns-then-bytes-at-lt8-clause-none c n = none_short c.args.size n c.args.at c.args.bytes.now (omega arith)

pub returns-then-length-bytes-clause-none : goal.returns-then-length-bytes-clause-none
returns-then-length-bytes-clause-none c n =
    none_long c.args.size n c.args.at c.args.bytes.now c.number_at-length.result (omega arith) (omega arith) (omega arith)

pub returns-then-not-lies_in_content-clause-none : goal.returns-then-not-lies_in_content-clause-none
returns-then-not-lies_in_content-clause-none c n =
    none_off c.args.size n c.args.at c.args.bytes.now c.from-place.result c.number_at-length.result (omega arith) (omega arith) (omega arith) (sym c.lies_in_content.ensures ∙ c.if-not-lies_in_content.true)

pub returns-clause-told : goal.returns-clause-told
returns-clause-told c n =
    next_read c.args.size n c.args.at c.args.bytes.now c.from-place.result c.number_at-length.result (omega arith) (omega arith) (omega arith) (sym c.lies_in_content.ensures ∙ c.if-not-lies_in_content.false)
