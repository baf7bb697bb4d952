use Rattle.report_writer.proofs.Joins.{three_added}
use Rattle.report_writer.proofs.text.push_head.Goals as goal

pub returns : goal.returns
returns c = rw (← c.from.ensures) (three_added _ _ _ _ _ _ _ c.in_ok-extend_from_slice.ensures.items c.in_ok-push_number.ensures c.in_ok-push.ensures.items)
