use Rattle.std.specs.Prelude.{◌≡◌, ◌++◌, drop, filter}
use Rattle.dtx_base.specs.Joining.{is_to_inquire}
use Rattle.dtx_member.proofs.inquiries.to_inquire.Given as goal

abbrev pub invariant-loop-entry : goal.invariant-loop-entry
invariant-loop-entry l = l.asked.items ++ filter (is_to_inquire l.me l.rows) (drop l.entry-index l.entries) ≡ filter (is_to_inquire l.me l.rows) l.entries
