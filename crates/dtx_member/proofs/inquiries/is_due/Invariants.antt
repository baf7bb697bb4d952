use Rattle.std.specs.Prelude.{◌≡◌, drop}
use Rattle.std.specs.List.{list_any}
use Rattle.dtx_base.specs.Joining.{is_to_inquire}
use Rattle.dtx_member.proofs.inquiries.is_due.Given as goal

abbrev pub invariant-loop-entry : goal.invariant-loop-entry
invariant-loop-entry l = list_any (is_to_inquire l.me l.rows) (drop l.entry-index l.entries) ≡ list_any (is_to_inquire l.me l.rows) l.entries
