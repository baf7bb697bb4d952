use Rattle.std.specs.Prelude.{◌≡◌, ◌+◌, ◌-◌, ◌≤◌, drop, length, vec_len, vec_capacity}
use Rattle.dtx_base.specs.Joining.{with_inquiries_for}
use Rattle.dtx_member.proofs.inquiries.put_all.Given as goal

abbrev pub invariant-loop-entry : goal.invariant-loop-entry
invariant-loop-entry l = record {
  room : vec_len l.rows + (length l.entries - l.entry-index) ≤ vec_capacity l.rows;
  so_far : with_inquiries_for (drop l.entry-index l.entries) l.rows.items ≡ with_inquiries_for l.entries l.initial.rows.items;
}
