use Rattle.std.proofs.Common.{◌≡◌, ◌≤◌, take, filter, vec_len, vec_capacity}
use Rattle.dtx_entries.specs.Owing.{is_owing}
use Rattle.dtx_entries.proofs.owing.find_owing.Given as goal

abbrev pub invariant-loop-row : goal.invariant-loop-row
invariant-loop-row l = record { items : l.owing.items ≡ filter (is_owing l.me) (take l.row-index l.rows); few : vec_len l.owing ≤ l.row-index; capacity : vec_capacity l.fn.owing ≤ vec_capacity l.owing }
