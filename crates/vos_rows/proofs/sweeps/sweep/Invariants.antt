use Rattle.std.proofs.Common.{◌≡◌, ◌≤◌, ◌++◌, take, drop, vec_len, vec_capacity}
use Rattle.vos_rows.specs.Sweeps.{unmarked}
use Rattle.vos_rows.proofs.sweeps.sweep.Given as goal

-- what stays of the rows so far is at the front, and the others are as they were
abbrev pub invariant-loop-i : goal.invariant-loop-i
invariant-loop-i l = record {
  behind : l.kept ≤ l.i;
  len : vec_len l.rows ≡ vec_len l.initial.rows;
  capacity : vec_capacity l.rows ≡ vec_capacity l.initial.rows;
  items : take l.kept l.rows.items ++ unmarked (drop l.i l.marks) (drop l.i l.rows.items) ≡ unmarked l.marks l.initial.rows.items;
}
