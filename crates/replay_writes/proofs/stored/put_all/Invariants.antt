use Rattle.std.proofs.Common.{◌≡◌, ◌+◌, ◌≤◌, vec_len, vec_capacity}
use Rattle.daos_model.specs.Durables.{version_key}
use Rattle.daos_model.specs.Ordered.{puts}
use Rattle.replay_writes.proofs.stored.put_all.Given as goal

abbrev pub invariant-loop-row : goal.invariant-loop-row
invariant-loop-row l = record {
  fits : vec_len l.rows + vec_len l.new ≤ vec_capacity l.rows;
  items : puts version_key l.new.items l.rows.items ≡ puts version_key l.initial.new.items l.initial.rows.items;
}

abbrev pub decreases-loop-row : goal.decreases-loop-row
decreases-loop-row l = vec_len l.new
