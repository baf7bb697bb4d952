use Rattle.std.specs.Prelude.{◌≡◌, ◌++◌, ◌+◌, ◌-◌, ◌≤◌, drop, take, filter, map, vec_len, vec_capacity}
use Rattle.dtx_base.specs.Joining.{is_parked_elsewhere, is_parked_on, parked_ask}
use Rattle.dtx_member.proofs.parked.free_all.Given as goal

abbrev pub invariant-loop-i : goal.invariant-loop-i
invariant-loop-i l = record {
  within : l.i ≤ vec_len l.rows;
  room : vec_len l.again + (vec_len l.rows - l.i) ≤ vec_capacity l.again;
  freed : l.again.items ++ map parked_ask (filter (is_parked_on l.on) (drop l.i l.rows.items)) ≡ l.initial.again.items ++ map parked_ask (filter (is_parked_on l.on) l.initial.rows.items);
  left : take l.i l.rows.items ++ filter (is_parked_elsewhere l.on) (drop l.i l.rows.items) ≡ filter (is_parked_elsewhere l.on) l.initial.rows.items;
}

abbrev pub decreases-loop-i : goal.decreases-loop-i
decreases-loop-i l = vec_len l.rows - l.i
