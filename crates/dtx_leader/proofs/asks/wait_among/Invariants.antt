use Rattle.std.specs.Prelude.{◌≡◌, ◌++◌, map, take, drop}
use Rattle.dtx_base.specs.Asking.{waits_at}
use Rattle.dtx_leader.proofs.asks.wait_among.Given as goal

abbrev pub invariant-loop-row : goal.invariant-loop-row
invariant-loop-row l = take l.row-index l.rows ++ map (waits_at l.attempt l.client) (drop l.row-index l.rows) ≡ map (waits_at l.attempt l.client) l.initial.rows
