use Rattle.std.specs.Prelude.{◌≡◌, ◌++◌, map, take, drop}
use Rattle.dtx_base.specs.Leading.{counted_at}
use Rattle.dtx_leader.proofs.answers.count_among.Given as goal

abbrev pub invariant-loop-row : goal.invariant-loop-row
invariant-loop-row l = take l.row-index l.rows ++ map (counted_at l.attempt l.member) (drop l.row-index l.rows) ≡ map (counted_at l.attempt l.member) l.initial.rows
