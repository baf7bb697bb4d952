use Rattle.std.specs.Prelude.{◌≡◌, ◌++◌, map, take, drop}
use Rattle.dtx_base.specs.Leading.{unwaited_at}
use Rattle.dtx_leader.proofs.resets.unwait_among.Given as goal

abbrev pub invariant-loop-row : goal.invariant-loop-row
invariant-loop-row l = take l.row-index l.rows ++ map (unwaited_at l.attempt) (drop l.row-index l.rows) ≡ map (unwaited_at l.attempt) l.initial.rows
