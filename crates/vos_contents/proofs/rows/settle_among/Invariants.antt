use Rattle.std.proofs.Common.{◌≡◌, ◌++◌, take, drop, map}
use Rattle.daos_model.specs.Versions.{done_by}
use Rattle.vos_contents.proofs.rows.settle_among.Given as goal

abbrev pub invariant-loop-row : goal.invariant-loop-row
invariant-loop-row l = take l.row-index l.rows ++ map (done_by l.attempt) (drop l.row-index l.rows) ≡ map (done_by l.attempt) l.initial.rows
