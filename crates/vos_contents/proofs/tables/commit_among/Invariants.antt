use Rattle.std.proofs.Common.{◌≡◌, ◌++◌, take, drop, map}
use Rattle.daos_model.specs.Changes.{committed_at}
use Rattle.vos_contents.proofs.tables.commit_among.Given as goal

abbrev pub invariant-loop-row : goal.invariant-loop-row
invariant-loop-row l = take l.row-index l.rows ++ map (committed_at l.attempt) (drop l.row-index l.rows) ≡ map (committed_at l.attempt) l.initial.rows
