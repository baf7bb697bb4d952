use Rattle.std.proofs.Common.{◌≡◌, ◌++◌, take, drop, map}
use Rattle.daos_model.specs.Changes.{created_at}
use Rattle.vos_contents.proofs.tables.create_among.Given as goal

abbrev pub invariant-loop-row : goal.invariant-loop-row
invariant-loop-row l = take l.row-index l.rows ++ map (created_at l.cont l.epoch) (drop l.row-index l.rows) ≡ map (created_at l.cont l.epoch) l.initial.rows
