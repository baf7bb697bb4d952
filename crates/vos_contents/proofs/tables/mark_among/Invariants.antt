use Rattle.std.proofs.Common.{◌≡◌, ◌++◌, take, drop, map}
use Rattle.daos_model.specs.Changes.{marked_at}
use Rattle.vos_contents.proofs.tables.mark_among.Given as goal

abbrev pub invariant-loop-row : goal.invariant-loop-row
invariant-loop-row l = take l.row-index l.rows ++ map (marked_at l.cont l.upto l.number) (drop l.row-index l.rows) ≡ map (marked_at l.cont l.upto l.number) l.initial.rows
