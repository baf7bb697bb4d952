use Rattle.std.proofs.Common.{◌≡◌, ◌++◌, take, drop, map}
use Rattle.daos_model.specs.Changes.{raised_at}
use Rattle.vos_contents.proofs.tables.raise_among.Given as goal

abbrev pub invariant-loop-row : goal.invariant-loop-row
invariant-loop-row l = take l.row-index l.rows ++ map (raised_at l.cont l.epoch l.why) (drop l.row-index l.rows) ≡ map (raised_at l.cont l.epoch l.why) l.initial.rows
