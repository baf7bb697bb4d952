use Rattle.std.proofs.Common.{◌≡◌, ◌++◌, take, drop, map}
use Rattle.daos_model.specs.Changes.{confirmed_at}
use Rattle.vos_contents.proofs.tables.confirm_among.Given as goal

abbrev pub invariant-loop-row : goal.invariant-loop-row
invariant-loop-row l = take l.row-index l.rows ++ map (confirmed_at l.attempt l.member) (drop l.row-index l.rows) ≡ map (confirmed_at l.attempt l.member) l.initial.rows
