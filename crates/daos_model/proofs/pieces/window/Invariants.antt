use Rattle.std.proofs.Common.{◌≡◌, reverse, take}
use Rattle.daos_model.specs.Pieces.{lent, window}
use Rattle.daos_model.proofs.pieces.window.Given as goal

-- what the indexes hold by the values so far
abbrev pub invariant-loop-value : goal.invariant-loop-value
invariant-loop-value l = lent l.held.items ≡ window l.path l.low l.len (reverse (take l.value-index l.newest_last))
