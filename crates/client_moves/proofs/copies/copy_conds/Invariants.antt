use Rattle.std.proofs.Common.{◌≡◌, take}
use Rattle.client_moves.proofs.copies.copy_conds.Given as goal

-- those so far
abbrev pub invariant-loop-cond : goal.invariant-loop-cond
invariant-loop-cond l = l.copied.items ≡ take l.cond-index l.conds
