use Rattle.std.proofs.Common.{◌≡◌, take}
use Rattle.daos_model.specs.Accesses.{minor_writes}
use Rattle.client_moves.proofs.asks.minor_writes.Given as goal

-- the writes so far
abbrev pub invariant-loop-i : goal.invariant-loop-i
invariant-loop-i l = l.writes.items ≡ minor_writes 0 (take l.i l.ops)
