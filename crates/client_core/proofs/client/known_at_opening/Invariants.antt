use Rattle.std.proofs.Common.{◌≡◌, take}
use Rattle.world_base.specs.ClientTurns.{known_at_opening}
use Rattle.client_core.proofs.client.known_at_opening.Given as goal

-- of the declarations so far
abbrev pub invariant-loop-old : goal.invariant-loop-old
invariant-loop-old l = l.known.items ≡ known_at_opening (take l.old-index l.olds) l.opening
