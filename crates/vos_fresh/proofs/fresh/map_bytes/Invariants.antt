use Rattle.std.proofs.Common.{◌≡◌}
use Rattle.base_outside.specs.Images.{bytes_at}
use Rattle.vos_fresh.specs.Fresh.{map_byte}
use Rattle.vos_fresh.proofs.fresh.map_bytes.Given as goal

abbrev pub invariant-loop-at : goal.invariant-loop-at
invariant-loop-at l = l.bytes.items ≡ bytes_at (map_byte l.size) 0 l.at
