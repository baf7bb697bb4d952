use Rattle.std.proofs.Common.{◌≡◌, drop}
use Rattle.base_types.specs.Hash.{hash_on}
use Rattle.vos_aggregate.proofs.buckets.hash_on.Given as goal

abbrev pub invariant-loop-byte : goal.invariant-loop-byte
invariant-loop-byte l = hash_on l.hash (drop l.byte-index l.bytes) ≡ hash_on l.start l.bytes
