use Rattle.std.proofs.Common.{◌≡◌, ◌<◌, drop}
use Rattle.vos_scan.specs.Chains.{hashed}
use Rattle.vos_scan.proofs.places.hashed.Given as goal

abbrev pub invariant-loop-byte : goal.invariant-loop-byte
invariant-loop-byte l = record {
  is : hashed l.made (drop l.byte-index l.bytes) ≡ hashed l.number l.bytes;
  within : l.made < 1024;
}
