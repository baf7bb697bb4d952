use Rattle.std.proofs.Common.{◌≡◌, ◌++◌, drop, flat_map}
use Rattle.report_writer.specs.Values.{hex_byte}
use Rattle.report_writer.proofs.values.push_hex.Given as goal

abbrev pub invariant-loop-byte : goal.invariant-loop-byte
invariant-loop-byte l = l.out.items ++ flat_map hex_byte (drop l.byte-index l.bytes) ≡ l.initial.out.items ++ flat_map hex_byte l.bytes
