use Rattle.std.proofs.Common.{◌≡◌, ◌*◌, take}
use Rattle.vos_entries.specs.Entries.{list_bytes}
use Rattle.vos_entries.proofs.list.numbers_in_front.Given as goal

-- the numbers so far stand in front
abbrev pub invariant-loop-node : goal.invariant-loop-node
invariant-loop-node l = record {
  count : l.count ≡ l.node-index;
  front : take (4 * l.count) l.bytes ≡ list_bytes (take l.node-index l.nodes);
}
