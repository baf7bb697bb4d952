use Rattle.std.proofs.Common.{◌≡◌, ◌≤◌, ◌++◌, filter, length, map, reverse, take}
use Rattle.vos_scan.specs.Chains.{IsWalk, akey_place, left, version_place}
use Rattle.vos_scan.specs.Layers.{is_layer, lent}
use Rattle.vos_scan.proofs.layers.add_chained.Given as goal

abbrev pub invariant-loop-left : goal.invariant-loop-left
invariant-loop-left l = record {
  within : l.left ≤ length l.rows;
  is : l.left ≡ left l.walk;
  walk : IsWalk (map version_place l.rows) (akey_place l.path) l.left l.walk;
  so_far : lent l.layers.items ++ filter (is_layer l.path l.low l.len l.below.0) (reverse (take l.left l.rows)) ≡ lent l.initial.layers.items ++ filter (is_layer l.path l.low l.len l.below.0) (reverse l.rows);
}

abbrev pub decreases-loop-left : goal.decreases-loop-left
decreases-loop-left l = l.left
