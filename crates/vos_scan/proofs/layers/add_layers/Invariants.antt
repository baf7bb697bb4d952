use Rattle.std.proofs.Common.{◌≡◌, ◌≤◌, ◌++◌, filter, length, reverse, take}
use Rattle.vos_scan.specs.Layers.{is_layer, lent}
use Rattle.vos_scan.proofs.layers.add_layers.Given as goal

abbrev pub invariant-loop-i : goal.invariant-loop-i
invariant-loop-i l = record {
  within : l.i ≤ length l.rows;
  so_far : lent l.layers.items ++ filter (is_layer l.path l.low l.len l.below.0) (reverse (take l.i l.rows)) ≡ lent l.initial.layers.items ++ filter (is_layer l.path l.low l.len l.below.0) (reverse l.rows);
}

abbrev pub decreases-loop-i : goal.decreases-loop-i
decreases-loop-i l = l.i
