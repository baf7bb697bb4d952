use Rattle.std.proofs.Common.{◌≡◌, drop}
use Rattle.std.specs.Prelude.{find}
use Rattle.vos_scan.specs.Layers.{covers_at, lent}
use Rattle.vos_scan.proofs.layers.newest_at.Given as goal

abbrev pub invariant-loop-layer : goal.invariant-loop-layer
invariant-loop-layer l = find (covers_at l.index) (lent (drop l.layer-index l.layers)) ≡ find (covers_at l.index) (lent l.layers)
