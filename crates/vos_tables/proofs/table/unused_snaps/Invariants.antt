use Rattle.std.proofs.Common.{◌≡◌, ◌≤◌, ◌-◌, None, length, replicate}
use Rattle.vos_tables.proofs.table.unused_snaps.Given as goal

abbrev pub invariant-loop-places : goal.invariant-loop-places
invariant-loop-places l = (l.places.items ≡ replicate (length l.places.items) None) × (length l.places.items ≤ 256)

abbrev pub decreases-loop-places : goal.decreases-loop-places
decreases-loop-places l = 256 - length l.places.items
