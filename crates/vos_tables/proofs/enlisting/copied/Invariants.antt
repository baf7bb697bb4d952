use Rattle.std.proofs.Common.{◌≡◌, take}
use Rattle.vos_tables.proofs.enlisting.copied.Given as goal

abbrev pub invariant-loop-place : goal.invariant-loop-place
invariant-loop-place l = l.again.items ≡ take l.place-index l.places
