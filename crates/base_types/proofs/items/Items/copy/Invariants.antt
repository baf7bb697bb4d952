use Rattle.std.proofs.Common.{◌≡◌, take}
use Rattle.base_types.proofs.items.Items.copy.Given as goal

abbrev pub invariant-loop-value : goal.invariant-loop-value
invariant-loop-value g l = l.vec.items ≡ take l.value-index l.value-items
