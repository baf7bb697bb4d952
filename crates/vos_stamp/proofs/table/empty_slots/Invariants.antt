use Rattle.std.proofs.Common.{◌≡◌, ℕ, length}
use Rattle.vos_stamp.specs.Marks.{no_marks}
use Rattle.vos_stamp.specs.Raised.{slot_marks}
use Rattle.vos_stamp.proofs.table.empty_slots.Given as goal

abbrev pub invariant-loop : goal.invariant-loop
invariant-loop l = (length l.slots.items ≡ l.counter) × ((i : ℕ) → slot_marks l.slots.items i ≡ no_marks)
