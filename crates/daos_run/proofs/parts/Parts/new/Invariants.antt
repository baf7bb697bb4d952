use Rattle.daos_run.proofs.Slots.{AreNone}
use Rattle.daos_run.proofs.parts.Parts.new.Given as goal

-- so many places without anything, and there is room for all
abbrev pub invariant-loop : goal.invariant-loop
invariant-loop g l = AreNone l.slots.items l.counter l.targets l.slots.cap
