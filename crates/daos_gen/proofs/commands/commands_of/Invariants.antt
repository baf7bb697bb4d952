use Rattle.std.proofs.Common.{◌≡◌}
use Rattle.base_random.specs.Draws.{drawn_after}
use Rattle.daos_gen.specs.Commands.{commands_of}
use Rattle.daos_gen.proofs.commands.commands_of.Given as goal

abbrev pub invariant-loop-i : goal.invariant-loop-i
invariant-loop-i l = record { so_far : l.commands ≡ commands_of l.targets l.i l.client; number : l.number ≡ drawn_after 1 l.i }
