use Rattle.std.proofs.Common.{All, take}
use Rattle.client_core.specs.Clients.{CommandFits}
use Rattle.world_check.proofs.starts.commands_fit.Given as goal

abbrev pub invariant-loop-command : goal.invariant-loop-command
invariant-loop-command l = All (CommandFits l.targets) (take l.command-index l.commands)
