use Rattle.std.proofs.Common.{◌≡◌, take}
use Rattle.std.specs.Prelude.{count_by}
use Rattle.base_types.specs.Scripts.{is_numbered}
use Rattle.world_check.proofs.starts.count_numbered.Given as goal

abbrev pub invariant-loop-command : goal.invariant-loop-command
invariant-loop-command l = l.count ≡ count_by is_numbered (take l.command-index l.commands)
