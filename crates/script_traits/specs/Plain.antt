-- Scripts without snapshots.
use Rattle.std.specs.Prelude.{◌≡◌, ℕ, Bool, true, false, ◌&&◌, ◌==◌, List, length, is_none}
use Rattle.std.specs.List.{list_all}
use Rattle.base_types.specs.declared.script.Command.{Command}
use Rattle.base_types.specs.declared.script.Command.TheVariants.{Aggregate, Run, Skip, Snap, Tell}
use Rattle.base_types.specs.declared.script.Script.{Script}

-- a command without snapshots: a transaction that reads at none, a tracker that is told, or turns that are skipped
abbrev pub is_plain_command : Command → Bool
is_plain_command (Run ops skips snapshot) = is_none snapshot
is_plain_command (Snap name cont) = false
is_plain_command (Aggregate cont) = false
is_plain_command (Tell client) = true
is_plain_command (Skip turns) = true

abbrev pub are_plain : List Command → Bool
are_plain list = list_all is_plain_command list

-- a script without snapshots: it names none of before, and so drops none; it makes none, reads at none, and aggregates nothing
unfoldable pub is_plain : Script → Bool
is_plain s = length s.olds == 0 && list_all are_plain s.clients

abbrev pub IsPlain : Script → Type 0
IsPlain s = is_plain s ≡ true
