-- Which messages are about snapshots and aggregations.
use Rattle.std.specs.Prelude.{Bool, true, false}
use Rattle.base_messages.specs.declared.message.Message.{Message, more_of-Message}
use Rattle.base_messages.specs.declared.message.Message.TheVariants as message

-- a message asks for a snapshot or an aggregation, or tells of one
abbrev pub is_of_snapshots : Message → Bool
is_of_snapshots (message.Snap x cont name tracker) = true
is_of_snapshots (message.Freeze x cont e) = true
is_of_snapshots (message.Held x refusal) = true
is_of_snapshots (message.Prune x cont tracker e) = true
is_of_snapshots m = false

-- or tells that such a one got no answer
abbrev pub tells_of_snapshots : Message → Bool
tells_of_snapshots (message.Reset' by down place (more_of-Message q rest)) = is_of_snapshots q
tells_of_snapshots m = is_of_snapshots m
