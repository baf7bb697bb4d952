-- How a list of events starts.
use Rattle.std.specs.Prelude.{ℕ, ◌≡◌, ◌≤◌, ◌+◌, true, List, count_by, drop, is_some, slice_get}
use Rattle.client_core.specs.Clients.{has_number}
use Rattle.base_types.specs.declared.script.Command.{Command}
use Rattle.base_types.specs.declared.script.Script.{Script}
use Rattle.base_types.specs.Scripts.{is_numbered}
use Rattle.world_base.specs.declared.client.ClientState.{ClientState}
use Rattle.world_base.specs.Events.{commands_or_none}

-- the commands of a client
abbrev pub commands_of : Script → ℕ → List Command
commands_of s n = commands_or_none (slice_get s.clients n)

-- a client of these commands has come as far as its numbers say
pub record HasPlace (commands : List Command) (c : ClientState) : Type 0 where
  pub few : c.command + count_by is_numbered (drop c.place commands) ≤ 100000
  pub numbered : is_some c.present ≡ true → has_number (slice_get commands c.place) ≡ true
