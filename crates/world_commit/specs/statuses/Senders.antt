-- What else holds of letters, of which these laws make use.
use Rattle.std.specs.Prelude.{◌≡◌}
use Rattle.model_laws.specs.Members.{Has}
use Rattle.base_messages.specs.declared.actor.ActorId.{ActorId}
use Rattle.base_messages.specs.declared.message.Message.{Message}
use Rattle.base_messages.specs.declared.message.Message.TheVariants as message
use Rattle.world_base.specs.declared.letter.Letter.{Letter}
use Rattle.world_base.specs.declared.world.World.{World}
use Rattle.world_base.specs.Letters.{client, target}

-- a Fetch and an Ask come from their attempt's client, and a Reset from the target of which it tells
abbrev pub IsSentRightly : ActorId → Message → Type 0
IsSentRightly from (message.Fetch x op group ep first tracker r snapshot) = from ≡ client x.client
IsSentRightly from (message.Ask x) = from ≡ client x.client
IsSentRightly from (message.Reset' by down place more) = from ≡ target by
IsSentRightly from m = Unit {0}

-- so it is of all letters in flight
abbrev pub SendersAreRight : World → Type 0
SendersAreRight w = (l : Letter) → Has l w.messages → IsSentRightly l.from l.message
