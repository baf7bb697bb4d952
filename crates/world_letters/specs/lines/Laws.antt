-- What holds of the lines of a run.
use Rattle.std.specs.Prelude.{ℕ, ◌≡◌, All, slice_get, Some}
use Rattle.daos_model.specs.Attempts.{tries_of}
use Rattle.daos_model.specs.Order.{AllInTurn}
use Rattle.world_base.specs.declared.client.ClientState.{ClientState}
use Rattle.world_base.specs.declared.world.World.{World}
use Rattle.world_letters.specs.clients.Answered.{EndsAsAnswered}
use Rattle.world_base.specs.Events.{Rules, client_plan}
use Rattle.world_letters.specs.lines.LastLines.{AreDone, HasClients}
use Rattle.world_letters.specs.lines.Lines.{Lines}

-- the lines of each client end as they were answered
abbrev pub LinesEndAsAnswered : Type 0
LinesEndAsAnswered = (r : Rules) (w : World) (n : ℕ) (c : ClientState) → Lines r w → slice_get w.clients n ≡ Some c → All (EndsAsAnswered (client_plan r n)) (tries_of n w.lines)

-- when all clients are done, their lines stand in the order of their commands and attempts
abbrev pub LastLinesAreInTurn : Type 0
LastLinesAreInTurn = (r : Rules) (w : World) → Lines r w → AreDone r w → HasClients r w → AllInTurn r.attempts r.script w.lines
