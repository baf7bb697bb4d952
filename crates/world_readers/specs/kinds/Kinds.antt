-- What goes about of reads in a world, and that what lines tell of answers and conditions fits.
use Rattle.std.specs.Prelude.{ℕ, ◌≡◌, ◌+◌, List, slice_get, Some}
use Rattle.base_types.specs.declared.id.AttemptId.{AttemptId}
use Rattle.base_types.specs.declared.operation.Read.{Read}
use Rattle.dtx_base.specs.declared.member.Parked.{Parked}
use Rattle.world_base.specs.declared.client.ClientState.{ClientState}
use Rattle.world_base.specs.declared.target.Life.{Life}
use Rattle.world_base.specs.declared.target.Life.TheVariants.{Down, Running, Stopped}
use Rattle.world_base.specs.declared.target.TargetState.{TargetState}
use Rattle.world_base.specs.declared.world.World.{World}
use Rattle.world_base.specs.Events.{Rules, client_plan}
use Rattle.world_ended.specs.world_letters.kinds.Fitting.{AllAnswersFit, IsFittingClient, Loads}
use Rattle.world_ended.specs.world_letters.kinds.Loads.{letter_load, parked_load, total}

-- what the Fetches carry that wait at a target; at one that doesn't run none waits
abbrev pub parked_while : AttemptId → Read → Life → List Parked → ℕ
parked_while x r Running ps = total (parked_load x r) ps
parked_while x r Stopped ps = 0
parked_while x r Down ps = 0

abbrev pub waiting_load : AttemptId → Read → TargetState → ℕ
waiting_load x r s = parked_while x r s.life s.memory.member.parked

-- what goes about of reads: letters in flight, and Fetches that wait
abbrev pub loads_in : World → Loads
loads_in w = λ x r. total (letter_load x r) w.messages + total (waiting_load x r) w.targets

-- Of each client's attempts nothing goes about but what it waits for: of one that waits for the answer of a read at most one letter, or one
-- Fetch that waits at a target, which is of that read. And all that the lines tell of answers and conditions fits.
pub record AnswersFitInWorld (r : Rules) (w : World) : Type 0 where
  pub clients : (n : ℕ) (c : ClientState) → slice_get w.clients n ≡ Some c → IsFittingClient (client_plan r n) c (loads_in w)
  pub lines : AllAnswersFit r.script w.lines
