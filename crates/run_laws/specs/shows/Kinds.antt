-- What goes about of reads at a moment of a run, and that what the lines tell of answers and conditions fits.
use Rattle.std.specs.Prelude.{ℕ, ◌≡◌, ◌≤◌, ◌+◌, List, [], ◌∷◌, slice_get, Some}
use Rattle.base_types.specs.declared.id.AttemptId.{AttemptId}
use Rattle.base_types.specs.declared.operation.Read.{Read}
use Rattle.client_core.specs.Clients.{ClientNow}
use Rattle.dtx_base.specs.declared.member.MemberMemory.{MemberMemory}
use Rattle.run_base.specs.Letters.{BetweenNow}
use Rattle.run_laws.specs.shows.InTurn.{TellInTurn}
use Rattle.run_laws.specs.shows.Stages.{StageNow}
use Rattle.target_core.specs.Targets.{TargetOf}
use Rattle.world_base.specs.declared.did.Did.{Did}
use Rattle.world_base.specs.declared.target.Life.{Life}
use Rattle.world_base.specs.declared.target.Life.TheVariants.{Down, Running, Stopped}
use Rattle.world_base.specs.Events.{Rules, client_plan}
use Rattle.world_letters.specs.kinds.Fitting.{AllAnswersFit, IsFittingClient, Loads}
use Rattle.world_letters.specs.kinds.Loads.{letter_load, parked_load, post_load, total}

-- of no read more goes about behind a target's turn than before it
abbrev pub TurnsOnce : BetweenNow → BetweenNow → MemberMemory → MemberMemory → Did → Type 0
TurnsOnce b left before after did =
    (x : AttemptId) (r : Read) → total (post_load x r) did.posts + total (parked_load x r) after.parked + total (letter_load x r) left.messages ≤ total (parked_load x r) before.parked + total (letter_load x r) b.messages

-- what the Fetches carry that wait at a target; at one that doesn't run none waits
abbrev pub waiting_load : {S C : Type 0} → AttemptId → Read → Life → TargetOf S C → ℕ
waiting_load x r Running t = total (parked_load x r) t.memory.member.parked
waiting_load x r Stopped t = 0
waiting_load x r Down t = 0

abbrev pub waiting_loads : {S C : Type 0} → AttemptId → Read → List Life → List (TargetOf S C) → ℕ
waiting_loads x r [] ts = 0
waiting_loads x r (l ∷ ls) [] = 0
waiting_loads x r (l ∷ ls) (t ∷ ts) = waiting_load x r l t + waiting_loads x r ls ts

-- what goes about of reads: letters in flight, and Fetches that wait
abbrev pub loads_of : {S C : Type 0} → StageNow S C → Loads
loads_of a = λ x r. total (letter_load x r) a.between.messages + waiting_loads x r a.watch.lives a.targets

-- The lines tell in turn; of each client's attempts nothing goes about but what it waits for; and all that the lines tell fits.
pub record AnswersGoOn {S C : Type 0} (r : Rules) (a : StageNow S C) : Type 0 where
  pub in_turn : TellInTurn r a
  pub clients : (n : ℕ) (c : ClientNow) → slice_get a.clients n ≡ Some c → IsFittingClient (client_plan r n) c.state (loads_of a)
  pub lines : AllAnswersFit r.script a.between.lines
