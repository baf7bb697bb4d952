-- What the lines of a run tell of each client's commands, whatever its stores tell of what they keep.
use Rattle.std.specs.Prelude.{ℕ, ◌≡◌, ◌<◌, [], length, slice_get, Some, None}
use Rattle.client_core.specs.Clients.{ClientNow}
use Rattle.daos_model.specs.Attempts.{tries_of}
use Rattle.run_laws.specs.shows.Stages.{StageNow}
use Rattle.world_base.specs.Events.{Rules, client_plan}
pub use Rattle.world_closing.specs.Below.{AllBeginInTurn, AreOfNext, BeginsInTurn, HasItsLines}

-- The actors are those of a run by these rules, and so do the lines tell of every client; of nobody else they tell an attempt.
pub record TellInTurn {S C : Type 0} (r : Rules) (a : StageNow S C) : Type 0 where
  pub some_attempt : 0 < r.attempts
  pub many : length a.clients ≡ length r.script.clients
  pub plans : (n : ℕ) (c : ClientNow) → slice_get a.clients n ≡ Some c → c.plan ≡ client_plan r n
  pub told : (n : ℕ) (c : ClientNow) → slice_get a.clients n ≡ Some c → HasItsLines (client_plan r n) n c.state a.between.lines
  pub nobody : (n : ℕ) → slice_get a.clients n ≡ None → tries_of n a.between.lines ≡ []
