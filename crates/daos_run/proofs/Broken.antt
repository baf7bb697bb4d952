-- What stands where a run gives no report.
use Rattle.std.specs.Prelude.{List, IfErr, Ok, Err, Result}
use Rattle.std.proofs.Common.{inl}
use Rattle.daos_model.specs.declared.durable.Durable.{Durable}
use Rattle.daos_model.specs.Opening.{Given}
use Rattle.daos_run.specs.Comes.{BreaksOff}
use Rattle.run_starts.specs.run_opening.All.{MayBeFound}
use Rattle.run_starts.specs.run_opening.Left.{IsLeftOf}
use Rattle.run_starts.specs.Starts.{MayOpenAgain}

-- the stores are as an opening left them
pub left-off : (g : Given) (B lasts : List Durable) → IsLeftOf g.script B lasts → MayOpenAgain B lasts → BreaksOff g B lasts
left-off g B lasts left again = record { stand = inl left; opens = again.opens }

-- whatever the reason
pub whatever-stopped : {S T E : Type 0} (may : S → Durable → Type 0) (g : Given) (B : List Durable) (new : List S) (r : Result T E) → ((lasts : List Durable) → MayBeFound may new lasts → BreaksOff g B lasts)
    → IfErr r (λ stop. (lasts : List Durable) → MayBeFound may new lasts → BreaksOff g B lasts)
whatever-stopped may g B new (Ok value) k = tt
whatever-stopped may g B new (Err stop) k = k
