use Rattle.run_tests.proofs.Runs.{new-left}
use Rattle.run_tests.proofs.lone.new_parts.Goals as goal

-- the place that was empty holds the new store
pub returns : goal.returns
returns g c = new-left _ _ _ _ _ c.in_ok-parts.ensures c.set.ensures c.in_ok-store.ensures.durable c.in_ok-store.ensures.state
