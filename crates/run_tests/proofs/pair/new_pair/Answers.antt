use Rattle.run_tests.proofs.Pairs.{pair-ready}
use Rattle.run_tests.proofs.pair.new_pair.Goals as goal

-- the places that were empty hold the new stores
pub returns : goal.returns
returns c = pair-ready _ _ _ _ (record { durable = c.in_ok-first.ensures.durable; fails = _; state = c.in_ok-first.ensures.state }) (record { durable = c.in_ok-second.ensures.durable; fails = _; state = c.in_ok-second.ensures.state }) _ _ _ c.in_ok-parts.ensures c.set.ensures c.set-2.ensures
