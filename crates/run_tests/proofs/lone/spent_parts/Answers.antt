use Rattle.run_tests.proofs.Spent.{spent-left}
use Rattle.run_tests.proofs.lone.spent_parts.Goals as goal

pub returns-in-Ok : goal.returns-in-Ok
returns-in-Ok g c = spent-left _ _ c.in_ok-store.store c.extend_lease-extended.new.self _ _ c.in_ok-parts.ensures c.set.ensures c.in_ok-store.ensures.durable c.in-Ok.ensures.kept.done
