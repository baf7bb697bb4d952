use Rattle.run_laws.specs.turns.OrderLaws.{orders-are-runs, orders-end-quiet, orders-have-ended, turns-hear}
use Rattle.run_laws.proofs.turns.laws_of_orders.Goals as goal

pub returns : goal.returns
returns c = record { runs = orders-are-runs; quiet = orders-end-quiet; ended = orders-have-ended; hear = turns-hear }
