use Rattle.run_laws.specs.turns.Staying.{events-stay, orders-stay, turns-stay}
use Rattle.run_laws.proofs.turns.laws_of_actors.Goals as goal

pub returns : goal.returns
returns c = record { events = events-stay; turns = turns-stay; orders = orders-stay }
