use Rattle.run_laws.specs.turns.Numbers.{all-told_are_counted, orders-tell_all, turns-tell_all}
use Rattle.run_laws.proofs.turns.laws_of_numbers.Goals as goal

pub returns : goal.returns
returns c = record { turns = turns-tell_all; orders = orders-tell_all; counted = all-told_are_counted }
