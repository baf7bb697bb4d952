use Rattle.run_base.specs.Sweeps.{lives-tell_downs, none-is_swept, sweeping-is_done, sweeps-are_of_lives}
use Rattle.run_base.proofs.sweeping.laws_of_sweeps.Goals as goal

pub returns : goal.returns
returns c = record { downs = lives-tell_downs; lives = sweeps-are_of_lives; none = none-is_swept; done = sweeping-is_done }
