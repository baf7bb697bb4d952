use Rattle.run_base.specs.Quiet.{quiet-has-ended, quiet-skips-none}
use Rattle.run_base.proofs.schedule.laws_of_quiet.Goals as goal

pub returns : goal.returns
returns c = record { ended = quiet-has-ended; awake = quiet-skips-none }
