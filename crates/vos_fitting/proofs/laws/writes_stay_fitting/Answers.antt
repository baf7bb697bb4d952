use Rattle.vos_fitting.proofs.Writes.{fits_after_write, fits_with_write}
use Rattle.vos_fitting.proofs.laws.writes_stay_fitting.Goals as goal

pub returns-clause-comes : goal.returns-clause-comes
returns-clause-comes c = fits_with_write

pub returns-clause-turns : goal.returns-clause-turns
returns-clause-turns c = fits_after_write
