use Rattle.vos_small.proofs.Fitting.{changes_fit, entries_fit_in, entries_fit_out, marks_fit, writes_fit}
use Rattle.vos_small.proofs.laws.writes_fit.Goals as goal

pub returns-clause-writes : goal.returns-clause-writes
returns-clause-writes c = writes_fit

pub returns-clause-changes : goal.returns-clause-changes
returns-clause-changes c = changes_fit

pub returns-clause-comes : goal.returns-clause-comes
returns-clause-comes c = entries_fit_in

pub returns-clause-goes : goal.returns-clause-goes
returns-clause-goes c = entries_fit_out

pub returns-clause-marks : goal.returns-clause-marks
returns-clause-marks c = marks_fit
