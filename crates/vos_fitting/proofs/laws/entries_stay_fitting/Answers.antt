use Rattle.vos_fitting.proofs.Entries.{fits_committed, fits_confirmed, fits_with_entry, fits_without_entry, members_are_targets}
use Rattle.vos_fitting.proofs.laws.entries_stay_fitting.Goals as goal

pub returns-clause-comes : goal.returns-clause-comes
returns-clause-comes c = fits_with_entry

pub returns-clause-committed : goal.returns-clause-committed
returns-clause-committed c = fits_committed

pub returns-clause-confirmed : goal.returns-clause-confirmed
returns-clause-confirmed c = fits_confirmed

pub returns-clause-gone : goal.returns-clause-gone
returns-clause-gone c = fits_without_entry

pub returns-clause-members : goal.returns-clause-members
returns-clause-members c = members_are_targets
