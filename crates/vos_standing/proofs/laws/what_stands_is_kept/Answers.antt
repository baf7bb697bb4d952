use Rattle.vos_standing.proofs.Standing.{what_stands_is_kept, what_stands_stands}
use Rattle.vos_standing.proofs.laws.what_stands_is_kept.Goals as goal

pub returns-clause-stands : goal.returns-clause-stands
returns-clause-stands c = what_stands_stands

pub returns-clause-kept : goal.returns-clause-kept
returns-clause-kept c = what_stands_is_kept
