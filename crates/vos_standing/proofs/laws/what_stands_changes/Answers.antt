use Rattle.vos_standing.proofs.Standing.{stands_after_counters, fits_stay, stands_after_blocks, stands_after_conts, stands_after_snaps, stands_below_the_roots, stands_without_snaps}
use Rattle.vos_standing.proofs.laws.what_stands_changes.Goals as goal

pub returns-clause-blocks : goal.returns-clause-blocks
returns-clause-blocks c = stands_after_blocks

pub returns-clause-below : goal.returns-clause-below
returns-clause-below c = stands_below_the_roots

pub returns-clause-counters : goal.returns-clause-counters
returns-clause-counters c = stands_after_counters

pub returns-clause-conts : goal.returns-clause-conts
returns-clause-conts c = stands_after_conts

pub returns-clause-snaps : goal.returns-clause-snaps
returns-clause-snaps c = stands_after_snaps

pub returns-clause-unused : goal.returns-clause-unused
returns-clause-unused c = stands_without_snaps

pub returns-clause-fits : goal.returns-clause-fits
returns-clause-fits c = fits_stay
