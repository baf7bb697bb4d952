use Rattle.vos_places.proofs.Writing.{beyond_stays, conts_written, counters_written, places_stay, snaps_given_up, snaps_written}
use Rattle.vos_places.proofs.laws.places_are_written.Goals as goal

pub returns-clause-conts : goal.returns-clause-conts
returns-clause-conts c = conts_written

pub returns-clause-snaps : goal.returns-clause-snaps
returns-clause-snaps c = snaps_written

pub returns-clause-unused : goal.returns-clause-unused
returns-clause-unused c = snaps_given_up

pub returns-clause-counters : goal.returns-clause-counters
returns-clause-counters c = counters_written

pub returns-clause-others : goal.returns-clause-others
returns-clause-others c = places_stay

pub returns-clause-beyond : goal.returns-clause-beyond
returns-clause-beyond c = beyond_stays
