use Rattle.vos_places.proofs.Apart.{rows_change, rows_come, snaps_change, snaps_come, snaps_go}
use Rattle.vos_places.proofs.laws.tables_stay_apart.Goals as goal

pub returns-clause-change : goal.returns-clause-change
returns-clause-change c = rows_change

pub returns-clause-come : goal.returns-clause-come
returns-clause-come c = rows_come

pub returns-clause-snap_change : goal.returns-clause-snap_change
returns-clause-snap_change c = snaps_change

pub returns-clause-snap_go : goal.returns-clause-snap_go
returns-clause-snap_go c = snaps_go

pub returns-clause-snap_come : goal.returns-clause-snap_come
returns-clause-snap_come c = snaps_come
