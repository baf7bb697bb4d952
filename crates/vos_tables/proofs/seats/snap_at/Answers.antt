use Rattle.std.proofs.Common.{sym, subst}
use Rattle.vos_tables.specs.Seats.{FindsSnap}
use Rattle.vos_tables.proofs.Places.{snap_absent, snap_seat, snap_somewhere}
use Rattle.vos_tables.proofs.seats.snap_at.Goals as goal

pub returns-in_err-at : goal.returns-in_err-at
returns-in_err-at c = subst (FindsSnap c.args.cont c.args.s c.args.places.now) (sym c.from_residual.ensures) (snap_absent c.args.cont c.args.s c.args.places.now (sym c.in_err-at.ensures))

pub returns-in_err-snap : goal.returns-in_err-snap
returns-in_err-snap c = snap_somewhere c.args.cont c.args.s c.args.places.now c.in_ok-at.at (sym c.in_ok-at.ensures) c.in_err-snap.was

pub returns : goal.returns
returns c = snap_seat c.args.cont c.args.s c.args.places.now c.in_ok-at.at c.in_ok-snap.snap (sym c.in_ok-at.ensures) c.in_ok-snap.was
