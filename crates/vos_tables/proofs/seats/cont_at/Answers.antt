use Rattle.std.proofs.Common.{sym, subst}
use Rattle.vos_tables.specs.Seats.{FindsCont}
use Rattle.vos_tables.proofs.Places.{cont_absent, cont_seat, cont_somewhere}
use Rattle.vos_tables.proofs.seats.cont_at.Goals as goal

pub returns-in_err-at : goal.returns-in_err-at
returns-in_err-at c = subst (FindsCont c.args.cont c.args.places.now) (sym c.from_residual.ensures) (cont_absent c.args.cont c.args.places.now (sym c.in_err-at.ensures))

pub returns-in_err-row : goal.returns-in_err-row
returns-in_err-row c = cont_somewhere c.args.cont c.args.places.now c.in_ok-at.at (sym c.in_ok-at.ensures) c.in_err-row.was

pub returns : goal.returns
returns c = cont_seat c.args.cont c.args.places.now c.in_ok-at.at c.in_ok-row.row (sym c.in_ok-at.ensures) c.in_ok-row.was
