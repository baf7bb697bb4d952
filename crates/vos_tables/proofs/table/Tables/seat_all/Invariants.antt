use Rattle.std.proofs.Common.{◌≡◌, drop}
use Rattle.daos_model.specs.Changes.{with_conts}
use Rattle.daos_model.specs.Durables.{cont_key}
use Rattle.daos_model.specs.Ordered.{in_order}
use Rattle.vos_places.specs.Tables.{those}
use Rattle.vos_tables.specs.Seats.{AreSeated}
use Rattle.vos_tables.proofs.table.Tables.seat_all.Given as goal

abbrev pub invariant-loop-cont : goal.invariant-loop-cont
invariant-loop-cont l =
    AreSeated l.self l.seating.seats.items l.seating.changes.items
    × (with_conts (drop l.cont-index l.conts) (in_order cont_key (those l.seating.seats.items)) ≡ with_conts l.conts (in_order cont_key (those l.self.conts)))
