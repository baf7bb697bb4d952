use Rattle.std.proofs.Common.{subst, sym, List, []}
use Rattle.daos_regions.specs.declared.piece.Piece.{Piece}
use Rattle.daos_regions.specs.declared.piece.Stretch.{Stretch}
use Rattle.daos_regions.specs.Periods.{HoldsDisk, periods_of, ranges_of}
use Rattle.daos_regions.proofs.Holding.{holds_new}
use Rattle.daos_regions.proofs.disk.Disk.new.Goals as goal

pub invariant_of-result : goal.invariant_of-result
invariant_of-result c =
    subst (λ (past : List Stretch). HoldsDisk c.in_ok-zeros.field-0.items c.in_ok-zeros-2.field-0.items (periods_of past) (ranges_of c.new-2.result.items)) (sym c.new.ensures.items)
    (subst (λ (unflushed : List Piece). HoldsDisk c.in_ok-zeros.field-0.items c.in_ok-zeros-2.field-0.items [] (ranges_of unflushed)) (sym c.new-2.ensures.items)
    (holds_new c.args.size c.in_ok-zeros.field-0.items c.in_ok-zeros-2.field-0.items c.in_ok-zeros.ensures c.in_ok-zeros-2.ensures))
