use Rattle.std.proofs.Common.{◌≡◌, nat_lt, true, false, sym, arith}
use Rattle.std.proofs.lemmas.Bool.Decides.{nat_tests}
use Rattle.vos_tables.proofs.Reading.{floor_told}
use Rattle.vos_tables.proofs.table.Tables.floor.Goals as goal

pub returns-then-opening-row-clause-floor : goal.returns-then-opening-row-clause-floor
returns-then-opening-row-clause-floor c =
    let below : nat_lt c.args.opening.0.0 c.row-row.result.floor.0 ≡ true = grind (arith, nat_tests) in
    λ vs es. sym (floor_told c.args.self.now c.args.opening c.args.cont c.row-row.result true c.row-row.ensures.row below vs es)

pub returns-else-opening-row-clause-floor : goal.returns-else-opening-row-clause-floor
returns-else-opening-row-clause-floor c =
    let above : nat_lt c.args.opening.0.0 c.row-row.result.floor.0 ≡ false = grind (arith, nat_tests) in
    λ vs es. sym (floor_told c.args.self.now c.args.opening c.args.cont c.row-row.result false c.row-row.ensures.row above vs es)
