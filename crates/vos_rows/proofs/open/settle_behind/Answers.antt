use Rattle.std.proofs.Common.{◌-◌, ◌∙◌, ap, length, take, arith}
use Rattle.std.specs.List.{list_all}
use Rattle.vos_rows.specs.Tables.{is_done}
use Rattle.vos_rows.proofs.Settled.{done-settled, settled-behind}
use Rattle.vos_rows.proofs.open.settle_behind.Goals as goal

pub returns-clause-rows : goal.returns-clause-rows
returns-clause-rows c = settled-behind c.args.attempt c.args.settled (length c.args.rows.now - c.args.settled) c.args.rows.now c.settle_among.new.rows (omega (arith, c.requires.within)) c.settle_among.ensures c.requires.done

pub returns-clause-done : goal.returns-clause-done
returns-clause-done c =
    ap (λ xs. list_all is_done (take c.args.settled xs)) (settled-behind c.args.attempt c.args.settled (length c.args.rows.now - c.args.settled) c.args.rows.now c.settle_among.new.rows (omega (arith, c.requires.within)) c.settle_among.ensures c.requires.done)
    ∙ done-settled c.args.attempt c.args.settled c.args.rows.now c.requires.done
