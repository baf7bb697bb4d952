use Rattle.std.proofs.lemmas.Result.{err_from_is_err_and}
use Rattle.vos_check_base.proofs.Looking.{read_none}
use Rattle.vos_check.proofs.logs.LogsLevel.thing.Goals as goal

pub returns-in_err-push-clause-stops : goal.returns-in_err-push-clause-stops
returns-in_err-push-clause-stops g c =
    let p = err_from_is_err_and c.from_residual.result c.from_residual.ensures.1 in
    rw (p.1, p.2) (read_none _ _ g.S.Source.looked_none _)

pub returns-clause-stops : goal.returns-clause-stops
returns-clause-stops g c = read_none _ _ g.S.Source.looked_none _
