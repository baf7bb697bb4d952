use Rattle.std.proofs.Common.{Err, ap}
use Rattle.daos_app.proofs.Refusals.{same_error}
use Rattle.daos_app.proofs.daos.run_daos.Goals as goal

pub returns-in-Err-clause-words : goal.returns-in-Err-clause-words
returns-in-Err-clause-words g c fault =
    let told = c.in-Err.ensures.words fault in
    (λ is. told.0 (ap (λ status. Err status) is), λ refused. same_error (told.1 refused))
