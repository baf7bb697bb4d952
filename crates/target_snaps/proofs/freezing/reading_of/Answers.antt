use Rattle.target_snaps.proofs.Freezed.{form-of_cont}
use Rattle.target_snaps.proofs.freezing.reading_of.Goals as goal

pub returns-clause-form : goal.returns-clause-form
returns-clause-form c = form-of_cont c.args.cont
