use Rattle.std.proofs.Common.{refl}
use Rattle.vos_pool_read.proofs.Quiet.{goes_nowhere, quiet_step}
use Rattle.vos_pool_stage.proofs.Lifting.{still_same}
use Rattle.vos_pool_read.proofs.reading.read_pool.Goals as goal

pub returns-then-is_stopped-clause-quiet : goal.returns-then-is_stopped-clause-quiet
returns-then-is_stopped-clause-quiet g c =
    let p = c.args.opened in
    quiet_step g.R.Region.extent g.R.Region.count g.R.Region.burns g.R.Region.tells g.R.Region.image g.R.Region.may_leave p p (still_same g.R.Region.extent g.R.Region.tells g.R.Region.image g.R.Region.may_leave p.blocks) refl refl (goes_nowhere g.R.Region.count g.R.Region.burns p.blocks)
