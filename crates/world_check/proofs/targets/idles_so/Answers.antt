use Rattle.std.proofs.Common.{Some}
use Rattle.world_check.proofs.Turning.{idles_either}
use Rattle.world_check.proofs.targets.idles_so.Goals as goal

pub returns : goal.returns
returns c =
    idles_either c.args.plan c.args.before.now c.args.after.now c.args.did.now (Some c.in_ok-early.early) (Some c.in_ok-late.late) c.is_left_if-is_early.result c.is_left_if-is_late.result c.either.result
    c.in_ok-early.ensures c.in_ok-late.ensures c.is_left_if-is_early.ensures c.is_left_if-is_late.ensures c.either.ensures
