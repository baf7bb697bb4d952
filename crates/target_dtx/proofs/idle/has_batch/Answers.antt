use Rattle.std.proofs.Common.{◌∙◌}
use Rattle.dtx_table.proofs.Owing.{due-owing}
use Rattle.target_dtx.proofs.idle.has_batch.Goals as goal

pub returns : goal.returns
returns c =
    c.has_batch.ensures
    ∙ due-owing c.args.seat c.owing.result.now c.args.entries.now.items c.args.leader.now c.owing.ensures
