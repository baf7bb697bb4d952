use Rattle.std.proofs.Common.{◌∙◌, filter}
use Rattle.dtx_base.specs.Leading.{is_led}
use Rattle.dtx_table.proofs.Dues.{due-somewhere, somewhere-same}
use Rattle.dtx_table.proofs.batch.is_due.Goals as goal

pub returns : goal.returns
returns c =
    c.is_some_owed.ensures
    ∙ somewhere-same c.args.me c.args.down c.args.named.now c.args.entries.now
    ∙ due-somewhere c.args.down c.args.named.now (filter (is_led c.args.me) c.args.entries.now)
