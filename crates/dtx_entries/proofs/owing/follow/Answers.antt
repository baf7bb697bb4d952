use Rattle.daos_model.specs.Changes.{is_other}
use Rattle.daos_model.specs.Durables.{entry_key}
use Rattle.daos_model.specs.OrderLaws.{rising-filter}
use Rattle.dtx_entries.proofs.owing.follow.Goals as goal

pub put-requires-clause-rising : goal.put-requires-clause-rising
put-requires-clause-rising c =
    rw c.remove.ensures.items (rising-filter entry_key (is_other c.args.entry.attempt) c.args.owing.now.items c.requires.rising)
