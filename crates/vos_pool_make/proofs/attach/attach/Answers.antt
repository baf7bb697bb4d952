use Rattle.vos_pool_make.proofs.Attaching.{attached_is, opened_is}
use Rattle.vos_pool_make.proofs.attach.attach.Goals as goal

pub invariant_of-opened : goal.invariant_of-opened
invariant_of-opened g c = opened_is g.R.Region.extent g.R.Region.tells g.R.Region.count g.R.Region.burns g.R.Region.image g.R.Region.may_leave g.R.Region.moment g.R.Region.left_since
    c.args.target c.args.kept.undo c.args.kept.found c.in-Ok.blocks c.tables_of-tables.result c.requires.held c.tables_of-tables.ensures c.in-Ok.ensures.opened c.in-Ok.ensures.looks
    c.what_is_found_stands.ensures c.size-size.ensures.holds.big c.size-size.ensures.bytes c.requires.found

pub returns-in-Ok-clause-attached : goal.returns-in-Ok-clause-attached
returns-in-Ok-clause-attached g c = attached_is g.R.Region.extent g.R.Region.tells g.R.Region.count g.R.Region.burns g.R.Region.image g.R.Region.may_leave g.R.Region.moment g.R.Region.left_since
    c.args.target c.args.kept.undo c.args.kept.found c.in-Ok.blocks c.tables_of-tables.result c.requires.held c.tables_of-tables.ensures c.in-Ok.ensures.opened c.in-Ok.ensures.looks
    c.what_is_found_stands.ensures c.size-size.ensures.holds.big c.size-size.ensures.bytes
