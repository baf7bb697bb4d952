use Rattle.vos_pool_make.proofs.Formatting.{formatted_is, never_begun, was_left}
use Rattle.vos_pool_make.proofs.format.format.Goals as goal

pub returns-in-Err-clause-left : goal.returns-in-Err-clause-left
returns-in-Err-clause-left g c = never_begun g.R.Region.extent g.R.Region.count g.R.Region.burns g.R.Region.tells g.R.Region.image g.R.Region.may_leave c.args.target c.args.targets c.args.region c.requires.big c.requires.blank
    c.in-Err.no.region c.in-Err.ensures.left_err

pub returns-in-Ok-write_fresh-clause-formatted : goal.returns-in-Ok-write_fresh-clause-formatted
returns-in-Ok-write_fresh-clause-formatted g c = formatted_is g.R.Region.extent g.R.Region.count g.R.Region.burns g.R.Region.tells g.R.Region.image g.R.Region.may_leave c.args.target c.args.targets c.args.region c.requires.big c.requires.blank
    c.in-Ok.undo c.in-Ok.ensures.begun c.in-Ok.ensures.image c.write_fresh.new.undo c.into_region.result c.into_region.ensures.region
    c.write_fresh.ensures.extent c.write_fresh.ensures.later_faults c.write_fresh.ensures.later_burns c.in-Ok-write_fresh.ensures.committed c.in-Ok-write_fresh.ensures.went_on c.write_fresh.ensures.holds

pub returns-in-Err-write_fresh-clause-left : goal.returns-in-Err-write_fresh-clause-left
returns-in-Err-write_fresh-clause-left g c = was_left g.R.Region.extent g.R.Region.count g.R.Region.burns g.R.Region.tells g.R.Region.image g.R.Region.may_leave c.args.target c.args.targets c.args.region c.requires.big c.requires.blank
    c.in-Ok.undo c.in-Ok.ensures.begun c.in-Ok.ensures.image c.in-Ok.ensures.holds c.write_fresh.new.undo c.into_region-in-Err-write_fresh.result c.into_region-in-Err-write_fresh.ensures.region
    c.write_fresh.ensures.left
