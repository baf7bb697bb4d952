use Rattle.vos_pool_make.proofs.Making.{left_of, made_blank, made_of, on_err, on_ok, on_ok_then, refused_of, seen_blank, seen_kept}
use Rattle.vos_pool_make.proofs.make.open_region.Goals as goal

pub returns-in-Ok-Kept-clause-made : goal.returns-in-Ok-Kept-clause-made
returns-in-Ok-Kept-clause-made g c = on_ok c.open_found.result _ _ _ (λ a made same. made_of g.R.Region.extent g.R.Region.count g.R.Region.burns g.R.Region.tells g.R.Region.image g.R.Region.may_leave c.args.target c.args.targets
    c.args.region c.in-Ok-Kept.kept.undo c.in-Ok-Kept.kept.found (seen_kept g.R.Region.extent g.R.Region.count g.R.Region.burns g.R.Region.tells g.R.Region.image g.R.Region.may_leave c.args.target c.args.targets c.args.region c.in-Ok-Kept.field-0 c.in-Ok-Kept.kept c.in-Ok-Kept.field-0-is c.in-Ok-Kept.ensures.seen) a.opened a.entries.items made same) c.open_found.ensures.made c.open_found.ensures.entries

pub returns-in-Ok-Kept-clause-refused : goal.returns-in-Ok-Kept-clause-refused
returns-in-Ok-Kept-clause-refused g c = on_err c.open_found.result _ _ (λ e is k. refused_of g.R.Region.extent g.R.Region.count g.R.Region.burns g.R.Region.tells g.R.Region.image g.R.Region.may_leave c.args.target c.args.targets
    c.args.region c.in-Ok-Kept.kept.undo c.in-Ok-Kept.kept.found (seen_kept g.R.Region.extent g.R.Region.count g.R.Region.burns g.R.Region.tells g.R.Region.image g.R.Region.may_leave c.args.target c.args.targets c.args.region c.in-Ok-Kept.field-0 c.in-Ok-Kept.kept c.in-Ok-Kept.field-0-is c.in-Ok-Kept.ensures.seen) e.cause k) c.open_found.ensures.refused

pub returns-in-Ok-Kept-clause-left : goal.returns-in-Ok-Kept-clause-left
returns-in-Ok-Kept-clause-left g c = on_err c.open_found.result _ _ (λ e is k. left_of g.R.Region.extent g.R.Region.count g.R.Region.burns g.R.Region.tells g.R.Region.image g.R.Region.may_leave c.args.target c.args.targets
    c.args.region c.in-Ok-Kept.kept.undo c.in-Ok-Kept.kept.found (seen_kept g.R.Region.extent g.R.Region.count g.R.Region.burns g.R.Region.tells g.R.Region.image g.R.Region.may_leave c.args.target c.args.targets c.args.region c.in-Ok-Kept.field-0 c.in-Ok-Kept.kept c.in-Ok-Kept.field-0-is c.in-Ok-Kept.ensures.seen) e.region k.left) c.open_found.ensures.handed_back

pub returns-in-Ok-Blank-clause-made : goal.returns-in-Ok-Blank-clause-made
returns-in-Ok-Blank-clause-made g c = on_ok_then c.open_blank.result _ _ (λ a made. made_blank g.R.Region.extent g.R.Region.count g.R.Region.burns g.R.Region.tells g.R.Region.image g.R.Region.may_leave c.args.target c.args.targets
    c.args.region c.in-Ok-Blank.blank (seen_blank g.R.Region.extent g.R.Region.count g.R.Region.burns g.R.Region.tells g.R.Region.image g.R.Region.may_leave c.args.target c.args.targets c.args.region c.in-Ok-Blank.field-0 c.in-Ok-Blank.blank c.in-Ok-Blank.field-0-is c.in-Ok-Blank.ensures.seen) a.opened a.entries.items made) c.open_blank.ensures.made
