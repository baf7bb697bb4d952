use Rattle.std.proofs.Common.{sym, subst}
use Rattle.vos_pool_make.proofs.Making.{found_fresh, left_fresh, made_fresh, on_err, on_ok, refused_never, unchecked, unchecked_left, unformatted}
use Rattle.vos_pool_make.specs.Made.{IsRefused}
use Rattle.vos_pool_make.proofs.make.open_blank.Goals as goal

pub returns-in-Err-clause-left : goal.returns-in-Err-clause-left
returns-in-Err-clause-left g c = unformatted g.R.Region.extent g.R.Region.count g.R.Region.burns g.R.Region.tells g.R.Region.image g.R.Region.may_leave c.args.target c.args.targets
    c.args.region c.requires.big c.requires.small c.requires.blank
    c.in-Err.no.region c.in-Err.ensures.left

pub open_found-requires-clause-found : goal.open_found-requires-clause-found
open_found-requires-clause-found g c = found_fresh g.R.Region.extent g.R.Region.count g.R.Region.burns g.R.Region.tells g.R.Region.image g.R.Region.may_leave c.args.target c.args.targets
    c.args.region c.requires.big c.requires.small c.requires.blank c.in-Ok.formatted c.in-Ok.ensures.formatted
    c.in-Ok-open_kept.kept.undo c.in-Ok-open_kept.kept.found c.in-Ok-open_kept.ensures.kept c.in-Ok-open_kept.ensures.holds c.in-Ok-open_kept.ensures.image c.in-Ok-open_kept.ensures.found

pub returns-in-Ok-open_kept-clause-made : goal.returns-in-Ok-open_kept-clause-made
returns-in-Ok-open_kept-clause-made g c = on_ok c.open_found.result _ _ _ (λ a made same. made_fresh g.R.Region.extent g.R.Region.count g.R.Region.burns g.R.Region.tells g.R.Region.image g.R.Region.may_leave c.args.target c.args.targets
    c.args.region c.requires.big c.requires.small c.requires.blank c.in-Ok.formatted c.in-Ok.ensures.formatted
    c.in-Ok-open_kept.kept.undo c.in-Ok-open_kept.kept.found c.in-Ok-open_kept.ensures.kept c.in-Ok-open_kept.ensures.holds c.in-Ok-open_kept.ensures.image c.in-Ok-open_kept.ensures.found
    c.fresh_is_empty.ensures.kept a.opened a.entries.items made same) c.open_found.ensures.made c.open_found.ensures.entries

pub returns-in-Ok-open_kept-clause-refused : goal.returns-in-Ok-open_kept-clause-refused
returns-in-Ok-open_kept-clause-refused g c = on_err c.open_found.result _ _ (λ e is k. refused_never g.R.Region.extent g.R.Region.count g.R.Region.burns g.R.Region.tells g.R.Region.image g.R.Region.may_leave c.args.target c.args.targets
    c.args.region c.requires.big c.requires.small c.requires.blank c.in-Ok.formatted c.in-Ok.ensures.formatted
    c.in-Ok-open_kept.kept.undo c.in-Ok-open_kept.kept.found c.in-Ok-open_kept.ensures.kept c.in-Ok-open_kept.ensures.holds c.in-Ok-open_kept.ensures.image c.in-Ok-open_kept.ensures.found
    c.fresh_is_empty.ensures.holds e.cause k) c.open_found.ensures.refused

pub returns-in-Ok-open_kept-clause-left : goal.returns-in-Ok-open_kept-clause-left
returns-in-Ok-open_kept-clause-left g c = on_err c.open_found.result _ _ (λ e is k. left_fresh g.R.Region.extent g.R.Region.count g.R.Region.burns g.R.Region.tells g.R.Region.image g.R.Region.may_leave c.args.target c.args.targets
    c.args.region c.requires.big c.requires.small c.requires.blank c.in-Ok.formatted c.in-Ok.ensures.formatted
    c.in-Ok-open_kept.kept.undo c.in-Ok-open_kept.kept.found c.in-Ok-open_kept.ensures.kept c.in-Ok-open_kept.ensures.holds c.in-Ok-open_kept.ensures.image c.in-Ok-open_kept.ensures.found
    e.region k.left) c.open_found.ensures.handed_back

pub returns-in-Err-open_kept-clause-refused : goal.returns-in-Err-open_kept-clause-refused
returns-in-Err-open_kept-clause-refused g c = λ told. subst (IsRefused c.args.target c.args.targets (g.R.Region.extent c.args.region) (g.R.Region.image c.args.region)) (sym c.cause_of_check.ensures) (unchecked g.R.Region.extent g.R.Region.count g.R.Region.burns g.R.Region.tells g.R.Region.image g.R.Region.may_leave c.args.target c.args.targets
    c.args.region c.requires.big c.requires.small c.requires.blank c.in-Ok.formatted c.in-Ok.ensures.formatted
    c.fresh_is_empty.ensures.read c.in-Err-open_kept.no.cause c.in-Err-open_kept.ensures.faulty told)

pub returns-in-Err-open_kept-clause-left : goal.returns-in-Err-open_kept-clause-left
returns-in-Err-open_kept-clause-left g c = unchecked_left g.R.Region.extent g.R.Region.count g.R.Region.burns g.R.Region.tells g.R.Region.image g.R.Region.may_leave c.args.target c.args.targets
    c.args.region c.requires.big c.requires.small c.requires.blank c.in-Ok.formatted c.in-Ok.ensures.formatted
    c.in-Err-open_kept.no.region c.in-Err-open_kept.ensures.left
