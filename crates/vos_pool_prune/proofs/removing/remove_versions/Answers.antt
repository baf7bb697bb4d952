use Rattle.std.proofs.Common.{Result, false, true, refl, subst}
use Rattle.vos_pool_prune.specs.Changing.{IsPartChange}
use Rattle.vos_pool_prune.specs.Order.{chosen, those_of}
use Rattle.vos_pool_prune.specs.Removals.{CutRemovals, without_versions}
use Rattle.vos_pool_prune.proofs.Removed.{gone_stopped, gone_then}
use Rattle.vos_pool_settle.proofs.Leaving.{was_err, was_ok}
use Rattle.vos_store.specs.declared.refusal.Stopped.{Stopped}
use Rattle.vos_pool_prune.proofs.removing.remove_versions.Goals as goal

pub returns-then-is_err : goal.returns-then-is_err
returns-then-is_err g c =
    let z = was_err c.remove_those-opened.result.1 c.is_err.result c.is_err.ensures.value c.if-is_err.true in
    gone_stopped g.R.Region.extent g.R.Region.tells g.R.Region.image g.R.Region.may_leave g.R.Region.count g.R.Region.burns (those_of false (chosen c.args.marks.now c.args.versions.now)) _ (those_of true (chosen c.args.marks.now c.args.versions.now)) c.args.opened c.remove_those-opened.result.0 c.remove_those-opened.result.1 z.0 z.1 refl c.remove_those-opened.ensures

pub remove_those-requires-clause-tidy : goal.remove_those-requires-clause-tidy
remove_those-requires-clause-tidy g c =
    let updates = those_of false (chosen c.args.marks.now c.args.versions.now) in
    (subst (λ (r : Result (Unit {0}) Stopped). IsPartChange g.R.Region.tells g.R.Region.extent g.R.Region.image g.R.Region.may_leave g.R.Region.count g.R.Region.burns (without_versions updates) (CutRemovals updates) c.args.opened c.remove_those-opened.result.0 r) (was_ok c.remove_those-opened.result.1 c.is_err.result c.is_err.ensures.value c.if-is_err.false) c.remove_those-opened.ensures).tidy c.requires.tidy

pub returns : goal.returns
returns g c =
    let updates = those_of false (chosen c.args.marks.now c.args.versions.now) in
    gone_then g.R.Region.extent g.R.Region.tells g.R.Region.image g.R.Region.may_leave g.R.Region.count g.R.Region.burns updates (those_of true (chosen c.args.marks.now c.args.versions.now)) c.args.opened c.remove_those-opened.result.0 c.remove_those.result.0 c.remove_those.result.1
    (subst (λ (r : Result (Unit {0}) Stopped). IsPartChange g.R.Region.tells g.R.Region.extent g.R.Region.image g.R.Region.may_leave g.R.Region.count g.R.Region.burns (without_versions updates) (CutRemovals updates) c.args.opened c.remove_those-opened.result.0 r) (was_ok c.remove_those-opened.result.1 c.is_err.result c.is_err.ensures.value c.if-is_err.false) c.remove_those-opened.ensures)
    c.remove_those.ensures
