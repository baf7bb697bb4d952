use Rattle.std.proofs.Common.{◌+◌, Result, subst, sym, ◌∙◌, arith}
use Rattle.vos_pool_prune.specs.Changing.{IsPartChange}
use Rattle.vos_pool_prune.specs.Removals.{CutRemovals, without_versions}
use Rattle.vos_pool_prune.proofs.Chosen.{those_before}
use Rattle.vos_pool_prune.proofs.Removed.{gone_all, passed_next, removed_next, stopped_any}
use Rattle.vos_pool_settle.proofs.Leaving.{was_err, was_ok}
use Rattle.vos_store.specs.declared.refusal.Stopped.{Stopped}
use Rattle.vos_pool_prune.proofs.removing.remove_those.Goals as goal

pub remove_version-next-requires-clause-tidy : goal.remove_version-next-requires-clause-tidy
remove_version-next-requires-clause-tidy g c = c.loop-i.invariant.gone.tidy c.requires.tidy

pub loop-i-preserved-then-not-is_one_of : goal.loop-i-preserved-then-not-is_one_of
loop-i-preserved-then-not-is_one_of g c =
    record {
      gone = passed_next g.R.Region.extent g.R.Region.tells g.R.Region.image g.R.Region.may_leave g.R.Region.count g.R.Region.burns c.args.punches c.args.marks.now c.args.versions.now c.loop-i.i c.requires.each c.index-versions-i.result c.args.opened c.loop-i.opened _ c.loop-i-test.true c.index-versions-i.is (sym c.is_one_of.ensures ∙ c.if-not-is_one_of.true) c.loop-i.invariant.gone;
    }

pub returns-then-is_err : goal.returns-then-is_err
returns-then-is_err g c =
    let z = was_err c.remove_version-next.result.1 c.is_err.result c.is_err.ensures.value c.if-is_err.true in
    let next = removed_next g.R.Region.extent g.R.Region.tells g.R.Region.image g.R.Region.may_leave g.R.Region.count g.R.Region.burns c.args.punches c.args.marks.now c.args.versions.now c.loop-i.i c.requires.each c.index-versions-i.result c.args.opened c.loop-i.opened c.remove_version-next.result.0 c.remove_version-next.result.1 c.loop-i-test.true c.index-versions-i.is (sym c.is_one_of.ensures ∙ c.if-not-is_one_of.false) c.loop-i.invariant.gone c.remove_version-next.ensures.removed c.remove_version-next.ensures.gives in
    stopped_any g.R.Region.extent g.R.Region.tells g.R.Region.image g.R.Region.may_leave g.R.Region.count g.R.Region.burns c.args.punches c.args.marks.now c.args.versions.now (c.loop-i.i + 1) c.requires.each c.args.opened c.remove_version-next.result.0 c.remove_version-next.result.1 z.0 z.1 next

pub loop-i-preserved : goal.loop-i-preserved
loop-i-preserved g c =
    let next = removed_next g.R.Region.extent g.R.Region.tells g.R.Region.image g.R.Region.may_leave g.R.Region.count g.R.Region.burns c.args.punches c.args.marks.now c.args.versions.now c.loop-i.i c.requires.each c.index-versions-i.result c.args.opened c.loop-i.opened c.remove_version-next.result.0 c.remove_version-next.result.1 c.loop-i-test.true c.index-versions-i.is (sym c.is_one_of.ensures ∙ c.if-not-is_one_of.false) c.loop-i.invariant.gone c.remove_version-next.ensures.removed c.remove_version-next.ensures.gives in
    let gone = those_before c.args.punches c.args.marks.now c.args.versions.now (c.loop-i.i + 1) in
    record {
      gone = subst (λ (r : Result (Unit {0}) Stopped). IsPartChange g.R.Region.tells g.R.Region.extent g.R.Region.image g.R.Region.may_leave g.R.Region.count g.R.Region.burns (without_versions gone) (CutRemovals gone) c.args.opened c.remove_version-next.result.0 r) (was_ok c.remove_version-next.result.1 c.is_err.result c.is_err.ensures.value c.if-is_err.false) next;
    }

pub returns : goal.returns
returns g c = gone_all g.R.Region.extent g.R.Region.tells g.R.Region.image g.R.Region.may_leave g.R.Region.count g.R.Region.burns c.args.punches c.args.marks.now c.args.versions.now c.loop-i.i c.requires.each c.args.opened c.loop-i.opened _ (omega arith) c.loop-i.invariant.gone
