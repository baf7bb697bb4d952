use Rattle.std.specs.Prelude.{false, true, refl}
use Rattle.std.proofs.Common.{ap}
use Rattle.pmem_alloc.specs.Blocks.{BlocksState}
use Rattle.vos_pool_base.proofs.Commits.{commit_of, is_well, not_ok}
use Rattle.vos_pool_base.proofs.committing.commit.Goals as goal

pub returns-then-is_err-clause-committed : goal.returns-then-is_err-clause-committed
returns-then-is_err-clause-committed g c =
    commit_of g.R.Region.extent g.R.Region.tells g.R.Region.image g.R.Region.may_leave c.args.blocks.now c.commit-committed.new.self _ c.commit-committed.result false
    (not_ok c.commit-committed.result c.is_err.result c.is_err.ensures.value c.if-is_err.true) (ap (λ (b : BlocksState _). b.undo.region) c.drop_stage.ensures.dropped)
    (record { before = c.size-size.ensures.undo_holds; now = c.size-size-2.ensures.undo_holds; from = c.commit-committed.ensures.from; written = c.commit-committed.ensures.committed; went_on = c.commit-committed.ensures.stops.went_on })

pub returns-clause-committed : goal.returns-clause-committed
returns-clause-committed g c =
    commit_of g.R.Region.extent g.R.Region.tells g.R.Region.image g.R.Region.may_leave c.args.blocks.now c.commit-committed.new.self _ c.commit-committed.result true
    (is_well c.commit-committed.result c.is_err.result c.is_err.ensures.value c.if-is_err.false) refl
    (record { before = c.size-size.ensures.undo_holds; now = c.size-size-2.ensures.undo_holds; from = c.commit-committed.ensures.from; written = c.commit-committed.ensures.committed; went_on = c.commit-committed.ensures.stops.went_on })
