use Rattle.pmem_tree.proofs.Setting.{taken_if, sets_alone}
use Rattle.pmem_tree.proofs.grow.set_alone.Goals as goal

pub stage_fork-requires : goal.stage_fork-requires
stage_fork-requires g c told = taken_if _ c.args.fresh.now.kind 0 0 c.args.fresh.now.block c.args.fresh.now.pair (c.requires.tree told) _ c.in_ok-block_for.field-0 _ _ (c.in_ok-block_for.ensures.takes told)

pub returns-clause-set : goal.returns-clause-set
returns-clause-set g c told = sets_alone _ c.args.fresh.now.kind 0 0 c.args.fresh.now.block c.args.fresh.now.pair (c.requires.tree told) _ c.in_ok-block_for.field-0 _ _ (c.in_ok-block_for.ensures.takes told) _ c.in_ok-stage_fork.field-0 _ (c.in_ok-stage_fork.ensures.staged told) c.in_ok-stage_fork.ensures.root c.in_ok-stage_fork.ensures.height c.stage_fork.ensures.spent c.stage_fork.ensures.free
