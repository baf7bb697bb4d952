use Rattle.std.proofs.Common.{[], ◌∷◌, ◌++◌, ◌∙◌, ap}
use Rattle.base_types.specs.Placement.{members}
use Rattle.daos_class.proofs.Shards.{found_all, found_more}
use Rattle.daos_class.proofs.place.members.Goals as goal

pub loop-shard-preserved : goal.loop-shard-preserved
loop-shard-preserved c =
    found_more _ _ _ c.args.obj.number c.loop-shard.shard _ c.args.n c.loop-shard-test.true (c.in_ok-push.ensures.items ∙ ap (λ t. c.loop-shard.targets.items ++ t ∷ []) c.shard_target.ensures)
    c.loop-shard.invariant

pub returns : goal.returns
unfolding members
returns c = c.from_vec.ensures ∙ found_all _ _ c.args.obj.number c.loop-shard.shard _ c.args.n c.loop-shard-test.false c.loop-shard.invariant
