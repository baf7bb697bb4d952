use Rattle.std.proofs.Common.{[], ◌∷◌, subst}
use Rattle.daos_model.specs.Changes.{marked}
use Rattle.vos_pool_prune.proofs.Marked.{marks}
use Rattle.vos_pool_settle.specs.vos_pool_base.Pool.{OpenedState}
use Rattle.vos_pool_settle.specs.vos_pool_base.vos_tables.Changes.{all_changed}
use Rattle.vos_pool_settle.specs.vos_pool_base.vos_tables.Kept.{MakesWhere}
use Rattle.vos_store.specs.Conditions.{IsLeased}
use Rattle.vos_pool_prune.proofs.marking.mark.Goals as goal

pub returns-in-None-clause-marked : goal.returns-in-None-clause-marked
returns-in-None-clause-marked g c =
    let k = c.write.ensures in
    marks g.R.Region.extent g.R.Region.tells g.R.Region.image g.R.Region.may_leave g.R.Region.count g.R.Region.burns c.args.cont c.args.upto c.args.number c.args.opened.now c.write.new.self c.write.result c.args.opened.now.table c.requires
    (subst (λ (p : OpenedState _). MakesWhere (IsLeased c.args.upto) (marked c.args.cont c.args.upto c.args.number) p.table p.table) c.opened.view_is c.in-None.ensures.marked) k.makes k.tidy k.left k.free k.size k.stops

pub returns-in-Some-clause-marked : goal.returns-in-Some-clause-marked
returns-in-Some-clause-marked g c =
    let k = c.write-in-Some.ensures in
    marks g.R.Region.extent g.R.Region.tells g.R.Region.image g.R.Region.may_leave g.R.Region.count g.R.Region.burns c.args.cont c.args.upto c.args.number c.args.opened.now c.write-in-Some.new.self c.write-in-Some.result (all_changed (c.in-Some.change ∷ []) c.args.opened.now.table) c.requires
    (subst (λ (p : OpenedState _). MakesWhere (IsLeased c.args.upto) (marked c.args.cont c.args.upto c.args.number) p.table (all_changed (c.in-Some.change ∷ []) p.table)) c.opened.view_is c.in-Some.ensures.marked) k.makes k.tidy k.left k.free k.size k.stops
