use Rattle.std.proofs.Common.{◌∷◌, ◌++◌, [], false, filter, get_or, sym, ◌∙◌, ap}
use Rattle.std.specs.Prelude.{if◌then◌else◌}
use Rattle.daos_model.specs.declared.durable.Version.{Version}
use Rattle.daos_model.specs.Prunes.{is_going}
use Rattle.vos_aggregate.proofs.Removing.{mark-says, removed-more}
use Rattle.vos_aggregate.proofs.removed.Goals as goal

pub loop-i-preserved : goal.loop-i-preserved
loop-i-preserved c =
    let g = is_going c.args.plan.now.cont c.args.plan.now.upto c.args.plan.now.versions.now c.args.plan.now.snaps.now in
    let vs = c.args.plan.now.versions.now in
    removed-more g vs c.loop-i.gone.items c.loop-i.i c.index-plan-i.result c.loop-i-test.true c.index-plan-i.is c.add_marked.new.gone.items (filter g vs) (get_or c.args.marks.now c.loop-i.i false)
    (mark-says g vs c.args.marks.now c.loop-i.i c.index-plan-i.result c.requires c.loop-i-test.true c.index-plan-i.is)
    (c.in_ok-add_marked.ensures.versions ∙ ap (λ (v : Version). if get_or c.args.marks.now c.loop-i.i false then c.loop-i.gone.items ++ v ∷ [] else c.loop-i.gone.items) (sym c.index-plan-i.is)) c.loop-i.invariant
