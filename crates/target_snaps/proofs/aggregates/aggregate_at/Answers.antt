use Rattle.std.proofs.Common.{◌≡◌, [], Err, None, ap, rules, subst, Some}
use Rattle.snap_core.specs.Snaps.{remembered}
use Rattle.vos_store.specs.Refusals.{always_stop}
use Rattle.world_base.specs.Snapshots.{Settling}
use Rattle.target_parts.specs.Knowing.{memory_of}
use Rattle.target_parts.specs.Parts.{kept}
use Rattle.target_parts.specs.Standing.{target-kept}
use Rattle.target_parts.specs.Stops.{stop_memory}
use Rattle.target_snaps.specs.AggregateTurns.{AggregateComes}
use Rattle.target_snaps.proofs.AggregateTurns.{aggregate-halted, aggregate-unsettled, aggregate-wanting, aggregate-whole, begun-ends, begun-stays, settled-here, settled-known}
use Rattle.target_snaps.proofs.PruneParts.{settled-comes}
use Rattle.target_snaps.proofs.Following.{told-memory, told-stop}
use Rattle.target_snaps.proofs.Begun.{prune-follows, told-prune}
use Rattle.target_parts.specs.declared.halt.Halt.TheVariants as halt
use Rattle.target_snaps.proofs.aggregates.aggregate_at.Goals as goal

pub returns-in-Err-clause-turn : goal.returns-in-Err-clause-turn
returns-in-Err-clause-turn g c m reading tracker old d at known came =
    aggregate-unsettled c.args.plan (remembered m c.args.snaps.now) reading c.args.request tracker c.args.number old c.args.epoch d (g.S.Store.state c.args.store.now) (g.S.Store.state c.settle_decisions.new.store) (g.S.Store.durable c.settle_decisions.new.store) (g.S.Store.may c.settle_decisions.new.store)
    (remembered (memory_of c.settle_decisions.new.knows) c.args.snaps.now) c.args.knows.now.leader.decided _ c.in-Err.field-0
    (subst (λ xs. AggregateComes c.args.plan (remembered m c.args.snaps.now) reading c.args.request tracker c.args.number old (Settling c.args.epoch xs) (kept d (g.S.Store.state c.args.store.now)) []) (ap (λ n. n.leader.decided) known) came) (c.in-Err.ensures.settled d at) (ap Err c.stop_of.ensures)

pub returns-in-Err-clause-target : goal.returns-in-Err-clause-target
returns-in-Err-clause-target g c =
    target-kept c.args.plan always_stop _ (g.S.Store.state c.args.store.now) (g.S.Store.state c.settle_decisions.new.store) (g.S.Store.durable c.args.store.now) (g.S.Store.durable c.settle_decisions.new.store) c.args.knows.now c.settle_decisions.new.knows c.requires.target c.in-Err.ensures.keeps

pub prune_at-requires-clause-target : goal.prune_at-requires-clause-target
prune_at-requires-clause-target g c =
    target-kept c.args.plan always_stop _ (g.S.Store.state c.args.store.now) (g.S.Store.state c.settle_decisions.new.store) (g.S.Store.durable c.args.store.now) (g.S.Store.durable c.settle_decisions.new.store) c.args.knows.now c.settle_decisions.new.knows c.requires.target c.in_default.ensures.keeps

pub prune_at-requires-clause-enlisted : goal.prune_at-requires-clause-enlisted
prune_at-requires-clause-enlisted g c d at =
    (settled-here c.args.request.cont c.args.epoch c.args.knows.now.leader.decided (g.S.Store.state c.args.store.now) (g.S.Store.state c.settle_decisions.new.store) (g.S.Store.durable c.args.store.now) (g.S.Store.durable c.settle_decisions.new.store) (g.S.Store.may c.settle_decisions.new.store) c.requires.here c.in_default.ensures.keeps.runs.told c.in_default.ensures.settled d at).0

pub prune_at-requires-clause-leased : goal.prune_at-requires-clause-leased
prune_at-requires-clause-leased g c d at =
    (settled-here c.args.request.cont c.args.epoch c.args.knows.now.leader.decided (g.S.Store.state c.args.store.now) (g.S.Store.state c.settle_decisions.new.store) (g.S.Store.durable c.args.store.now) (g.S.Store.durable c.settle_decisions.new.store) (g.S.Store.may c.settle_decisions.new.store) c.requires.here c.in_default.ensures.keeps.runs.told c.in_default.ensures.settled d at).1

pub returns-in_err-lines-clause-turn : goal.returns-in_err-lines-clause-turn
returns-in_err-lines-clause-turn g c m reading tracker old d at known came =
    let is : c.from_residual.result ≡ Err c.in_err-lines.field-0.0 = search rules in
    let now = c.in_default.ensures.settled d at in
    aggregate-halted c.args.plan (remembered m c.args.snaps.now) reading c.args.request tracker c.args.number old c.args.epoch now.durable (g.S.Store.state c.settle_decisions.new.store) (g.S.Store.state c.prune_at.new.store) (g.S.Store.durable c.prune_at.new.store) (g.S.Store.may c.prune_at.new.store)
    (remembered (memory_of c.settle_decisions.new.knows) c.args.snaps.now)
    (settled-comes c.args.plan (remembered m c.args.snaps.now) reading tracker None c.args.request.cont c.args.number c.args.request.attempt c.args.epoch old c.args.knows.now.leader.decided (kept d (g.S.Store.state c.args.store.now))
    (subst (λ xs. AggregateComes c.args.plan (remembered m c.args.snaps.now) reading c.args.request tracker c.args.number old (Settling c.args.epoch xs) (kept d (g.S.Store.state c.args.store.now)) []) (ap (λ n. n.leader.decided) known) came) [] (kept now.durable (g.S.Store.state c.settle_decisions.new.store)) now.holds)
    c.from_residual.result c.in_err-lines.field-0.0 (c.in_err-lines.ensures.pruned now.durable now.kept_is) is

pub returns-in_err-posts-clause-turn : goal.returns-in_err-posts-clause-turn
returns-in_err-posts-clause-turn g c m reading tracker old d at known came =
    let is : c.from_residual-in_err-posts.result ≡ Err stop_memory = search rules in
    let now = c.in_default.ensures.settled d at in
    aggregate-wanting c.args.plan (remembered m c.args.snaps.now) reading c.args.request tracker c.args.number old c.args.epoch now.durable (g.S.Store.state c.settle_decisions.new.store) (g.S.Store.state c.prune_at.new.store) (g.S.Store.durable c.prune_at.new.store) (g.S.Store.may c.prune_at.new.store)
    (remembered (memory_of c.settle_decisions.new.knows) c.begin.new.self)
    (settled-comes c.args.plan (remembered m c.args.snaps.now) reading tracker None c.args.request.cont c.args.number c.args.request.attempt c.args.epoch old c.args.knows.now.leader.decided (kept d (g.S.Store.state c.args.store.now))
    (subst (λ xs. AggregateComes c.args.plan (remembered m c.args.snaps.now) reading c.args.request tracker c.args.number old (Settling c.args.epoch xs) (kept d (g.S.Store.state c.args.store.now)) []) (ap (λ n. n.leader.decided) known) came) [] (kept now.durable (g.S.Store.state c.settle_decisions.new.store)) now.holds)
    c.in_ok-lines.lines c.from_residual-in_err-posts.result (c.in_ok-lines.ensures.pruned now.durable now.kept_is) is

pub returns-clause-turn : goal.returns-clause-turn
returns-clause-turn g c m reading tracker old d at known came =
    let now = c.in_default.ensures.settled d at in
    aggregate-whole c.args.plan (remembered m c.args.snaps.now) reading c.args.request tracker c.args.number old c.args.epoch now.durable (g.S.Store.state c.settle_decisions.new.store) (g.S.Store.state c.prune_at.new.store) (g.S.Store.durable c.prune_at.new.store) (g.S.Store.may c.prune_at.new.store)
    (remembered (memory_of c.settle_decisions.new.knows) c.begin.new.self)
    (settled-comes c.args.plan (remembered m c.args.snaps.now) reading tracker None c.args.request.cont c.args.number c.args.request.attempt c.args.epoch old c.args.knows.now.leader.decided (kept d (g.S.Store.state c.args.store.now))
    (subst (λ xs. AggregateComes c.args.plan (remembered m c.args.snaps.now) reading c.args.request tracker c.args.number old (Settling c.args.epoch xs) (kept d (g.S.Store.state c.args.store.now)) []) (ap (λ n. n.leader.decided) known) came) [] (kept now.durable (g.S.Store.state c.settle_decisions.new.store)) now.holds)
    c.in_ok-lines.lines _ (c.in_ok-lines.ensures.pruned now.durable now.kept_is)
    (λ l. begun-ends c.args.plan c.args.snaps.now c.begin.new.self c.requires.own c.args.request c.args.epoch c.args.message.now c.requires.asks.0 c.in_ok-posts.posts c.requires.asks.1 c.in_ok-posts.ensures.ok m _ reading tracker c.in_ok-lines.lines l
    (ap (λ n. remembered n c.begin.new.self) (settled-known m c.args.knows.now c.settle_decisions.new.knows c.args.epoch known c.in_default.ensures.keeps.beside c.in_default.ensures.leader)))

pub returns-clause-own : goal.returns-clause-own
returns-clause-own g c = begun-stays c.args.plan c.args.snaps.now c.begin.new.self c.requires.own c.args.request c.args.epoch c.args.message.now c.requires.asks.0 c.in_ok-posts.posts c.requires.asks.1 c.in_ok-posts.ensures.ok

-- ---- what follows

pub returns-in-Err-clause-told : goal.returns-in-Err-clause-told
returns-in-Err-clause-told g c = told-stop halt.Stopped (Some (c.args.request.attempt, c.args.epoch)) (Err c.stop_of.result) (ap Err c.stop_of.ensures)

pub returns-in_err-lines-clause-told : goal.returns-in_err-lines-clause-told
returns-in_err-lines-clause-told g c =
    let is : c.from_residual.result ≡ Err c.in_err-lines.field-0.0 = search rules in
    told-prune c.in_err-lines.field-0.0 c.from_residual.result c.in_err-lines.ensures.told is

pub returns-in_err-posts-clause-told : goal.returns-in_err-posts-clause-told
returns-in_err-posts-clause-told g c =
    let is : c.from_residual-in_err-posts.result ≡ Err stop_memory = search rules in
    told-memory c.from_residual-in_err-posts.result is

pub returns-clause-follows : goal.returns-clause-follows
returns-clause-follows g c = prune-follows c.args.plan c.args.snaps.now c.begin.new.self c.requires.own c.args.request c.args.epoch c.args.message.now c.requires.asks.0 c.in_ok-posts.posts c.requires.asks.1 c.in_ok-posts.ensures.ok
