use Rattle.std.proofs.Common.{◌∙◌, ap, false, refl, subst, sym}
use Rattle.snap_core.specs.Snaps.{remembered}
use Rattle.target_parts.specs.Ending.{some_reading}
use Rattle.target_parts.specs.Knowing.{memory_of}
use Rattle.target_parts.specs.Readings.{IsReadBy, not-read-by, read-by}
use Rattle.target_core.specs.Targets.{HearsOrStops, has_epoch, is_of_client}
use Rattle.target_core.proofs.Heard.{hears-aggregate, hears-prune}
use Rattle.target_core.proofs.Posting.{answers-end, answers-post, client-prune, makes-end, makes-post, target-prune}
use Rattle.target_core.proofs.making.hear_any_prune.Goals as goal

pub returns-in-Some-clause-turn : goal.returns-in-Some-clause-turn
returns-in-Some-clause-turn g c = (
  c.hear_aggregate.ensures.turn.0,
  c.hear_aggregate.ensures.turn.1,
  λ d at.
      subst (λ m. HearsOrStops c.args.number c.args.plan (remembered (memory_of c.args.knows.now) c.args.snaps.now) c.hear_aggregate.ensures.turn.0 c.args.request.from m d (g.S.Store.state c.args.store.now) (g.S.Store.durable c.hear_aggregate.new.store) (g.S.Store.state c.hear_aggregate.new.store) (g.S.Store.may c.hear_aggregate.new.store) (remembered (memory_of c.hear_aggregate.new.knows) c.hear_aggregate.new.snaps) c.hear_aggregate.result) (sym (client-prune c.args.request.attempt c.args.request.cont c.args.tracker c.args.epoch c.in-Some.tracker c.in-Some.is c.requires.form))
      (hears-aggregate c.args.number c.args.plan (remembered (memory_of c.args.knows.now) c.args.snaps.now) c.hear_aggregate.ensures.turn.0 c.args.request.from d (g.S.Store.state c.args.store.now) (g.S.Store.durable c.hear_aggregate.new.store) (g.S.Store.state c.hear_aggregate.new.store) (g.S.Store.may c.hear_aggregate.new.store) (remembered (memory_of c.hear_aggregate.new.knows) c.hear_aggregate.new.snaps) c.args.request c.in-Some.tracker c.hear_aggregate.result refl (c.hear_aggregate.ensures.turn.2 d at)),
)

pub returns-in-Some-clause-posts : goal.returns-in-Some-clause-posts
returns-in-Some-clause-posts g c kind =
    makes-post c.args.plan.targets (memory_of c.args.knows.now) (memory_of c.hear_aggregate.new.knows) c.args.snaps.now c.hear_aggregate.new.snaps c.hear_aggregate.result c.hear_aggregate.ensures.waiting (c.hear_aggregate.ensures.posts (sym kind ∙ ap is_of_client (client-prune c.args.request.attempt c.args.request.cont c.args.tracker c.args.epoch c.in-Some.tracker c.in-Some.is c.requires.form)))

pub returns-in-Some-clause-ends : goal.returns-in-Some-clause-ends
returns-in-Some-clause-ends g c given asked = makes-end given (memory_of c.args.knows.now) (memory_of c.hear_aggregate.new.knows) c.args.snaps.now c.hear_aggregate.new.snaps c.hear_aggregate.result c.hear_aggregate.ensures.waiting (c.hear_aggregate.ensures.ends given asked)

pub returns-in-Some-epoch-clause-turn : goal.returns-in-Some-epoch-clause-turn
returns-in-Some-epoch-clause-turn g c =
    let r = some_reading (g.C.Clock.next c.args.clock.now) in (
      r.0,
      r.1,
      λ d at.
          subst (λ m. HearsOrStops c.args.number c.args.plan (remembered (memory_of c.args.knows.now) c.args.snaps.now) r.0 c.args.request.from m d (g.S.Store.state c.args.store.now) (g.S.Store.durable c.hear_prune.new.store) (g.S.Store.state c.hear_prune.new.store) (g.S.Store.may c.hear_prune.new.store) (remembered (memory_of c.hear_prune.new.knows) c.args.snaps.now) c.hear_prune.result) (sym (target-prune c.args.request.attempt c.args.request.cont c.args.tracker c.args.epoch c.in-Some-epoch.epoch c.in-None.is c.in-Some-epoch.is))
          (hears-prune c.args.number c.args.plan (remembered (memory_of c.args.knows.now) c.args.snaps.now) r.0 c.args.request.from d (g.S.Store.state c.args.store.now) (g.S.Store.durable c.hear_prune.new.store) (g.S.Store.state c.hear_prune.new.store) (g.S.Store.may c.hear_prune.new.store) (remembered (memory_of c.hear_prune.new.knows) c.args.snaps.now) c.args.request c.in-Some-epoch.epoch c.hear_prune.result refl (c.hear_prune.ensures.turn c.args.snaps.now r.0 d at)),
    )

pub returns-in-Some-epoch-clause-posts : goal.returns-in-Some-epoch-clause-posts
returns-in-Some-epoch-clause-posts g c kind =
    makes-post c.args.plan.targets (memory_of c.args.knows.now) (memory_of c.hear_prune.new.knows) c.args.snaps.now c.args.snaps.now c.hear_prune.result c.hear_prune.ensures.waiting (answers-post c.args.plan.targets c.args.snaps.now c.hear_prune.result (c.hear_prune.ensures.posts (sym kind ∙ ap is_of_client (target-prune c.args.request.attempt c.args.request.cont c.args.tracker c.args.epoch c.in-Some-epoch.epoch c.in-None.is c.in-Some-epoch.is))))

pub returns-in-Some-epoch-clause-ends : goal.returns-in-Some-epoch-clause-ends
returns-in-Some-epoch-clause-ends g c given asked = makes-end given (memory_of c.args.knows.now) (memory_of c.hear_prune.new.knows) c.args.snaps.now c.args.snaps.now c.hear_prune.result c.hear_prune.ensures.waiting (answers-end given c.args.snaps.now c.hear_prune.result (c.hear_prune.ensures.ends given))

pub returns-in-Some-epoch-clause-clock : goal.returns-in-Some-epoch-clause-clock
returns-in-Some-epoch-clause-clock g c = not-read-by g.C.Clock.is_read _ c.hear_prune.result c.args.clock.now (ap has_epoch (target-prune c.args.request.attempt c.args.request.cont c.args.tracker c.args.epoch c.in-Some-epoch.epoch c.in-None.is c.in-Some-epoch.is))

pub returns-in-Some-clause-clock : goal.returns-in-Some-clause-clock
returns-in-Some-clause-clock g c =
    subst (λ m. IsReadBy g.C.Clock.is_read (has_epoch m) c.hear_aggregate.result c.args.clock.now c.hear_aggregate.new.clock)
    (sym (client-prune c.args.request.attempt c.args.request.cont c.args.tracker c.args.epoch c.in-Some.tracker c.in-Some.is c.requires.form))
    (read-by g.C.Clock.is_read false c.hear_aggregate.result c.args.clock.now c.hear_aggregate.new.clock c.hear_aggregate.ensures.clock)
