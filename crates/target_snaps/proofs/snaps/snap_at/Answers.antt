use Rattle.std.proofs.Common.{◌≡◌, ◌∙◌, Err, ap, sym, true, Some}
use Rattle.daos_model.specs.Durables.{is_frozen}
use Rattle.snap_core.specs.Snaps.{remembered}
use Rattle.target_parts.specs.Running.{for_some_on}
use Rattle.target_snaps.proofs.SnapTurns.{froze-there, snap-frozen, snap-halted, snap-refused}
use Rattle.target_snaps.proofs.Standing.{target-froze}
use Rattle.target_snaps.proofs.Following.{end-follows, holds-then, none-tried, told-follows, told-stop}
use Rattle.target_snaps.proofs.Begun.{refused-ends}
use Rattle.daos_model.specs.Attempts.{tries}
use Rattle.world_base.specs.Snapshots.{to_actor}
use Rattle.target_snaps.specs.Following.{RequestFollows}
use Rattle.base_messages.specs.declared.message.Message.TheVariants as message
use Rattle.target_snaps.proofs.snaps.snap_at.Goals as goal

pub returns-in-Err-clause-turn : goal.returns-in-Err-clause-turn
returns-in-Err-clause-turn g c m reading tracker old d at is came =
    snap-halted c.args.plan (remembered m c.args.snaps.now) reading c.args.request tracker c.args.name.now old c.args.epoch d (g.S.Store.state c.args.store.now) (g.S.Store.state c.freeze_at.new.store) (g.S.Store.durable c.freeze_at.new.store) (g.S.Store.may c.freeze_at.new.store)
    is came m c.in-Err.halt _ (c.in-Err.ensures.froze d at) (ap Err c.stop_of.ensures)

pub returns-in-Err-clause-target : goal.returns-in-Err-clause-target
returns-in-Err-clause-target g c =
    target-froze c.args.plan c.args.request.cont c.args.epoch _ (g.S.Store.state c.args.store.now) (g.S.Store.state c.freeze_at.new.store) (g.S.Store.durable c.args.store.now) (g.S.Store.durable c.freeze_at.new.store) (g.S.Store.may c.freeze_at.new.store) c.args.knows.now c.requires.target c.requires.running
    c.in-Err.ensures.runs c.in-Err.ensures.froze

pub snap_frozen-requires-clause-target : goal.snap_frozen-requires-clause-target
snap_frozen-requires-clause-target g c =
    target-froze c.args.plan c.args.request.cont c.args.epoch _ (g.S.Store.state c.args.store.now) (g.S.Store.state c.freeze_at.new.store) (g.S.Store.durable c.args.store.now) (g.S.Store.durable c.freeze_at.new.store) (g.S.Store.may c.freeze_at.new.store) c.args.knows.now c.requires.target c.requires.running
    c.in-Ok.ensures.runs c.in-Ok.ensures.froze

pub snap_frozen-requires-clause-frozen : goal.snap_frozen-requires-clause-frozen
snap_frozen-requires-clause-frozen g c =
    for_some_on (g.S.Store.durable c.args.store.now) (g.S.Store.durable c.freeze_at.new.store) (λ x. is_frozen x c.args.request.cont c.args.epoch ≡ true) c.in-Ok.ensures.runs.told (λ d at.
    froze-there c.args.plan c.args.request.cont c.args.epoch d (g.S.Store.state c.args.store.now) (g.S.Store.state c.freeze_at.new.store) (g.S.Store.durable c.freeze_at.new.store) (g.S.Store.may c.freeze_at.new.store) c.in-Ok.froze (sym c.refusal_by.ensures ∙ c.in-None.is) (c.in-Ok.ensures.froze d at))

pub returns-in-Some-clause-turn : goal.returns-in-Some-clause-turn
returns-in-Some-clause-turn g c m reading tracker old d at is came =
    snap-refused c.args.plan (remembered m c.args.snaps.now) reading c.args.request tracker c.args.name.now old c.args.epoch d (g.S.Store.state c.args.store.now) (g.S.Store.state c.freeze_at.new.store) (g.S.Store.durable c.freeze_at.new.store) (g.S.Store.may c.freeze_at.new.store)
    is came c.in-Ok.froze c.in-Some.outcome c.new.result c.ended.result (sym c.refusal_by.ensures ∙ c.in-Some.is) c.new.ensures (c.in-Ok.ensures.froze d at) c.ended.ensures.did c.ended.ensures.wanting

pub returns-in-Some-clause-target : goal.returns-in-Some-clause-target
returns-in-Some-clause-target g c =
    target-froze c.args.plan c.args.request.cont c.args.epoch _ (g.S.Store.state c.args.store.now) (g.S.Store.state c.freeze_at.new.store) (g.S.Store.durable c.args.store.now) (g.S.Store.durable c.freeze_at.new.store) (g.S.Store.may c.freeze_at.new.store) c.args.knows.now c.requires.target c.requires.running
    c.in-Ok.ensures.runs c.in-Ok.ensures.froze

pub returns-in-None-clause-turn : goal.returns-in-None-clause-turn
returns-in-None-clause-turn g c m reading tracker old d at is came =
    let there = froze-there c.args.plan c.args.request.cont c.args.epoch d (g.S.Store.state c.args.store.now) (g.S.Store.state c.freeze_at.new.store) (g.S.Store.durable c.freeze_at.new.store) (g.S.Store.may c.freeze_at.new.store) c.in-Ok.froze (sym c.refusal_by.ensures ∙ c.in-None.is) (c.in-Ok.ensures.froze d at) in
    c.snap_frozen.ensures.turn m reading tracker old there.0 there.1
    (snap-frozen c.args.plan (remembered m c.args.snaps.now) reading c.args.request tracker c.args.name.now old c.args.epoch d (g.S.Store.state c.args.store.now) (g.S.Store.state c.freeze_at.new.store) (g.S.Store.durable c.freeze_at.new.store) (g.S.Store.may c.freeze_at.new.store)
    is came c.in-Ok.froze (sym c.refusal_by.ensures ∙ c.in-None.is) (c.in-Ok.ensures.froze d at) there.0 there.1)

-- ---- what follows

pub returns-in-Err-clause-told : goal.returns-in-Err-clause-told
returns-in-Err-clause-told g c = told-stop c.in-Err.halt (Some (c.args.request.attempt, c.args.epoch)) (Err c.stop_of.result) (ap Err c.stop_of.ensures)

pub returns-in-Some-clause-follows : goal.returns-in-Some-clause-follows
returns-in-Some-clause-follows g c =
    holds-then (RequestFollows c.args.plan.targets c.args.request c.args.snaps.now.collecting c.args.snaps.now.collecting) (to_actor c.args.request.from (message.Ended c.args.request.attempt (Some c.args.epoch) c.in-Some.outcome)) c.new.result (Some (c.args.request.attempt, c.args.epoch)) c.ended.result
    (end-follows c.args.plan.targets c.args.request (Some c.args.epoch) c.in-Some.outcome c.args.snaps.now.collecting (refused-ends c.args.plan c.in-Ok.froze c.in-Some.outcome (sym c.refusal_by.ensures ∙ c.in-Some.is))) c.ended.ensures.did

pub returns-in-Some-clause-told : goal.returns-in-Some-clause-told
returns-in-Some-clause-told g c = told-follows (to_actor c.args.request.from (message.Ended c.args.request.attempt (Some c.args.epoch) c.in-Some.outcome)) c.new.result (Some (c.args.request.attempt, c.args.epoch)) c.ended.result (ap tries c.new.ensures ∙ none-tried) c.ended.ensures.did c.ended.ensures.wanting
