use Rattle.std.proofs.Common.{◌≡◌, ◌∙◌, ◌++◌, ◌∷◌, [], Err, ap, refl, rules, Some}
use Rattle.base_types.specs.declared.report.Line.TheVariants as line
use Rattle.target_parts.specs.Stops.{stop_memory}
use Rattle.target_snaps.proofs.SnapTurns.{lone-cut, lone-told, lone-wanting}
use Rattle.target_snaps.proofs.Standing.{target-created}
use Rattle.target_snaps.proofs.Following.{end-follows, holds-then, snapshot-tried, told-follows, told-memory}
use Rattle.target_snaps.proofs.Begun.{committed-ends}
use Rattle.world_base.specs.Snapshots.{to_actor}
use Rattle.base_types.specs.declared.outcome.Outcome.TheVariants.{Committed}
use Rattle.daos_model.specs.Attempts.{tries}
use Rattle.target_snaps.specs.Following.{RequestFollows}
use Rattle.base_messages.specs.declared.message.Message.TheVariants as message
use Rattle.target_snaps.proofs.snaps.snap_alone.Goals as goal

pub returns-in-Err-clause-turn : goal.returns-in-Err-clause-turn
returns-in-Err-clause-turn g c m reading tracker old d at came =
    lone-cut c.args.plan m reading c.args.request tracker c.args.name.now old c.args.epoch d (g.S.Store.state c.args.store.now) (g.S.Store.state c.create_at.new.store) (g.S.Store.durable c.create_at.new.store) (g.S.Store.may c.create_at.new.store)
    c.args.lines c.requires.alone came m _ (c.in-Err.ensures.made d at) refl

pub returns-in_err-name-clause-turn : goal.returns-in_err-name-clause-turn
returns-in_err-name-clause-turn g c m reading tracker old d at came =
    let no : c.from_residual.result ≡ Err stop_memory = search rules in
    lone-wanting c.args.plan m reading c.args.request tracker c.args.name.now old c.args.epoch d (g.S.Store.state c.args.store.now) (g.S.Store.state c.create_at.new.store) (g.S.Store.durable c.create_at.new.store) (g.S.Store.may c.create_at.new.store)
    c.args.lines c.requires.alone came (c.in_default.ensures.made d at) _ c.from_residual.result no

pub returns-in_err-name-clause-target : goal.returns-in_err-name-clause-target
returns-in_err-name-clause-target g c =
    target-created c.args.plan c.args.request.cont c.args.epoch _ (g.S.Store.state c.args.store.now) (g.S.Store.state c.create_at.new.store) (g.S.Store.durable c.args.store.now) (g.S.Store.durable c.create_at.new.store) (g.S.Store.may c.create_at.new.store) c.args.knows.now c.requires.target c.requires.running
    c.in_default.ensures.runs c.in_default.ensures.made

pub returns-in_err-push-clause-turn : goal.returns-in_err-push-clause-turn
returns-in_err-push-clause-turn g c m reading tracker old d at came =
    let no : c.from_residual-in_err-push.result ≡ Err stop_memory = search rules in
    lone-wanting c.args.plan m reading c.args.request tracker c.args.name.now old c.args.epoch d (g.S.Store.state c.args.store.now) (g.S.Store.state c.create_at.new.store) (g.S.Store.durable c.create_at.new.store) (g.S.Store.may c.create_at.new.store)
    c.args.lines c.requires.alone came (c.in_default.ensures.made d at) _ c.from_residual-in_err-push.result no

pub returns-in_err-push-clause-target : goal.returns-in_err-push-clause-target
returns-in_err-push-clause-target g c =
    target-created c.args.plan c.args.request.cont c.args.epoch _ (g.S.Store.state c.args.store.now) (g.S.Store.state c.create_at.new.store) (g.S.Store.durable c.args.store.now) (g.S.Store.durable c.create_at.new.store) (g.S.Store.may c.create_at.new.store) c.args.knows.now c.requires.target c.requires.running
    c.in_default.ensures.runs c.in_default.ensures.made

pub returns-clause-turn : goal.returns-clause-turn
returns-clause-turn g c m reading tracker old d at came =
    lone-told c.args.plan m reading c.args.request tracker c.args.name.now old c.args.epoch d (g.S.Store.state c.args.store.now) (g.S.Store.state c.create_at.new.store) (g.S.Store.durable c.create_at.new.store) (g.S.Store.may c.create_at.new.store)
    c.args.lines c.requires.alone came (c.in_default.ensures.made d at) c.ended.result c.push.new.self
    (c.in_ok-push.ensures.ok ∙ ap (λ n. c.args.lines ++ line.Snapshot n c.args.request.cont c.args.epoch ∷ []) c.in_ok-name.ensures) c.ended.ensures.did c.ended.ensures.wanting

pub returns-clause-target : goal.returns-clause-target
returns-clause-target g c =
    target-created c.args.plan c.args.request.cont c.args.epoch _ (g.S.Store.state c.args.store.now) (g.S.Store.state c.create_at.new.store) (g.S.Store.durable c.args.store.now) (g.S.Store.durable c.create_at.new.store) (g.S.Store.may c.create_at.new.store) c.args.knows.now c.requires.target c.requires.running
    c.in_default.ensures.runs c.in_default.ensures.made

-- ---- what follows

pub returns-in_err-name-clause-told : goal.returns-in_err-name-clause-told
returns-in_err-name-clause-told g c =
    let no : c.from_residual.result ≡ Err stop_memory = search rules in
    told-memory c.from_residual.result no

pub returns-in_err-push-clause-told : goal.returns-in_err-push-clause-told
returns-in_err-push-clause-told g c =
    let no : c.from_residual-in_err-push.result ≡ Err stop_memory = search rules in
    told-memory c.from_residual-in_err-push.result no

pub returns-clause-follows : goal.returns-clause-follows
returns-clause-follows g c old = holds-then (RequestFollows c.args.plan.targets c.args.request old old) (to_actor c.args.request.from (message.Ended c.args.request.attempt (Some c.args.epoch) Committed)) c.push.new.self (Some (c.args.request.attempt, c.args.epoch)) c.ended.result (end-follows c.args.plan.targets c.args.request (Some c.args.epoch) Committed old committed-ends) c.ended.ensures.did

pub returns-clause-told : goal.returns-clause-told
returns-clause-told g c =
    told-follows (to_actor c.args.request.from (message.Ended c.args.request.attempt (Some c.args.epoch) Committed)) c.push.new.self (Some (c.args.request.attempt, c.args.epoch)) c.ended.result
    (ap tries (c.in_ok-push.ensures.ok ∙ ap (λ n. c.args.lines ++ line.Snapshot n c.args.request.cont c.args.epoch ∷ []) c.in_ok-name.ensures) ∙ snapshot-tried c.args.lines c.args.name.now c.args.request.cont c.args.epoch c.requires.lines) c.ended.ensures.did c.ended.ensures.wanting
