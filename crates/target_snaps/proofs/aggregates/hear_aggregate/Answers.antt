use Rattle.std.proofs.Common.{◌≡◌, ◌∙◌, ◌/◌, Err, None, Some, ap, refl, sym}
use Rattle.daos_model.specs.Changes.{leased}
use Rattle.snap_core.specs.Snaps.{remembered}
use Rattle.target_parts.specs.Covers.{epoch_for, heard_of}
use Rattle.target_parts.specs.EpochLaws.{epoch-known}
use Rattle.target_parts.specs.Knowing.{memory_of}
use Rattle.target_parts.specs.KnowsLaws.{with_clock}
use Rattle.target_parts.specs.Parts.{kept}
use Rattle.target_parts.specs.Readying.{leases}
use Rattle.target_snaps.proofs.AggregateTurns.{aggregate-ready, aggregate-spent, aggregate-unready}
use Rattle.target_snaps.proofs.SnapTurns.{readied-as}
use Rattle.target_snaps.proofs.Standing.{can-freeze}
use Rattle.target_snaps.proofs.Following.{holds-then, none-answered, none-tried, one-carries, told-follows, told-stop}
use Rattle.std.proofs.lemmas.Result.{IfOk-weaker}
use Rattle.daos_model.specs.Attempts.{tries}
use Rattle.base_types.specs.declared.outcome.Outcome.TheVariants.{EpochsSpent}
use Rattle.world_base.specs.Snapshots.{to_actor}
use Rattle.world_ended.specs.world_letters.kinds.PostLaws.{CarryNone}
use Rattle.target_parts.specs.declared.knows.Knows.{Knows}
use Rattle.target_parts.specs.declared.halt.Halt.TheVariants as halt
use Rattle.base_messages.specs.declared.message.Message.TheVariants as message
use Rattle.target_snaps.proofs.aggregates.hear_aggregate.Goals as goal

pub aggregate_at-requires-clause-here : goal.aggregate_at-requires-clause-here
aggregate_at-requires-clause-here g c x here =
    let ready = c.in-Ok-Some.ensures.ready in
    let can = can-freeze c.args.request.cont c.in-Ok-Some.epoch (g.S.Store.state c.args.store.now) (g.S.Store.state c.ready.new.store) (g.S.Store.durable c.args.store.now) (g.S.Store.durable c.ready.new.store) c.requires.enlisted c.in-Ok-Some.ensures.runs.told (λ d at.
    let said = readied-as (epoch_for c.args.knows.now.hlc ready.0 c.args.tracker None) d (g.S.Store.state c.args.store.now) (g.S.Store.durable c.ready.new.store) (g.S.Store.state c.ready.new.store) (g.S.Store.may c.ready.new.store) _ (Some c.in-Ok-Some.epoch) c.in-Ok-Some.field-0-is (ready.2 d at) in
    said.1) x here in
    (can.enlisted, can.leased)

pub returns-in-Ok-Some-clause-turn : goal.returns-in-Ok-Some-clause-turn
returns-in-Ok-Some-clause-turn g c =
    let ready = c.in-Ok-Some.ensures.ready in
    let heard : c.ready.new.knows ≡ with_clock (heard_of (Some c.in-Ok-Some.epoch) c.args.knows.now.hlc) c.args.knows.now = c.in-Ok-Some.ensures.heard ∙ ap (λ o. with_clock (heard_of o c.args.knows.now.hlc) c.args.knows.now) c.in-Ok-Some.field-0-is in (
      ready.0,
      ready.1,
      λ d at.
          let said = readied-as (epoch_for c.args.knows.now.hlc ready.0 c.args.tracker None) d (g.S.Store.state c.args.store.now) (g.S.Store.durable c.ready.new.store) (g.S.Store.state c.ready.new.store) (g.S.Store.may c.ready.new.store) _ (Some c.in-Ok-Some.epoch) c.in-Ok-Some.field-0-is (ready.2 d at) in
          let is = (epoch-known c.args.plan (remembered (memory_of c.args.knows.now) c.args.snaps.now) c.args.knows.now.hlc ready.0 c.args.tracker None c.requires.target.own.clock refl ∙ said.0) in
          let lease = leases (c.in-Ok-Some.epoch.0 / 256) d (g.S.Store.state c.args.store.now) (g.S.Store.durable c.ready.new.store) (g.S.Store.state c.ready.new.store) said.1 in
          c.aggregate_at.ensures.turn (memory_of c.args.knows.now) ready.0 c.args.tracker (kept d (g.S.Store.state c.args.store.now)) (leased lease.lease d) lease.kept_is (sym (ap memory_of heard))
          (aggregate-ready c.args.plan (remembered (memory_of c.args.knows.now) c.args.snaps.now) ready.0 c.args.request c.args.tracker c.args.number d (g.S.Store.state c.args.store.now) (g.S.Store.state c.ready.new.store) (g.S.Store.durable c.ready.new.store) (g.S.Store.may c.ready.new.store) c.in-Ok-Some.epoch is said.1 (leased lease.lease d) lease.kept_is),
    )

pub returns-in-Ok-None-clause-turn : goal.returns-in-Ok-None-clause-turn
returns-in-Ok-None-clause-turn g c =
    let ready = c.in-Ok-None.ensures.ready in
    let heard : c.ready.new.knows ≡ with_clock (heard_of None c.args.knows.now.hlc) c.args.knows.now = c.in-Ok-None.ensures.heard ∙ ap (λ o. with_clock (heard_of o c.args.knows.now.hlc) c.args.knows.now) c.in-Ok-None.field-0-is in (
      ready.0,
      ready.1,
      λ d at.
          let said = readied-as (epoch_for c.args.knows.now.hlc ready.0 c.args.tracker None) d (g.S.Store.state c.args.store.now) (g.S.Store.durable c.ready.new.store) (g.S.Store.state c.ready.new.store) (g.S.Store.may c.ready.new.store) _ None c.in-Ok-None.field-0-is (ready.2 d at) in
          aggregate-spent c.args.plan (remembered (memory_of c.args.knows.now) c.args.snaps.now) ready.0 c.args.request c.args.tracker c.args.number d (g.S.Store.state c.args.store.now) (g.S.Store.state c.ready.new.store) (g.S.Store.durable c.ready.new.store) (g.S.Store.may c.ready.new.store) (remembered (memory_of c.ready.new.knows) c.args.snaps.now) c.new.result c.ended.result
          (epoch-known c.args.plan (remembered (memory_of c.args.knows.now) c.args.snaps.now) c.args.knows.now.hlc ready.0 c.args.tracker None c.requires.target.own.clock refl ∙ said.0) c.new.ensures said.1 (ap (λ k. remembered (memory_of k) c.args.snaps.now) heard) c.ended.ensures.did c.ended.ensures.wanting,
    )

pub returns-in-Err-clause-turn : goal.returns-in-Err-clause-turn
returns-in-Err-clause-turn g c =
    let ready = c.in-Err.ensures.ready in (
      ready.0,
      ready.1,
      λ d at.
          let said = ready.2 d at in
          aggregate-unready c.args.plan (remembered (memory_of c.args.knows.now) c.args.snaps.now) ready.0 c.args.request c.args.tracker c.args.number d (g.S.Store.state c.args.store.now) (g.S.Store.state c.ready.new.store) (g.S.Store.durable c.ready.new.store) (g.S.Store.may c.ready.new.store) (memory_of c.args.knows.now) said.0 _
          (epoch-known c.args.plan (remembered (memory_of c.args.knows.now) c.args.snaps.now) c.args.knows.now.hlc ready.0 c.args.tracker None c.requires.target.own.clock refl ∙ said.1) said.2 (ap Err c.stop_of.ensures),
    )

-- ---- what follows

pub returns-in-Ok-Some-clause-posts : goal.returns-in-Ok-Some-clause-posts
returns-in-Ok-Some-clause-posts g c client = IfOk-weaker c.aggregate_at.result _ _ (λ did h. h.form client) c.aggregate_at.ensures.follows

pub returns-in-Ok-Some-clause-ends : goal.returns-in-Ok-Some-clause-ends
returns-in-Ok-Some-clause-ends g c given asked = IfOk-weaker c.aggregate_at.result _ _ (λ did h. h.goes given asked) c.aggregate_at.ensures.follows

pub returns-in-Ok-None-clause-reads : goal.returns-in-Ok-None-clause-reads
returns-in-Ok-None-clause-reads g c =
    none-answered c.ended.result c.args.knows.now.member.memory c.ready.new.knows.member.memory (ap (λ (k : Knows). k.member.memory) c.in-Ok-None.ensures.heard)
    (holds-then CarryNone (to_actor c.args.request.from (message.Ended c.args.request.attempt None EpochsSpent)) c.new.result None c.ended.result (one-carries c.args.request.from (message.Ended c.args.request.attempt None EpochsSpent) refl) c.ended.ensures.did)

pub returns-in-Ok-None-clause-told : goal.returns-in-Ok-None-clause-told
returns-in-Ok-None-clause-told g c = told-follows (to_actor c.args.request.from (message.Ended c.args.request.attempt None EpochsSpent)) c.new.result None c.ended.result (ap tries c.new.ensures ∙ none-tried) c.ended.ensures.did c.ended.ensures.wanting

pub returns-in-Err-clause-told : goal.returns-in-Err-clause-told
returns-in-Err-clause-told g c = told-stop halt.Stopped None (Err c.stop_of.result) (ap Err c.stop_of.ensures)
