use Rattle.world_ended.specs.Asking.{GoesWith}
use Rattle.world_ended.specs.TurnLaws.{on-same, says-ends}
use Rattle.std.proofs.Common.{inl, subst, ◌≡◌, ◌∙◌, ◌/◌, ◌<◌, None, Some, ap, arith, refl, sym, []}
use Rattle.daos_model.specs.Changes.{leased}
use Rattle.world_base.specs.Commits.{led_entry, own_writes}
use Rattle.world_base.specs.Requests as asked
use Rattle.target_parts.specs.world_contents.posts.Forms.{is_told}
use Rattle.target_parts.specs.Covers.{heard_of}
use Rattle.target_parts.specs.EpochLaws.{epoch-known}
use Rattle.target_parts.specs.Knowing.{memory_of}
use Rattle.target_parts.specs.KnowsLaws.{with_clock}
use Rattle.target_parts.specs.Posting.{client-posts, later-posts}
use Rattle.target_parts.specs.Readying.{leases}
use Rattle.target_parts.specs.Running.{for_some_on}
use Rattle.target_writes.specs.Checks.{CanStore}
use Rattle.target_writes.proofs.CommitTurns.{can-leased, commit-cut, commit-on, commit-spent, readied, request-new}
use Rattle.target_writes.proofs.Owning.{own-enlisted}
use Rattle.world_ended.specs.world_letters.kinds.TurnLaws.{is_of_read, says-none, turn-carries, turn-on}
use Rattle.target_writes.proofs.commits.hear_commit.Goals as goal

pub commit_at-requires-clause-can : goal.commit_at-requires-clause-can
commit_at-requires-clause-can g c =
    let ready = c.in-Ok-Some.ensures.ready in
    let led = led_entry c.args.plan c.args.request.now c.in-Ok-Some.epoch in
    let own = own_writes c.args.plan c.args.request.now.writes in
    for_some_on (g.S.Store.durable c.args.store.now) _ (CanStore led own) c.in-Ok-Some.ensures.runs.told (λ d at.
    let said = readied c.args.knows.now.hlc ready.0 c.args.request.now.tracker c.args.request.now.ep d _ _ _ (g.S.Store.may c.ready.new.store) _ c.in-Ok-Some.field-0-is (ready.2 d at) in
    let lease = leases (c.in-Ok-Some.epoch.0 / 256) d (g.S.Store.state c.args.store.now) _ (g.S.Store.state c.ready.new.store) said.1 in
    let here = c.requires.here d at in
    let small : c.args.knows.now.hlc.target < 256 = (let own = c.requires.target.own.clock in let me = c.requires.target.placed.me in let few = c.requires.target.few in omega (arith, own, me, few)) in (
      leased lease.lease d,
      lease.kept_is,
      can-leased led own lease.lease d here.absent (own-enlisted c.args.plan c.args.request.now.writes d here.enlisted)
          (request-new c.args.knows.now.hlc ready.0 c.args.request.now.tracker c.in-Ok-Some.epoch c.args.request.now.ep own d small (c.requires.target.leads c.requires.running d at).heard here.new said.0) lease.covers,
    ))

pub returns-in-Ok-Some-clause-turn : goal.returns-in-Ok-Some-clause-turn
returns-in-Ok-Some-clause-turn g c =
    let ready = c.in-Ok-Some.ensures.ready in
    let heard : c.ready.new.knows ≡ with_clock (heard_of (Some c.in-Ok-Some.epoch) c.args.knows.now.hlc) c.args.knows.now = c.in-Ok-Some.ensures.heard ∙ ap (λ o. with_clock (heard_of o c.args.knows.now.hlc) c.args.knows.now) c.in-Ok-Some.field-0-is in (
      ready.0,
      ready.1,
      λ d at.
          let said = readied c.args.knows.now.hlc ready.0 c.args.request.now.tracker c.args.request.now.ep d _ _ _ (g.S.Store.may c.ready.new.store) _ c.in-Ok-Some.field-0-is (ready.2 d at) in
          commit-on c.args.plan (g.S.Store.state c.args.store.now).opening (memory_of c.args.knows.now) ready.0 c.args.request.now c.args.from d (g.S.Store.state c.args.store.now) (g.S.Store.state c.commit_at.new.store) _ _ _ _ c.in-Ok-Some.epoch
          (g.S.Store.durable c.ready.new.store) (g.S.Store.state c.ready.new.store) (g.S.Store.state c.ready.new.store).opening c.in-Ok-Some.ensures.runs.opening
          (epoch-known c.args.plan (memory_of c.args.knows.now) c.args.knows.now.hlc ready.0 c.args.request.now.tracker c.args.request.now.ep c.requires.target.own.clock refl ∙ said.0) said.1
          (λ x here. c.commit_at.ensures.turn x here (memory_of c.args.knows.now) ready.0 (sym (ap memory_of heard))),
    )

pub returns-in-Ok-None-clause-turn : goal.returns-in-Ok-None-clause-turn
returns-in-Ok-None-clause-turn g c =
    let ready = c.in-Ok-None.ensures.ready in
    let heard : c.ready.new.knows ≡ with_clock c.args.knows.now.hlc c.args.knows.now = c.in-Ok-None.ensures.heard ∙ ap (λ o. with_clock (heard_of o c.args.knows.now.hlc) c.args.knows.now) c.in-Ok-None.field-0-is in (
      ready.0,
      ready.1,
      λ d at.
          let said = readied c.args.knows.now.hlc ready.0 c.args.request.now.tracker c.args.request.now.ep d _ _ _ (g.S.Store.may c.ready.new.store) _ c.in-Ok-None.field-0-is (ready.2 d at) in
          commit-spent c.args.plan (g.S.Store.state c.args.store.now).opening (memory_of c.args.knows.now) ready.0 c.args.request.now c.args.from d (g.S.Store.state c.args.store.now) (g.S.Store.state c.ready.new.store) _ _ _ _
          (asked.says c.args.from c.ended-message.result None)
          (epoch-known c.args.plan (memory_of c.args.knows.now) c.args.knows.now.hlc ready.0 c.args.request.now.tracker c.args.request.now.ep c.requires.target.own.clock refl ∙ said.0) said.1
          (ap memory_of heard)
          (ap (λ x. asked.says c.args.from x None) c.ended-message.ensures) c.says.ensures.did c.says.ensures.wanting,
    )

pub returns-in-Err-clause-turn : goal.returns-in-Err-clause-turn
returns-in-Err-clause-turn g c =
    let ready = c.in-Err.ensures.ready in (
      ready.0,
      ready.1,
      λ d at.
          let said = ready.2 d at in
          commit-cut c.args.plan (g.S.Store.state c.args.store.now).opening (memory_of c.args.knows.now) ready.0 c.args.request.now c.args.from d (g.S.Store.state c.args.store.now) (g.S.Store.state c.ready.new.store) (g.S.Store.durable c.ready.new.store) (g.S.Store.may c.ready.new.store)
          (memory_of c.ready.new.knows) said.0 _
          (epoch-known c.args.plan (memory_of c.args.knows.now) c.args.knows.now.hlc ready.0 c.args.request.now.tracker c.args.request.now.ep c.requires.target.own.clock refl ∙ said.1) said.2 c.stop_of.ensures,
    )

pub returns-in-Ok-Some-clause-posts : goal.returns-in-Ok-Some-clause-posts
returns-in-Ok-Some-clause-posts g c client =
    let heard : c.ready.new.knows ≡ with_clock (heard_of (Some c.in-Ok-Some.epoch) c.args.knows.now.hlc) c.args.knows.now = c.in-Ok-Some.ensures.heard ∙ ap (λ o. with_clock (heard_of o c.args.knows.now.hlc) c.args.knows.now) c.in-Ok-Some.field-0-is in
    later-posts c.args.plan.targets c.args.knows.now.leader c.ready.new.knows.leader c.commit_at.new.knows.leader c.commit_at.result (ap (λ k. k.leader) heard) (c.commit_at.ensures.posts client)

pub returns-in-Ok-None-clause-posts : goal.returns-in-Ok-None-clause-posts
returns-in-Ok-None-clause-posts g c client =
    let heard : c.ready.new.knows ≡ with_clock c.args.knows.now.hlc c.args.knows.now = c.in-Ok-None.ensures.heard ∙ ap (λ o. with_clock (heard_of o c.args.knows.now.hlc) c.args.knows.now) c.in-Ok-None.field-0-is in
    client-posts c.args.plan.targets c.args.knows.now.leader c.ready.new.knows.leader c.args.from c.ended-message.result None c.says.result client (ap is_told c.ended-message.ensures) (ap (λ k. k.leader) heard) c.says.ensures.did

pub returns-in-Ok-Some-clause-reads : goal.returns-in-Ok-Some-clause-reads
returns-in-Ok-Some-clause-reads g c =
    turn-on c.commit_at.result [] c.args.knows.now.member.memory c.ready.new.knows.member.memory c.commit_at.new.knows.member.memory (ap (λ k. k.member.memory.parked) c.in-Ok-Some.ensures.heard) c.commit_at.ensures.reads

pub returns-in-Ok-None-clause-reads : goal.returns-in-Ok-None-clause-reads
returns-in-Ok-None-clause-reads g c =
    turn-carries c.says.result [] c.args.knows.now.member.memory c.ready.new.knows.member.memory (ap (λ k. k.member.memory.parked) c.in-Ok-None.ensures.heard)
    (says-none c.says.result c.args.from c.ended-message.result None (ap is_of_read c.ended-message.ensures) c.says.ensures.did)

pub returns-in-Ok-Some-clause-ends : goal.returns-in-Ok-Some-clause-ends
returns-in-Ok-Some-clause-ends g c asked was =
    let heard : c.ready.new.knows ≡ with_clock (heard_of (Some c.in-Ok-Some.epoch) c.args.knows.now.hlc) c.args.knows.now = c.in-Ok-Some.ensures.heard ∙ ap (λ o. with_clock (heard_of o c.args.knows.now.hlc) c.args.knows.now) c.in-Ok-Some.field-0-is in
    on-same asked c.args.knows.now.leader c.ready.new.knows.leader c.commit_at.new.knows.leader c.commit_at.result (ap (λ k. k.leader) heard) (c.commit_at.ensures.ends asked was)

pub returns-in-Ok-None-clause-ends : goal.returns-in-Ok-None-clause-ends
returns-in-Ok-None-clause-ends g c asked was =
    let heard : c.ready.new.knows ≡ with_clock c.args.knows.now.hlc c.args.knows.now = c.in-Ok-None.ensures.heard ∙ ap (λ o. with_clock (heard_of o c.args.knows.now.hlc) c.args.knows.now) c.in-Ok-None.field-0-is in
    says-ends asked c.args.knows.now.leader c.ready.new.knows.leader c.args.from c.ended-message.result None c.says.result (ap (λ k. k.leader) heard) (subst (GoesWith asked) (sym c.ended-message.ensures) (inl refl)) c.says.ensures.did
