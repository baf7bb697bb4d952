use Rattle.world_ended.specs.Asking.{GoesWith}
use Rattle.world_ended.specs.TurnLaws.{says-ends}
use Rattle.std.proofs.Common.{inl, subst, sym, ◌≡◌, ◌∙◌, None, Some, ap, refl, []}
use Rattle.base_messages.specs.declared.message.Message.TheVariants as message
use Rattle.base_types.specs.declared.outcome.Outcome.TheVariants.{Unknown}
use Rattle.world_base.specs.Requests as asked
use Rattle.target_parts.specs.world_contents.posts.Forms.{is_told}
use Rattle.target_parts.specs.Covers.{heard_of}
use Rattle.target_parts.specs.EpochLaws.{epoch-known}
use Rattle.target_parts.specs.Knowing.{memory_of}
use Rattle.target_parts.specs.KnowsLaws.{with_clock}
use Rattle.target_parts.specs.Posting.{client-posts}
use Rattle.target_writes.proofs.CommitTurns.{readied}
use Rattle.target_writes.proofs.DownTurns.{down-cut, down-spent, down-told}
use Rattle.world_ended.specs.world_letters.kinds.TurnLaws.{is_of_read, says-none, turn-carries}
use Rattle.target_writes.proofs.downs.hear_commit_down.Goals as goal

pub returns-in-Ok-Some-clause-turn : goal.returns-in-Ok-Some-clause-turn
returns-in-Ok-Some-clause-turn g c =
    let ready = c.in-Ok-Some.ensures.ready in
    let heard : c.ready.new.knows ≡ with_clock (heard_of (Some c.in-Ok-Some.epoch) c.args.knows.now.hlc) c.args.knows.now = c.in-Ok-Some.ensures.heard ∙ ap (λ o. with_clock (heard_of o c.args.knows.now.hlc) c.args.knows.now) c.in-Ok-Some.field-0-is in (
      ready.0,
      ready.1,
      λ d at.
          let said = readied c.args.knows.now.hlc ready.0 c.args.request.now.tracker c.args.request.now.ep d _ _ _ (g.S.Store.may c.ready.new.store) _ c.in-Ok-Some.field-0-is (ready.2 d at) in
          down-told c.args.plan (g.S.Store.state c.args.store.now).opening (memory_of c.args.knows.now) ready.0 c.args.request.now c.args.from d (g.S.Store.state c.args.store.now) (g.S.Store.state c.ready.new.store) _ (g.S.Store.may c.ready.new.store)
          _ c.says.result (asked.says c.args.from c.ended-message.result c.issued_for.result) c.says.ensures.did c.says.ensures.wanting c.in-Ok-Some.epoch c.args.down
          (epoch-known c.args.plan (memory_of c.args.knows.now) c.args.knows.now.hlc ready.0 c.args.request.now.tracker c.args.request.now.ep c.requires.target.own.clock refl ∙ said.0) (c.requires.down c.in-Ok-Some.epoch) said.1 (ap memory_of heard)
          (ap (λ x. asked.says c.args.from x c.issued_for.result) c.ended-message.ensures ∙ ap (λ x. asked.says c.args.from (message.Ended c.args.request.now.attempt (Some c.in-Ok-Some.epoch) (Unknown c.args.down)) x) c.issued_for.ensures),
    )

pub returns-in-Ok-Some-clause-posts : goal.returns-in-Ok-Some-clause-posts
returns-in-Ok-Some-clause-posts g c client =
    let heard : c.ready.new.knows ≡ with_clock (heard_of (Some c.in-Ok-Some.epoch) c.args.knows.now.hlc) c.args.knows.now = c.in-Ok-Some.ensures.heard ∙ ap (λ o. with_clock (heard_of o c.args.knows.now.hlc) c.args.knows.now) c.in-Ok-Some.field-0-is in
    client-posts c.args.plan.targets c.args.knows.now.leader c.ready.new.knows.leader c.args.from c.ended-message.result c.issued_for.result c.says.result client (ap is_told c.ended-message.ensures) (ap (λ k. k.leader) heard) c.says.ensures.did

pub returns-in-Ok-None-clause-turn : goal.returns-in-Ok-None-clause-turn
returns-in-Ok-None-clause-turn g c =
    let ready = c.in-Ok-None.ensures.ready in
    let heard : c.ready.new.knows ≡ with_clock c.args.knows.now.hlc c.args.knows.now = c.in-Ok-None.ensures.heard ∙ ap (λ o. with_clock (heard_of o c.args.knows.now.hlc) c.args.knows.now) c.in-Ok-None.field-0-is in (
      ready.0,
      ready.1,
      λ d at.
          let said = readied c.args.knows.now.hlc ready.0 c.args.request.now.tracker c.args.request.now.ep d _ _ _ (g.S.Store.may c.ready.new.store) _ c.in-Ok-None.field-0-is (ready.2 d at) in
          down-spent c.args.plan (g.S.Store.state c.args.store.now).opening (memory_of c.args.knows.now) ready.0 c.args.request.now c.args.from d (g.S.Store.state c.args.store.now) (g.S.Store.state c.ready.new.store) _ (g.S.Store.may c.ready.new.store)
          _ c.says-in-Ok-None.result (asked.says c.args.from c.ended-message-in-Ok-None.result None) c.says-in-Ok-None.ensures.did c.says-in-Ok-None.ensures.wanting (record { 0 = 0 }) c.args.down
          (epoch-known c.args.plan (memory_of c.args.knows.now) c.args.knows.now.hlc ready.0 c.args.request.now.tracker c.args.request.now.ep c.requires.target.own.clock refl ∙ said.0) (c.requires.down (record { 0 = 0 })) said.1 (ap memory_of heard)
          (ap (λ x. asked.says c.args.from x None) c.ended-message-in-Ok-None.ensures),
    )

pub returns-in-Ok-None-clause-posts : goal.returns-in-Ok-None-clause-posts
returns-in-Ok-None-clause-posts g c client =
    let heard : c.ready.new.knows ≡ with_clock c.args.knows.now.hlc c.args.knows.now = c.in-Ok-None.ensures.heard ∙ ap (λ o. with_clock (heard_of o c.args.knows.now.hlc) c.args.knows.now) c.in-Ok-None.field-0-is in
    client-posts c.args.plan.targets c.args.knows.now.leader c.ready.new.knows.leader c.args.from c.ended-message-in-Ok-None.result None c.says-in-Ok-None.result client (ap is_told c.ended-message-in-Ok-None.ensures) (ap (λ k. k.leader) heard) c.says-in-Ok-None.ensures.did

pub returns-in-Err-clause-turn : goal.returns-in-Err-clause-turn
returns-in-Err-clause-turn g c =
    let ready = c.in-Err.ensures.ready in (
      ready.0,
      ready.1,
      λ d at.
          let said = ready.2 d at in
          down-cut c.args.plan (g.S.Store.state c.args.store.now).opening (memory_of c.args.knows.now) ready.0 c.args.request.now c.args.from d (g.S.Store.state c.args.store.now) (g.S.Store.state c.ready.new.store) (g.S.Store.durable c.ready.new.store) (g.S.Store.may c.ready.new.store)
          (memory_of c.ready.new.knows) said.0 _
          (epoch-known c.args.plan (memory_of c.args.knows.now) c.args.knows.now.hlc ready.0 c.args.request.now.tracker c.args.request.now.ep c.requires.target.own.clock refl ∙ said.1) said.2 c.stop_of.ensures,
    )

pub returns-in-Ok-Some-clause-reads : goal.returns-in-Ok-Some-clause-reads
returns-in-Ok-Some-clause-reads g c =
    turn-carries c.says.result [] c.args.knows.now.member.memory c.ready.new.knows.member.memory (ap (λ k. k.member.memory.parked) c.in-Ok-Some.ensures.heard)
    (says-none c.says.result c.args.from c.ended-message.result c.issued_for.result (ap is_of_read c.ended-message.ensures) c.says.ensures.did)

pub returns-in-Ok-None-clause-reads : goal.returns-in-Ok-None-clause-reads
returns-in-Ok-None-clause-reads g c =
    turn-carries c.says-in-Ok-None.result [] c.args.knows.now.member.memory c.ready.new.knows.member.memory (ap (λ k. k.member.memory.parked) c.in-Ok-None.ensures.heard)
    (says-none c.says-in-Ok-None.result c.args.from c.ended-message-in-Ok-None.result None (ap is_of_read c.ended-message-in-Ok-None.ensures) c.says-in-Ok-None.ensures.did)

pub returns-in-Ok-Some-clause-ends : goal.returns-in-Ok-Some-clause-ends
returns-in-Ok-Some-clause-ends g c asked =
    let heard : c.ready.new.knows ≡ with_clock (heard_of (Some c.in-Ok-Some.epoch) c.args.knows.now.hlc) c.args.knows.now = c.in-Ok-Some.ensures.heard ∙ ap (λ o. with_clock (heard_of o c.args.knows.now.hlc) c.args.knows.now) c.in-Ok-Some.field-0-is in
    says-ends asked c.args.knows.now.leader c.ready.new.knows.leader c.args.from c.ended-message.result c.issued_for.result c.says.result (ap (λ k. k.leader) heard) (subst (GoesWith asked) (sym c.ended-message.ensures) (inl refl)) c.says.ensures.did

pub returns-in-Ok-None-clause-ends : goal.returns-in-Ok-None-clause-ends
returns-in-Ok-None-clause-ends g c asked =
    let heard : c.ready.new.knows ≡ with_clock c.args.knows.now.hlc c.args.knows.now = c.in-Ok-None.ensures.heard ∙ ap (λ o. with_clock (heard_of o c.args.knows.now.hlc) c.args.knows.now) c.in-Ok-None.field-0-is in
    says-ends asked c.args.knows.now.leader c.ready.new.knows.leader c.args.from c.ended-message-in-Ok-None.result None c.says-in-Ok-None.result (ap (λ k. k.leader) heard) (subst (GoesWith asked) (sym c.ended-message-in-Ok-None.ensures) (inl refl)) c.says-in-Ok-None.ensures.did
