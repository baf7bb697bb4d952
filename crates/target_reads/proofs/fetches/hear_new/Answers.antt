use Rattle.world_ended.specs.Asking.{GoesWith}
use Rattle.world_ended.specs.TurnLaws.{on-same, says-ends}
use Rattle.std.proofs.Common.{◌≡◌, ◌∙◌, ◌/◌, None, Some, ap, false, refl, subst, sym, true, ◌∷◌, []}
use Rattle.base_types.specs.Operations.{read_path}
use Rattle.daos_model.specs.Changes.{leased}
use Rattle.daos_model.specs.Durables.{is_enlisted}
use Rattle.world_base.specs.Requests as asked
use Rattle.world_base.specs.Reads.{Reading}
use Rattle.target_parts.specs.world_contents.posts.Forms.{is_told}
use Rattle.target_parts.specs.Covers.{heard_of}
use Rattle.target_parts.specs.KeepingLaws.{enlisted-leased}
use Rattle.target_parts.specs.Knowing.{memory_of}
use Rattle.target_parts.specs.KnowsLaws.{with_clock}
use Rattle.target_parts.specs.Posting.{client-posts, later-posts}
use Rattle.target_parts.specs.Readying.{leases}
use Rattle.target_parts.specs.Running.{for_some_on}
use Rattle.target_reads.specs.Fetches.{FetchTurn}
use Rattle.target_reads.proofs.FetchTurns.{fetch-cut, fetch-on, fetch-spent, new-known, new-unfrozen, readied, ticks-heard}
use Rattle.target_reads.proofs.Carrying.{reads-on, spent-reads}
use Rattle.base_types.specs.declared.outcome.Outcome.TheVariants as outcome
use Rattle.world_base.specs.Requests.{fetch_message}
use Rattle.target_reads.proofs.fetches.hear_new.Goals as goal

pub read_at-requires-clause-enlisted : goal.read_at-requires-clause-enlisted
read_at-requires-clause-enlisted g c =
    let ready = c.in-Ok-Some.ensures.ready in
    for_some_on (g.S.Store.durable c.args.store.now) _ (λ x. is_enlisted x (read_path c.args.request.now.read).cont ≡ true) c.in-Ok-Some.ensures.runs.told (λ d at.
    let said = readied c.args.knows.now.hlc ready.0 c.args.request.now.tracker d _ _ _ (g.S.Store.may c.ready.new.store) _ c.in-Ok-Some.field-0-is (ready.2 d at) in
    let lease = leases (c.in-Ok-Some.epoch.0 / 256) d (g.S.Store.state c.args.store.now) _ (g.S.Store.state c.ready.new.store) said.1 in
    (leased lease.lease d, lease.kept_is, enlisted-leased lease.lease _ d ∙ c.requires.enlisted d at))

pub returns-in-Ok-Some-clause-turn : goal.returns-in-Ok-Some-clause-turn
returns-in-Ok-Some-clause-turn g c =
    let ready = c.in-Ok-Some.ensures.ready in
    let heard : c.ready.new.knows ≡ with_clock (heard_of (Some c.in-Ok-Some.epoch) c.args.knows.now.hlc) c.args.knows.now = c.in-Ok-Some.ensures.heard ∙ ap (λ o. with_clock (heard_of o c.args.knows.now.hlc) c.args.knows.now) c.in-Ok-Some.field-0-is in
    let snapshot : c.args.request.now.snapshot ≡ false = new-unfrozen c.args.request.now c.requires.form c.requires.new in (
      ready.0,
      ready.1,
      λ d at.
          let said = readied c.args.knows.now.hlc ready.0 c.args.request.now.tracker d _ _ _ (g.S.Store.may c.ready.new.store) _ c.in-Ok-Some.field-0-is (ready.2 d at) in
          fetch-on c.args.plan (memory_of c.args.knows.now) ready.0 c.args.request.now c.args.from d (g.S.Store.state c.args.store.now) (g.S.Store.state c.read_at.new.store) _ _ _ _ c.in-Ok-Some.epoch (g.S.Store.durable c.ready.new.store) (g.S.Store.state c.ready.new.store) snapshot
          (new-known c.args.plan c.args.knows.now ready.0 c.args.request.now c.requires.target.own c.requires.new ∙ said.0) said.1
          (λ x here. subst (λ ds. FetchTurn c.args.plan (memory_of c.args.knows.now) ready.0 c.args.request.now c.args.from (Reading c.in-Ok-Some.epoch ds) x (g.S.Store.state c.ready.new.store) (g.S.Store.durable c.read_at.new.store) (g.S.Store.state c.read_at.new.store)
          (g.S.Store.may c.read_at.new.store) (memory_of c.read_at.new.knows) c.read_at.result) (ap (λ k. k.leader.decided) heard)
          (c.read_at.ensures.turn x here (memory_of c.args.knows.now) ready.0 (ticks-heard c.args.request.now c.in-Ok-Some.epoch (memory_of c.args.knows.now) snapshot ∙ sym (ap memory_of heard)))),
    )

pub returns-in-Ok-None-clause-turn : goal.returns-in-Ok-None-clause-turn
returns-in-Ok-None-clause-turn g c =
    let ready = c.in-Ok-None.ensures.ready in
    let heard : c.ready.new.knows ≡ with_clock c.args.knows.now.hlc c.args.knows.now = c.in-Ok-None.ensures.heard ∙ ap (λ o. with_clock (heard_of o c.args.knows.now.hlc) c.args.knows.now) c.in-Ok-None.field-0-is in
    let snapshot : c.args.request.now.snapshot ≡ false = new-unfrozen c.args.request.now c.requires.form c.requires.new in (
      ready.0,
      ready.1,
      λ d at.
          let said = readied c.args.knows.now.hlc ready.0 c.args.request.now.tracker d _ _ _ (g.S.Store.may c.ready.new.store) _ c.in-Ok-None.field-0-is (ready.2 d at) in
          fetch-spent c.args.plan (memory_of c.args.knows.now) ready.0 c.args.request.now c.args.from d (g.S.Store.state c.args.store.now) (g.S.Store.state c.ready.new.store) _ _ _ _ (asked.says c.args.from c.fetched.result None) snapshot
          (new-known c.args.plan c.args.knows.now ready.0 c.args.request.now c.requires.target.own c.requires.new ∙ said.0) said.1
          (ap memory_of heard)
          (ap (λ x. asked.says c.args.from x None) c.fetched.ensures) c.says.ensures.did c.says.ensures.wanting,
    )

pub returns-in-Err-clause-turn : goal.returns-in-Err-clause-turn
returns-in-Err-clause-turn g c =
    let ready = c.in-Err.ensures.ready in
    let snapshot : c.args.request.now.snapshot ≡ false = new-unfrozen c.args.request.now c.requires.form c.requires.new in (
      ready.0,
      ready.1,
      λ d at.
          let said = ready.2 d at in
          fetch-cut c.args.plan (memory_of c.args.knows.now) ready.0 c.args.request.now c.args.from d (g.S.Store.state c.args.store.now) (g.S.Store.state c.ready.new.store) (g.S.Store.durable c.ready.new.store) (g.S.Store.may c.ready.new.store)
          (memory_of c.ready.new.knows) said.0 _ snapshot
          (new-known c.args.plan c.args.knows.now ready.0 c.args.request.now c.requires.target.own c.requires.new ∙ said.1) said.2 c.stop_of.ensures,
    )

pub returns-in-Ok-Some-clause-posts : goal.returns-in-Ok-Some-clause-posts
returns-in-Ok-Some-clause-posts g c client =
    let heard : c.ready.new.knows ≡ with_clock (heard_of (Some c.in-Ok-Some.epoch) c.args.knows.now.hlc) c.args.knows.now = c.in-Ok-Some.ensures.heard ∙ ap (λ o. with_clock (heard_of o c.args.knows.now.hlc) c.args.knows.now) c.in-Ok-Some.field-0-is in
    later-posts c.args.plan.targets c.args.knows.now.leader c.ready.new.knows.leader c.read_at.new.knows.leader c.read_at.result (ap (λ k. k.leader) heard) (c.read_at.ensures.posts client)

pub returns-in-Ok-None-clause-posts : goal.returns-in-Ok-None-clause-posts
returns-in-Ok-None-clause-posts g c client =
    let heard : c.ready.new.knows ≡ with_clock c.args.knows.now.hlc c.args.knows.now = c.in-Ok-None.ensures.heard ∙ ap (λ o. with_clock (heard_of o c.args.knows.now.hlc) c.args.knows.now) c.in-Ok-None.field-0-is in
    client-posts c.args.plan.targets c.args.knows.now.leader c.ready.new.knows.leader c.args.from c.fetched.result None c.says.result client (ap is_told c.fetched.ensures) (ap (λ k. k.leader) heard) c.says.ensures.did

pub returns-in-Ok-Some-clause-reads : goal.returns-in-Ok-Some-clause-reads
returns-in-Ok-Some-clause-reads g c =
    reads-on (fetch_message c.args.request.now ∷ []) (fetch_message c.args.request.now ∷ []) c.args.knows.now.member.memory c.ready.new.knows.member.memory c.read_at.new.knows.member.memory c.read_at.result (ap (λ k. k.member.memory) c.in-Ok-Some.ensures.heard) refl c.read_at.ensures.reads

pub returns-in-Ok-None-clause-reads : goal.returns-in-Ok-None-clause-reads
returns-in-Ok-None-clause-reads g c =
    spent-reads c.args.request.now c.args.from c.fetched.result outcome.EpochsSpent c.args.knows.now.member.memory c.ready.new.knows.member.memory c.says.result c.fetched.ensures (ap (λ k. k.member.memory) c.in-Ok-None.ensures.heard) c.says.ensures.did

pub returns-in-Ok-Some-clause-ends : goal.returns-in-Ok-Some-clause-ends
returns-in-Ok-Some-clause-ends g c asked =
    let heard : c.ready.new.knows ≡ with_clock (heard_of (Some c.in-Ok-Some.epoch) c.args.knows.now.hlc) c.args.knows.now = c.in-Ok-Some.ensures.heard ∙ ap (λ o. with_clock (heard_of o c.args.knows.now.hlc) c.args.knows.now) c.in-Ok-Some.field-0-is in
    on-same asked c.args.knows.now.leader c.ready.new.knows.leader c.read_at.new.knows.leader c.read_at.result (ap (λ k. k.leader) heard) (c.read_at.ensures.ends asked)

pub returns-in-Ok-None-clause-ends : goal.returns-in-Ok-None-clause-ends
returns-in-Ok-None-clause-ends g c asked =
    let heard : c.ready.new.knows ≡ with_clock c.args.knows.now.hlc c.args.knows.now = c.in-Ok-None.ensures.heard ∙ ap (λ o. with_clock (heard_of o c.args.knows.now.hlc) c.args.knows.now) c.in-Ok-None.field-0-is in
    says-ends asked c.args.knows.now.leader c.ready.new.knows.leader c.args.from c.fetched.result None c.says.result (ap (λ k. k.leader) heard) (subst (GoesWith asked) (sym c.fetched.ensures) refl) c.says.ensures.did
