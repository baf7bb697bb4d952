use Rattle.world_ended.specs.TurnLaws.{on-same}
use Rattle.std.proofs.Common.{◌≡◌, ◌∙◌, ◌/◌, ap, false, refl, subst, sym, true, ◌∷◌, []}
use Rattle.base_types.specs.Operations.{read_path}
use Rattle.daos_model.specs.Changes.{leased}
use Rattle.daos_model.specs.Durables.{is_enlisted}
use Rattle.world_base.specs.Reads.{Reading}
use Rattle.target_parts.specs.KeepingLaws.{enlisted-leased}
use Rattle.target_parts.specs.Knowing.{memory_of}
use Rattle.target_parts.specs.Posting.{later-posts}
use Rattle.target_parts.specs.Readying.{leases}
use Rattle.target_parts.specs.Running.{for_some_on}
use Rattle.target_reads.specs.Fetches.{FetchTurn}
use Rattle.target_reads.proofs.FetchTurns.{fetch-at_snapshot, fetch-cut, fetch-on, own-epoch, ticks-at_snapshot, ticks-heard}
use Rattle.target_reads.proofs.Carrying.{reads-on}
use Rattle.world_base.specs.Requests.{fetch_message}
use Rattle.target_reads.proofs.fetches.hear_known.Goals as goal

pub returns-then-request-clause-turn : goal.returns-then-request-clause-turn
returns-then-request-clause-turn g c d at reading =
    let snapshot : c.args.request.now.snapshot ≡ true = c.if-request.true in
    fetch-at_snapshot c.args.plan (memory_of c.args.knows.now) reading c.args.request.now c.args.from d (g.S.Store.state c.args.store.now) (g.S.Store.state c.read_at.new.store) _ _ _ _ c.args.epoch snapshot c.requires.known
    (c.read_at.ensures.turn d at (memory_of c.args.knows.now) reading (ticks-at_snapshot c.args.request.now c.args.epoch (memory_of c.args.knows.now) snapshot))

pub read_at-requires-in-Ok-clause-enlisted : goal.read_at-requires-in-Ok-clause-enlisted
read_at-requires-in-Ok-clause-enlisted g c =
    for_some_on (g.S.Store.durable c.args.store.now) _ (λ x. is_enlisted x (read_path c.args.request.now.read).cont ≡ true) c.in-Ok.ensures.runs.told (λ d at.
    let lease = leases (c.args.epoch.0 / 256) d (g.S.Store.state c.args.store.now) _ (g.S.Store.state c.hear.new.store) (c.in-Ok.ensures.covered d at) in
    (leased lease.lease d, lease.kept_is, enlisted-leased lease.lease _ d ∙ c.requires.enlisted d at))

pub returns-in-Ok-clause-turn : goal.returns-in-Ok-clause-turn
returns-in-Ok-clause-turn g c d at reading =
    let snapshot : c.args.request.now.snapshot ≡ false = c.if-request.false in
    fetch-on c.args.plan (memory_of c.args.knows.now) reading c.args.request.now c.args.from d (g.S.Store.state c.args.store.now) (g.S.Store.state c.read_at-in-Ok.new.store) _ _ _ _ c.args.epoch (g.S.Store.durable c.hear.new.store) (g.S.Store.state c.hear.new.store) snapshot
    (own-epoch c.args.plan (memory_of c.args.knows.now) reading c.args.request.now.tracker c.args.epoch c.args.request.now.ep c.requires.known) (c.in-Ok.ensures.covered d at)
    (λ x here. subst (λ ds. FetchTurn c.args.plan (memory_of c.args.knows.now) reading c.args.request.now c.args.from (Reading c.args.epoch ds) x (g.S.Store.state c.hear.new.store) (g.S.Store.durable c.read_at-in-Ok.new.store) (g.S.Store.state c.read_at-in-Ok.new.store)
    (g.S.Store.may c.read_at-in-Ok.new.store) (memory_of c.read_at-in-Ok.new.knows) c.read_at-in-Ok.result) (ap (λ k. k.leader.decided) c.in-Ok.ensures.heard)
    (c.read_at-in-Ok.ensures.turn x here (memory_of c.args.knows.now) reading (ticks-heard c.args.request.now c.args.epoch (memory_of c.args.knows.now) snapshot ∙ sym (ap memory_of c.in-Ok.ensures.heard))))

pub returns-in-Err-clause-turn : goal.returns-in-Err-clause-turn
returns-in-Err-clause-turn g c d at reading =
    let snapshot : c.args.request.now.snapshot ≡ false = c.if-request.false in
    fetch-cut c.args.plan (memory_of c.args.knows.now) reading c.args.request.now c.args.from d (g.S.Store.state c.args.store.now) (g.S.Store.state c.hear.new.store) (g.S.Store.durable c.hear.new.store) (g.S.Store.may c.hear.new.store)
    (memory_of c.hear.new.knows) c.args.epoch _ snapshot
    (own-epoch c.args.plan (memory_of c.args.knows.now) reading c.args.request.now.tracker c.args.epoch c.args.request.now.ep c.requires.known) (c.in-Err.ensures.covered d at) c.stop_of.ensures

pub returns-in-Ok-clause-posts : goal.returns-in-Ok-clause-posts
returns-in-Ok-clause-posts g c client =
    later-posts c.args.plan.targets c.args.knows.now.leader c.hear.new.knows.leader c.read_at-in-Ok.new.knows.leader c.read_at-in-Ok.result (ap (λ k. k.leader) c.in-Ok.ensures.heard) (c.read_at-in-Ok.ensures.posts client)

pub returns-in-Ok-clause-reads : goal.returns-in-Ok-clause-reads
returns-in-Ok-clause-reads g c =
    reads-on (fetch_message c.args.request.now ∷ []) (fetch_message c.args.request.now ∷ []) c.args.knows.now.member.memory c.hear.new.knows.member.memory c.read_at-in-Ok.new.knows.member.memory c.read_at-in-Ok.result (ap (λ k. k.member.memory) c.in-Ok.ensures.heard) refl c.read_at-in-Ok.ensures.reads

pub returns-in-Ok-clause-ends : goal.returns-in-Ok-clause-ends
returns-in-Ok-clause-ends g c asked =
    on-same asked c.args.knows.now.leader c.hear.new.knows.leader c.read_at-in-Ok.new.knows.leader c.read_at-in-Ok.result (ap (λ k. k.leader) c.in-Ok.ensures.heard) (c.read_at-in-Ok.ensures.ends asked)
