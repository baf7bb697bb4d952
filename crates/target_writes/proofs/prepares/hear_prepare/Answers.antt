use Rattle.world_ended.specs.TurnLaws.{on-same}
use Rattle.std.proofs.Common.{◌/◌, ap, sym, []}
use Rattle.daos_model.specs.Changes.{leased}
use Rattle.target_parts.specs.Knowing.{memory_of}
use Rattle.target_parts.specs.Posting.{later-posts}
use Rattle.target_parts.specs.Readying.{leases}
use Rattle.target_parts.specs.Running.{for_some_on}
use Rattle.target_writes.specs.Checks.{CanStore}
use Rattle.target_writes.proofs.CommitTurns.{can-leased}
use Rattle.target_writes.proofs.PrepareTurns.{prepare-cut, prepare-on}
use Rattle.world_ended.specs.world_letters.kinds.TurnLaws.{turn-on}
use Rattle.target_writes.proofs.prepares.hear_prepare.Goals as goal

pub prepare_at-requires-clause-can : goal.prepare_at-requires-clause-can
prepare_at-requires-clause-can g c =
    for_some_on (g.S.Store.durable c.args.store.now) _ (CanStore c.args.request.now.entry c.args.request.now.writes) c.in-Ok.ensures.runs.told (λ d at.
    let lease = leases (c.args.request.now.entry.epoch.0 / 256) d (g.S.Store.state c.args.store.now) _ (g.S.Store.state c.hear.new.store) (c.in-Ok.ensures.covered d at) in
    let here = c.requires.here d at in
    (leased lease.lease d, lease.kept_is, can-leased c.args.request.now.entry c.args.request.now.writes lease.lease d here.absent here.enlisted here.new lease.covers))

pub returns-in-Ok-clause-turn : goal.returns-in-Ok-clause-turn
returns-in-Ok-clause-turn g c d at =
    prepare-on c.args.plan (g.S.Store.state c.args.store.now).opening (memory_of c.args.knows.now) c.args.request.now d (g.S.Store.state c.args.store.now) (g.S.Store.state c.prepare_at.new.store) (g.S.Store.durable c.prepare_at.new.store) (g.S.Store.may c.prepare_at.new.store)
    (memory_of c.prepare_at.new.knows) c.prepare_at.result (g.S.Store.durable c.hear.new.store) (g.S.Store.state c.hear.new.store) (g.S.Store.state c.hear.new.store).opening c.in-Ok.ensures.runs.opening (c.in-Ok.ensures.covered d at)
    (λ x here. c.prepare_at.ensures.turn x here (memory_of c.args.knows.now) (sym (ap memory_of c.in-Ok.ensures.heard)))

pub returns-in-Err-clause-turn : goal.returns-in-Err-clause-turn
returns-in-Err-clause-turn g c d at =
    prepare-cut c.args.plan (g.S.Store.state c.args.store.now).opening (memory_of c.args.knows.now) c.args.request.now d (g.S.Store.state c.args.store.now) (g.S.Store.state c.hear.new.store) (g.S.Store.durable c.hear.new.store) (g.S.Store.may c.hear.new.store)
    (memory_of c.hear.new.knows) _ (c.in-Err.ensures.covered d at) c.stop_of.ensures

pub returns-in-Ok-clause-posts : goal.returns-in-Ok-clause-posts
returns-in-Ok-clause-posts g c = later-posts c.args.plan.targets c.args.knows.now.leader c.hear.new.knows.leader c.prepare_at.new.knows.leader c.prepare_at.result (ap (λ k. k.leader) c.in-Ok.ensures.heard) c.prepare_at.ensures.posts

pub returns-in-Ok-clause-reads : goal.returns-in-Ok-clause-reads
returns-in-Ok-clause-reads g c = turn-on c.prepare_at.result [] c.args.knows.now.member.memory c.hear.new.knows.member.memory c.prepare_at.new.knows.member.memory (ap (λ k. k.member.memory.parked) c.in-Ok.ensures.heard) c.prepare_at.ensures.reads

pub returns-in-Ok-clause-ends : goal.returns-in-Ok-clause-ends
returns-in-Ok-clause-ends g c asked = on-same asked c.args.knows.now.leader c.hear.new.knows.leader c.prepare_at.new.knows.leader c.prepare_at.result (ap (λ k. k.leader) c.in-Ok.ensures.heard) (c.prepare_at.ensures.ends asked)
