use Rattle.world_ended.specs.TurnLaws.{says-ends}
use Rattle.std.proofs.Common.{false, ◌∙◌, Err, Ok, ap, refl, subst, sym, [], None}
use Rattle.vos_store.specs.Conditions.{IsPreparable}
use Rattle.world_base.specs.Prepares.{acks}
use Rattle.target_parts.specs.Halts.{halt_stop}
use Rattle.target_parts.specs.Knowing.{memory_of}
use Rattle.target_parts.specs.KnowsLaws.{memory-same}
use Rattle.target_parts.specs.Standing.{target-kept}
use Rattle.target_writes.specs.Checks.{CanStore}
use Rattle.target_writes.proofs.CommitTurns.{prepares-as}
use Rattle.target_writes.proofs.PrepareTurns.{asked-preparable, prepare-halted, prepare-told}
use Rattle.target_writes.proofs.Posting.{ack-posts}
use Rattle.world_ended.specs.world_letters.kinds.TurnLaws.{says-none, turn-carries}
use Rattle.base_messages.specs.declared.message.Message.TheVariants.{Ack}
use Rattle.target_writes.proofs.prepares.prepare_at.Goals as goal

pub prepare-requires-clause-form : goal.prepare-requires-clause-form
prepare-requires-clause-form g c =
    let s = g.S.Store.state c.args.store.now in
    subst (λ ws. IsPreparable s c.args.request.now.entry ws) (sym c.as_slice-writes.ensures) (asked-preparable c.args.plan s c.args.request.now.entry c.args.request.now.writes c.requires.target.placed c.requires.form)

pub prepare-requires-clause-can : goal.prepare-requires-clause-can
prepare-requires-clause-can g c x at = subst (λ ws. CanStore c.args.request.now.entry ws x) (sym c.as_slice-writes.ensures) (c.requires.can x at)

pub returns-in-Ok-clause-turn : goal.returns-in-Ok-clause-turn
returns-in-Ok-clause-turn g c d at m ticks =
    let known = memory-same c.args.knows.now c.prepare.new.knows c.in-Ok.ensures.keeps.beside c.in-Ok.ensures.leader ∙ sym ticks in
    prepare-told c.args.plan (g.S.Store.state c.args.store.now).opening m c.args.request.now d (g.S.Store.state c.args.store.now) (g.S.Store.state c.prepare.new.store) (g.S.Store.durable c.prepare.new.store) (g.S.Store.may c.prepare.new.store)
    (memory_of c.prepare.new.knows) c.in-Ok.refusal (acks c.args.request.now c.in-Ok.refusal) c.acks.result known refl c.acks.ensures.did c.acks.ensures.wanting
    (prepares-as c.args.plan (g.S.Store.state c.args.store.now).opening m (memory_of c.args.knows.now) c.args.request.now.first c.args.request.now.entry c.args.request.now.entry c.as_slice-writes.result.now c.args.request.now.writes d (g.S.Store.state c.args.store.now)
    (g.S.Store.durable c.prepare.new.store) (g.S.Store.state c.prepare.new.store) (g.S.Store.may c.prepare.new.store) (Ok c.in-Ok.refusal) (Ok c.in-Ok.refusal) (sym (ap (λ x. x.stamps) ticks)) refl c.as_slice-writes.ensures refl (c.in-Ok.ensures.prepared d at))

pub returns-in-Ok-clause-target : goal.returns-in-Ok-clause-target
returns-in-Ok-clause-target g c =
    target-kept c.args.plan halt_stop _ (g.S.Store.state c.args.store.now) (g.S.Store.state c.prepare.new.store) (g.S.Store.durable c.args.store.now) (g.S.Store.durable c.prepare.new.store) c.args.knows.now c.prepare.new.knows c.requires.target c.in-Ok.ensures.keeps

pub returns-in-Err-clause-turn : goal.returns-in-Err-clause-turn
returns-in-Err-clause-turn g c d at m ticks =
    prepare-halted c.args.plan (g.S.Store.state c.args.store.now).opening m c.args.request.now d (g.S.Store.state c.args.store.now) (g.S.Store.state c.prepare.new.store) (g.S.Store.durable c.prepare.new.store) (g.S.Store.may c.prepare.new.store)
    (memory_of c.prepare.new.knows) c.in-Err.halt c.stop_of.result c.stop_of.ensures
    (prepares-as c.args.plan (g.S.Store.state c.args.store.now).opening m (memory_of c.args.knows.now) c.args.request.now.first c.args.request.now.entry c.args.request.now.entry c.as_slice-writes.result.now c.args.request.now.writes d (g.S.Store.state c.args.store.now)
    (g.S.Store.durable c.prepare.new.store) (g.S.Store.state c.prepare.new.store) (g.S.Store.may c.prepare.new.store) (Err c.in-Err.halt) (Err c.in-Err.halt) (sym (ap (λ x. x.stamps) ticks)) refl c.as_slice-writes.ensures refl (c.in-Err.ensures.prepared d at))

pub returns-in-Err-clause-target : goal.returns-in-Err-clause-target
returns-in-Err-clause-target g c =
    target-kept c.args.plan halt_stop _ (g.S.Store.state c.args.store.now) (g.S.Store.state c.prepare.new.store) (g.S.Store.durable c.args.store.now) (g.S.Store.durable c.prepare.new.store) c.args.knows.now c.prepare.new.knows c.requires.target c.in-Err.ensures.keeps

pub returns-in-Ok-clause-posts : goal.returns-in-Ok-clause-posts
returns-in-Ok-clause-posts g c =
    ack-posts c.args.plan.targets c.args.knows.now.leader c.prepare.new.knows.leader c.args.request.now c.in-Ok.refusal c.acks.result c.in-Ok.ensures.leader c.acks.ensures.did

pub returns-in-Ok-clause-reads : goal.returns-in-Ok-clause-reads
returns-in-Ok-clause-reads g c =
    let q = c.args.request.now in
    turn-carries c.acks.result [] c.args.knows.now.member.memory c.prepare.new.knows.member.memory (ap (λ m. m.memory.parked) c.in-Ok.ensures.keeps.beside.member)
    (says-none c.acks.result (record { client = false; number = q.entry.leader }) (Ack q.entry.attempt q.inc c.in-Ok.refusal) None refl c.acks.ensures.did)

pub returns-in-Ok-clause-ends : goal.returns-in-Ok-clause-ends
returns-in-Ok-clause-ends g c asked =
    let q = c.args.request.now in
    says-ends asked c.args.knows.now.leader c.prepare.new.knows.leader (record { client = false; number = q.entry.leader }) (Ack q.entry.attempt q.inc c.in-Ok.refusal) None c.acks.result c.in-Ok.ensures.leader c.in-Ok.ensures.refused c.acks.ensures.did
