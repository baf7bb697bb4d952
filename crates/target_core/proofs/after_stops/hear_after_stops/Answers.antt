use Rattle.target_reads.specs.world_ended.Asking.{GoesWith}
use Rattle.target_reads.specs.world_ended.TurnLaws.{posts-end}
use Rattle.std.proofs.Common.{◌≡◌, ◌∙◌, ap, false, subst, sym, [], refl}
use Rattle.base_messages.specs.declared.message.Message.{Reset}
use Rattle.target_parts.specs.Knowing.{memory_of}
use Rattle.target_core.specs.Targets.{HasFormAfterStops, HearsOrStops, is_collecting}
use Rattle.snap_core.specs.Snaps.{remembered}
use Rattle.world_base.specs.Statuses.{ask_left, reset_left, status_left, status_refusal}
use Rattle.target_core.proofs.Beside.{ack-beside, looked-beside}
use Rattle.target_core.proofs.Heard.{hears-ask, hears-reset, hears-status, hears-status_is, reset-form}
use Rattle.target_reads.specs.world_letters.kinds.TurnLaws.{turn-carries}
use Rattle.target_core.proofs.after_stops.hear_after_stops.Goals as goal

pub hear_reset-requires-clause-one : goal.hear_reset-requires-clause-one
hear_reset-requires-clause-one g c = (reset-form c.in-Reset.target c.in-Reset.down c.in-Reset.message (subst HasFormAfterStops c.in-Reset.is c.requires.form)).0

pub returns-in-Ask-clause-turn : goal.returns-in-Ask-clause-turn
returns-in-Ask-clause-turn g c n snaps d at reading =
    subst (λ m. HearsOrStops n c.args.plan (remembered (memory_of c.args.knows.now) snaps) reading c.args.from m d (g.S.Store.state c.args.store.now) (g.S.Store.durable c.args.store.now) (g.S.Store.state c.args.store.now) (g.S.Store.may c.args.store.now) (remembered (memory_of c.hear_ask.new.knows) snaps) c.hear_ask.result) (sym c.in-Ask.is)
    (hears-ask n c.args.plan (remembered (memory_of c.args.knows.now) snaps) reading c.args.from d (g.S.Store.state c.args.store.now) (g.S.Store.durable c.args.store.now) (g.S.Store.state c.args.store.now) (g.S.Store.may c.args.store.now) (remembered (memory_of c.hear_ask.new.knows) snaps) c.in-Ask.attempt c.hear_ask.result
    (looked-beside snaps (ask_left c.args.plan (memory_of c.args.knows.now) c.args.from c.in-Ask.attempt) (ask_left c.args.plan (remembered (memory_of c.args.knows.now) snaps) c.args.from c.in-Ask.attempt) (λ k. refl) d (g.S.Store.state c.args.store.now) (g.S.Store.durable c.args.store.now) (g.S.Store.state c.args.store.now) (g.S.Store.may c.args.store.now) (memory_of c.hear_ask.new.knows) c.hear_ask.result (c.hear_ask.ensures.turn d at)))

pub returns-in-Status-clause-turn : goal.returns-in-Status-clause-turn
returns-in-Status-clause-turn g c n snaps d at reading =
    subst (λ m. HearsOrStops n c.args.plan (remembered (memory_of c.args.knows.now) snaps) reading c.args.from m d (g.S.Store.state c.args.store.now) (g.S.Store.durable c.args.store.now) (g.S.Store.state c.args.store.now) (g.S.Store.may c.args.store.now) (remembered (memory_of c.args.knows.now) snaps) c.hear_status.result) (sym c.in-Status.is)
    (hears-status n c.args.plan (remembered (memory_of c.args.knows.now) snaps) reading c.args.from d (g.S.Store.state c.args.store.now) (g.S.Store.durable c.args.store.now) (g.S.Store.state c.args.store.now) (g.S.Store.may c.args.store.now) (remembered (memory_of c.args.knows.now) snaps) c.in-Status.attempt c.in-Status.inc c.hear_status.result
    (looked-beside snaps (status_left (memory_of c.args.knows.now) c.args.from c.in-Status.attempt c.in-Status.inc) (status_left (remembered (memory_of c.args.knows.now) snaps) c.args.from c.in-Status.attempt c.in-Status.inc) (λ k. refl) d (g.S.Store.state c.args.store.now) (g.S.Store.durable c.args.store.now) (g.S.Store.state c.args.store.now) (g.S.Store.may c.args.store.now) (memory_of c.args.knows.now) c.hear_status.result (c.hear_status.ensures.turn d at)))

pub returns-in-StatusIs-clause-turn : goal.returns-in-StatusIs-clause-turn
returns-in-StatusIs-clause-turn g c n snaps d at reading =
    subst (λ m. HearsOrStops n c.args.plan (remembered (memory_of c.args.knows.now) snaps) reading c.args.from m d (g.S.Store.state c.args.store.now) (g.S.Store.durable c.hear_status_is.new.store) (g.S.Store.state c.hear_status_is.new.store) (g.S.Store.may c.hear_status_is.new.store) (remembered (memory_of c.hear_status_is.new.knows) snaps) c.hear_status_is.result) (sym c.in-StatusIs.is)
    (hears-status_is n c.args.plan (remembered (memory_of c.args.knows.now) snaps) reading c.args.from d (g.S.Store.state c.args.store.now) (g.S.Store.durable c.hear_status_is.new.store) (g.S.Store.state c.hear_status_is.new.store) (g.S.Store.may c.hear_status_is.new.store) (remembered (memory_of c.hear_status_is.new.knows) snaps) c.in-StatusIs.attempt c.in-StatusIs.inc c.in-StatusIs.state c.hear_status_is.result
    (ack-beside snaps c.args.plan (memory_of c.args.knows.now) c.args.from.number c.in-StatusIs.attempt c.in-StatusIs.inc (status_refusal c.in-StatusIs.attempt c.in-StatusIs.state) d (g.S.Store.state c.args.store.now) (g.S.Store.durable c.hear_status_is.new.store) (g.S.Store.state c.hear_status_is.new.store) (g.S.Store.may c.hear_status_is.new.store) (memory_of c.hear_status_is.new.knows) c.hear_status_is.result (c.hear_status_is.ensures.turn d at)))

pub returns-in-Reset-clause-turn : goal.returns-in-Reset-clause-turn
returns-in-Reset-clause-turn g c n snaps d at reading =
    let same = c.get.ensures in
    let form = reset-form c.in-Reset.target c.in-Reset.down c.in-Reset.message (subst HasFormAfterStops c.in-Reset.is c.requires.form) in
    let other : is_collecting c.get.result.now ≡ false = ap is_collecting same ∙ form.1 in
    subst (λ m. HearsOrStops n c.args.plan (remembered (memory_of c.args.knows.now) snaps) reading c.args.from m d (g.S.Store.state c.args.store.now) (g.S.Store.durable c.args.store.now) (g.S.Store.state c.args.store.now) (g.S.Store.may c.args.store.now) (remembered (memory_of c.hear_reset.new.knows) snaps) c.hear_reset.result) (ap (Reset c.in-Reset.target c.in-Reset.down) same ∙ sym c.in-Reset.is)
    (hears-reset n c.args.plan (remembered (memory_of c.args.knows.now) snaps) reading c.args.from d (g.S.Store.state c.args.store.now) (g.S.Store.durable c.args.store.now) (g.S.Store.state c.args.store.now) (g.S.Store.may c.args.store.now) (remembered (memory_of c.hear_reset.new.knows) snaps) c.in-Reset.target c.in-Reset.down c.get.result.now other c.hear_reset.result
    (looked-beside snaps (reset_left c.args.plan (memory_of c.args.knows.now) c.in-Reset.target c.in-Reset.down c.get.result.now) (reset_left c.args.plan (remembered (memory_of c.args.knows.now) snaps) c.in-Reset.target c.in-Reset.down c.get.result.now) (λ k. refl) d (g.S.Store.state c.args.store.now) (g.S.Store.durable c.args.store.now) (g.S.Store.state c.args.store.now) (g.S.Store.may c.args.store.now) (memory_of c.hear_reset.new.knows) c.hear_reset.result (c.hear_reset.ensures.turn d at)))

pub returns-in-Status-clause-reads : goal.returns-in-Status-clause-reads
returns-in-Status-clause-reads g c = turn-carries c.hear_status.result [] c.args.knows.now.member.memory c.args.knows.now.member.memory refl c.hear_status.ensures.reads

pub returns-in-Ask-clause-ends : goal.returns-in-Ask-clause-ends
returns-in-Ask-clause-ends g c asked goes = c.hear_ask.ensures.ends asked (subst (GoesWith asked) c.in-Ask.is goes)

pub returns-in-Status-clause-ends : goal.returns-in-Status-clause-ends
returns-in-Status-clause-ends g c asked goes = posts-end asked c.args.knows.now.leader c.hear_status.result (c.hear_status.ensures.ends asked)

pub returns-in-StatusIs-clause-ends : goal.returns-in-StatusIs-clause-ends
returns-in-StatusIs-clause-ends g c asked goes = c.hear_status_is.ensures.ends asked

pub returns-in-Reset-clause-ends : goal.returns-in-Reset-clause-ends
returns-in-Reset-clause-ends g c asked goes = c.hear_reset.ensures.ends asked
