use Rattle.target_reads.specs.world_ended.Asking.{GoesWith}
use Rattle.target_reads.specs.world_ended.TurnLaws.{posts-end}
use Rattle.std.proofs.Common.{◌∙◌, ap, subst, sym, refl, ◌∷◌, []}
use Rattle.base_messages.specs.declared.message.Message.TheVariants.{Mark, Marked}
use Rattle.target_parts.specs.Knowing.{memory_of}
use Rattle.target_core.specs.Targets.{CanHear, HearsOrStops}
use Rattle.snap_core.specs.Snaps.{remembered}
use Rattle.world_base.specs.TargetTurns.{prepare_request}
use Rattle.target_core.proofs.Beside.{ack-beside, mark-beside, marked-beside, prepare-beside, query-beside, verdict-beside}
use Rattle.target_core.proofs.Heard.{hears-ack, hears-mark, hears-marked, hears-prepare, hears-query, hears-verdict}
use Rattle.target_reads.specs.world_letters.kinds.TurnLaws.{turn-carries, turn-heard}
use Rattle.target_core.proofs.hearing.hear_target.Goals as goal

pub hear_prepare-requires-clause-here : goal.hear_prepare-requires-clause-here
hear_prepare-requires-clause-here g c d at = subst (λ m. CanHear c.args.plan m d) c.in-Prepare.is (c.requires.here d at)

pub returns-in-Prepare-clause-turn : goal.returns-in-Prepare-clause-turn
returns-in-Prepare-clause-turn g c n snaps d at reading =
    subst (λ m. HearsOrStops n c.args.plan (remembered (memory_of c.args.knows.now) snaps) reading c.args.from m d (g.S.Store.state c.args.store.now) (g.S.Store.durable c.hear_prepare.new.store) (g.S.Store.state c.hear_prepare.new.store) (g.S.Store.may c.hear_prepare.new.store) (remembered (memory_of c.hear_prepare.new.knows) snaps) c.hear_prepare.result) (sym c.in-Prepare.is)
    (hears-prepare n c.args.plan (remembered (memory_of c.args.knows.now) snaps) reading c.args.from d (g.S.Store.state c.args.store.now) (g.S.Store.durable c.hear_prepare.new.store) (g.S.Store.state c.hear_prepare.new.store) (g.S.Store.may c.hear_prepare.new.store) (remembered (memory_of c.hear_prepare.new.knows) snaps) c.in-Prepare.entry c.in-Prepare.first c.in-Prepare.writes c.in-Prepare.inc c.hear_prepare.result
    (prepare-beside snaps c.args.plan (g.S.Store.state c.args.store.now).opening (memory_of c.args.knows.now) (prepare_request c.in-Prepare.entry c.in-Prepare.first c.in-Prepare.writes c.in-Prepare.inc) d (g.S.Store.state c.args.store.now) (g.S.Store.durable c.hear_prepare.new.store) (g.S.Store.state c.hear_prepare.new.store) (g.S.Store.may c.hear_prepare.new.store) (memory_of c.hear_prepare.new.knows) c.hear_prepare.result (c.hear_prepare.ensures.turn d at)))

pub returns-in-Ack-clause-turn : goal.returns-in-Ack-clause-turn
returns-in-Ack-clause-turn g c n snaps d at reading =
    subst (λ m. HearsOrStops n c.args.plan (remembered (memory_of c.args.knows.now) snaps) reading c.args.from m d (g.S.Store.state c.args.store.now) (g.S.Store.durable c.hear_ack.new.store) (g.S.Store.state c.hear_ack.new.store) (g.S.Store.may c.hear_ack.new.store) (remembered (memory_of c.hear_ack.new.knows) snaps) c.hear_ack.result) (sym c.in-Ack.is)
    (hears-ack n c.args.plan (remembered (memory_of c.args.knows.now) snaps) reading c.args.from d (g.S.Store.state c.args.store.now) (g.S.Store.durable c.hear_ack.new.store) (g.S.Store.state c.hear_ack.new.store) (g.S.Store.may c.hear_ack.new.store) (remembered (memory_of c.hear_ack.new.knows) snaps) c.in-Ack.attempt c.in-Ack.inc c.in-Ack.refusal c.hear_ack.result
    (ack-beside snaps c.args.plan (memory_of c.args.knows.now) c.args.from.number c.in-Ack.attempt c.in-Ack.inc c.in-Ack.refusal d (g.S.Store.state c.args.store.now) (g.S.Store.durable c.hear_ack.new.store) (g.S.Store.state c.hear_ack.new.store) (g.S.Store.may c.hear_ack.new.store) (memory_of c.hear_ack.new.knows) c.hear_ack.result (c.hear_ack.ensures.turn d at)))

pub returns-in-Mark-clause-turn : goal.returns-in-Mark-clause-turn
returns-in-Mark-clause-turn g c n snaps d at reading =
    subst (λ m. HearsOrStops n c.args.plan (remembered (memory_of c.args.knows.now) snaps) reading c.args.from m d (g.S.Store.state c.args.store.now) (g.S.Store.durable c.hear_mark.new.store) (g.S.Store.state c.hear_mark.new.store) (g.S.Store.may c.hear_mark.new.store) (remembered (memory_of c.hear_mark.new.knows) snaps) c.hear_mark.result) (ap (Mark c.in-Mark.inc) c.as_slice.ensures ∙ sym c.in-Mark.is)
    (hears-mark n c.args.plan (remembered (memory_of c.args.knows.now) snaps) reading c.args.from d (g.S.Store.state c.args.store.now) (g.S.Store.durable c.hear_mark.new.store) (g.S.Store.state c.hear_mark.new.store) (g.S.Store.may c.hear_mark.new.store) (remembered (memory_of c.hear_mark.new.knows) snaps) c.in-Mark.inc c.as_slice.result.now c.hear_mark.result
    (mark-beside snaps (memory_of c.args.knows.now) c.args.from c.in-Mark.inc c.as_slice.result.now d (g.S.Store.state c.args.store.now) (g.S.Store.durable c.hear_mark.new.store) (g.S.Store.state c.hear_mark.new.store) (g.S.Store.may c.hear_mark.new.store) (memory_of c.hear_mark.new.knows) c.hear_mark.result (c.hear_mark.ensures.turn d at)))

pub returns-in-Marked-clause-turn : goal.returns-in-Marked-clause-turn
returns-in-Marked-clause-turn g c n snaps d at reading =
    subst (λ m. HearsOrStops n c.args.plan (remembered (memory_of c.args.knows.now) snaps) reading c.args.from m d (g.S.Store.state c.args.store.now) (g.S.Store.durable c.hear_marked.new.store) (g.S.Store.state c.hear_marked.new.store) (g.S.Store.may c.hear_marked.new.store) (remembered (memory_of c.hear_marked.new.knows) snaps) c.hear_marked.result) (ap (Marked c.in-Marked.inc) c.as_slice-in-Marked.ensures ∙ sym c.in-Marked.is)
    (hears-marked n c.args.plan (remembered (memory_of c.args.knows.now) snaps) reading c.args.from d (g.S.Store.state c.args.store.now) (g.S.Store.durable c.hear_marked.new.store) (g.S.Store.state c.hear_marked.new.store) (g.S.Store.may c.hear_marked.new.store) (remembered (memory_of c.hear_marked.new.knows) snaps) c.in-Marked.inc c.as_slice-in-Marked.result.now c.hear_marked.result
    (marked-beside snaps c.args.plan (memory_of c.args.knows.now) c.args.from.number c.in-Marked.inc c.as_slice-in-Marked.result.now d (g.S.Store.state c.args.store.now) (g.S.Store.durable c.hear_marked.new.store) (g.S.Store.state c.hear_marked.new.store) (g.S.Store.may c.hear_marked.new.store) (memory_of c.hear_marked.new.knows) c.hear_marked.result (c.hear_marked.ensures.turn d at)))

pub returns-in-Query-clause-turn : goal.returns-in-Query-clause-turn
returns-in-Query-clause-turn g c n snaps d at reading =
    subst (λ m. HearsOrStops n c.args.plan (remembered (memory_of c.args.knows.now) snaps) reading c.args.from m d (g.S.Store.state c.args.store.now) (g.S.Store.durable c.args.store.now) (g.S.Store.state c.args.store.now) (g.S.Store.may c.args.store.now) (remembered (memory_of c.args.knows.now) snaps) c.hear_query.result) (sym c.in-Query.is)
    (hears-query n c.args.plan (remembered (memory_of c.args.knows.now) snaps) reading c.args.from d (g.S.Store.state c.args.store.now) (g.S.Store.durable c.args.store.now) (g.S.Store.state c.args.store.now) (g.S.Store.may c.args.store.now) (remembered (memory_of c.args.knows.now) snaps) c.in-Query.attempt c.in-Query.ask c.hear_query.result
    (query-beside snaps c.args.plan (memory_of c.args.knows.now) c.args.from c.in-Query.attempt c.in-Query.ask d (g.S.Store.state c.args.store.now) (g.S.Store.durable c.args.store.now) (g.S.Store.state c.args.store.now) (g.S.Store.may c.args.store.now) (memory_of c.args.knows.now) c.hear_query.result (c.hear_query.ensures.turn d at)))

pub returns-in-Verdict-clause-turn : goal.returns-in-Verdict-clause-turn
returns-in-Verdict-clause-turn g c n snaps d at reading =
    subst (λ m. HearsOrStops n c.args.plan (remembered (memory_of c.args.knows.now) snaps) reading c.args.from m d (g.S.Store.state c.args.store.now) (g.S.Store.durable c.hear_verdict.new.store) (g.S.Store.state c.hear_verdict.new.store) (g.S.Store.may c.hear_verdict.new.store) (remembered (memory_of c.hear_verdict.new.knows) snaps) c.hear_verdict.result) (sym c.in-Verdict.is)
    (hears-verdict n c.args.plan (remembered (memory_of c.args.knows.now) snaps) reading c.args.from d (g.S.Store.state c.args.store.now) (g.S.Store.durable c.hear_verdict.new.store) (g.S.Store.state c.hear_verdict.new.store) (g.S.Store.may c.hear_verdict.new.store) (remembered (memory_of c.hear_verdict.new.knows) snaps) c.in-Verdict.attempt c.in-Verdict.ask c.in-Verdict.inc c.in-Verdict.verdict c.hear_verdict.result
    (verdict-beside snaps c.args.plan (memory_of c.args.knows.now) reading c.in-Verdict.attempt c.in-Verdict.ask c.in-Verdict.verdict d (g.S.Store.state c.args.store.now) (g.S.Store.durable c.hear_verdict.new.store) (g.S.Store.state c.hear_verdict.new.store) (g.S.Store.may c.hear_verdict.new.store) (memory_of c.hear_verdict.new.knows) c.hear_verdict.result (c.hear_verdict.ensures.turn d at reading)))

pub returns-in-Prepare-clause-reads : goal.returns-in-Prepare-clause-reads
returns-in-Prepare-clause-reads g c = turn-heard c.hear_prepare.result c.args.message c.args.knows.now.member.memory c.hear_prepare.new.knows.member.memory (c.hear_prepare.ensures.reads)

pub returns-in-Ack-clause-reads : goal.returns-in-Ack-clause-reads
returns-in-Ack-clause-reads g c = turn-heard c.hear_ack.result c.args.message c.args.knows.now.member.memory c.hear_ack.new.knows.member.memory (c.hear_ack.ensures.reads)

pub returns-in-Mark-clause-reads : goal.returns-in-Mark-clause-reads
returns-in-Mark-clause-reads g c = turn-heard c.hear_mark.result c.args.message c.args.knows.now.member.memory c.hear_mark.new.knows.member.memory (c.hear_mark.ensures.reads)

pub returns-in-Marked-clause-reads : goal.returns-in-Marked-clause-reads
returns-in-Marked-clause-reads g c = turn-heard c.hear_marked.result c.args.message c.args.knows.now.member.memory c.hear_marked.new.knows.member.memory (c.hear_marked.ensures.reads)

pub returns-in-Query-clause-reads : goal.returns-in-Query-clause-reads
returns-in-Query-clause-reads g c = turn-carries c.hear_query.result (c.args.message ∷ []) c.args.knows.now.member.memory c.args.knows.now.member.memory refl c.hear_query.ensures.reads

pub returns-in-Verdict-clause-reads : goal.returns-in-Verdict-clause-reads
returns-in-Verdict-clause-reads g c = turn-heard c.hear_verdict.result c.args.message c.args.knows.now.member.memory c.hear_verdict.new.knows.member.memory (c.hear_verdict.ensures.reads)

pub returns-in-Prepare-clause-ends : goal.returns-in-Prepare-clause-ends
returns-in-Prepare-clause-ends g c asked goes = c.hear_prepare.ensures.ends asked

pub returns-in-Ack-clause-ends : goal.returns-in-Ack-clause-ends
returns-in-Ack-clause-ends g c asked goes = c.hear_ack.ensures.ends asked (subst (GoesWith asked) c.in-Ack.is goes)

pub returns-in-Mark-clause-ends : goal.returns-in-Mark-clause-ends
returns-in-Mark-clause-ends g c asked goes = c.hear_mark.ensures.ends asked

pub returns-in-Marked-clause-ends : goal.returns-in-Marked-clause-ends
returns-in-Marked-clause-ends g c asked goes = c.hear_marked.ensures.ends asked

pub returns-in-Query-clause-ends : goal.returns-in-Query-clause-ends
returns-in-Query-clause-ends g c asked goes = posts-end asked c.args.knows.now.leader c.hear_query.result (c.hear_query.ensures.ends asked)

pub returns-in-Verdict-clause-ends : goal.returns-in-Verdict-clause-ends
returns-in-Verdict-clause-ends g c asked goes = c.hear_verdict.ensures.ends asked
