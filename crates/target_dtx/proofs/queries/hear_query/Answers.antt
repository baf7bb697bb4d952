use Rattle.world_ended.specs.TurnLaws.{says-posts}
use Rattle.std.proofs.Common.{◌≡◌, ◌∙◌, None, ap, subst, refl}
use Rattle.std.specs.Prelude.{IfOk}
use Rattle.base_messages.specs.declared.message.Message.{Message}
use Rattle.base_messages.specs.declared.message.Message.TheVariants.{Verdict}
use Rattle.dtx_base.specs.Leading.{query_answer}
use Rattle.dtx_table.proofs.Owing.{query-alike}
use Rattle.world_base.specs.Requests.{says}
use Rattle.world_base.specs.Verdicts.{verdict_message}
use Rattle.target_parts.specs.Knowing.{memory_of}
use Rattle.target_parts.specs.KnowsLaws.{leader-known}
use Rattle.target_dtx.proofs.Answering.{answers-so}
use Rattle.world_ended.specs.world_letters.kinds.TurnLaws.{says-none}
use Rattle.target_dtx.proofs.queries.hear_query.Goals as goal

pub returns-clause-turn : goal.returns-clause-turn
returns-clause-turn g c d at =
    let seat = c.seat_of-seat.ensures in
    let known = leader-known c.args.plan (memory_of c.args.knows.now) c.seat_of-seat.result c.args.knows.now.entries.items d seat.me seat.targets (seat.incarnation c.requires.running d at) ((c.requires.target.leads c.requires.running d at).entries) in
    let message : ◌≡◌ {A = Message} (Verdict c.args.attempt c.args.ask c.seat_of-seat.result.incarnation c.answer_query-verdict.result) (verdict_message c.args.plan (memory_of c.args.knows.now) c.args.attempt c.args.ask d) =
    ap (λ i. Verdict c.args.attempt c.args.ask i c.answer_query-verdict.result) (seat.incarnation c.requires.running d at)
    ∙ ap (λ v. Verdict c.args.attempt c.args.ask d.incarnation v) (c.answer_query-verdict.ensures ∙ query-alike c.args.attempt c.seat_of-seat.result c.of_attempt-entries.result.now c.args.knows.now.entries.items c.args.knows.now.leader c.of_attempt-entries.ensures ∙ ap (query_answer c.args.attempt) known) in
    answers-so c.args.plan (memory_of c.args.knows.now) c.args.from c.args.attempt c.args.ask d (g.S.Store.state c.args.store.now) (g.S.Store.durable c.args.store.now) (g.S.Store.may c.args.store.now) c.says.result at
    (subst (λ m. IfOk c.says.result (λ did. did ≡ says c.args.from m None)) message c.says.ensures.did) c.says.ensures.wanting

pub returns-clause-reads : goal.returns-clause-reads
returns-clause-reads g c = says-none c.says.result c.args.from (Verdict c.args.attempt c.args.ask c.seat_of-seat.result.incarnation c.answer_query-verdict.result) None refl c.says.ensures.did

pub returns-clause-ends : goal.returns-clause-ends
returns-clause-ends g c asked = says-posts asked c.args.from (Verdict c.args.attempt c.args.ask c.seat_of-seat.result.incarnation c.answer_query-verdict.result) None c.says.result tt c.says.ensures.did
