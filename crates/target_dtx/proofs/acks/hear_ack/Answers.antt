use Rattle.world_ended.specs.PostLaws.{acks-end}
use Rattle.world_ended.specs.TurnLaws.{sent-by as ends-by}
use Rattle.std.proofs.Common.{◌≡◌, ◌∙◌, Err, ap, refl, rules, subst, sym, []}
use Rattle.world_base.specs.Acks.{AckEnds, AckNext, Heard, is_refusing}
use Rattle.world_base.specs.Roles.{leads_on}
use Rattle.world_base.specs.Turns.{Whole}
use Rattle.target_parts.specs.Ending.{turn_cut, turn_wanting}
use Rattle.target_parts.specs.Knowing.{IsApart, memory_of}
use Rattle.target_parts.specs.KeepingLaws.{leads-same}
use Rattle.target_parts.specs.KnowsLaws.{leader-known, memory-beside}
use Rattle.target_parts.specs.Parts.{kept}
use Rattle.target_parts.specs.Stops.{never, stop_memory}
use Rattle.target_parts.specs.Turning.{now_partway}
use Rattle.target_parts.specs.Standing.{target-beside}
use Rattle.target_dtx.proofs.Acking.{ack-cut, ack-done, leads-acked, refused-apart, refused-can, step, stepped}
use Rattle.dtx_base.specs.Leading.{ack_heard}
use Rattle.dtx_table.specs.Seats.{leader_of}
use Rattle.target_parts.specs.world_contents.posts.Posting.{acks-post-in-form, posted-by}
use Rattle.vos_store.specs.Refusals.{always_stop}
use Rattle.world_ended.specs.world_letters.kinds.TurnLaws.{sent-by, unread-answers}
use Rattle.world_ended.specs.world_letters.kinds.PostLaws.{acks-carry}
use Rattle.target_dtx.proofs.acks.hear_ack.Goals as goal

pub returns-in_err-posts-clause-turn : goal.returns-in_err-posts-clause-turn
returns-in_err-posts-clause-turn g c d at =
    let is : c.from_residual.result ≡ Err stop_memory = search rules in
    turn_wanting (AckNext c.args.plan (memory_of c.args.knows.now) c.args.member c.args.attempt c.args.inc c.args.refusal.now) never Heard (kept d (g.S.Store.state c.args.store.now))
    (g.S.Store.durable c.args.store.now) (g.S.Store.state c.args.store.now) (g.S.Store.may c.args.store.now) _ c.from_residual.result is
    (now_partway (AckNext c.args.plan (memory_of c.args.knows.now) c.args.member c.args.attempt c.args.inc c.args.refusal.now) Heard d (g.S.Store.state c.args.store.now) (g.S.Store.state c.args.store.now) (g.S.Store.durable c.args.store.now) (record { kept_is = at; free = refl }))

pub abort_if-requires-clause-can : goal.abort_if-requires-clause-can
abort_if-requires-clause-can g c d at refused =
    let seat = c.seat_of-seat.ensures in
    let known = leader-known c.args.plan (memory_of c.args.knows.now) c.seat_of-seat.result c.args.knows.now.entries.items d seat.me seat.targets (seat.incarnation c.requires.running d at) ((c.requires.target.leads c.requires.running d at).entries) in
    refused-can c.args.plan (memory_of c.args.knows.now) c.args.member c.args.attempt c.args.inc c.args.refusal.now d (c.requires.target.leads c.requires.running d at).rows
    (sym (c.is_refusing-refuses.ensures ∙ ap (is_refusing c.args.member c.args.attempt c.args.inc c.args.refusal.now) known) ∙ refused)

pub abort_if-requires-clause-apart : goal.abort_if-requires-clause-apart
abort_if-requires-clause-apart g c d at refused =
    let seat = c.seat_of-seat.ensures in
    let known = leader-known c.args.plan (memory_of c.args.knows.now) c.seat_of-seat.result c.args.knows.now.entries.items d seat.me seat.targets (seat.incarnation c.requires.running d at) ((c.requires.target.leads c.requires.running d at).entries) in
    let known_too = leader-known c.args.plan (memory_of c.args.knows.now) c.seat_of-seat.result c.args.knows.now.entries.items d seat.me seat.targets (seat.incarnation c.requires.running d at) ((c.requires.target.leads c.requires.running d at).entries) in
    let came = stepped c.args.plan (memory_of c.args.knows.now) c.args.member c.args.attempt c.args.inc c.args.refusal.now d _ c.count.new.leader _ known_too c.in_ok-posts.ensures.ok in
    subst (IsApart c.args.attempt) (sym came.0)
    (refused-apart c.args.plan (memory_of c.args.knows.now) c.args.member c.args.attempt c.args.inc c.args.refusal.now d (c.requires.target.leads c.requires.running d at).rows
    (sym (c.is_refusing-refuses.ensures ∙ ap (is_refusing c.args.member c.args.attempt c.args.inc c.args.refusal.now) known) ∙ refused))

pub abort_if-requires-clause-leads : goal.abort_if-requires-clause-leads
abort_if-requires-clause-leads g c d at =
    let seat = c.seat_of-seat.ensures in
    let known_too = leader-known c.args.plan (memory_of c.args.knows.now) c.seat_of-seat.result c.args.knows.now.entries.items d seat.me seat.targets (seat.incarnation c.requires.running d at) ((c.requires.target.leads c.requires.running d at).entries) in
    let came = stepped c.args.plan (memory_of c.args.knows.now) c.args.member c.args.attempt c.args.inc c.args.refusal.now d _ c.count.new.leader _ known_too c.in_ok-posts.ensures.ok in
    leads-same c.args.plan (leads_on (step c.args.plan (memory_of c.args.knows.now) c.args.member c.args.attempt c.args.inc c.args.refusal.now d) (memory_of c.args.knows.now)) _ c.args.knows.now.entries.items _ d
    (ap (λ l. record (memory_of c.args.knows.now) { leader = l }) came.0) refl
    (leads-acked c.args.plan (memory_of c.args.knows.now) c.args.member c.args.attempt c.args.inc c.args.refusal.now d c.args.knows.now.entries.items (c.requires.target.leads c.requires.running d at))

pub returns-in-Ok-clause-turn : goal.returns-in-Ok-clause-turn
returns-in-Ok-clause-turn g c d at =
    let seat = c.seat_of-seat.ensures in
    let known = leader-known c.args.plan (memory_of c.args.knows.now) c.seat_of-seat.result c.args.knows.now.entries.items d seat.me seat.targets (seat.incarnation c.requires.running d at) ((c.requires.target.leads c.requires.running d at).entries) in
    let known_too = leader-known c.args.plan (memory_of c.args.knows.now) c.seat_of-seat.result c.args.knows.now.entries.items d seat.me seat.targets (seat.incarnation c.requires.running d at) ((c.requires.target.leads c.requires.running d at).entries) in
    let came = stepped c.args.plan (memory_of c.args.knows.now) c.args.member c.args.attempt c.args.inc c.args.refusal.now d _ c.count.new.leader _ known_too c.in_ok-posts.ensures.ok in
    let beside = c.in-Ok.ensures.keeps.beside in
    ack-done c.args.plan (memory_of c.args.knows.now) c.args.member c.args.attempt c.args.inc c.args.refusal.now d (g.S.Store.state c.args.store.now) _ _ c.is_refusing-refuses.result (g.S.Store.may c.abort_if.new.store)
    (memory_of c.abort_if.new.knows) c.sends.result c.in_ok-posts.posts (c.is_refusing-refuses.ensures ∙ ap (is_refusing c.args.member c.args.attempt c.args.inc c.args.refusal.now) known) (c.in-Ok.ensures.made d at)
    (memory-beside c.args.knows.now c.abort_if.new.knows _ (record { hlc = beside.hlc; stamps = beside.stamps; member = beside.member }) (c.in-Ok.ensures.leader ∙ came.0)) c.sends.ensures came.1

pub returns-in-Ok-clause-target : goal.returns-in-Ok-clause-target
returns-in-Ok-clause-target g c =
    let beside = c.in-Ok.ensures.keeps.beside in
    target-beside c.args.plan always_stop _ (g.S.Store.state c.args.store.now) (g.S.Store.state c.abort_if.new.store) (g.S.Store.durable c.args.store.now) (g.S.Store.durable c.abort_if.new.store) c.args.knows.now c.abort_if.new.knows c.requires.target c.in-Ok.ensures.keeps.runs (record { hlc = beside.hlc; stamps = beside.stamps; member = beside.member }) c.in-Ok.ensures.keeps.leads

pub returns-in-Err-clause-turn : goal.returns-in-Err-clause-turn
returns-in-Err-clause-turn g c d at =
    let seat = c.seat_of-seat.ensures in
    let known = leader-known c.args.plan (memory_of c.args.knows.now) c.seat_of-seat.result c.args.knows.now.entries.items d seat.me seat.targets (seat.incarnation c.requires.running d at) ((c.requires.target.leads c.requires.running d at).entries) in
    turn_cut (AckNext c.args.plan (memory_of c.args.knows.now) c.args.member c.args.attempt c.args.inc c.args.refusal.now) never Heard (kept d (g.S.Store.state c.args.store.now))
    (g.S.Store.durable c.abort_if.new.store) (g.S.Store.state c.abort_if.new.store) (g.S.Store.may c.abort_if.new.store)
    (λ did l. Whole (AckNext c.args.plan (memory_of c.args.knows.now) c.args.member c.args.attempt c.args.inc c.args.refusal.now) (AckEnds (memory_of c.args.knows.now)) Heard (kept d (g.S.Store.state c.args.store.now)) l (memory_of c.abort_if.new.knows, did)) (Err c.stop_of.result) (λ s. refl) (ap (λ e. Err e) c.stop_of.ensures)
    (ack-cut c.args.plan (memory_of c.args.knows.now) c.args.member c.args.attempt c.args.inc c.args.refusal.now d (g.S.Store.state c.args.store.now) _ _ c.is_refusing-refuses.result (g.S.Store.may c.abort_if.new.store) c.in-Err.field-0
    (c.is_refusing-refuses.ensures ∙ ap (is_refusing c.args.member c.args.attempt c.args.inc c.args.refusal.now) known) (c.in-Err.ensures.made d at))

pub returns-in-Err-clause-target : goal.returns-in-Err-clause-target
returns-in-Err-clause-target g c =
    let beside = c.in-Err.ensures.keeps.beside in
    target-beside c.args.plan always_stop _ (g.S.Store.state c.args.store.now) (g.S.Store.state c.abort_if.new.store) (g.S.Store.durable c.args.store.now) (g.S.Store.durable c.abort_if.new.store) c.args.knows.now c.abort_if.new.knows c.requires.target c.in-Err.ensures.keeps.runs (record { hlc = beside.hlc; stamps = beside.stamps; member = beside.member }) c.in-Err.ensures.keeps.leads

pub returns-in-Ok-clause-posts : goal.returns-in-Ok-clause-posts
returns-in-Ok-clause-posts g c =
    let leader = leader_of c.seat_of-seat.result c.args.knows.now.entries.items c.args.knows.now.leader in
    posted-by c.args.plan.targets (ack_heard c.args.member c.args.attempt c.args.inc c.args.refusal.now leader) c.args.knows.now.leader c.count.new.leader c.abort_if.new.knows.leader c.in_ok-posts.posts c.sends.result.posts
    (acks-post-in-form c.args.plan.targets c.args.member c.args.attempt c.args.inc c.args.refusal.now leader) c.in_ok-posts.ensures.ok c.in-Ok.ensures.leader (ap (λ did. did.posts) c.sends.ensures)

pub returns-in-Ok-clause-reads : goal.returns-in-Ok-clause-reads
returns-in-Ok-clause-reads g c =
    let leader = leader_of c.seat_of-seat.result c.args.knows.now.entries.items c.args.knows.now.leader in
    unread-answers [] c.args.knows.now.member.memory c.abort_if.new.knows.member.memory c.sends.result.posts (ap (λ m. m.memory.parked) c.in-Ok.ensures.keeps.beside.member)
    (sent-by (ack_heard c.args.member c.args.attempt c.args.inc c.args.refusal.now leader) c.count.new.leader c.in_ok-posts.posts c.sends.result.posts (acks-carry c.args.member c.args.attempt c.args.inc c.args.refusal.now leader)
    c.in_ok-posts.ensures.ok (ap (λ did. did.posts) c.sends.ensures))

pub returns-in-Ok-clause-ends : goal.returns-in-Ok-clause-ends
returns-in-Ok-clause-ends g c asked refused =
    let leader = leader_of c.seat_of-seat.result c.args.knows.now.entries.items c.args.knows.now.leader in
    ends-by asked (ack_heard c.args.member c.args.attempt c.args.inc c.args.refusal.now leader) c.args.knows.now.leader c.count.new.leader c.abort_if.new.knows.leader c.in_ok-posts.posts c.sends.result.posts
    (acks-end asked c.args.member c.args.attempt c.args.inc c.args.refusal.now leader refused) c.in_ok-posts.ensures.ok c.in-Ok.ensures.leader (ap (λ did. did.posts) c.sends.ensures)
