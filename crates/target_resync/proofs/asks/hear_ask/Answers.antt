use Rattle.target_dtx.specs.world_ended.PostLaws.{asks-end}
use Rattle.target_dtx.specs.world_ended.TurnLaws.{sent-by as ends-by}
use Rattle.std.proofs.Common.{◌≡◌, ◌∙◌, Err, ap, refl, rules, []}
use Rattle.dtx_base.specs.Asking.{ask_heard}
use Rattle.dtx_resync.specs.dtx_table.Seats.{leader_of}
use Rattle.world_base.specs.declared.did.Did.{Did}
use Rattle.world_base.specs.declared.target.TargetMemory.{TargetMemory}
use Rattle.world_base.specs.Statuses.{ask_left}
use Rattle.target_parts.specs.world_contents.posts.Posting.{posted-by}
use Rattle.target_parts.specs.Knowing.{memory_of}
use Rattle.target_parts.specs.KnowsLaws.{leader-known}
use Rattle.target_parts.specs.Parts.{kept}
use Rattle.target_parts.specs.Standing.{target-known}
use Rattle.target_parts.specs.Stops.{stop_memory}
use Rattle.target_resync.proofs.Asking.{ask-left, ask-posts, asked-rows}
use Rattle.target_resync.proofs.Silent.{silent-done, silent-wanting}
use Rattle.target_dtx.specs.world_letters.kinds.TurnLaws.{sent-by, unread-answers}
use Rattle.target_dtx.specs.world_letters.kinds.PostLaws.{asks-carry}
use Rattle.target_resync.proofs.asks.hear_ask.Goals as goal

pub returns-in_err-posts-clause-turn : goal.returns-in_err-posts-clause-turn
returns-in_err-posts-clause-turn g c d at =
    let is : c.from_residual.result ≡ Err stop_memory = search rules in
    silent-wanting (ask_left c.args.plan (memory_of c.args.knows.now) c.args.from c.args.attempt) d (g.S.Store.state c.args.store.now) (g.S.Store.durable c.args.store.now) (g.S.Store.may c.args.store.now)
    (memory_of (record c.args.knows.now { leader = c.hear_ask.new.self })) at c.from_residual.result is

pub returns-clause-turn : goal.returns-clause-turn
returns-clause-turn g c d at =
    let seat = c.seat_of-seat.ensures in
    let known = leader-known c.args.plan (memory_of c.args.knows.now) c.seat_of-seat.result c.rows.result.now d seat.me seat.targets (seat.incarnation c.requires.running d at) (c.rows.ensures ∙ (c.requires.target.leads c.requires.running d at).entries) in
    silent-done (ask_left c.args.plan (memory_of c.args.knows.now) c.args.from c.args.attempt) d (g.S.Store.state c.args.store.now) (g.S.Store.durable c.args.store.now) (g.S.Store.may c.args.store.now)
    (memory_of (record c.args.knows.now { leader = c.hear_ask.new.self })) at c.sends.result
    (ap {A = Did} {B = TargetMemory × Did} (λ x. (memory_of (record c.args.knows.now { leader = c.hear_ask.new.self }), x)) c.sends.ensures
    ∙ ask-left c.args.plan (memory_of c.args.knows.now) c.args.from c.args.attempt (kept d (g.S.Store.state c.args.store.now)) (leader_of c.seat_of-seat.result c.rows.result.now c.args.knows.now.leader) c.hear_ask.new.self c.in_ok-posts.posts known c.in_ok-posts.ensures.ok)

pub returns-clause-posts : goal.returns-clause-posts
returns-clause-posts g c client =
    let leader = leader_of c.seat_of-seat.result c.rows.result.now c.args.knows.now.leader in
    posted-by c.args.plan.targets (ask_heard c.args.attempt c.args.from leader) c.args.knows.now.leader c.hear_ask.new.self c.hear_ask.new.self c.in_ok-posts.posts c.sends.result.posts
    (ask-posts c.args.plan.targets c.args.attempt c.args.from leader client) c.in_ok-posts.ensures.ok refl (ap (λ did. did.posts) c.sends.ensures)

pub returns-clause-target : goal.returns-clause-target
returns-clause-target g c =
    let own = c.requires.target.own in
    target-known c.args.plan (g.S.Store.state c.args.store.now) (g.S.Store.durable c.args.store.now) c.args.knows.now (record c.args.knows.now { leader = c.hear_ask.new.self }) c.requires.target
    (record { clock = own.clock; member = own.member; parked = own.parked })
    (λ d k. record {
      entries = k.entries;
      rows = asked-rows c.args.plan.me d c.args.attempt c.args.from (leader_of c.seat_of-seat.result c.rows.result.now c.args.knows.now.leader) c.hear_ask.new.self c.in_ok-posts.posts c.in_ok-posts.ensures.ok k.rows;
      heard = k.heard;
      asks = k.asks;
    })

pub returns-clause-reads : goal.returns-clause-reads
returns-clause-reads g c =
    let leader = leader_of c.seat_of-seat.result c.rows.result.now c.args.knows.now.leader in
    unread-answers [] c.args.knows.now.member.memory c.args.knows.now.member.memory c.sends.result.posts refl
    (sent-by (ask_heard c.args.attempt c.args.from leader) c.hear_ask.new.self c.in_ok-posts.posts c.sends.result.posts (asks-carry c.args.attempt c.args.from leader) c.in_ok-posts.ensures.ok (ap (λ did. did.posts) c.sends.ensures))

pub returns-clause-ends : goal.returns-clause-ends
returns-clause-ends g c asked was =
    let leader = leader_of c.seat_of-seat.result c.rows.result.now c.args.knows.now.leader in
    ends-by asked (ask_heard c.args.attempt c.args.from leader) c.args.knows.now.leader c.hear_ask.new.self c.hear_ask.new.self c.in_ok-posts.posts c.sends.result.posts
    (asks-end asked c.args.attempt c.args.from leader was) c.in_ok-posts.ensures.ok refl (ap (λ did. did.posts) c.sends.ensures)
