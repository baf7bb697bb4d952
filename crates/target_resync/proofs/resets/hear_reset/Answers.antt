use Rattle.target_resync.proofs.Resetting.{reset-ends}
use Rattle.std.proofs.Common.{◌≡◌, ◌∙◌, Err, ap, refl, rules}
use Rattle.dtx_resync.specs.dtx_table.Seats.{leader_of}
use Rattle.world_base.specs.declared.did.Did.{Did}
use Rattle.world_base.specs.declared.target.TargetMemory.{TargetMemory}
use Rattle.world_base.specs.Statuses.{reset_left}
use Rattle.target_parts.specs.Knowing.{memory_of}
use Rattle.target_parts.specs.KnowsLaws.{leader-known}
use Rattle.target_parts.specs.Parts.{kept}
use Rattle.target_parts.specs.Standing.{target-known}
use Rattle.target_parts.specs.Stops.{stop_memory}
use Rattle.target_resync.proofs.Resetting.{freed-by, leads-reset, member-known, nothing-freed, own-reset, reset-left_so, reset-posts, rows-by}
use Rattle.target_resync.proofs.Silent.{silent-done, silent-wanting}
use Rattle.target_dtx.specs.world_letters.kinds.TurnLaws.{reset-answers, sent-by}
use Rattle.target_dtx.specs.world_letters.kinds.PostLaws.{resets-carry}
use Rattle.dtx_base.specs.Leading.{reset_heard}
use Rattle.target_resync.proofs.resets.hear_reset.Goals as goal

-- memory is wanting

pub returns-in_err-posts-clause-turn : goal.returns-in_err-posts-clause-turn
returns-in_err-posts-clause-turn g c d at =
    let is : c.from_residual.result ≡ Err stop_memory = search rules in
    silent-wanting (reset_left c.args.plan (memory_of c.args.knows.now) c.args.target c.args.down c.args.message.now) d (g.S.Store.state c.args.store.now) (g.S.Store.durable c.args.store.now) (g.S.Store.may c.args.store.now)
    (memory_of (record c.args.knows.now { leader = c.hear_reset.new.self })) at c.from_residual.result is

pub returns-in_err-freed-clause-turn : goal.returns-in_err-freed-clause-turn
returns-in_err-freed-clause-turn g c d at =
    let is : c.from_residual-in_err-freed.result ≡ Err stop_memory = search rules in
    silent-wanting (reset_left c.args.plan (memory_of c.args.knows.now) c.args.target c.args.down c.args.message.now) d (g.S.Store.state c.args.store.now) (g.S.Store.durable c.args.store.now) (g.S.Store.may c.args.store.now)
    (memory_of (record c.args.knows.now { leader = c.hear_reset.new.self; member = c.hear_reset-2.new.self })) at c.from_residual-in_err-freed.result is

pub returns-in_err-push_all-clause-turn : goal.returns-in_err-push_all-clause-turn
returns-in_err-push_all-clause-turn g c d at =
    let is : c.from_residual-in_err-push_all.result ≡ Err stop_memory = search rules in
    silent-wanting (reset_left c.args.plan (memory_of c.args.knows.now) c.args.target c.args.down c.args.message.now) d (g.S.Store.state c.args.store.now) (g.S.Store.durable c.args.store.now) (g.S.Store.may c.args.store.now)
    (memory_of (record c.args.knows.now { leader = c.hear_reset.new.self; member = c.hear_reset-2.new.self })) at c.from_residual-in_err-push_all.result is

-- what it knows still fits

pub returns-in_err-freed-clause-target : goal.returns-in_err-freed-clause-target
returns-in_err-freed-clause-target g c =
    let new = record c.args.knows.now { leader = c.hear_reset.new.self; member = c.hear_reset-2.new.self } in
    let freed = nothing-freed c.args.knows.now.member c.hear_reset-2.new.self c.in_err-freed.ensures.err in
    target-known c.args.plan (g.S.Store.state c.args.store.now) (g.S.Store.durable c.args.store.now) c.args.knows.now new c.requires.target
    (own-reset c.args.plan c.args.knows.now new refl freed c.requires.target.own)
    (λ d k. leads-reset c.args.plan c.args.knows.now new refl freed d (rows-by c.args.plan.me d c.args.target c.args.down c.args.message.now (leader_of c.seat_of-seat.result c.rows.result.now c.args.knows.now.leader) c.hear_reset.new.self c.in_ok-posts.posts c.in_ok-posts.ensures.ok k.rows) refl k)

pub returns-in_err-push_all-clause-target : goal.returns-in_err-push_all-clause-target
returns-in_err-push_all-clause-target g c =
    let new = record c.args.knows.now { leader = c.hear_reset.new.self; member = c.hear_reset-2.new.self } in
    let freed = freed-by c.args.down c.args.message.now c.args.knows.now.member c.hear_reset-2.new.self c.in_ok-freed.freed c.in_ok-freed.ensures.ok in
    target-known c.args.plan (g.S.Store.state c.args.store.now) (g.S.Store.durable c.args.store.now) c.args.knows.now new c.requires.target
    (own-reset c.args.plan c.args.knows.now new refl freed c.requires.target.own)
    (λ d k. leads-reset c.args.plan c.args.knows.now new refl freed d (rows-by c.args.plan.me d c.args.target c.args.down c.args.message.now (leader_of c.seat_of-seat.result c.rows.result.now c.args.knows.now.leader) c.hear_reset.new.self c.in_ok-posts.posts c.in_ok-posts.ensures.ok k.rows) refl k)

pub returns-clause-target : goal.returns-clause-target
returns-clause-target g c =
    let new = record c.args.knows.now { leader = c.hear_reset.new.self; member = c.hear_reset-2.new.self } in
    let freed = freed-by c.args.down c.args.message.now c.args.knows.now.member c.hear_reset-2.new.self c.in_ok-freed.freed c.in_ok-freed.ensures.ok in
    target-known c.args.plan (g.S.Store.state c.args.store.now) (g.S.Store.durable c.args.store.now) c.args.knows.now new c.requires.target
    (own-reset c.args.plan c.args.knows.now new refl freed c.requires.target.own)
    (λ d k. leads-reset c.args.plan c.args.knows.now new refl freed d (rows-by c.args.plan.me d c.args.target c.args.down c.args.message.now (leader_of c.seat_of-seat.result c.rows.result.now c.args.knows.now.leader) c.hear_reset.new.self c.in_ok-posts.posts c.in_ok-posts.ensures.ok k.rows) refl k)

-- it is done

pub returns-clause-turn : goal.returns-clause-turn
returns-clause-turn g c d at =
    let seat = c.seat_of-seat.ensures in
    let known = leader-known c.args.plan (memory_of c.args.knows.now) c.seat_of-seat.result c.rows.result.now d seat.me seat.targets (seat.incarnation c.requires.running d at) (c.rows.ensures ∙ (c.requires.target.leads c.requires.running d at).entries) in
    silent-done (reset_left c.args.plan (memory_of c.args.knows.now) c.args.target c.args.down c.args.message.now) d (g.S.Store.state c.args.store.now) (g.S.Store.durable c.args.store.now) (g.S.Store.may c.args.store.now)
    (memory_of (record c.args.knows.now { leader = c.hear_reset.new.self; member = c.hear_reset-2.new.self })) at c.sends.result
    (ap {A = Did} {B = TargetMemory × Did} (λ x. (memory_of (record c.args.knows.now { leader = c.hear_reset.new.self; member = c.hear_reset-2.new.self }), x)) c.sends.ensures
    ∙ reset-left_so c.args.plan (memory_of c.args.knows.now) c.args.target c.args.down c.args.message.now (kept d (g.S.Store.state c.args.store.now)) (leader_of c.seat_of-seat.result c.rows.result.now c.args.knows.now.leader) c.hear_reset.new.self
    c.in_ok-posts.posts c.args.knows.now.member c.hear_reset-2.new.self c.in_ok-freed.freed c.push_all.new.posts known c.in_ok-posts.ensures.ok (member-known c.args.plan c.args.knows.now c.requires.target.own) c.in_ok-freed.ensures.ok c.in_ok-push_all.ensures)

-- what is sent has its form

pub returns-clause-posts : goal.returns-clause-posts
returns-clause-posts g c =
    reset-posts c.args.plan.targets c.args.target c.args.down c.args.message.now (leader_of c.seat_of-seat.result c.rows.result.now c.args.knows.now.leader) c.hear_reset.new.self c.in_ok-posts.posts c.args.knows.now.member c.hear_reset-2.new.self
    c.in_ok-freed.freed c.push_all.new.posts c.sends.result.posts c.in_ok-posts.ensures.ok c.in_ok-freed.ensures.ok c.in_ok-push_all.ensures (ap (λ did. did.posts) c.sends.ensures)

pub returns-clause-reads : goal.returns-clause-reads
returns-clause-reads g c =
    let leader = leader_of c.seat_of-seat.result c.rows.result.now c.args.knows.now.leader in
    reset-answers c.args.down c.args.message.now c.args.knows.now.member c.hear_reset-2.new.self c.in_ok-freed.freed c.in_ok-posts.posts c.push_all.new.posts c.sends.result.posts c.in_ok-freed.ensures.ok
    (sent-by (reset_heard c.args.target c.args.down c.args.message.now leader) c.hear_reset.new.self c.in_ok-posts.posts c.in_ok-posts.posts (resets-carry c.args.target c.args.down c.args.message.now leader) c.in_ok-posts.ensures.ok refl)
    c.in_ok-push_all.ensures (ap (λ did. did.posts) c.sends.ensures)

pub returns-clause-ends : goal.returns-clause-ends
returns-clause-ends g c asked =
    reset-ends asked c.args.target c.args.down c.args.message.now (leader_of c.seat_of-seat.result c.rows.result.now c.args.knows.now.leader) c.hear_reset.new.self c.in_ok-posts.posts c.args.knows.now.member c.hear_reset-2.new.self
    c.in_ok-freed.freed c.push_all.new.posts c.sends.result.posts c.in_ok-posts.ensures.ok c.in_ok-freed.ensures.ok c.in_ok-push_all.ensures (ap (λ did. did.posts) c.sends.ensures)
