use Rattle.world_ended.specs.PostLaws.{beginnings-end}
use Rattle.world_ended.specs.TurnLaws.{sent-by as ends-by}
use Rattle.base_types.specs.declared.entry.Entry.{Entry}
use Rattle.std.proofs.Common.{◌≡◌, ◌∙◌, [], ap, refl, subst, sym, true}
use Rattle.dtx_base.specs.Leading.{begun}
use Rattle.target_members.specs.dtx_table.Seats.{came, leader_of}
use Rattle.world_base.specs.Requests.{sends}
use Rattle.target_parts.specs.Knowing.{AreRowsOpen, IsApart, IsOpenHere, memory_of}
use Rattle.target_parts.specs.Standing.{target-on}
use Rattle.target_writes.proofs.Beginning.{begun-here, begun-rows, begun-told}
use Rattle.target_writes.proofs.Posting.{begun-posts}
use Rattle.world_ended.specs.world_letters.kinds.TurnLaws.{sent-by, unread-answers}
use Rattle.world_ended.specs.world_letters.kinds.PostLaws.{beginnings-carry}
use Rattle.target_writes.proofs.commits.begin.Goals as goal

pub returns-clause-begun : goal.returns-clause-begun
returns-clause-begun g c x at =
    begun-told c.args.plan (memory_of c.args.knows.now) c.args.request.now c.args.from c.args.entry.now.epoch x c.begin.new.self c.in_ok-posts.posts c.sends.result
    (begun-here c.args.plan (memory_of c.args.knows.now) c.args.request.now c.args.from c.args.entry.now x c.seat_of-seat.result c.args.knows.now.entries.items c.begin.new.self c.in_ok-posts.posts
    (c.in_ok-posts.ensures.ok ∙ ap (λ ws. came (begun c.args.entry.now c.args.request.now.first c.args.from ws (leader_of c.seat_of-seat.result [] c.args.knows.now.leader))) c.as_slice.ensures)
    c.seat_of-seat.ensures.me c.seat_of-seat.ensures.targets (c.seat_of-seat.ensures.incarnation c.requires.running x at) (c.requires.target.leads c.requires.running x at).entries c.requires.entry)
    (c.sends.ensures ∙ ap (sends c.in_ok-posts.posts) c.issued_for-issued.ensures)

pub returns-clause-target : goal.returns-clause-target
returns-clause-target g c =
    target-on c.args.plan (g.S.Store.state c.args.store.now) (g.S.Store.state c.args.store.now) (g.S.Store.durable c.args.store.now) (g.S.Store.durable c.args.store.now) c.args.knows.now _ c.requires.target refl
    (record { clock = c.requires.target.own.clock; member = c.requires.target.own.member; parked = c.requires.target.own.parked })
    (λ running x at.
    let k = c.requires.target.leads running x at in
    let own = ap (λ e. e.attempt) c.requires.entry in
    record {
      entries = k.entries;
      rows = subst (λ l. AreRowsOpen c.args.plan.me l x) (sym (ap (λ p. p.0) c.in_ok-posts.ensures.ok))
          (begun-rows c.args.plan.me c.args.entry.now c.args.request.now.first c.args.from c.as_slice.result.now (leader_of c.seat_of-seat.result [] c.args.knows.now.leader) x k.rows
          (subst (λ a. IsOpenHere c.args.plan.me a x) (sym own) (c.requires.here x at)) (subst (λ a. IsApart a c.args.knows.now.leader) (sym own) (c.requires.apart x at)));
      heard = k.heard;
      asks = k.asks;
    })

pub returns-clause-posts : goal.returns-clause-posts
returns-clause-posts g c placed client =
    let leader = leader_of c.seat_of-seat.result [] c.args.knows.now.leader in
    begun-posts c.args.plan c.args.request.now c.args.from c.args.entry.now.epoch c.args.entry.now leader c.begin.new.self c.in_ok-posts.posts c.sends.result.posts c.requires.entry c.seat_of-seat.ensures.targets c.requires.writes placed client
    (c.in_ok-posts.ensures.ok ∙ ap (λ ws. came (begun c.args.entry.now c.args.request.now.first c.args.from ws leader)) c.as_slice.ensures) (ap (λ did. did.posts) c.sends.ensures)

pub returns-clause-reads : goal.returns-clause-reads
returns-clause-reads g c =
    let leader = leader_of c.seat_of-seat.result [] c.args.knows.now.leader in
    unread-answers [] c.args.knows.now.member.memory c.args.knows.now.member.memory c.sends.result.posts refl
    (sent-by (begun c.args.entry.now c.args.request.now.first c.args.from c.as_slice.result.now leader) c.begin.new.self c.in_ok-posts.posts c.sends.result.posts (beginnings-carry c.args.entry.now c.args.request.now.first c.args.from c.as_slice.result.now leader)
    c.in_ok-posts.ensures.ok (ap (λ did. did.posts) c.sends.ensures))

pub returns-clause-ends : goal.returns-clause-ends
returns-clause-ends g c asked was =
    let leader = leader_of c.seat_of-seat.result [] c.args.knows.now.leader in
    ends-by asked (begun c.args.entry.now c.args.request.now.first c.args.from c.as_slice.result.now leader) c.args.knows.now.leader c.begin.new.self c.begin.new.self c.in_ok-posts.posts c.sends.result.posts
    (beginnings-end asked c.args.entry.now c.args.request.now.first c.args.from c.as_slice.result.now leader (subst (λ (e : Entry). asked e.attempt ≡ true) (sym c.requires.entry) was))
    c.in_ok-posts.ensures.ok refl (ap (λ did. did.posts) c.sends.ensures)
