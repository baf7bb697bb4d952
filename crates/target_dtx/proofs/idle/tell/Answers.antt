use Rattle.world_ended.specs.Asking.{EndsAsked}
use Rattle.world_ended.specs.PostLaws.{batches-end}
use Rattle.world_ended.specs.TurnLaws.{and-more as ends-more, sent-by as ends-by}
use Rattle.std.proofs.Common.{◌∙◌, ap, refl, subst, sym, []}
use Rattle.dtx_base.specs.Leading.{batched}
use Rattle.dtx_table.specs.Seats.{leader_of}
use Rattle.target_dtx.proofs.Telling.{asks-leave, batch-named, leads-told, nothing-asked, own-told}
use Rattle.target_parts.specs.world_contents.posts.Forms.{PostsInForm}
use Rattle.target_parts.specs.world_contents.posts.Posting.{and-more, batches-post-in-form, posted-by}
use Rattle.target_parts.specs.Standing.{target-known}
use Rattle.world_ended.specs.world_letters.kinds.TurnLaws.{sent-by, unread-answers}
use Rattle.world_ended.specs.world_letters.kinds.PostLaws.{CarryNone, batches-carry, both-carry}
use Rattle.target_dtx.proofs.Posting.{asks-carry-none}
use Rattle.target_dtx.proofs.idle.tell.Goals as goal

pub returns-in_err-asks-clause-target : goal.returns-in_err-asks-clause-target
returns-in_err-asks-clause-target g c =
    target-known c.args.plan (g.S.Store.state c.args.store.now) (g.S.Store.durable c.args.store.now) c.args.knows.now (record c.args.knows.now { leader = c.batch.new.leader; member = c.inquiries.new.member }) c.requires.target
    (own-told c.args.plan c.args.knows.now (record c.args.knows.now { leader = c.batch.new.leader; member = c.inquiries.new.member }) refl (nothing-asked c.args.knows.now.member c.inquiries.new.member c.in_err-asks.ensures.kept) c.requires.target.own)
    (λ d leads. leads-told c.args.plan c.args.knows.now (record c.args.knows.now { leader = c.batch.new.leader; member = c.inquiries.new.member }) refl (nothing-asked c.args.knows.now.member c.inquiries.new.member c.in_err-asks.ensures.kept) d _ (batch-named (leader_of c.seat_of-seat.result c.args.knows.now.entries.items c.args.knows.now.leader) c.batch.new.leader c.in_ok-posts.posts c.in_ok-posts.ensures.ok) refl leads)

pub returns-in_err-push_all-clause-target : goal.returns-in_err-push_all-clause-target
returns-in_err-push_all-clause-target g c =
    target-known c.args.plan (g.S.Store.state c.args.store.now) (g.S.Store.durable c.args.store.now) c.args.knows.now (record c.args.knows.now { leader = c.batch.new.leader; member = c.inquiries.new.member }) c.requires.target
    (own-told c.args.plan c.args.knows.now (record c.args.knows.now { leader = c.batch.new.leader; member = c.inquiries.new.member }) refl (asks-leave c.args.settling c.rows.result.now c.args.knows.now.member c.inquiries.new.member _ c.in_ok-asks.ensures.asked) c.requires.target.own)
    (λ d leads. leads-told c.args.plan c.args.knows.now (record c.args.knows.now { leader = c.batch.new.leader; member = c.inquiries.new.member }) refl (asks-leave c.args.settling c.rows.result.now c.args.knows.now.member c.inquiries.new.member _ c.in_ok-asks.ensures.asked) d _ (batch-named (leader_of c.seat_of-seat.result c.args.knows.now.entries.items c.args.knows.now.leader) c.batch.new.leader c.in_ok-posts.posts c.in_ok-posts.ensures.ok) refl leads)

pub returns-clause-target : goal.returns-clause-target
returns-clause-target g c =
    target-known c.args.plan (g.S.Store.state c.args.store.now) (g.S.Store.durable c.args.store.now) c.args.knows.now (record c.args.knows.now { leader = c.batch.new.leader; member = c.inquiries.new.member }) c.requires.target
    (own-told c.args.plan c.args.knows.now (record c.args.knows.now { leader = c.batch.new.leader; member = c.inquiries.new.member }) refl (asks-leave c.args.settling c.rows.result.now c.args.knows.now.member c.inquiries.new.member _ c.in_ok-asks.ensures.asked) c.requires.target.own)
    (λ d leads. leads-told c.args.plan c.args.knows.now (record c.args.knows.now { leader = c.batch.new.leader; member = c.inquiries.new.member }) refl (asks-leave c.args.settling c.rows.result.now c.args.knows.now.member c.inquiries.new.member _ c.in_ok-asks.ensures.asked) d _ (batch-named (leader_of c.seat_of-seat.result c.args.knows.now.entries.items c.args.knows.now.leader) c.batch.new.leader c.in_ok-posts.posts c.in_ok-posts.ensures.ok) refl leads)

pub returns-clause-posts : goal.returns-clause-posts
returns-clause-posts g c =
    let leader = leader_of c.seat_of-seat.result c.args.knows.now.entries.items c.args.knows.now.leader in
    subst (PostsInForm c.args.plan.targets c.args.knows.now.leader c.batch.new.leader) (sym (ap (λ did. did.posts) c.sends.ensures ∙ c.in_ok-push_all.ensures))
    (and-more c.args.plan.targets c.args.knows.now.leader c.batch.new.leader c.in_ok-posts.posts c.in_ok-asks.asks
    (posted-by c.args.plan.targets (batched leader) c.args.knows.now.leader c.batch.new.leader c.batch.new.leader c.in_ok-posts.posts c.in_ok-posts.posts (batches-post-in-form c.args.plan.targets leader) c.in_ok-posts.ensures.ok refl refl)
    (c.in_ok-asks.ensures.posts c.args.plan.targets))

pub returns-clause-reads : goal.returns-clause-reads
returns-clause-reads g c =
    let leader = leader_of c.seat_of-seat.result c.args.knows.now.entries.items c.args.knows.now.leader in
    unread-answers [] c.args.knows.now.member.memory c.inquiries.new.member.memory c.sends.result.posts (asks-leave c.args.settling c.rows.result.now c.args.knows.now.member c.inquiries.new.member _ c.in_ok-asks.ensures.asked).parked
    (subst CarryNone (sym (ap (λ did. did.posts) c.sends.ensures ∙ c.in_ok-push_all.ensures))
    (both-carry c.in_ok-posts.posts c.in_ok-asks.asks
    (sent-by (batched leader) c.batch.new.leader c.in_ok-posts.posts c.in_ok-posts.posts (batches-carry leader) c.in_ok-posts.ensures.ok refl)
    (asks-carry-none c.args.settling c.rows.result.now c.args.knows.now.member c.inquiries.new.member c.in_ok-asks.asks c.in_ok-asks.ensures.asked)))

pub returns-clause-ends : goal.returns-clause-ends
returns-clause-ends g c asked =
    let leader = leader_of c.seat_of-seat.result c.args.knows.now.entries.items c.args.knows.now.leader in
    subst (EndsAsked asked c.args.knows.now.leader c.batch.new.leader) (sym (ap (λ did. did.posts) c.sends.ensures ∙ c.in_ok-push_all.ensures))
    (ends-more asked c.args.knows.now.leader c.batch.new.leader c.in_ok-posts.posts c.in_ok-asks.asks
    (ends-by asked (batched leader) c.args.knows.now.leader c.batch.new.leader c.batch.new.leader c.in_ok-posts.posts c.in_ok-posts.posts (batches-end asked leader) c.in_ok-posts.ensures.ok refl refl)
    (c.in_ok-asks.ensures.ends asked))
