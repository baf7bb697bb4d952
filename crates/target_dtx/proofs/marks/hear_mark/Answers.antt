use Rattle.world_ended.specs.Asking.{PostsGoWith}
use Rattle.world_ended.specs.PostLaws.{one-posted as one-ends}
use Rattle.world_ended.specs.TurnLaws.{fewer-end}
use Rattle.std.proofs.Common.{◌≡◌, ◌∙◌, Err, None, ap, refl, rules, subst, sym, [], Ok}
use Rattle.base_messages.specs.declared.message.Message.TheVariants.{Marked}
use Rattle.dtx_base.specs.Leading.{attempts_of}
use Rattle.world_base.specs.declared.target.TargetMemory.{TargetMemory}
use Rattle.world_base.specs.Marks.{MarkNext}
use Rattle.world_base.specs.Requests.{says}
use Rattle.world_base.specs.Roles.{is_prepared, told_of_all}
use Rattle.target_parts.specs.Ending.{turn_wanting}
use Rattle.target_parts.specs.Knowing.{memory_of}
use Rattle.target_parts.specs.Parts.{kept}
use Rattle.target_parts.specs.Posting.{fewer-wait, told-fewer}
use Rattle.target_parts.specs.Stops.{never, stop_memory}
use Rattle.target_parts.specs.Turning.{now_partway}
use Rattle.target_parts.specs.Standing.{target-kept}
use Rattle.target_dtx.proofs.Marking.{marks-done}
use Rattle.target_parts.specs.world_contents.posts.Forms.{TargetPosts}
use Rattle.target_parts.specs.world_contents.posts.Posting.{one-posted, to-other}
use Rattle.vos_store.specs.Refusals.{always_stop}
use Rattle.world_ended.specs.world_letters.kinds.TurnLaws.{says-none, unread-answers}
use Rattle.target_parts.specs.declared.stop.TargetStop.{TargetStop}
use Rattle.target_dtx.proofs.marks.hear_mark.Goals as goal

pub returns-in_err-attempts_of-clause-turn : goal.returns-in_err-attempts_of-clause-turn
returns-in_err-attempts_of-clause-turn g c d at =
    let is : c.from_residual.result ≡ Err stop_memory = search rules in
    turn_wanting (MarkNext is_prepared) never c.args.marks.now (kept d (g.S.Store.state c.args.store.now)) (g.S.Store.durable c.args.store.now) (g.S.Store.state c.args.store.now) (g.S.Store.may c.args.store.now) _ c.from_residual.result is
    (now_partway (MarkNext is_prepared) c.args.marks.now d (g.S.Store.state c.args.store.now) (g.S.Store.state c.args.store.now) (g.S.Store.durable c.args.store.now) (record { kept_is = at; free = refl }))

pub returns-in_err-did-clause-turn : goal.returns-in_err-did-clause-turn
returns-in_err-did-clause-turn g c d at =
    let is : c.from_residual-in_err-did.result ≡ Err stop_memory = search rules in
    turn_wanting (MarkNext is_prepared) never c.args.marks.now (kept d (g.S.Store.state c.args.store.now)) (g.S.Store.durable c.args.store.now) (g.S.Store.state c.args.store.now) (g.S.Store.may c.args.store.now) _ c.from_residual-in_err-did.result is
    (now_partway (MarkNext is_prepared) c.args.marks.now d (g.S.Store.state c.args.store.now) (g.S.Store.state c.args.store.now) (g.S.Store.durable c.args.store.now) (record { kept_is = at; free = refl }))

pub returns-in-Ok-clause-turn : goal.returns-in-Ok-clause-turn
returns-in-Ok-clause-turn g c d at =
    marks-done (told_of_all (attempts_of c.args.marks.now) (memory_of c.args.knows.now)) (memory_of c.settle_all.new.knows) c.args.from c.args.inc c.args.marks.now c.in_ok-did.did _ _ _
    c.in-Ok.ensures.told
    (c.in_ok-did.ensures.did ∙ ap (λ ids. says c.args.from (Marked c.args.inc ids) None) (c.from_vec-attempts.ensures ∙ c.in_ok-attempts_of.ensures))
    (c.in-Ok.ensures.settled d at)

pub returns-in-Ok-clause-target : goal.returns-in-Ok-clause-target
returns-in-Ok-clause-target g c =
    target-kept c.args.plan always_stop _ (g.S.Store.state c.args.store.now) (g.S.Store.state c.settle_all.new.store) (g.S.Store.durable c.args.store.now) (g.S.Store.durable c.settle_all.new.store) c.args.knows.now c.settle_all.new.knows c.requires.target c.in-Ok.ensures.keeps

pub returns-in-Err-clause-target : goal.returns-in-Err-clause-target
returns-in-Err-clause-target g c =
    target-kept c.args.plan always_stop _ (g.S.Store.state c.args.store.now) (g.S.Store.state c.settle_all.new.store) (g.S.Store.durable c.args.store.now) (g.S.Store.durable c.settle_all.new.store) c.args.knows.now c.settle_all.new.knows c.requires.target c.in-Err.ensures.keeps

pub returns-in-Ok-clause-posts : goal.returns-in-Ok-clause-posts
returns-in-Ok-clause-posts g c target =
    fewer-wait c.args.plan.targets c.args.knows.now.leader c.settle_all.new.knows.leader c.in_ok-did.did.posts
    (told-fewer (attempts_of c.args.marks.now) (memory_of c.args.knows.now) c.settle_all.new.knows.leader (ap (λ (m : TargetMemory). m.leader) c.in-Ok.ensures.told))
    (subst (λ did. TargetPosts c.args.plan.targets did.posts) (sym c.in_ok-did.ensures.did) (one-posted c.args.plan.targets _ (to-other c.args.plan.targets c.args.from (Marked c.args.inc _) target tt)))

pub returns-in-Ok-clause-reads : goal.returns-in-Ok-clause-reads
returns-in-Ok-clause-reads g c =
    unread-answers [] c.args.knows.now.member.memory c.settle_all.new.knows.member.memory c.in_ok-did.did.posts (ap (λ m. m.memory.parked) c.in-Ok.ensures.keeps.beside.member)
    (says-none {E = TargetStop} (Ok c.in_ok-did.did) c.args.from (Marked c.args.inc _) None refl c.in_ok-did.ensures.did)

pub returns-in-Ok-clause-ends : goal.returns-in-Ok-clause-ends
returns-in-Ok-clause-ends g c asked =
    fewer-end asked c.args.knows.now.leader c.settle_all.new.knows.leader c.in_ok-did.did.posts
    (told-fewer (attempts_of c.args.marks.now) (memory_of c.args.knows.now) c.settle_all.new.knows.leader (ap (λ (m : TargetMemory). m.leader) c.in-Ok.ensures.told))
    (subst (λ did. PostsGoWith asked did.posts) (sym c.in_ok-did.ensures.did) (one-ends asked _ tt))
