use Rattle.world_ended.specs.Asking.{PostsGoWith}
use Rattle.world_ended.specs.PostLaws.{none-posted as none-ends, waits-on as ends-on}
use Rattle.std.proofs.Common.{◌≡◌, ◌∙◌, [], Err, ap, refl, rules, subst, sym}
use Rattle.std.specs.Prelude.{◌==◌, if◌then◌else◌}
use Rattle.dtx_base.specs.Leading.{answered}
use Rattle.world_base.specs.Acks.{MarkedNext, to_confirm}
use Rattle.target_parts.specs.Ending.{turn_wanting}
use Rattle.target_parts.specs.Knowing.{memory_of}
use Rattle.target_parts.specs.KeepingLaws.{leads-same}
use Rattle.target_parts.specs.KnowsLaws.{memory-beside}
use Rattle.target_parts.specs.Parts.{kept}
use Rattle.target_parts.specs.Stops.{never, stop_memory}
use Rattle.target_parts.specs.Turning.{now_partway}
use Rattle.target_parts.specs.Standing.{target-beside}
use Rattle.target_dtx.proofs.Confirming.{confirms-done, leads-marked}
use Rattle.target_parts.specs.world_contents.posts.Forms.{TargetPosts}
use Rattle.target_parts.specs.world_contents.posts.Posting.{none-posted, waits-on}
use Rattle.vos_store.specs.Refusals.{always_stop}
use Rattle.world_ended.specs.world_letters.kinds.TurnLaws.{unread-answers}
use Rattle.world_ended.specs.world_letters.kinds.PostLaws.{CarryNone, none-carried}
use Rattle.target_dtx.proofs.acks.hear_marked.Goals as goal

pub returns-in_err-hear_marked-clause-turn : goal.returns-in_err-hear_marked-clause-turn
returns-in_err-hear_marked-clause-turn g c d at =
    let is : c.from_residual.result ≡ Err stop_memory = search rules in
    turn_wanting (MarkedNext c.args.plan (memory_of c.args.knows.now) c.args.member) never (to_confirm c.args.inc c.args.attempts.now d) (kept d (g.S.Store.state c.args.store.now))
    (g.S.Store.durable c.args.store.now) (g.S.Store.state c.args.store.now) (g.S.Store.may c.args.store.now) _ c.from_residual.result is
    (now_partway (MarkedNext c.args.plan (memory_of c.args.knows.now) c.args.member) (to_confirm c.args.inc c.args.attempts.now d) d (g.S.Store.state c.args.store.now) (g.S.Store.state c.args.store.now) (g.S.Store.durable c.args.store.now) (record { kept_is = at; free = refl }))

pub confirm_all-requires-clause-leads : goal.confirm_all-requires-clause-leads
confirm_all-requires-clause-leads g c d at =
    leads-same c.args.plan (record (memory_of c.args.knows.now) { leader = record c.args.knows.now.leader { named = answered c.args.member c.args.inc c.args.attempts.now c.args.knows.now.leader.named } }) _ c.args.knows.now.entries.items _ d
    (ap (λ l. record (memory_of c.args.knows.now) { leader = l }) c.in_ok-hear_marked.ensures.ok) refl
    (leads-marked c.args.plan (memory_of c.args.knows.now) c.args.knows.now.entries.items d _ (c.requires.target.leads c.requires.running d at))

pub returns-in-Ok-clause-turn : goal.returns-in-Ok-clause-turn
returns-in-Ok-clause-turn g c d at =
    let beside = c.in-Ok.ensures.keeps.beside in
    confirms-done c.args.plan (memory_of c.args.knows.now) (memory_of c.confirm_all.new.knows) c.args.member c.args.inc c.args.attempts.now c.to_confirm-confirming.result.now c.sends.result d (g.S.Store.state c.args.store.now) _ _
    (subst (λ i. c.to_confirm-confirming.result.now ≡ if c.args.inc == i then c.args.attempts.now else []) (c.incarnation.ensures c.requires.running d at) c.to_confirm-confirming.ensures)
    (memory-beside c.args.knows.now c.confirm_all.new.knows _ (record { hlc = beside.hlc; stamps = beside.stamps; member = beside.member }) (c.in-Ok.ensures.leader ∙ c.in_ok-hear_marked.ensures.ok))
    (search rules) (c.in-Ok.ensures.confirmed (memory_of c.args.knows.now) d at)

pub returns-in-Ok-clause-target : goal.returns-in-Ok-clause-target
returns-in-Ok-clause-target g c =
    let beside = c.in-Ok.ensures.keeps.beside in
    target-beside c.args.plan always_stop _ (g.S.Store.state c.args.store.now) (g.S.Store.state c.confirm_all.new.store) (g.S.Store.durable c.args.store.now) (g.S.Store.durable c.confirm_all.new.store) c.args.knows.now c.confirm_all.new.knows c.requires.target c.in-Ok.ensures.keeps.runs (record { hlc = beside.hlc; stamps = beside.stamps; member = beside.member }) c.in-Ok.ensures.keeps.leads

pub returns-in-Err-clause-target : goal.returns-in-Err-clause-target
returns-in-Err-clause-target g c =
    let beside = c.in-Err.ensures.keeps.beside in
    target-beside c.args.plan always_stop _ (g.S.Store.state c.args.store.now) (g.S.Store.state c.confirm_all.new.store) (g.S.Store.durable c.args.store.now) (g.S.Store.durable c.confirm_all.new.store) c.args.knows.now c.confirm_all.new.knows c.requires.target c.in-Err.ensures.keeps.runs (record { hlc = beside.hlc; stamps = beside.stamps; member = beside.member }) c.in-Err.ensures.keeps.leads

pub returns-in-Ok-clause-posts : goal.returns-in-Ok-clause-posts
returns-in-Ok-clause-posts g c =
    waits-on c.args.plan.targets c.args.knows.now.leader c.confirm_all.new.knows.leader c.sends.result.posts (ap (λ m. m.undecided) (c.in-Ok.ensures.leader ∙ c.in_ok-hear_marked.ensures.ok))
    (subst (TargetPosts c.args.plan.targets) (sym (ap (λ did. did.posts) c.sends.ensures ∙ c.new.ensures)) (none-posted c.args.plan.targets))

pub returns-in-Ok-clause-reads : goal.returns-in-Ok-clause-reads
returns-in-Ok-clause-reads g c =
    unread-answers [] c.args.knows.now.member.memory c.confirm_all.new.knows.member.memory c.sends.result.posts (ap (λ m. m.memory.parked) c.in-Ok.ensures.keeps.beside.member) (subst CarryNone (sym (ap (λ did. did.posts) c.sends.ensures ∙ c.new.ensures)) none-carried)

pub returns-in-Ok-clause-ends : goal.returns-in-Ok-clause-ends
returns-in-Ok-clause-ends g c asked =
    ends-on asked c.args.knows.now.leader c.confirm_all.new.knows.leader c.sends.result.posts (ap (λ m. m.undecided) (c.in-Ok.ensures.leader ∙ c.in_ok-hear_marked.ensures.ok))
    (subst (PostsGoWith asked) (sym (ap (λ did. did.posts) c.sends.ensures ∙ c.new.ensures)) (none-ends asked))
