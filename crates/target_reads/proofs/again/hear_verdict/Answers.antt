use Rattle.target_reads.proofs.Posting.{freed-end}
use Rattle.world_ended.specs.TurnLaws.{on-fewer}
use Rattle.std.proofs.Common.{◌≡◌, ◌∙◌, Err, ap, refl, rules, subst}
use Rattle.vos_store.specs.Refusals.{always_stop}
use Rattle.world_base.specs.Roles.{is_prepared, told_by}
use Rattle.world_base.specs.Turns.{Reached, Whole}
use Rattle.world_base.specs.Verdicts.{Freed, Heard, VerdictEnds, VerdictNext}
use Rattle.target_parts.specs.Ending.{turn_cut, turn_on, turn_wanting}
use Rattle.target_parts.specs.Knowing.{memory_of}
use Rattle.target_parts.specs.KeepingLaws.{leads-same}
use Rattle.target_parts.specs.KnowsLaws.{memory-beside}
use Rattle.target_parts.specs.Parts.{kept}
use Rattle.target_parts.specs.Posting.{fewer-posts, judged-fewer}
use Rattle.target_parts.specs.Running.{for_some_on}
use Rattle.target_parts.specs.Standing.{target-known, target-on, target-stopped}
use Rattle.target_parts.specs.Stops.{never, stop_memory}
use Rattle.target_parts.specs.Turning.{now_partway}
use Rattle.target_reads.specs.Again.{AreHere}
use Rattle.target_reads.proofs.Parking.{own-as_before}
use Rattle.target_reads.proofs.Verdicts.{freed-is, frees-here, frees-parkable, leads-frees, own-frees, settled-here, told-joins, told-member, verdict-cut, verdict-settles, with_member}
use Rattle.target_reads.proofs.Posting.{freed-posts}
use Rattle.target_reads.proofs.Carrying.{verdict-reads}
use Rattle.target_reads.proofs.again.hear_verdict.Goals as goal

pub returns-in_err-posts-clause-turn : goal.returns-in_err-posts-clause-turn
returns-in_err-posts-clause-turn g c d at reading =
    let m = told_by c.args.verdict c.args.attempt (memory_of c.args.knows.now) in
    let old = kept d (g.S.Store.state c.args.store.now) in
    let is : c.from_residual.result ≡ Err stop_memory = search rules in
    turn_wanting (VerdictNext is_prepared c.args.plan m reading c.args.attempt c.args.ask c.args.verdict) never Heard old (g.S.Store.durable c.args.store.now) (g.S.Store.state c.args.store.now) (g.S.Store.may c.args.store.now)
    (λ did l. Whole (VerdictNext is_prepared c.args.plan m reading c.args.attempt c.args.ask c.args.verdict) VerdictEnds Heard old l (memory_of (with_member c.hear_verdict.new.self c.args.knows.now), did)) _ is
    (now_partway (VerdictNext is_prepared c.args.plan m reading c.args.attempt c.args.ask c.args.verdict) Heard d (g.S.Store.state c.args.store.now) (g.S.Store.state c.args.store.now) (g.S.Store.durable c.args.store.now) (record { kept_is = at; free = refl }))

pub returns-in_err-posts-clause-target : goal.returns-in_err-posts-clause-target
returns-in_err-posts-clause-target g c =
    let same = c.in_err-posts.ensures.err in
    target-known c.args.plan (g.S.Store.state c.args.store.now) (g.S.Store.durable c.args.store.now) c.args.knows.now (with_member c.hear_verdict.new.self c.args.knows.now) c.requires.target (own-as_before c.args.plan c.args.knows.now _ refl same c.requires.target.own)
    (λ d leads. leads-same c.args.plan (memory_of c.args.knows.now) (memory_of (with_member c.hear_verdict.new.self c.args.knows.now)) c.args.knows.now.entries.items c.args.knows.now.entries.items d (ap (λ m. memory_of (with_member m c.args.knows.now)) same) refl leads)

pub settle_by-requires-clause-leads : goal.settle_by-requires-clause-leads
settle_by-requires-clause-leads g c x at =
    leads-frees c.args.plan c.args.attempt c.args.ask c.args.verdict c.args.knows.now c.hear_verdict.new.self c.in_ok-posts.field-0.posts c.in_ok-posts.field-0.again c.in_ok-posts.ensures.ok c.args.knows.now.entries.items x (c.requires.target.leads c.requires.running x at)

pub try_again-requires-clause-target : goal.try_again-requires-clause-target
try_again-requires-clause-target g c =
    target-on c.args.plan (g.S.Store.state c.args.store.now) (g.S.Store.state c.settle_by.new.store) (g.S.Store.durable c.args.store.now) (g.S.Store.durable c.settle_by.new.store) c.args.knows.now c.settle_by.new.knows c.requires.target c.in-Ok.ensures.keeps.runs.targets
    (own-frees c.args.plan c.args.attempt c.args.ask c.args.verdict c.args.knows.now c.hear_verdict.new.self c.in_ok-posts.field-0.posts c.in_ok-posts.field-0.again c.in_ok-posts.ensures.ok c.settle_by.new.knows c.in-Ok.ensures.keeps.beside.hlc c.in-Ok.ensures.keeps.beside.member c.requires.target.own)
    (λ _. c.in-Ok.ensures.keeps.leads refl)

pub try_again-requires-clause-parkable : goal.try_again-requires-clause-parkable
try_again-requires-clause-parkable g c =
    frees-parkable c.args.plan c.args.attempt c.args.ask c.args.verdict c.args.knows.now c.hear_verdict.new.self c.in_ok-posts.field-0.posts c.in_ok-posts.field-0.again c.in_ok-posts.ensures.ok c.requires.target.own

pub try_again-requires-clause-here : goal.try_again-requires-clause-here
try_again-requires-clause-here g c =
    for_some_on (g.S.Store.durable c.args.store.now) _ (AreHere c.in_ok-posts.field-0.again) c.in-Ok.ensures.keeps.runs.told (λ d at.
    let m = told_by c.args.verdict c.args.attempt (memory_of c.args.knows.now) in
    let now = verdict-settles c.args.plan m 0 c.args.attempt c.args.ask c.args.verdict d (g.S.Store.state c.args.store.now) (g.S.Store.state c.settle_by.new.store) (g.S.Store.durable c.settle_by.new.store) (g.S.Store.may c.settle_by.new.store) (c.in-Ok.ensures.made d at) in (
      now.durable,
      now.kept_is,
      settled-here c.args.plan m 0 c.args.attempt c.args.ask c.args.verdict c.in_ok-posts.field-0.again (kept d (g.S.Store.state c.args.store.now)) (kept now.durable (g.S.Store.state c.settle_by.new.store)) _ now.holds
          (frees-here c.args.plan c.args.attempt c.args.ask c.args.verdict c.args.knows.now c.hear_verdict.new.self c.in_ok-posts.field-0.posts c.in_ok-posts.field-0.again c.in_ok-posts.ensures.ok c.args.knows.now.entries.items d (c.requires.target.leads c.requires.running d at)),
    ))

pub returns-in-Ok-clause-turn : goal.returns-in-Ok-clause-turn
returns-in-Ok-clause-turn g c d at reading =
    let m = told_by c.args.verdict c.args.attempt (memory_of c.args.knows.now) in
    let old = kept d (g.S.Store.state c.args.store.now) in
    let free = Freed c.in_ok-posts.field-0.again (memory_of c.settle_by.new.knows) c.in_ok-posts.field-0.posts in
    let now = verdict-settles c.args.plan m reading c.args.attempt c.args.ask c.args.verdict d (g.S.Store.state c.args.store.now) (g.S.Store.state c.settle_by.new.store) (g.S.Store.durable c.settle_by.new.store) (g.S.Store.may c.settle_by.new.store) (c.in-Ok.ensures.made d at) in
    let mid = kept now.durable (g.S.Store.state c.settle_by.new.store) in
    let is = freed-is c.args.plan c.args.attempt c.args.ask c.args.verdict c.args.knows.now c.hear_verdict.new.self c.in_ok-posts.field-0.posts c.in_ok-posts.field-0.again c.in_ok-posts.ensures.ok m (memory_of c.settle_by.new.knows)
    (told-member c.args.verdict c.args.attempt (memory_of c.args.knows.now)) c.requires.target.own
    (memory-beside (with_member c.hear_verdict.new.self c.args.knows.now) c.settle_by.new.knows _ c.in-Ok.ensures.keeps.beside c.in-Ok.ensures.leader
    ∙ told-joins c.args.verdict c.args.attempt c.hear_verdict.new.self (memory_of c.args.knows.now)) in
    turn_on (VerdictNext is_prepared c.args.plan m reading c.args.attempt c.args.ask c.args.verdict) never VerdictEnds (λ did. (memory_of c.try_again.new.knows, did)) Heard free old mid (g.S.Store.durable c.try_again.new.store) (g.S.Store.state c.try_again.new.store) (g.S.Store.may c.try_again.new.store) c.try_again.result
    (subst (λ s. Reached (VerdictNext is_prepared c.args.plan m reading c.args.attempt c.args.ask c.args.verdict) Heard old s mid) is now.holds) (c.try_again.ensures.turn now.durable now.kept_is m reading c.args.attempt c.args.ask c.args.verdict)

pub returns-in-Err-clause-turn : goal.returns-in-Err-clause-turn
returns-in-Err-clause-turn g c d at reading =
    let m = told_by c.args.verdict c.args.attempt (memory_of c.args.knows.now) in
    let old = kept d (g.S.Store.state c.args.store.now) in
    turn_cut (VerdictNext is_prepared c.args.plan m reading c.args.attempt c.args.ask c.args.verdict) never Heard old (g.S.Store.durable c.settle_by.new.store) (g.S.Store.state c.settle_by.new.store) (g.S.Store.may c.settle_by.new.store)
    (λ did l. Whole (VerdictNext is_prepared c.args.plan m reading c.args.attempt c.args.ask c.args.verdict) VerdictEnds Heard old l (memory_of c.settle_by.new.knows, did)) _ (λ s. refl) (ap Err c.stop_of.ensures)
    (verdict-cut c.args.plan m reading c.args.attempt c.args.ask c.args.verdict d (g.S.Store.state c.args.store.now) (g.S.Store.state c.settle_by.new.store) (g.S.Store.durable c.settle_by.new.store) (g.S.Store.may c.settle_by.new.store) c.in-Err.field-0 (c.in-Err.ensures.made d at))

pub returns-in-Err-clause-target : goal.returns-in-Err-clause-target
returns-in-Err-clause-target g c =
    target-stopped c.args.plan always_stop _ (g.S.Store.state c.args.store.now) (g.S.Store.state c.settle_by.new.store) (g.S.Store.durable c.args.store.now) (g.S.Store.durable c.settle_by.new.store) c.args.knows.now c.settle_by.new.knows c.requires.target c.in-Err.ensures.keeps.runs refl
    (own-frees c.args.plan c.args.attempt c.args.ask c.args.verdict c.args.knows.now c.hear_verdict.new.self c.in_ok-posts.field-0.posts c.in_ok-posts.field-0.again c.in_ok-posts.ensures.ok c.settle_by.new.knows c.in-Err.ensures.keeps.beside.hlc c.in-Err.ensures.keeps.beside.member c.requires.target.own)

pub try_again-requires-clause-sent : goal.try_again-requires-clause-sent
try_again-requires-clause-sent g c =
    freed-posts c.args.plan.targets c.args.attempt c.args.ask c.args.verdict c.args.knows.now.member c.hear_verdict.new.self c.in_ok-posts.field-0 c.in_ok-posts.ensures.ok

pub returns-in-Ok-clause-posts : goal.returns-in-Ok-clause-posts
returns-in-Ok-clause-posts g c =
    fewer-posts c.args.plan.targets c.args.knows.now.leader c.settle_by.new.knows.leader c.try_again.new.knows.leader c.try_again.result
    (judged-fewer c.args.verdict c.args.attempt (memory_of (with_member c.hear_verdict.new.self c.args.knows.now)) c.settle_by.new.knows.leader c.in-Ok.ensures.leader) c.try_again.ensures.posts

pub returns-in-Ok-clause-reads : goal.returns-in-Ok-clause-reads
returns-in-Ok-clause-reads g c =
    verdict-reads c.args.attempt c.args.ask c.args.verdict c.args.knows.now.member c.hear_verdict.new.self c.in_ok-posts.field-0 c.settle_by.new.knows.member.memory c.try_again.new.knows.member.memory c.try_again.result c.in_ok-posts.ensures.ok
    (ap (λ m. m.memory) c.in-Ok.ensures.keeps.beside.member) c.try_again.ensures.reads

pub try_again-requires-clause-freed : goal.try_again-requires-clause-freed
try_again-requires-clause-freed g c asked = freed-end asked c.args.attempt c.args.ask c.args.verdict c.args.knows.now.member c.hear_verdict.new.self c.in_ok-posts.field-0 c.in_ok-posts.ensures.ok

pub returns-in-Ok-clause-ends : goal.returns-in-Ok-clause-ends
returns-in-Ok-clause-ends g c asked =
    on-fewer asked c.args.knows.now.leader c.settle_by.new.knows.leader c.try_again.new.knows.leader c.try_again.result
    (judged-fewer c.args.verdict c.args.attempt (memory_of (with_member c.hear_verdict.new.self c.args.knows.now)) c.settle_by.new.knows.leader c.in-Ok.ensures.leader) (c.try_again.ensures.ends asked)
