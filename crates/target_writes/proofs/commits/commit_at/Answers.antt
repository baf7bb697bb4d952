use Rattle.world_ended.specs.Asking.{AreRefusals, GoesWith}
use Rattle.world_ended.specs.TurnLaws.{on-same, says-ends}
use Rattle.std.proofs.Common.{inl, ◌≡◌, ◌∙◌, Err, None, Ok, Some, ap, refl, rules, subst, sym, []}
use Rattle.std.specs.Prelude.{IfOk}
use Rattle.base_messages.specs.declared.message.Message.TheVariants as message
use Rattle.daos_model.specs.Changes.{prepared}
use Rattle.dtx_base.specs.Members.{writes_at}
use Rattle.vos_store.specs.Conditions.{IsPreparable}
use Rattle.world_base.specs.Commits.{Checking, CommitEnds, CommitNext, led_entry, own_writes}
use Rattle.world_base.specs.Requests as asked
use Rattle.world_base.specs.Turns.{Whole}
use Rattle.target_parts.specs.Ending.{turn_wanting}
use Rattle.target_parts.specs.Halts.{halt_stop}
use Rattle.target_parts.specs.KeepingLaws.{elsewhere-apart, open-new}
use Rattle.target_parts.specs.Knowing.{IsApart, IsOpenHere, memory_of}
use Rattle.target_parts.specs.KnowsLaws.{memory-same}
use Rattle.target_parts.specs.Parts.{kept}
use Rattle.target_parts.specs.Posting.{client-posts, later-posts}
use Rattle.target_parts.specs.Running.{for_some_on, told-before}
use Rattle.target_parts.specs.Standing.{target-kept}
use Rattle.target_parts.specs.Stops.{commit_issued, stop_memory}
use Rattle.target_parts.specs.Turning.{now_partway}
use Rattle.target_writes.specs.Checks.{CanStore}
use Rattle.target_writes.specs.Turns.{begun_of}
use Rattle.target_writes.proofs.Beginning.{writes-own}
use Rattle.target_writes.proofs.CommitTurns.{commit-goes, commit-halted, commit-told, prepares-as}
use Rattle.target_writes.proofs.Owning.{led-preparable}
use Rattle.target_parts.specs.world_contents.posts.Forms.{is_told}
use Rattle.world_ended.specs.world_letters.kinds.TurnLaws.{is_of_read, says-none, turn-carries, turn-on}
use Rattle.target_writes.proofs.commits.commit_at.Goals as goal

pub returns-in_err-entry-clause-turn : goal.returns-in_err-entry-clause-turn
returns-in_err-entry-clause-turn g c d at m reading ticks =
    let opening = (g.S.Store.state c.args.store.now).opening in
    let old = kept d (g.S.Store.state c.args.store.now) in
    let is : c.from_residual.result ≡ Err stop_memory = search rules in
    turn_wanting (CommitNext c.args.plan opening m reading c.args.request.now) (commit_issued c.args.request.now) (Checking c.args.epoch) old (g.S.Store.durable c.args.store.now) (g.S.Store.state c.args.store.now) (g.S.Store.may c.args.store.now)
    (λ did l. Whole (CommitNext c.args.plan opening m reading c.args.request.now) (CommitEnds c.args.plan opening m reading c.args.request.now c.args.from) (Checking c.args.epoch) old l (memory_of c.args.knows.now, did)) _ is
    (now_partway (CommitNext c.args.plan opening m reading c.args.request.now) (Checking c.args.epoch) d (g.S.Store.state c.args.store.now) (g.S.Store.state c.args.store.now) (g.S.Store.durable c.args.store.now) (record { kept_is = at; free = refl }))

pub returns-in_err-own-clause-turn : goal.returns-in_err-own-clause-turn
returns-in_err-own-clause-turn g c d at m reading ticks =
    let opening = (g.S.Store.state c.args.store.now).opening in
    let old = kept d (g.S.Store.state c.args.store.now) in
    let is : c.from_residual-in_err-own.result ≡ Err stop_memory = search rules in
    turn_wanting (CommitNext c.args.plan opening m reading c.args.request.now) (commit_issued c.args.request.now) (Checking c.args.epoch) old (g.S.Store.durable c.args.store.now) (g.S.Store.state c.args.store.now) (g.S.Store.may c.args.store.now)
    (λ did l. Whole (CommitNext c.args.plan opening m reading c.args.request.now) (CommitEnds c.args.plan opening m reading c.args.request.now c.args.from) (Checking c.args.epoch) old l (memory_of c.args.knows.now, did)) _ is
    (now_partway (CommitNext c.args.plan opening m reading c.args.request.now) (Checking c.args.epoch) d (g.S.Store.state c.args.store.now) (g.S.Store.state c.args.store.now) (g.S.Store.durable c.args.store.now) (record { kept_is = at; free = refl }))

pub prepare-requires-clause-form : goal.prepare-requires-clause-form
prepare-requires-clause-form g c =
    let s = g.S.Store.state c.args.store.now in
    let writes = c.as_slice-2.ensures ∙ c.in_ok-own.ensures ∙ ap (writes_at c.args.plan.targets c.args.plan.me) c.as_slice.ensures ∙ writes-own c.args.plan c.args.request.now.writes in
    subst (λ e. IsPreparable s e c.as_slice-2.result.now) (sym c.in_ok-entry.ensures)
    (subst (λ ws. IsPreparable s (led_entry c.args.plan c.args.request.now c.args.epoch) ws) (sym writes) (led-preparable c.args.plan s c.args.request.now c.args.epoch c.requires.target.placed c.requires.writes))

pub prepare-requires-clause-can : goal.prepare-requires-clause-can
prepare-requires-clause-can g c x at =
    let writes = c.as_slice-2.ensures ∙ c.in_ok-own.ensures ∙ ap (writes_at c.args.plan.targets c.args.plan.me) c.as_slice.ensures ∙ writes-own c.args.plan c.args.request.now.writes in
    subst (λ e. CanStore e c.as_slice-2.result.now x) (sym c.in_ok-entry.ensures)
    (subst (λ ws. CanStore (led_entry c.args.plan c.args.request.now c.args.epoch) ws x) (sym writes) (c.requires.can x at))

pub begin-requires-clause-target : goal.begin-requires-clause-target
begin-requires-clause-target g c =
    target-kept c.args.plan halt_stop _ (g.S.Store.state c.args.store.now) (g.S.Store.state c.prepare.new.store) (g.S.Store.durable c.args.store.now) (g.S.Store.durable c.prepare.new.store) c.args.knows.now c.prepare.new.knows c.requires.target c.in-Ok-None.ensures.keeps

pub begin-requires-clause-here : goal.begin-requires-clause-here
begin-requires-clause-here g c =
    let m = memory_of c.args.knows.now in
    let writes = c.as_slice-2.ensures ∙ c.in_ok-own.ensures ∙ ap (writes_at c.args.plan.targets c.args.plan.me) c.as_slice.ensures ∙ writes-own c.args.plan c.args.request.now.writes in
    let led = led_entry c.args.plan c.args.request.now c.args.epoch in
    let own = own_writes c.args.plan c.args.request.now.writes in
    for_some_on (g.S.Store.durable c.args.store.now) _ (IsOpenHere c.args.plan.me c.args.request.now.attempt) c.in-Ok-None.ensures.keeps.runs.told (λ d at.
    let p = prepares-as c.args.plan (g.S.Store.state c.args.store.now).opening m m c.args.request.now.first c.in_ok-entry.entry led c.as_slice-2.result.now own d (g.S.Store.state c.args.store.now) (g.S.Store.durable c.prepare.new.store) (g.S.Store.state c.prepare.new.store)
    (g.S.Store.may c.prepare.new.store) (Ok c.in-Ok-None.field-0) (Ok None) refl c.in_ok-entry.ensures writes (ap Ok c.in-Ok-None.field-0-is) (c.in-Ok-None.ensures.prepared d at) in
    (prepared led own d, p.1.kept_is, open-new c.args.plan.me led own d (c.requires.can d at).absent refl refl))

pub begin-requires-clause-apart : goal.begin-requires-clause-apart
begin-requires-clause-apart g c x at =
    let before = told-before (g.S.Store.durable c.args.store.now) _ c.in-Ok-None.ensures.keeps.runs.told x at in
    subst (IsApart c.args.request.now.attempt) (sym c.in-Ok-None.ensures.leader)
    (elsewhere-apart c.args.plan c.args.request.now.attempt (memory_of c.args.knows.now) c.args.knows.now.entries.items before.0 (c.requires.target.leads c.requires.running before.0 before.1)
    (λ e here led. let bad : None ≡ Some e = sym (c.requires.can before.0 before.1).absent ∙ here in let no : ⊥ = cc in no))

pub returns-in-Ok-None-clause-turn : goal.returns-in-Ok-None-clause-turn
returns-in-Ok-None-clause-turn g c d at m reading ticks =
    let writes = c.as_slice-2.ensures ∙ c.in_ok-own.ensures ∙ ap (writes_at c.args.plan.targets c.args.plan.me) c.as_slice.ensures ∙ writes-own c.args.plan c.args.request.now.writes in
    let led = led_entry c.args.plan c.args.request.now c.args.epoch in
    let own = own_writes c.args.plan c.args.request.now.writes in
    let known = memory-same c.args.knows.now c.prepare.new.knows c.in-Ok-None.ensures.keeps.beside c.in-Ok-None.ensures.leader ∙ sym ticks in
    let p = prepares-as c.args.plan (g.S.Store.state c.args.store.now).opening m (memory_of c.args.knows.now) c.args.request.now.first c.in_ok-entry.entry led c.as_slice-2.result.now own d (g.S.Store.state c.args.store.now) (g.S.Store.durable c.prepare.new.store) (g.S.Store.state c.prepare.new.store)
    (g.S.Store.may c.prepare.new.store) (Ok c.in-Ok-None.field-0) (Ok None) (sym (ap (λ x. x.stamps) ticks)) c.in_ok-entry.ensures writes (ap Ok c.in-Ok-None.field-0-is) (c.in-Ok-None.ensures.prepared d at) in
    commit-goes c.args.plan (g.S.Store.state c.args.store.now).opening m reading c.args.request.now c.args.from c.args.epoch d (g.S.Store.state c.args.store.now) (g.S.Store.state c.prepare.new.store) (g.S.Store.durable c.prepare.new.store) (g.S.Store.may c.prepare.new.store)
    (memory_of c.begin.new.knows) c.begin.result
    (subst (λ n. IfOk c.begin.result (λ did. (memory_of c.begin.new.knows, did) ≡ begun_of c.args.plan n c.args.request.now c.args.from c.args.epoch (prepared led own d))) known
    (subst (λ e. IfOk c.begin.result (λ did. (memory_of c.begin.new.knows, did) ≡ begun_of c.args.plan (memory_of c.prepare.new.knows) c.args.request.now c.args.from e (prepared led own d))) (ap (λ e. e.epoch) c.in_ok-entry.ensures)
    (c.begin.ensures.begun (prepared led own d) p.1.kept_is)))
    c.begin.ensures.wanting p.0 p.1

pub returns-in-Ok-Some-clause-turn : goal.returns-in-Ok-Some-clause-turn
returns-in-Ok-Some-clause-turn g c d at m reading ticks =
    let writes = c.as_slice-2.ensures ∙ c.in_ok-own.ensures ∙ ap (writes_at c.args.plan.targets c.args.plan.me) c.as_slice.ensures ∙ writes-own c.args.plan c.args.request.now.writes in
    let led = led_entry c.args.plan c.args.request.now c.args.epoch in
    let own = own_writes c.args.plan c.args.request.now.writes in
    let known = memory-same c.args.knows.now c.prepare.new.knows c.in-Ok-Some.ensures.keeps.beside c.in-Ok-Some.ensures.leader ∙ sym ticks in
    let p = prepares-as c.args.plan (g.S.Store.state c.args.store.now).opening m (memory_of c.args.knows.now) c.args.request.now.first c.in_ok-entry.entry led c.as_slice-2.result.now own d (g.S.Store.state c.args.store.now) (g.S.Store.durable c.prepare.new.store) (g.S.Store.state c.prepare.new.store)
    (g.S.Store.may c.prepare.new.store) (Ok c.in-Ok-Some.field-0) (Ok (Some c.in-Ok-Some.outcome)) (sym (ap (λ x. x.stamps) ticks)) c.in_ok-entry.ensures writes (ap Ok c.in-Ok-Some.field-0-is) (c.in-Ok-Some.ensures.prepared d at) in
    commit-told c.args.plan (g.S.Store.state c.args.store.now).opening m reading c.args.request.now c.args.from c.args.epoch d (g.S.Store.state c.args.store.now) (g.S.Store.state c.prepare.new.store) (g.S.Store.durable c.prepare.new.store) (g.S.Store.may c.prepare.new.store)
    (memory_of c.prepare.new.knows) c.in-Ok-Some.outcome (asked.says c.args.from c.ended.result c.issued_for-issued.result) c.says.result known
    (ap (λ x. asked.says c.args.from x c.issued_for-issued.result) c.ended.ensures ∙ ap (λ x. asked.says c.args.from (message.Ended c.args.request.now.attempt (Some c.args.epoch) c.in-Ok-Some.outcome) x) c.issued_for-issued.ensures)
    c.says.ensures.did c.says.ensures.wanting p.0 p.1

pub returns-in-Ok-Some-clause-target : goal.returns-in-Ok-Some-clause-target
returns-in-Ok-Some-clause-target g c =
    target-kept c.args.plan halt_stop _ (g.S.Store.state c.args.store.now) (g.S.Store.state c.prepare.new.store) (g.S.Store.durable c.args.store.now) (g.S.Store.durable c.prepare.new.store) c.args.knows.now c.prepare.new.knows c.requires.target c.in-Ok-Some.ensures.keeps

pub returns-clause-turn : goal.returns-clause-turn
returns-clause-turn g c d at m reading ticks =
    let writes = c.as_slice-2.ensures ∙ c.in_ok-own.ensures ∙ ap (writes_at c.args.plan.targets c.args.plan.me) c.as_slice.ensures ∙ writes-own c.args.plan c.args.request.now.writes in
    let led = led_entry c.args.plan c.args.request.now c.args.epoch in
    let own = own_writes c.args.plan c.args.request.now.writes in
    let p = prepares-as c.args.plan (g.S.Store.state c.args.store.now).opening m (memory_of c.args.knows.now) c.args.request.now.first c.in_ok-entry.entry led c.as_slice-2.result.now own d (g.S.Store.state c.args.store.now) (g.S.Store.durable c.prepare.new.store) (g.S.Store.state c.prepare.new.store)
    (g.S.Store.may c.prepare.new.store) (Err c.in-Err.halt) (Err c.in-Err.halt) (sym (ap (λ x. x.stamps) ticks)) c.in_ok-entry.ensures writes refl (c.in-Err.ensures.prepared d at) in
    commit-halted c.args.plan (g.S.Store.state c.args.store.now).opening m reading c.args.request.now c.args.from c.args.epoch d (g.S.Store.state c.args.store.now) (g.S.Store.state c.prepare.new.store) (g.S.Store.durable c.prepare.new.store) (g.S.Store.may c.prepare.new.store)
    (memory_of c.prepare.new.knows) c.in-Err.halt c.issued_for-issued.result c.stop_of.result c.issued_for-issued.ensures c.stop_of.ensures p

pub returns-clause-target : goal.returns-clause-target
returns-clause-target g c =
    target-kept c.args.plan halt_stop _ (g.S.Store.state c.args.store.now) (g.S.Store.state c.prepare.new.store) (g.S.Store.durable c.args.store.now) (g.S.Store.durable c.prepare.new.store) c.args.knows.now c.prepare.new.knows c.requires.target c.in-Err.ensures.keeps

pub returns-in-Ok-None-clause-posts : goal.returns-in-Ok-None-clause-posts
returns-in-Ok-None-clause-posts g c client =
    later-posts c.args.plan.targets c.args.knows.now.leader c.prepare.new.knows.leader c.begin.new.knows.leader c.begin.result c.in-Ok-None.ensures.leader (c.begin.ensures.posts c.requires.target.placed.me client)

pub returns-in-Ok-Some-clause-posts : goal.returns-in-Ok-Some-clause-posts
returns-in-Ok-Some-clause-posts g c client =
    client-posts c.args.plan.targets c.args.knows.now.leader c.prepare.new.knows.leader c.args.from c.ended.result c.issued_for-issued.result c.says.result client (ap is_told c.ended.ensures) c.in-Ok-Some.ensures.leader c.says.ensures.did

pub returns-in-Ok-None-clause-reads : goal.returns-in-Ok-None-clause-reads
returns-in-Ok-None-clause-reads g c =
    turn-on c.begin.result [] c.args.knows.now.member.memory c.prepare.new.knows.member.memory c.begin.new.knows.member.memory (ap (λ m. m.memory.parked) c.in-Ok-None.ensures.keeps.beside.member) c.begin.ensures.reads

pub returns-in-Ok-Some-clause-reads : goal.returns-in-Ok-Some-clause-reads
returns-in-Ok-Some-clause-reads g c =
    turn-carries c.says.result [] c.args.knows.now.member.memory c.prepare.new.knows.member.memory (ap (λ m. m.memory.parked) c.in-Ok-Some.ensures.keeps.beside.member)
    (says-none c.says.result c.args.from c.ended.result c.issued_for-issued.result (ap is_of_read c.ended.ensures) c.says.ensures.did)

pub returns-in-Ok-None-clause-ends : goal.returns-in-Ok-None-clause-ends
returns-in-Ok-None-clause-ends g c asked was =
    on-same asked c.args.knows.now.leader c.prepare.new.knows.leader c.begin.new.knows.leader c.begin.result c.in-Ok-None.ensures.leader (c.begin.ensures.ends asked was)

pub returns-in-Ok-Some-clause-ends : goal.returns-in-Ok-Some-clause-ends
returns-in-Ok-Some-clause-ends g c asked was =
    says-ends asked c.args.knows.now.leader c.prepare.new.knows.leader c.args.from c.ended.result c.issued_for-issued.result c.says.result c.in-Ok-Some.ensures.leader
    (subst (GoesWith asked) (sym c.ended.ensures) (inl (subst AreRefusals c.in-Ok-Some.field-0-is c.in-Ok-Some.ensures.refused))) c.says.ensures.did
