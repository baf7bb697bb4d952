use Rattle.std.proofs.Common.{◌≡◌, ◌∙◌, Err, None, ap, refl, rules, subst, sym}
use Rattle.std.specs.Prelude.{IfOk}
use Rattle.snap_core.specs.Snaps.{held_heard, made, remembered, step_of}
use Rattle.target_parts.specs.Knowing.{memory_of}
use Rattle.target_parts.specs.Stops.{stop_memory}
use Rattle.target_snaps.specs.HeldTurns.{new_snapshot_of}
use Rattle.target_snaps.proofs.HeldTurns.{counted-own, created-told, created-wanting, held-counted, held-cut, held-wanting, last-is, made-frozen}
use Rattle.target_snaps.proofs.Standing.{target-created}
use Rattle.target_snaps.proofs.Following.{created-tried, none-tried, told-lines, told-memory, told-stop}
use Rattle.target_snaps.proofs.HeldFollowing.{held-goes, held-in_form, held-reads}
use Rattle.std.proofs.lemmas.Result.{IfOk-weaker}
use Rattle.daos_model.specs.Attempts.{tries}
use Rattle.target_parts.specs.declared.halt.Halt.TheVariants as halt
use Rattle.target_snaps.proofs.helds.hear_held.Goals as goal

pub returns-in_err-made-clause-turn : goal.returns-in_err-made-clause-turn
returns-in_err-made-clause-turn g c x refusal is d at =
    let no : c.from_residual.result ≡ Err stop_memory = search rules in
    held-wanting c.args.plan (memory_of c.args.knows.now) c.args.snaps.now c.requires.own c.args.from x refusal d (g.S.Store.state c.args.store.now) (g.S.Store.state c.args.store.now) (g.S.Store.durable c.args.store.now) (g.S.Store.may c.args.store.now)
    (remembered (memory_of c.args.knows.now) c.args.snaps.now) c.from_residual.result at no

pub returns-in_default-clause-turn : goal.returns-in_default-clause-turn
returns-in_default-clause-turn g c x refusal is d at =
    held-counted c.args.plan (memory_of c.args.knows.now) c.args.snaps.now c.requires.own c.args.from x refusal d (g.S.Store.state c.args.store.now) (g.S.Store.state c.args.store.now) (g.S.Store.durable c.args.store.now) (g.S.Store.may c.args.store.now)
    (remembered (memory_of c.args.knows.now) c.count.new.snaps) c.count.result c.count.new.snaps c.new.result c.new.ensures at
    (sym (subst (λ m. c.in_ok-made.field-0 ≡ new_snapshot_of (made c.args.from m c.args.snaps.now)) is c.in_ok-made.ensures) ∙ c.in_default.is) refl
    (subst (λ m. IfOk c.count.result (λ did. (did.lines ≡ c.new.result) × (did.issued ≡ None) × (step_of c.count.new.snaps did.posts ≡ held_heard c.args.from m c.args.snaps.now))) is c.count.ensures.did) c.count.ensures.wanting

pub returns-in_default-clause-own : goal.returns-in_default-clause-own
returns-in_default-clause-own g c = counted-own c.args.plan c.args.snaps.now c.count.new.snaps c.args.from c.args.message.now _ c.count.result c.requires.own c.count.ensures.did c.count.ensures.err

pub create_at-requires-clause-frozen : goal.create_at-requires-clause-frozen
create_at-requires-clause-frozen g c d at = made-frozen c.args.plan c.args.snaps.now c.requires.own c.args.from c.args.message.now c.in-Some.made d (sym c.in_ok-made.ensures ∙ c.in-Some.is) (c.requires.frozen d at)

pub returns-in-Err-clause-turn : goal.returns-in-Err-clause-turn
returns-in-Err-clause-turn g c x refusal is d at =
    let last = last-is c.args.plan c.args.snaps.now c.requires.own c.args.from x refusal c.in-Some.made (sym (subst (λ m. c.in_ok-made.field-0 ≡ new_snapshot_of (made c.args.from m c.args.snaps.now)) is c.in_ok-made.ensures) ∙ c.in-Some.is) in
    held-cut c.args.plan (memory_of c.args.knows.now) c.args.snaps.now c.requires.own c.args.from x refusal d (g.S.Store.state c.args.store.now) (g.S.Store.state c.create_at.new.store) (g.S.Store.durable c.create_at.new.store) (g.S.Store.may c.create_at.new.store)
    (remembered (memory_of c.args.knows.now) c.args.snaps.now) c.in-Some.made last _ (c.in-Err.ensures.made d at) (ap Err c.stop_of.ensures)

pub returns-in_err-lines-clause-turn : goal.returns-in_err-lines-clause-turn
returns-in_err-lines-clause-turn g c x refusal is d at =
    let no : c.from_residual-in_err-lines.result ≡ Err stop_memory = search rules in
    let last = last-is c.args.plan c.args.snaps.now c.requires.own c.args.from x refusal c.in-Some.made (sym (subst (λ m. c.in_ok-made.field-0 ≡ new_snapshot_of (made c.args.from m c.args.snaps.now)) is c.in_ok-made.ensures) ∙ c.in-Some.is) in
    created-wanting c.args.plan (memory_of c.args.knows.now) c.args.snaps.now c.requires.own c.args.from x refusal d (g.S.Store.state c.args.store.now) (g.S.Store.state c.create_at.new.store) (g.S.Store.durable c.create_at.new.store) (g.S.Store.may c.create_at.new.store)
    (remembered (memory_of c.args.knows.now) c.args.snaps.now) c.in-Some.made last (c.in_default-create_at.ensures.made d at) c.from_residual-in_err-lines.result no

pub returns-in_err-lines-clause-target : goal.returns-in_err-lines-clause-target
returns-in_err-lines-clause-target g c =
    target-created c.args.plan c.in-Some.made.cont c.in-Some.made.epoch _ (g.S.Store.state c.args.store.now) (g.S.Store.state c.create_at.new.store) (g.S.Store.durable c.args.store.now) (g.S.Store.durable c.create_at.new.store) (g.S.Store.may c.create_at.new.store) c.args.knows.now c.requires.target c.requires.running
    c.in_default-create_at.ensures.runs c.in_default-create_at.ensures.made

pub returns-clause-turn : goal.returns-clause-turn
returns-clause-turn g c x refusal is d at =
    let last = last-is c.args.plan c.args.snaps.now c.requires.own c.args.from x refusal c.in-Some.made (sym (subst (λ m. c.in_ok-made.field-0 ≡ new_snapshot_of (made c.args.from m c.args.snaps.now)) is c.in_ok-made.ensures) ∙ c.in-Some.is) in
    created-told c.args.plan (memory_of c.args.knows.now) c.args.snaps.now c.requires.own c.args.from x refusal d (g.S.Store.state c.args.store.now) (g.S.Store.state c.create_at.new.store) (g.S.Store.durable c.create_at.new.store) (g.S.Store.may c.create_at.new.store)
    (remembered (memory_of c.args.knows.now) c.count-2.new.snaps) c.in-Some.made last (c.in_default-create_at.ensures.made d at) c.count-2.result c.count-2.new.snaps c.in_ok-lines.lines c.in_ok-lines.ensures refl
    (subst (λ m. IfOk c.count-2.result (λ did. (did.lines ≡ c.in_ok-lines.lines) × (did.issued ≡ None) × (step_of c.count-2.new.snaps did.posts ≡ held_heard c.args.from m c.args.snaps.now))) is c.count-2.ensures.did) c.count-2.ensures.wanting

pub returns-clause-own : goal.returns-clause-own
returns-clause-own g c = counted-own c.args.plan c.args.snaps.now c.count-2.new.snaps c.args.from c.args.message.now _ c.count-2.result c.requires.own c.count-2.ensures.did c.count-2.ensures.err

pub returns-clause-target : goal.returns-clause-target
returns-clause-target g c =
    target-created c.args.plan c.in-Some.made.cont c.in-Some.made.epoch _ (g.S.Store.state c.args.store.now) (g.S.Store.state c.create_at.new.store) (g.S.Store.durable c.args.store.now) (g.S.Store.durable c.create_at.new.store) (g.S.Store.may c.create_at.new.store) c.args.knows.now c.requires.target c.requires.running
    c.in_default-create_at.ensures.runs c.in_default-create_at.ensures.made

-- ---- what follows

pub returns-in_err-made-clause-told : goal.returns-in_err-made-clause-told
returns-in_err-made-clause-told g c =
    let no : c.from_residual.result ≡ Err stop_memory = search rules in
    told-memory c.from_residual.result no

pub returns-in_default-clause-reads : goal.returns-in_default-clause-reads
returns-in_default-clause-reads g c = IfOk-weaker c.count.result _ _ (λ did h. held-reads c.args.snaps.now c.count.new.snaps did.posts c.args.from c.args.message.now h.2) c.count.ensures.did

pub returns-in_default-clause-posts : goal.returns-in_default-clause-posts
returns-in_default-clause-posts g c = IfOk-weaker c.count.result _ _ (λ did h. held-in_form c.args.snaps.now c.count.new.snaps did.posts c.args.plan.targets c.args.from c.args.message.now h.2) c.count.ensures.did

pub returns-in_default-clause-ends : goal.returns-in_default-clause-ends
returns-in_default-clause-ends g c given goes = IfOk-weaker c.count.result _ _ (λ did h. held-goes c.args.snaps.now c.count.new.snaps did.posts given c.args.from c.args.message.now goes h.2) c.count.ensures.did

pub returns-in_default-clause-told : goal.returns-in_default-clause-told
returns-in_default-clause-told g c = told-lines c.new.result c.count.result (ap tries c.new.ensures ∙ none-tried) (IfOk-weaker c.count.result _ _ (λ did h. h.0) c.count.ensures.did) c.count.ensures.wanting

pub returns-clause-reads : goal.returns-clause-reads
returns-clause-reads g c = IfOk-weaker c.count-2.result _ _ (λ did h. held-reads c.args.snaps.now c.count-2.new.snaps did.posts c.args.from c.args.message.now h.2) c.count-2.ensures.did

pub returns-clause-posts : goal.returns-clause-posts
returns-clause-posts g c = IfOk-weaker c.count-2.result _ _ (λ did h. held-in_form c.args.snaps.now c.count-2.new.snaps did.posts c.args.plan.targets c.args.from c.args.message.now h.2) c.count-2.ensures.did

pub returns-clause-ends : goal.returns-clause-ends
returns-clause-ends g c given goes = IfOk-weaker c.count-2.result _ _ (λ did h. held-goes c.args.snaps.now c.count-2.new.snaps did.posts given c.args.from c.args.message.now goes h.2) c.count-2.ensures.did

pub returns-clause-told : goal.returns-clause-told
returns-clause-told g c = told-lines c.in_ok-lines.lines c.count-2.result (ap tries c.in_ok-lines.ensures ∙ created-tried c.in-Some.made.name c.in-Some.made.cont c.in-Some.made.epoch) (IfOk-weaker c.count-2.result _ _ (λ did h. h.0) c.count-2.ensures.did) c.count-2.ensures.wanting

pub returns-in-Err-clause-told : goal.returns-in-Err-clause-told
returns-in-Err-clause-told g c = told-stop halt.Stopped None (Err c.stop_of.result) (ap Err c.stop_of.ensures)

pub returns-in_err-lines-clause-told : goal.returns-in_err-lines-clause-told
returns-in_err-lines-clause-told g c =
    let no : c.from_residual-in_err-lines.result ≡ Err stop_memory = search rules in
    told-memory c.from_residual-in_err-lines.result no
