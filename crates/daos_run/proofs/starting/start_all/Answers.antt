use Rattle.std.specs.Prelude.{◌≡◌, ◌≤◌, ◌∷◌, ◌++◌, [], None, Some, if◌then◌else◌, is_ok, length, set, slice_get}
use Rattle.std.proofs.Common.{◌∙◌, ap, arith, subst, sym}
use Rattle.daos_run.proofs.Slots.{set-not-none}
use Rattle.daos_run.proofs.Started.{as-before, one-started, taken-before}
use Rattle.daos_run.specs.Slots.{AreTaken}
use Rattle.world_base.specs.StepLaws.{set-here}
use Rattle.daos_run.proofs.starting.start_all.Goals as goal

pub unreachable-requires : goal.unreachable-requires
unreachable-requires g c =
    let k = c.requires.stores.set.each c.loop-t.t c.loop-t-test.true in
    let there : slice_get c.loop-t.parts c.loop-t.t ≡ Some (Some k.0) = c.loop-t.invariant.taken.left c.loop-t.t (omega arith) ∙ k.1 in
    set-not-none c.loop-t.parts c.loop-t.t k.0 there c.in_default.ensures.taken

pub new-requires-clause-made : goal.new-requires-clause-made
new-requires-clause-made g c = (c.requires.stores.each c.loop-t.t (c.in-Some.store, c.in-Some.clock) (sym (c.loop-t.invariant.taken.left c.loop-t.t (omega arith)) ∙ c.in-Some.ensures.taken)).made

pub new-requires-clause-running : goal.new-requires-clause-running
new-requires-clause-running g c = (c.requires.stores.each c.loop-t.t (c.in-Some.store, c.in-Some.clock) (sym (c.loop-t.invariant.taken.left c.loop-t.t (omega arith)) ∙ c.in-Some.ensures.taken)).running

pub new-requires-clause-opened : goal.new-requires-clause-opened
new-requires-clause-opened g c = (c.requires.stores.each c.loop-t.t (c.in-Some.store, c.in-Some.clock) (sym (c.loop-t.invariant.taken.left c.loop-t.t (omega arith)) ∙ c.in-Some.ensures.taken)).heard

pub new-requires-clause-empty : goal.new-requires-clause-empty
new-requires-clause-empty g c = (c.requires.stores.each c.loop-t.t (c.in-Some.store, c.in-Some.clock) (sym (c.loop-t.invariant.taken.left c.loop-t.t (omega arith)) ∙ c.in-Some.ensures.taken)).bare

pub set-requires : goal.set-requires
set-requires g c = ap (λ l. slice_get l c.loop-t.t) c.in-Some.ensures.left ∙ set-here c.loop-t.parts c.loop-t.t (Some (c.in-Some.store, c.in-Some.clock)) None c.in-Some.ensures.taken

pub hand_back-requires-clause-taken : goal.hand_back-requires-clause-taken
hand_back-requires-clause-taken g c =
    let many = c.requires.stores.set.many in
    let low = c.loop-t-test.true in
    let within : c.loop-t.t ≤ length c.args.parts.now = omega (arith, many, low) in
    taken-before g.S.Store.durable c.args.job.now c.loop-t.t c.args.parts.now c.loop-t.parts c.take.new.self c.set.new.self c.loop-t.targets.items c.in-Err.field-0.store c.in-Err.field-0.clock c.loop-t.invariant.taken within c.loop-t.invariant.started.many c.in-Some.ensures.left c.set.ensures

pub returns-in-Err-clause-back : goal.returns-in-Err-clause-back
returns-in-Err-clause-back g c =
    as-before g.S.Store.durable c.args.job.now c.args.parts.now c.loop-t.parts c.take.new.self c.set.new.self c.hand_back.new.parts c.loop-t.targets.items c.loop-t.t (c.in-Some.store, c.in-Some.clock)
    c.requires.stores.set c.loop-t-test.true c.loop-t.invariant.started c.loop-t.invariant.taken c.in-Some.ensures.taken c.in-Some.ensures.left
    (c.set.ensures ∙ ap (λ p. set c.take.new.self c.loop-t.t (Some (p.store, p.clock))) c.in-Err.ensures.handed_back) c.hand_back.ensures

pub loop-t-preserved : goal.loop-t-preserved
loop-t-preserved g c =
    one-started g.S.Store.durable c.args.job.now c.loop-t.t c.args.parts.now c.loop-t.parts c.take.new.self c.loop-t.targets.items c.push.new.self.items c.loop-t.targets.cap c.push.new.self.cap (c.in-Some.store, c.in-Some.clock) c.in-Ok.target
    c.loop-t.invariant c.in-Some.ensures.taken c.in-Some.ensures.left (c.push.ensures.items ∙ ap (λ q. if is_ok q then c.loop-t.targets.items ++ c.in-Ok.target ∷ [] else c.loop-t.targets.items) c.unwrap.ensures) c.push.ensures.capacity
    (record {
      new = record {
        plan = c.in-Ok.ensures.plan;
        ticks = λ d told. c.in-Ok.ensures.ticks d (ap g.S.Store.durable (sym c.in-Ok.ensures.store) ∙ told);
        unread = c.in-Ok.ensures.unread;
        leads = c.in-Ok.ensures.leader;
        joins = c.in-Ok.ensures.member;
        making = c.in-Ok.ensures.making;
        has_opened = c.in-Ok.ensures.opened;
      };
      store = c.in-Ok.ensures.store;
      clock = c.in-Ok.ensures.clock;
    })

pub returns-clause-taken : goal.returns-clause-taken
returns-clause-taken g c =
    let low = c.loop-t.auto.t-end in
    let over = c.loop-t-test.false in
    let done : c.loop-t.t ≡ c.args.job.now.targets = omega (arith, low, over) in
    subst (λ n. AreTaken n c.args.parts.now c.loop-t.parts) done c.loop-t.invariant.taken
