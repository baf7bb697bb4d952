use Rattle.std.specs.Prelude.{◌≡◌, ◌∷◌, ◌++◌, [], Some, if◌then◌else◌, is_ok, slice_get}
use Rattle.std.proofs.Common.{◌∙◌, ap, arith}
use Rattle.daos_run.proofs.Places.{at-low}
use Rattle.daos_run.proofs.Slots.{set-not-none}
use Rattle.daos_run.proofs.Taking.{all-apart, one-apart}
use Rattle.daos_run.proofs.apart.take_all.Goals as goal

pub unreachable-requires : goal.unreachable-requires
unreachable-requires g c =
    let k = c.requires.set.each c.loop-t.t c.loop-t-test.true in
    let there : slice_get c.loop-t.parts c.loop-t.t ≡ Some (Some k.0) = c.loop-t.invariant.taken.left c.loop-t.t (omega arith) ∙ k.1 in
    set-not-none c.loop-t.parts c.loop-t.t k.0 there c.in_default.ensures.taken

pub loop-t-preserved : goal.loop-t-preserved
loop-t-preserved g c =
    one-apart c.args.targets c.loop-t.t c.args.parts.now c.loop-t.parts c.take.new.self c.loop-t.stores.items c.push.new.self.items c.loop-t.clocks.items c.push-in-loop-t.new.self.items c.loop-t.stores.cap c.push.new.self.cap c.loop-t.clocks.cap c.push-in-loop-t.new.self.cap
    (c.in-Some.store, c.in-Some.clock) c.loop-t.invariant c.in-Some.ensures.taken c.in-Some.ensures.left
    (c.push.ensures.items ∙ ap (λ q. if is_ok q then c.loop-t.stores.items ++ c.in-Some.store ∷ [] else c.loop-t.stores.items) c.unwrap.ensures)
    (c.push-in-loop-t.ensures.items ∙ ap (λ q. if is_ok q then c.loop-t.clocks.items ++ c.in-Some.clock ∷ [] else c.loop-t.clocks.items) c.unwrap-in-loop-t.ensures)
    c.push.ensures.capacity c.push-in-loop-t.ensures.capacity

pub returns-clause-apart : goal.returns-clause-apart
returns-clause-apart g c =
    let low = c.loop-t.auto.t-end in
    let over = c.loop-t-test.false in
    let done : c.loop-t.t ≡ c.args.targets = omega (arith, low, over) in
    all-apart c.args.targets c.loop-t.t c.args.parts.now c.loop-t.parts c.loop-t.stores.items c.loop-t.clocks.items c.loop-t.stores.cap c.loop-t.clocks.cap c.loop-t.invariant done (at-low c.args.targets c.args.parts.now c.requires.set)
