use Rattle.std.specs.Prelude.{◌≡◌, Some, length, set}
use Rattle.std.proofs.Common.{◌∙◌, ap, arith}
use Rattle.daos_run.proofs.Slots.{none-back, one-back}
use Rattle.daos_run.proofs.starting.hand_back.Goals as goal

pub loop-init : goal.loop-init
loop-init g c = none-back c.args.targets.items c.args.parts.now c.requires.taken

pub loop-preserved : goal.loop-preserved
loop-preserved g c =
    let ok = c.pop.new.self.ok.0 in
    let said = c.len.ensures in
    let last : c.len.result ≡ length c.pop.new.self.items = omega (arith, ok, said) in
    one-back c.args.targets.items c.loop.targets.items c.pop.new.self.items c.args.parts.now c.loop.parts c.set.new.self c.loop.counter c.in-Some.target c.loop.invariant c.in-Some.ensures.items
    (c.set.ensures ∙ ap (λ n. set c.loop.parts n (Some (c.into_parts-store.result.0, c.into_parts-store.result.1))) last ∙ ap (λ s. set c.loop.parts (length c.pop.new.self.items) (Some (s, c.into_parts-store.result.1))) c.into_parts-store.ensures.store
    ∙ ap (λ k. set c.loop.parts (length c.pop.new.self.items) (Some (c.in-Some.target.store, k))) c.into_parts-store.ensures.clock)
