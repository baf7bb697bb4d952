use Rattle.std.proofs.Common.{ap, subst}
use Rattle.target_parts.specs.Covers.{CoversOrCut}
use Rattle.target_parts.specs.KnowsLaws.{with_clock}
use Rattle.target_parts.specs.Standing.{target-heard}
use Rattle.target_parts.proofs.epochs.hear.Goals as goal

pub returns-clause-target : goal.returns-clause-target
returns-clause-target g c =
    target-heard c.args.plan c.args.epoch c.cover.result (g.S.Store.state c.args.store.now) (g.S.Store.state c.cover.new.store) (g.S.Store.durable c.args.store.now) (g.S.Store.durable c.cover.new.store) (g.S.Store.may c.cover.new.store) c.args.knows.now (with_clock c.hear.new.self c.args.knows.now) c.requires.target c.requires.running
    c.cover.ensures.runs (ap (λ x. with_clock x c.args.knows.now) c.hear.ensures)
    (λ d at. subst (λ n. CoversOrCut n d (g.S.Store.state c.args.store.now) (g.S.Store.durable c.cover.new.store) (g.S.Store.state c.cover.new.store) (g.S.Store.may c.cover.new.store) c.cover.result) c.ticks.ensures (c.cover.ensures.covered d at))
