use Rattle.model_laws.specs.Lists.{at-index}
use Rattle.run_starts.proofs.Whole.{held-first}
use Rattle.run_starts.proofs.held.held_at_first.Goals as goal

pub returns : goal.returns
returns g c =
    let x = c.index-stores-0.result in
    let at = at-index c.args.stores.now 0 x c.requires.some c.index-stores-0.is in
    held-first g.S.Store.durable c.args.stores.now x c.snaps.result at (c.snaps.ensures (c.requires.running 0 x at))
