use Rattle.std.proofs.Common.{◌<◌, rules, subst}
use Rattle.target_parts.specs.Cover.{covers_or_cut}
use Rattle.target_parts.proofs.epochs.cover.Goals as goal

pub returns-in-Some-clause-covered : goal.returns-in-Some-clause-covered
returns-in-Some-clause-covered g c d at =
    let low : d.lease < c.args.ticks = subst (λ n. n < c.args.ticks) (c.lease.ensures.lease c.requires.running d at) c.if-lease-ticks.true in
    covers_or_cut c.args.ticks c.in-Some.lease d _ _ _ _ _ _ _ at (λ x may. g.met.S.Store.steady _ d x c.requires.running at may) c.extend_lease.ensures.call c.extend_lease.ensures.kept low (search rules)
