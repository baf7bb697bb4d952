use Rattle.std.specs.Prelude.{◌≤◌}
use Rattle.std.proofs.Common.{◌∙◌, ap, subst}
use Rattle.daos_model.specs.Changes.{leased}
use Rattle.vos_standing.specs.vos_places.Laws.{counted}
use Rattle.vos_tables.specs.Kept.{Makes}
use Rattle.vos_pool_base.specs.Pool.{OpenedState}
use Rattle.vos_pool_base.proofs.opened.Opened.extend_lease.Goals as goal

pub count-requires-clause-roots : goal.count-requires-clause-roots
count-requires-clause-roots g c = (
  c.plan_lease-counters.ensures.objects ∙ ap (λ (p : OpenedState _). p.table.header.objects) c.self.view_is,
  c.plan_lease-counters.ensures.entries ∙ ap (λ (p : OpenedState _). p.table.header.entries) c.self.view_is,
)

pub returns-clause-kept : goal.returns-clause-kept
returns-clause-kept g c = c.count.ensures.makes (leased c.args.ticks) (λ going vs es is.
    let least = c.requires.on going _ is in
    subst (λ (p : OpenedState _). p.table.header.lease ≤ c.args.ticks → Makes (leased c.args.ticks) p.table (counted c.plan_lease-counters.result p.table)) c.self.view_is c.plan_lease-counters.ensures.leased least vs es)
