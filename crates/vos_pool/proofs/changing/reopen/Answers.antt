use Rattle.std.proofs.Common.{◌≡◌, ◌≤◌, ℕ, ap, sym, subst}
use Rattle.std.specs.Prelude.{IsSome, Option}
use Rattle.daos_model.specs.declared.durable.Durable.{Durable}
use Rattle.vos_pool.proofs.Reopened.{finds_closed, may_rise, opens_closed}
use Rattle.vos_pool_site.specs.Site.{site_durable, site_may, site_state}
use Rattle.vos_store.specs.Calls.{State}
use Rattle.vos_pool.proofs.changing.reopen.Goals as goal

pub open_again-requires : goal.open_again-requires
open_again-requires g c = may_rise _ _ (site_durable g.R.Region.tells g.R.Region.extent g.R.Region.image c.args.site) _ _ (site_may g.R.Region.tells g.R.Region.extent g.R.Region.may_leave c.args.site) c.close.ensures.durable c.close.ensures.found c.requires

pub returns-clause-call : goal.returns-clause-call
returns-clause-call g c = opens_closed c.open_again.result.1 _ _ _ c.close.ensures.state c.open_again.ensures.call

pub returns-clause-kept : goal.returns-clause-kept
returns-clause-kept g c = finds_closed _ _ _ _ _ _ c.close.ensures.durable c.close.ensures.found c.open_again.result.1 c.open_again.ensures.kept

pub returns-clause-free : goal.returns-clause-free
returns-clause-free g c told =
    let free : c.close.result.free ≡ (site_state g.R.Region.count g.R.Region.burns g.R.Region.can_burn c.args.site).free = ap (λ (s : State). s.free) c.close.ensures.state in
    subst (λ (n : ℕ). n ≤ (site_state g.R.Region.count g.R.Region.burns g.R.Region.can_burn c.open_again.result.0).free) free
    (c.open_again.ensures.free (subst (λ (o : Option Durable). IsSome o) (sym c.close.ensures.durable) told))

pub returns-clause-native : goal.returns-clause-native
returns-clause-native g c told = c.open_again.ensures.native (subst (λ (o : Option Durable). IsSome o) (sym c.close.ensures.durable) told)
