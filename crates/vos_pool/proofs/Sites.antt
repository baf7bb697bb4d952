-- What is asked of a pool is asked of it where it is open.
use Rattle.std.proofs.Common.{◌≡◌, ℕ, Bool, subst, sym}
use Rattle.std.specs.Prelude.{Option}
use Rattle.base_outside.specs.declared.region.Region.{Ghosts}
use Rattle.daos_model.specs.declared.durable.Durable.{Durable}
use Rattle.vos_pool_held.specs.declared.held.Held.{Held}
use Rattle.vos_pool_held.specs.State.{held_durable, held_may, held_state}
use Rattle.vos_pool_site.specs.declared.closed.Closed.{Closed}
use Rattle.vos_pool_site.specs.declared.site.Site.{Site}
use Rattle.vos_pool_site.specs.declared.site.Site.TheVariants as site
use Rattle.vos_pool_site.specs.Site.{site_durable, site_may, site_state}
use Rattle.vos_store.specs.Calls.{State}

pub where_open : {R : Type 0} {Q : Ghosts R} (count burns : R → ℕ) (can_burn : Bool) (P : State → Option Durable → Type 0) (s : Site R Q) (h : Held R Q) → s ≡ site.Open h → P (site_state count burns can_burn s) (site_durable Q.tells Q.extent Q.image s) → P (held_state count burns can_burn h) (held_durable Q.tells Q.extent Q.image h)
where_open {R = R} {Q = Q} count burns can_burn P s h is asked = subst (λ (x : Site R Q). P (site_state count burns can_burn x) (site_durable Q.tells Q.extent Q.image x)) is asked

-- what may be found of it where it is open, or closed, may be found of it
pub found_open : {R : Type 0} {Q : Ghosts R} (s : Site R Q) (h : Held R Q) → s ≡ site.Open h → (x : Durable) → held_may Q.tells Q.extent Q.may_leave h x → site_may Q.tells Q.extent Q.may_leave s x
found_open {R = R} {Q = Q} s h is x may = subst (λ (y : Site R Q). site_may Q.tells Q.extent Q.may_leave y x) (sym is) may

pub found_closed : {R : Type 0} {Q : Ghosts R} (s : Site R Q) (c : Closed R Q) → s ≡ site.Closed c → (x : Durable) → site_may Q.tells Q.extent Q.may_leave (site.Closed c) x → site_may Q.tells Q.extent Q.may_leave s x
found_closed {R = R} {Q = Q} s c is x may = subst (λ (y : Site R Q). site_may Q.tells Q.extent Q.may_leave y x) (sym is) may
