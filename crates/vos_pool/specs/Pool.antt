-- What a pool says of itself, and what it keeps.
use Rattle.std.specs.Prelude.{ℕ, Bool, Option}
use Rattle.base_outside.specs.declared.region.Region.{Ghosts}
use Rattle.base_outside.specs.Images.{Image}
use Rattle.daos_model.specs.declared.durable.Durable.{Durable}
use Rattle.vos_pool.specs.declared.pool.Pool.{Pool}
use Rattle.vos_pool_site.specs.Site.{site_durable, site_may, site_region, site_state, site_target}
use Rattle.vos_store.specs.Calls.{State}

abbrev pub pool_state : {R : Type 0} {Q : Ghosts R} → (R → ℕ) → (R → ℕ) → Bool → Pool R Q → State
pool_state count burns can_burn p = site_state count burns can_burn p.site

-- what it keeps, where its region tells its bytes
abbrev pub pool_durable : {R : Type 0} {Q : Ghosts R} → Bool → (R → ℕ) → (R → Image) → Pool R Q → Option Durable
pool_durable tells extent image p = site_durable tells extent image p.site

-- what its next opening may find
abbrev pub pool_may : {R : Type 0} {Q : Ghosts R} → Bool → (R → ℕ) → (R → Image → Type 0) → Pool R Q → Durable → Type 0
pool_may tells extent may_leave p = site_may tells extent may_leave p.site

-- its region, and the target that it was made for
abbrev pub pool_region : {R : Type 0} {Q : Ghosts R} → Pool R Q → R
pool_region p = site_region p.site

abbrev pub pool_target : {R : Type 0} {Q : Ghosts R} → Pool R Q → ℕ
pool_target p = site_target p.site
