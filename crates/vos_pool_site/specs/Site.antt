-- What a pool says of itself, open or not, and what it keeps.
use Rattle.std.specs.Prelude.{ℕ, Bool, false, true, Option}
use Rattle.base_outside.specs.declared.region.Region.{Ghosts}
use Rattle.base_outside.specs.Images.{Image}
use Rattle.daos_model.specs.declared.durable.Durable.{Durable}
use Rattle.vos_pool_site.specs.declared.closed.Closed.{Closed}
use Rattle.vos_pool_site.specs.declared.site.Site.{Site}
use Rattle.vos_pool_site.specs.declared.site.Site.TheVariants as site
use Rattle.vos_pool_held.specs.State.{held_durable, held_may, held_state}
use Rattle.vos_pool_held.specs.vos_pool_base.Pool.{MayBeFound, kept_by}
use Rattle.vos_store.specs.Calls.{State}

-- one that isn't open has stopped
abbrev pub closed_state : {R : Type 0} {Q : Ghosts R} → (R → ℕ) → (R → ℕ) → Bool → Closed R Q → State
closed_state count burns can_burn c = record {
  stopped = true;
  faults = count c.region;
  burns = burns c.region;
  may_fail = true;
  fused = can_burn;
  tells_fuse = false;
  left = 0;
  free = c.free;
  targets = c.targets;
  opening = (c.floor, c.why);
}

abbrev pub site_state : {R : Type 0} {Q : Ghosts R} → (R → ℕ) → (R → ℕ) → Bool → Site R Q → State
site_state count burns can_burn (site.Open h) = held_state count burns can_burn h
site_state count burns can_burn (site.Closed c) = closed_state count burns can_burn c

abbrev pub site_durable : {R : Type 0} {Q : Ghosts R} → Bool → (R → ℕ) → (R → Image) → Site R Q → Option Durable
site_durable tells extent image (site.Open h) = held_durable tells extent image h
site_durable tells extent image (site.Closed c) = kept_by tells c.target (extent c.region) (image c.region)

abbrev pub site_may : {R : Type 0} {Q : Ghosts R} → Bool → (R → ℕ) → (R → Image → Type 0) → Site R Q → Durable → Type 0
site_may tells extent may_leave (site.Open h) = held_may tells extent may_leave h
site_may tells extent may_leave (site.Closed c) = MayBeFound tells c.target (extent c.region) (may_leave c.region)

-- the region of a pool, and the target that it was made for
abbrev pub site_region : {R : Type 0} {Q : Ghosts R} → Site R Q → R
site_region (site.Open h) = h.opened.blocks.undo.region
site_region (site.Closed c) = c.region

abbrev pub site_target : {R : Type 0} {Q : Ghosts R} → Site R Q → ℕ
site_target (site.Open h) = h.target
site_target (site.Closed c) = c.target
