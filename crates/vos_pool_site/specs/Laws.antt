-- What holds of every pool, open or not, as the laws of stores ask.
use Rattle.std.proofs.Common.{◌≡◌, ℕ, Bool, true, false, refl}
use Rattle.std.specs.Prelude.{IsTrue, Some, None, cond, is_some}
use Rattle.base_outside.specs.declared.region.Region.{Ghosts}
use Rattle.base_outside.specs.Images.{Image}
use Rattle.daos_model.specs.declared.durable.Durable.{Durable}
use Rattle.daos_model.specs.BoolLaws.{clash}
use Rattle.daos_model.specs.Durables.{IsInForm}
use Rattle.vos_pool_held.specs.Laws.{held_findable, held_formed, held_steady}
use Rattle.vos_pool_held.specs.vos_pool_base.vos_image.Kept.{kept}
use Rattle.vos_commits.specs.Kept.{kept_in}
use Rattle.vos_pool_site.specs.declared.site.Site.{Site}
use Rattle.vos_pool_site.specs.declared.site.Site.TheVariants as site
use Rattle.vos_pool_site.specs.Site.{site_durable, site_may, site_state}

-- something is told exactly where the region tells its bytes
some_tells : (tells : Bool) (k : Durable) → is_some (cond tells (Some k) None) ≡ true → IsTrue tells
some_tells true k is = refl
some_tells false k is = absurd (clash false is refl)

tells_some : (tells : Bool) (k : Durable) → IsTrue tells → is_some (cond tells (Some k) None) ≡ true
tells_some true k is = refl
tells_some false k is = absurd (clash false is refl)

module _ {R : Type 0} {Q : Ghosts R} where
  pub site_tells : (s : Site R Q) → is_some (site_durable Q.tells Q.extent Q.image s) ≡ true → IsTrue Q.tells
  site_tells (site.Open h) is = some_tells Q.tells _ is
  site_tells (site.Closed c) is = some_tells Q.tells _ is

  pub tells_site : (s : Site R Q) → IsTrue Q.tells → is_some (site_durable Q.tells Q.extent Q.image s) ≡ true
  tells_site (site.Open h) is = tells_some Q.tells _ is
  tells_site (site.Closed c) is = tells_some Q.tells _ is

  -- one tells what it keeps where another does
  pub site_alike : (s t : Site R Q) → is_some (site_durable Q.tells Q.extent Q.image s) ≡ true → is_some (site_durable Q.tells Q.extent Q.image t) ≡ true
  site_alike s t is = tells_site t (site_tells s is)

  -- something may be found at its next opening, where a crash of its region leaves something
  pub site_findable : ((region : R) → IsTrue Q.tells → (c : Image) × Q.may_leave region c) → (s : Site R Q) → is_some (site_durable Q.tells Q.extent Q.image s) ≡ true → (x : Durable) × site_may Q.tells Q.extent Q.may_leave s x
  site_findable leaves_some (site.Open h) is = held_findable leaves_some h is
  site_findable leaves_some (site.Closed k) is =
      let t = some_tells Q.tells _ is in
      let c = leaves_some k.region t in
      (kept_in (kept k.target (Q.extent k.region)) (Q.extent k.region) c.0, (t, (c.0, (c.1, refl))))

module _ {R : Type 0} {Q : Ghosts R} (count burns : R → ℕ) (can_burn : Bool) where
  -- one that isn't stopped opens with what it keeps
  pub site_steady : (s : Site R Q) (d x : Durable) → (site_state count burns can_burn s).stopped ≡ false → site_durable Q.tells Q.extent Q.image s ≡ Some d → site_may Q.tells Q.extent Q.may_leave s x → x ≡ d
  site_steady (site.Open h) d x run is may = held_steady count burns can_burn h d x run is may
  site_steady (site.Closed c) d x run is may = absurd (clash true refl run)

  -- what it keeps is in order and in form
  pub site_formed : (s : Site R Q) → (site_state count burns can_burn s).stopped ≡ false → (d : Durable) → site_durable Q.tells Q.extent Q.image s ≡ Some d → IsInForm d
  site_formed (site.Open h) run d is = held_formed count burns can_burn h run d is
  site_formed (site.Closed c) run d is = absurd (clash true refl run)
