-- A closed pool that is held after its opening.
use Rattle.std.proofs.Common.{◌≡◌, ℕ, ◌+◌, ◌≤◌, ◌<◌, ◌^◌, Bool, true, false, refl, ◌∙◌, ap, arith}
use Rattle.std.specs.Prelude.{IsTrue, IsSome, Some, None, Ok, cond}
use Rattle.base_outside.specs.declared.region.Region.{Ghosts}
use Rattle.base_types.specs.Epochs.{restart_floor}
use Rattle.daos_model.specs.BoolLaws.{clash}
use Rattle.daos_model.specs.declared.durable.Durable.{Durable}
use Rattle.vos_check_region.specs.Blank.{IsBlank}
use Rattle.vos_pool_again.proofs.Opening.{finds_begun, opens}
use Rattle.vos_pool_again.proofs.Reopening.{region_free, region_unblank}
use Rattle.vos_pool_held.specs.Laws.{held_steady, held_told}
use Rattle.vos_pool_held.specs.State.{held_durable, held_may, held_state}
use Rattle.vos_pool_held.specs.declared.held.Held.{Held}
use Rattle.vos_pool_held.specs.vos_pool_base.Pool.{MayBeFound, kept_by}
use Rattle.vos_pool_opening.specs.Opening.{HasBegun}
use Rattle.vos_pool_opening.specs.declared.beginning.Beginning.TheVariants.{Again}
use Rattle.vos_pool_site.specs.Site.{closed_state}
use Rattle.vos_pool_site.specs.declared.closed.Closed.{Closed}
use Rattle.vos_store.specs.Calls.{Finds, Opens}

-- something is told only where the region tells
tells_it : (tells : Bool) (k d : Durable) → cond tells (Some k) None ≡ Some d → IsTrue tells
tells_it true k d is = refl
tells_it false k d is = absurd (cc is)

pub told_at_all : (tells : Bool) (k : Durable) → IsSome (cond tells (Some k) None) → IsTrue tells
told_at_all true k is = refl
told_at_all false k is = absurd (cc is)

module _ {R : Type 0} {Q : Ghosts R} (count burns : R → ℕ) (can_burn : Bool) (closed : Closed R Q) (n : ℕ) (h : Held R Q) (k : HasBegun Q.tells Q.extent count burns Q.image (record { target = closed.target; targets = closed.targets; beginning = Again n }) closed.region h) where
  -- it runs
  pub begun_opens : ((r : R) → can_burn ≡ false → burns r ≡ 0) → Opens (Ok tt) (closed_state count burns can_burn closed) (held_state count burns can_burn h)
  begun_opens unburnt =
      opens (Ok tt) can_burn h.opened.blocks.undo.stopped (count closed.region) (count h.opened.blocks.undo.region) (burns closed.region) (burns h.opened.blocks.undo.region) closed.free h.free closed.targets h.targets (closed.floor, closed.why) (h.floor, h.why)
      (unburnt closed.region) (unburnt h.opened.blocks.undo.region) k.later_faults k.later_burns k.running (λ stop. absurd (clash false stop refl)) k.targets_are

  -- its floor is the one that the lease gives
  pub begun_floor : (d : Durable) → held_durable Q.tells Q.extent Q.image h ≡ Some d → h.floor.0 ≡ restart_floor d.lease
  begun_floor d now = k.floor ∙ ap (λ (m : Durable). restart_floor m.lease) (held_told count burns can_burn h k.running d now)

  module _ (here : IsTrue Q.tells → Q.may_leave closed.region (Q.image closed.region)) where
    unblank_here : IsTrue Q.tells → IsBlank (Q.extent closed.region) (Q.image closed.region) → ⊥
    unblank_here = region_unblank Q.tells Q.extent count burns Q.image Q.may_leave closed.region closed.free closed.target closed.targets here closed.closed

    -- it keeps what its region kept, with the opening counted
    pub begun_finds : ((d : Durable) → kept_by Q.tells closed.target (Q.extent closed.region) (Q.image closed.region) ≡ Some d → (x : Durable) → MayBeFound Q.tells closed.target (Q.extent closed.region) (Q.may_leave closed.region) x → x.incarnation + 1 < 2 ^ 64)
        → Finds (Ok tt) (kept_by Q.tells closed.target (Q.extent closed.region) (Q.image closed.region)) (held_durable Q.tells Q.extent Q.image h) (MayBeFound Q.tells closed.target (Q.extent closed.region) (Q.may_leave closed.region)) (held_may Q.tells Q.extent Q.may_leave h)
    begun_finds next =
        finds_begun Q.tells closed.target (Q.extent closed.region) (Q.image closed.region) (Q.may_leave closed.region) n _ (held_may Q.tells Q.extent Q.may_leave h) here next
        (λ tell. k.written tell (unblank_here tell))
        (λ d x now may. held_steady count burns can_burn h d x k.running now may)
        (λ x may. may.0)
        (λ d now. tells_it Q.tells _ d now)

    -- no fewer blocks are free
    pub begun_free : IsSome (kept_by Q.tells closed.target (Q.extent closed.region) (Q.image closed.region)) → closed.free ≤ h.free
    begun_free told =
        let tell = told_at_all Q.tells _ told in
        region_free Q.tells Q.extent count burns Q.image Q.may_leave closed.region closed.free closed.target closed.targets here closed.closed tell h.free (λ s. let more = k.free tell (unblank_here tell) in let few = s.stands.free in omega (arith, more, few))
