-- A closed pool whose region is opened anew, and what its opening says of it.
use Rattle.std.proofs.Common.{◌≡◌, ℕ, ◌+◌, ◌≤◌, ◌<◌, ◌^◌, Bool, false, sym, subst, inl, inr}
use Rattle.std.specs.Prelude.{◌⊎◌, IsTrue, OnOk, Some, Result, Ok, Err}
use Rattle.std.proofs.Math.Bool.{Bool-set}
use Rattle.std.proofs.Math.Bridge.{le_prop}
use Rattle.std.proofs.Math.Logic.{∥∥₁_elim, ∥∥₁_map}
use mathlib.Core.Path.{fun_ext}
use Rattle.base_outside.specs.Causes.{HasEitherCause}
use Rattle.base_outside.specs.Images.{Image, NoMore, Only}
use Rattle.daos_model.specs.declared.durable.Durable.{Durable}
use Rattle.pmem_undo.specs.Settled.{IsAttachable}
use Rattle.vos_check_content.specs.Laws.{WhatStandsIsFound}
use Rattle.vos_check_region.specs.Blank.{IsBlank}
use Rattle.vos_check_region.specs.Laws.{LogsAreJudged}
use Rattle.vos_commits.specs.Kept.{kept_in}
use Rattle.vos_pool_again.proofs.Opening.{finds_still}
use Rattle.vos_pool_again.proofs.Standing.{native, unblank}
use Rattle.vos_pool_again.specs.Again.{IsReopened, reopen_cause}
use Rattle.vos_pool_held.specs.vos_pool_base.Pool.{MayBeFound, kept_by}
use Rattle.vos_pool_held.specs.vos_pool_base.vos_image.Kept.{kept}
use Rattle.vos_pool_make.specs.declared.cause.OpenCause.{OpenCause}
use Rattle.vos_pool_opening.specs.Beginning.{begun}
use Rattle.vos_pool_opening.specs.Opening.{HasNotBegun, StandsOn}
use Rattle.vos_pool_opening.specs.declared.beginning.Beginning.TheVariants.{Again}
use Rattle.vos_pool_site.specs.Closed.{IsClosed}
use Rattle.vos_pool_site.specs.Left.{StandsInSome}
use Rattle.vos_store.specs.Calls.{Finds}
use Rattle.vos_store.specs.Refusals.{reopen_foreign}
use Rattle.vos_store.specs.declared.refusal.ReopenNo.{ReopenNo}

-- ---- its region is opened anew

-- what is read then may be left
here_after : {E : Type 0} (result : Result (Unit {0}) E) (tells : Bool) (f : Image) (may_leave : Image → Type 0) → (IsTrue tells → (c : Image) × may_leave c) → OnOk result (IsTrue tells → Only f may_leave) → OnOk result (IsTrue tells → may_leave f)
here_after (Ok u) tells f may_leave some only = λ tell. let c = some tell in subst may_leave (fun_ext (λ i. only tell c.0 c.1 i)) c.1
here_after (Err e) tells f may_leave some only = only

module _ {R : Type 0} (tells : Bool) (extent count burns : R → ℕ) (image : R → Image) (may_leave : R → Image → Type 0) (old new : R) where
  pub region_reopened : {E : Type 0} (result : Result (Unit {0}) E) → ((r : R) → IsTrue tells → (c : Image) × may_leave r c) → extent new ≡ extent old → HasEitherCause (count old) (count new) (burns old) (burns new) result
      → (IsTrue tells → NoMore (may_leave old) (may_leave new)) → OnOk result (IsTrue tells → Only (image new) (may_leave new)) → IsReopened tells extent count burns image may_leave result old new
  region_reopened result some size cause crash only = record {
    size = size;
    later_faults = cause.later_faults;
    later_burns = cause.later_burns;
    failed = cause.failed;
    crash = crash;
    here = here_after result tells (image new) (may_leave new) (some new) only;
  }

  -- the pool stays closed
  pub closed_on : (free target targets : ℕ) → extent new ≡ extent old → (IsTrue tells → NoMore (may_leave old) (may_leave new)) → ∥ IsClosed tells extent may_leave old free target targets ∥₁ → ∥ IsClosed tells extent may_leave new free target targets ∥₁
  closed_on free target targets size crash closed =
      ∥∥₁_map closed (λ k. record {
        attachable = λ tell c may. subst (λ (n : ℕ). IsAttachable n c) (sym size) (k.attachable tell c (crash tell c may));
        left = λ tell c may. subst (λ (n : ℕ). StandsInSome n target targets free c) (sym size) (k.left tell c (crash tell c may));
        big = subst (λ (n : ℕ). 323584 ≤ n) (sym size) k.big;
        small = subst (λ (n : ℕ). n < 2 ^ 32) (sym size) k.small;
      })

-- ---- what is known of what it reads

module _ {R : Type 0} (tells : Bool) (extent count burns : R → ℕ) (image : R → Image) (may_leave : R → Image → Type 0) (region : R) (free target targets : ℕ) (here : IsTrue tells → may_leave region (image region)) where
  abbrev Closed : Type 0
  Closed = ∥ IsClosed tells extent may_leave region free target targets ∥₁

  there : IsClosed tells extent may_leave region free target targets → IsTrue tells → StandsInSome (extent region) target targets free (image region)
  there k tell = k.left tell (image region) (here tell)

  not_blank : IsClosed tells extent may_leave region free target targets → IsTrue tells → IsBlank (extent region) (image region) → ⊥
  not_blank k tell = unblank (extent region) target targets free (image region) k.big (there k tell)

  pub region_unblank : Closed → IsTrue tells → IsBlank (extent region) (image region) → ⊥
  region_unblank closed tell blank = ∥∥₁_elim closed (λ x y. absurd x) (λ k. not_blank k tell blank)

  -- as many blocks are free
  pub region_free : Closed → IsTrue tells → (few : ℕ) → ((s : StandsInSome (extent region) target targets free (image region)) → free ≤ few) → free ≤ few
  region_free closed tell few by = ∥∥₁_elim closed le_prop (λ k. by (there k tell))

  -- ---- an opening that is refused

  module _ (n : ℕ) (back : R) (why : OpenCause) (no : HasNotBegun tells extent count burns image may_leave (record { target = target; targets = targets; beginning = Again n }) region back why) where
    size : extent back ≡ extent region
    size = no.handed_over.size

    left_attachable : (c : Image) → (may_leave region c → IsAttachable (extent region) c) → may_leave region c ⊎ StandsOn (Again n) (extent region) target targets (image region) c → IsAttachable (extent region) c
    left_attachable c before (inl may) = before may
    left_attachable c before (inr on) = on.attachable

    left_stands : (c : Image) → (may_leave region c → StandsInSome (extent region) target targets free c) → StandsInSome (extent region) target targets free (image region) → may_leave region c ⊎ StandsOn (Again n) (extent region) target targets (image region) c → StandsInSome (extent region) target targets free c
    left_stands c before s (inl may) = before may
    left_stands c before s (inr on) = on.stands free s

    -- the pool stays closed
    pub closed_still : Closed → ∥ IsClosed tells extent may_leave back free target targets ∥₁
    closed_still closed =
        ∥∥₁_map closed (λ k. record {
          attachable = λ tell c may. subst (λ (m : ℕ). IsAttachable m c) (sym size) (left_attachable c (k.attachable tell c) (no.left tell (not_blank k tell) c may));
          left = λ tell c may. subst (λ (m : ℕ). StandsInSome m target targets free c) (sym size) (left_stands c (k.left tell c) (there k tell) (no.left tell (not_blank k tell) c may));
          big = subst (λ (m : ℕ). 323584 ≤ m) (sym size) k.big;
          small = subst (λ (m : ℕ). m < 2 ^ 32) (sym size) k.small;
        })

    -- and shows no byte
    pub region_native : LogsAreJudged → WhatStandsIsFound → Closed → IsTrue tells → reopen_foreign (reopen_cause why) ≡ false
    region_native logs finds closed tell = ∥∥₁_elim closed (Bool-set _ _) (λ k. native logs finds (extent region) target targets free (image region) why k.big (k.attachable tell (image region) (here tell)) (there k tell) (no.refused tell))

    -- the next opening finds what this one may have found, counted or not
    pub finds_refused : (e : ReopenNo) → Closed
        → ((d : Durable) → kept_by tells target (extent region) (image region) ≡ Some d → (x : Durable) → MayBeFound tells target (extent region) (may_leave region) x → x.incarnation + 1 < 2 ^ 64)
        → Finds (Err e) (kept_by tells target (extent region) (image region)) (kept_by tells target (extent back) (image back)) (MayBeFound tells target (extent region) (may_leave region)) (MayBeFound tells target (extent back) (may_leave back))
    finds_refused e closed next =
        finds_still tells target (extent region) (extent back) (image region) (image back) (may_leave region) (may_leave back) n e size here next
        (λ tell c may. kept_on c (no.left tell (region_unblank closed tell) c may))
      where
        kept_on : (c : Image) → may_leave region c ⊎ StandsOn (Again n) (extent region) target targets (image region) c → may_leave region c ⊎ ((kept_in (kept target (extent region)) (extent region) c ≡ kept_in (kept target (extent region)) (extent region) (image region)) ⊎ (kept_in (kept target (extent region)) (extent region) c ≡ begun (Again n) (kept_in (kept target (extent region)) (extent region) (image region))))
        kept_on c (inl may) = inl may
        kept_on c (inr on) = inr on.keeps
