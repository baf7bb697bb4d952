-- A pool that is held again after a change of its region, and what it says of itself.
use Rattle.std.proofs.Common.{◌≡◌, ℕ, ◌+◌, ◌≤◌, Bool, true, false, not, [], Some, Ok, Err, Result, option_map, refl, sym, ap, ◌∙◌, subst}
use Rattle.std.specs.Prelude.{All, IsTrue, OnErr, OnOk, is_err}
use Rattle.std.proofs.Math.Logic.{∥∥₁_map}
use Rattle.base_outside.specs.Images.{Image}
use Rattle.base_types.specs.declared.epoch.Epoch.{Epoch}
use Rattle.base_types.specs.declared.outcome.FloorWhy.{FloorWhy}
use Rattle.base_types.specs.Epochs.{restart_floor}
use Rattle.daos_model.specs.BoolLaws.{clash}
use Rattle.daos_model.specs.declared.durable.Durable.{Durable}
use Rattle.pmem_alloc.specs.Blocks.{IsBlocks, free_count}
use Rattle.vos_pool_base.specs.Pool.{OpenedState, kept_of}
use Rattle.vos_pool_base.specs.Tidy.{IfTidy, LeavesBut}
use Rattle.vos_pool_held.specs.Held.{IsHeld}
use Rattle.vos_pool_held.specs.Resting.{IfAtRest}
use Rattle.vos_pool_held.specs.vos_turns.Turns.{CanBeNamed}
use Rattle.vos_pool_held.proofs.Holding.{held_counted, held_stopped, kept_changed}
use Rattle.vos_pool_held.proofs.Turning.{counted_state, stops_as, stops_by, turns}
use Rattle.pmem_pages.specs.Blocks.{Stops}
use Rattle.vos_store.specs.Calls.{Turns}
use Rattle.vos_store.specs.declared.refusal.Stopped.{Stopped}
use Rattle.vos_store.specs.Refusals.{always_stop, refuses, says}

-- ---- whether the region stopped

pub of_done : {P E : Type 0} (r : Result (Unit {0}) E) → is_err r ≡ false → OnOk r P → P
of_done (Ok z) done p = p
of_done (Err z) done p = absurd (clash true refl done)

pub of_stopped : {P E : Type 0} (r : Result (Unit {0}) E) → is_err r ≡ true → OnErr r P → P
of_stopped (Ok z) stopped p = absurd (clash false stopped refl)
of_stopped (Err z) stopped p = p

pub says_stopped : (r : Result (Unit {0}) Stopped) → says always_stop r ≡ is_err r
says_stopped (Ok z) = refl
says_stopped (Err z) = refl

-- ---- the pool

module _ {R : Type 0} (tells : Bool) (extent : R → ℕ) (image : R → Image) (may_leave : R → Image → Type 0) (count burns : R → ℕ) (cost : ℕ) (p q : OpenedState R) (memory memory' : Durable) (free free' floor target targets : ℕ)
    (held : ∥ IsHeld tells extent image may_leave p memory free floor target targets ∥₁) (r : Result (Unit {0}) Stopped)
    (stops : Stops p.blocks.undo.stopped q.blocks.undo.stopped (count p.blocks.undo.region) (count q.blocks.undo.region) (burns p.blocks.undo.region) (burns q.blocks.undo.region) r)
    (size : extent q.blocks.undo.region ≡ extent p.blocks.undo.region) (left : LeavesBut tells extent may_leave cost p q) (lease : memory'.lease ≡ memory.lease) (named : All CanBeNamed memory'.versions) where
  pub after_stopped : is_err r ≡ true → free' + cost ≤ free → ∥ IsHeld tells extent image may_leave q memory' free' floor target targets ∥₁
  after_stopped stopped less =
      ∥∥₁_map held (λ h. held_stopped tells extent image may_leave p q memory memory' free free' floor target targets cost h (of_stopped r stopped stops.stopped) size left less (subst (λ (n : ℕ). floor ≤ restart_floor n) (sym lease) h.covered) named)

  pub after_done : (change : Durable → Durable) → is_err r ≡ false → p.blocks.undo.stopped ≡ false → OnOk r (kept_of tells extent image q ≡ option_map change (kept_of tells extent image p))
      → (IsTrue tells → kept_of tells extent image p ≡ Some memory) → (IsTrue tells → memory' ≡ change memory) → IfTidy tells extent image q → IfAtRest tells image may_leave q
      → q.blocks.undo.staged ≡ [] → IsBlocks (extent q.blocks.undo.region) tells (image q.blocks.undo.region) q.blocks.undo.staged q.blocks.undo.stopped q.blocks.map q.blocks.lasting
      → free' ≡ free_count q.blocks → ∥ IsHeld tells extent image may_leave q memory' free' floor target targets ∥₁
  after_done change done run made was is tidy rests none b free_is =
      ∥∥₁_map held (λ h.
      held_counted tells extent image may_leave p q memory memory' free free' floor target targets h (sym (of_done r done stops.went_on) ∙ run) size left.same
      (λ tell. kept_changed change (kept_of tells extent image p) (kept_of tells extent image q) memory memory' (was tell) (of_done r done made) (is tell))
      tidy rests none b free_is (subst (λ (n : ℕ). floor ≤ restart_floor n) (sym lease) h.covered) named)

-- where nothing was done to the region
pub still_held : {R : Type 0} (tells : Bool) (extent : R → ℕ) (image : R → Image) (may_leave : R → Image → Type 0) (p : OpenedState R) (memory memory' : Durable) (free floor target targets : ℕ) → ∥ IsHeld tells extent image may_leave p memory free floor target targets ∥₁
    → (IsTrue tells → kept_of tells extent image p ≡ Some memory') → memory'.lease ≡ memory.lease → All CanBeNamed memory'.versions → ∥ IsHeld tells extent image may_leave p memory' free floor target targets ∥₁
still_held tells extent image may_leave p memory memory' free floor target targets held kept lease named =
    ∥∥₁_map held (λ h. record {
      kept = λ tell run. kept tell;
      tidy = h.tidy;
      rests = h.rests;
      free_is = h.free_is;
      left = h.left;
      covered = subst (λ (n : ℕ). floor ≤ restart_floor n) (sym lease) h.covered;
      target_is = h.target_is;
      targets_are = h.targets_are;
      big = h.big;
      small = h.small;
      named = named;
    })

-- ---- what it says of itself

-- an answer that is Ok, or says that the pool stopped, is no other refusal
pub no_refusal : {T E : Type 0} {P : Type 0} (stop : E → Bool) (result : Result T E) → says stop result ≡ is_err result → refuses stop result ≡ true → P
no_refusal stop (Ok x) same refused = absurd (clash false refused refl)
no_refusal stop (Err e) same refused = clash (not (stop e)) refused (ap not same)

-- a change that was tried
pub turned : {T E R : Type 0} (count burns : R → ℕ) (can_burn : Bool) (cost : ℕ) (stop : E → Bool) (result : Result T E) (p q : OpenedState R) (free free' targets : ℕ) (opening : Epoch × FloorWhy)
    → ((region : R) → can_burn ≡ false → burns region ≡ 0) → p.blocks.undo.stopped ≡ false → (r : Result (Unit {0}) Stopped) → says stop result ≡ is_err r → is_err result ≡ is_err r
    → Stops p.blocks.undo.stopped q.blocks.undo.stopped (count p.blocks.undo.region) (count q.blocks.undo.region) (burns p.blocks.undo.region) (burns q.blocks.undo.region) r → free ≤ free' + cost
    → Turns cost stop result (counted_state can_burn p.blocks.undo.stopped (count p.blocks.undo.region) (burns p.blocks.undo.region) free targets opening) (counted_state can_burn q.blocks.undo.stopped (count q.blocks.undo.region) (burns q.blocks.undo.region) free' targets opening)
turned count burns can_burn cost stop result p q free free' targets opening unburnt run r same alike s costs =
    turns cost stop result can_burn p.blocks.undo.stopped q.blocks.undo.stopped (count p.blocks.undo.region) (count q.blocks.undo.region) (burns p.blocks.undo.region) (burns q.blocks.undo.region) free free' targets opening (unburnt p.blocks.undo.region) (unburnt q.blocks.undo.region)
    (stops_as always_stop stop r result p.blocks.undo.stopped q.blocks.undo.stopped (count p.blocks.undo.region) (count q.blocks.undo.region) (burns p.blocks.undo.region) (burns q.blocks.undo.region) (same ∙ sym (says_stopped r))
    (stops_by always_stop r p.blocks.undo.stopped q.blocks.undo.stopped (count p.blocks.undo.region) (count q.blocks.undo.region) (burns p.blocks.undo.region) (burns q.blocks.undo.region) (λ e. refl) s))
    costs (no_refusal stop result (same ∙ sym alike)) (λ was. absurd (clash p.blocks.undo.stopped was run))
