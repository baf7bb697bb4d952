-- What holds of a pool after a change of its rows, which takes and gives no block.
use Rattle.std.proofs.Common.{◌≡◌, ℕ, ◌≤◌, Bool, true, false, List, refl, sym, ◌∙◌, ap, subst, arith}
use Rattle.std.specs.Prelude.{All, IsTrue, Ok, Some, if◌then◌else◌}
use Rattle.std.specs.Option.{option_map}
use Rattle.std.proofs.Math.Logic.{∥∥₁_map}
use Rattle.base_outside.specs.Images.{Image}
use Rattle.base_types.specs.Epochs.{restart_floor}
use Rattle.base_types.specs.declared.epoch.Epoch.{Epoch}
use Rattle.base_types.specs.declared.id.ContId.{ContId}
use Rattle.daos_model.specs.declared.durable.Durable.{Durable}
use Rattle.daos_model.specs.declared.durable.Version.{Version}
use Rattle.daos_model.specs.BoolLaws.{clash}
use Rattle.daos_model.specs.Changes.{created, enlisted, frozen, leased, thawed}
use Rattle.daos_model.specs.Durables.{is_frozen}
use Rattle.pmem_pages.specs.Blocks.{Stops}
use Rattle.vos_pool_base.specs.Pool.{OpenedState, kept_of}
use Rattle.vos_pool_base.specs.Tidy.{IfTidy, LeavesBut}
use Rattle.vos_pool_held.specs.Held.{IsHeld}
use Rattle.vos_pool_held.specs.Resting.{IfAtRest}
use Rattle.vos_pool_held.proofs.Holding.{held_as_free, kept_changed}
use Rattle.vos_turns.specs.Turns.{CanBeNamed}

-- the lease and the versions stay
pub record KeepsRows (d e : Durable) : Type 0 where
  pub lease : e.lease ≡ d.lease
  pub versions : e.versions ≡ d.versions

pub enlisted_keeps : (cs : List ContId) (d : Durable) → KeepsRows d (enlisted cs d)
unfolding enlisted
enlisted_keeps cs d = record { lease = refl; versions = refl }

pub created_keeps : (c : ContId) (s : Epoch) (d : Durable) → KeepsRows d (created c s d)
unfolding created
created_keeps c s d = record { lease = refl; versions = refl }

pub thawed_keeps : (c : ContId) (s : Epoch) (d : Durable) → KeepsRows d (thawed c s d)
unfolding thawed
thawed_keeps c s d = record { lease = refl; versions = refl }

either_keeps : (b : Bool) (d e f : Durable) → KeepsRows d e → KeepsRows d f → KeepsRows d (if b then e else f)
either_keeps true d e f h k = h
either_keeps false d e f h k = k

pub frozen_keeps : (c : ContId) (s : Epoch) (d : Durable) → KeepsRows d (frozen c s d)
unfolding frozen
frozen_keeps c s d = either_keeps (is_frozen d c s) d d _ (record { lease = refl; versions = refl }) (record { lease = refl; versions = refl })

pub leased_versions : (ticks : ℕ) (d : Durable) → (leased ticks d).versions ≡ d.versions
unfolding leased
leased_versions ticks d = refl

-- a lease that is as long stays
pub leased_same : (ticks : ℕ) (d : Durable) → d.lease ≡ ticks → d ≡ leased ticks d
unfolding leased
leased_same ticks d is = ap (λ (n : ℕ). record d { lease = n }) is

-- a call that went well had not stopped before
pub was_running : {T E : Type 0} (was is : Bool) (f f' b b' : ℕ) (x : T) → Stops {E = E} was is f f' b b' (Ok x) → was ≡ false
was_running true is f f' b b' x s = absurd (clash false (s.again refl) refl)
was_running false is f f' b b' x s = refl

module _ {R : Type 0} (tells : Bool) (extent : R → ℕ) (image : R → Image) (may_leave : R → Image → Type 0) (p q : OpenedState R) (memory memory' : Durable) (free floor target targets : ℕ) where
  abbrev Was : Type 0
  Was = ∥ IsHeld tells extent image may_leave p memory free floor target targets ∥₁

  abbrev Holds : Type 0
  Holds = ∥ IsHeld tells extent image may_leave q memory' free floor target targets ∥₁

  -- what is kept before, where it is told
  abbrev IsKept : Type 0
  IsKept = kept_of tells extent image p ≡ Some memory

  -- a call that was refused, or stopped: its pool runs on only where nothing is told
  pub refused_holds : Was → (q.blocks.undo.stopped ≡ false → p.blocks.undo.stopped ≡ false) → extent q.blocks.undo.region ≡ extent p.blocks.undo.region → LeavesBut tells extent may_leave 0 p q → q.blocks.map ≡ p.blocks.map
      → (IsTrue tells → IsKept → q.blocks.undo.stopped ≡ false → ⊥) → memory'.lease ≡ memory.lease → memory'.versions ≡ memory.versions → Holds
  refused_holds held ran size l map untold lease versions =
      ∥∥₁_map held (λ h.
      let no : IsTrue tells → q.blocks.undo.stopped ≡ false → ⊥ = λ t run. untold t (h.kept t (ran run)) run in
      held_as_free tells extent image may_leave p q memory memory' free floor target targets h ran size l map
      (λ t run. absurd (no t run)) (λ t run. absurd (no t run)) (λ t run. absurd (no t run))
      (subst (λ (n : ℕ). floor ≤ restart_floor n) (sym lease) h.covered) (subst (λ (vs : List Version). All CanBeNamed vs) (sym versions) h.named))

  -- a call that made a change
  pub made_holds : (change : Durable → Durable) → Was → p.blocks.undo.stopped ≡ false → extent q.blocks.undo.region ≡ extent p.blocks.undo.region → LeavesBut tells extent may_leave 0 p q → q.blocks.map ≡ p.blocks.map
      → kept_of tells extent image q ≡ option_map change (kept_of tells extent image p) → (IfTidy tells extent image p → IfTidy tells extent image q) → IfAtRest tells image may_leave q
      → (IsTrue tells → IsKept → memory' ≡ change memory) → memory.lease ≤ memory'.lease → memory'.versions ≡ memory.versions → Holds
  made_holds change held run size l map done tidy rests made lease versions =
      ∥∥₁_map held (λ h.
      held_as_free tells extent image may_leave p q memory memory' free floor target targets h (λ _. run) size l map
      (λ t _. kept_changed change (kept_of tells extent image p) (kept_of tells extent image q) memory memory' (h.kept t run) done (made t (h.kept t run)))
      (tidy h.tidy) rests
      (let c = h.covered in omega (arith, c, lease)) (subst (λ (vs : List Version). All CanBeNamed vs) (sym versions) h.named))

  -- a call that stopped
  pub stopped_holds : Was → q.blocks.undo.stopped ≡ true → extent q.blocks.undo.region ≡ extent p.blocks.undo.region → LeavesBut tells extent may_leave 0 p q → q.blocks.map ≡ p.blocks.map
      → memory'.lease ≡ memory.lease → memory'.versions ≡ memory.versions → Holds
  stopped_holds held stopped size l map lease versions =
      refused_holds held (λ run. absurd (clash q.blocks.undo.stopped stopped run)) size l map (λ _ _ run. clash q.blocks.undo.stopped stopped run) lease versions

  -- a call that made a change of containers and snapshots alone
  pub changed_holds : (change : Durable → Durable) → ((d : Durable) → KeepsRows d (change d)) → Was → p.blocks.undo.stopped ≡ false → extent q.blocks.undo.region ≡ extent p.blocks.undo.region → LeavesBut tells extent may_leave 0 p q → q.blocks.map ≡ p.blocks.map
      → kept_of tells extent image q ≡ option_map change (kept_of tells extent image p) → (IfTidy tells extent image p → IfTidy tells extent image q) → IfAtRest tells image may_leave q
      → memory' ≡ change memory → Holds
  changed_holds change keeps held run size l map done tidy rests made =
      let same = keeps memory in
      let lease : memory'.lease ≡ memory.lease = ap (λ (d : Durable). d.lease) made ∙ same.lease in
      made_holds change held run size l map done tidy rests (λ _ _. made) (omega (arith, lease)) (ap (λ (d : Durable). d.versions) made ∙ same.versions)
