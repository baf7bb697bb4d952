-- What holds of a pool after a call of it.
use Rattle.std.proofs.Common.{◌≡◌, ℕ, ◌+◌, ◌<◌, ◌≤◌, ◌^◌, Bool, true, false, List, [], sym, ◌∙◌, ap, subst, arith}
use Rattle.std.specs.Prelude.{All, IsTrue, Option, Some}
use Rattle.std.specs.Option.{option_map}
use Rattle.base_outside.specs.Images.{Image, Range, all_over}
use Rattle.base_types.specs.Epochs.{restart_floor}
use Rattle.daos_model.specs.declared.durable.Durable.{Durable}
use Rattle.daos_model.specs.BoolLaws.{clash}
use Rattle.pmem_alloc.specs.Blocks.{IsBlocks, free_count}
use Rattle.pmem_alloc.specs.Map.{MapState, free_blocks, free_of}
use Rattle.pmem_alloc.specs.Sets.{count_below}
use Rattle.vos_pool_base.specs.Pool.{OpenedState, kept_of}
use Rattle.vos_pool_base.specs.Tidy.{IfTidy, IsSamePool, Leaves, LeavesBut, LeavesStanding}
use Rattle.vos_pool_base.proofs.Leaving.{free_at, left_at_rest}
use Rattle.vos_pool_held.specs.Held.{IsHeld}
use Rattle.vos_pool_held.specs.Resting.{IfAtRest}
use Rattle.vos_turns.specs.Turns.{CanBeNamed}

-- what is kept after a change of what is in memory
pub kept_changed : (change : Durable → Durable) (old new : Option Durable) (memory memory' : Durable) → old ≡ Some memory → new ≡ option_map change old → memory' ≡ change memory → new ≡ Some memory'
kept_changed change old new memory memory' was done made = done ∙ (ap (option_map change) was ∙ ap (λ d. Some d) (sym made))

-- ---- what may be left of a pool at rest

free_is_read : (size : ℕ) (tells : Bool) (f : Image) (staged : List Range) (stopped : Bool) (map lasting : MapState) → IsTrue tells → stopped ≡ false → staged ≡ [] → IsBlocks size tells f staged stopped map lasting → count_below (free_of map) map.end ≡ free_at size f
free_is_read size tells f staged stopped map lasting tell run none b =
    ap (λ s. count_below s map.end) (b.stored tell run)
    ∙ (ap (λ (rs : List Range). count_below (free_blocks size (all_over rs f)) map.end) none
    ∙ ap (λ (n : ℕ). count_below (free_blocks size f) n) b.end)

-- with nothing staged all blocks that are free now are free in it
pub leaves_at_rest : {R : Type 0} (tells : Bool) (extent : R → ℕ) (image : R → Image) (may_leave : R → Image → Type 0) (q : OpenedState R) → q.blocks.undo.stopped ≡ false → IfTidy tells extent image q → IfAtRest tells image may_leave q
    → q.blocks.undo.staged ≡ [] → IsBlocks (extent q.blocks.undo.region) tells (image q.blocks.undo.region) q.blocks.undo.staged q.blocks.undo.stopped q.blocks.map q.blocks.lasting
    → Leaves tells extent may_leave (free_count q.blocks) q
leaves_at_rest tells extent image may_leave q run tidy rests none b tell =
    let x = tidy tell run in
    let r = rests tell run in
    let size = extent q.blocks.undo.region in
    subst (λ (few : ℕ). LeavesStanding size q.table.header.target q.table.header.targets q.table.header.layout few (may_leave q.blocks.undo.region))
    (sym (free_is_read size tells (image q.blocks.undo.region) q.blocks.undo.staged q.blocks.undo.stopped q.blocks.map q.blocks.lasting tell run none b))
    (left_at_rest size q.table.header.target (image q.blocks.undo.region) (may_leave q.blocks.undo.region) q.table x.stored r.closed r.only x.stands)

-- ---- after a call

module _ {R : Type 0} (tells : Bool) (extent : R → ℕ) (image : R → Image) (may_leave : R → Image → Type 0) (p q : OpenedState R) (memory memory' : Durable) (free free' floor target targets : ℕ) where
  abbrev Was : Type 0
  Was = IsHeld tells extent image may_leave p memory free floor target targets

  abbrev Holds : Type 0
  Holds = IsHeld tells extent image may_leave q memory' free' floor target targets

  -- by its parts
  pub held_after : Was → extent q.blocks.undo.region ≡ extent p.blocks.undo.region → IsSamePool p.table q.table
      → (IsTrue tells → q.blocks.undo.stopped ≡ false → kept_of tells extent image q ≡ Some memory')
      → IfTidy tells extent image q → IfAtRest tells image may_leave q → (q.blocks.undo.stopped ≡ false → free' ≡ free_count q.blocks) → Leaves tells extent may_leave free' q
      → floor ≤ restart_floor memory'.lease → All CanBeNamed memory'.versions → Holds
  held_after h size same kept tidy rests free_is left covered named = record {
    kept = kept;
    tidy = tidy;
    rests = rests;
    free_is = free_is;
    left = left;
    covered = covered;
    target_is = same.target ∙ h.target_is;
    targets_are = same.targets ∙ h.targets_are;
    big = subst (λ (n : ℕ). 323584 ≤ n) (sym size) h.big;
    small = subst (λ (n : ℕ). n < 2 ^ 32) (sym size) h.small;
    named = named;
  }

  -- one that stopped: what may be left stands, with no more blocks told as free than before, less what the call could take
  pub held_stopped : (cost : ℕ) → Was → q.blocks.undo.stopped ≡ true → extent q.blocks.undo.region ≡ extent p.blocks.undo.region → LeavesBut tells extent may_leave cost p q → free' + cost ≤ free
      → floor ≤ restart_floor memory'.lease → All CanBeNamed memory'.versions → Holds
  held_stopped cost h stopped size l less covered named =
      held_after h size l.same (λ tell run. absurd (clash q.blocks.undo.stopped stopped run)) (λ tell run. absurd (clash q.blocks.undo.stopped stopped run)) (λ tell run. absurd (clash q.blocks.undo.stopped stopped run))
      (λ run. absurd (clash q.blocks.undo.stopped stopped run)) (l.left free' free less h.left) covered named

  -- one that runs on and was counted: as many blocks are told as are free
  pub held_counted : Was → q.blocks.undo.stopped ≡ false → extent q.blocks.undo.region ≡ extent p.blocks.undo.region → IsSamePool p.table q.table
      → (IsTrue tells → kept_of tells extent image q ≡ Some memory') → IfTidy tells extent image q → IfAtRest tells image may_leave q
      → q.blocks.undo.staged ≡ [] → IsBlocks (extent q.blocks.undo.region) tells (image q.blocks.undo.region) q.blocks.undo.staged q.blocks.undo.stopped q.blocks.map q.blocks.lasting
      → free' ≡ free_count q.blocks → floor ≤ restart_floor memory'.lease → All CanBeNamed memory'.versions → Holds
  held_counted h run size same kept tidy rests none b free_is covered named =
      held_after h size same (λ tell _. kept tell) tidy rests (λ _. free_is)
      (subst (λ (few : ℕ). Leaves tells extent may_leave few q) (sym free_is) (leaves_at_rest tells extent image may_leave q run tidy rests none b)) covered named

module _ {R : Type 0} (tells : Bool) (extent : R → ℕ) (image : R → Image) (may_leave : R → Image → Type 0) (p q : OpenedState R) (memory memory' : Durable) (free floor target targets : ℕ) where
  -- after a call that took and gave no block
  pub held_as_free : IsHeld tells extent image may_leave p memory free floor target targets → (q.blocks.undo.stopped ≡ false → p.blocks.undo.stopped ≡ false)
      → extent q.blocks.undo.region ≡ extent p.blocks.undo.region → LeavesBut tells extent may_leave 0 p q → q.blocks.map ≡ p.blocks.map
      → (IsTrue tells → q.blocks.undo.stopped ≡ false → kept_of tells extent image q ≡ Some memory') → IfTidy tells extent image q → IfAtRest tells image may_leave q
      → floor ≤ restart_floor memory'.lease → All CanBeNamed memory'.versions
      → IsHeld tells extent image may_leave q memory' free floor target targets
  held_as_free h ran size l map kept tidy rests covered named =
      held_after tells extent image may_leave p q memory memory' free free floor target targets h size l.same kept tidy rests
      (λ run. h.free_is (ran run) ∙ ap (λ (m : MapState). count_below (free_of m) m.end) (sym map))
      (l.left free free (omega arith) h.left) covered named
