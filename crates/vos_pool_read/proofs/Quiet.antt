-- A pool whose blocks were only read made a quiet step.
use Rattle.std.proofs.Common.{◌≡◌, ℕ, Bool, IsTrue, refl, sym, ap, ◌∙◌, subst, arith, inl, inr}
use Rattle.base_outside.specs.Images.{Image}
use Rattle.pmem_alloc.specs.Blocks.{BlocksState, free_count}
use Rattle.pmem_alloc.specs.Map.{MapState, free_of}
use Rattle.pmem_alloc.specs.Sets.{count_below}
use Rattle.pmem_alloc.specs.Still.{IsStill}
use Rattle.pmem_tree_base.specs.Calls.{Goes}
use Rattle.vos_pool_base.specs.Pool.{HasStood, OpenedState}
use Rattle.vos_pool_base.specs.vos_image.Kept.{Stored}
use Rattle.vos_pool_base.specs.vos_places.Tables.{Table}
use Rattle.vos_pool_base.specs.vos_standing.Standing.{Stand}
use Rattle.vos_pool_stage.proofs.Lifting.{none_leaves, still_finds, still_keeps}
use Rattle.vos_pool_stage.specs.Staged.{StandsInPool, pool_of}
use Rattle.vos_pool_steps.specs.Quiet.{IsQuietStep}

-- how a call goes, from blocks to blocks
abbrev pub GoesOn : {R : Type 0} → (R → ℕ) → (R → ℕ) → BlocksState R → BlocksState R → Type 0
GoesOn {R = R} count burns b e = Goes (λ (z : BlocksState R). z.undo.stopped) (λ (z : BlocksState R). count z.undo.region) (λ (z : BlocksState R). burns z.undo.region) b e

pub goes_as : {R : Type 0} (count burns : R → ℕ) (b e d : BlocksState R) → GoesOn count burns b e → d.undo.stopped ≡ e.undo.stopped → count d.undo.region ≡ count e.undo.region → burns d.undo.region ≡ burns e.undo.region → GoesOn count burns b d
goes_as count burns b e d g stopped faults burnt = record {
  later_faults = (let f = g.later_faults in omega (arith, f, faults));
  later_burns = (let f = g.later_burns in omega (arith, f, burnt));
  once = λ was. stopped ∙ g.once was;
  cause = λ is. elim (g.cause (sym stopped ∙ is)) [
    | inl was ↦ inl was
    | inr rose ↦ inr (elim rose [ inl fault ↦ inl (omega (arith, fault, faults)) | inr burn ↦ inr (omega (arith, burn, burnt)) ])
  ];
}

pub goes_nowhere : {R : Type 0} (count burns : R → ℕ) (b : BlocksState R) → GoesOn count burns b b
goes_nowhere count burns b = record { later_faults = omega arith; later_burns = omega arith; once = λ was. was; cause = λ is. inl is }

module _ {R : Type 0} (extent count burns : R → ℕ) (tells : Bool) (image : R → Image) (may_leave : R → Image → Type 0) (p q : OpenedState R) (still : IsStill extent tells image may_leave p.blocks q.blocks) (table : q.table ≡ p.table) where
  pub quiet_step : q.blocks.map ≡ p.blocks.map → GoesOn count burns p.blocks q.blocks → IsQuietStep tells extent count burns image may_leave p q
  quiet_step map goes =
      let free : free_count q.blocks ≡ free_count p.blocks = ap (λ (m : MapState). count_below (free_of m) m.end) map in
      let k : IsQuietStep tells extent count burns image may_leave p (pool_of q.blocks p.table) = record {
        kept = λ going. still_keeps extent tells image may_leave p q.blocks still;
        found = still_finds extent tells image may_leave p q.blocks still;
        rows = record { conts = refl; snaps = refl; lease = refl; incarnation = refl };
        left = none_leaves extent tells image may_leave p q.blocks still 0;
        free = omega (arith, free);
        size = still.size;
        later_faults = goes.later_faults;
        later_burns = goes.later_burns;
        stays = goes.once;
        cause = goes.cause;
      } in
      subst (λ (u : Table). IsQuietStep tells extent count burns image may_leave p (pool_of q.blocks u)) (sym table) k

  -- and what stood in it stands
  pub stands_still : IsTrue tells → (x : Stored) → StandsInPool extent image p x → StandsInPool extent image q x
  stands_still tell x s =
      subst (λ (u : Table). Stand u.header.target (extent q.blocks.undo.region) (image q.blocks.undo.region) u x) (sym table)
      (subst (λ (n : ℕ). Stand p.table.header.target n (image q.blocks.undo.region) p.table x) (sym still.size)
      (subst (λ (f : Image). Stand p.table.header.target (extent p.blocks.undo.region) f p.table x) (sym (still.read tell)) s))

-- in blocks that are only read stands what stood
pub stood_still : {R : Type 0} (extent : R → ℕ) (tells : Bool) (image : R → Image) (may_leave : R → Image → Type 0) (b e : BlocksState R) (t : Table) → IsStill extent tells image may_leave b e → IsTrue tells
    → HasStood (extent b.undo.region) (image b.undo.region) t → HasStood (extent e.undo.region) (image e.undo.region) t
stood_still extent tells image may_leave b e t still tell h =
    subst (λ (n : ℕ). HasStood n (image e.undo.region) t) (sym still.size) (subst (λ (f : Image). HasStood (extent b.undo.region) f t) (sym (still.read tell)) h)
