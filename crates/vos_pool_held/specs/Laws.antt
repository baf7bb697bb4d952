-- What holds of every open pool with what it keeps in memory, as the laws of stores ask.
use Rattle.std.proofs.Common.{◌≡◌, ℕ, Bool, true, false, refl, sym, ◌∙◌, subst}
use Rattle.std.specs.Prelude.{IsTrue, Option, Some, None, cond, is_some}
use Rattle.std.specs.Coded.{Coded-set, coded_option}
use Rattle.std.proofs.Math.Logic.{∥∥₁_elim}
use Rattle.std.proofs.lemmas.Option.{none-some, same_Some}
use Rattle.base_outside.specs.declared.region.Region.{Ghosts}
use Rattle.base_outside.specs.Images.{Image}
use Rattle.daos_model.specs.contracts.durable.Durable as durable
use Rattle.daos_model.specs.declared.durable.Durable.{Durable}
use Rattle.daos_model.specs.BoolLaws.{clash}
use Rattle.daos_model.specs.Durables.{IsInForm}
use Rattle.vos_commits.specs.Found.{one-found}
use Rattle.vos_commits.specs.Kept.{kept_in}
use Rattle.vos_contents.specs.Contents.{contents_of}
use Rattle.vos_pool_base.specs.vos_image.Kept.{kept}
use Rattle.vos_pool_base.specs.Pool.{OpenedState, kept_of, may_of}
use Rattle.vos_pool_held.specs.declared.held.Held.{Held}
use Rattle.vos_pool_held.specs.Held.{IsHeld}
use Rattle.vos_pool_held.specs.State.{held_durable, held_may, held_state}

-- two ways in which what is kept is the same are one
pub durable_set : IsSet Durable
durable_set = Coded-set durable.the_row.coded

pub told_set : IsSet (Option Durable)
told_set = Coded-set (coded_option durable.the_row.coded)

-- something is told only where the region tells
tells_it : (tells : Bool) (k d : Durable) → cond tells (Some k) None ≡ Some d → IsTrue tells
tells_it true k d is = refl
tells_it false k d is = absurd (none-some d is)

told_is : (tells : Bool) (k d : Durable) → cond tells (Some k) None ≡ Some d → k ≡ d
told_is true k d is = same_Some k d is
told_is false k d is = absurd (none-some d is)

some_tells : (tells : Bool) (k : Durable) → is_some (cond tells (Some k) None) ≡ true → IsTrue tells
some_tells true k is = refl
some_tells false k is = absurd (clash false is refl)

tells_some : (tells : Bool) (k : Durable) → IsTrue tells → is_some (cond tells (Some k) None) ≡ true
tells_some true k is = refl
tells_some false k is = absurd (clash false is refl)

-- ---- by the parts of a pool

module _ {R : Type 0} (tells : Bool) (extent : R → ℕ) (image : R → Image) (may_leave : R → Image → Type 0) (p : OpenedState R) (memory : Durable) (free floor target targets : ℕ) where
  -- what it tells is what it has in memory
  pub told : ∥ IsHeld tells extent image may_leave p memory free floor target targets ∥₁ → p.blocks.undo.stopped ≡ false → (d : Durable) → kept_of tells extent image p ≡ Some d → d ≡ memory
  told held run d is = same_Some d memory (sym is ∙ ∥∥₁_elim held (told_set _ _) (λ h. h.kept (tells_it tells _ d is) run))

  -- its next opening finds what it tells
  pub rested : ∥ IsHeld tells extent image may_leave p memory free floor target targets ∥₁ → p.blocks.undo.stopped ≡ false → (d x : Durable) → kept_of tells extent image p ≡ Some d → may_of tells extent may_leave p x → x ≡ d
  rested held run d x is may =
      ∥∥₁_elim held (durable_set x d) (λ h.
      one-found (kept p.table.header.target (extent p.blocks.undo.region)) (extent p.blocks.undo.region) (image p.blocks.undo.region) (may_leave p.blocks.undo.region) x (h.rests may.0 run) may.1
      ∙ told_is tells _ d is)

-- ---- the laws

module _ {R : Type 0} {Q : Ghosts R} (count burns : R → ℕ) (can_burn : Bool) where
  -- one that isn't stopped keeps what it has in memory
  pub held_told : (h : Held R Q) → (held_state count burns can_burn h).stopped ≡ false → (d : Durable) → held_durable Q.tells Q.extent Q.image h ≡ Some d → contents_of h.contents ≡ d
  held_told h run d is = sym (told Q.tells Q.extent Q.image Q.may_leave h.opened (contents_of h.contents) h.free h.floor.0 h.target h.targets h.held run d is)

  -- one that isn't stopped opens with what it keeps
  pub held_steady : (h : Held R Q) (d x : Durable) → (held_state count burns can_burn h).stopped ≡ false → held_durable Q.tells Q.extent Q.image h ≡ Some d → held_may Q.tells Q.extent Q.may_leave h x → x ≡ d
  held_steady h d x run is may = rested Q.tells Q.extent Q.image Q.may_leave h.opened (contents_of h.contents) h.free h.floor.0 h.target h.targets h.held run d x is may

  -- what it keeps is in order and in form
  pub held_formed : (h : Held R Q) → (held_state count burns can_burn h).stopped ≡ false → (d : Durable) → held_durable Q.tells Q.extent Q.image h ≡ Some d → IsInForm d
  held_formed h run d is = subst IsInForm (held_told h run d is) h.contents.formed

module _ {R : Type 0} {Q : Ghosts R} where
  -- something may be found at its next opening, where a crash of its region leaves something
  pub held_findable : ((region : R) → IsTrue Q.tells → (c : Image) × Q.may_leave region c) → (h : Held R Q) → is_some (held_durable Q.tells Q.extent Q.image h) ≡ true → (x : Durable) × held_may Q.tells Q.extent Q.may_leave h x
  held_findable leaves_some h tells =
      let t = some_tells Q.tells _ tells in
      let c = leaves_some h.opened.blocks.undo.region t in
      (kept_in (kept h.opened.table.header.target (Q.extent h.opened.blocks.undo.region)) (Q.extent h.opened.blocks.undo.region) c.0, (t, (c.0, (c.1, refl))))

  -- one tells what it keeps where another does
  pub held_alike : (h k : Held R Q) → is_some (held_durable Q.tells Q.extent Q.image h) ≡ true → is_some (held_durable Q.tells Q.extent Q.image k) ≡ true
  held_alike h k tells = tells_some Q.tells _ (some_tells Q.tells _ tells)
