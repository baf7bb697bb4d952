-- What is found of a region that is attached to.
use Rattle.std.specs.Prelude.{◌≡◌, ◌⊎◌, ◌≤◌, ℕ, Bool, true, false, IsTrue, []}
use Rattle.base_outside.specs.Causes.{Rose}
use Rattle.base_outside.specs.Images.{Image, NoMore}
use Rattle.pmem_undo.specs.Undo.{UndoState}
use Rattle.pmem_undo.specs.declared.opening.UndoCause.{UndoCause}
use Rattle.pmem_undo.specs.declared.opening.UndoCause.TheVariants.{Stopped as UndoStopped, Memory as UndoMemory}
use Rattle.vos_check_base.specs.Health.{Fares, is_stopped}
use Rattle.vos_check_base.specs.declared.refusal.CheckNo.{CheckNo}
use Rattle.vos_check_base.specs.declared.refusal.CheckNo.TheVariants.{Stopped, Memory}
use Rattle.vos_check_content.specs.declared.content.ContentFound.{ContentFound}
use Rattle.vos_check_content.specs.Region.{IsLooked, health_of, region_content}
use Rattle.vos_check_content.specs.Whole.{IsFaulty, IsHeldSomewhere, IsWholeFound}
use Rattle.vos_check_content.specs.vos_check_places.Fixed.{table_of}

-- why nothing was attached to
abbrev pub cause_of : UndoCause → CheckNo
cause_of UndoStopped = Stopped
cause_of UndoMemory = Memory

-- reads alone were made of an undo region, it hasn't stopped by them, and this was found of its content
pub record IsFoundFrom {R : Type 0} (tells : Bool) (extent count burns : R → ℕ) (image : R → Image) (may_leave : R → Image → Type 0) (moment : R → ℕ) (left_since : R → ℕ → Image → Type 0) (target : ℕ) (old new : UndoState R) (x : ContentFound) : Type 0 where
  pub looked : IsLooked tells extent image may_leave moment left_since old new
  pub fares : Fares (health_of count burns old) (health_of count burns new) false
  pub found : IsTrue tells → IsWholeFound target (extent old.region) (region_content (extent old.region) (image old.region)) x
  pub held : IsHeldSomewhere target (extent old.region) (table_of x.fixed)

-- reads alone were made of a region, which is handed back, and its content isn't of the layout, or no answer was found
pub record IsRefusedFrom {R : Type 0} (tells : Bool) (extent count burns : R → ℕ) (image : R → Image) (may_leave : R → Image → Type 0) (target : ℕ) (old : UndoState R) (back : R) (cause : CheckNo) : Type 0 where
  pub size : extent back ≡ extent old.region
  pub later_faults : count old.region ≤ count back
  pub later_burns : burns old.region ≤ burns back
  pub stopped : is_stopped cause ≡ true → (old.stopped ≡ true) ⊎ (Rose (count old.region) (count back) ⊎ Rose (burns old.region) (burns back))
  pub faulty : IsTrue tells → IsFaulty target (extent old.region) (region_content (extent old.region) (image old.region)) cause
  pub crash : IsTrue tells → NoMore (may_leave old.region) (may_leave back)

-- nothing is staged of what a region became, and it hasn't stopped
pub record IsKeptFrom {R : Type 0} (extent count burns : R → ℕ) (region : R) (undo : UndoState R) : Type 0 where
  pub size : extent undo.region ≡ extent region
  pub later_faults : count region ≤ count undo.region
  pub later_burns : burns region ≤ burns undo.region
  pub staged : undo.staged ≡ []
  pub going : undo.stopped ≡ false

-- a region is handed back, and it is said to have stopped only where a count rose
pub record IsGivenUp {R : Type 0} (extent count burns : R → ℕ) (region back : R) (cause : CheckNo) : Type 0 where
  pub size : extent back ≡ extent region
  pub later_faults : count region ≤ count back
  pub later_burns : burns region ≤ burns back
  pub stopped : is_stopped cause ≡ true → Rose (count region) (count back) ⊎ Rose (burns region) (burns back)
