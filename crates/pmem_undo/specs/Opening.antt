-- What opening an undo region answers.
use Rattle.std.specs.Prelude.{◌≡◌, ◌⊎◌, ℕ, ◌≤◌, false, []}
use Rattle.base_outside.specs.Causes.{Rose}
use Rattle.pmem_undo.specs.Undo.{UndoState}
use Rattle.pmem_undo.specs.declared.opening.UndoCause.{UndoCause}
use Rattle.pmem_undo.specs.declared.opening.UndoCause.TheVariants.{Stopped}

-- nothing is staged, it hasn't stopped, and it has the size of the region that was handed in
pub record IsBegun {R : Type 0} (extent faults burns : R → ℕ) (region : R) (undo : UndoState R) : Type 0 where
  pub size : extent undo.region ≡ extent region
  pub later_faults : faults region ≤ faults undo.region
  pub later_burns : burns region ≤ burns undo.region
  pub staged : undo.staged ≡ []
  pub going : undo.stopped ≡ false

-- the region is handed back, and it is said to have stopped only where a count rose
pub record IsGivenBack {R : Type 0} (extent faults burns : R → ℕ) (region back : R) (cause : UndoCause) : Type 0 where
  pub size : extent back ≡ extent region
  pub later_faults : faults region ≤ faults back
  pub later_burns : burns region ≤ burns back
  pub stopped : cause ≡ Stopped → Rose (faults region) (faults back) ⊎ Rose (burns region) (burns back)
