-- What formatting makes of a blank region.
use Rattle.std.specs.Prelude.{◌≡◌, ◌⊎◌, ◌≤◌, ℕ, Bool, IsTrue, List, [], ◌∷◌}
use Rattle.base_outside.specs.Images.{Image, Range, all_over}
use Rattle.pmem_undo.specs.Layout.{SameContent}
use Rattle.pmem_undo.specs.Settled.{IsAtRest, IsBeforeOrAfter}
use Rattle.vos_pool_open.specs.vos_check_content.Region.{region_content}
use Rattle.vos_fresh.specs.Fresh.{IsFresh, header_range, map_range}

-- the ranges that are written over zeros
abbrev pub fresh_ranges : ℕ → ℕ → ℕ → List Range
fresh_ranges size target targets = header_range size target targets ∷ map_range size ∷ []

-- A region was formatted: its content is what a pool writes first over zeros. Its gate is closed, and a crash leaves what is read.
pub record IsFormatted {R : Type 0} (tells : Bool) (extent count burns : R → ℕ) (image : R → Image) (may_leave : R → Image → Type 0) (target targets : ℕ) (old new : R) : Type 0 where
  pub size : extent new ≡ extent old
  pub later_faults : count old ≤ count new
  pub later_burns : burns old ≤ burns new
  pub content : IsTrue tells → SameContent (image new) (all_over (fresh_ranges (extent old) target targets) (image old))
  pub fresh : IsTrue tells → IsFresh (extent old) target targets (region_content (extent old) (image new))
  pub rest : IsTrue tells → IsAtRest (image new) (may_leave new)

-- whatever may be left of a region that was to be formatted could be left before, or stands for its zeros or for what was to be written
abbrev pub LeavesFormatted : {R : Type 0} → (R → ℕ) → (R → Image) → (R → Image → Type 0) → ℕ → ℕ → R → R → Type 0
LeavesFormatted extent image may_leave target targets old new =
    (c : Image) → may_leave new c → may_leave old c ⊎ IsBeforeOrAfter (extent old) (image old) (fresh_ranges (extent old) target targets) c
