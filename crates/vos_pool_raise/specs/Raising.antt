-- What raising a pool to the second layout writes, and what may be left of it.
use Rattle.std.specs.Prelude.{◌⊎◌, ℕ, Bool, IsTrue, [], ◌∷◌}
use Rattle.base_outside.specs.Images.{Image, Range}
use Rattle.vos_pool_base.specs.Pool.{OpenedState}
use Rattle.vos_pool_base.specs.Tidy.{IsLeftStanding}

-- the second layout's number, in its place
abbrev pub layout_range : Range
layout_range = record { place = 8; bytes = 0 ∷ 0 ∷ 0 ∷ 2 ∷ [] }

-- Once its log was rolled back something stands in an image, of this target and number of targets, and of this layout or of the second one; and at
-- least so many blocks are free.
abbrev pub IsLeftEither : ℕ → ℕ → ℕ → ℕ → ℕ → Image → Type 0
IsLeftEither size target targets layout few c = IsLeftStanding size target targets layout few c ⊎ IsLeftStanding size target targets 2 few c

-- so it is in each image that may be left of a pool
abbrev pub LeavesEither : {R : Type 0} → Bool → (R → ℕ) → (R → Image → Type 0) → ℕ → ℕ → OpenedState R → Type 0
LeavesEither tells extent may_leave layout few p =
    IsTrue tells → (c : Image) → may_leave p.blocks.undo.region c → IsLeftEither (extent p.blocks.undo.region) p.table.header.target p.table.header.targets layout few c
