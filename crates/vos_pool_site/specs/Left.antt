-- What may be left of a pool stands, in one layout or the other.
use Rattle.std.specs.Prelude.{ℕ, Bool, IsTrue}
use Rattle.base_outside.specs.Images.{Image}
use Rattle.vos_pool_held.specs.vos_pool_base.Pool.{OpenedState}
use Rattle.vos_pool_held.specs.vos_pool_base.Tidy.{IsLeftStanding}

-- an image stands for a pool of that target of so many, with so many blocks free, in one layout or the other
pub record StandsInSome (size target targets few : ℕ) (c : Image) : Type 0 where
  pub layout : ℕ
  pub stands : IsLeftStanding size target targets layout few c

-- so does whatever may be left of a pool
abbrev pub LeavesSome : {R : Type 0} → Bool → (R → ℕ) → (R → Image → Type 0) → ℕ → OpenedState R → Type 0
LeavesSome tells extent may_leave few p =
    IsTrue tells → (c : Image) → may_leave p.blocks.undo.region c → StandsInSome (extent p.blocks.undo.region) p.table.header.target p.table.header.targets few c
