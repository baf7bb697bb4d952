-- What a change of what an open pool keeps, which may be cut between its commits, leaves of the pool.
use Rattle.std.specs.Prelude.{◌≡◌, ◌≤◌, ◌+◌, ℕ, Bool, OnOk, Result, length}
use Rattle.base_outside.specs.Images.{Image}
use Rattle.daos_model.specs.declared.durable.Durable.{Durable}
use Rattle.pmem_alloc.specs.Blocks.{free_count}
use Rattle.pmem_pages.specs.Blocks.{Stops}
use Rattle.vos_pool_settle.specs.vos_pool_base.Pool.{OpenedState, kept_of, may_of}
use Rattle.vos_pool_settle.specs.vos_pool_base.Tidy.{IfTidy, LeavesBut}
use Rattle.vos_pool_settle.specs.Settling.{OfItsKept}
use Rattle.vos_store.specs.Calls.{MakesPartly}
use Rattle.vos_store.specs.declared.refusal.Stopped.{Stopped}
use Rattle.vos_store.specs.Refusals.{always_stop}

-- What is kept changes so, or a part of that is made, or nothing is. A tidy pool stays tidy, no block is taken, each version that went
-- gave back a block at least, and what may be left of the pool stands.
pub record IsPartChange {R : Type 0} (tells : Bool) (extent : R → ℕ) (image : R → Image) (may_leave : R → Image → Type 0) (count burns : R → ℕ) (change : Durable → Durable) (Cut : Durable → Durable → Type 0) (old new : OpenedState R) (result : Result (Unit {0}) Stopped) : Type 0 where
  pub kept : MakesPartly old.blocks.undo.stopped always_stop change Cut result (kept_of tells extent image old) (kept_of tells extent image new) (may_of tells extent may_leave old) (may_of tells extent may_leave new)
  pub tidy : OnOk result (IfTidy tells extent image old → IfTidy tells extent image new)
  pub left : LeavesBut tells extent may_leave 0 old new
  pub free : free_count old.blocks ≤ free_count new.blocks
  pub gives : OnOk result (OfItsKept tells extent image old (λ d. free_count old.blocks + length d.versions ≤ free_count new.blocks + length (change d).versions))
  pub size : extent new.blocks.undo.region ≡ extent old.blocks.undo.region
  pub stops : Stops old.blocks.undo.stopped new.blocks.undo.stopped (count old.blocks.undo.region) (count new.blocks.undo.region) (burns old.blocks.undo.region) (burns new.blocks.undo.region) result
