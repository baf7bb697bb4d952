-- The write of a mark is one of what is kept.
use Rattle.std.proofs.Common.{◌≡◌, ℕ, Bool, Result, ap, arith}
use Rattle.std.specs.Prelude.{OnOk}
use Rattle.base_outside.specs.Images.{Image}
use Rattle.base_types.specs.declared.epoch.Epoch.{Epoch}
use Rattle.base_types.specs.declared.id.ContId.{ContId}
use Rattle.daos_model.specs.Changes.{marked}
use Rattle.daos_model.specs.declared.durable.Durable.{Durable}
use Rattle.pmem_alloc.specs.Map.{MapState, free_of}
use Rattle.pmem_alloc.specs.Sets.{count_below}
use Rattle.pmem_pages.specs.Blocks.{Stops}
use Rattle.vos_pool_prune.proofs.Joining.{asked_of}
use Rattle.vos_pool_settle.proofs.vos_pool_base.Freezing.{changes_where}
use Rattle.vos_pool_settle.specs.Changing.{IsTidyChange}
use Rattle.vos_pool_settle.specs.Settling.{OfItsKept}
use Rattle.vos_pool_settle.specs.vos_pool_base.Pool.{ChangesTo, IfRunning, OpenedState, kept_of, may_of}
use Rattle.vos_pool_settle.specs.vos_pool_base.Tidy.{IfTidy, LeavesBut}
use Rattle.vos_pool_settle.specs.vos_pool_base.vos_places.Tables.{Table}
use Rattle.vos_pool_settle.specs.vos_pool_base.vos_tables.Kept.{MakesWhere}
use Rattle.vos_store.specs.Calls.{Makes}
use Rattle.vos_store.specs.Conditions.{IsLeased}
use Rattle.vos_store.specs.declared.refusal.Stopped.{Stopped}
use Rattle.vos_store.specs.Refusals.{always_stop}

module _ {R : Type 0} (extent : R → ℕ) (tells : Bool) (image : R → Image) (may_leave : R → Image → Type 0) (count burns : R → ℕ) (c : ContId) (upto : Epoch) (n : ℕ) (p w : OpenedState R) (r : Result (Unit {0}) Stopped) (t : Table) where
  pub marks : OfItsKept tells extent image p (IsLeased upto) → MakesWhere (IsLeased upto) (marked c upto n) p.table t
      → ((change : Durable → Durable) → IfRunning p (ChangesTo change (kept_of tells extent image p) p.table t) → Makes p.blocks.undo.stopped always_stop change r (kept_of tells extent image p) (kept_of tells extent image w) (may_of tells extent may_leave p) (may_of tells extent may_leave w))
      → OnOk r (IfTidy tells extent image p → IfTidy tells extent image w) → LeavesBut tells extent may_leave 0 p w → w.blocks.map ≡ p.blocks.map → extent w.blocks.undo.region ≡ extent p.blocks.undo.region
      → Stops p.blocks.undo.stopped w.blocks.undo.stopped (count p.blocks.undo.region) (count w.blocks.undo.region) (burns p.blocks.undo.region) (burns w.blocks.undo.region) r → IsTidyChange tells extent image may_leave count burns (marked c upto n) p w r
  marks leased plan makes tidy left map size stops = record {
    kept = makes (marked c upto n) (λ going. changes_where (IsLeased upto) (marked c upto n) (kept_of tells extent image p) p.table t (asked_of extent tells image p (IsLeased upto) leased going) plan);
    tidy = tidy;
    left = left;
    free = (let same = ap (λ (m : MapState). count_below (free_of m) m.end) map in omega (arith, same));
    size = size;
    stops = stops;
  }
