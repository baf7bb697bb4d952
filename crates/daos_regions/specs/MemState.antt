-- What a region in memory shows.
use Rattle.std.specs.Prelude.{Bool}
use Rattle.base_outside.specs.Calls.{Calls}
use Rattle.daos_regions.specs.declared.keep.Keep.{Keep}
use Rattle.daos_regions.specs.Periods.{DiskState}

-- its disk, which unflushed writes an opening keeps, whether a call failed since it was opened, the
-- numbers of the calls that fail, how many calls there were, and how many failed
pub record MemState : Type 0 where
  pub disk : DiskState
  pub keep : Keep
  pub broken : Bool
  pub calls : Calls
