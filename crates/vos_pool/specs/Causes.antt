-- Why a region doesn't become a pool, as its opening says it.
use Rattle.vos_pool.specs.declared.cause.PoolCause.{PoolCause}
use Rattle.vos_pool.specs.declared.cause.PoolCause.TheVariants as pool
use Rattle.vos_pool_make.specs.declared.cause.OpenCause.{OpenCause}
use Rattle.vos_pool_make.specs.declared.cause.OpenCause.TheVariants as cause

abbrev pub open_cause : PoolCause → OpenCause
open_cause pool.Stopped = cause.Stopped
open_cause (pool.Foreign at byte) = cause.Foreign at byte
open_cause (pool.Shape found asked) = cause.Shape found asked
open_cause pool.Memory = cause.Memory
