-- Why a part of a turn isn't done.
use Rattle.std.specs.Prelude.{Bool, true, false}
use Rattle.target_parts.specs.declared.halt.Halt.{Halt}
use Rattle.target_parts.specs.declared.halt.Halt.TheVariants as halt
use Rattle.vos_store.specs.declared.refusal.LaterNo.{LaterNo}
use Rattle.vos_store.specs.declared.refusal.LaterNo.TheVariants as later

abbrev pub stopped : Halt
stopped = halt.Stopped

abbrev pub memory : Halt
memory = halt.Memory

abbrev pub of_later : LaterNo → Halt
of_later later.Stopped = halt.Stopped
of_later later.Memory = halt.Memory

abbrev pub halt_stop : Halt → Bool
halt_stop halt.Stopped = true
halt_stop halt.Memory = false
