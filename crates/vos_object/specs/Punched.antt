-- Which writes are punches, and when they are made.
use Rattle.std.specs.Prelude.{Bool, true, false}
use Rattle.base_types.specs.declared.epoch.Epoch.{Epoch}
use Rattle.base_types.specs.declared.operation.MinorWrite.{MinorWrite}
use Rattle.vos_values.specs.declared.keys.Moment.{Moment}
use Rattle.vos_settle.specs.declared.task.WriteKind.{WriteKind}
use Rattle.vos_settle.specs.declared.task.WriteKind.TheVariants as kind

abbrev pub is_punch_kind : WriteKind → Bool
is_punch_kind kind.Punch = true
is_punch_kind kind.Single = false
is_punch_kind (kind.Extent low) = false

abbrev pub moment_of_write : Epoch → MinorWrite → Moment
moment_of_write epoch w = record { epoch = epoch; minor = w.minor }
