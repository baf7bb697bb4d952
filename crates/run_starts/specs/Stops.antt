-- Why stores aren't opened for a run.
use Rattle.std.specs.Prelude.{ℕ, ◌==◌, Bool, false}
use Rattle.run_opening.specs.declared.stop.OpeningStop.{OpeningStop}
use Rattle.run_opening.specs.declared.stop.OpeningStop.TheVariants as opening
use Rattle.vos_store.specs.declared.refusal.EnlistNo.{EnlistNo}
use Rattle.vos_store.specs.declared.refusal.EnlistNo.TheVariants as enlist
use Rattle.run_starts.specs.declared.stop.StartStop.{StartStop}
use Rattle.run_starts.specs.declared.stop.StartStop.TheVariants as stop

-- it is the fault of this target's store
abbrev pub is_fault_of : ℕ → StartStop → Bool
is_fault_of t (stop.Stopped target) = t == target
is_fault_of t (stop.TooMany target together) = false
is_fault_of t stop.Memory = false

-- containers aren't added to the store of a target
abbrev pub not_enlisted : ℕ → EnlistNo → StartStop
not_enlisted target (enlist.TooMany together) = stop.TooMany target together
not_enlisted target enlist.Stopped = stop.Stopped target
not_enlisted target enlist.Memory = stop.Memory

-- an opening isn't whole
abbrev pub not_opened : OpeningStop → StartStop
not_opened (opening.Stopped target) = stop.Stopped target
not_opened opening.Memory = stop.Memory

abbrev pub wanting : StartStop
wanting = stop.Memory
