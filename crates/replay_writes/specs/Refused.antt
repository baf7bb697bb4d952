-- Why writes are refused that are above their floors.
use Rattle.std.specs.Prelude.{◌≡◌, List, Option, Some}
use Rattle.base_types.specs.declared.epoch.Epoch.{Epoch}
use Rattle.base_types.specs.declared.operation.MinorWrite.{MinorWrite}
use Rattle.base_types.specs.declared.outcome.Cause.{Cause}
use Rattle.base_types.specs.declared.outcome.Cause.TheVariants.{ReadLater, WriteLater, Unresolved, Floor}
use Rattle.base_types.specs.declared.shown.Shown.{Shown}
use Rattle.daos_model.specs.declared.durable.Durable.{Durable}
use Rattle.world_base.specs.declared.target.TargetPlan.{TargetPlan}
use Rattle.world_base.specs.Commits.{FirstRead, NoReads, first_later}

-- a later read is shown for the first write that one stands against; else a later write for the first that one refuses
abbrev pub IsRefusedAbove : TargetPlan → Option Epoch → Epoch → Durable → List Shown → List MinorWrite → Cause → Type 0
IsRefusedAbove t first e d stamps ws (ReadLater by at path) = FirstRead e stamps ws (record { by = by; epoch = at; path = path })
IsRefusedAbove t first e d stamps ws (WriteLater by at path) = NoReads e stamps ws × (first_later t first e d ws ≡ Some (record { by = by; epoch = at; path = path }))
IsRefusedAbove t first e d stamps ws (Unresolved by) = ⊥
IsRefusedAbove t first e d stamps ws (Floor target at why) = ⊥
