-- A change that is made of what a target keeps.
use Rattle.std.specs.Prelude.{Bool, true, false, Option, Result, Ok, Err}
use Rattle.base_types.specs.declared.entry.Settle.{Settle}
use Rattle.base_types.specs.declared.entry.Settle.TheVariants.{Commit, Abort, Confirm, Forget}
use Rattle.daos_model.specs.declared.durable.Durable.{Durable}
use Rattle.vos_store.specs.Calls.{State}
use Rattle.vos_store.specs.declared.refusal.Stopped.{Stopped}
use Rattle.world_contents.specs.world_base.Changes.{Change}
use Rattle.target_parts.specs.Parts.{Did, Stays, WasCut, kept, left_by}

-- a change was made, or was cut
abbrev pub MadeOrCut : Change → Durable → State → Option Durable → State → (Durable → Type 0) → Result (Unit {0}) Stopped → Type 0
MadeOrCut c d h new k finds (Ok u) = Did c d h new k
MadeOrCut c d h new k finds (Err e) = WasCut c (kept d h) (left_by k finds)

-- nothing was changed, and nothing cut
abbrev pub StaysUncut : Durable → State → Option Durable → State → Result (Unit {0}) Stopped → Type 0
StaysUncut d h new k (Ok u) = Stays d h new k
StaysUncut d h new k (Err e) = ⊥

-- a change was made or cut, where it was to be made
abbrev pub MadeIf : Bool → Change → Durable → State → Option Durable → State → (Durable → Type 0) → Result (Unit {0}) Stopped → Type 0
MadeIf true c d h new k finds result = MadeOrCut c d h new k finds result
MadeIf false c d h new k finds result = StaysUncut d h new k result

-- a step that ends an attempt which is prepared
abbrev pub IsEnding : Settle → Type 0
IsEnding Commit = Unit {0}
IsEnding Abort = Unit {0}
IsEnding (Confirm t) = ⊥
IsEnding Forget = ⊥
