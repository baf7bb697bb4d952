-- What a freeze comes to.
use Rattle.std.specs.Prelude.{◌≡◌, ◌⊎◌, true, false, Option, Result, Ok, Err}
use Rattle.base_types.specs.declared.epoch.Epoch.{Epoch}
use Rattle.base_types.specs.declared.id.ContId.{ContId}
use Rattle.daos_model.specs.declared.durable.Durable.{Durable}
use Rattle.daos_model.specs.Durables.{is_frozen}
use Rattle.vos_store.specs.Answers.{freezes}
use Rattle.vos_store.specs.Calls.{State}
use Rattle.vos_store.specs.declared.refusal.FetchNo.{FetchNo}
use Rattle.vos_store.specs.declared.refusal.FetchNo.TheVariants as fetch
use Rattle.vos_store.specs.declared.refusal.FreezeNo.TheVariants as freeze
use Rattle.world_base.specs.Changes.{Freezes}
use Rattle.target_parts.specs.declared.halt.Halt.{Halt}
use Rattle.target_parts.specs.declared.halt.Halt.TheVariants as halt
use Rattle.target_parts.specs.Parts.{Did, Stays, WasAsked, WasCut, kept, left_by}
use Rattle.target_snaps.specs.declared.freezing.Froze.{Froze}
use Rattle.target_snaps.specs.declared.freezing.Froze.TheVariants as froze

-- what the refusal of a read at an epoch says of a freeze there
abbrev pub froze_by : FetchNo → Result Froze Halt
froze_by (fetch.Aggregated g n) = Ok (froze.Refused (freeze.Below g n))
froze_by fetch.Stopped = Err halt.Stopped
froze_by fetch.Memory = Err halt.Memory
froze_by (fetch.Unsettled a) = Ok (froze.Refused freeze.NoPlace)

-- a container isn't frozen at an epoch, and nothing refuses to freeze it
pub record IsToFreeze (c : ContId) (s : Epoch) (d : Durable) : Type 0 where
  pub allowed : freezes c s d ≡ Ok tt
  pub new : is_frozen d c s ≡ false

-- It was frozen by a change; or it had been, and nothing was changed; or it is refused. Where the store stopped, that cut the change, or
-- nothing was changed.
abbrev pub FreezesOrCut : ContId → Epoch → Durable → State → Option Durable → State → (Durable → Type 0) → Result Froze Halt → Type 0
FreezesOrCut c s d h new k finds (Ok froze.Anew) = IsToFreeze c s d × Did (Freezes c s) d h new k
FreezesOrCut c s d h new k finds (Ok froze.Before) = (freezes c s d ≡ Ok tt) × (is_frozen d c s ≡ true) × Stays d h new k
FreezesOrCut c s d h new k finds (Ok (froze.Refused e)) = (freezes c s d ≡ Err e) × Stays d h new k
FreezesOrCut c s d h new k finds (Err halt.Stopped) = WasAsked (kept d h) (left_by k finds) ⊎ (IsToFreeze c s d × WasCut (Freezes c s) (kept d h) (left_by k finds))
FreezesOrCut c s d h new k finds (Err halt.Memory) = Stays d h new k
