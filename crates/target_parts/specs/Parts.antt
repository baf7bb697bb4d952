-- What a turn, or a part of one, says of the store: several calls, one after another, of a store that ran.
use Rattle.std.specs.Prelude.{◌≡◌, ◌≤◌, ◌+◌, Bool, true, false, Option, Some, is_some, Result, Ok, Err}
use Rattle.daos_model.specs.declared.durable.Durable.{Durable}
use Rattle.vos_store.specs.Calls.{Ailed, Fires, IsUnfailing, State}
use Rattle.vos_store.specs.Refusals.{always_stop, says}
use Rattle.vos_store.specs.Unfailing.{RunsOn}
use Rattle.vos_store.specs.declared.refusal.Stopped.{Stopped}
use Rattle.world_contents.specs.world_base.Changes.{Change, IsAskedAlone, IsCut, Kept, cost, made}
use Rattle.world_contents.specs.world_base.Turns.{CutShort, Reached}
use Rattle.target_parts.specs.declared.halt.Halt.{Halt}
use Rattle.target_parts.specs.declared.halt.Halt.TheVariants as halt

-- The store is stopped exactly where that is answered, and that only where a count rose in these calls. One that nothing
-- can stop isn't stopped, and its counts stay; and where the outside can't fail it, its count stays. Counts never fall; how
-- the store was made and opened stays, whether the outside may fail it, and whether it tells what it keeps.
pub record Runs {T E : Type 0} (stop : E → Bool) (result : Result T E) (h k : State) (old new : Option Durable) : Type 0 where
  pub faults : h.faults ≤ k.faults
  pub burns : h.burns ≤ k.burns
  pub fuse : Fires h k
  pub tells_fuse : k.tells_fuse ≡ h.tells_fuse
  pub may_fail : k.may_fail ≡ h.may_fail
  pub sure : h.may_fail ≡ false → k.faults ≡ h.faults
  pub unfailing : IsUnfailing h → RunsOn h k
  pub stops : k.stopped ≡ says stop result
  pub cause : says stop result ≡ true → Ailed h k
  pub targets : k.targets ≡ h.targets
  pub opening : k.opening ≡ h.opening
  pub told : is_some new ≡ is_some old

-- and it still runs
abbrev pub StillRuns : State → State → Option Durable → Option Durable → Type 0
StillRuns h k old new = Runs {T = Unit {0}} {E = Stopped} always_stop (Ok (tt {0})) h k old new

abbrev pub kept : Durable → State → Kept
kept d s = record { durable = d; free = s.free }

-- a change was made of what is kept, at its cost
pub record Did (c : Change) (d : Durable) (h : State) (new : Option Durable) (k : State) : Type 0 where
  pub kept_is : new ≡ Some (made c d)
  pub free : h.free ≤ k.free + cost c

-- what the next opening of a store that stopped may find, with the blocks that are free then
abbrev pub left_by : State → (Durable → Type 0) → Kept → Type 0
left_by k finds x = finds x.durable × (x.free ≡ k.free)

-- a change was cut
abbrev pub WasCut : Change → Kept → (Kept → Type 0) → Type 0
WasCut c l finds = (x : Kept) → finds x → IsCut c l x

-- nothing was changed
pub record Stays (d : Durable) (h : State) (new : Option Durable) (k : State) : Type 0 where
  pub kept_is : new ≡ Some d
  pub free : k.free ≡ h.free

-- a question was cut
abbrev pub WasAsked : Kept → (Kept → Type 0) → Type 0
WasAsked l finds = (x : Kept) → finds x → IsAskedAlone l x

-- a question was answered, and changed nothing
pub record Answered {T : Type 0} (P : T → Type 0) (x : T) (d : Durable) (h : State) (new : Option Durable) (k : State) : Type 0 where
  pub stays : Stays d h new k
  pub holds : P x

-- A question: it was answered so; or it was cut; or memory was wanting.
abbrev pub Asks : {T : Type 0} → (T → Type 0) → Durable → State → Option Durable → State → (Durable → Type 0) → Result T Halt → Type 0
Asks P d h new k finds (Ok x) = Answered P x d h new k
Asks P d h new k finds (Err halt.Stopped) = WasAsked (kept d h) (left_by k finds)
Asks P d h new k finds (Err halt.Memory) = Stays d h new k

-- what is kept now
pub record Now (new : Option Durable) (k : State) (P : Kept → Type 0) : Type 0 where
  pub durable : Durable
  pub kept_is : new ≡ Some durable
  pub holds : P (kept durable k)

-- memory was wanting on the way: some changes were made, each whole
pub record Partway {S : Type 0} (Next : S → Kept → Option Change → S → Type 0) (start : S) (old mid : Kept) : Type 0 where
  pub last : S
  pub reached : Reached Next start old last mid

-- A part of a turn: it came whole to what it is for; or it was cut short; or memory was wanting on the way.
abbrev pub Part : {S T : Type 0} → (S → Kept → Option Change → S → Type 0) → S → Kept → (T → Kept → Type 0) → Option Durable → State → (Durable → Type 0) → Result T Halt → Type 0
Part Next start old Done new k finds (Ok x) = Now new k (Done x)
Part Next start old Done new k finds (Err halt.Stopped) = CutShort Next start old (left_by k finds)
Part Next start old Done new k finds (Err halt.Memory) = Now new k (Partway Next start old)
