-- A target opens again.
use Rattle.std.specs.Prelude.{◌≡◌, ◌≤◌, ℕ, ◌⊎◌, ◌∷◌, List, [], Bool, true, false, Option, Some, None, is_some, IsSome, OnOk, Result}
use Rattle.base_types.specs.Epochs.{restart_floor}
use Rattle.base_types.specs.declared.entry.Entry.{Entry}
use Rattle.base_types.specs.declared.epoch.Epoch.{Epoch}
use Rattle.base_types.specs.declared.outcome.FloorWhy.{FloorWhy}
use Rattle.base_types.specs.declared.outcome.FloorWhy.TheVariants.{Restart}
use Rattle.base_types.specs.declared.report.Line.TheVariants as line
use Rattle.daos_model.specs.Changes.{reopened}
use Rattle.daos_model.specs.declared.durable.Durable.{Durable}
use Rattle.vos_store.specs.Calls.{Ailed, Fires, State}
use Rattle.vos_store.specs.Refusals.{says}
use Rattle.vos_store.specs.declared.refusal.LaterNo.{LaterNo}
use Rattle.vos_store.specs.declared.refusal.LaterNo.TheVariants as later
use Rattle.vos_store.specs.declared.refusal.ReopenNo.{ReopenNo}
use Rattle.vos_store.specs.declared.refusal.ReopenNo.TheVariants as no
use Rattle.world_base.specs.declared.did.Did.{Did}
use Rattle.world_base.specs.declared.target.TargetPlan.{TargetPlan}
use Rattle.world_base.specs.Statuses.{opening_memory, opening_posts}
use Rattle.world_base.specs.Stops.{restart_line}
use Rattle.target_parts.specs.declared.stop.TargetStop.{TargetStop}
use Rattle.target_parts.specs.declared.stop.TargetStop.TheVariants as stop
use Rattle.target_parts.specs.Knowing.{memory_of}
use Rattle.target_parts.specs.Stops.{stop_foreign, stop_store}
use Rattle.target_resync.specs.declared.restarts.Opened.{Opened}

-- ---- why it doesn't open

abbrev pub of_reopen : ReopenNo → TargetStop
of_reopen no.Stopped = stop.Store None []
of_reopen (no.Foreign at byte) = stop.Foreign at byte
of_reopen no.Memory = stop.Memory

abbrev pub of_later : LaterNo → TargetStop
of_later later.Stopped = stop.Store None []
of_later later.Memory = stop.Memory

-- a failed opening issues no epoch and adds no line
abbrev pub IsBare : TargetStop → Type 0
IsBare (stop.Store issued lines) = (issued ≡ None) × (lines ≡ [])
IsBare (stop.Foreign at byte) = Unit {0}
IsBare stop.Memory = Unit {0}

-- ---- the store

-- What an opening says of the store. It runs after Ok, and is stopped where that is answered, which comes only where a count rose and never
-- where nothing can stop it, or where a foreign byte is shown.
pub record Reopens {T : Type 0} (result : Result T TargetStop) (h k : State) (old new : Option Durable) : Type 0 where
  pub faults : h.faults ≤ k.faults
  pub burns : h.burns ≤ k.burns
  pub fuse : Fires h k
  pub tells_fuse : k.tells_fuse ≡ h.tells_fuse
  pub left : k.left ≡ h.left
  pub may_fail : k.may_fail ≡ h.may_fail
  pub sure : h.may_fail ≡ false → k.faults ≡ h.faults
  pub unfailing : h.may_fail ≡ false → h.fused ≡ false → says stop_store result ≡ false
  pub runs : OnOk result (k.stopped ≡ false)
  pub stops : says stop_store result ≡ true → k.stopped ≡ true
  pub foreign : says stop_foreign result ≡ true → k.stopped ≡ true
  pub cause : says stop_store result ≡ true → Ailed h k
  pub targets : k.targets ≡ h.targets
  pub free : IsSome old → h.free ≤ k.free
  pub told : is_some new ≡ is_some old

-- the next opening finds what this one may have found, with the incarnation raised or not
abbrev pub Left : (Durable → Type 0) → (Durable → Type 0) → Type 0
Left may left = (x : Durable) → left x → may x ⊎ ((y : Durable) × may y × (x ≡ reopened y))

-- one of what it may have kept, with the incarnation raised, has these entries
pub record Found (may : Durable → Type 0) (d : Durable) : Type 0 where
  pub found : Durable
  pub may_be : may found
  pub raised : d ≡ reopened found

abbrev pub HasEntries : (Durable → Type 0) → Option Durable → List Entry → Type 0
HasEntries may new es = (d : Durable) → new ≡ Some d → Found may d × (es ≡ d.entries)

-- ---- the target

abbrev pub opening_floor : ℕ → Durable → Epoch × FloorWhy
opening_floor n x = (record { 0 = restart_floor x.lease }, Restart n)

-- its restart line is added, and the other members of what it leads are asked
abbrev pub opening_did : TargetPlan → ℕ → Durable → Did
opening_did t n x = record { posts = opening_posts t (reopened x); lines = restart_line n t.me x ∷ []; issued = None }

-- one line is added, which tells of the restart of this number, and no epoch is issued, whatever is told of what is kept
abbrev pub TellsRestart : ℕ → ℕ → Did → Type 0
TellsRestart n me did = (inc : ℕ) × (floor : Epoch) × (did.lines ≡ line.Restart n me inc floor ∷ []) × (did.issued ≡ None)

-- It opened, by the restart of a number, with this of what its store may have kept.
pub record OpensWith (t : TargetPlan) (n : ℕ) (may : Durable → Type 0) (new : Option Durable) (k : State) (o : Opened) : Type 0 where
  pub found : Durable
  pub may_be : may found
  pub kept_is : new ≡ Some (reopened found)
  pub opening : k.opening ≡ opening_floor n found
  pub memory : memory_of o.knows ≡ opening_memory t (reopened found)
  pub did : o.did ≡ opening_did t n found
