-- What every call of a store says: when it answers Stopped, what then stands, and what stays.
use Rattle.std.specs.Prelude.{◌≡◌, ℕ, ◌+◌, ◌-◌, ◌≤◌, ◌⊎◌, ◌<◌, Bool, true, false, ◌&&◌, nat_lt, filter, length, Option, Some, Result, OnOk, is_some, is_err, List}
use Rattle.std.specs.Option.{option_map}
use Rattle.base_types.specs.declared.epoch.Epoch.{Epoch}
use Rattle.base_types.specs.declared.id.ContId.{ContId}
use Rattle.base_types.specs.declared.outcome.FloorWhy.{FloorWhy}
use Rattle.daos_model.specs.declared.durable.Durable.{Durable}
use Rattle.daos_model.specs.declared.durable.Version.{Version}
use Rattle.daos_model.specs.Changes.{is_in_range, marked, reopened, with_versions}
use Rattle.daos_model.specs.Prunes.{Partly, is_going}
use Rattle.base_outside.specs.Causes.{Rose}
use Rattle.vos_store.specs.declared.refusal.ReopenNo.{ReopenNo}
use Rattle.vos_store.specs.Refusals.{refuses, reopen_stop, says}

-- What a store says of itself, whether or not it tells what it keeps: whether it is stopped, how often the outside and
-- a fuse failed it, whether the outside may fail it at all, whether a fuse may be set and whether that is told, its free
-- blocks, the number of targets that it was made for, and the floor of its last opening with the reason. Where a fuse
-- isn't told, one may be set at any time in a store that can have one; where it is, `left` says at which of the changes
-- from now on it fires, and is 0 where none is set.
pub record State : Type 0 where
  pub stopped : Bool
  pub faults : ℕ
  pub burns : ℕ
  pub may_fail : Bool
  pub fused : Bool
  pub tells_fuse : Bool
  pub left : ℕ
  pub free : ℕ
  pub targets : ℕ
  pub opening : Epoch × FloorWhy

-- of a store that isn't stopped
abbrev pub IfRunning : State → Type 0 → Type 0
IfRunning s P = s.stopped ≡ false → P

-- where its fuse is told, none is set any more
abbrev pub IsFuseGone : State → State → Type 0
IsFuseGone h k = (h.tells_fuse && k.fused) ≡ false

-- the outside failed it; or a fuse did, which was set and is gone
abbrev pub Ailed : State → State → Type 0
Ailed h k = Rose h.faults k.faults ⊎ (Rose h.burns k.burns × (h.fused ≡ true) × IsFuseGone h k)

-- no fuse fired and none was set or taken away; or one fired, which was set and is gone
abbrev pub Fires : State → State → Type 0
Fires h k = ((k.burns ≡ h.burns) × (k.fused ≡ h.fused)) ⊎ ((h.fused ≡ true) × IsFuseGone h k)

-- What setting a fuse makes of a store: one is set that fires at the k-th change, or, by 0, none, and that one was set
-- before is told no more.
pub record SetsFuse (k : ℕ) (h new : State) : Type 0 where
  pub set : 0 < k → new.fused ≡ true
  pub told : h.tells_fuse ≡ true → (new.fused ≡ nat_lt 0 k) × (new.left ≡ k)
  pub rest : new ≡ record h { fused = new.fused; left = new.left }

-- What a change makes of a fuse that is told: unless it is refused it uses up one of the changes that are left, and at
-- the last of them the store stops, and the fuse's count rises.
pub record UsesFuse {T E : Type 0} (stop : E → Bool) (result : Result T E) (h k : State) : Type 0 where
  pub used : h.tells_fuse ≡ true → h.stopped ≡ false → refuses stop result ≡ false → k.left ≡ h.left - 1
  pub fires : h.tells_fuse ≡ true → h.stopped ≡ false → refuses stop result ≡ false → h.left ≡ 1 → (says stop result ≡ true) × Rose h.burns k.burns
  pub refused : refuses stop result ≡ true → k.left ≡ h.left
  pub idle : h.stopped ≡ true → k.left ≡ h.left

-- nothing can stop a store: the outside can't fail it, and no fuse is set
pub record IsUnfailing (s : State) : Type 0 where
  pub sure : s.may_fail ≡ false
  pub unfused : s.fused ≡ false

-- A call that may answer Stopped: it does so where the store was stopped, and else only where a count rose; and then
-- the store is stopped. Where nothing can stop the store it is as stopped after the call as it was before, and the
-- outside's count stays where the outside can't fail it. How it was made and opened stays. It costs so many free blocks
-- at most; a call that is refused, and one of a store that was stopped, costs and gives none.
pub record Turns {T E : Type 0} (cost : ℕ) (stop : E → Bool) (result : Result T E) (h k : State) : Type 0 where
  pub faults : h.faults ≤ k.faults
  pub burns : h.burns ≤ k.burns
  pub fuse : Fires h k
  pub tells_fuse : k.tells_fuse ≡ h.tells_fuse
  pub may_fail : k.may_fail ≡ h.may_fail
  pub sure : h.may_fail ≡ false → k.faults ≡ h.faults
  pub unfailing : h.may_fail ≡ false → h.fused ≡ false → says stop result ≡ h.stopped
  pub stops : k.stopped ≡ says stop result
  pub always : h.stopped ≡ true → says stop result ≡ true
  pub cause : h.stopped ≡ false → says stop result ≡ true → Ailed h k
  pub targets : k.targets ≡ h.targets
  pub opening : k.opening ≡ h.opening
  pub free : h.free ≤ k.free + cost
  pub refused : refuses stop result ≡ true → k.free ≡ h.free
  pub idle : h.stopped ≡ true → k.free ≡ h.free

-- An opening: the store runs after Ok alone. It answers Stopped only where a count rose in it, and never where nothing
-- can stop the store. A fuse that is told stays as it is.
pub record Opens (result : Result (Unit {0}) ReopenNo) (h k : State) : Type 0 where
  pub faults : h.faults ≤ k.faults
  pub burns : h.burns ≤ k.burns
  pub fuse : Fires h k
  pub tells_fuse : k.tells_fuse ≡ h.tells_fuse
  pub left : k.left ≡ h.left
  pub may_fail : k.may_fail ≡ h.may_fail
  pub sure : h.may_fail ≡ false → k.faults ≡ h.faults
  pub unfailing : h.may_fail ≡ false → h.fused ≡ false → says reopen_stop result ≡ false
  pub stops : k.stopped ≡ is_err result
  pub cause : says reopen_stop result ≡ true → Ailed h k
  pub targets : k.targets ≡ h.targets

-- What stands after a call that makes a change of what is kept, or none where it refuses. An opening after it finds what
-- one before it would have found, or, unless the store was stopped before, what the change makes.
pub record Makes {T E : Type 0} (was_stopped : Bool) (stop : E → Bool) (change : Durable → Durable) (result : Result T E) (old new : Option Durable) (may may' : Durable → Type 0) : Type 0 where
  pub told : is_some new ≡ is_some old
  pub done : OnOk result (new ≡ option_map change old)
  pub refused : refuses stop result ≡ true → new ≡ old
  pub left : (x : Durable) → may' x → may x ⊎ ((was_stopped ≡ false) × (Some x ≡ option_map change old))

-- The same of a change that may be cut between its steps.
pub record MakesPartly {T E : Type 0} (was_stopped : Bool) (stop : E → Bool) (change : Durable → Durable) (Cut : Durable → Durable → Type 0) (result : Result T E) (old new : Option Durable) (may may' : Durable → Type 0) : Type 0 where
  pub told : is_some new ≡ is_some old
  pub done : OnOk result (new ≡ option_map change old)
  pub refused : refuses stop result ≡ true → new ≡ old
  pub left : (x d : Durable) → may' x → old ≡ Some d → may x ⊎ ((was_stopped ≡ false) × Cut d x)

-- What stands after a call that changes nothing.
pub record Looks (stopped : Bool) (old new : Option Durable) (may may' : Durable → Type 0) : Type 0 where
  pub told : is_some new ≡ is_some old
  pub same : stopped ≡ false → new ≡ old
  pub left : (x : Durable) → may' x → may x

-- What stands after an opening: one of what it may have found, with the incarnation raised; where it is refused, the
-- next one finds what this one may have found, with the incarnation raised or not.
pub record Finds (result : Result (Unit {0}) ReopenNo) (old new : Option Durable) (may may' : Durable → Type 0) : Type 0 where
  pub told : is_some new ≡ is_some old
  pub found : OnOk result ((d : Durable) → new ≡ Some d → (x : Durable) × may x × (d ≡ reopened x))
  pub left : (x : Durable) → may' x → may x ⊎ ((y : Durable) × may y × (x ≡ reopened y))

-- The result is the one that what is kept asks for, unless it is a refusal that may always come, as Stopped. Where what
-- is kept isn't told, it may be any.
abbrev pub Answers : {T E : Type 0} → (E → Bool) → Result T E → (Durable → Result T E) → Option Durable → Type 0
Answers free result asked kept = (d : Durable) → kept ≡ Some d → says free result ≡ false → result ≡ asked d

-- A prune that is cut has raised the aggregated-to epoch and the floor, and some, all or none of its versions are gone.
abbrev pub CutPrune : ContId → Epoch → ℕ → Durable → Durable → Type 0
CutPrune c upto n d x = (vs : List Version) × Partly d.versions (is_going c upto d.versions d.snaps) vs × (x ≡ with_versions vs (marked c upto n d))

-- A discard that is cut leaves some, all or none of its versions.
abbrev pub CutDiscard : ContId → Epoch → Epoch → Durable → Durable → Type 0
CutDiscard c lo hi d x = (vs : List Version) × Partly d.versions (is_in_range c lo hi) vs × (x ≡ with_versions vs d)

-- how many versions a prune removes
abbrev pub going_count : ContId → Epoch → Durable → ℕ
going_count c upto d = length (filter (is_going c upto d.versions d.snaps) d.versions)
