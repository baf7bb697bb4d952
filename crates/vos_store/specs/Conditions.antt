-- What the calls of a store ask of what it keeps.
use Rattle.std.specs.Prelude.{◌≡◌, ◌≢◌, ◌/◌, ◌^◌, ◌<◌, ◌≤◌, true, false, All, length, List, Some, None}
use Rattle.std.specs.Int.{IsBitSet}
use Rattle.base_types.specs.declared.entry.Entry.{Entry}
use Rattle.base_types.specs.declared.entry.Settle.{Settle}
use Rattle.base_types.specs.declared.entry.Settle.TheVariants.{Commit, Abort, Confirm, Forget}
use Rattle.base_types.specs.declared.epoch.Epoch.{Epoch}
use Rattle.base_types.specs.declared.id.AttemptId.{AttemptId}
use Rattle.base_types.specs.declared.id.ContId.{ContId}
use Rattle.base_types.specs.declared.operation.MinorWrite.{MinorWrite}
use Rattle.base_types.specs.Operations.{write_path}
use Rattle.daos_model.specs.declared.durable.Durable.{Durable}
use Rattle.daos_model.specs.Durables.{entry_of, is_enlisted, version_key}
use Rattle.daos_model.specs.Forms.{AreWritesInForm}
use Rattle.daos_model.specs.Versions.{version_of, version_path}
use Rattle.vos_store.specs.Answers.{floor_of}
use Rattle.vos_store.specs.Calls.{State}

-- the ticks of an epoch are covered by the lease
abbrev pub IsLeased : Epoch → Durable → Type 0
IsLeased e d = e.0 / 256 ≤ d.lease

-- a write's container is known, the epoch is above its floor, and no version of this place in the order is here: none of
-- its object has this epoch and this number
pub record CanWrite (s : State) (e : Entry) (d : Durable) (w : MinorWrite) : Type 0 where
  pub enlisted : is_enlisted d (write_path w.write).cont ≡ true
  pub above : (floor_of s.opening d (write_path w.write).cont).0.0 < e.epoch.0
  pub new : All (λ v. version_key v ≢ version_key (version_of e w)) d.versions

-- an entry and its writes may be asked to be prepared, whatever is kept: 1 to 64 writes in form with rising numbers, of an entry
-- that isn't committed and that no member confirmed, whose leader and members are targets that the store was made for
pub record IsPreparable (s : State) (e : Entry) (ws : List MinorWrite) : Type 0 where
  pub undecided : e.committed ≡ false
  pub unconfirmed : e.confirmed ≡ 0
  pub leader : e.leader < s.targets
  pub members : e.members < 2 ^ s.targets
  pub some : 0 < length ws
  pub form : AreWritesInForm ws

-- and here they may be prepared: the attempt has no entry, each write may be made, and the lease covers the epoch
pub record CanPrepare (s : State) (e : Entry) (ws : List MinorWrite) (d : Durable) : Type 0 where
  pub absent : entry_of d e.attempt ≡ None
  pub each : All (CanWrite s e d) ws
  pub leased : IsLeased e.epoch d

-- a step that may be asked for, whatever is kept
abbrev pub IsStep : Settle → Type 0
IsStep Commit = Unit {0}
IsStep Abort = Unit {0}
IsStep (Confirm t) = t < 64
IsStep Forget = Unit {0}

-- a step fits an entry: a prepared one is committed or aborted; a committed one is confirmed by a member or forgotten
abbrev pub StepFits : Settle → Entry → Type 0
StepFits Commit e = e.committed ≡ false
StepFits Abort e = e.committed ≡ false
StepFits (Confirm t) e = (e.committed ≡ true) × IsBitSet e.members t
StepFits Forget e = e.committed ≡ true

pub record CanSettle (a : AttemptId) (step : Settle) (d : Durable) : Type 0 where
  pub entry : Entry
  pub here : entry_of d a ≡ Some entry
  pub fits : StepFits step entry

pub record CanFreeze (c : ContId) (s : Epoch) (d : Durable) : Type 0 where
  pub enlisted : is_enlisted d c ≡ true
  pub leased : IsLeased s d

-- no version of the container at or below the epoch is unsettled
pub record CanPrune (c : ContId) (upto : Epoch) (d : Durable) : Type 0 where
  pub enlisted : is_enlisted d c ≡ true
  pub settled : All (λ v. (version_path v).cont ≡ c → v.epoch.0 ≤ upto.0 → v.done ≡ true) d.versions
  pub leased : IsLeased upto d
