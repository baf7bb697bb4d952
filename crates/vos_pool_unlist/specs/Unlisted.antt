-- What giving back the lists of entries makes of an open pool.
use Rattle.std.specs.Prelude.{◌≡◌, ℕ, Bool, true, false, Result, Ok, Err}
use Rattle.base_outside.specs.Images.{Image}
use Rattle.base_types.specs.declared.id.AttemptId.{AttemptId}
use Rattle.vos_entries.specs.Entries.{IsUnlistedAt, entries_in, listings}
use Rattle.vos_pool_turns.specs.vos_pool_stage.Staged.{StandsInPool}
use Rattle.vos_pool_turns.specs.vos_pool_stage.vos_pool_base.Pool.{OpenedState}
use Rattle.vos_pool_turns.specs.vos_pool_stage.vos_pool_base.Tidy.{NoneListed}
use Rattle.vos_pool_turns.specs.vos_turns.vos_image.Kept.{Stored}
use Rattle.vos_pool_unlist.specs.declared.refusal.UnlistNo.{UnlistNo}
use Rattle.vos_pool_unlist.specs.declared.refusal.UnlistNo.TheVariants as no
use Rattle.vos_store.specs.declared.refusal.Stopped.{Stopped}

-- This stands in a pool with another list for the entry of an attempt: none.
pub record HasUnlisted {R : Type 0} (extent : R → ℕ) (image : R → Image) (a : AttemptId) (x : Stored) (p : OpenedState R) : Type 0 where
  pub now : Stored
  pub stands : StandsInPool extent image p now
  pub objects : now.0 ≡ x.0
  pub entries : IsUnlistedAt a (listings x.1) (listings now.1)

-- These objects and entries stand in a pool, and no entry lists nodes.
pub record HasNoLists {R : Type 0} (extent : R → ℕ) (image : R → Image) (x : Stored) (p : OpenedState R) : Type 0 where
  pub now : Stored
  pub stands : StandsInPool extent image p now
  pub objects : now.0 ≡ x.0
  pub entries : entries_in now.1 ≡ entries_in x.1
  pub nothing : NoneListed now

-- ---- answers

-- an answer says that the pool has stopped
abbrev pub says_stopped : Result (Unit {0}) UnlistNo → Bool
says_stopped (Ok x) = false
says_stopped (Err no.Stopped) = true
says_stopped (Err no.Memory) = false

-- what is answered for a commit
abbrev pub answered : Result (Unit {0}) Stopped → Result (Unit {0}) UnlistNo
answered (Ok x) = Ok x
answered (Err e) = Err no.Stopped
