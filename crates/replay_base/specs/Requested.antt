-- The epoch of a request, as it is told of a turn.
use Rattle.std.specs.Prelude.{ℕ, ◌≡◌, ◌⊎◌, Option, Some, None}
use Rattle.base_types.specs.declared.epoch.Epoch.{Epoch}
use Rattle.base_types.specs.declared.id.AttemptId.{AttemptId}
use Rattle.world_base.specs.declared.did.Did.{Did}
use Rattle.world_base.specs.declared.target.TargetMemory.{TargetMemory}
use Rattle.world_base.specs.Changes.{Kept}

-- it is the request's own; or the request has none, and this one was issued
abbrev pub IsToldEpoch : Option Epoch → Option (AttemptId × Epoch) → Epoch → Type 0
IsToldEpoch ep issued e = (ep ≡ Some e) ⊎ ((ep ≡ None) × ((x : AttemptId) × (issued ≡ Some (x, e))))

-- some reading of the clock leads to this epoch
abbrev pub AsksAt : (ℕ → Option Epoch) → Epoch → Type 0
AsksAt request e = (reading : ℕ) × (request reading ≡ Some e)

-- what is told of a turn tells the epoch of its request, or that there was none
abbrev pub TellsEpoch : Option Epoch → Option (AttemptId × Epoch) → Option Epoch → Type 0
TellsEpoch ep issued None = (ep ≡ None) × (issued ≡ None)
TellsEpoch ep issued (Some e) = IsToldEpoch ep issued e

-- no ticks are left, nothing changes, and this follows
pub record SpentSo (request : ℕ → Option Epoch) (k new : Kept) (spent left : TargetMemory × Did) : Type 0 where
  pub none : (reading : ℕ) × (request reading ≡ None)
  pub kept : new ≡ k
  pub rest : left ≡ spent
