-- When an access lies behind an attempt that was answered before its command began.
use Rattle.std.specs.Prelude.{ℕ, ◌≡◌, ◌≤◌, ◌<◌, ◌+◌, ◌*◌, ◌++◌, true, List, [], ◌∷◌, Contains, Option, Some}
use Rattle.base_types.specs.declared.epoch.Epoch.{Epoch}
use Rattle.base_types.specs.declared.id.AttemptId.{AttemptId}
use Rattle.base_types.specs.declared.operation.MinorWrite.{MinorWrite}
use Rattle.base_types.specs.declared.outcome.Outcome.TheVariants.{Committed}
use Rattle.base_types.specs.declared.report.Attempt.{Attempt}
use Rattle.daos_model.specs.declared.cell.Cell.{Cell}
use Rattle.daos_model.specs.Prunes.{touches}
use Rattle.model_laws.specs.Targets.{is_own}
use Rattle.world_causes.specs.world_commit.attempts.Attempts.{writes_of}
use Rattle.world_base.specs.Events.{Rules}

-- attempts, each with an epoch that was issued to it
abbrev pub Issued : Type 0
Issued = List (AttemptId × Epoch)

-- An access of attempt y at epoch f lies behind an epoch e: it isn't smaller; or e lies farther above the epoch with which y's command began
-- than clocks may leave open, be that f itself or one that was issued to an attempt of the command up to y.
pub data IsBehind (epsilon : ℕ) (issued : Issued) (e : Epoch) (y : AttemptId) (f : Epoch) : Type 0 where
  IsLater : e.0 ≤ f.0 → IsBehind epsilon issued e y f
  IsFar : f.0 + 256 * epsilon < e.0 → IsBehind epsilon issued e y f
  IsFarOfFirst : (k : ℕ) (first : Epoch) → k ≤ y.attempt → Contains issued (record y { attempt = k }, first) → first.0 + 256 * epsilon < e.0 → IsBehind epsilon issued e y f

-- the first epoch that goes with a request, if there is one, was issued to an attempt of its command up to this one
abbrev pub FirstIsKnown : Issued → AttemptId → Option Epoch → Type 0
FirstIsKnown issued y first = (g : Epoch) → first ≡ Some g → (k : ℕ) × (k ≤ y.attempt) × Contains issued (record y { attempt = k }, g)

-- the command of y began after x was told: the line of x is one of an earlier command of y's client, or stands before such a line
pub record BeganAfter (attempts : List Attempt) (x : Attempt) (y : AttemptId) : Type 0 where
  pub before : List Attempt
  pub earlier : Attempt
  pub after : List Attempt
  pub among : attempts ≡ before ++ earlier ∷ after
  pub own : earlier.id.client ≡ y.client
  pub past : earlier.id.command < y.command
  pub told : Contains (before ++ earlier ∷ []) x

-- attempt x was told as committed at an epoch before the command of y began
pub record WasAnswered (attempts : List Attempt) (x : Attempt) (e : Epoch) (y : AttemptId) : Type 0 where
  pub there : Contains attempts x
  pub committed : x.outcome ≡ Committed
  pub epoch : x.epoch ≡ Some e
  pub before : BeganAfter attempts x y

-- an attempt writes what a target's own cell holds
pub record WritesAt (r : Rules) (x : AttemptId) (t : ℕ) (m : MinorWrite) : Type 0 where
  pub of_it : Contains (writes_of r x) m
  pub cell : Cell
  pub touched : touches cell m.write ≡ true
  pub own : is_own r.script.targets t cell ≡ true
