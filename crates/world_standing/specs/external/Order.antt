-- When the order of epochs is the order of real time: what a report says of attempts of which one was answered before the other began. Over
-- the lines of a report and its script alone.
use Rattle.std.specs.Prelude.{ℕ, ◌≡◌, ◌≤◌, ◌<◌, ◌+◌, ◌*◌, ◌++◌, ◌⊎◌, true, List, [], ◌∷◌, Contains, Some}
use Rattle.base_types.specs.declared.epoch.Epoch.{Epoch}
use Rattle.base_types.specs.declared.id.AttemptId.{AttemptId}
use Rattle.base_types.specs.declared.operation.MinorWrite.{MinorWrite}
use Rattle.base_types.specs.declared.outcome.Outcome.TheVariants.{Committed}
use Rattle.base_types.specs.declared.path.Path.{Path}
use Rattle.base_types.specs.declared.report.Attempt.{Attempt}
use Rattle.base_types.specs.declared.report.Line.{Line}
use Rattle.base_types.specs.declared.script.Script.{Script}
use Rattle.base_types.specs.Operations.{write_path}
use Rattle.base_types.specs.Paths.{overlaps}
use Rattle.daos_model.specs.Accesses.{access_paths, minor_writes}
use Rattle.daos_model.specs.Attempts.{has_own_epoch, tries}
use Rattle.daos_model.specs.Transactions.{attempt_ops}

-- an attempt is one of the command that another attempt is of
pub record IsOfCommand (y : AttemptId) (a : Attempt) : Type 0 where
  pub client : a.id.client ≡ y.client
  pub command : a.id.command ≡ y.command

-- Attempt x was answered before the command of attempt y began: its line is a line of y's client, or stands before one, that precedes all lines
-- of y's command; so it stands at or before the last such line. For when that line was told, y's client had not begun the command yet.
pub record IsAnsweredBefore (attempts : List Attempt) (x : Attempt) (y : AttemptId) : Type 0 where
  pub before : List Attempt
  pub earlier : Attempt
  pub after : List Attempt
  pub among : attempts ≡ before ++ earlier ∷ after
  pub own : earlier.id.client ≡ y.client
  pub precedes : (a : Attempt) → Contains (before ++ earlier ∷ []) a → IsOfCommand y a → ⊥
  pub told : Contains (before ++ earlier ∷ []) x

-- an attempt has an epoch of its own, so it reads at no snapshot
pub record HasEpoch (s : Script) (attempts : List Attempt) (x : Attempt) (e : Epoch) : Type 0 where
  pub there : Contains attempts x
  pub plain : has_own_epoch s x ≡ true
  pub epoch : x.epoch ≡ Some e

-- The clocks keep the bound: an attempt that was answered before a command began has an epoch that is above the least epoch of the command's
-- attempts by `epsilon` ticks at most; that is to say, above no epoch of them by more. Attempts that read at snapshots don't count.
abbrev pub KeepsTheBound : Script → ℕ → List Line → Type 0
KeepsTheBound s epsilon lines =
    (x y : Attempt) (e f : Epoch) → HasEpoch s (tries lines) x e → HasEpoch s (tries lines) y f → IsAnsweredBefore (tries lines) x y.id → e.0 ≤ f.0 + 256 * epsilon

-- an attempt writes on a path that overlaps one on which the other reads, asks or writes
pub record WritesWhere (s : Script) (x y : Attempt) : Type 0 where
  pub write : MinorWrite
  pub writes : Contains (minor_writes 0 (attempt_ops s x.id)) write
  pub path : Path
  pub accesses : Contains (access_paths (attempt_ops s y.id)) path
  pub over : overlaps (write_path write.write) path ≡ true

-- two attempts conflict where one of them does
abbrev pub Conflict : Script → Attempt → Attempt → Type 0
Conflict s x y = WritesWhere s x y ⊎ WritesWhere s y x

-- two attempts have epochs, of which the first has the smaller one
pub record HasSmallerEpoch (x y : Attempt) : Type 0 where
  pub first : Epoch
  pub second : Epoch
  pub its : x.epoch ≡ Some first
  pub others : y.epoch ≡ Some second
  pub smaller : first.0 < second.0

-- a committed attempt that reads at no snapshot
pub record IsCommitted (s : Script) (attempts : List Attempt) (x : Attempt) : Type 0 where
  pub there : Contains attempts x
  pub committed : x.outcome ≡ Committed
  pub plain : has_own_epoch s x ≡ true

-- External consistency: of two committed attempts that conflict, the one that was answered before the other began has the smaller epoch. Of two
-- that don't conflict nothing is said, so this is less than strict serializability.
abbrev pub AreExternallyConsistent : Script → List Line → Type 0
AreExternallyConsistent s lines =
    (x y : Attempt) → IsCommitted s (tries lines) x → IsCommitted s (tries lines) y → Conflict s x y → IsAnsweredBefore (tries lines) x y.id → HasSmallerEpoch x y
