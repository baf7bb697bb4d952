-- What the outcomes of attempts show, at each moment of a run.
use Rattle.std.specs.Prelude.{ℕ, ◌≡◌, ◌≤◌, ◌<◌, ◌+◌, ◌^◌, ◌==◌, Bool, true, false, max, Any, List, [], ◌∷◌, filter, length, map, Contains, slice_get, is_none, Some}
use Rattle.base_types.specs.declared.entry.Entry.{Entry}
use Rattle.base_types.specs.declared.entry.Verdict.TheVariants as verdict
use Rattle.base_types.specs.declared.epoch.Epoch.{Epoch}
use Rattle.base_types.specs.declared.id.AttemptId.{AttemptId}
use Rattle.base_types.specs.declared.id.ContId.{ContId}
use Rattle.base_types.specs.declared.path.Path.{Path}
use Rattle.base_types.specs.declared.report.Line.{Line}
use Rattle.base_types.specs.declared.report.Line.TheVariants as line
use Rattle.base_types.specs.declared.script.Script.{Script}
use Rattle.base_types.specs.Operations.{write_path}
use Rattle.base_types.specs.Paths.{near, overlaps}
use Rattle.base_messages.specs.declared.message.Message.{Message}
use Rattle.base_messages.specs.declared.message.Message.TheVariants as message
use Rattle.daos_model.specs.Accesses.{access_paths, minor_writes}
use Rattle.daos_model.specs.declared.durable.Durable.{Durable}
use Rattle.daos_model.specs.CausesShown.{AsksAt, WasAnswered, WritesNear, blocks_at}
use Rattle.daos_model.specs.Durables.{entry_of, row_of}
use Rattle.daos_model.specs.Opening.{Opening, top}
use Rattle.daos_model.specs.Order.{told_by}
use Rattle.daos_model.specs.Transactions.{attempt_ops}
use Rattle.vos_store.specs.Answers.{floor_of}
use Rattle.world_base.specs.declared.target.TargetState.{TargetState}
use Rattle.world_base.specs.declared.world.World.{World}
use Rattle.world_base.specs.ClientTurns.{told_by_message}
use Rattle.world_base.specs.Events.{Rules}
use Rattle.world_base.specs.Letters.{client}

-- attempts with the epochs that were issued to them
abbrev pub Dated : Type 0
Dated = List (AttemptId × Epoch)

-- ---- what is counted

-- no ticks pass this: those of the opening, or the clock's last reading, and one for each epoch that was issued
abbrev pub limit : Opening → Dated → ℕ
limit o issued = max (2 ^ 55) o.lease + length issued

-- targets, each with an attempt that was stored there
abbrev pub Stored : Type 0
Stored = List (ℕ × AttemptId)

abbrev pub blocks_if : Bool → ℕ → ℕ
blocks_if true n = n
blocks_if false n = 0

-- the blocks at a target of the attempts that were stored there
abbrev pub blocks_of_stored : Script → ℕ → Stored → ℕ
blocks_of_stored s t [] = 0
blocks_of_stored s t (i ∷ more) = blocks_if (i.0 == t) (blocks_at s t i.1) + blocks_of_stored s t more

-- ---- what an outcome shows

-- a later read: one of an attempt with a later epoch, which asks at a path near a write
pub record ShowsRead (r : Rules) (issued : Dated) (x : AttemptId) (by : AttemptId) (epoch : Epoch) (path : Path) : Type 0 where
  pub own : Epoch
  pub its : Contains issued (x, own)
  pub later : own.0 < epoch.0
  pub reader : Contains issued (by, epoch)
  pub asks : Any (AsksAt path) (attempt_ops r.script by)
  pub near : WritesNear (attempt_ops r.script x) path

-- too few blocks for an attempt's writes: all but those that are left went to attempts that were stored there
pub record ShowsLack (r : Rules) (o : Opening) (stored : Stored) (issued : Dated) (x : AttemptId) (t : ℕ) (need : ℕ) (free : ℕ) : Type 0 where
  pub own : Epoch
  pub its : Contains issued (x, own)
  pub wanting : free < need
  pub need_is : need ≡ blocks_at r.script t x
  pub accounted : o.free t ≤ free + blocks_of_stored r.script t stored

-- another attempt in the way: one with an epoch below this one's, and a write that overlaps an access of it
pub record MeetsOther (r : Rules) (issued : Dated) (x : AttemptId) (by : AttemptId) : Type 0 where
  pub own : Epoch
  pub its : Contains issued (x, own)
  pub other : Epoch
  pub others : Contains issued (by, other)
  pub below : other.0 < own.0
  pub overlap : Any (λ w. Any (λ p. overlaps p (write_path w.write) ≡ true) (access_paths (attempt_ops r.script x))) (minor_writes 0 (attempt_ops r.script by))

-- an attempt wasn't answered before another one began: among these lines up to the last one of that one's client it has none
abbrev pub IsUnanswered : List Line → AttemptId → AttemptId → Type 0
IsUnanswered lines x by = WasAnswered by x.client lines → ⊥

-- a leader's answer that an attempt isn't decided, to another one that met it
abbrev pub IsUndecidedFor : Message → AttemptId → AttemptId → Type 0
IsUndecidedFor (message.Verdict a (Some x) inc verdict.Undecided) y by = (x ≡ y) × (a ≡ by)
IsUndecidedFor m y by = ⊥

-- the attempt for which a leader is asked, or answers
abbrev pub IsAskedFor : Message → AttemptId → Type 0
IsAskedFor (message.Query a (Some x)) y = x ≡ y
IsAskedFor (message.Verdict a (Some x) inc v) y = x ≡ y
IsAskedFor m y = ⊥

-- a message that tells what a read of an attempt, or the attempt, came to
abbrev pub EndsOf : Message → AttemptId → Type 0
EndsOf (message.Fetched x op group e b) y = x ≡ y
EndsOf (message.Ended x e how) y = x ≡ y
EndsOf m y = ⊥

-- ---- what holds of a world

-- the epochs that a message tells, or that a refusal tells which is to be told
abbrev pub epochs_told : Message → List ℕ
epochs_told (message.Ack x inc (Some how)) = told_by how
epochs_told m = told_by_message m

-- floors, and epochs that were aggregated to, are of before the run
abbrev pub LowFloors : Opening → World → Type 0
LowFloors o w =
    (t : ℕ) (s : TargetState) (cont : ContId) → slice_get w.targets t ≡ Some s
    → ((floor_of s.opening s.durable cont).0.0 ≤ top o) × ((row_of s.durable cont).aggregated.0 ≤ top o)

-- what a target's blocks went to
abbrev pub Space : Rules → Opening → Stored → World → Type 0
Space r o stored w = (t : ℕ) (s : TargetState) → slice_get w.targets t ≡ Some s → o.free t ≤ s.free + blocks_of_stored r.script t stored

-- a line tells of an attempt
abbrev pub is_try : Line → Bool
is_try (line.Try a) = true
is_try (line.Stop number target) = false
is_try (line.Restart number target incarnation floor) = false
is_try (line.Freeze target cont epoch) = false
is_try (line.Snapshot name cont epoch) = false
is_try (line.Aggregate number target cont upto) = false
is_try (line.Down target) = false

-- ---- what is stored

-- an entry of an attempt that had none
abbrev pub is_new_to : Durable → Entry → Bool
is_new_to old e = is_none (entry_of old e.attempt)

abbrev pub stored_as : ℕ → Entry → ℕ × AttemptId
stored_as t e = (t, e.attempt)

-- the attempts that a target has entries of now, and had none
abbrev pub stored_by : ℕ → Durable → Durable → Stored
stored_by t old new = map (stored_as t) (filter (is_new_to old) new.entries)
