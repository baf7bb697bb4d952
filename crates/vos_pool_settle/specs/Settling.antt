-- What settling an attempt makes of an open pool.
use Rattle.std.specs.Prelude.{◌≡◌, ◌<◌, ℕ, Bool, IsTrue, List, Result, false, filter}
use Rattle.std.specs.Option.{ForSome}
use Rattle.base_outside.specs.Images.{Image}
use Rattle.base_types.specs.declared.entry.Settle.{Settle}
use Rattle.base_types.specs.declared.entry.Settle.TheVariants.{Confirm}
use Rattle.base_types.specs.declared.id.AttemptId.{AttemptId}
use Rattle.daos_model.specs.Changes.{settled}
use Rattle.daos_model.specs.declared.durable.Durable.{Durable}
use Rattle.daos_model.specs.declared.durable.Version.{Version}
use Rattle.daos_model.specs.Versions.{is_pending}
use Rattle.vos_pool_base.specs.Pool.{OpenedState, kept_of}
use Rattle.vos_pool_settle.specs.Changing.{IsTidyChange}
use Rattle.vos_store.specs.declared.refusal.Stopped.{Stopped}

-- where a pool tells its bytes, unless it stopped, this holds of what it keeps
abbrev pub OfItsKept : {R : Type 0} → Bool → (R → ℕ) → (R → Image) → OpenedState R → (Durable → Type 0) → Type 0
OfItsKept tells extent image p P = IsTrue tells → p.blocks.undo.stopped ≡ false → ForSome (kept_of tells extent image p) P

-- some versions have all that an attempt has unsettled
abbrev pub HaveAllOf : AttemptId → List Version → Durable → Type 0
HaveAllOf a us d = filter (is_pending a) us ≡ filter (is_pending a) d.versions

-- The attempt was settled, or nothing was.
abbrev pub IsSettling : {R : Type 0} → Bool → (R → ℕ) → (R → Image) → (R → Image → Type 0) → (R → ℕ) → (R → ℕ) → AttemptId → Settle → OpenedState R → OpenedState R → Result (Unit {0}) Stopped → Type 0
IsSettling tells extent image may_leave count burns a s old new result = IsTidyChange tells extent image may_leave count burns (settled a s) old new result

-- where a step confirms a member, its number is below 64
abbrev pub NamesMember : Settle → Type 0
NamesMember s = (t : ℕ) → s ≡ Confirm t → t < 64
