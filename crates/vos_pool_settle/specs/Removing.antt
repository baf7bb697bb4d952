-- What removing a version makes of an open pool.
use Rattle.std.specs.Prelude.{◌&&◌, ℕ, Bool, Result, filter, not}
use Rattle.base_outside.specs.Images.{Image}
use Rattle.base_types.specs.Operations.{write_path}
use Rattle.daos_model.specs.Changes.{with_versions}
use Rattle.daos_model.specs.declared.durable.Durable.{Durable}
use Rattle.daos_model.specs.declared.durable.Version.{Version}
use Rattle.vos_pool_base.specs.Pool.{OpenedState}
use Rattle.vos_pool_settle.specs.Changing.{IsTidyChange}
use Rattle.vos_pool_turns.specs.vos_settle.Names.{kind_of}
use Rattle.vos_pool_turns.specs.vos_settle.Versions.{is_version_of}
use Rattle.vos_store.specs.declared.refusal.Stopped.{Stopped}

-- a version that is done, of the name of one that is done
abbrev pub goes_with : Version → Version → Bool
goes_with u w = u.done && (is_version_of (write_path u.write) (kind_of u.write) (record { epoch = u.epoch; minor = u.minor }) w && w.done)

-- those of that name that are done are gone
abbrev pub without_version : Version → Durable → Durable
without_version u d = with_versions (filter (λ v. not (goes_with u v)) d.versions) d

-- The version went, or nothing did.
abbrev pub IsRemoval : {R : Type 0} → Bool → (R → ℕ) → (R → Image) → (R → Image → Type 0) → (R → ℕ) → (R → ℕ) → Version → OpenedState R → OpenedState R → Result (Unit {0}) Stopped → Type 0
IsRemoval tells extent image may_leave count burns u old new result = IsTidyChange tells extent image may_leave count burns (without_version u) old new result
