-- The decided attempts as transactions, and which versions count.
use Rattle.std.specs.Prelude.{Bool, ◌||◌, List, map}
use Rattle.base_types.specs.declared.epoch.Epoch.{Epoch}
use Rattle.base_types.specs.declared.id.AttemptId.{AttemptId}
use Rattle.base_types.specs.declared.script.Script.{Script}
use Rattle.model_laws.specs.Decided.{Decided}
use Rattle.daos_model.specs.declared.durable.Version.{Version}
use Rattle.daos_model.specs.Accesses.{minor_writes}
use Rattle.daos_model.specs.Transactions.{attempt_ops}
use Rattle.world_commit.specs.attempts.History.{History, is_decided}

-- a decided attempt as a transaction
abbrev pub decided_of : Script → AttemptId × Epoch → Decided
decided_of s i = record { epoch = i.1; writes = minor_writes 0 (attempt_ops s i.0) }

-- the transactions that were decided
abbrev pub transactions : Script → History → List Decided
transactions s h = map (decided_of s) h.decided

-- a version counts where it is done, or its attempt is decided
abbrev pub counts_by : History → Version → Bool
counts_by h v = v.done || is_decided h v.by
