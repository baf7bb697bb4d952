-- What else is known of a run and of the requests in it, on which the facts of causes rest.
use Rattle.std.specs.Prelude.{ℕ, ◌≡◌, ◌≤◌, ◌<◌, ◌/◌, Any, false, List, Contains, Option, Some, None}
use Rattle.base_types.specs.declared.epoch.Epoch.{Epoch}
use Rattle.base_types.specs.declared.id.AttemptId.{AttemptId}
use Rattle.base_types.specs.declared.report.Line.{Line}
use Rattle.base_types.specs.declared.shown.Shown.{Shown}
use Rattle.base_types.specs.Operations.{write_path}
use Rattle.model_laws.specs.Members.{Has}
use Rattle.base_messages.specs.declared.message.Message.{Message}
use Rattle.base_messages.specs.declared.message.Message.TheVariants as message
use Rattle.base_messages.specs.declared.message.Reply.{Reply}
use Rattle.base_messages.specs.declared.message.Reply.TheVariants as reply
use Rattle.daos_model.specs.declared.durable.Version.{Version}
use Rattle.daos_model.specs.Accesses.{minor_writes}
use Rattle.daos_model.specs.Attempts.{is_restart}
use Rattle.daos_model.specs.CausesShown.{AsksAt}
use Rattle.daos_model.specs.Opening.{Opening, top}
use Rattle.daos_model.specs.Transactions.{attempt_ops}
use Rattle.daos_model.specs.Versions.{version_path}
use Rattle.world_base.specs.Events.{Rules}
use Rattle.world_causes.specs.causes.Causes.{Dated}
use Rattle.world_causes.specs.causes.Shown.{IsFirstOf, limit_over}

-- ---- first epochs

abbrev pub IsNoRestart : Reply → Type 0
IsNoRestart (reply.Answer b) = Unit {0}
IsNoRestart (reply.Outcome how) = is_restart how ≡ false

-- a request bears a first epoch of which this is so, also one between targets
abbrev pub RequestKnows : (AttemptId → Option Epoch → Type 0) → Message → Type 0
RequestKnows Knows (message.Fetch x op group ep first tracker r snapshot) = Knows x first
RequestKnows Knows (message.Commit x ep first tracker ws) = Knows x first
RequestKnows Knows (message.Prepare e first ws inc) = Knows e.attempt first
RequestKnows Knows m = Unit {0}

-- so does each request; and an answer without an epoch tells of no restart
abbrev pub MessageBears : (AttemptId → Option Epoch → Type 0) → Message → Type 0
MessageBears Knows (message.Fetch x op group ep first tracker r snapshot) = Knows x first
MessageBears Knows (message.Commit x ep first tracker ws) = Knows x first
MessageBears Knows (message.Prepare e first ws inc) = Knows e.attempt first
MessageBears Knows (message.Fetched x op group None b) = IsNoRestart b
MessageBears Knows (message.Ended x None how) = is_restart how ≡ false
MessageBears Knows m = Unit {0}

-- ---- versions

-- versions above the opening are writes of attempts to which their epochs were issued
abbrev pub AreWritten : Rules → Dated → ℕ → List Version → Type 0
AreWritten r issued top vs =
    (v : Version) → Has v vs → top < v.epoch.0 → Contains issued (v.by, v.epoch) × Any (λ w. write_path w.write ≡ version_path v) (minor_writes 0 (attempt_ops r.script v.by))

-- ---- a turn

-- what a target knows of a request's epochs
pub record IsRequest (o : Opening) (issued : Dated) (lines : List Line) (x : AttemptId) (ep first : Option Epoch) (tracker : Epoch) : Type 0 where
  pub tracked : tracker.0 / 256 ≤ limit_over o lines issued
  pub own : (e : Epoch) → ep ≡ Some e → Contains issued (x, e) × (top o < e.0) × (e.0 / 256 ≤ limit_over o lines issued)
  pub fresh : ep ≡ None → ((e : Epoch) → Contains issued (x, e) → ⊥) × (top o ≤ tracker.0)
  pub known : IsFirstOf issued lines x first

-- each timestamp is of an attempt with that epoch, which asks there
abbrev pub AreOfReads : Rules → Dated → List Shown → Type 0
AreOfReads r issued stamps = (z : Shown) → Contains stamps z → Contains issued (z.by, z.epoch) × Any (AsksAt z.path) (attempt_ops r.script z.by)
