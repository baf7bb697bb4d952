-- Why a turn isn't whole, and what then stands.
use Rattle.std.specs.Prelude.{◌≡◌, Bool, true, false, List, [], Option, None, Result, Ok, Err}
use Rattle.base_types.specs.declared.epoch.Epoch.{Epoch}
use Rattle.base_types.specs.declared.id.AttemptId.{AttemptId}
use Rattle.base_types.specs.declared.report.Line.{Line}
use Rattle.daos_model.specs.declared.durable.Durable.{Durable}
use Rattle.vos_store.specs.Calls.{State}
use Rattle.world_contents.specs.world_base.declared.did.Did.{Did}
use Rattle.world_contents.specs.world_base.declared.request.CommitRequest.{CommitRequest}
use Rattle.world_contents.specs.world_base.declared.request.FetchRequest.{FetchRequest}
use Rattle.world_contents.specs.world_base.Changes.{Change, Kept}
use Rattle.world_contents.specs.world_base.Commits as commit
use Rattle.world_contents.specs.world_base.Reads as read
use Rattle.world_contents.specs.world_base.Requests.{issued_for}
use Rattle.world_contents.specs.world_base.Turns.{CutShort}
use Rattle.target_parts.specs.declared.halt.Halt.{Halt}
use Rattle.target_parts.specs.declared.halt.Halt.TheVariants as halt
use Rattle.target_parts.specs.declared.stop.TargetStop.{TargetStop}
use Rattle.target_parts.specs.declared.stop.TargetStop.TheVariants as stop
use Rattle.target_parts.specs.Parts.{Now, Partway, left_by}

-- ---- which stop it is

abbrev pub stop_store : TargetStop → Bool
stop_store (stop.Store issued lines) = true
stop_store (stop.Foreign at byte) = false
stop_store stop.Memory = false

abbrev pub stop_foreign : TargetStop → Bool
stop_foreign (stop.Store issued lines) = false
stop_foreign (stop.Foreign at byte) = true
stop_foreign stop.Memory = false

abbrev pub stop_wanting : TargetStop → Bool
stop_wanting (stop.Store issued lines) = false
stop_wanting (stop.Foreign at byte) = false
stop_wanting stop.Memory = true

abbrev pub stop_memory : TargetStop
stop_memory = stop.Memory

abbrev pub stop_of : Halt → Option (AttemptId × Epoch) → TargetStop
stop_of halt.Stopped issued = stop.Store issued []
stop_of halt.Memory issued = stop.Memory

-- ---- the lines that a turn tells of its own

-- those of what follows from it, or those shown where its store stopped
abbrev pub lines_told : Result Did TargetStop → List Line
lines_told (Ok did) = did.lines
lines_told (Err (stop.Store issued lines)) = lines
lines_told (Err (stop.Foreign at byte)) = []
lines_told (Err stop.Memory) = []

-- it tells none
abbrev pub IsSilent : Result Did TargetStop → Type 0
IsSilent result = lines_told result ≡ []

-- ---- the epoch that a turn issued, once the lease covers it

abbrev pub fetch_issued : FetchRequest → read.FetchStage → Option (AttemptId × Epoch)
fetch_issued q read.Asked = None
fetch_issued q (read.Known e) = None
fetch_issued q (read.Reading e decided) = issued_for q.attempt q.ep e

abbrev pub commit_issued : CommitRequest → commit.CommitStage → Option (AttemptId × Epoch)
commit_issued q commit.Asked = None
commit_issued q (commit.Known e) = None
commit_issued q (commit.Checking e) = issued_for q.attempt q.ep e
commit_issued q (commit.Stored e) = issued_for q.attempt q.ep e

-- ---- a turn

-- a turn that was cut short, the epoch that it issued by the stage that it had come to, and its lines, which are none
pub record CutTelling {S : Type 0} (Next : S → Kept → Option Change → S → Type 0) (issued_at : S → Option (AttemptId × Epoch)) (start : S) (old : Kept) (finds : Kept → Type 0) (issued : Option (AttemptId × Epoch)) (lines : List Line) : Type 0 where
  pub cut : CutShort Next start old finds
  pub issued_is : issued ≡ issued_at cut.last
  pub no_lines : lines ≡ []

-- A turn from a stage on: it came whole to its end; or it was cut short; or memory was wanting on the way.
abbrev pub Turn : {S : Type 0} → (S → Kept → Option Change → S → Type 0) → (S → Option (AttemptId × Epoch)) → S → Kept → (Did → Kept → Type 0) → Option Durable → State → (Durable → Type 0) → Result Did TargetStop → Type 0
Turn Next issued_at start old Done new k finds (Ok did) = Now new k (Done did)
Turn Next issued_at start old Done new k finds (Err (stop.Store issued lines)) = CutTelling Next issued_at start old (left_by k finds) issued lines
Turn Next issued_at start old Done new k finds (Err (stop.Foreign at byte)) = ⊥
Turn Next issued_at start old Done new k finds (Err stop.Memory) = Now new k (Partway Next start old)

-- no epoch is issued
abbrev pub never : {S : Type 0} → S → Option (AttemptId × Epoch)
never s = None
