-- What a target does that hears a Verdict.
use Rattle.std.specs.Prelude.{ℕ, ◌≡◌, ◌≤◌, ◌+◌, List, true, is_some, Option, Some, None, Result}
use Rattle.base_types.specs.declared.id.AttemptId.{AttemptId}
use Rattle.model_laws.specs.Members.{Has}
use Rattle.base_types.specs.declared.operation.Read.{Read}
use Rattle.base_messages.specs.declared.message.Message.{Message}
use Rattle.base_messages.specs.declared.message.Post.{Post}
use Rattle.dtx_base.specs.declared.member.MemberMemory.{MemberMemory}
use Rattle.daos_model.specs.declared.durable.Durable.{Durable}
use Rattle.vos_store.specs.Calls.{State}
use Rattle.vos_store.specs.declared.refusal.Stopped.{Stopped}
use Rattle.world_base.specs.declared.did.Did.{Did}
use Rattle.world_base.specs.declared.request.FetchRequest.{FetchRequest}
use Rattle.world_base.specs.declared.target.TargetMemory.{TargetMemory}
use Rattle.world_base.specs.declared.target.TargetPlan.{TargetPlan}
use Rattle.base_types.specs.declared.entry.Verdict.{Verdict}
use Rattle.world_base.specs.Changes.{Change}
use Rattle.world_base.specs.Reads.{Asked}
use Rattle.world_base.specs.Roles.{is_prepared}
use Rattle.world_base.specs.Turns.{Whole}
use Rattle.world_base.specs.Verdicts.{VerdictEnds, VerdictNext, VerdictStage, fetcher}
use Rattle.target_parts.specs.declared.stop.TargetStop.{TargetStop}
use Rattle.target_parts.specs.Keeping.{MadeOrCut, StaysUncut}
use Rattle.target_parts.specs.Knowing.{IsAskHere, IsParkable}
use Rattle.target_parts.specs.Parts.{kept}
use Rattle.target_parts.specs.Stops.{Turn, never}
use Rattle.target_reads.specs.Fetches.{FetchTurn}
use Rattle.world_base.specs.Requests.{fetch_message}
use Rattle.world_ended.specs.world_letters.kinds.Loads.{load, parked_load, post_load, total}

-- these Fetches may have waited
abbrev pub AreParkable : List Message → Type 0
AreParkable asks = (m : Message) → Has m asks → IsParkable m

-- what they read is here
abbrev pub AreHere : List Message → Durable → Type 0
AreHere asks d = (m : Message) → Has m asks → IsAskHere m d

-- a Fetch that waited is heard again: the turn of what it asks for, at the epoch that it has
pub record TriedTurn (t : TargetPlan) (m : TargetMemory) (reading : ℕ) (ask : Message) (d : Durable) (h : State) (new : Option Durable) (k : State) (finds : Durable → Type 0) (left : TargetMemory) (result : Result Did TargetStop) : Type 0 where
  pub q : FetchRequest
  pub asks : fetch_message q ≡ ask
  pub known : is_some q.ep ≡ true
  pub turn : FetchTurn t m reading q (fetcher q) Asked d h new k finds left result

-- a change is made or cut, or there is none
abbrev pub MadeSome : Option Change → Durable → State → Option Durable → State → (Durable → Type 0) → Result (Unit {0}) Stopped → Type 0
MadeSome None d h new k finds result = StaysUncut d h new k result
MadeSome (Some c) d h new k finds result = MadeOrCut c d h new k finds result

-- a Verdict's turn from a stage on
abbrev pub VerdictTurn : TargetPlan → TargetMemory → ℕ → AttemptId → Option AttemptId → Verdict → VerdictStage → Durable → State → Option Durable → State → (Durable → Type 0) → TargetMemory → Result Did TargetStop → Type 0
VerdictTurn t m reading a ask v start d h new k finds left result =
    Turn (VerdictNext is_prepared t m reading a ask v) never start (kept d h) (λ did l. Whole (VerdictNext is_prepared t m reading a ask v) VerdictEnds start (kept d h) l (left, did)) new k finds result

-- Fetches that waited are tried again, once other messages are posted: what waits on and what is posted then carries no more of any read than
-- all of these.
abbrev pub TriesOnce : List Message → List Post → MemberMemory → MemberMemory → List Post → Type 0
TriesOnce asks first before after posts =
    (x : AttemptId) (r : Read) → total (post_load x r) posts + total (parked_load x r) after.parked ≤ total (parked_load x r) before.parked + total (load x r) asks + total (post_load x r) first
