-- A target hears a Fetch: it answers a read of a group's part of a path.
use Rattle.std.specs.Prelude.{ℕ, ◌≡◌, ◌+◌, ◌*◌, ◌/◌, ◌≤◌, ◌<◌, ◌++◌, Bool, true, false, List, [], ◌∷◌, filter, Option, Some, None, Ok, Err, Contains, if◌then◌else◌}
use Rattle.base_types.specs.declared.answer.Answer.{Answer}
use Rattle.base_types.specs.declared.entry.Settle.TheVariants.{Commit}
use Rattle.base_types.specs.declared.epoch.Epoch.{Epoch}
use Rattle.base_types.specs.declared.id.AttemptId.{AttemptId}
use Rattle.base_types.specs.declared.outcome.Cause.{Cause}
use Rattle.base_types.specs.declared.outcome.Cause.TheVariants as cause
use Rattle.base_types.specs.declared.outcome.Outcome.TheVariants as outcome
use Rattle.base_types.specs.declared.path.Path.{Path}
use Rattle.base_types.specs.declared.shown.Shown.{Shown}
use Rattle.base_types.specs.Epochs.{lease_for}
use Rattle.base_types.specs.Operations.{read_path}
use Rattle.base_messages.specs.declared.actor.ActorId.{ActorId}
use Rattle.base_messages.specs.declared.message.Message.{Message}
use Rattle.base_messages.specs.declared.message.Message.TheVariants.{Fetch, Fetched}
use Rattle.base_messages.specs.declared.message.Reply.{Reply}
use Rattle.base_messages.specs.declared.message.Reply.TheVariants as reply
use Rattle.daos_model.specs.declared.durable.ContRow.{ContRow}
use Rattle.daos_model.specs.declared.durable.Durable.{Durable}
use Rattle.daos_model.specs.Durables.{row_of}
use Rattle.dtx_base.specs.Joining.{parking, query_for}
use Rattle.vos_stamp.specs.Stamps.{read_cause}
use Rattle.vos_store.specs.Answers.{fetched, is_past, later_write}
use Rattle.vos_store.specs.declared.refusal.FetchNo.TheVariants.{Unsettled}
use Rattle.world_base.specs.declared.did.Did.{Did}
use Rattle.world_base.specs.declared.request.FetchRequest.{FetchRequest}
use Rattle.world_base.specs.declared.target.TargetMemory.{TargetMemory}
use Rattle.world_base.specs.declared.target.TargetPlan.{TargetPlan}
use Rattle.world_base.specs.Changes.{Change, Extends, Kept, Settles}
use Rattle.world_base.specs.Requests.{is_other_attempt, issued_for, request_epoch, says, sends, with_ticks}
use Rattle.world_base.specs.Roles.{joins_on, member_at, other_leader, with_unsettled}

-- ---- the checks of a read

-- an epoch that lies at or below the aggregated-to epoch and isn't frozen is refused by that
abbrev pub aggregated_unless : Bool → ContRow → Option (Epoch × ℕ)
aggregated_unless false r = None
aggregated_unless true r = Some (r.aggregated, r.number)

abbrev pub aggregated_above : Path → Epoch → Durable → Option (Epoch × ℕ)
aggregated_above p e d = aggregated_unless (is_past p.cont e d) (row_of d p.cont)

-- up to which epoch a later write refuses an access, since the clocks leave open which was first
abbrev pub uncertain_from : Option Epoch → Epoch → ℕ
uncertain_from None e = e.0
uncertain_from (Some first) e = first.0

abbrev pub uncertain_to : TargetPlan → Option Epoch → Epoch → Epoch
uncertain_to t first e = record { 0 = uncertain_from first e + 256 * t.epsilon }

-- a later write that refuses an access on a path
abbrev pub later_of : TargetPlan → Option Epoch → Epoch → Path → Durable → Option Shown
later_of t first e p d = later_write p e (uncertain_to t first e) d

abbrev pub later_unless : Bool → Option Shown → Option Shown
later_unless true later = None
later_unless false later = later

-- why a read is refused, if it is: by the aggregated-to epoch; else, unless it reads at a snapshot, by a later write
abbrev pub fetch_cause : TargetPlan → FetchRequest → Epoch → Durable → Option Cause
fetch_cause t q e d = read_cause t.me e.0 (aggregated_above (read_path q.read) e d) (later_unless q.snapshot (later_of t q.first e (read_path q.read) d))

-- ---- the turn

-- nothing is done; the lease is to cover the epoch; or the read is made at the epoch, while these decided attempts aren't
-- settled
pub data FetchStage : Type 0 where
  Asked : FetchStage
  Known : (e : Epoch) → FetchStage
  Reading : (e : Epoch) (decided : List AttemptId) → FetchStage

-- the steps of a Fetch, at one reading of the clock
pub data FetchNext (t : TargetPlan) (m : TargetMemory) (reading : ℕ) (q : FetchRequest) : FetchStage → Kept → Option Change → FetchStage → Type 0 where
  AtSnapshot : (k : Kept) (e : Epoch) → q.snapshot ≡ true → q.ep ≡ Some e → FetchNext t m reading q Asked k None (Reading e m.leader.decided)
  HasEpoch : (k : Kept) (e : Epoch) → q.snapshot ≡ false → request_epoch t m reading q.tracker q.ep ≡ Some e → FetchNext t m reading q Asked k None (Known e)
  ExtendsLease : (k : Kept) (e : Epoch) (lease : ℕ) → k.durable.lease < e.0 / 256 → lease_for (e.0 / 256) ≡ Some lease
      → FetchNext t m reading q (Known e) k (Some (Extends lease)) (Known e)
  IsCovered : (k : Kept) (e : Epoch) → e.0 / 256 ≤ k.durable.lease → FetchNext t m reading q (Known e) k None (Reading e m.leader.decided)
  SettlesOwn : (k : Kept) (e : Epoch) (decided : List AttemptId) (a : AttemptId) → fetch_cause t q e k.durable ≡ None
      → fetched q.read e k.durable ≡ Err (Unsettled a) → Contains decided a
      → FetchNext t m reading q (Reading e decided) k (Some (Settles a Commit)) (Reading e (filter (is_other_attempt a) decided))

abbrev pub fetched_message : FetchRequest → Option Epoch → Reply → Message
fetched_message q e r = Fetched q.attempt q.op q.group e r

-- the read is raised among the timestamps, unless it reads at a snapshot
abbrev pub stamps_with : FetchRequest → Epoch → List Shown → List Shown
stamps_with q e stamps = if q.snapshot then stamps else stamps ++ record { by = q.attempt; epoch = e; path = read_path q.read } ∷ []

abbrev pub ticks_known : FetchRequest → Epoch → TargetMemory → TargetMemory
ticks_known q e m = if q.snapshot then m else with_ticks e m

-- what a target knows after a Fetch at an epoch, of which these decided attempts aren't settled
abbrev pub memory_then : FetchRequest → Epoch → List AttemptId → TargetMemory → TargetMemory
memory_then q e decided m = with_unsettled decided (ticks_known q e m)

abbrev pub tells : FetchRequest → ActorId → Epoch → Reply → Did
tells q from e r = says from (fetched_message q (Some e) r) (issued_for q.attempt q.ep e)

-- a Fetch that is to be tried again, at its epoch
abbrev pub fetch_at : FetchRequest → Epoch → Message
fetch_at q e = Fetch q.attempt q.op q.group (Some e) q.first q.tracker q.read q.snapshot

-- what a target knows after it parked a Fetch on an attempt, and what it asks that attempt's leader
abbrev pub memory_parked : TargetPlan → FetchRequest → Epoch → List AttemptId → AttemptId → ℕ → TargetMemory → TargetMemory
memory_parked t q e decided a leader m = joins_on (parking (fetch_at q e) a leader (member_at t m)) (memory_then q e decided m)

abbrev pub asks_leader : FetchRequest → Epoch → AttemptId → ℕ → Did
asks_leader q e a leader = sends (query_for (fetch_at q e) a leader) (issued_for q.attempt q.ep e)

-- What a Fetch ends with: no ticks are left; the read is refused; it meets an attempt that this target leads and hasn't decided;
-- it meets one that another target leads, and is parked while that one is asked; or it is served.
pub data FetchEnds (t : TargetPlan) (m : TargetMemory) (reading : ℕ) (q : FetchRequest) (from : ActorId) : FetchStage → Kept → TargetMemory × Did → Type 0 where
  IsSpent : (k : Kept) (left : TargetMemory × Did) → q.snapshot ≡ false → request_epoch t m reading q.tracker q.ep ≡ None
      → left ≡ (m, says from (fetched_message q None (reply.Outcome outcome.EpochsSpent)) None) → FetchEnds t m reading q from Asked k left
  IsRefused : (k : Kept) (e : Epoch) (decided : List AttemptId) (c : Cause) (left : TargetMemory × Did) → fetch_cause t q e k.durable ≡ Some c
      → left ≡ (memory_then q e decided m, tells q from e (reply.Outcome (outcome.Restart c))) → FetchEnds t m reading q from (Reading e decided) k left
  MeetsUnresolved : (k : Kept) (e : Epoch) (decided : List AttemptId) (a : AttemptId) (left : TargetMemory × Did) → fetch_cause t q e k.durable ≡ None
      → fetched q.read e k.durable ≡ Err (Unsettled a) → (Contains decided a → ⊥) → other_leader t a k.durable ≡ None
      → left ≡ (memory_then q e decided m, tells q from e (reply.Outcome (outcome.Restart (cause.Unresolved a)))) → FetchEnds t m reading q from (Reading e decided) k left
  IsParked : (k : Kept) (e : Epoch) (decided : List AttemptId) (a : AttemptId) (leader : ℕ) (left : TargetMemory × Did) → fetch_cause t q e k.durable ≡ None
      → fetched q.read e k.durable ≡ Err (Unsettled a) → other_leader t a k.durable ≡ Some leader
      → left ≡ (memory_parked t q e decided a leader m, asks_leader q e a leader) → FetchEnds t m reading q from (Reading e decided) k left
  IsServed : (k : Kept) (e : Epoch) (decided : List AttemptId) (b : Answer) (left : TargetMemory × Did) → fetch_cause t q e k.durable ≡ None
      → fetched q.read e k.durable ≡ Ok b
      → left ≡ (record (memory_then q e decided m) { stamps = stamps_with q e m.stamps }, tells q from e (reply.Answer b)) → FetchEnds t m reading q from (Reading e decided) k left
