-- A target hears a Commit: it stores an attempt's writes, and decides.
use Rattle.std.specs.Prelude.{ℕ, ◌≡◌, ◌^◌, ◌/◌, ◌≤◌, ◌<◌, ◌++◌, ◌==◌, Bool, false, bit_or, List, [], ◌∷◌, filter, Option, Some, None, All}
use Rattle.std.specs.List.{list_any}
use Rattle.base_types.specs.declared.entry.Entry.{Entry}
use Rattle.base_types.specs.declared.epoch.Epoch.{Epoch}
use Rattle.base_types.specs.declared.operation.MinorWrite.{MinorWrite}
use Rattle.base_types.specs.declared.outcome.Cause.{Cause}
use Rattle.base_types.specs.declared.outcome.FloorWhy.{FloorWhy}
use Rattle.base_types.specs.declared.outcome.Outcome.{Outcome}
use Rattle.base_types.specs.declared.outcome.Outcome.TheVariants.{Restart, NoSpace, EpochsSpent}
use Rattle.base_types.specs.declared.shown.Shown.{Shown}
use Rattle.base_types.specs.Epochs.{lease_for}
use Rattle.base_types.specs.Operations.{write_path}
use Rattle.base_types.specs.Placement.{path_members, writes_members}
use Rattle.base_messages.specs.declared.actor.ActorId.{ActorId}
use Rattle.base_messages.specs.declared.message.Message.TheVariants.{Ended}
use Rattle.daos_model.specs.declared.durable.Durable.{Durable}
use Rattle.daos_model.specs.Blocks.{blocks}
use Rattle.dtx_base.specs.Leading.{LeaderStep, begun}
use Rattle.vos_stamp.specs.Stamps.{IsShown, NoneAgainst, floor_cause, read_later, write_later}
use Rattle.vos_store.specs.Answers.{floor_of}
use Rattle.world_base.specs.declared.did.Did.{Did}
use Rattle.world_base.specs.declared.request.CommitRequest.{CommitRequest}
use Rattle.world_base.specs.declared.target.TargetMemory.{TargetMemory}
use Rattle.world_base.specs.declared.target.TargetPlan.{TargetPlan}
use Rattle.world_base.specs.Changes.{Change, Extends, Kept, Prepares}
use Rattle.world_base.specs.Reads.{later_of}
use Rattle.world_base.specs.Requests.{issued_for, request_epoch, says, sends, with_ticks}
use Rattle.world_base.specs.Roles.{leader_at, leads_on}

-- ---- what is stored

abbrev pub is_number : ℕ → ℕ → Bool
is_number me t = t == me

-- a write of a group that the target belongs to
abbrev pub is_own : TargetPlan → MinorWrite → Bool
is_own t w = list_any (is_number t.me) (path_members (write_path w.write) t.targets)

abbrev pub own_writes : TargetPlan → List MinorWrite → List MinorWrite
own_writes t ws = filter (is_own t) ws

-- one bit for each of these targets
unfoldable pub bits_of : List ℕ → ℕ
bits_of [] = 0
bits_of (t ∷ ts) = bit_or (2 ^ t) (bits_of ts)

-- the entry of an attempt that this target leads
abbrev pub led_entry : TargetPlan → CommitRequest → Epoch → Entry
led_entry t q e = record {
  attempt = q.attempt;
  epoch = e;
  leader = t.me;
  members = bits_of (writes_members q.writes t.targets);
  confirmed = 0;
  committed = false;
}

-- ---- the checks of writes

abbrev pub or_else : {A : Type 0} → Option A → Option A → Option A
or_else None later = later
or_else (Some x) later = Some x

-- the first write at or below its container's floor
unfoldable pub first_floor : TargetPlan → Epoch × FloorWhy → Epoch → Durable → List MinorWrite → Option Cause
first_floor t opening e d [] = None
first_floor t opening e d (w ∷ ws) = or_else (floor_cause t.me e.0 (floor_of opening d (write_path w.write).cont)) (first_floor t opening e d ws)

-- no read that was served stands against a write
abbrev pub NoReads : Epoch → List Shown → List MinorWrite → Type 0
NoReads e stamps ws = All (λ w. NoneAgainst (write_path w.write) e.0 stamps) ws

-- a later read is shown for the first write that one stands against
pub record FirstRead (e : Epoch) (stamps : List Shown) (ws : List MinorWrite) (r : Shown) : Type 0 where
  pub before : List MinorWrite
  pub w : MinorWrite
  pub after : List MinorWrite
  pub among : ws ≡ before ++ w ∷ after
  pub none_before : NoReads e stamps before
  pub shown : IsShown (write_path w.write) e.0 stamps r

-- a later write is shown for the first write that one refuses
unfoldable pub first_later : TargetPlan → Option Epoch → Epoch → Durable → List MinorWrite → Option Shown
first_later t first e d [] = None
first_later t first e d (w ∷ ws) = or_else (later_of t first e (write_path w.write) d) (first_later t first e d ws)

-- why writes are refused: by a floor, else by a later read, else by a later write; within each by the first write in order
pub data IsRefusedBy (t : TargetPlan) (opening : Epoch × FloorWhy) (first : Option Epoch) (e : Epoch) (d : Durable) (stamps : List Shown) (ws : List MinorWrite) (c : Cause) : Type 0 where
  ByFloor : first_floor t opening e d ws ≡ Some c → IsRefusedBy t opening first e d stamps ws c
  ByRead : first_floor t opening e d ws ≡ None → (r : Shown) → FirstRead e stamps ws r → c ≡ read_later r → IsRefusedBy t opening first e d stamps ws c
  ByWrite : first_floor t opening e d ws ≡ None → NoReads e stamps ws → (w : Shown) → first_later t first e d ws ≡ Some w → c ≡ write_later w
      → IsRefusedBy t opening first e d stamps ws c

-- writes that aren't refused
pub record IsAllowed (t : TargetPlan) (opening : Epoch × FloorWhy) (first : Option Epoch) (e : Epoch) (d : Durable) (stamps : List Shown) (ws : List MinorWrite) : Type 0 where
  pub floors : first_floor t opening e d ws ≡ None
  pub reads : NoReads e stamps ws
  pub writes : first_later t first e d ws ≡ None

-- ---- the turn

-- nothing is done; the lease is to cover the epoch; the writes are checked; or they are stored
pub data CommitStage : Type 0 where
  Asked : CommitStage
  Known : (e : Epoch) → CommitStage
  Checking : (e : Epoch) → CommitStage
  Stored : (e : Epoch) → CommitStage

-- the steps of a Commit, at one reading of the clock; `opening` is the floor that the last opening set
pub data CommitNext (t : TargetPlan) (opening : Epoch × FloorWhy) (m : TargetMemory) (reading : ℕ) (q : CommitRequest) : CommitStage → Kept → Option Change → CommitStage → Type 0 where
  HasEpoch : (k : Kept) (e : Epoch) → request_epoch t m reading q.tracker q.ep ≡ Some e → CommitNext t opening m reading q Asked k None (Known e)
  ExtendsLease : (k : Kept) (e : Epoch) (lease : ℕ) → k.durable.lease < e.0 / 256 → lease_for (e.0 / 256) ≡ Some lease
      → CommitNext t opening m reading q (Known e) k (Some (Extends lease)) (Known e)
  IsCovered : (k : Kept) (e : Epoch) → e.0 / 256 ≤ k.durable.lease → CommitNext t opening m reading q (Known e) k None (Checking e)
  Stores : (k : Kept) (e : Epoch) → IsAllowed t opening q.first e k.durable m.stamps (own_writes t q.writes) → blocks (own_writes t q.writes) ≤ k.free
      → CommitNext t opening m reading q (Checking e) k (Some (Prepares (led_entry t q e) (own_writes t q.writes))) (Stored e)

-- the attempt is ended at its epoch
abbrev pub ends_at : CommitRequest → ActorId → Epoch → Outcome → Did
ends_at q from e how = says from (Ended q.attempt (Some e) how) (issued_for q.attempt q.ep e)

-- the attempt begins, of which the writes are stored, at the leader and with this client waiting
abbrev pub begins_at : TargetPlan → TargetMemory → CommitRequest → ActorId → Epoch → Durable → LeaderStep
begins_at t m q from e d = begun (led_entry t q e) q.first from q.writes (leader_at t m d)

-- What a Commit ends with: no ticks are left; the writes are refused; there is no space for them; or they are stored, and
-- the attempt begins: the other members are asked to prepare, and without others it is decided at once.
pub data CommitEnds (t : TargetPlan) (opening : Epoch × FloorWhy) (m : TargetMemory) (reading : ℕ) (q : CommitRequest) (from : ActorId) : CommitStage → Kept → TargetMemory × Did → Type 0 where
  IsSpent : (k : Kept) (left : TargetMemory × Did) → request_epoch t m reading q.tracker q.ep ≡ None
      → left ≡ (m, says from (Ended q.attempt None EpochsSpent) None) → CommitEnds t opening m reading q from Asked k left
  IsRefused : (k : Kept) (e : Epoch) (c : Cause) (left : TargetMemory × Did) → IsRefusedBy t opening q.first e k.durable m.stamps (own_writes t q.writes) c
      → left ≡ (with_ticks e m, ends_at q from e (Restart c)) → CommitEnds t opening m reading q from (Checking e) k left
  HasNoSpace : (k : Kept) (e : Epoch) (left : TargetMemory × Did) → IsAllowed t opening q.first e k.durable m.stamps (own_writes t q.writes)
      → k.free < blocks (own_writes t q.writes)
      → left ≡ (with_ticks e m, ends_at q from e (NoSpace t.me (blocks (own_writes t q.writes)) k.free)) → CommitEnds t opening m reading q from (Checking e) k left
  HasBegun : (k : Kept) (e : Epoch) (left : TargetMemory × Did)
      → left ≡ (leads_on (begins_at t m q from e k.durable) (with_ticks e m), sends (begins_at t m q from e k.durable).posts (issued_for q.attempt q.ep e))
      → CommitEnds t opening m reading q from (Stored e) k left
