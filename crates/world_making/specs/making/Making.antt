-- Turns in which snapshots are made or containers aggregated: their steps, and what they leave of what a target knows.
use Rattle.std.specs.Prelude.{ℕ, ◌≡◌, ◌≤◌, ◌<◌, ◌/◌, Bool, true, false, List, [], ◌∷◌, map, Option, Some, None}
use Rattle.base_types.specs.Epochs.{heard_ticks, lease_for}
use Rattle.base_types.specs.declared.entry.Settle.TheVariants.{Commit}
use Rattle.base_types.specs.declared.epoch.Epoch.{Epoch}
use Rattle.base_types.specs.declared.id.AttemptId.{AttemptId}
use Rattle.base_types.specs.declared.id.ContId.{ContId}
use Rattle.base_types.specs.declared.key.Key.{Key}
use Rattle.base_types.specs.declared.outcome.FloorWhy.{FloorWhy}
use Rattle.base_types.specs.declared.outcome.Outcome.{Outcome}
use Rattle.base_types.specs.declared.report.Line.{Line}
use Rattle.base_messages.specs.declared.actor.ActorId.{ActorId}
use Rattle.base_messages.specs.declared.message.Message.{Message, more_of-Message}
use Rattle.base_messages.specs.declared.message.Message.TheVariants as message
use Rattle.base_messages.specs.declared.message.Post.{Post}
use Rattle.daos_model.specs.declared.durable.Durable.{Durable}
use Rattle.daos_model.specs.Durables.{is_frozen}
use Rattle.dtx_base.specs.Leading.{to_target}
use Rattle.dtx_base.specs.Members.{with_target}
use Rattle.model_laws.specs.Members.{Has}
use Rattle.world_base.specs.declared.did.Did.{Did}
use Rattle.world_base.specs.declared.target.Collection.{Collection}
use Rattle.world_base.specs.declared.target.TargetMemory.{TargetMemory}
use Rattle.world_base.specs.declared.target.TargetPlan.{TargetPlan}
use Rattle.world_base.specs.Changes.{Change, Creates, Extends, Freezes, Kept, Prunes, Settles}
use Rattle.world_base.specs.CutTurns.{CutTurn, Cutting, HearingIsCut, listed_issue}
use Rattle.world_base.specs.Further.{HearsFurther}
use Rattle.world_base.specs.Requests.{issued_for, request_epoch}
use Rattle.world_base.specs.Snapshots.{collection_of, freeze_cause, freeze_to, is_held_by_all, is_last, is_prune_due, others, prune_limit, prune_to}
use Rattle.world_base.specs.Turns.{Reached}
use Rattle.world_letters.specs.lives.TurnLines.{IsTurnLine}

-- ---- messages

-- a message asks for a snapshot or an aggregation, or tells of one
abbrev pub is_of_snapshots : Message → Bool
is_of_snapshots (message.Snap x cont name tracker) = true
is_of_snapshots (message.Freeze x cont e) = true
is_of_snapshots (message.Held x refusal) = true
is_of_snapshots (message.Prune x cont tracker e) = true
is_of_snapshots m = false

-- or tells that such a one got no answer
abbrev pub tells_of_snapshots : Message → Bool
tells_of_snapshots (message.Reset' by down place (more_of-Message q rest)) = is_of_snapshots q
tells_of_snapshots m = is_of_snapshots m

abbrev pub IsOfMaking : Message → Type 0
IsOfMaking m = tells_of_snapshots m ≡ true

-- what a target is asked: for which attempt, in which container, at which epoch, if it bears one, and after which tracker
pub record MakingRequest : Type 0 where
  pub attempt : AttemptId
  pub cont : ContId
  pub ep : Option Epoch
  pub tracker : Epoch

-- to freeze a snapshot
abbrev pub asks_freeze : Message → Option MakingRequest
asks_freeze (message.Snap x c name tracker) = Some (record { attempt = x; cont = c; ep = None; tracker = tracker })
asks_freeze (message.Freeze x c s) = Some (record { attempt = x; cont = c; ep = Some s; tracker = s })
asks_freeze m = None

-- to prune a container
abbrev pub asks_prune : Message → Option MakingRequest
asks_prune (message.Prune x c (Some tracker) None) = Some (record { attempt = x; cont = c; ep = None; tracker = tracker })
asks_prune (message.Prune x c None (Some g)) = Some (record { attempt = x; cont = c; ep = Some g; tracker = g })
asks_prune m = None

-- either
abbrev pub asks_making : Message → Option MakingRequest
asks_making (message.Prune x c tracker e) = asks_prune (message.Prune x c tracker e)
asks_making m = asks_freeze m

-- an epoch is that of what is asked, and the lease covers it
pub record IsMadeAt (p : TargetPlan) (m : TargetMemory) (reading : ℕ) (d : Durable) (a : MakingRequest) (e : Epoch) : Type 0 where
  pub epoch : request_epoch p m reading a.tracker a.ep ≡ Some e
  pub covered : e.0 / 256 ≤ d.lease

-- ---- the steps of a turn

-- which decided attempts aren't settled yet, and the epoch of what is asked, once the lease covers it
pub record MakingStage : Type 0 where
  pub unsettled : List AttemptId
  pub dated : Option Epoch

abbrev pub making_begins : TargetMemory → MakingStage
making_begins m = record { unsettled = m.leader.decided; dated = None }

-- A snapshot is created that is frozen on the only target, or of which the last of the others says that it is frozen there.
pub data IsCreatedBy (p : TargetPlan) (m : TargetMemory) (reading : ℕ) (from : ActorId) (q : Message) (d : Durable) : ContId → Epoch → Type 0 where
  Alone : (a : MakingRequest) (e : Epoch) → asks_freeze q ≡ Some a → is_held_by_all p 0 ≡ true → IsMadeAt p m reading d a e → is_frozen d a.cont e ≡ true → IsCreatedBy p m reading from q d a.cont e
  ByLast : (x : AttemptId) (c : Collection) (name : Key) → q ≡ message.Held x None → collection_of x m ≡ Some c → c.name ≡ Some name → is_last p from.number c ≡ true
      → IsCreatedBy p m reading from q d c.cont c.epoch

-- The steps of any such turn: the lease is extended until it covers the epoch; for an aggregation what is decided here is settled, in
-- order, and then the container is pruned as far as it may be; a snapshot is frozen where nothing refuses it, and created.
pub data MakingNext (number : ℕ) (p : TargetPlan) (m : TargetMemory) (reading : ℕ) (from : ActorId) (q : Message) : MakingStage → Kept → Option Change → MakingStage → Type 0 where
  Passes : (s : MakingStage) (k : Kept) → MakingNext number p m reading from q s k None s
  ExtendsLease : (s : MakingStage) (k : Kept) (a : MakingRequest) (e : Epoch) (lease : ℕ) → asks_making q ≡ Some a → request_epoch p m reading a.tracker a.ep ≡ Some e
      → k.durable.lease < e.0 / 256 → lease_for (e.0 / 256) ≡ Some lease
      → MakingNext number p m reading from q s k (Some (Extends lease)) s
  IsCovered : (rest : List AttemptId) (k : Kept) (a : MakingRequest) (e : Epoch) → asks_making q ≡ Some a → IsMadeAt p m reading k.durable a e
      → MakingNext number p m reading from q (record { unsettled = rest; dated = None }) k None (record { unsettled = rest; dated = Some e })
  SettlesFirst : (b : AttemptId) (rest : List AttemptId) (k : Kept) (a : MakingRequest) (g : Epoch) → asks_prune q ≡ Some a → IsMadeAt p m reading k.durable a g
      → MakingNext number p m reading from q (record { unsettled = b ∷ rest; dated = Some g }) k (Some (Settles b Commit)) (record { unsettled = rest; dated = Some g })
  PrunesIt : (k : Kept) (a : MakingRequest) (g : Epoch) → asks_prune q ≡ Some a → IsMadeAt p m reading k.durable a g → is_prune_due a.cont g k.durable ≡ true
      → MakingNext number p m reading from q (record { unsettled = []; dated = Some g }) k (Some (Prunes a.cont (prune_limit a.cont g k.durable) number)) (record { unsettled = []; dated = Some g })
  FreezesIt : (rest : List AttemptId) (k : Kept) (a : MakingRequest) (e : Epoch) → asks_freeze q ≡ Some a → IsMadeAt p m reading k.durable a e → freeze_cause p a.cont e k.durable ≡ None
      → is_frozen k.durable a.cont e ≡ false
      → MakingNext number p m reading from q (record { unsettled = rest; dated = Some e }) k (Some (Freezes a.cont e)) (record { unsettled = rest; dated = Some e })
  CreatesIt : (s : MakingStage) (k : Kept) (c : ContId) (e : Epoch) → IsCreatedBy p m reading from q k.durable c e → MakingNext number p m reading from q s k (Some (Creates c e)) s

-- ---- what follows

-- the epoch that was issued, where what is asked bears none
abbrev pub making_issue : Option MakingRequest → Option Epoch → Option (AttemptId × Epoch)
making_issue None o = None
making_issue (Some a) None = None
making_issue (Some a) (Some e) = issued_for a.attempt a.ep e

-- a client asks for it, for this attempt
abbrev pub is_asked_for : AttemptId → Message → Type 0
is_asked_for x (message.Snap y c name tracker) = y ≡ x
is_asked_for x (message.Prune y c (Some tracker) None) = y ≡ x
is_asked_for x m = ⊥

-- a target tells what became of a collection of this attempt: it holds or refuses it, or it is down
abbrev pub is_told_of : AttemptId → Message → Type 0
is_told_of x (message.Held y refusal) = y ≡ x
is_told_of x (message.Reset' by true place (more_of-Message (message.Freeze y c s) rest)) = y ≡ x
is_told_of x (message.Reset' by true place (more_of-Message (message.Prune y c tracker e) rest)) = y ≡ x
is_told_of x m = ⊥

-- what was asked of another target for a snapshot or an aggregation got no answer, and that isn't down
abbrev pub is_lost_at : ℕ → Message → Message → Type 0
is_lost_at by (message.Reset' t false place (more_of-Message (message.Freeze y c s) rest)) asked = (t ≡ by) × (asked ≡ message.Freeze y c s)
is_lost_at by (message.Reset' t false place (more_of-Message (message.Prune y c tracker e) rest)) asked = (t ≡ by) × (asked ≡ message.Prune y c tracker e)
is_lost_at by m asked = ⊥

-- What is sent: the others are asked to freeze a snapshot that is frozen here, or to prune; target 0 is answered; a client is told how its
-- attempt ended; what was lost is asked again; or nothing is, where nothing was asked.
pub data MakingSends (p : TargetPlan) (m : TargetMemory) (from : ActorId) (q : Message) (d : Durable) (posts : List Post) : Type 0 where
  AsksFreezes : (x : AttemptId) (c : ContId) (name : Key) (tracker s : Epoch) → q ≡ message.Snap x c name tracker → is_frozen d c s ≡ true → posts ≡ map (freeze_to x c s) (others p)
      → MakingSends p m from q d posts
  AsksPrunes : (x : AttemptId) (c : ContId) (tracker g : Epoch) → q ≡ message.Prune x c (Some tracker) None → posts ≡ map (prune_to x c g) (others p) → MakingSends p m from q d posts
  SaysFrozen : (x : AttemptId) (c : ContId) (s : Epoch) → q ≡ message.Freeze x c s → is_frozen d c s ≡ true → posts ≡ record { to = from; message = message.Held x None } ∷ [] → MakingSends p m from q d posts
  SaysRefused : (x : AttemptId) (c : ContId) (s : Epoch) (how : Outcome) → q ≡ message.Freeze x c s → freeze_cause p c s d ≡ Some how → posts ≡ record { to = from; message = message.Held x (Some how) } ∷ [] → MakingSends p m from q d posts
  SaysPruned : (x : AttemptId) (c : ContId) (g : Epoch) → q ≡ message.Prune x c None (Some g) → posts ≡ record { to = from; message = message.Held x None } ∷ [] → MakingSends p m from q d posts
  EndsIt : (x : AttemptId) (own : Option Epoch) (how : Outcome) → is_asked_for x q → posts ≡ record { to = from; message = message.Ended x own how } ∷ [] → MakingSends p m from q d posts
  EndsCollected : (x : AttemptId) (c : Collection) (how : Outcome) → is_told_of x q → collection_of x m ≡ Some c → posts ≡ record { to = c.client; message = message.Ended x (Some c.epoch) how } ∷ [] → MakingSends p m from q d posts
  AsksAgain : (by : ℕ) (asked : Message) → is_lost_at by q asked → posts ≡ to_target by asked ∷ [] → MakingSends p m from q d posts
  SaysNothing : asks_making q ≡ None → posts ≡ [] → MakingSends p m from q d posts

-- ---- what such a turn leaves

-- the targets that are known to be down: one more, where one is told to be
abbrev pub down_then : Message → ℕ → ℕ
down_then (message.Reset' by true place more) down = with_target down by
down_then q down = down

abbrev pub ticks_then : Option Epoch → ℕ → ℕ
ticks_then None ticks = ticks
ticks_then (Some e) ticks = heard_ticks ticks e.0

-- What it leaves of what the target knows: of the attempts that it decided those remain that it didn't settle, and a target may be known
-- to be down. All else that it knows as a leader and as a member stays, and so do the reads that it served.
pub record MakingKnows (q : Message) (last : MakingStage) (m n : TargetMemory) : Type 0 where
  pub decided : n.leader.decided ≡ last.unsettled
  pub undecided : n.leader.undecided ≡ m.leader.undecided
  pub named : n.leader.named ≡ m.leader.named
  pub down : n.leader.down ≡ down_then q m.leader.down
  pub member : n.member ≡ m.member
  pub stamps : n.stamps ≡ m.stamps
  pub ticks : n.ticks ≡ ticks_then last.dated m.ticks

-- its end: what is known and issued then, and what follows
pub record MakingEnds (p : TargetPlan) (m : TargetMemory) (from : ActorId) (q : Message) (last : MakingStage) (d : Durable) (left : TargetMemory × Did) : Type 0 where
  pub knows : MakingKnows q last m left.0
  pub issued : left.1.issued ≡ making_issue (asks_making q) last.dated
  pub sends : MakingSends p m from q d left.1.posts

-- the epoch of a stage is that of what is asked
abbrev pub IsStageDated : TargetPlan → TargetMemory → ℕ → Durable → Message → Option Epoch → Type 0
IsStageDated p m reading d q None = Unit {0}
IsStageDated p m reading d q (Some e) = (a : MakingRequest) × (asks_making q ≡ Some a) × IsMadeAt p m reading d a e

-- such steps, and then such an end; its lines are of freezes and aggregations of its own, or of snapshots
pub record MakingLeaves (number : ℕ) (p : TargetPlan) (m : TargetMemory) (reading : ℕ) (from : ActorId) (q : Message) (old new : Kept) (left : TargetMemory × Did) : Type 0 where
  pub last : MakingStage
  pub reached : Reached (MakingNext number p m reading from q) (making_begins m) old last new
  pub dated : IsStageDated p m reading new.durable q last.dated
  pub ends : MakingEnds p m from q last new.durable left
  pub lines : (l : Line) → Has l left.1.lines → IsTurnLine p.me l

-- ---- the statements

-- what is heard of snapshots and aggregation is heard in such a turn
abbrev pub HearingsLeave : Type 0
HearingsLeave =
    (number : ℕ) (p : TargetPlan) (opening : Epoch × FloorWhy) (m : TargetMemory) (reading : ℕ) (from : ActorId) (q : Message) (old new : Kept) (left : TargetMemory × Did)
    → HearsFurther number p opening m reading from q old new left → IsOfMaking q → MakingLeaves number p m reading from q old new left

-- the epochs that count as issued where such a turn was cut
abbrev pub making_issues : Message → MakingStage → List (AttemptId × Epoch)
making_issues q s = listed_issue (making_issue (asks_making q) s.dated)

-- where it was cut, it was cut in such a turn
abbrev pub CutHearingsLeave : Type 0
CutHearingsLeave =
    (is_due : AttemptId → Durable → Bool) (number : ℕ) (p : TargetPlan) (opening : Epoch × FloorWhy) (m : TargetMemory) (reading : ℕ) (from : ActorId) (q : Message) (old : Kept) (cut : Cutting)
    → HearingIsCut is_due number p opening m reading from q old cut → IsOfMaking q → CutTurn (MakingNext number p m reading from q) (making_issues q) p.me (making_begins m) old cut
