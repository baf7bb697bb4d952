-- Target 0 makes a snapshot or aggregates a container, and the other targets with it.
use Rattle.std.specs.Prelude.{ℕ, ◌≡◌, ◌≤◌, ◌<◌, ◌/◌, ◌-◌, ◌+◌, ◌^◌, min, nat_lt, Bool, true, false, not, ◌&&◌, ◌==◌, List, [], ◌∷◌, ◌++◌, map, filter, find, Option, Some, None, Result, Ok, Err, if◌then◌else◌}
use Rattle.std.specs.List.{list_all}
use Rattle.base_types.specs.Epochs.{lease_for}
use Rattle.base_types.specs.declared.epoch.Epoch.{Epoch}
use Rattle.base_types.specs.declared.entry.Settle.TheVariants.{Commit}
use Rattle.base_types.specs.declared.id.AttemptId.{AttemptId}
use Rattle.base_types.specs.declared.id.ContId.{ContId}
use Rattle.base_types.specs.declared.key.Key.{Key}
use Rattle.base_types.specs.declared.outcome.Cause.TheVariants.{Floor}
use Rattle.base_types.specs.declared.outcome.FloorWhy.TheVariants as why
use Rattle.base_types.specs.declared.outcome.Outcome.{Outcome}
use Rattle.base_types.specs.declared.outcome.Outcome.TheVariants as outcome
use Rattle.base_types.specs.declared.report.Line.{Line}
use Rattle.base_types.specs.declared.report.Line.TheVariants as line
use Rattle.base_messages.specs.declared.actor.ActorId.{ActorId}
use Rattle.base_messages.specs.declared.message.Message.{Message}
use Rattle.base_messages.specs.declared.message.Message.TheVariants as message
use Rattle.base_messages.specs.declared.message.Post.{Post}
use Rattle.daos_model.specs.declared.durable.Durable.{Durable}
use Rattle.daos_model.specs.declared.durable.Version.{Version}
use Rattle.daos_model.specs.Durables.{is_frozen, row_of, same_attempt}
use Rattle.daos_model.specs.Versions.{version_path}
use Rattle.dtx_base.specs.Leading.{to_target}
use Rattle.dtx_base.specs.Members.{all_targets, has_target, with_target}
use Rattle.vos_store.specs.Answers.{freezes}
use Rattle.vos_store.specs.declared.refusal.FreezeNo.{FreezeNo}
use Rattle.vos_store.specs.declared.refusal.FreezeNo.TheVariants as freeze
use Rattle.world_base.specs.declared.did.Did.{Did}
use Rattle.world_base.specs.declared.target.Collection.{Collection}
use Rattle.world_base.specs.declared.target.TargetMemory.{TargetMemory}
use Rattle.world_base.specs.declared.target.TargetPlan.{TargetPlan}
use Rattle.world_base.specs.Changes.{Change, Creates, Extends, Freezes, Kept, Prunes, Settles}
use Rattle.world_base.specs.Requests.{issued_for, request_epoch, with_ticks}
use Rattle.world_base.specs.Roles.{with_unsettled}

-- ---- what target 0 collects

abbrev pub is_collection_of : AttemptId → Collection → Bool
is_collection_of x c = same_attempt c.attempt x

abbrev pub is_other_collection : AttemptId → Collection → Bool
is_other_collection x c = not (same_attempt c.attempt x)

abbrev pub collection_of : AttemptId → TargetMemory → Option Collection
collection_of x m = find (is_collection_of x) m.collecting

-- one collection more, behind all others
abbrev pub collects : Collection → TargetMemory → TargetMemory
collects c m = record m { collecting = m.collecting ++ c ∷ [] }

abbrev pub collected : AttemptId → TargetMemory → TargetMemory
collected x m = record m { collecting = filter (is_other_collection x) m.collecting }

abbrev pub held_at : AttemptId → ℕ → Collection → Collection
held_at x t c = if same_attempt c.attempt x then record c { held = with_target c.held t } else c

abbrev pub counts_held : AttemptId → ℕ → TargetMemory → TargetMemory
counts_held x t m = record m { collecting = map (held_at x t) m.collecting }

-- the other targets of a run, in order
abbrev pub is_another : TargetPlan → ℕ → Bool
is_another p t = nat_lt t p.targets && not (t == p.me)

abbrev pub others : TargetPlan → List ℕ
others p = filter (is_another p) all_targets

abbrev pub is_held_by_all : TargetPlan → ℕ → Bool
is_held_by_all p held = list_all (has_target held) (others p)

-- what follows from a turn with lines
abbrev pub follows : List Post → List Line → Option (AttemptId × Epoch) → Did
follows posts lines issued = record { posts = posts; lines = lines; issued = issued }

abbrev pub to_actor : ActorId → Message → List Post
to_actor to m = record { to = to; message = m } ∷ []

-- ---- a freeze

-- why a freeze is refused
abbrev pub freeze_refusal : TargetPlan → FreezeNo → Outcome
freeze_refusal p (freeze.Below g n) = outcome.Restart (Floor p.me g (why.Aggregate n))
freeze_refusal p freeze.NoPlace = outcome.NoSpace p.me 1 0
freeze_refusal p other = outcome.Restart (Floor p.me (record { 0 = 0 }) why.Opening)

abbrev pub refusal_of : TargetPlan → Result (Unit {0}) FreezeNo → Option Outcome
refusal_of p (Ok done) = None
refusal_of p (Err e) = Some (freeze_refusal p e)

abbrev pub freeze_cause : TargetPlan → ContId → Epoch → Durable → Option Outcome
freeze_cause p c s d = refusal_of p (freezes c s d)

-- the epoch is to be covered by the lease; what is to be frozen is looked at; it is frozen, by a change or since it was so
pub data FreezeStage : Type 0 where
  Asked : FreezeStage
  Known : (s : Epoch) → FreezeStage
  Freezing : (s : Epoch) → FreezeStage
  Frozen : (s : Epoch) (lines : List Line) → FreezeStage
  Created : (s : Epoch) (lines : List Line) → FreezeStage

-- The steps of a Snap, and of a Freeze, whose epoch is given. A Snap on the only target creates the snapshot at once.
pub data FreezeNext (p : TargetPlan) (m : TargetMemory) (reading : ℕ) (tracker : Epoch) (ep : Option Epoch) (c : ContId) (alone : Bool) : FreezeStage → Kept → Option Change → FreezeStage → Type 0 where
  HasEpoch : (k : Kept) (s : Epoch) → request_epoch p m reading tracker ep ≡ Some s → FreezeNext p m reading tracker ep c alone Asked k None (Known s)
  ExtendsLease : (k : Kept) (s : Epoch) (lease : ℕ) → k.durable.lease < s.0 / 256 → lease_for (s.0 / 256) ≡ Some lease
      → FreezeNext p m reading tracker ep c alone (Known s) k (Some (Extends lease)) (Known s)
  IsCovered : (k : Kept) (s : Epoch) → s.0 / 256 ≤ k.durable.lease → FreezeNext p m reading tracker ep c alone (Known s) k None (Freezing s)
  FreezesIt : (k : Kept) (s : Epoch) → freeze_cause p c s k.durable ≡ None → is_frozen k.durable c s ≡ false
      → FreezeNext p m reading tracker ep c alone (Freezing s) k (Some (Freezes c s)) (Frozen s (line.Freeze p.me c s ∷ []))
  IsFrozen : (k : Kept) (s : Epoch) → freeze_cause p c s k.durable ≡ None → is_frozen k.durable c s ≡ true
      → FreezeNext p m reading tracker ep c alone (Freezing s) k None (Frozen s [])
  CreatesIt : (k : Kept) (s : Epoch) (lines : List Line) → alone ≡ true → FreezeNext p m reading tracker ep c alone (Frozen s lines) k (Some (Creates c s)) (Created s lines)

abbrev pub new_collection : AttemptId → ActorId → ContId → Epoch → Option Key → Collection
new_collection x client c e name = record { attempt = x; client = client; cont = c; epoch = e; name = name; held = 0 }

abbrev pub freeze_to : AttemptId → ContId → Epoch → ℕ → Post
freeze_to x c s t = to_target t (message.Freeze x c s)

-- What a Snap ends with: no ticks are left; the freeze is refused; the others are asked to freeze; or it is created.
pub data SnapEnds (p : TargetPlan) (m : TargetMemory) (reading : ℕ) (tracker : Epoch) (x : AttemptId) (c : ContId) (name : Key) (from : ActorId) : FreezeStage → Kept → TargetMemory × Did → Type 0 where
  IsSpent : (k : Kept) (left : TargetMemory × Did) → request_epoch p m reading tracker None ≡ None
      → left ≡ (m, follows (to_actor from (message.Ended x None outcome.EpochsSpent)) [] None) → SnapEnds p m reading tracker x c name from Asked k left
  IsRefused : (k : Kept) (s : Epoch) (how : Outcome) (left : TargetMemory × Did) → freeze_cause p c s k.durable ≡ Some how
      → left ≡ (with_ticks s m, follows (to_actor from (message.Ended x (Some s) how)) [] (Some (x, s))) → SnapEnds p m reading tracker x c name from (Freezing s) k left
  AsksOthers : (k : Kept) (s : Epoch) (lines : List Line) (left : TargetMemory × Did) → is_held_by_all p 0 ≡ false
      → left ≡ (collects (new_collection x from c s (Some name)) (with_ticks s m), follows (map (freeze_to x c s) (others p)) lines (Some (x, s))) → SnapEnds p m reading tracker x c name from (Frozen s lines) k left
  IsAlone : (k : Kept) (s : Epoch) (lines : List Line) (left : TargetMemory × Did)
      → left ≡ (with_ticks s m, follows (to_actor from (message.Ended x (Some s) outcome.Committed)) (lines ++ line.Snapshot name c s ∷ []) (Some (x, s)))
      → SnapEnds p m reading tracker x c name from (Created s lines) k left

-- a Freeze ends with what target 0 is told
pub data FreezeEnds (p : TargetPlan) (m : TargetMemory) (x : AttemptId) (c : ContId) (from : ActorId) : FreezeStage → Kept → TargetMemory × Did → Type 0 where
  IsRefused : (k : Kept) (s : Epoch) (how : Outcome) (left : TargetMemory × Did) → freeze_cause p c s k.durable ≡ Some how
      → left ≡ (with_ticks s m, follows (to_actor from (message.Held x (Some how))) [] None) → FreezeEnds p m x c from (Freezing s) k left
  IsHeld : (k : Kept) (s : Epoch) (lines : List Line) (left : TargetMemory × Did) → left ≡ (with_ticks s m, follows (to_actor from (message.Held x None)) lines None)
      → FreezeEnds p m x c from (Frozen s lines) k left

-- ---- a prune

-- the least epoch of an unsettled version of a container, at or below an epoch, if there is one
abbrev pub is_open_in : ContId → Epoch → Version → Bool
is_open_in c g v = not v.done && ((version_path v).cont.0 == c.0) && nat_lt v.epoch.0 (g.0 + 1)

abbrev pub below_open : Epoch → Option Version → Epoch
below_open g None = g
below_open g (Some v) = record { 0 = min g.0 (v.epoch.0 - 1) }

-- up to where a container may be pruned: versions stand in the order of epochs, so the first that is unsettled is the least
unfoldable pub prune_limit : ContId → Epoch → Durable → Epoch
prune_limit c g d = below_open g (find (is_open_in c g) d.versions)

abbrev pub is_prune_due : ContId → Epoch → Durable → Bool
is_prune_due c g d = nat_lt (row_of d c).aggregated.0 (prune_limit c g d).0

-- the epoch is to be covered by the lease; what is decided here is settled; the container is looked at; it is pruned, or stays as it is
pub data PruneStage : Type 0 where
  Asked : PruneStage
  Known : (g : Epoch) → PruneStage
  Settling : (g : Epoch) (decided : List AttemptId) → PruneStage
  Pruned : (g : Epoch) (lines : List Line) → PruneStage

-- the steps of a Prune; the number is that of its aggregation, which was drawn before
pub data PruneNext (p : TargetPlan) (m : TargetMemory) (reading : ℕ) (tracker : Epoch) (ep : Option Epoch) (c : ContId) (number : ℕ) : PruneStage → Kept → Option Change → PruneStage → Type 0 where
  HasEpoch : (k : Kept) (g : Epoch) → request_epoch p m reading tracker ep ≡ Some g → PruneNext p m reading tracker ep c number Asked k None (Known g)
  ExtendsLease : (k : Kept) (g : Epoch) (lease : ℕ) → k.durable.lease < g.0 / 256 → lease_for (g.0 / 256) ≡ Some lease
      → PruneNext p m reading tracker ep c number (Known g) k (Some (Extends lease)) (Known g)
  IsCovered : (k : Kept) (g : Epoch) → g.0 / 256 ≤ k.durable.lease → PruneNext p m reading tracker ep c number (Known g) k None (Settling g m.leader.decided)
  SettlesFirst : (k : Kept) (g : Epoch) (a : AttemptId) (rest : List AttemptId) → PruneNext p m reading tracker ep c number (Settling g (a ∷ rest)) k (Some (Settles a Commit)) (Settling g rest)
  PrunesIt : (k : Kept) (g : Epoch) → is_prune_due c g k.durable ≡ true
      → PruneNext p m reading tracker ep c number (Settling g []) k (Some (Prunes c (prune_limit c g k.durable) number)) (Pruned g (line.Aggregate number p.me c (prune_limit c g k.durable) ∷ []))
  PassesBy : (k : Kept) (g : Epoch) → is_prune_due c g k.durable ≡ false → PruneNext p m reading tracker ep c number (Settling g []) k None (Pruned g [])

abbrev pub prune_to : AttemptId → ContId → Epoch → ℕ → Post
prune_to x c g t = to_target t (message.Prune x c None (Some g))

-- what a client's Prune ends with: no ticks are left; the others are asked to prune; or target 0 is alone
pub data AggregateEnds (p : TargetPlan) (m : TargetMemory) (reading : ℕ) (tracker : Epoch) (x : AttemptId) (c : ContId) (from : ActorId) : PruneStage → Kept → TargetMemory × Did → Type 0 where
  IsSpent : (k : Kept) (left : TargetMemory × Did) → request_epoch p m reading tracker None ≡ None
      → left ≡ (m, follows (to_actor from (message.Ended x None outcome.EpochsSpent)) [] None) → AggregateEnds p m reading tracker x c from Asked k left
  AsksOthers : (k : Kept) (g : Epoch) (lines : List Line) (left : TargetMemory × Did) → is_held_by_all p 0 ≡ false
      → left ≡ (collects (new_collection x from c g None) (with_unsettled [] (with_ticks g m)), follows (map (prune_to x c g) (others p)) lines (Some (x, g))) → AggregateEnds p m reading tracker x c from (Pruned g lines) k left
  IsAlone : (k : Kept) (g : Epoch) (lines : List Line) (left : TargetMemory × Did) → is_held_by_all p 0 ≡ true
      → left ≡ (with_unsettled [] (with_ticks g m), follows (to_actor from (message.Ended x (Some g) outcome.Committed)) lines (Some (x, g))) → AggregateEnds p m reading tracker x c from (Pruned g lines) k left

-- a Prune of target 0 ends with what that is told
pub data PruneEnds (m : TargetMemory) (x : AttemptId) (from : ActorId) : PruneStage → Kept → TargetMemory × Did → Type 0 where
  IsHeld : (k : Kept) (g : Epoch) (lines : List Line) (left : TargetMemory × Did) → left ≡ (with_unsettled [] (with_ticks g m), follows (to_actor from (message.Held x None)) lines None)
      → PruneEnds m x from (Pruned g lines) k left

-- ---- a Held

-- the last one of a snapshot creates it; any other changes nothing that is kept
pub data HeldStage : Type 0 where
  Heard : HeldStage
  Counted : HeldStage
  IsMade : (c : Collection) (name : Key) → HeldStage

abbrev pub is_last : TargetPlan → ℕ → Collection → Bool
is_last p from c = is_held_by_all p (with_target c.held from)

pub data HeldNext (p : TargetPlan) (m : TargetMemory) (from : ℕ) (x : AttemptId) (refusal : Option Outcome) : HeldStage → Kept → Option Change → HeldStage → Type 0 where
  CreatesIt : (k : Kept) (c : Collection) (name : Key) → refusal ≡ None → collection_of x m ≡ Some c → c.name ≡ Some name → is_last p from c ≡ true
      → HeldNext p m from x refusal Heard k (Some (Creates c.cont c.epoch)) (IsMade c name)
  Counts : (k : Kept) → ((c : Collection) (name : Key) → refusal ≡ None → collection_of x m ≡ Some c → c.name ≡ Some name → is_last p from c ≡ true → ⊥) → HeldNext p m from x refusal Heard k None Counted

-- what is known and told where nothing is created
abbrev pub held_by : TargetPlan → TargetMemory → ℕ → AttemptId → Option Outcome → Option Collection → TargetMemory × Did
held_by p m from x refusal None = (m, follows [] [] None)
held_by p m from x (Some how) (Some c) = (collected x m, follows (to_actor c.client (message.Ended x (Some c.epoch) how)) [] None)
held_by p m from x None (Some c) =
    if is_last p from c then (collected x m, follows (to_actor c.client (message.Ended x (Some c.epoch) outcome.Committed)) [] None) else (counts_held x from m, follows [] [] None)

pub data HeldEnds (p : TargetPlan) (m : TargetMemory) (from : ℕ) (x : AttemptId) (refusal : Option Outcome) : HeldStage → Kept → TargetMemory × Did → Type 0 where
  IsCounted : (k : Kept) (left : TargetMemory × Did) → left ≡ held_by p m from x refusal (collection_of x m) → HeldEnds p m from x refusal Counted k left
  IsCreated : (k : Kept) (c : Collection) (name : Key) (left : TargetMemory × Did)
      → left ≡ (collected x m, follows (to_actor c.client (message.Ended x (Some c.epoch) outcome.Committed)) (line.Snapshot name c.cont c.epoch ∷ []) None) → HeldEnds p m from x refusal (IsMade c name) k left

-- ---- a Reset of a Freeze or of a Prune

abbrev pub collection_reset : ℕ → Bool → Message → AttemptId → Option Collection → TargetMemory → TargetMemory × List Post
collection_reset by false asked x o m = (m, to_target by asked ∷ [])
collection_reset by true asked x None m = (m, [])
collection_reset by true asked x (Some c) m = (collected x m, to_actor c.client (message.Ended x (Some c.epoch) (outcome.Unknown by)))

abbrev pub collects_reset : ℕ → Bool → Message → TargetMemory → TargetMemory × List Post
collects_reset by down (message.Freeze x c s) m = collection_reset by down (message.Freeze x c s) x (collection_of x m) m
collects_reset by down (message.Prune x c tracker e) m = collection_reset by down (message.Prune x c tracker e) x (collection_of x m) m
collects_reset by down asked m = (m, [])
