-- What a target says of epochs that hears what makes snapshots and aggregates, and what it issues then.
use Rattle.std.specs.Prelude.{ℕ, ◌≡◌, ◌≤◌, ◌/◌, Bool, true, false, List, [], Option, Some, None, refl, if◌then◌else◌}
use Rattle.std.proofs.Common.{sym, ◌∙◌, ap, subst, arith}
use Rattle.base_types.specs.declared.epoch.Epoch.{Epoch}
use Rattle.base_types.specs.declared.id.AttemptId.{AttemptId}
use Rattle.base_types.specs.declared.id.ContId.{ContId}
use Rattle.base_types.specs.declared.key.Key.{Key}
use Rattle.base_types.specs.declared.outcome.Outcome.{Outcome}
use Rattle.base_types.specs.declared.outcome.Outcome.TheVariants as outcome
use Rattle.base_messages.specs.declared.actor.ActorId.{ActorId}
use Rattle.base_messages.specs.declared.message.Message.{Message}
use Rattle.base_messages.specs.declared.message.Message.TheVariants as message
use Rattle.base_messages.specs.declared.message.Post.{Post}
use Rattle.model_laws.specs.EntryLaws.{found-has, found-passes, same-attempt}
use Rattle.model_laws.specs.Members.{Has}
use Rattle.world_base.specs.declared.did.Did.{Did}
use Rattle.world_base.specs.declared.target.Collection.{Collection}
use Rattle.world_base.specs.declared.target.TargetMemory.{TargetMemory}
use Rattle.world_base.specs.declared.target.TargetPlan.{TargetPlan}
use Rattle.world_base.specs.declared.world.World.{World}
use Rattle.world_base.specs.Changes.{Change, Kept, Steps}
use Rattle.world_base.specs.Events.{Rules}
use Rattle.world_base.specs.Further.{collection_left, knows_down}
use Rattle.world_base.specs.MemoryLaws.{heard-up}
use Rattle.world_base.specs.PathLaws.{reached-keeps}
use Rattle.world_base.specs.Requests.{request_epoch}
use Rattle.world_base.specs.Snapshots as snap
use Rattle.world_base.specs.Turns.{Whole}
use Rattle.world_letters.specs.epochs.Epochs.{IsEpochOf, IsIssued, IsOwn}
use Rattle.world_letters.specs.epochs.FetchTurns as dates
use Rattle.world_letters.specs.epochs.FetchTurns.{Covers, Dates}
use Rattle.world_letters.specs.epochs.Sayings.{Known, Spent}
use Rattle.world_making.specs.dates.Keeping.{FreezeStands, PruneStands}
use Rattle.world_making.specs.dates.Telling.{AllTellDated, AllWaitDated, LeavesDated, TellsDated, mapped-tell, none-tell, one-tells, same-leaves}

-- ---- what is issued

-- what a Snap issues, and that its ticks don't go down
pub snap-dates : (P : Known) (low : ℕ) (p : TargetPlan) (m : TargetMemory) (reading : ℕ) (tracker : Epoch) (x : AttemptId) (c : ContId) (name : Key) (from : ActorId) (s : snap.FreezeStage) (k : Kept) (left : TargetMemory × Did)
    → snap.SnapEnds p m reading tracker x c name from s k left → FreezeStands P low p m reading tracker None s k.durable.lease → Dates p m reading x None tracker k.durable.lease left × (m.ticks ≤ left.0.ticks)
snap-dates P low p m reading tracker x c name from s k left (snap.IsSpent j i none is) h = (dates.IsSpent none (ap (λ z. z.1.issued) is), subst (λ z. m.ticks ≤ z.0.ticks) (sym is) (omega arith))
snap-dates P low p m reading tracker x c name from s k left (snap.IsRefused j e how i why is) h =
    (dates.IsDated e h (ap (λ z. z.1.issued) is) (subst (λ z. e.0 / 256 ≤ z.0.ticks) (sym is) (heard-up m.ticks e.0).1), subst (λ z. m.ticks ≤ z.0.ticks) (sym is) (heard-up m.ticks e.0).0)
snap-dates P low p m reading tracker x c name from s k left (snap.AsksOthers j e lines i others is) h =
    (dates.IsDated e h (ap (λ z. z.1.issued) is) (subst (λ z. e.0 / 256 ≤ z.0.ticks) (sym is) (heard-up m.ticks e.0).1), subst (λ z. m.ticks ≤ z.0.ticks) (sym is) (heard-up m.ticks e.0).0)
snap-dates P low p m reading tracker x c name from s k left (snap.IsAlone j e lines i is) h =
    (dates.IsDated e h (ap (λ z. z.1.issued) is) (subst (λ z. e.0 / 256 ≤ z.0.ticks) (sym is) (heard-up m.ticks e.0).1), subst (λ z. m.ticks ≤ z.0.ticks) (sym is) (heard-up m.ticks e.0).0)

-- what a client's Prune issues
pub aggregate-dates : (P : Known) (low : ℕ) (p : TargetPlan) (m : TargetMemory) (reading : ℕ) (tracker : Epoch) (x : AttemptId) (c : ContId) (from : ActorId) (s : snap.PruneStage) (k : Kept) (left : TargetMemory × Did)
    → snap.AggregateEnds p m reading tracker x c from s k left → PruneStands P low p m reading tracker None s k.durable.lease → Dates p m reading x None tracker k.durable.lease left × (m.ticks ≤ left.0.ticks)
aggregate-dates P low p m reading tracker x c from s k left (snap.IsSpent j i none is) h = (dates.IsSpent none (ap (λ z. z.1.issued) is), subst (λ z. m.ticks ≤ z.0.ticks) (sym is) (omega arith))
aggregate-dates P low p m reading tracker x c from s k left (snap.AsksOthers j g lines i others is) h =
    (dates.IsDated g h (ap (λ z. z.1.issued) is) (subst (λ z. g.0 / 256 ≤ z.0.ticks) (sym is) (heard-up m.ticks g.0).1), subst (λ z. m.ticks ≤ z.0.ticks) (sym is) (heard-up m.ticks g.0).0)
aggregate-dates P low p m reading tracker x c from s k left (snap.IsAlone j g lines i only is) h =
    (dates.IsDated g h (ap (λ z. z.1.issued) is) (subst (λ z. g.0 / 256 ≤ z.0.ticks) (sym is) (heard-up m.ticks g.0).1), subst (λ z. m.ticks ≤ z.0.ticks) (sym is) (heard-up m.ticks g.0).0)

-- other turns issue none, and their ticks don't go down
pub record IssuesNone (m : TargetMemory) (left : TargetMemory × Did) : Type 0 where
  pub issued : left.1.issued ≡ None
  pub ticks : m.ticks ≤ left.0.ticks

pub freeze-issues : (p : TargetPlan) (m : TargetMemory) (x : AttemptId) (c : ContId) (from : ActorId) (s : snap.FreezeStage) (k : Kept) (left : TargetMemory × Did) → snap.FreezeEnds p m x c from s k left → IssuesNone m left
freeze-issues p m x c from s k left (snap.IsRefused j e how i why is) = record { issued = ap (λ z. z.1.issued) is; ticks = subst (λ z. m.ticks ≤ z.0.ticks) (sym is) (heard-up m.ticks e.0).0 }
freeze-issues p m x c from s k left (snap.IsHeld j e lines i is) = record { issued = ap (λ z. z.1.issued) is; ticks = subst (λ z. m.ticks ≤ z.0.ticks) (sym is) (heard-up m.ticks e.0).0 }

pub prune-issues : (m : TargetMemory) (x : AttemptId) (from : ActorId) (s : snap.PruneStage) (k : Kept) (left : TargetMemory × Did) → snap.PruneEnds m x from s k left → IssuesNone m left
prune-issues m x from s k left (snap.IsHeld j g lines i is) = record { issued = ap (λ z. z.1.issued) is; ticks = subst (λ z. m.ticks ≤ z.0.ticks) (sym is) (heard-up m.ticks g.0).0 }

held-by_issues : (p : TargetPlan) (m : TargetMemory) (from : ℕ) (x : AttemptId) (refusal : Option Outcome) (o : Option Collection) → IssuesNone m (snap.held_by p m from x refusal o)
held-by_issues p m from x refusal None = record { issued = refl; ticks = omega arith }
held-by_issues p m from x (Some how) (Some c) = record { issued = refl; ticks = omega arith }
held-by_issues p m from x None (Some c) = by (snap.is_last p from c)
  where
    by : (b : Bool) → IssuesNone m (if b then (snap.collected x m, snap.follows (snap.to_actor c.client (message.Ended x (Some c.epoch) outcome.Committed)) [] None) else (snap.counts_held x from m, snap.follows [] [] None))
    by true = record { issued = refl; ticks = omega arith }
    by false = record { issued = refl; ticks = omega arith }

pub held-issues : (p : TargetPlan) (m : TargetMemory) (from : ℕ) (x : AttemptId) (refusal : Option Outcome) (s : snap.HeldStage) (k : Kept) (left : TargetMemory × Did) → snap.HeldEnds p m from x refusal s k left → IssuesNone m left
held-issues p m from x refusal s k left (snap.IsCounted j i is) = subst (IssuesNone m) (sym is) (held-by_issues p m from x refusal (snap.collection_of x m))
held-issues p m from x refusal s k left (snap.IsCreated j c name i is) = subst (IssuesNone m) (sym is) (record { issued = refl; ticks = omega arith })

collection-ticks : (by : ℕ) (down : Bool) (asked : Message) (x : AttemptId) (o : Option Collection) (m : TargetMemory) → (snap.collection_reset by down asked x o m).0.ticks ≡ m.ticks
collection-ticks by false asked x o m = refl
collection-ticks by true asked x None m = refl
collection-ticks by true asked x (Some c) m = refl

collects-ticks : (by : ℕ) (down : Bool) (asked : Message) (m : TargetMemory) → (snap.collects_reset by down asked m).0.ticks ≡ m.ticks
collects-ticks by down (message.Freeze x c s) m = collection-ticks by down (message.Freeze x c s) x (snap.collection_of x m) m
collects-ticks by down (message.Prune x c tracker e) m = collection-ticks by down (message.Prune x c tracker e) x (snap.collection_of x m) m
collects-ticks by down asked m = refl

knows-ticks : (by : ℕ) (down : Bool) (m : TargetMemory) → (knows_down by down m).ticks ≡ m.ticks
knows-ticks by true m = refl
knows-ticks by false m = refl

pub reset-issues : (m : TargetMemory) (by : ℕ) (down : Bool) (asked : Message) → IssuesNone m (collection_left m by down asked)
reset-issues m by down asked = record { issued = refl; ticks = let same : (knows_down by down (snap.collects_reset by down asked m).0).ticks ≡ m.ticks = knows-ticks by down (snap.collects_reset by down asked m).0 ∙ collects-ticks by down asked m in omega (arith, same) }

module _ (r : Rules) (u : World) (L : Spent) where
  -- ---- a freeze

  module _ (p : TargetPlan) (m : TargetMemory) (reading : ℕ) (tracker : Epoch) (x : AttemptId) (c : ContId) (from : ActorId) (epoch : (e : Epoch) → request_epoch p m reading tracker None ≡ Some e → IsEpochOf r u x e)
      (spent : request_epoch p m reading tracker None ≡ None → L x from) (parked : AllWaitDated r u L m.member.parked) where
    -- a Snap
    pub snap-leaves : (P : Known) (low lease : ℕ) (name : Key) (s : snap.FreezeStage) (k : Kept) (left : TargetMemory × Did) → snap.SnapEnds p m reading tracker x c name from s k left → FreezeStands P low p m reading tracker None s lease → LeavesDated r u L left
    snap-leaves P low lease name s k left (snap.IsSpent j i none is) h = same-leaves r u L m left _ (ap (λ z. z.0.member.parked) is) (ap (λ z. z.1.posts) is) parked (one-tells r u L _ (λ sure. spent none))
    snap-leaves P low lease name s k left (snap.IsRefused j e how i why is) h = same-leaves r u L m left _ (ap (λ z. z.0.member.parked) is) (ap (λ z. z.1.posts) is) parked (one-tells r u L _ (epoch e h.found))
    snap-leaves P low lease name s k left (snap.AsksOthers j e lines i others is) h =
        same-leaves r u L m left _ (ap (λ z. z.0.member.parked) is) (ap (λ z. z.1.posts) is) parked (mapped-tell r u L (snap.freeze_to x c e) (snap.others p) (λ t. tt))
    snap-leaves P low lease name s k left (snap.IsAlone j e lines i is) h = same-leaves r u L m left _ (ap (λ z. z.0.member.parked) is) (ap (λ z. z.1.posts) is) parked (one-tells r u L _ (epoch e h.found))

    -- a client's Prune
    pub aggregate-leaves : (P : Known) (low lease : ℕ) (s : snap.PruneStage) (k : Kept) (left : TargetMemory × Did) → snap.AggregateEnds p m reading tracker x c from s k left → PruneStands P low p m reading tracker None s lease → LeavesDated r u L left
    aggregate-leaves P low lease s k left (snap.IsSpent j i none is) h = same-leaves r u L m left _ (ap (λ z. z.0.member.parked) is) (ap (λ z. z.1.posts) is) parked (one-tells r u L _ (λ sure. spent none))
    aggregate-leaves P low lease s k left (snap.AsksOthers j g lines i others is) h =
        same-leaves r u L m left _ (ap (λ z. z.0.member.parked) is) (ap (λ z. z.1.posts) is) parked (mapped-tell r u L (snap.prune_to x c g) (snap.others p) (λ t. tt))
    aggregate-leaves P low lease s k left (snap.IsAlone j g lines i only is) h = same-leaves r u L m left _ (ap (λ z. z.0.member.parked) is) (ap (λ z. z.1.posts) is) parked (one-tells r u L _ (epoch g h.found))

  pub freeze-leaves : (p : TargetPlan) (m : TargetMemory) (x : AttemptId) (c : ContId) (from : ActorId) (s : snap.FreezeStage) (k : Kept) (left : TargetMemory × Did) → AllWaitDated r u L m.member.parked → snap.FreezeEnds p m x c from s k left → LeavesDated r u L left
  freeze-leaves p m x c from s k left parked (snap.IsRefused j e how i why is) = same-leaves r u L m left _ (ap (λ z. z.0.member.parked) is) (ap (λ z. z.1.posts) is) parked (one-tells r u L _ tt)
  freeze-leaves p m x c from s k left parked (snap.IsHeld j e lines i is) = same-leaves r u L m left _ (ap (λ z. z.0.member.parked) is) (ap (λ z. z.1.posts) is) parked (one-tells r u L _ tt)

  pub prune-leaves : (m : TargetMemory) (x : AttemptId) (from : ActorId) (s : snap.PruneStage) (k : Kept) (left : TargetMemory × Did) → AllWaitDated r u L m.member.parked → snap.PruneEnds m x from s k left → LeavesDated r u L left
  prune-leaves m x from s k left parked (snap.IsHeld j g lines i is) = same-leaves r u L m left _ (ap (λ z. z.0.member.parked) is) (ap (λ z. z.1.posts) is) parked (one-tells r u L _ tt)

  -- ---- what is collected

  -- it is at the epoch of its attempt
  abbrev pub AllCollect : TargetMemory → Type 0
  AllCollect m = (c : Collection) → Has c m.collecting → IsIssued u c.attempt c.epoch

  collected-own : (m : TargetMemory) (x : AttemptId) (c : Collection) → AllCollect m → snap.collection_of x m ≡ Some c → IsEpochOf r u x c.epoch
  collected-own m x c all is =
      subst (λ y. IsEpochOf r u y c.epoch) (same-attempt c.attempt x (found-passes (snap.is_collection_of x) m.collecting c is)) (IsOwn (all c (found-has (snap.is_collection_of x) m.collecting c is)))

  held-by_leaves : (p : TargetPlan) (m : TargetMemory) (from : ℕ) (x : AttemptId) (refusal : Option Outcome) → AllCollect m → AllWaitDated r u L m.member.parked → (o : Option Collection) → snap.collection_of x m ≡ o → LeavesDated r u L (snap.held_by p m from x refusal o)
  held-by_leaves p m from x refusal all parked None is = record { posts = none-tell r u L; parked = parked }
  held-by_leaves p m from x (Some how) all parked (Some c) is = record { posts = one-tells r u L _ (collected-own m x c all is); parked = parked }
  held-by_leaves p m from x None all parked (Some c) is = by (snap.is_last p from c)
    where
      by : (b : Bool) → LeavesDated r u L (if b then (snap.collected x m, snap.follows (snap.to_actor c.client (message.Ended x (Some c.epoch) outcome.Committed)) [] None) else (snap.counts_held x from m, snap.follows [] [] None))
      by true = record { posts = one-tells r u L _ (collected-own m x c all is); parked = parked }
      by false = record { posts = none-tell r u L; parked = parked }

  -- the collection that a Held creates
  abbrev HeldAt : AttemptId → TargetMemory → snap.HeldStage → Type 0
  HeldAt x m snap.Heard = Unit {0}
  HeldAt x m snap.Counted = Unit {0}
  HeldAt x m (snap.IsMade c name) = snap.collection_of x m ≡ Some c

  held-next : (p : TargetPlan) (m : TargetMemory) (from : ℕ) (x : AttemptId) (refusal : Option Outcome) (s : snap.HeldStage) (k : Kept) (o : Option Change) (n : snap.HeldStage) (l : Kept) → snap.HeldNext p m from x refusal s k o n → Steps o k l → HeldAt x m s → HeldAt x m n
  held-next p m from x refusal s k o n l (snap.CreatesIt j c name none is named last) steps h = is
  held-next p m from x refusal s k o n l (snap.Counts j none) steps h = tt

  held-ends : (p : TargetPlan) (m : TargetMemory) (from : ℕ) (x : AttemptId) (refusal : Option Outcome) (s : snap.HeldStage) (k : Kept) (left : TargetMemory × Did) → AllCollect m → AllWaitDated r u L m.member.parked → snap.HeldEnds p m from x refusal s k left → HeldAt x m s
      → LeavesDated r u L left
  held-ends p m from x refusal s k left all parked (snap.IsCounted j i is) h = subst (LeavesDated r u L) (sym is) (held-by_leaves p m from x refusal all parked (snap.collection_of x m) refl)
  held-ends p m from x refusal s k left all parked (snap.IsCreated j c name i is) h = same-leaves r u L m left _ (ap (λ z. z.0.member.parked) is) (ap (λ z. z.1.posts) is) parked (one-tells r u L _ (collected-own m x c all h))

  pub held-leaves : (p : TargetPlan) (m : TargetMemory) (from : ℕ) (x : AttemptId) (refusal : Option Outcome) (old new : Kept) (left : TargetMemory × Did) → AllCollect m → AllWaitDated r u L m.member.parked
      → Whole (snap.HeldNext p m from x refusal) (snap.HeldEnds p m from x refusal) snap.Heard old new left → LeavesDated r u L left
  held-leaves p m from x refusal old new left all parked w =
      held-ends p m from x refusal w.last new left all parked w.ends (reached-keeps (snap.HeldNext p m from x refusal) (λ s k. HeldAt x m s) (held-next p m from x refusal) snap.Heard old w.last new w.reached tt)

  -- ---- a Reset of what is asked of the others

  -- it is asked again, or its attempt is ended
  collection-leaves : (by : ℕ) (down : Bool) (asked : Message) (x : AttemptId) (m : TargetMemory) → TellsDated r u L asked (record { client = false; number = by }) → AllCollect m → AllWaitDated r u L m.member.parked → (o : Option Collection) → snap.collection_of x m ≡ o
      → AllTellDated r u L (snap.collection_reset by down asked x o m).1 × AllWaitDated r u L (snap.collection_reset by down asked x o m).0.member.parked
  collection-leaves by false asked x m tells all parked o is = (one-tells r u L _ tells, parked)
  collection-leaves by true asked x m tells all parked None is = (none-tell r u L, parked)
  collection-leaves by true asked x m tells all parked (Some c) is = (one-tells r u L _ (collected-own m x c all is), parked)

  knows-parked : (by : ℕ) (down : Bool) (m : TargetMemory) → (knows_down by down m).member.parked ≡ m.member.parked
  knows-parked by true m = refl
  knows-parked by false m = refl

  after-reset : (by : ℕ) (down : Bool) (z : TargetMemory × List Post) → AllTellDated r u L z.1 × AllWaitDated r u L z.0.member.parked → LeavesDated r u L (knows_down by down z.0, snap.follows z.1 [] None)
  after-reset by down z k = record { posts = k.0; parked = subst (AllWaitDated r u L) (sym (knows-parked by down z.0)) k.1 }

  pub reset-leaves : (m : TargetMemory) (by : ℕ) (down : Bool) (asked : Message) → TellsDated r u L asked (record { client = false; number = by }) → AllCollect m → AllWaitDated r u L m.member.parked → LeavesDated r u L (collection_left m by down asked)
  reset-leaves m by down (message.Freeze x c s) tells all parked = after-reset by down _ (collection-leaves by down (message.Freeze x c s) x m tells all parked (snap.collection_of x m) refl)
  reset-leaves m by down (message.Prune x c tracker e) tells all parked = after-reset by down _ (collection-leaves by down (message.Prune x c tracker e) x m tells all parked (snap.collection_of x m) refl)
  reset-leaves m by down asked tells all parked = after-reset by down (m, []) (none-tell r u L, parked)
