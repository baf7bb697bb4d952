-- The steps of freezes, prunes and of what counts them are steps of turns in which snapshots are made or containers aggregated.
use Rattle.std.specs.Prelude.{ℕ, ◌≡◌, ◌≤◌, ◌/◌, ◌==◌, Bool, true, false, [], map, Option, Some, refl, if◌then◌else◌}
use Rattle.std.proofs.Common.{sym, ap, subst, arith, inl}
use Rattle.std.proofs.lemmas.Bool.Decides.{nat_tests}
use Rattle.std.specs.List.{list_any}
use Rattle.base_types.specs.declared.entry.Settle.TheVariants.{Commit}
use Rattle.base_types.specs.declared.epoch.Epoch.{Epoch}
use Rattle.base_types.specs.declared.id.AttemptId.{AttemptId}
use Rattle.base_types.specs.declared.id.ContId.{ContId}
use Rattle.base_types.specs.declared.outcome.FloorWhy.TheVariants.{Snapshot}
use Rattle.base_types.specs.declared.outcome.Outcome.{Outcome}
use Rattle.base_messages.specs.declared.actor.ActorId.{ActorId}
use Rattle.base_messages.specs.declared.message.Message.{Message}
use Rattle.base_messages.specs.declared.message.Message.TheVariants as message
use Rattle.daos_model.specs.BoolLaws.{both}
use Rattle.daos_model.specs.Changes.{created, frozen, new_snap, raised_at}
use Rattle.daos_model.specs.declared.durable.Durable.{Durable}
use Rattle.daos_model.specs.Durables.{is_frozen, is_snap_at, snap_key}
use Rattle.daos_model.specs.Ordered.{put}
use Rattle.model_laws.specs.EntryLaws.{put-has}
use Rattle.model_laws.specs.Members.{any-has}
use Rattle.world_base.specs.declared.target.TargetMemory.{TargetMemory}
use Rattle.world_base.specs.declared.target.TargetPlan.{TargetPlan}
use Rattle.world_base.specs.ChangeLaws.{Raises, lease-steps}
use Rattle.world_base.specs.Changes.{Change, Creates, Freezes, Kept, Prunes, Settles, Steps}
use Rattle.world_base.specs.Requests.{request_epoch}
use Rattle.world_base.specs.Snapshots as snap
use Rattle.world_base.specs.Statuses.{AtOnce, Looks, NoChange}
use Rattle.world_making.specs.making.Making.{Alone, ByLast, CreatesIt, ExtendsLease, FreezesIt, IsCovered, IsMadeAt, MakingNext, MakingRequest, MakingStage, Passes, PrunesIt, SettlesFirst, asks_freeze, asks_making, asks_prune, making_begins}
use Rattle.world_making.specs.making.Snapshots.{frozen-on, keeps-made}

-- ---- what is frozen

number-same : (n : ℕ) → (n == n) ≡ true
number-same n = grind (arith, nat_tests)

-- what was just frozen is
frozen-now : (c : ContId) (s : Epoch) (d : Durable) → is_frozen (frozen c s d) c s ≡ true
unfolding frozen is_frozen
frozen-now c s d = by (list_any (is_snap_at c s) d.snaps) refl
  where
    by : (b : Bool) → list_any (is_snap_at c s) d.snaps ≡ b
        → list_any (is_snap_at c s) (if b then d else record d { conts = map (raised_at c s (Snapshot s)) d.conts; snaps = put snap_key (new_snap c s) d.snaps }).snaps ≡ true
    by true is = is
    by false is =
        any-has (is_snap_at c s) (put snap_key (new_snap c s) d.snaps) (new_snap c s) (put-has snap_key (new_snap c s) d.snaps (new_snap c s) (inl refl))
        (both (c.0 == c.0) (s.0 == s.0) (number-same c.0) (number-same s.0))

module _ (p : TargetPlan) (m : TargetMemory) (reading : ℕ) (a : MakingRequest) (e : Epoch) where
  -- the lease covers the epoch after each change
  made-then : (c : Change) (k l : Kept) → Steps (Some c) k l → Raises k.durable (Some c) → IsMadeAt p m reading k.durable a e → IsMadeAt p m reading l.durable a e
  made-then c k l steps raises i =
      record { epoch = i.epoch; covered = let low : e.0 / 256 ≤ k.durable.lease = i.covered in let up = (lease-steps (Some c) k l steps raises).rises in omega (arith, low, up) }

  made-still : (k l : Kept) → l ≡ k → IsMadeAt p m reading k.durable a e → IsMadeAt p m reading l.durable a e
  made-still k l same = subst (λ x. IsMadeAt p m reading x.durable a e) (sym same)

-- ---- a freeze

abbrev pub freeze_stage : TargetMemory → snap.FreezeStage → MakingStage
freeze_stage m snap.Asked = making_begins m
freeze_stage m (snap.Known s) = making_begins m
freeze_stage m (snap.Freezing s) = record { unsettled = m.leader.decided; dated = Some s }
freeze_stage m (snap.Frozen s lines) = record { unsettled = m.leader.decided; dated = Some s }
freeze_stage m (snap.Created s lines) = record { unsettled = m.leader.decided; dated = Some s }

-- what a stage of a freeze says
abbrev pub FreezeSays : TargetPlan → TargetMemory → ℕ → MakingRequest → snap.FreezeStage → Kept → Type 0
FreezeSays p m reading a snap.Asked k = Unit {0}
FreezeSays p m reading a (snap.Known s) k = request_epoch p m reading a.tracker a.ep ≡ Some s
FreezeSays p m reading a (snap.Freezing s) k = IsMadeAt p m reading k.durable a s
FreezeSays p m reading a (snap.Frozen s lines) k = IsMadeAt p m reading k.durable a s × (is_frozen k.durable a.cont s ≡ true)
FreezeSays p m reading a (snap.Created s lines) k = IsMadeAt p m reading k.durable a s × (is_frozen k.durable a.cont s ≡ true)

module _ (number : ℕ) (p : TargetPlan) (m : TargetMemory) (reading : ℕ) (from : ActorId) (q : Message) (a : MakingRequest) (asks : asks_freeze q ≡ Some a) (either : asks_making q ≡ Some a) (alone : Bool)
    (only : alone ≡ true → snap.is_held_by_all p 0 ≡ true) where
  pub freeze-as : (s : snap.FreezeStage) (k : Kept) (o : Option Change) (u : snap.FreezeStage) (l : Kept) → snap.FreezeNext p m reading a.tracker a.ep a.cont alone s k o u → Steps o k l
      → FreezeSays p m reading a s k
      → MakingNext number p m reading from q (freeze_stage m s) k o (freeze_stage m u) × FreezeSays p m reading a u l
  freeze-as s k o u l (snap.HasEpoch k2 e is) steps h = (Passes (making_begins m) k2, is)
  freeze-as s k o u l (snap.ExtendsLease k2 e lease low covers) steps h = (ExtendsLease (making_begins m) k2 a e lease either h low covers, h)
  freeze-as s k o u l (snap.IsCovered k2 e low) steps h =
      let i : IsMadeAt p m reading k2.durable a e = record { epoch = h; covered = low } in (IsCovered m.leader.decided k2 a e either i, made-still p m reading a e k2 l steps i)
  freeze-as s k o u l (snap.FreezesIt k2 e free unfrozen) steps h =
      (FreezesIt m.leader.decided k2 a e asks h free unfrozen, (made-then p m reading a e (Freezes a.cont e) k2 l steps tt h, subst (λ d. is_frozen d a.cont e ≡ true) (sym steps.0) (frozen-now a.cont e k2.durable)))
  freeze-as s k o u l (snap.IsFrozen k2 e free is) steps h =
      (Passes (record { unsettled = m.leader.decided; dated = Some e }) k2, (made-still p m reading a e k2 l steps h, subst (λ x. is_frozen x.durable a.cont e ≡ true) (sym steps) is))
  freeze-as s k o u l (snap.CreatesIt k2 e lines is) steps h = (
    CreatesIt (record { unsettled = m.leader.decided; dated = Some e }) k2 a.cont e (Alone a e asks (only is) h.0 h.1),
    (made-then p m reading a e (Creates a.cont e) k2 l steps tt h.0, subst (λ d. is_frozen d a.cont e ≡ true) (sym steps.0) (frozen-on k2.durable (created a.cont e k2.durable) a.cont e (keeps-made (Creates a.cont e) k2.durable) h.1)),
  )

-- ---- a prune

abbrev pub prune_stage : TargetMemory → snap.PruneStage → MakingStage
prune_stage m snap.Asked = making_begins m
prune_stage m (snap.Known g) = making_begins m
prune_stage m (snap.Settling g decided) = record { unsettled = decided; dated = Some g }
prune_stage m (snap.Pruned g lines) = record { unsettled = []; dated = Some g }

abbrev pub PruneSays : TargetPlan → TargetMemory → ℕ → MakingRequest → snap.PruneStage → Kept → Type 0
PruneSays p m reading a snap.Asked k = Unit {0}
PruneSays p m reading a (snap.Known g) k = request_epoch p m reading a.tracker a.ep ≡ Some g
PruneSays p m reading a (snap.Settling g decided) k = IsMadeAt p m reading k.durable a g
PruneSays p m reading a (snap.Pruned g lines) k = IsMadeAt p m reading k.durable a g

module _ (number : ℕ) (p : TargetPlan) (m : TargetMemory) (reading : ℕ) (from : ActorId) (q : Message) (a : MakingRequest) (asks : asks_prune q ≡ Some a) (either : asks_making q ≡ Some a) where
  pub prune-as : (s : snap.PruneStage) (k : Kept) (o : Option Change) (u : snap.PruneStage) (l : Kept) → snap.PruneNext p m reading a.tracker a.ep a.cont number s k o u → Steps o k l
      → PruneSays p m reading a s k
      → MakingNext number p m reading from q (prune_stage m s) k o (prune_stage m u) × PruneSays p m reading a u l
  prune-as s k o u l (snap.HasEpoch k2 g is) steps h = (Passes (making_begins m) k2, is)
  prune-as s k o u l (snap.ExtendsLease k2 g lease low covers) steps h = (ExtendsLease (making_begins m) k2 a g lease either h low covers, h)
  prune-as s k o u l (snap.IsCovered k2 g low) steps h =
      let i : IsMadeAt p m reading k2.durable a g = record { epoch = h; covered = low } in (IsCovered m.leader.decided k2 a g either i, made-still p m reading a g k2 l steps i)
  prune-as s k o u l (snap.SettlesFirst k2 g b rest) steps h = (SettlesFirst b rest k2 a g asks h, made-then p m reading a g (Settles b Commit) k2 l steps tt h)
  prune-as s k o u l (snap.PrunesIt k2 g due) steps h = (PrunesIt k2 a g asks h due, made-then p m reading a g (Prunes a.cont (snap.prune_limit a.cont g k2.durable) number) k2 l steps tt h)
  prune-as s k o u l (snap.PassesBy k2 g due) steps h = (Passes (record { unsettled = []; dated = Some g }) k2, made-still p m reading a g k2 l steps h)

-- ---- a Held, and a Reset

abbrev pub held_stage : TargetMemory → snap.HeldStage → MakingStage
held_stage m s = making_begins m

-- the snapshot of the collection that is found is created
abbrev pub HeldSays : TargetMemory → AttemptId → snap.HeldStage → Kept → Type 0
HeldSays m x snap.Heard k = Unit {0}
HeldSays m x snap.Counted k = Unit {0}
HeldSays m x (snap.IsMade c name) k = snap.collection_of x m ≡ Some c

module _ (number : ℕ) (p : TargetPlan) (m : TargetMemory) (reading : ℕ) (from : ActorId) (x : AttemptId) (refusal : Option Outcome) where
  pub held-as : (s : snap.HeldStage) (k : Kept) (o : Option Change) (u : snap.HeldStage) (l : Kept) → snap.HeldNext p m from.number x refusal s k o u → Steps o k l → HeldSays m x s k
      → MakingNext number p m reading from (message.Held x refusal) (held_stage m s) k o (held_stage m u) × HeldSays m x u l
  held-as s k o u l (snap.CreatesIt k2 c name none is named last) steps h = (CreatesIt (making_begins m) k2 c.cont c.epoch (ByLast x c name (ap (λ z. message.Held x z) none) is named last), is)
  held-as s k o u l (snap.Counts k2 none) steps h = (Passes (making_begins m) k2, tt)

abbrev pub lost_stage : TargetMemory → AtOnce → MakingStage
lost_stage m s = making_begins m

pub lost-as : (number : ℕ) (p : TargetPlan) (m : TargetMemory) (reading : ℕ) (from : ActorId) (q : Message) (s : AtOnce) (k : Kept) (o : Option Change) (u : AtOnce) (l : Kept)
    → NoChange s k o u → Steps o k l → Unit {0}
    → MakingNext number p m reading from q (lost_stage m s) k o (lost_stage m u) × Unit {0}
lost-as number p m reading from q s k o u l (Looks k2) steps h = (Passes (making_begins m) k2, tt)
