-- What a target hears of snapshots and aggregation keeps the facts of outcomes.
use Rattle.std.specs.Prelude.{ℕ, ◌≡◌, Bool, true, false, [], ◌∷◌, Option, Some, None, refl, if◌then◌else◌}
use Rattle.std.proofs.Common.{sym, subst}
use Rattle.base_types.specs.declared.epoch.Epoch.{Epoch}
use Rattle.base_types.specs.declared.id.AttemptId.{AttemptId}
use Rattle.base_types.specs.declared.id.ContId.{ContId}
use Rattle.base_types.specs.declared.key.Key.{Key}
use Rattle.base_types.specs.declared.outcome.FloorWhy.{FloorWhy}
use Rattle.base_types.specs.declared.outcome.Outcome.{Outcome}
use Rattle.base_types.specs.declared.outcome.Outcome.TheVariants as outcome
use Rattle.base_types.specs.declared.report.Line.TheVariants as line
use Rattle.model_laws.specs.Members.{Has}
use Rattle.base_messages.specs.declared.actor.ActorId.{ActorId}
use Rattle.base_messages.specs.declared.message.Message.{Message}
use Rattle.base_messages.specs.declared.message.Message.TheVariants as message
use Rattle.daos_model.specs.Attempts.{tries}
use Rattle.daos_model.specs.EntryLaws.{same_attempt-itself}
use Rattle.world_contents.specs.world_commit.attempts.Counting.{has-taken}
use Rattle.world_contents.specs.world_commit.attempts.History.{GrowsBy, History}
use Rattle.world_base.specs.declared.did.Did.{Did}
use Rattle.world_base.specs.declared.target.Collection.{Collection}
use Rattle.world_base.specs.declared.target.TargetMemory.{TargetMemory}
use Rattle.world_base.specs.declared.target.TargetPlan.{TargetPlan}
use Rattle.world_base.specs.declared.world.World.{World}
use Rattle.world_base.specs.Changes.{Change, Kept, Steps}
use Rattle.world_base.specs.Events.{Rules, TargetHearsBy, kept, target_plan}
use Rattle.world_base.specs.Further.{HearsFurther}
use Rattle.world_base.specs.PathLaws.{reached-keeps}
use Rattle.world_base.specs.Snapshots as snap
use Rattle.world_base.specs.Turns.{Reached}
use Rattle.world_contents.specs.world_commit.fates.Facts.{Attempts}
use Rattle.world_causes.specs.outcomes.Concluding.{Concludes}
use Rattle.world_causes.specs.outcomes.Hearing.{hearing-concludes}
use Rattle.world_causes.specs.outcomes.Premises.{CommitsAreOfClients, MakersWriteNothing, makes}
use Rattle.world_causes.specs.outcomes.Storing.{further-unstored}
use Rattle.world_causes.specs.outcomes.Telling.{AreEndsOf, dated-end, failed-end, mapped-untold, none-end, post_to, single}
use Rattle.world_causes.specs.outcomes.Untried.{untried-both, untried-none, untried-one}

-- ---- what is sent, and the lines

-- it tells the end of that attempt alone, and no line tells of one
record Makes (x : AttemptId) (left : TargetMemory × Did) : Type 0 where
  ends : AreEndsOf x left.1.posts
  lines : tries left.1.lines ≡ []

makes-as : (x : AttemptId) (left left2 : TargetMemory × Did) → left ≡ left2 → Makes x left2 → Makes x left
makes-as x left left2 same = subst (Makes x) (sym same)

other-end : (to : ActorId) (m : Message) (a : AttemptId) → ((x : AttemptId) (own : Option Epoch) (how : Outcome) → m ≡ message.Ended x own how → ⊥) → AreEndsOf a (post_to to m ∷ [])
other-end to m a off x own how tells = absurd (off x own how (single to m x own how tells))

-- ---- a Snap and a Freeze

abbrev FreezeLines : snap.FreezeStage → Kept → Type 0
FreezeLines snap.Asked k = Unit {0}
FreezeLines (snap.Known s) k = Unit {0}
FreezeLines (snap.Freezing s) k = Unit {0}
FreezeLines (snap.Frozen s lines) k = tries lines ≡ []
FreezeLines (snap.Created s lines) k = tries lines ≡ []

freeze-lines : (p : TargetPlan) (m : TargetMemory) (reading : ℕ) (tracker : Epoch) (ep : Option Epoch) (c : ContId) (alone : Bool) (s : snap.FreezeStage) (k : Kept) (o : Option Change) (u : snap.FreezeStage) (l : Kept) → snap.FreezeNext p m reading tracker ep c alone s k o u → Steps o k l → FreezeLines s k → FreezeLines u l
freeze-lines p m reading tracker ep c alone s k o u l (snap.HasEpoch k2 e is) steps h = tt
freeze-lines p m reading tracker ep c alone s k o u l (snap.ExtendsLease k2 e lease lt covers) steps h = tt
freeze-lines p m reading tracker ep c alone s k o u l (snap.IsCovered k2 e covered) steps h = tt
freeze-lines p m reading tracker ep c alone s k o u l (snap.FreezesIt k2 e free off) steps h = untried-one (line.Freeze p.me c e) refl
freeze-lines p m reading tracker ep c alone s k o u l (snap.IsFrozen k2 e free on) steps h = untried-none
freeze-lines p m reading tracker ep c alone s k o u l (snap.CreatesIt k2 e lines is) steps h = h

freeze-stage : (p : TargetPlan) (m : TargetMemory) (reading : ℕ) (tracker : Epoch) (ep : Option Epoch) (c : ContId) (alone : Bool) (old new : Kept) (last : snap.FreezeStage) → Reached (snap.FreezeNext p m reading tracker ep c alone) snap.Asked old last new → FreezeLines last new
freeze-stage p m reading tracker ep c alone old new last reached = reached-keeps (snap.FreezeNext p m reading tracker ep c alone) FreezeLines (freeze-lines p m reading tracker ep c alone) snap.Asked old last new reached tt

snap-makes : (p : TargetPlan) (m : TargetMemory) (reading : ℕ) (tracker : Epoch) (x : AttemptId) (c : ContId) (name : Key) (from : ActorId) (s : snap.FreezeStage) (k : Kept) (left : TargetMemory × Did) → FreezeLines s k → snap.SnapEnds p m reading tracker x c name from s k left → Makes x left
snap-makes p m reading tracker x c name from s k left h (snap.IsSpent k2 left2 none is) = makes-as x left2 _ is (record { ends = failed-end from x None outcome.EpochsSpent (λ q. let no : ⊥ = cc in no); lines = untried-none })
snap-makes p m reading tracker x c name from s k left h (snap.IsRefused k2 e how left2 why is) = makes-as x left2 _ is (record { ends = dated-end from x e how; lines = untried-none })
snap-makes p m reading tracker x c name from s k left h (snap.AsksOthers k2 e lines left2 some is) =
    makes-as x left2 _ is (record { ends = mapped-untold x (snap.freeze_to x c e) (λ y z own how q. let no : ⊥ = cc in no) (snap.others p); lines = h })
snap-makes p m reading tracker x c name from s k left h (snap.IsAlone k2 e lines left2 is) =
    makes-as x left2 _ is (record { ends = dated-end from x e outcome.Committed; lines = untried-both lines (line.Snapshot name c e ∷ []) h (untried-one (line.Snapshot name c e) refl) })

freeze-makes : (p : TargetPlan) (m : TargetMemory) (x : AttemptId) (c : ContId) (from : ActorId) (s : snap.FreezeStage) (k : Kept) (left : TargetMemory × Did) → FreezeLines s k → snap.FreezeEnds p m x c from s k left → Makes x left
freeze-makes p m x c from s k left h (snap.IsRefused k2 e how left2 why is) = makes-as x left2 _ is (record { ends = other-end from (message.Held x (Some how)) x (λ y own how2 q. let no : ⊥ = cc in no); lines = untried-none })
freeze-makes p m x c from s k left h (snap.IsHeld k2 e lines left2 is) = makes-as x left2 _ is (record { ends = other-end from (message.Held x None) x (λ y own how2 q. let no : ⊥ = cc in no); lines = h })

-- ---- a Held

held-makes : (p : TargetPlan) (m : TargetMemory) (from : ℕ) (x : AttemptId) (refusal : Option Outcome) (o : Option Collection) → Makes x (snap.held_by p m from x refusal o)
held-makes p m from x None None = record { ends = none-end x; lines = untried-none }
held-makes p m from x (Some how) None = record { ends = none-end x; lines = untried-none }
held-makes p m from x (Some how) (Some c) = record { ends = dated-end c.client x c.epoch how; lines = untried-none }
held-makes p m from x None (Some c) = by (snap.is_last p from c)
  where
    by : (b : Bool) → Makes x (if b then (snap.collected x m, snap.follows (snap.to_actor c.client (message.Ended x (Some c.epoch) outcome.Committed)) [] None) else (snap.counts_held x from m, snap.follows [] [] None))
    by true = record { ends = dated-end c.client x c.epoch outcome.Committed; lines = untried-none }
    by false = record { ends = none-end x; lines = untried-none }

collected-makes : (p : TargetPlan) (m : TargetMemory) (from : ℕ) (x : AttemptId) (refusal : Option Outcome) (s : snap.HeldStage) (k : Kept) (left : TargetMemory × Did) → snap.HeldEnds p m from x refusal s k left → Makes x left
collected-makes p m from x refusal s k left (snap.IsCounted k2 left2 is) = makes-as x left2 _ is (held-makes p m from x refusal (snap.collection_of x m))
collected-makes p m from x refusal s k left (snap.IsCreated k2 c name left2 is) = makes-as x left2 _ is (record { ends = dated-end c.client x c.epoch outcome.Committed; lines = untried-one (line.Snapshot name c.cont c.epoch) refl })

-- ---- a Prune

abbrev PruneLines : snap.PruneStage → Kept → Type 0
PruneLines snap.Asked k = Unit {0}
PruneLines (snap.Known g) k = Unit {0}
PruneLines (snap.Settling g decided) k = Unit {0}
PruneLines (snap.Pruned g lines) k = tries lines ≡ []

prune-lines : (p : TargetPlan) (m : TargetMemory) (reading : ℕ) (tracker : Epoch) (ep : Option Epoch) (c : ContId) (number : ℕ) (s : snap.PruneStage) (k : Kept) (o : Option Change) (u : snap.PruneStage) (l : Kept) → snap.PruneNext p m reading tracker ep c number s k o u → Steps o k l → PruneLines s k → PruneLines u l
prune-lines p m reading tracker ep c number s k o u l (snap.HasEpoch k2 g is) steps h = tt
prune-lines p m reading tracker ep c number s k o u l (snap.ExtendsLease k2 g lease lt covers) steps h = tt
prune-lines p m reading tracker ep c number s k o u l (snap.IsCovered k2 g covered) steps h = tt
prune-lines p m reading tracker ep c number s k o u l (snap.SettlesFirst k2 g a rest) steps h = tt
prune-lines p m reading tracker ep c number s k o u l (snap.PrunesIt k2 g due) steps h = untried-one (line.Aggregate number p.me c (snap.prune_limit c g k.durable)) refl
prune-lines p m reading tracker ep c number s k o u l (snap.PassesBy k2 g off) steps h = untried-none

prune-stage : (p : TargetPlan) (m : TargetMemory) (reading : ℕ) (tracker : Epoch) (ep : Option Epoch) (c : ContId) (number : ℕ) (old new : Kept) (last : snap.PruneStage) → Reached (snap.PruneNext p m reading tracker ep c number) snap.Asked old last new → PruneLines last new
prune-stage p m reading tracker ep c number old new last reached = reached-keeps (snap.PruneNext p m reading tracker ep c number) PruneLines (prune-lines p m reading tracker ep c number) snap.Asked old last new reached tt

aggregate-makes : (p : TargetPlan) (m : TargetMemory) (reading : ℕ) (tracker : Epoch) (x : AttemptId) (c : ContId) (from : ActorId) (s : snap.PruneStage) (k : Kept) (left : TargetMemory × Did) → PruneLines s k → snap.AggregateEnds p m reading tracker x c from s k left → Makes x left
aggregate-makes p m reading tracker x c from s k left h (snap.IsSpent k2 left2 none is) = makes-as x left2 _ is (record { ends = failed-end from x None outcome.EpochsSpent (λ q. let no : ⊥ = cc in no); lines = untried-none })
aggregate-makes p m reading tracker x c from s k left h (snap.AsksOthers k2 g lines left2 some is) =
    makes-as x left2 _ is (record { ends = mapped-untold x (snap.prune_to x c g) (λ y z own how q. let no : ⊥ = cc in no) (snap.others p); lines = h })
aggregate-makes p m reading tracker x c from s k left h (snap.IsAlone k2 g lines left2 all is) = makes-as x left2 _ is (record { ends = dated-end from x g outcome.Committed; lines = h })

pruned-makes : (m : TargetMemory) (x : AttemptId) (from : ActorId) (s : snap.PruneStage) (k : Kept) (left : TargetMemory × Did) → PruneLines s k → snap.PruneEnds m x from s k left → Makes x left
pruned-makes m x from s k left h (snap.IsHeld k2 g lines left2 is) = makes-as x left2 _ is (record { ends = other-end from (message.Held x None) x (λ y own how q. let no : ⊥ = cc in no); lines = h })

-- ---- the turn

-- a message that makes snapshots or aggregates
abbrev pub is_making_message : Message → Bool
is_making_message (message.Snap x cont name tracker) = true
is_making_message (message.Freeze x cont e) = true
is_making_message (message.Held x refusal) = true
is_making_message (message.Prune x cont tracker e) = true
is_making_message m = false

-- it is about one attempt, whose end alone is told
record MakesOne (m : Message) (left : TargetMemory × Did) : Type 0 where
  x : AttemptId
  own : makes x m ≡ true
  so : Makes x left

making-says : (number : ℕ) (p : TargetPlan) (opening : Epoch × FloorWhy) (m : TargetMemory) (reading : ℕ) (from : ActorId) (q : Message) (old new : Kept) (left : TargetMemory × Did) → is_making_message q ≡ true → HearsFurther number p opening m reading from q old new left → MakesOne q left
making-says number p opening m reading from (message.Snap x c called tracker) old new left is h =
    record { x = x; own = same_attempt-itself x; so = snap-makes p m reading tracker x c called from h.last new left (freeze-stage p m reading tracker None c (snap.is_held_by_all p 0) old new h.last h.reached) h.ends }
making-says number p opening m reading from (message.Freeze x c s) old new left is h =
    record { x = x; own = same_attempt-itself x; so = freeze-makes p m x c from h.last new left (freeze-stage p m reading s (Some s) c false old new h.last h.reached) h.ends }
making-says number p opening m reading from (message.Held x refusal) old new left is h = record { x = x; own = same_attempt-itself x; so = collected-makes p m from.number x refusal h.last new left h.ends }
making-says number p opening m reading from (message.Prune x c (Some tracker) None) old new left is h =
    record { x = x; own = same_attempt-itself x; so = aggregate-makes p m reading tracker x c from h.last new left (prune-stage p m reading tracker None c number old new h.last h.reached) h.ends }
making-says number p opening m reading from (message.Prune x c None (Some g)) old new left is h =
    record { x = x; own = same_attempt-itself x; so = pruned-makes m x from h.last new left (prune-stage p m reading g (Some g) c number old new h.last h.reached) h.ends }
making-says number p opening m reading from (message.Prune x c None None) old new left is h = absurd h
making-says number p opening m reading from (message.Prune x c (Some tracker) (Some g)) old new left is h = absurd h
making-says number p opening m reading from q old new left is h = let no : ⊥ = cc in absurd no

pub making-concludes : (number : ℕ) (r : Rules) (h later : History) (w v : World) → Attempts r h w → Attempts r later v → MakersWriteNothing r w → CommitsAreOfClients v → (g : TargetHearsBy (HearsFurther number) r w v) → is_making_message g.l.message ≡ true → GrowsBy h [] later
    → Concludes r h later w v
making-concludes number r h later w v k k2 writes of_clients g making grows =
    hearing-concludes (HearsFurther number) r h later w v k k2 g [] grows of_clients
    (λ x off none. further-unstored x (target_plan r g.t) g.s.opening g.s.memory g.reading g.l.from (kept g.s) none number g.l.message g.new (g.memory, g.did) off g.turn)
    (λ x own how tells. absurd tells.sent)
    (λ x own how some tells. absurd (writes g.l x (has-taken w.messages g.l g.rest g.takes) (subst (λ y. makes y g.l.message ≡ true) (sym (one.so.ends x own how tells).same) one.own) some))
    (λ a i. subst (Has a) one.so.lines i)
  where
    one : MakesOne g.l.message (g.memory, g.did)
    one = making-says number (target_plan r g.t) g.s.opening g.s.memory g.reading g.l.from g.l.message (kept g.s) g.new (g.memory, g.did) making g.turn
