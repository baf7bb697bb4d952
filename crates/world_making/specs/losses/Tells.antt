-- What a target tells that hears of a snapshot or an aggregation: nothing of it tells of a stop, but what tells again of a loss.
use Rattle.std.specs.Prelude.{ℕ, ◌≡◌, ◌&&◌, Bool, true, false, List, [], ◌∷◌, Option, Some, None, refl, if◌then◌else◌}
use Rattle.std.proofs.Common.{◌∙◌, ap, inl, inr}
use Rattle.base_types.specs.declared.epoch.Epoch.{Epoch}
use Rattle.base_types.specs.declared.id.AttemptId.{AttemptId}
use Rattle.base_types.specs.declared.id.ContId.{ContId}
use Rattle.base_types.specs.declared.key.Key.{Key}
use Rattle.base_types.specs.declared.outcome.Cause.TheVariants as cause
use Rattle.base_types.specs.declared.outcome.Outcome.{Outcome}
use Rattle.base_types.specs.declared.outcome.Outcome.TheVariants as outcome
use Rattle.base_types.specs.declared.report.Line.{Line}
use Rattle.base_types.specs.declared.report.Line.TheVariants as line
use Rattle.base_messages.specs.declared.actor.ActorId.{ActorId}
use Rattle.base_messages.specs.declared.message.Message.{Message, more_of-Message}
use Rattle.base_messages.specs.declared.message.Message.TheVariants as message
use Rattle.daos_model.specs.Attempts.{is_lost, tried, tries}
use Rattle.daos_model.specs.Durables.{same_attempt}
use Rattle.dtx_base.specs.declared.member.Parked.{Parked}
use Rattle.model_laws.specs.Members.{Has}
use Rattle.world_causes.specs.world_commit.attempts.Counting.{has-taken}
use Rattle.world_base.specs.declared.did.Did.{Did}
use Rattle.world_base.specs.declared.target.Collection.{Collection}
use Rattle.world_base.specs.declared.target.TargetMemory.{TargetMemory}
use Rattle.world_base.specs.declared.target.TargetPlan.{TargetPlan}
use Rattle.world_base.specs.declared.world.World.{World}
use Rattle.world_base.specs.Changes.{Kept}
use Rattle.world_base.specs.Events.{Rules, TargetHearsBy, kept, target_plan}
use Rattle.world_base.specs.Further.{HearsFurther}
use Rattle.world_base.specs.Snapshots as snap
use Rattle.world_letters.specs.lives.TurnLines.{IsTurnLine}
use Rattle.world_causes.specs.losses.Hearing.{hearing-recalls}
use Rattle.world_causes.specs.losses.Losses.{Losses}
use Rattle.world_causes.specs.losses.Recalling.{Recalls}
use Rattle.world_causes.specs.losses.Resets.{WaitForOthers, is_reset, reset-recalls, unknown-quiet}
use Rattle.world_causes.specs.losses.Silent.{TellNone, all-none, as-told, none-tell, one-tells, told-as}
use Rattle.world_making.specs.losses.RefusalEvents.{cause-refuses}
use Rattle.world_making.specs.losses.Refusals.{FreezesAreRefusedSo, IsFreezeRefusal, IsHeldSo}
use Rattle.world_making.specs.making.Making.{IsOfMaking, MakingLeaves, is_of_snapshots}
use Rattle.world_making.specs.making.Turns.{hearings-leave}
use Rattle.world_causes.specs.outcomes.Untried.{untried-both, untried-none, untried-one}

-- ---- lines

-- lines of freezes, aggregations and snapshots tell of no attempt
turn-line-untried : (t : ℕ) (l : Line) → IsTurnLine t l → tried l ≡ []
turn-line-untried t (line.Freeze u c e) is = refl
turn-line-untried t (line.Aggregate n u c e) is = refl
turn-line-untried t (line.Snapshot name c e) is = refl
turn-line-untried t l is = absurd is

pub turn-lines-untried : (t : ℕ) (ls : List Line) → ((l : Line) → Has l ls → IsTurnLine t l) → tries ls ≡ []
turn-lines-untried t [] own = untried-none
turn-lines-untried t (l ∷ ls) own =
    untried-both (l ∷ []) ls (untried-one l (turn-line-untried t l (own l (inl refl)))) (turn-lines-untried t ls (λ n i. own n (inr i)))

-- ---- ends

-- an attempt whose freeze is refused isn't unresolved by itself
refusal-unlost : (x : AttemptId) (how : Outcome) → IsFreezeRefusal how → is_lost x how ≡ false
refusal-unlost x (outcome.Restart (cause.Floor target floor reason)) is = refl
refusal-unlost x (outcome.NoSpace target need free) is = refl
refusal-unlost x how is = absurd is

refusal-mute : (a : AttemptId) (how : Outcome) → IsFreezeRefusal how → (x : AttemptId) → (same_attempt a x && is_lost x how) ≡ false
refusal-mute a how is x = ap (λ b. same_attempt a x && b) (refusal-unlost x how is) ∙ unknown-quiet a x

-- ---- a Snap and a Freeze

snap-none : (p : TargetPlan) (m : TargetMemory) (reading : ℕ) (tracker : Epoch) (x : AttemptId) (c : ContId) (name : Key) (from : ActorId) (s : snap.FreezeStage) (k : Kept)
    (left : TargetMemory × Did)
    → snap.SnapEnds p m reading tracker x c name from s k left → TellNone left.1.posts
snap-none p m reading tracker x c name from s k left (snap.IsSpent k2 left2 none says) = told-as left2.1.posts _ (ap (λ i. i.1.posts) says) (one-tells _ (λ y. unknown-quiet x y))
snap-none p m reading tracker x c name from s k left (snap.IsRefused k2 e how left2 why says) =
    told-as left2.1.posts _ (ap (λ i. i.1.posts) says) (one-tells _ (refusal-mute x how (cause-refuses p c e k2.durable how why)))
snap-none p m reading tracker x c name from s k left (snap.AsksOthers k2 e lines left2 others says) =
    told-as left2.1.posts _ (ap (λ i. i.1.posts) says) (all-none (snap.freeze_to x c e) (snap.others p) (λ t y. refl))
snap-none p m reading tracker x c name from s k left (snap.IsAlone k2 e lines left2 says) = told-as left2.1.posts _ (ap (λ i. i.1.posts) says) (one-tells _ (λ y. unknown-quiet x y))

freeze-none : (p : TargetPlan) (m : TargetMemory) (x : AttemptId) (c : ContId) (from : ActorId) (s : snap.FreezeStage) (k : Kept) (left : TargetMemory × Did)
    → snap.FreezeEnds p m x c from s k left → TellNone left.1.posts
freeze-none p m x c from s k left (snap.IsRefused k2 e how left2 why says) = told-as left2.1.posts _ (ap (λ i. i.1.posts) says) (one-tells _ (λ y. refl))
freeze-none p m x c from s k left (snap.IsHeld k2 e lines left2 says) = told-as left2.1.posts _ (ap (λ i. i.1.posts) says) (one-tells _ (λ y. refl))

-- ---- a Prune

aggregate-none : (p : TargetPlan) (m : TargetMemory) (reading : ℕ) (tracker : Epoch) (x : AttemptId) (c : ContId) (from : ActorId) (s : snap.PruneStage) (k : Kept)
    (left : TargetMemory × Did)
    → snap.AggregateEnds p m reading tracker x c from s k left → TellNone left.1.posts
aggregate-none p m reading tracker x c from s k left (snap.IsSpent k2 left2 none says) = told-as left2.1.posts _ (ap (λ i. i.1.posts) says) (one-tells _ (λ y. unknown-quiet x y))
aggregate-none p m reading tracker x c from s k left (snap.AsksOthers k2 g lines left2 others says) =
    told-as left2.1.posts _ (ap (λ i. i.1.posts) says) (all-none (snap.prune_to x c g) (snap.others p) (λ t y. refl))
aggregate-none p m reading tracker x c from s k left (snap.IsAlone k2 g lines left2 only says) = told-as left2.1.posts _ (ap (λ i. i.1.posts) says)
    (one-tells _ (λ y. unknown-quiet x y))

prune-none : (m : TargetMemory) (x : AttemptId) (from : ActorId) (s : snap.PruneStage) (k : Kept) (left : TargetMemory × Did) → snap.PruneEnds m x from s k left
    → TellNone left.1.posts
prune-none m x from s k left (snap.IsHeld k2 g lines left2 says) = told-as left2.1.posts _ (ap (λ i. i.1.posts) says) (one-tells _ (λ y. refl))

-- ---- a Held

counted-none : (p : TargetPlan) (m : TargetMemory) (from : ℕ) (x : AttemptId) (refusal : Option Outcome) (o : Option Collection) → IsHeldSo (message.Held x refusal)
    → TellNone (snap.held_by p m from x refusal o).1.posts
counted-none p m from x refusal None so = none-tell
counted-none p m from x (Some how) (Some c) so = one-tells _ (refusal-mute x how so)
counted-none p m from x None (Some c) so = by (snap.is_last p from c)
  where
    ends : Bool → TargetMemory × Did
    ends b =
        if b then (snap.collected x m, snap.follows (snap.to_actor c.client (message.Ended x (Some c.epoch) outcome.Committed)) [] None) else
        (snap.counts_held x from m, snap.follows [] [] None)

    by : (b : Bool) → TellNone (ends b).1.posts
    by true = one-tells _ (λ y. unknown-quiet x y)
    by false = none-tell

held-none : (p : TargetPlan) (m : TargetMemory) (from : ℕ) (x : AttemptId) (refusal : Option Outcome) (s : snap.HeldStage) (k : Kept) (left : TargetMemory × Did)
    → IsHeldSo (message.Held x refusal)
    → snap.HeldEnds p m from x refusal s k left → TellNone left.1.posts
held-none p m from x refusal s k left so (snap.IsCounted k2 left2 says) =
    told-as left2.1.posts (snap.held_by p m from x refusal (snap.collection_of x m)).1.posts (ap (λ i. i.1.posts) says) (counted-none p m from x refusal (snap.collection_of x m) so)
held-none p m from x refusal s k left so (snap.IsCreated k2 c name left2 says) = told-as left2.1.posts _ (ap (λ i. i.1.posts) says) (one-tells _ (λ y. unknown-quiet x y))

-- ---- the event

-- a Reset of such a message is about no attempt that reads
making-waits : (q : Message) (ps : List Parked) → IsOfMaking q → WaitForOthers q ps
making-waits (message.Verdict a ask inc v) ps is = let no : ⊥ = cc in absurd no
making-waits (message.Reset' by down place (more_of-Message q rest)) ps is = inner q is
  where
    inner : (q : Message) → is_of_snapshots q ≡ true → WaitForOthers (message.Reset' by down place (more_of-Message q rest)) ps
    inner (message.Query a ask) is = let no : ⊥ = cc in absurd no
    inner q is = tt
making-waits q ps is = tt

module _ (number : ℕ) (r : Rules) (w v : World) (losses : Losses r w) (refusals : FreezesAreRefusedSo w) (g : TargetHearsBy (HearsFurther number) r w v)
    (is : IsOfMaking g.l.message) where
  left : MakingLeaves number (target_plan r g.t) g.s.memory g.reading g.l.from g.l.message (kept g.s) g.new (g.memory, g.did)
  left = hearings-leave number (target_plan r g.t) g.s.opening g.s.memory g.reading g.l.from g.l.message (kept g.s) g.new (g.memory, g.did) g.turn is

  quietly : TellNone g.did.posts → Recalls r w v
  quietly none = hearing-recalls (HearsFurther number) r w v losses g (as-told g.l.message g.did.posts none) (turn-lines-untried (target_plan r g.t).me g.did.lines left.lines)

  pub making-recalls : Recalls r w v
  making-recalls = by g.l.message refl is (refusals g.l (has-taken w.messages g.l g.rest g.takes)) g.turn
    where
      by : (m : Message) → g.l.message ≡ m → IsOfMaking m → IsHeldSo m
          → HearsFurther number (target_plan r g.t) g.s.opening g.s.memory g.reading g.l.from m (kept g.s) g.new (g.memory, g.did) → Recalls r w v
      by (message.Snap x c name tracker) same making so turn = quietly
          (snap-none (target_plan r g.t) g.s.memory g.reading tracker x c name g.l.from turn.last g.new (g.memory, g.did) turn.ends)
      by (message.Freeze x c s) same making so turn = quietly (freeze-none (target_plan r g.t) g.s.memory x c g.l.from turn.last g.new (g.memory, g.did) turn.ends)
      by (message.Held x refusal) same making so turn = quietly (held-none (target_plan r g.t) g.s.memory g.l.from.number x refusal turn.last g.new (g.memory, g.did) so turn.ends)
      by (message.Prune x c (Some tracker) None) same making so turn = quietly
          (aggregate-none (target_plan r g.t) g.s.memory g.reading tracker x c g.l.from turn.last g.new (g.memory, g.did) turn.ends)
      by (message.Prune x c None (Some e)) same making so turn = quietly (prune-none g.s.memory x g.l.from turn.last g.new (g.memory, g.did) turn.ends)
      by (message.Prune x c None None) same making so turn = absurd turn
      by (message.Prune x c (Some tracker) (Some e)) same making so turn = absurd turn
      by (message.Reset' t down place more) same making so turn = reset-recalls number r w v losses g (ap is_reset same) (making-waits g.l.message g.s.memory.member.parked is)
      by m same making so turn = let no : ⊥ = cc in absurd no
