-- How turns end in which snapshots are made or containers aggregated.
use Rattle.std.specs.Prelude.{ℕ, ◌≡◌, Bool, true, false, List, [], Option, Some, None, refl, if◌then◌else◌}
use Rattle.std.proofs.Common.{sym, ap, subst}
use Rattle.base_types.specs.declared.epoch.Epoch.{Epoch}
use Rattle.base_types.specs.declared.id.AttemptId.{AttemptId}
use Rattle.base_types.specs.declared.id.ContId.{ContId}
use Rattle.base_types.specs.declared.key.Key.{Key}
use Rattle.base_types.specs.declared.outcome.FloorWhy.{FloorWhy}
use Rattle.base_types.specs.declared.outcome.Outcome.{Outcome}
use Rattle.base_types.specs.declared.outcome.Outcome.TheVariants as outcome
use Rattle.base_messages.specs.declared.actor.ActorId.{ActorId}
use Rattle.base_messages.specs.declared.message.Message.{Message, more_of-Message}
use Rattle.base_messages.specs.declared.message.Message.TheVariants as message
use Rattle.daos_model.specs.Durables.{is_frozen}
use Rattle.dtx_base.specs.Members.{with_target}
use Rattle.world_base.specs.declared.did.Did.{Did}
use Rattle.world_base.specs.declared.target.Collection.{Collection}
use Rattle.world_base.specs.declared.target.TargetMemory.{TargetMemory}
use Rattle.world_base.specs.declared.target.TargetPlan.{TargetPlan}
use Rattle.world_base.specs.Changes.{Kept}
use Rattle.world_base.specs.Further.{HearsFurther, knows_down}
use Rattle.world_base.specs.Snapshots as snap
use Rattle.world_base.specs.Statuses.{AtOnce, EndsAs, IsDone}
use Rattle.world_making.specs.making.Making.{AsksAgain, AsksFreezes, AsksPrunes, EndsCollected, EndsIt, IsOfMaking, MakingEnds, MakingKnows, MakingRequest, MakingStage, SaysFrozen, SaysNothing, SaysPruned, SaysRefused, asks_making, down_then, is_told_of, making_begins, making_issue, ticks_then}
use Rattle.world_making.specs.making.Stages.{FreezeSays, HeldSays, freeze_stage, held_stage, prune_stage}

-- what is known then: these are left to settle and to collect, and these targets are known to be down
abbrev knows_then : List AttemptId → Option Epoch → ℕ → List Collection → TargetMemory → TargetMemory
knows_then rest dated down cs m = record m { ticks = ticks_then dated m.ticks; leader = record m.leader { decided = rest; down = down }; collecting = cs }

knows : (q : Message) (last : MakingStage) (cs : List Collection) (m : TargetMemory) → MakingKnows q last m (knows_then last.unsettled last.dated (down_then q m.leader.down) cs m)
knows q last cs m = record { decided = refl; undecided = refl; named = refl; down = refl; member = refl; stamps = refl; ticks = refl }

ends-as : (p : TargetPlan) (m : TargetMemory) (from : ActorId) (q : Message) (last : MakingStage) (k : Kept) (left to : TargetMemory × Did) → left ≡ to
    → MakingEnds p m from q last k.durable to → MakingEnds p m from q last k.durable left
ends-as p m from q last k left to says = subst (MakingEnds p m from q last k.durable) (sym says)

-- ---- a freeze

abbrev snap_request : AttemptId → ContId → Epoch → MakingRequest
snap_request x c tracker = record { attempt = x; cont = c; ep = None; tracker = tracker }

abbrev freeze_request : AttemptId → ContId → Epoch → MakingRequest
freeze_request x c s = record { attempt = x; cont = c; ep = Some s; tracker = s }

pub snap-ends : (p : TargetPlan) (m : TargetMemory) (reading : ℕ) (tracker : Epoch) (x : AttemptId) (c : ContId) (name : Key) (from : ActorId) (s : snap.FreezeStage) (k : Kept) (left : TargetMemory × Did)
    → FreezeSays p m reading (snap_request x c tracker) s k → snap.SnapEnds p m reading tracker x c name from s k left → MakingEnds p m from (message.Snap x c name tracker) (freeze_stage m s) k.durable left
snap-ends p m reading tracker x c name from s k left h (snap.IsSpent k2 left2 none says) =
    ends-as p m from _ (making_begins m) k2 left2 _ says
    (record { knows = knows _ _ _ m; issued = refl; sends = EndsIt x None outcome.EpochsSpent refl refl })
snap-ends p m reading tracker x c name from s k left h (snap.IsRefused k2 e how left2 why says) =
    ends-as p m from _ _ k2 left2 _ says
    (record { knows = knows _ _ _ m; issued = refl; sends = EndsIt x (Some e) how refl refl })
snap-ends p m reading tracker x c name from s k left h (snap.AsksOthers k2 e lines left2 others says) =
    ends-as p m from _ _ k2 left2 _ says
    (record { knows = knows _ _ _ m; issued = refl; sends = AsksFreezes x c name tracker e refl h.1 refl })
snap-ends p m reading tracker x c name from s k left h (snap.IsAlone k2 e lines left2 says) =
    ends-as p m from _ _ k2 left2 _ says
    (record { knows = knows _ _ _ m; issued = refl; sends = EndsIt x (Some e) outcome.Committed refl refl })

pub freeze-ends : (p : TargetPlan) (m : TargetMemory) (reading : ℕ) (x : AttemptId) (c : ContId) (asked : Epoch) (from : ActorId) (s : snap.FreezeStage) (k : Kept) (left : TargetMemory × Did)
    → FreezeSays p m reading (freeze_request x c asked) s k → snap.FreezeEnds p m x c from s k left → MakingEnds p m from (message.Freeze x c asked) (freeze_stage m s) k.durable left
freeze-ends p m reading x c asked from s k left h (snap.IsRefused k2 e how left2 why says) =
    let its : asked ≡ e = cc (h.epoch) in
    ends-as p m from _ _ k2 left2 _ says
    (record {
      knows = knows _ _ _ m;
      issued = refl;
      sends = SaysRefused x c asked how refl (subst (λ z. snap.freeze_cause p c z k2.durable ≡ Some how) (sym its) why) refl;
    })
freeze-ends p m reading x c asked from s k left h (snap.IsHeld k2 e lines left2 says) =
    let its : asked ≡ e = cc (h.0.epoch) in
    ends-as p m from _ _ k2 left2 _ says
    (record {
      knows = knows _ _ _ m;
      issued = refl;
      sends = SaysFrozen x c asked refl (subst (λ z. is_frozen k2.durable c z ≡ true) (sym its) h.1) refl;
    })

-- ---- a prune

pub aggregate-ends : (p : TargetPlan) (m : TargetMemory) (reading : ℕ) (tracker : Epoch) (x : AttemptId) (c : ContId) (from : ActorId) (s : snap.PruneStage) (k : Kept) (left : TargetMemory × Did)
    → snap.AggregateEnds p m reading tracker x c from s k left → MakingEnds p m from (message.Prune x c (Some tracker) None) (prune_stage m s) k.durable left
aggregate-ends p m reading tracker x c from s k left (snap.IsSpent k2 left2 none says) =
    ends-as p m from _ (making_begins m) k2 left2 _ says
    (record { knows = knows _ _ _ m; issued = refl; sends = EndsIt x None outcome.EpochsSpent refl refl })
aggregate-ends p m reading tracker x c from s k left (snap.AsksOthers k2 g lines left2 others says) =
    ends-as p m from _ _ k2 left2 _ says
    (record { knows = knows _ _ _ m; issued = refl; sends = AsksPrunes x c tracker g refl refl })
aggregate-ends p m reading tracker x c from s k left (snap.IsAlone k2 g lines left2 only says) =
    ends-as p m from _ _ k2 left2 _ says
    (record { knows = knows _ _ _ m; issued = refl; sends = EndsIt x (Some g) outcome.Committed refl refl })

pub prune-ends : (p : TargetPlan) (m : TargetMemory) (x : AttemptId) (c : ContId) (asked : Epoch) (from : ActorId) (s : snap.PruneStage) (k : Kept) (left : TargetMemory × Did)
    → snap.PruneEnds m x from s k left → MakingEnds p m from (message.Prune x c None (Some asked)) (prune_stage m s) k.durable left
prune-ends p m x c asked from s k left (snap.IsHeld k2 g lines left2 says) =
    ends-as p m from _ _ k2 left2 _ says
    (record { knows = knows _ _ _ m; issued = refl; sends = SaysPruned x c asked refl refl })

-- ---- a Held

module _ (p : TargetPlan) (m : TargetMemory) (from : ActorId) (x : AttemptId) where
  counted-ends : (refusal : Option Outcome) (k : Kept) (o : Option Collection) → snap.collection_of x m ≡ o
      → MakingEnds p m from (message.Held x refusal) (making_begins m) k.durable (snap.held_by p m from.number x refusal o)
  counted-ends refusal k None at = record { knows = knows _ _ _ m; issued = refl; sends = SaysNothing refl refl }
  counted-ends (Some how) k (Some c) at = record { knows = knows _ _ _ m; issued = refl; sends = EndsCollected x c how refl at refl }
  counted-ends None k (Some c) at = by (snap.is_last p from.number c)
    where
      ends : Bool → TargetMemory × Did
      ends b =
          if b then (snap.collected x m, snap.follows (snap.to_actor c.client (message.Ended x (Some c.epoch) outcome.Committed)) [] None) else (snap.counts_held x from.number m, snap.follows [] [] None)

      by : (b : Bool) → MakingEnds p m from (message.Held x None) (making_begins m) k.durable (ends b)
      by true = record { knows = knows _ _ _ m; issued = refl; sends = EndsCollected x c outcome.Committed refl at refl }
      by false = record { knows = knows _ _ _ m; issued = refl; sends = SaysNothing refl refl }

  pub held-ends : (refusal : Option Outcome) (s : snap.HeldStage) (k : Kept) (left : TargetMemory × Did) → HeldSays m x s k → snap.HeldEnds p m from.number x refusal s k left
      → MakingEnds p m from (message.Held x refusal) (held_stage m s) k.durable left
  held-ends refusal s k left h (snap.IsCounted k2 left2 says) = ends-as p m from _ _ k2 left2 _ says (counted-ends refusal k2 (snap.collection_of x m) refl)
  held-ends refusal s k left h (snap.IsCreated k2 c name left2 says) =
      ends-as p m from _ _ k2 left2 _ says
      (record { knows = knows _ _ _ m; issued = refl; sends = EndsCollected x c outcome.Committed refl h refl })

-- ---- a Reset

pub as-done : (left_by : Kept → TargetMemory × Did) (s : AtOnce) (k : Kept) (left : TargetMemory × Did) → EndsAs left_by s k left → left ≡ left_by k
as-done left_by s k left (IsDone k2 left2 says) = says

module _ (p : TargetPlan) (m : TargetMemory) (from : ActorId) (by : ℕ) (asked : Message) (x : AttemptId) where
  abbrev lost_left : Bool → Option Collection → TargetMemory × Did
  lost_left down o = (knows_down by down (snap.collection_reset by down asked x o m).0, snap.follows (snap.collection_reset by down asked x o m).1 [] None)

  unissued : (q : Message) → asks_making q ≡ None → None ≡ making_issue (asks_making q) None
  unissued q none = sym (ap (λ o. making_issue o None) none)

  -- the other target is down
  down-ends : (q : Message) (k : Kept) → down_then q m.leader.down ≡ with_target m.leader.down by → asks_making q ≡ None → is_told_of x q → (o : Option Collection) → snap.collection_of x m ≡ o
      → MakingEnds p m from q (making_begins m) k.durable (lost_left true o)
  down-ends q k down none of None at =
      record { knows = record { decided = refl; undecided = refl; named = refl; down = sym down; member = refl; stamps = refl; ticks = refl }; issued = unissued q none; sends = SaysNothing none refl }
  down-ends q k down none of (Some c) at =
      record { knows = record { decided = refl; undecided = refl; named = refl; down = sym down; member = refl; stamps = refl; ticks = refl }; issued = unissued q none; sends = EndsCollected x c (outcome.Unknown by) of at refl }

abbrev IsReset : Message → Type 0
IsReset (message.Reset' by down place more) = Unit {0}
IsReset m = ⊥

-- what is told of a collection, or asked again
pub lost-ends : (number : ℕ) (p : TargetPlan) (opening : Epoch × FloorWhy) (m : TargetMemory) (reading : ℕ) (from : ActorId) (q : Message) (old new : Kept) (left : TargetMemory × Did)
    → IsReset q → HearsFurther number p opening m reading from q old new left → IsOfMaking q → MakingEnds p m from q (making_begins m) new.durable left
lost-ends number p opening m reading from (message.Reset' by true place (more_of-Message (message.Freeze x c s) rest)) old new left reset h is =
    ends-as p m from _ _ new left _ (as-done _ h.last new left h.ends) (down-ends p m from by (message.Freeze x c s) x _ new refl refl refl (snap.collection_of x m) refl)
lost-ends number p opening m reading from (message.Reset' by true place (more_of-Message (message.Prune x c tracker e) rest)) old new left reset h is =
    ends-as p m from _ _ new left _ (as-done _ h.last new left h.ends) (down-ends p m from by (message.Prune x c tracker e) x _ new refl refl refl (snap.collection_of x m) refl)
lost-ends number p opening m reading from (message.Reset' by false place (more_of-Message (message.Freeze x c s) rest)) old new left reset h is =
    ends-as p m from _ _ new left _ (as-done _ h.last new left h.ends)
    (record { knows = knows _ _ _ m; issued = refl; sends = AsksAgain by (message.Freeze x c s) (refl, refl) refl })
lost-ends number p opening m reading from (message.Reset' by false place (more_of-Message (message.Prune x c tracker e) rest)) old new left reset h is =
    ends-as p m from _ _ new left _ (as-done _ h.last new left h.ends)
    (record { knows = knows _ _ _ m; issued = refl; sends = AsksAgain by (message.Prune x c tracker e) (refl, refl) refl })
lost-ends number p opening m reading from (message.Reset' by true place (more_of-Message (message.Snap x c name tracker) rest)) old new left reset h is =
    ends-as p m from _ _ new left _ (as-done _ h.last new left h.ends)
    (record { knows = knows _ _ _ m; issued = refl; sends = SaysNothing refl refl })
lost-ends number p opening m reading from (message.Reset' by false place (more_of-Message (message.Snap x c name tracker) rest)) old new left reset h is =
    ends-as p m from _ _ new left _ (as-done _ h.last new left h.ends)
    (record { knows = knows _ _ _ m; issued = refl; sends = SaysNothing refl refl })
lost-ends number p opening m reading from (message.Reset' by true place (more_of-Message (message.Held x refusal) rest)) old new left reset h is =
    ends-as p m from _ _ new left _ (as-done _ h.last new left h.ends)
    (record { knows = knows _ _ _ m; issued = refl; sends = SaysNothing refl refl })
lost-ends number p opening m reading from (message.Reset' by false place (more_of-Message (message.Held x refusal) rest)) old new left reset h is =
    ends-as p m from _ _ new left _ (as-done _ h.last new left h.ends)
    (record { knows = knows _ _ _ m; issued = refl; sends = SaysNothing refl refl })
lost-ends number p opening m reading from (message.Reset' by down place (more_of-Message asked rest)) old new left reset h is = let no : ⊥ = cc in absurd no
lost-ends number p opening m reading from q old new left reset h is = absurd reset
