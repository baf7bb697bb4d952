-- What else a target hears: what comes after stops, and what makes snapshots and aggregates.
use Rattle.std.specs.Prelude.{ℕ, ◌≡◌, Bool, true, false, List, [], ◌∷◌, ◌++◌, Option, Some, None}
use Rattle.base_types.specs.declared.epoch.Epoch.{Epoch}
use Rattle.base_types.specs.declared.id.AttemptId.{AttemptId}
use Rattle.base_types.specs.declared.outcome.FloorWhy.{FloorWhy}
use Rattle.base_types.specs.declared.outcome.Outcome.TheVariants.{EpochsSpent, Unknown}
use Rattle.base_messages.specs.declared.actor.ActorId.{ActorId}
use Rattle.base_messages.specs.declared.message.Message.{Message, more_of-Message}
use Rattle.base_messages.specs.declared.message.Message.TheVariants as message
use Rattle.dtx_base.specs.Leading.{first_down}
use Rattle.dtx_base.specs.Members.{with_target}
use Rattle.world_base.specs.declared.did.Did.{Did}
use Rattle.world_base.specs.declared.request.CommitRequest.{CommitRequest}
use Rattle.world_base.specs.declared.target.TargetMemory.{TargetMemory}
use Rattle.world_base.specs.declared.target.TargetPlan.{TargetPlan}
use Rattle.world_base.specs.Acks as ack
use Rattle.world_base.specs.Changes.{Kept}
use Rattle.world_base.specs.Commits.{CommitNext, CommitStage, bits_of, ends_at}
use Rattle.world_base.specs.Commits as commit
use Rattle.world_base.specs.Requests.{request_epoch, says, with_ticks}
use Rattle.world_base.specs.Snapshots as snap
use Rattle.world_base.specs.Statuses.{AtOnce, EndsAs, NoChange, ask_left, down_of, reset_joins, reset_leads, reset_left, status_left, status_refusal}
use Rattle.world_base.specs.Statuses as status
use Rattle.world_base.specs.TargetTurns.{Hearing, commit_request}
use Rattle.world_base.specs.Turns.{Whole}

-- A Commit with a member that is known to be down ends before its writes are checked: no ticks are left for its epoch; or the least such
-- member is told.
pub data CommitDown (t : TargetPlan) (m : TargetMemory) (reading : ℕ) (q : CommitRequest) (from : ActorId) : CommitStage → Kept → TargetMemory × Did → Type 0 where
  IsSpent : (k : Kept) (e : Epoch) (down : ℕ) (left : TargetMemory × Did) → request_epoch t m reading q.tracker q.ep ≡ None → down_of t m q e ≡ Some down
      → left ≡ (m, says from (message.Ended q.attempt None EpochsSpent) None) → CommitDown t m reading q from commit.Asked k left
  IsUnknown : (k : Kept) (e : Epoch) (down : ℕ) (left : TargetMemory × Did) → down_of t m q e ≡ Some down → left ≡ (with_ticks e m, ends_at q from e (Unknown down)) → CommitDown t m reading q from (commit.Checking e) k left

-- that a target is down is remembered, whatever it was asked
abbrev pub knows_down : ℕ → Bool → TargetMemory → TargetMemory
knows_down by true m = record m { leader = record m.leader { down = with_target m.leader.down by } }
knows_down by false m = m

-- a Reset of what target 0 asked of the others for a snapshot or an aggregation, or of what leaders and members ask
abbrev pub collection_left : TargetMemory → ℕ → Bool → Message → TargetMemory × Did
collection_left m by down asked = (knows_down by down (snap.collects_reset by down asked m).0, snap.follows (snap.collects_reset by down asked m).1 [] None)

abbrev pub reset_by : TargetPlan → TargetMemory → ℕ → Bool → Message → Kept → TargetMemory × Did
reset_by t m by down (message.Freeze x c s) k = collection_left m by down (message.Freeze x c s)
reset_by t m by down (message.Prune x c tracker e) k = collection_left m by down (message.Prune x c tracker e)
reset_by t m by down asked k = reset_left t m by down asked k

-- A target hears such a message. The number is that of the aggregation that comes next.
abbrev pub HearsFurther : ℕ → Hearing
HearsFurther number t opening m reading from (message.Commit x ep first tracker ws) old new left =
    Whole (CommitNext t opening m reading (commit_request x ep first tracker ws)) (CommitDown t m reading (commit_request x ep first tracker ws) from) commit.Asked old new left
HearsFurther number t opening m reading from (message.Ask x) old new left = Whole NoChange (EndsAs (ask_left t m from x)) status.Looking old new left
HearsFurther number t opening m reading from (message.Status x inc) old new left = Whole NoChange (EndsAs (status_left m from x inc)) status.Looking old new left
HearsFurther number t opening m reading from (message.StatusIs x inc how) old new left = Whole (ack.AckNext t m from.number x inc (status_refusal x how)) (ack.AckEnds m) ack.Heard old new left
HearsFurther number t opening m reading from (message.Snap x c called tracker) old new left =
    Whole (snap.FreezeNext t m reading tracker None c (snap.is_held_by_all t 0)) (snap.SnapEnds t m reading tracker x c called from) snap.Asked old new left
HearsFurther number t opening m reading from (message.Freeze x c s) old new left = Whole (snap.FreezeNext t m reading s (Some s) c false) (snap.FreezeEnds t m x c from) snap.Asked old new left
HearsFurther number t opening m reading from (message.Held x refusal) old new left = Whole (snap.HeldNext t m from.number x refusal) (snap.HeldEnds t m from.number x refusal) snap.Heard old new left
HearsFurther number t opening m reading from (message.Prune x c (Some tracker) None) old new left =
    Whole (snap.PruneNext t m reading tracker None c number) (snap.AggregateEnds t m reading tracker x c from) snap.Asked old new left
HearsFurther number t opening m reading from (message.Prune x c None (Some g)) old new left = Whole (snap.PruneNext t m reading g (Some g) c number) (snap.PruneEnds m x from) snap.Asked old new left
HearsFurther number t opening m reading from (message.Reset' by down place (more_of-Message asked rest)) old new left = Whole NoChange (EndsAs (reset_by t m by down asked)) status.Looking old new left
HearsFurther number t opening m reading from other old new left = ⊥

-- A Commit with a member that is known to be down isn't heard as another.
abbrev pub KnowsNoneDown : TargetPlan → TargetMemory → Message → Type 0
KnowsNoneDown t m (message.Commit x ep first tracker ws) = (e : Epoch) → down_of t m (commit_request x ep first tracker ws) e ≡ None
KnowsNoneDown t m q = Unit {0}
