-- Whole turns in which a target hears a Commit with a member that is known to be down.
use Rattle.std.proofs.Common.{ℕ, ◌≡◌, ◌/◌, ◌≤◌, ◌<◌, refl, sym, ◌∙◌, ap, subst, Option, Some, None, Result, Ok, Err}
use Rattle.std.specs.Prelude.{IfOk, IfErr}
use Rattle.base_types.specs.declared.epoch.Epoch.{Epoch}
use Rattle.base_types.specs.declared.outcome.FloorWhy.{FloorWhy}
use Rattle.base_types.specs.declared.outcome.Outcome.TheVariants as outcome
use Rattle.base_types.specs.Epochs.{lease_for}
use Rattle.base_messages.specs.declared.actor.ActorId.{ActorId}
use Rattle.base_messages.specs.declared.message.Message.TheVariants as message
use Rattle.daos_model.specs.declared.durable.Durable.{Durable}
use Rattle.daos_model.specs.Changes.{leased}
use Rattle.vos_store.specs.Calls.{State}
use Rattle.world_base.specs.declared.did.Did.{Did as DidOf}
use Rattle.world_base.specs.declared.request.CommitRequest.{CommitRequest}
use Rattle.world_base.specs.declared.target.TargetMemory.{TargetMemory}
use Rattle.world_base.specs.declared.target.TargetPlan.{TargetPlan}
use Rattle.world_base.specs.Changes.{Extends, Kept}
use Rattle.world_base.specs.Commits as commit
use Rattle.world_base.specs.Commits.{CommitNext, ends_at}
use Rattle.world_base.specs.CutTurns.{Before, UnstoredNext}
use Rattle.world_base.specs.Further as further
use Rattle.world_base.specs.Further.{CommitDown}
use Rattle.world_base.specs.PathLaws.{reached-here}
use Rattle.world_base.specs.Requests.{request_epoch, says, with_ticks}
use Rattle.world_base.specs.Statuses.{down_of}
use Rattle.world_base.specs.Turns.{Reached, Whole}
use Rattle.target_parts.specs.declared.halt.Halt.TheVariants as halt
use Rattle.target_parts.specs.declared.stop.TargetStop.{TargetStop}
use Rattle.target_parts.specs.Covers.{CoverCut, Covers}
use Rattle.target_parts.specs.Ending.{partway_of, turn_said}
use Rattle.target_parts.specs.Parts.{Now, Stays, kept, left_by}
use Rattle.target_parts.specs.Readying.{covers_cut, covers_reached, leases}
use Rattle.target_parts.specs.Stops.{commit_issued, stop_memory, stop_of}
use Rattle.target_parts.specs.Turning.{now_stays, whole}
use Rattle.target_writes.specs.Turns.{DownTurn}

module _ (t : TargetPlan) (opening : Epoch × FloorWhy) (m : TargetMemory) (reading : ℕ) (q : CommitRequest) (from : ActorId) (d : Durable) (h k : State) (new : Option Durable) (finds : Durable → Type 0) where
  -- the steps to where the lease covers the epoch
  has : (e : Epoch) → request_epoch t m reading q.tracker q.ep ≡ Some e → (l : Kept) → UnstoredNext t opening m reading q commit.Asked l None (commit.Known e)
  has e ep l = Before commit.Asked (commit.Known e) l None (commit.HasEpoch l e ep) refl

  extends : (e : Epoch) (l : Kept) (lease : ℕ) → l.durable.lease < e.0 / 256 → lease_for (e.0 / 256) ≡ Some lease → UnstoredNext t opening m reading q (commit.Known e) l (Some (Extends lease)) (commit.Known e)
  extends e l lease low is = Before (commit.Known e) (commit.Known e) l (Some (Extends lease)) (commit.ExtendsLease l e lease low is) refl

  covered : (e : Epoch) (l : Kept) → e.0 / 256 ≤ l.durable.lease → UnstoredNext t opening m reading q (commit.Known e) l None (commit.Checking e)
  covered e l is = Before (commit.Known e) (commit.Checking e) l None (commit.IsCovered l e is) refl

  module _ (left : TargetMemory) (result : Result DidOf TargetStop) (told : DidOf) (ok : IfOk result (λ did. did ≡ told)) (wanting : IfErr result (λ stop. stop ≡ stop_memory)) where
    -- the client is told of the member
    pub down-told : (e : Epoch) (down : ℕ) → request_epoch t m reading q.tracker q.ep ≡ Some e → down_of t m q e ≡ Some down → Covers (e.0 / 256) d h new k → left ≡ with_ticks e m → told ≡ ends_at q from e (outcome.Unknown down)
        → DownTurn t opening m reading q from d h new k finds left result
    down-told e down ep is covers left_is told_is =
        turn_said (UnstoredNext t opening m reading q) (commit_issued q) commit.Asked (kept d h) new k finds (λ did l. Whole (UnstoredNext t opening m reading q) (CommitDown t m reading q from) commit.Asked (kept d h) l (left, did)) result told ok wanting done
        (partway_of (UnstoredNext t opening m reading q) (CommitDown t m reading q from) commit.Asked (kept d h) new k (left, told) done)
      where
        done : Now new k (λ l. Whole (UnstoredNext t opening m reading q) (CommitDown t m reading q from) commit.Asked (kept d h) l (left, told))
        done =
            let lease = leases (e.0 / 256) d h new k covers in
            record {
              durable = leased lease.lease d;
              kept_is = lease.kept_is;
              holds = whole (UnstoredNext t opening m reading q) (CommitDown t m reading q from) commit.Asked (kept d h) (kept (leased lease.lease d) k) (commit.Checking e) (left, told)
                  (covers_reached (UnstoredNext t opening m reading q) (commit_issued q) commit.Asked (commit.Known e) (commit.Checking e) (e.0 / 256) (has e ep) (extends e) (covered e) refl d h new k covers (leased lease.lease d) lease.kept_is)
                  (further.IsUnknown (kept (leased lease.lease d) k) e down (left, told) is (ap (λ x. (x, told)) left_is ∙ ap (λ x. (with_ticks e m, x)) told_is));
            }

    -- or no ticks are left
    pub down-spent : (e : Epoch) (down : ℕ) → request_epoch t m reading q.tracker q.ep ≡ None → down_of t m q e ≡ Some down → Stays d h new k → left ≡ m → told ≡ says from (message.Ended q.attempt None outcome.EpochsSpent) None
        → DownTurn t opening m reading q from d h new k finds left result
    down-spent e down ep is stays left_is told_is =
        turn_said (UnstoredNext t opening m reading q) (commit_issued q) commit.Asked (kept d h) new k finds (λ did l. Whole (UnstoredNext t opening m reading q) (CommitDown t m reading q from) commit.Asked (kept d h) l (left, did)) result told ok wanting done
        (partway_of (UnstoredNext t opening m reading q) (CommitDown t m reading q from) commit.Asked (kept d h) new k (left, told) done)
      where
        done : Now new k (λ l. Whole (UnstoredNext t opening m reading q) (CommitDown t m reading q from) commit.Asked (kept d h) l (left, told))
        done = record {
          durable = d;
          kept_is = stays.kept_is;
          holds = whole (UnstoredNext t opening m reading q) (CommitDown t m reading q from) commit.Asked (kept d h) (kept d k) commit.Asked (left, told)
              (now_stays (λ l. Reached (UnstoredNext t opening m reading q) commit.Asked (kept d h) commit.Asked l) d h k new stays (reached-here (UnstoredNext t opening m reading q) commit.Asked (kept d h)))
              (further.IsSpent (kept d k) e down (left, told) ep is (ap (λ x. (x, told)) left_is ∙ ap (λ x. (m, x)) told_is));
        }

  -- or the lease was to be extended, and that was cut
  pub down-cut : (left : TargetMemory) (e : Epoch) (stop : TargetStop) → request_epoch t m reading q.tracker q.ep ≡ Some e → CoverCut (e.0 / 256) d h (left_by k finds) → stop ≡ stop_of halt.Stopped None → DownTurn t opening m reading q from d h new k finds left (Err stop)
  down-cut left e stop ep cut is =
      subst (λ x. DownTurn t opening m reading q from d h new k finds left (Err x)) (sym is)
      (covers_cut (UnstoredNext t opening m reading q) (commit_issued q) commit.Asked (commit.Known e) (commit.Checking e) (e.0 / 256) (has e ep) (extends e) (covered e) refl d h (left_by k finds) cut)
