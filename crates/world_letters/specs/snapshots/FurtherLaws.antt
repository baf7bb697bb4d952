-- Every further turn leaves it so.
use Rattle.std.specs.Prelude.{ℕ, ◌≡◌, Bool, false, List, [], Option, Some, None, refl}
use Rattle.std.proofs.Common.{ap}
use Rattle.base_types.specs.declared.epoch.Epoch.{Epoch}
use Rattle.base_types.specs.declared.id.AttemptId.{AttemptId}
use Rattle.base_types.specs.declared.id.ContId.{ContId}
use Rattle.base_types.specs.declared.outcome.FloorWhy.{FloorWhy}
use Rattle.base_messages.specs.declared.actor.ActorId.{ActorId}
use Rattle.base_messages.specs.declared.message.Message.{Message, more_of-Message}
use Rattle.base_messages.specs.declared.message.Message.TheVariants as message
use Rattle.world_base.specs.model_laws.Members.{Has}
use Rattle.world_base.specs.declared.did.Did.{Did}
use Rattle.world_base.specs.declared.target.Collection.{Collection}
use Rattle.world_base.specs.declared.target.TargetMemory.{TargetMemory}
use Rattle.world_base.specs.declared.target.TargetPlan.{TargetPlan}
use Rattle.world_base.specs.Acks as ack
use Rattle.world_base.specs.Changes.{Kept}
use Rattle.world_base.specs.CutTurns.{lines_of}
use Rattle.world_base.specs.Events.{Rules}
use Rattle.world_base.specs.Further.{HearsFurther}
use Rattle.world_base.specs.PathLaws.{reached-keeps}
use Rattle.world_base.specs.Snapshots as snap
use Rattle.world_base.specs.TargetTurns.{commit_request}
use Rattle.world_base.specs.Turns.{Reached}
use Rattle.world_letters.specs.lives.CutLines.{path-said}
use Rattle.world_letters.specs.snapshots.Further.{LeavesSo, aggregate-left, at-once, down-left, freeze-left, held-left, made-step, prune-left, reset-left, same-left, snap-left}
use Rattle.world_letters.specs.snapshots.Makings.{CollectsSo, IsSo}
use Rattle.world_letters.specs.snapshots.Memories.{ack-same}
use Rattle.world_letters.specs.snapshots.Stages.{FrozenSo, PrunedSo, frozen-step, pruned-step}

module _ (r : Rules) (is : List (AttemptId × Epoch)) (t : TargetPlan) (opening : Epoch × FloorWhy) (m : TargetMemory) (reading : ℕ) (from : ActorId) (old new : Kept) (left : TargetMemory × Did)
    (before : (c : Collection) → Has c m.collecting → CollectsSo r is c) (issued : (x : AttemptId) (e : Epoch) → left.1.issued ≡ Some (x, e) → Has (x, e) is) (number : ℕ) where
  frozen-at : (tracker : Epoch) (ep : Option Epoch) (c : ContId) (alone : Bool) (last : snap.FreezeStage) (w : Reached (snap.FreezeNext t m reading tracker ep c alone) snap.Asked old last new) → FrozenSo t m reading tracker ep c last (lines_of t.me w.did)
  frozen-at tracker ep c alone last w = path-said (snap.FreezeNext t m reading tracker ep c alone) t.me (FrozenSo t m reading tracker ep c) (frozen-step t m reading tracker ep c alone) snap.Asked old w.did last new w.path refl

  pruned-at : (tracker : Epoch) (ep : Option Epoch) (c : ContId) (last : snap.PruneStage) (w : Reached (snap.PruneNext t m reading tracker ep c number) snap.Asked old last new) → PrunedSo t m reading tracker ep c number last (lines_of t.me w.did)
  pruned-at tracker ep c last w = path-said (snap.PruneNext t m reading tracker ep c number) t.me (PrunedSo t m reading tracker ep c number) (pruned-step t m reading tracker ep c number) snap.Asked old w.did last new w.path refl

  pub further-leaves : (q : Message) → IsSo r is q → HearsFurther number t opening m reading from q old new left → LeavesSo r is left
  further-leaves (message.Commit x ep first tracker ws) so h = down-left r is m before t reading (commit_request x ep first tracker ws) from h.last new left h.ends
  further-leaves (message.Ask x) so h = at-once r is m before _ h.last new left (λ j. same-left r is m before _ refl refl) h.ends
  further-leaves (message.Status x inc) so h = at-once r is m before _ h.last new left (λ j. same-left r is m before _ refl refl) h.ends
  further-leaves (message.StatusIs x inc how) so h = same-left r is m before left (ack-same m h.last new left h.ends) (none-told h.last new h.ends)
    where
      none-told : (s : ack.AckStage) (k : Kept) → ack.AckEnds m s k left → left.1.lines ≡ []
      none-told s k (ack.IsFollowed k2 step left2 says) = ap (λ o. o.1.lines) says
  further-leaves (message.Snap x c called tracker) so h = snap-left r is m before t reading tracker x c called from h.last new left (lines_of t.me h.reached.did) so (issued x) (frozen-at tracker None c (snap.is_held_by_all t 0) h.last h.reached) h.ends
  further-leaves (message.Freeze x c s) so h = freeze-left r is m before t reading x c from s h.last new left (lines_of t.me h.reached.did) so.0 so.1 (frozen-at s (Some s) c false h.last h.reached) h.ends
  further-leaves (message.Held x refusal) so h =
      held-left r is m before t from.number x refusal h.last new left (reached-keeps (snap.HeldNext t m from.number x refusal) (λ s k. _) (made-step r is m before t from.number x refusal) snap.Heard old h.last new h.reached tt) h.ends
  further-leaves (message.Prune x c (Some tracker) None) so h = aggregate-left r is m before t reading tracker x c from number h.last new left (lines_of t.me h.reached.did) so (issued x) (pruned-at tracker None c h.last h.reached) h.ends
  further-leaves (message.Prune x c None (Some g)) so h = prune-left r is m before t reading x c from g number h.last new left (lines_of t.me h.reached.did) so.0 so.1 (pruned-at g (Some g) c h.last h.reached) h.ends
  further-leaves (message.Reset' by down place (more_of-Message asked rest)) so h = at-once r is m before _ h.last new left (reset-left r is m before t by down asked) h.ends
  further-leaves q so h = absurd h
