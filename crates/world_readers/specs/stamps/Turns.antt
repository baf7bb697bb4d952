-- What every turn of a running target adds to its timestamps.
use Rattle.std.specs.Prelude.{ℕ, ◌≡◌, ◌++◌, false, List, Contains, Option, Some, None, refl}
use Rattle.std.proofs.Common.{sym, ◌∙◌, ap, subst}
use Rattle.std.proofs.lemmas.List.Elements.{Contains-append_left, Contains-push}
use Rattle.base_types.specs.declared.epoch.Epoch.{Epoch}
use Rattle.base_types.specs.declared.id.AttemptId.{AttemptId}
use Rattle.base_types.specs.declared.outcome.FloorWhy.{FloorWhy}
use Rattle.base_types.specs.Operations.{read_path}
use Rattle.base_messages.specs.declared.actor.ActorId.{ActorId}
use Rattle.base_messages.specs.declared.message.Message.{Message, more_of-Message}
use Rattle.base_messages.specs.declared.message.Message.TheVariants as message
use Rattle.daos_model.specs.Opening.{Opening}
use Rattle.dtx_base.specs.declared.member.Parked.{Parked}
use Rattle.dtx_base.specs.Leading.{attempts_of}
use Rattle.model_laws.specs.Members.{Has}
use Rattle.base_types.specs.declared.operation.MinorWrite.{MinorWrite}
use Rattle.world_base.specs.declared.did.Did.{Did}
use Rattle.world_base.specs.declared.target.TargetMemory.{TargetMemory}
use Rattle.world_base.specs.declared.target.TargetPlan.{TargetPlan}
use Rattle.world_base.specs.declared.target.TargetState.{TargetState}
use Rattle.world_base.specs.declared.world.World.{World}
use Rattle.world_base.specs.Changes.{Kept}
use Rattle.world_base.specs.Commits as commit
use Rattle.world_base.specs.Events.{Rules, kept, listed, target_plan}
use Rattle.world_base.specs.Further.{CommitDown, HearsFurther, IsSpent, IsUnknown, reset_by}
use Rattle.world_base.specs.MemoryLaws.{ack-leaves, commit-leaves, mark-leaves, marked-leaves, prepare-leaves, query-leaves}
use Rattle.world_base.specs.Requests.{request_epoch}
use Rattle.world_base.specs.Roles.{is_prepared, told_by, told_of_all}
use Rattle.world_base.specs.Statuses.{AtOnce, EndsAs, IsDone, ask_left}
use Rattle.world_base.specs.TargetTurns.{Hears, commit_request, fetch_request, prepare_request}
use Rattle.world_making.specs.world_contents.reads.Given.{IsMessageRight, IsParkedRight, IsReadEpoch}
use Rattle.world_making.specs.prunings.Saying.{says-quietly}
use Rattle.world_readers.specs.Freed.{all-told_stamps, told-member, told-stamps}
use Rattle.world_readers.specs.stamps.Fetches.{fetch-own, verdict-own}
use Rattle.world_readers.specs.stamps.Stamps.{AddsOwn, own-more, own-same}

-- ---- a message that is heard as without stops

module _ (r : Rules) (o : Opening) (w : World) (t : ℕ) (s : TargetState) (waits : (z : Parked) → Has z s.memory.member.parked → IsParkedRight r o w t s.durable z.ask)
    (reading : ℕ) (from : ActorId) (new : Kept) (left : TargetMemory × Did) where
  pub hears-own : (q : Message) → IsMessageRight r o w t s q → Hears (target_plan r t) s.opening s.memory reading from q (kept s) new left → AddsOwn r (w.issued ++ listed left.1.issued) s.memory.stamps left.0.stamps
  hears-own (message.Fetch x op group ep first tracker q snapshot) right h =
      fetch-own r (w.issued ++ listed left.1.issued) t (target_plan r t) s.memory reading (fetch_request x op group ep first tracker q snapshot) right.0 own from left issues (kept s) new h
    where
      own : snapshot ≡ false → (e : Epoch) → ep ≡ Some e → Contains (w.issued ++ listed left.1.issued) (x, e)
      own plain e is =
          Contains-append_left w.issued (listed left.1.issued) (x, e)
          ((subst (λ b. IsReadEpoch r o w s.durable x (read_path q).cont ep b e) plain (right.1 0 e (ap (request_epoch (target_plan r t) s.memory 0 tracker) is))).own e is)

      issues : ep ≡ None → (i : AttemptId × Epoch) → left.1.issued ≡ Some i → Contains (w.issued ++ listed left.1.issued) i
      issues none i is = subst (λ z. Contains (w.issued ++ listed z) i) (sym is) (Contains-push w.issued i)
  hears-own (message.Commit x ep first tracker ws) right h = own-same r _ s.memory.stamps left.0.stamps (commit-leaves (target_plan r t) s.opening s.memory reading (commit_request x ep first tracker ws) from h.last new left h.ends).stamps
  hears-own (message.Prepare e first ws inc) right h = own-same r _ s.memory.stamps left.0.stamps (ap (λ n. n.stamps) (prepare-leaves (target_plan r t) s.opening s.memory (prepare_request e first ws inc) h.last new left h.ends))
  hears-own (message.Ack x inc refusal) right h = own-same r _ s.memory.stamps left.0.stamps (ack-leaves s.memory h.last new left h.ends).stamps
  hears-own (message.Mark inc marks) right h =
      own-same r _ s.memory.stamps left.0.stamps (ap (λ n. n.stamps) (mark-leaves (told_of_all (attempts_of marks) s.memory) from inc marks h.last new left h.ends) ∙ all-told_stamps (attempts_of marks) s.memory)
  hears-own (message.Marked inc ids) right h = own-same r _ s.memory.stamps left.0.stamps (marked-leaves (target_plan r t) s.memory from.number inc ids h.last new left h.ends).rest.stamps
  hears-own (message.Query x ask) right h = own-same r _ s.memory.stamps left.0.stamps (ap (λ n. n.stamps) (query-leaves (target_plan r t) s.memory from x ask h.last new left h.ends))
  hears-own (message.Verdict x ask inc v) right h =
      subst (λ ss. AddsOwn r (w.issued ++ listed left.1.issued) ss left.0.stamps) (told-stamps v x s.memory)
      (own-more r w.issued (w.issued ++ listed left.1.issued) (told_by v x s.memory).stamps left.0.stamps (λ i j. Contains-append_left w.issued (listed left.1.issued) i j)
      (verdict-own r o w t s.durable is_prepared (target_plan r t) (told_by v x s.memory) reading x ask v (kept s) (λ z i. waits z (subst (λ m. Has z m.parked) (told-member v x s.memory) i)) new left h))
  hears-own q right h = absurd h

-- ---- any other message

down-stamps : (p : TargetPlan) (m : TargetMemory) (reading : ℕ) (x : AttemptId) (ep first : Option Epoch) (tracker : Epoch) (from : ActorId) (z : commit.CommitStage) (k : Kept) (left : TargetMemory × Did) (ws : List MinorWrite)
    → CommitDown p m reading (commit_request x ep first tracker ws) from z k left → left.0.stamps ≡ m.stamps
down-stamps p m reading x ep first tracker from z k left ws (IsSpent k2 e down y none is says) = ap (λ o. o.0.stamps) says
down-stamps p m reading x ep first tracker from z k left ws (IsUnknown k2 e down y is says) = ap (λ o. o.0.stamps) says

at-once : (m : TargetMemory) (left_by : Kept → TargetMemory × Did) (z : AtOnce) (k : Kept) (left : TargetMemory × Did) → ((j : Kept) → (left_by j).0.stamps ≡ m.stamps) → EndsAs left_by z k left → left.0.stamps ≡ m.stamps
at-once m left_by z k left each (IsDone k2 y says) = ap (λ o. o.0.stamps) says ∙ each k2

pub further-stamps : (number : ℕ) (p : TargetPlan) (opening : Epoch × FloorWhy) (m : TargetMemory) (reading : ℕ) (from : ActorId) (q : Message) (old new : Kept) (left : TargetMemory × Did)
    → HearsFurther number p opening m reading from q old new left → left.0.stamps ≡ m.stamps
further-stamps number p opening m reading from (message.Commit x ep first tracker ws) old new left h = down-stamps p m reading x ep first tracker from h.last new left ws h.ends
further-stamps number p opening m reading from (message.Ask x) old new left h = at-once m (ask_left p m from x) h.last new left (λ j. refl) h.ends
further-stamps number p opening m reading from (message.Status x inc) old new left h = at-once m _ h.last new left (λ j. refl) h.ends
further-stamps number p opening m reading from (message.StatusIs x inc how) old new left h = (ack-leaves m h.last new left h.ends).stamps
further-stamps number p opening m reading from (message.Snap x c called tracker) old new left h = (says-quietly number p opening m reading from (message.Snap x c called tracker) old new left refl h).stamps
further-stamps number p opening m reading from (message.Freeze x c s) old new left h = (says-quietly number p opening m reading from (message.Freeze x c s) old new left refl h).stamps
further-stamps number p opening m reading from (message.Held x refusal) old new left h = (says-quietly number p opening m reading from (message.Held x refusal) old new left refl h).stamps
further-stamps number p opening m reading from (message.Prune x c (Some tracker) None) old new left h = (says-quietly number p opening m reading from (message.Prune x c (Some tracker) None) old new left refl h).stamps
further-stamps number p opening m reading from (message.Prune x c None (Some g)) old new left h = (says-quietly number p opening m reading from (message.Prune x c None (Some g)) old new left refl h).stamps
further-stamps number p opening m reading from (message.Reset' by down place (more_of-Message asked rest)) old new left h = by_kind asked h
  where
    by_kind : (q : Message) → HearsFurther number p opening m reading from (message.Reset' by down place (more_of-Message q rest)) old new left → left.0.stamps ≡ m.stamps
    by_kind (message.Freeze x c s) g = (says-quietly number p opening m reading from (message.Reset' by down place (more_of-Message (message.Freeze x c s) rest)) old new left refl g).stamps
    by_kind (message.Prune x c tracker e) g = (says-quietly number p opening m reading from (message.Reset' by down place (more_of-Message (message.Prune x c tracker e) rest)) old new left refl g).stamps
    by_kind q g = at-once m (reset_by p m by down q) g.last new left (λ j. refl) g.ends
further-stamps number p opening m reading from q old new left h = absurd h
