-- Turns after stops, and turns that make snapshots and aggregate: what a target tells in one goes with the commands of attempts.
use Rattle.std.specs.Prelude.{ℕ, ◌==◌, ◌||◌, Bool, true, false, List, [], ◌∷◌, filter, map, Option, Some, None, refl, if◌then◌else◌}
use Rattle.std.proofs.Common.{ap}
use Rattle.base_types.specs.declared.entry.Entry.{Entry}
use Rattle.base_types.specs.declared.entry.EntryState.{EntryState}
use Rattle.base_types.specs.declared.entry.EntryState.TheVariants as state
use Rattle.base_types.specs.declared.epoch.Epoch.{Epoch}
use Rattle.base_types.specs.declared.id.AttemptId.{AttemptId}
use Rattle.base_types.specs.declared.id.ContId.{ContId}
use Rattle.base_types.specs.declared.key.Key.{Key}
use Rattle.base_types.specs.declared.outcome.FloorWhy.{FloorWhy}
use Rattle.base_types.specs.declared.outcome.Outcome.{Outcome}
use Rattle.base_types.specs.declared.outcome.Outcome.TheVariants as outcome
use Rattle.base_types.specs.declared.script.Script.{Script}
use Rattle.base_messages.specs.declared.actor.ActorId.{ActorId}
use Rattle.base_messages.specs.declared.message.Message.{Message, more_of-Message}
use Rattle.base_messages.specs.declared.message.Message.TheVariants as message
use Rattle.dtx_base.specs.declared.leading.Undecided.{Undecided}
use Rattle.dtx_base.specs.Asking.{ask_heard, asked_of, asked_open}
use Rattle.dtx_base.specs.Joining as member
use Rattle.dtx_base.specs.Leading.{LeaderOf, down_told, entry_led, first_down, mark_reset, prepare_reset, quietly, status_asked, to_target, undecided_of}
use Rattle.dtx_base.specs.Rows.{is_among}
use Rattle.world_base.specs.declared.did.Did.{Did}
use Rattle.world_base.specs.declared.request.CommitRequest.{CommitRequest}
use Rattle.world_base.specs.declared.target.Collection.{Collection}
use Rattle.world_base.specs.declared.target.TargetMemory.{TargetMemory}
use Rattle.world_base.specs.declared.target.TargetPlan.{TargetPlan}
use Rattle.world_base.specs.Changes.{Kept}
use Rattle.world_base.specs.Commits as commit
use Rattle.world_base.specs.Events.{Rules}
use Rattle.world_base.specs.Further.{CommitDown, HearsFurther, IsSpent, IsUnknown, reset_by}
use Rattle.world_base.specs.Roles.{leader_at, member_at}
use Rattle.world_base.specs.Snapshots as snap
use Rattle.world_base.specs.Statuses.{AtOnce, EndsAs, IsDone, ask_left, status_refusal}
use Rattle.world_base.specs.TargetTurns.{commit_request}
use Rattle.world_letters.specs.snapshots.Makings.{IsSnapIn, IsSo}
use Rattle.world_refusals.specs.Commands.{freeze-goes, unresolved-goes}
use Rattle.world_refusals.specs.Posts.{PostsFit, both-fit, mapped-fit, none-fits, one-fits, single-fits, these-fit}
use Rattle.world_refusals.specs.Reads.{all-unresolved-fit}
use Rattle.world_refusals.specs.Telling.{RefusalGoes, TellsFitly}
use Rattle.world_refusals.specs.Turns.{ack-fits, ended-fits}

-- ---- a Commit with a member that is down, and an Ask

down-fits : (s : Script) (t : TargetPlan) (m : TargetMemory) (reading : ℕ) (q : CommitRequest) (from : ActorId) (z : commit.CommitStage) (k : Kept) (left : TargetMemory × Did) → CommitDown t m reading q from z k left → PostsFit s left.1.posts
down-fits s t m reading q from z k left (IsSpent k2 e down y none is says) = one-fits s y.1 _ (ap (λ o. o.1.posts) says) refl
down-fits s t m reading q from z k left (IsUnknown k2 e down y is says) = one-fits s y.1 _ (ap (λ o. o.1.posts) says) refl

open-fits : (s : Script) (x : AttemptId) (from : ActorId) (e : Entry) (down : Option ℕ) (l : LeaderOf) → PostsFit s (asked_open x from e down l).posts
open-fits s x from e None l = none-fits s
open-fits s x from e (Some down) l = single-fits s _ refl

asked-fits : (s : Script) (x : AttemptId) (from : ActorId) (e : Option Entry) (decided : Bool) (l : LeaderOf) → PostsFit s (asked_of x from e decided l).posts
asked-fits s x from None decided l = single-fits s _ (unresolved-goes s x x)
asked-fits s x from (Some e) decided l = by (e.committed || decided)
  where
    by : (b : Bool) → PostsFit s (if b then record { leader = l; posts = record { to = from; message = message.Ended x (Some e.epoch) outcome.Committed } ∷ [] } else asked_open x from e (first_down e.members l.memory.down) l).posts
    by true = single-fits s _ refl
    by false = open-fits s x from e (first_down e.members l.memory.down) l

ask-fits : (s : Script) (t : TargetPlan) (m : TargetMemory) (from : ActorId) (x : AttemptId) (k : Kept) → PostsFit s (ask_left t m from x k).1.posts
unfolding ask_heard
ask-fits s t m from x k = asked-fits s x from (entry_led x (leader_at t m k.durable)) (is_among x m.leader.decided) (leader_at t m k.durable)

at-once : (s : Script) (left_by : Kept → TargetMemory × Did) (z : AtOnce) (k : Kept) (left : TargetMemory × Did) → ((j : Kept) → PostsFit s (left_by j).1.posts) → EndsAs left_by z k left → PostsFit s left.1.posts
at-once s left_by z k left each (IsDone k2 y says) = these-fit s (left_by k2).1.posts y.1.posts (ap (λ o. o.1.posts) says) (each k2)

-- ---- snapshots and aggregations

snap-fits : (r : Rules) (p : TargetPlan) (m : TargetMemory) (reading : ℕ) (tracker : Epoch) (x : AttemptId) (c : ContId) (name : Key) (from : ActorId) (z : snap.FreezeStage) (k : Kept) (left : TargetMemory × Did)
    → IsSnapIn r x c → snap.SnapEnds p m reading tracker x c name from z k left → PostsFit r.script left.1.posts
snap-fits r p m reading tracker x c name from z k left makes (snap.IsSpent k2 y none says) = one-fits r.script y.1 _ (ap (λ o. o.1.posts) says) refl
snap-fits r p m reading tracker x c name from z k left makes (snap.IsRefused k2 e how y why says) = one-fits r.script y.1 _ (ap (λ o. o.1.posts) says) (freeze-goes r p x c c e k2.durable how makes why)
snap-fits r p m reading tracker x c name from z k left makes (snap.AsksOthers k2 e ls y others says) =
    these-fit r.script (map (snap.freeze_to x c e) (snap.others p)) y.1.posts (ap (λ o. o.1.posts) says) (mapped-fit r.script (snap.freeze_to x c e) (snap.others p) (λ t. tt))
snap-fits r p m reading tracker x c name from z k left makes (snap.IsAlone k2 e ls y says) = one-fits r.script y.1 _ (ap (λ o. o.1.posts) says) refl

freeze-fits : (r : Rules) (p : TargetPlan) (m : TargetMemory) (x : AttemptId) (c : ContId) (from : ActorId) (z : snap.FreezeStage) (k : Kept) (left : TargetMemory × Did) → IsSnapIn r x c → snap.FreezeEnds p m x c from z k left → PostsFit r.script left.1.posts
freeze-fits r p m x c from z k left makes (snap.IsRefused k2 e how y why says) = one-fits r.script y.1 _ (ap (λ o. o.1.posts) says) (freeze-goes r p x c c e k2.durable how makes why)
freeze-fits r p m x c from z k left makes (snap.IsHeld k2 e ls y says) = one-fits r.script y.1 _ (ap (λ o. o.1.posts) says) tt

aggregate-fits : (s : Script) (p : TargetPlan) (m : TargetMemory) (reading : ℕ) (tracker : Epoch) (x : AttemptId) (c : ContId) (from : ActorId) (z : snap.PruneStage) (k : Kept) (left : TargetMemory × Did) → snap.AggregateEnds p m reading tracker x c from z k left → PostsFit s left.1.posts
aggregate-fits s p m reading tracker x c from z k left (snap.IsSpent k2 y none says) = one-fits s y.1 _ (ap (λ o. o.1.posts) says) refl
aggregate-fits s p m reading tracker x c from z k left (snap.AsksOthers k2 g ls y others says) =
    these-fit s (map (snap.prune_to x c g) (snap.others p)) y.1.posts (ap (λ o. o.1.posts) says) (mapped-fit s (snap.prune_to x c g) (snap.others p) (λ t. tt))
aggregate-fits s p m reading tracker x c from z k left (snap.IsAlone k2 g ls y only says) = one-fits s y.1 _ (ap (λ o. o.1.posts) says) refl

prune-fits : (s : Script) (m : TargetMemory) (x : AttemptId) (from : ActorId) (z : snap.PruneStage) (k : Kept) (left : TargetMemory × Did) → snap.PruneEnds m x from z k left → PostsFit s left.1.posts
prune-fits s m x from z k left (snap.IsHeld k2 g ls y says) = one-fits s y.1 _ (ap (λ o. o.1.posts) says) tt

-- a target's refusal ends the attempt
held-by-fits : (s : Script) (p : TargetPlan) (m : TargetMemory) (from : ℕ) (x : AttemptId) (refusal : Option Outcome) (o : Option Collection) → RefusalGoes s x refusal → PostsFit s (snap.held_by p m from x refusal o).1.posts
held-by-fits s p m from x refusal None goes = none-fits s
held-by-fits s p m from x (Some how) (Some c) goes = single-fits s _ goes
held-by-fits s p m from x None (Some c) goes = by (snap.is_last p from c)
  where
    ends : Bool → TargetMemory × Did
    ends b = if b then (snap.collected x m, snap.follows (snap.to_actor c.client (message.Ended x (Some c.epoch) outcome.Committed)) [] None) else (snap.counts_held x from m, snap.follows [] [] None)

    by : (b : Bool) → PostsFit s (ends b).1.posts
    by true = single-fits s _ refl
    by false = none-fits s

held-fits : (s : Script) (p : TargetPlan) (m : TargetMemory) (from : ℕ) (x : AttemptId) (refusal : Option Outcome) (z : snap.HeldStage) (k : Kept) (left : TargetMemory × Did) → RefusalGoes s x refusal → snap.HeldEnds p m from x refusal z k left → PostsFit s left.1.posts
held-fits s p m from x refusal z k left goes (snap.IsCounted k2 y says) = these-fit s (snap.held_by p m from x refusal (snap.collection_of x m)).1.posts y.1.posts (ap (λ o. o.1.posts) says) (held-by-fits s p m from x refusal (snap.collection_of x m) goes)
held-fits s p m from x refusal z k left goes (snap.IsCreated k2 c name y says) = one-fits s y.1 _ (ap (λ o. o.1.posts) says) refl

-- ---- a Reset

told-down : (s : Script) (t : ℕ) (a : AttemptId) (e : Option Entry) (u : Option Undecided) (l : LeaderOf) → PostsFit s (down_told t a e u l).posts
told-down s t a None u l = none-fits s
told-down s t a (Some e) None l = none-fits s
told-down s t a (Some e) (Some u) l = ended-fits s u.client a e.epoch (outcome.Unknown t) refl

status-fits : (s : Script) (t : ℕ) (a : AttemptId) (inc : ℕ) (l : LeaderOf) → PostsFit s (status_asked t a inc l).posts
status-fits s t a inc l = by (inc == l.incarnation)
  where
    by : (b : Bool) → PostsFit s (if b then record { leader = l; posts = to_target t (message.Status a inc) ∷ [] } else quietly l).posts
    by true = single-fits s _ tt
    by false = none-fits s

prepare-reset-fits : (s : Script) (t : ℕ) (down : Bool) (a : AttemptId) (inc : ℕ) (l : LeaderOf) → PostsFit s (prepare_reset t down a inc l).posts
unfolding prepare_reset
prepare-reset-fits s t true a inc l = told-down s t a (entry_led a l) (undecided_of a l) l
prepare-reset-fits s t false a inc l = status-fits s t a inc l

mark-reset-fits : (s : Script) (t : ℕ) (down : Bool) (inc : ℕ) (marks : List (AttemptId × Bool)) (l : LeaderOf) → PostsFit s (mark_reset t down inc marks l).posts
unfolding mark_reset
mark-reset-fits s t true inc marks l = none-fits s
mark-reset-fits s t false inc marks l = single-fits s _ tt

query-reset-fits : (r : Script) (down : Bool) (a : AttemptId) (ask : Option AttemptId) (s : member.MemberOf) → PostsFit r (member.query_reset down a ask s).freed.posts
unfolding member.unresolved
query-reset-fits r down a None s = none-fits r
query-reset-fits r down a (Some x) s = all-unresolved-fit r a (filter (member.is_waiting a x) s.memory.parked)

collection-fits : (s : Script) (t : ℕ) (down : Bool) (asked : Message) (x : AttemptId) (o : Option Collection) (m : TargetMemory) → TellsFitly s asked → PostsFit s (snap.collection_reset t down asked x o m).1
collection-fits s t false asked x o m fit = single-fits s _ fit
collection-fits s t true asked x None m fit = none-fits s
collection-fits s t true asked x (Some c) m fit = single-fits s _ refl

reset-fits : (s : Script) (t : TargetPlan) (m : TargetMemory) (by : ℕ) (down : Bool) (asked : Message) (k : Kept) → PostsFit s (reset_by t m by down asked k).1.posts
reset-fits s t m by down (message.Freeze x c e) k = collection-fits s by down (message.Freeze x c e) x (snap.collection_of x m) m tt
reset-fits s t m by down (message.Prune x c tracker e) k = collection-fits s by down (message.Prune x c tracker e) x (snap.collection_of x m) m tt
reset-fits s t m by down (message.Prepare e first ws inc) k = both-fit s (prepare_reset by down e.attempt inc (leader_at t m k.durable)).posts [] (prepare-reset-fits s by down e.attempt inc (leader_at t m k.durable)) (none-fits s)
reset-fits s t m by down (message.Status a inc) k = both-fit s (prepare_reset by down a inc (leader_at t m k.durable)).posts [] (prepare-reset-fits s by down a inc (leader_at t m k.durable)) (none-fits s)
reset-fits s t m by down (message.Mark inc marks) k = both-fit s (mark_reset by down inc marks (leader_at t m k.durable)).posts [] (mark-reset-fits s by down inc marks (leader_at t m k.durable)) (none-fits s)
reset-fits s t m by down (message.Query a ask) k = query-reset-fits s down a ask (member_at t m)
reset-fits s t m by down asked k = none-fits s

-- ---- every such message

-- what a member tells that holds nothing, goes with any command
status-goes : (s : Script) (x : AttemptId) (how : EntryState) → RefusalGoes s x (status_refusal x how)
status-goes s x state.Prepared = tt
status-goes s x state.Committed = tt
status-goes s x state.Absent = unresolved-goes s x x

-- a target's refusal of a freeze goes with its attempt's command
abbrev pub IsHeldFitly : Script → Message → Type 0
IsHeldFitly s (message.Held x refusal) = RefusalGoes s x refusal
IsHeldFitly s m = Unit {0}

module _ (r : Rules) (is : List (AttemptId × Epoch)) (number : ℕ) (t : TargetPlan) (opening : Epoch × FloorWhy) (m : TargetMemory) (reading : ℕ) (from : ActorId) (old new : Kept) (left : TargetMemory × Did) where
  pub further-fit : (q : Message) → IsSo r is q → IsHeldFitly r.script q → HearsFurther number t opening m reading from q old new left → PostsFit r.script left.1.posts
  further-fit (message.Commit x ep first tracker ws) so fit h = down-fits r.script t m reading (commit_request x ep first tracker ws) from h.last new left h.ends
  further-fit (message.Ask x) so fit h = at-once r.script (ask_left t m from x) h.last new left (ask-fits r.script t m from x) h.ends
  further-fit (message.Status x inc) so fit h = at-once r.script _ h.last new left (λ j. single-fits r.script _ tt) h.ends
  further-fit (message.StatusIs x inc how) so fit h = ack-fits r.script t opening m reading from old new left x inc (status_refusal x how) (status-goes r.script x how) h
  further-fit (message.Snap x c called tracker) so fit h = snap-fits r t m reading tracker x c called from h.last new left (called, so) h.ends
  further-fit (message.Freeze x c s) so fit h = freeze-fits r t m x c from h.last new left so.1 h.ends
  further-fit (message.Held x refusal) so fit h = held-fits r.script t m from.number x refusal h.last new left fit h.ends
  further-fit (message.Prune x c (Some tracker) None) so fit h = aggregate-fits r.script t m reading tracker x c from h.last new left h.ends
  further-fit (message.Prune x c None (Some g)) so fit h = prune-fits r.script m x from h.last new left h.ends
  further-fit (message.Reset' by down place (more_of-Message asked rest)) so fit h = at-once r.script (reset_by t m by down asked) h.last new left (λ j. reset-fits r.script t m by down asked j) h.ends
  further-fit q so fit h = absurd h
