-- What every turn, whole or cut, leaves of a target's incarnation, and that its lease doesn't go down.
use Rattle.std.specs.Prelude.{ℕ, ◌≡◌, ◌≤◌, ◌/◌, Bool, false, List, Option, Some, None, refl}
use Rattle.std.proofs.Common.{sym, ◌∙◌, ap, subst, arith}
use Rattle.base_types.specs.declared.entry.Settle.{Settle}
use Rattle.base_types.specs.declared.entry.Verdict.{Verdict}
use Rattle.base_types.specs.declared.epoch.Epoch.{Epoch}
use Rattle.base_types.specs.declared.id.AttemptId.{AttemptId}
use Rattle.base_types.specs.declared.id.ContId.{ContId}
use Rattle.base_types.specs.declared.outcome.FloorWhy.{FloorWhy}
use Rattle.base_types.specs.declared.outcome.Outcome.{Outcome}
use Rattle.base_types.specs.declared.report.Line.{Line}
use Rattle.base_messages.specs.declared.actor.ActorId.{ActorId}
use Rattle.base_messages.specs.declared.message.Message.{Message, more_of-Message}
use Rattle.base_messages.specs.declared.message.Message.TheVariants as message
use Rattle.daos_model.specs.declared.durable.Durable.{Durable}
use Rattle.daos_model.specs.Changes.{marked, with_versions}
use Rattle.world_base.specs.declared.did.Did.{Did}
use Rattle.world_base.specs.declared.request.CommitRequest.{CommitRequest}
use Rattle.world_base.specs.declared.request.PrepareRequest.{PrepareRequest}
use Rattle.world_base.specs.declared.target.TargetMemory.{TargetMemory}
use Rattle.world_base.specs.declared.target.TargetPlan.{TargetPlan}
use Rattle.world_base.specs.Acks as ack
use Rattle.world_base.specs.ChangeLaws.{Raises, extends-raises, incarnation-made, lease-steps}
use Rattle.world_base.specs.Changes.{After, Before, Change, Creates, Cut, Extends, Freezes, InPart, IsPartly, Kept, Prepares, Prunes, Settles, Steps}
use Rattle.world_base.specs.Commits as commit
use Rattle.world_base.specs.CutTurns as cuts
use Rattle.world_base.specs.CutTurns.{CommitIsCut, CutHere, CutTurn, Cutting, HearingIsCut, IdleWorkIsCut, InChange, InQuestion, NoneIsDown, OneIsDown, UnstoredNext}
use Rattle.world_base.specs.Further.{HearsFurther}
use Rattle.world_base.specs.Idle.{IdleNext, SettlesFirst}
use Rattle.world_base.specs.Marks as mark
use Rattle.world_base.specs.PathLaws.{path-keeps}
use Rattle.world_base.specs.Prepares as prepare
use Rattle.world_base.specs.Roles.{told_by}
use Rattle.world_base.specs.Snapshots as snap
use Rattle.world_base.specs.Statuses.{AtOnce, Looks, NoChange, status_refusal}
use Rattle.world_base.specs.TargetTurns.{commit_request, fetch_request, prepare_request}
use Rattle.world_base.specs.TurnLaws.{fetch-raises}
use Rattle.world_base.specs.Turns.{Path, Whole}
use Rattle.world_base.specs.Verdicts as verdict

-- the same incarnation, and a lease no lower
pub record Lasts (d e : Durable) : Type 0 where
  pub incarnation : e.incarnation ≡ d.incarnation
  pub lease : d.lease ≤ e.lease

lasts-same : (d e : Durable) → e ≡ d → Lasts d e
lasts-same d e same = record { incarnation = ap (λ x. x.incarnation) same; lease = let l : e.lease ≡ d.lease = ap (λ x. x.lease) same in omega (arith, l) }

lasts-then : (d e f : Durable) → Lasts d e → Lasts e f → Lasts d f
lasts-then d e f k l = record { incarnation = l.incarnation ∙ k.incarnation; lease = let p : d.lease ≤ e.lease = k.lease in let q : e.lease ≤ f.lease = l.lease in omega (arith, p, q) }

lasts-steps : (o : Option Change) (k l : Kept) → Steps o k l → Raises k.durable o → Lasts k.durable l.durable
lasts-steps None k l same up = lasts-same k.durable l.durable (ap (λ x. x.durable) same)
lasts-steps (Some c) k l steps up = record { incarnation = ap (λ d. d.incarnation) steps.0 ∙ incarnation-made c k.durable; lease = (lease-steps (Some c) k l steps up).rises }

-- what a prune that was cut leaves
lasts-partly : (c : Change) (d x : Durable) → IsPartly c d x → Lasts d x
unfolding with_versions marked
lasts-partly (Prunes c upto n) d x p = record { incarnation = ap (λ y. y.incarnation) p.2; lease = let l : x.lease ≡ d.lease = ap (λ y. y.lease) p.2 in omega (arith, l) }
lasts-partly (Extends ticks) d x p = absurd p
lasts-partly (Prepares e ws) d x p = absurd p
lasts-partly (Settles a step) d x p = absurd p
lasts-partly (Freezes c s) d x p = absurd p
lasts-partly (Creates c s) d x p = absurd p

lasts-cut : (c : Change) (d x : Durable) → Raises d (Some c) → Cut c d x → Lasts d x
lasts-cut c d x up (Before same) = lasts-same d x same
lasts-cut c d x up (After same) = lasts-steps (Some c) (record { durable = d; free = 0 }) (record { durable = x; free = 0 }) (same, omega arith) up
lasts-cut c d x up (InPart partly) = lasts-partly c d x partly

module _ {S : Type 0} (Next : S → Kept → Option Change → S → Type 0) (raises : (s : S) (k : Kept) (o : Option Change) (u : S) → Next s k o u → Raises k.durable o) where
  path-lasts : (start : S) (old : Kept) (did : List Change) (last : S) (mid : Kept) → Path Next start old did last mid → Lasts old.durable mid.durable
  path-lasts start old did last mid path =
      path-keeps Next (λ s k. Lasts old.durable k.durable) (λ s k o u l next steps so_far. lasts-then old.durable k.durable l.durable so_far (lasts-steps o k l steps (raises s k o u next))) start old did last mid path
      (lasts-same old.durable old.durable refl)

  whole-lasts : {R : Type 0} (Ends : S → Kept → R → Type 0) (start : S) (old new : Kept) (result : R) → Whole Next Ends start old new result → Lasts old.durable new.durable
  whole-lasts Ends start old new result w = path-lasts start old w.reached.did w.last new w.reached.path

  cut-lasts : (issues : S → List (AttemptId × Epoch)) (t : ℕ) (start : S) (old : Kept) (cut : Cutting) → CutTurn Next issues t start old cut → Lasts old.durable cut.left.durable
  cut-lasts issues t start old cut g = lasts-then old.durable g.mid.durable cut.left.durable (path-lasts start old g.did g.last g.mid g.path) (here g.lines g.here)
    where
      here : (lines : List Line) → CutHere Next t g.last g.mid cut.left lines → Lasts g.mid.durable cut.left.durable
      here lines (InChange c next is left free) = lasts-cut c g.mid.durable cut.left.durable (raises g.last g.mid (Some c) next is) left
      here lines (InQuestion same free) = lasts-same g.mid.durable cut.left.durable same

-- ---- each kind of turn raises the lease or leaves it

commit-raises : (t : TargetPlan) (opening : Epoch × FloorWhy) (m : TargetMemory) (reading : ℕ) (q : CommitRequest) (s : commit.CommitStage) (k : Kept) (o : Option Change) (u : commit.CommitStage) → commit.CommitNext t opening m reading q s k o u → Raises k.durable o
commit-raises t opening m reading q s k o u (commit.HasEpoch j e is) = tt
commit-raises t opening m reading q s k o u (commit.ExtendsLease j e lease low is) = extends-raises k.durable (e.0 / 256) lease low is
commit-raises t opening m reading q s k o u (commit.IsCovered j e low) = tt
commit-raises t opening m reading q s k o u (commit.Stores j e allowed space) = tt

unstored-raises : (t : TargetPlan) (opening : Epoch × FloorWhy) (m : TargetMemory) (reading : ℕ) (q : CommitRequest) (s : commit.CommitStage) (k : Kept) (o : Option Change) (u : commit.CommitStage) → UnstoredNext t opening m reading q s k o u → Raises k.durable o
unstored-raises t opening m reading q s k o u (cuts.Before s2 u2 k2 o2 next early) = commit-raises t opening m reading q s k o u next

prepare-raises : (t : TargetPlan) (opening : Epoch × FloorWhy) (m : TargetMemory) (q : PrepareRequest) (s : prepare.PrepareStage) (k : Kept) (o : Option Change) (u : prepare.PrepareStage) → prepare.PrepareNext t opening m q s k o u → Raises k.durable o
prepare-raises t opening m q s k o u (prepare.ExtendsLease j lease low is) = extends-raises k.durable (q.entry.epoch.0 / 256) lease low is
prepare-raises t opening m q s k o u (prepare.IsCovered j low) = tt
prepare-raises t opening m q s k o u (prepare.Stores j allowed space) = tt

ack-raises : (t : TargetPlan) (m : TargetMemory) (member : ℕ) (a : AttemptId) (inc : ℕ) (refusal : Option Outcome) (s : ack.AckStage) (k : Kept) (o : Option Change) (u : ack.AckStage) → ack.AckNext t m member a inc refusal s k o u → Raises k.durable o
ack-raises t m member a inc refusal s k o u (ack.Aborts j is) = tt
ack-raises t m member a inc refusal s k o u (ack.Counts j is) = tt

mark-raises : (is_due : AttemptId → Durable → Bool) (s : List (AttemptId × Bool)) (k : Kept) (o : Option Change) (u : List (AttemptId × Bool)) → mark.MarkNext is_due s k o u → Raises k.durable o
mark-raises is_due s k o u (mark.SettlesMarked j a committed rest is) = tt
mark-raises is_due s k o u (mark.PassesBy j a committed rest is) = tt

marked-raises : (t : TargetPlan) (m : TargetMemory) (member : ℕ) (s : List AttemptId) (k : Kept) (o : Option Change) (u : List AttemptId) → ack.MarkedNext t m member s k o u → Raises k.durable o
marked-raises t m member s k o u (ack.Confirms j a rest is) = tt
marked-raises t m member s k o u (ack.PassesBy j a rest is) = tt

query-raises : (s : verdict.QueryStage) (k : Kept) (o : Option Change) (u : verdict.QueryStage) → verdict.QueryNext s k o u → Raises k.durable o
query-raises s k o u (verdict.Answers j) = tt

settling-raises : (a : AttemptId) (d : Durable) (step : Option Settle) → Raises d (verdict.settling_change a step)
settling-raises a d None = tt
settling-raises a d (Some step) = tt

verdict-raises : (is_due : AttemptId → Durable → Bool) (t : TargetPlan) (m : TargetMemory) (reading : ℕ) (a : AttemptId) (ask : Option AttemptId) (v : Verdict) (s : verdict.VerdictStage) (k : Kept) (o : Option Change) (u : verdict.VerdictStage)
    → verdict.VerdictNext is_due t m reading a ask v s k o u → Raises k.durable o
verdict-raises is_due t m reading a ask v s k o u (verdict.SettlesBy j p is) = subst (Raises k.durable) (sym is) (settling-raises a k.durable (verdict.settles_by is_due v a k.durable))
verdict-raises is_due t m reading a ask v s k o u (verdict.TriesNext j n posts rest x op group ep first tracker r snapshot) = tt
verdict-raises is_due t m reading a ask v s k o u (verdict.GoesOn j n posts rest q i z p next) = fetch-raises t n reading q i k o z next
verdict-raises is_due t m reading a ask v s k o u (verdict.IsDone j n posts rest q i left ends) = tt

idle-raises : (s : List AttemptId) (k : Kept) (o : Option Change) (u : List AttemptId) → IdleNext s k o u → Raises k.durable o
idle-raises s k o u (SettlesFirst j a rest) = tt

looks-raises : (s : AtOnce) (k : Kept) (o : Option Change) (u : AtOnce) → NoChange s k o u → Raises k.durable o
looks-raises s k o u (Looks j) = tt

freeze-raises : (p : TargetPlan) (m : TargetMemory) (reading : ℕ) (tracker : Epoch) (ep : Option Epoch) (c : ContId) (alone : Bool) (s : snap.FreezeStage) (k : Kept) (o : Option Change) (u : snap.FreezeStage)
    → snap.FreezeNext p m reading tracker ep c alone s k o u → Raises k.durable o
freeze-raises p m reading tracker ep c alone s k o u (snap.HasEpoch k2 e is) = tt
freeze-raises p m reading tracker ep c alone s k o u (snap.ExtendsLease k2 e lease low is) = extends-raises k.durable (e.0 / 256) lease low is
freeze-raises p m reading tracker ep c alone s k o u (snap.IsCovered k2 e low) = tt
freeze-raises p m reading tracker ep c alone s k o u (snap.FreezesIt k2 e free unfrozen) = tt
freeze-raises p m reading tracker ep c alone s k o u (snap.IsFrozen k2 e free frozen) = tt
freeze-raises p m reading tracker ep c alone s k o u (snap.CreatesIt k2 e lines only) = tt

held-raises : (p : TargetPlan) (m : TargetMemory) (from : ℕ) (x : AttemptId) (refusal : Option Outcome) (s : snap.HeldStage) (k : Kept) (o : Option Change) (u : snap.HeldStage) → snap.HeldNext p m from x refusal s k o u → Raises k.durable o
held-raises p m from x refusal s k o u (snap.CreatesIt k2 c name none is named last) = tt
held-raises p m from x refusal s k o u (snap.Counts k2 none) = tt

prune-raises : (p : TargetPlan) (m : TargetMemory) (reading : ℕ) (tracker : Epoch) (ep : Option Epoch) (c : ContId) (number : ℕ) (s : snap.PruneStage) (k : Kept) (o : Option Change) (u : snap.PruneStage)
    → snap.PruneNext p m reading tracker ep c number s k o u → Raises k.durable o
prune-raises p m reading tracker ep c number s k o u (snap.HasEpoch k2 g is) = tt
prune-raises p m reading tracker ep c number s k o u (snap.ExtendsLease k2 g lease low is) = extends-raises k.durable (g.0 / 256) lease low is
prune-raises p m reading tracker ep c number s k o u (snap.IsCovered k2 g low) = tt
prune-raises p m reading tracker ep c number s k o u (snap.SettlesFirst k2 g a rest) = tt
prune-raises p m reading tracker ep c number s k o u (snap.PrunesIt k2 g due) = tt
prune-raises p m reading tracker ep c number s k o u (snap.PassesBy k2 g due) = tt

-- ---- every turn

-- a further message was heard
pub further-lasts : (number : ℕ) (t : TargetPlan) (opening : Epoch × FloorWhy) (m : TargetMemory) (reading : ℕ) (from : ActorId) (q : Message) (old new : Kept) (left : TargetMemory × Did) → HearsFurther number t opening m reading from q old new left
    → Lasts old.durable new.durable
further-lasts number t opening m reading from (message.Commit x ep first tracker ws) old new left h = whole-lasts _ (commit-raises t opening m reading (commit_request x ep first tracker ws)) _ _ old new left h
further-lasts number t opening m reading from (message.Ask x) old new left h = whole-lasts _ looks-raises _ _ old new left h
further-lasts number t opening m reading from (message.Status x inc) old new left h = whole-lasts _ looks-raises _ _ old new left h
further-lasts number t opening m reading from (message.StatusIs x inc how) old new left h = whole-lasts _ (ack-raises t m from.number x inc (status_refusal x how)) _ _ old new left h
further-lasts number t opening m reading from (message.Snap x c called tracker) old new left h = whole-lasts _ (freeze-raises t m reading tracker None c (snap.is_held_by_all t 0)) _ _ old new left h
further-lasts number t opening m reading from (message.Freeze x c s) old new left h = whole-lasts _ (freeze-raises t m reading s (Some s) c false) _ _ old new left h
further-lasts number t opening m reading from (message.Held x refusal) old new left h = whole-lasts _ (held-raises t m from.number x refusal) _ _ old new left h
further-lasts number t opening m reading from (message.Prune x c (Some tracker) None) old new left h = whole-lasts _ (prune-raises t m reading tracker None c number) _ _ old new left h
further-lasts number t opening m reading from (message.Prune x c None (Some g)) old new left h = whole-lasts _ (prune-raises t m reading g (Some g) c number) _ _ old new left h
further-lasts number t opening m reading from (message.Reset' by down place (more_of-Message asked rest)) old new left h = whole-lasts _ looks-raises _ _ old new left h
further-lasts number t opening m reading from q old new left h = absurd h

commit-cut : (t : TargetPlan) (opening : Epoch × FloorWhy) (m : TargetMemory) (reading : ℕ) (q : CommitRequest) (old : Kept) (cut : Cutting) → CommitIsCut t opening m reading q old cut → Lasts old.durable cut.left.durable
commit-cut t opening m reading q old cut (NoneIsDown none g) = cut-lasts _ (commit-raises t opening m reading q) _ _ _ old cut g
commit-cut t opening m reading q old cut (OneIsDown e down is g) = cut-lasts _ (unstored-raises t opening m reading q) _ _ _ old cut g

-- a turn was cut in which a target hears a message
pub hearing-lasts : (is_due : AttemptId → Durable → Bool) (number : ℕ) (t : TargetPlan) (opening : Epoch × FloorWhy) (m : TargetMemory) (reading : ℕ) (from : ActorId) (q : Message) (old : Kept) (cut : Cutting)
    → HearingIsCut is_due number t opening m reading from q old cut → Lasts old.durable cut.left.durable
hearing-lasts is_due number t opening m reading from (message.Fetch x op group ep first tracker r snapshot) old cut g = cut-lasts _ (fetch-raises t m reading (fetch_request x op group ep first tracker r snapshot)) _ _ _ old cut g
hearing-lasts is_due number t opening m reading from (message.Commit x ep first tracker ws) old cut g = commit-cut t opening m reading (commit_request x ep first tracker ws) old cut g
hearing-lasts is_due number t opening m reading from (message.Prepare e first ws inc) old cut g = cut-lasts _ (prepare-raises t opening m (prepare_request e first ws inc)) _ _ _ old cut g
hearing-lasts is_due number t opening m reading from (message.Ack x inc refusal) old cut g = cut-lasts _ (ack-raises t m from.number x inc refusal) _ _ _ old cut g
hearing-lasts is_due number t opening m reading from (message.StatusIs x inc how) old cut g = cut-lasts _ (ack-raises t m from.number x inc (status_refusal x how)) _ _ _ old cut g
hearing-lasts is_due number t opening m reading from (message.Mark inc marks) old cut g = cut-lasts _ (mark-raises is_due) _ _ _ old cut g
hearing-lasts is_due number t opening m reading from (message.Marked inc ids) old cut g = cut-lasts _ (marked-raises t m from.number) _ _ _ old cut g
hearing-lasts is_due number t opening m reading from (message.Verdict x ask inc v) old cut g = cut-lasts _ (verdict-raises is_due t (told_by v x m) reading x ask v) _ _ _ old cut g
hearing-lasts is_due number t opening m reading from (message.Snap x c name tracker) old cut g = cut-lasts _ (freeze-raises t m reading tracker None c (snap.is_held_by_all t 0)) _ _ _ old cut g
hearing-lasts is_due number t opening m reading from (message.Freeze x c s) old cut g = cut-lasts _ (freeze-raises t m reading s (Some s) c false) _ _ _ old cut g
hearing-lasts is_due number t opening m reading from (message.Held x refusal) old cut g = cut-lasts _ (held-raises t m from.number x refusal) _ _ _ old cut g
hearing-lasts is_due number t opening m reading from (message.Prune x c (Some tracker) None) old cut g = cut-lasts _ (prune-raises t m reading tracker None c number) _ _ _ old cut g
hearing-lasts is_due number t opening m reading from (message.Prune x c None (Some e)) old cut g = cut-lasts _ (prune-raises t m reading e (Some e) c number) _ _ _ old cut g
hearing-lasts is_due number t opening m reading from (message.Query x ask) old cut g = cut-lasts _ query-raises _ _ _ old cut g
hearing-lasts is_due number t opening m reading from (message.Ask x) old cut g = cut-lasts _ looks-raises _ _ _ old cut g
hearing-lasts is_due number t opening m reading from (message.Status x inc) old cut g = cut-lasts _ looks-raises _ _ _ old cut g
hearing-lasts is_due number t opening m reading from (message.Reset' by down place asked) old cut g = cut-lasts _ looks-raises _ _ _ old cut g
hearing-lasts is_due number t opening m reading from q old cut g = absurd g

-- and one of idle work
pub idle-lasts : (t : ℕ) (m : TargetMemory) (old : Kept) (cut : Cutting) → IdleWorkIsCut t m old cut → Lasts old.durable cut.left.durable
idle-lasts t m old cut g = cut-lasts IdleNext idle-raises _ _ _ old cut g
