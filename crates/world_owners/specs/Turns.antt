-- What turns by which nothing is stored leave of what a target keeps, whole or cut.
use Rattle.std.specs.Prelude.{ℕ, ◌≡◌, ◌/◌, Bool, true, false, List, Option, Some, refl}
use Rattle.std.proofs.Common.{sym, subst}
use Rattle.base_types.specs.declared.entry.Verdict.{Verdict}
use Rattle.base_types.specs.declared.entry.Verdict.TheVariants as fate
use Rattle.base_types.specs.declared.epoch.Epoch.{Epoch}
use Rattle.base_types.specs.declared.id.AttemptId.{AttemptId}
use Rattle.base_types.specs.declared.outcome.FloorWhy.{FloorWhy}
use Rattle.base_types.specs.declared.outcome.Outcome.{Outcome}
use Rattle.base_types.specs.declared.report.Line.{Line}
use Rattle.base_messages.specs.declared.actor.ActorId.{ActorId}
use Rattle.base_messages.specs.declared.message.Message.{Message}
use Rattle.daos_model.specs.declared.durable.Durable.{Durable}
use Rattle.world_base.specs.declared.did.Did.{Did}
use Rattle.world_base.specs.declared.request.FetchRequest.{FetchRequest}
use Rattle.world_base.specs.declared.target.TargetMemory.{TargetMemory}
use Rattle.world_base.specs.declared.target.TargetPlan.{TargetPlan}
use Rattle.world_base.specs.Acks as ack
use Rattle.world_base.specs.ChangeLaws.{extends-raises}
use Rattle.world_base.specs.Changes.{Change, Kept}
use Rattle.world_base.specs.CutTurns.{CutHere, CutTurn, Cutting, HearingIsCut, InChange, InQuestion}
use Rattle.world_base.specs.Further.{HearsFurther}
use Rattle.world_base.specs.Idle.{IdleNext, SettlesFirst}
use Rattle.world_base.specs.Marks as mark
use Rattle.world_base.specs.PathLaws.{path-keeps}
use Rattle.world_base.specs.Reads as read
use Rattle.world_base.specs.Statuses.{Looks, NoChange}
use Rattle.world_base.specs.Turns.{Path, Whole}
use Rattle.world_base.specs.Verdicts as verdict
use Rattle.world_making.specs.world_commit.statuses.Heard.{is_of_attempts}
use Rattle.world_making.specs.world_commit.stops.CutEvents.{is_without_snapshots}
use Rattle.world_making.specs.making.Making as making
use Rattle.world_making.specs.making.Making.{MakingNext, making_begins, making_issues}
use Rattle.world_making.specs.making.Turns.{cuts-leave, hearings-leave}
use Rattle.world_owners.specs.Changing.{ForgetsNone, IsLeftOf, StoresNone, left-cut, left-itself, left-steps, left-then}
use Rattle.world_making.specs.making.Kinds.{of-making, cut-making}

-- ---- kinds of turns

-- by no step of a kind of turn is anything stored, or an attempt forgotten
abbrev pub NoneStored : {S : Type 0} → (S → Kept → Option Change → S → Type 0) → Type 0
NoneStored {S} Next = (s : S) (k : Kept) (o : Option Change) (u : S) → Next s k o u → StoresNone k.durable o

pub fetch-stores : (t : TargetPlan) (m : TargetMemory) (reading : ℕ) (q : FetchRequest) → NoneStored (read.FetchNext t m reading q)
fetch-stores t m reading q s k o u (read.AtSnapshot j e at is) = tt
fetch-stores t m reading q s k o u (read.HasEpoch j e at is) = tt
fetch-stores t m reading q s k o u (read.ExtendsLease j e lease low is) = extends-raises k.durable (e.0 / 256) lease low is
fetch-stores t m reading q s k o u (read.IsCovered j e low) = tt
fetch-stores t m reading q s k o u (read.SettlesOwn j e decided a none unsettled among) = tt

pub ack-stores : (t : TargetPlan) (m : TargetMemory) (member : ℕ) (a : AttemptId) (inc : ℕ) (refusal : Option Outcome) → NoneStored (ack.AckNext t m member a inc refusal)
ack-stores t m member a inc refusal s k o u (ack.Aborts j is) = tt
ack-stores t m member a inc refusal s k o u (ack.Counts j is) = tt

marked-forgets : (committed : Bool) → ForgetsNone (mark.marked_step committed)
marked-forgets true = tt
marked-forgets false = tt

pub mark-stores : (is_due : AttemptId → Durable → Bool) → NoneStored (mark.MarkNext is_due)
mark-stores is_due s k o u (mark.SettlesMarked j a committed rest is) = marked-forgets committed
mark-stores is_due s k o u (mark.PassesBy j a committed rest is) = tt

pub marked-stores : (t : TargetPlan) (m : TargetMemory) (member : ℕ) → NoneStored (ack.MarkedNext t m member)
marked-stores t m member s k o u (ack.Confirms j a rest is) = tt
marked-stores t m member s k o u (ack.PassesBy j a rest is) = tt

pub query-stores : NoneStored verdict.QueryNext
query-stores s k o u (verdict.Answers j) = tt

pub look-stores : NoneStored NoChange
look-stores s k o u (Looks j) = tt

settling-stores : (d : Durable) (a : AttemptId) (due : Bool) (v : Verdict) → StoresNone d (verdict.settling_change a (verdict.step_if due (verdict.step_by v)))
settling-stores d a false v = tt
settling-stores d a true fate.Committed = tt
settling-stores d a true fate.Aborted = tt
settling-stores d a true fate.Undecided = tt

pub verdict-stores : (is_due : AttemptId → Durable → Bool) (t : TargetPlan) (m : TargetMemory) (reading : ℕ) (a : AttemptId) (ask : Option AttemptId) (v : Verdict) → NoneStored (verdict.VerdictNext is_due t m reading a ask v)
verdict-stores is_due t m reading a ask v s k o u (verdict.SettlesBy j p is) = subst (StoresNone k.durable) (sym is) (settling-stores k.durable a (is_due a k.durable) v)
verdict-stores is_due t m reading a ask v s k o u (verdict.TriesNext j n posts rest x op group ep first tracker r snapshot) = tt
verdict-stores is_due t m reading a ask v s k o u (verdict.GoesOn j n posts rest q i z p next) = fetch-stores t n reading q i k o z next
verdict-stores is_due t m reading a ask v s k o u (verdict.IsDone j n posts rest q i left ends) = tt

pub idle-stores : NoneStored IdleNext
idle-stores s k o u (SettlesFirst j a rest) = tt

making-stores : (number : ℕ) (p : TargetPlan) (m : TargetMemory) (reading : ℕ) (from : ActorId) (q : Message) → NoneStored (MakingNext number p m reading from q)
making-stores number p m reading from q s k o u (making.Passes z j) = tt
making-stores number p m reading from q s k o u (making.ExtendsLease z j a e lease asks is low found) = extends-raises k.durable (e.0 / 256) lease low found
making-stores number p m reading from q s k o u (making.IsCovered rest j a e asks at) = tt
making-stores number p m reading from q s k o u (making.SettlesFirst b rest j a g asks at) = tt
making-stores number p m reading from q s k o u (making.PrunesIt j a g asks at due) = tt
making-stores number p m reading from q s k o u (making.FreezesIt rest j a e asks at cause new) = tt
making-stores number p m reading from q s k o u (making.CreatesIt z j c e by) = tt

-- ---- turns of such a kind

module _ {S : Type 0} (Next : S → Kept → Option Change → S → Type 0) (none : NoneStored Next) where
  path-left : (start : S) (old : Kept) (did : List Change) (last : S) (mid : Kept) → Path Next start old did last mid → IsLeftOf old.durable mid.durable
  path-left start old did last mid path =
      path-keeps Next (λ s k. IsLeftOf old.durable k.durable) (λ s k o u l next steps so. left-then old.durable k.durable l.durable so (left-steps o k l (none s k o u next) steps)) start old did last mid path
      (left-itself old.durable old.durable refl)

  pub whole-left : {R : Type 0} (Ends : S → Kept → R → Type 0) (start : S) (old new : Kept) (result : R) → Whole Next Ends start old new result → IsLeftOf old.durable new.durable
  whole-left Ends start old new result w = path-left start old w.reached.did w.last new w.reached.path

  pub cut-left : (issues : S → List (AttemptId × Epoch)) (t : ℕ) (start : S) (old : Kept) (cut : Cutting) → CutTurn Next issues t start old cut → IsLeftOf old.durable cut.left.durable
  cut-left issues t start old cut g = left-then old.durable g.mid.durable cut.left.durable (path-left start old g.did g.last g.mid g.path) (here g.lines g.here)
    where
      here : (lines : List Line) → CutHere Next t g.last g.mid cut.left lines → IsLeftOf g.mid.durable cut.left.durable
      here lines (InChange c next is left free) = left-cut c g.mid.durable cut.left.durable (none g.last g.mid (Some c) next is) left
      here lines (InQuestion is free) = left-itself g.mid.durable cut.left.durable is

-- ---- what is heard of snapshots and aggregation

pub making-left : (number : ℕ) (p : TargetPlan) (opening : Epoch × FloorWhy) (m : TargetMemory) (reading : ℕ) (from : ActorId) (q : Message) (old new : Kept) (left : TargetMemory × Did) → is_of_attempts q ≡ false
    → HearsFurther number p opening m reading from q old new left → IsLeftOf old.durable new.durable
making-left number p opening m reading from q old new left ours h =
    let n = hearings-leave number p opening m reading from q old new left h (of-making q ours) in
    path-left (MakingNext number p m reading from q) (making-stores number p m reading from q) (making_begins m) old n.reached.did n.last new n.reached.path

pub making-cut-left : (is_due : AttemptId → Durable → Bool) (number : ℕ) (p : TargetPlan) (opening : Epoch × FloorWhy) (m : TargetMemory) (reading : ℕ) (from : ActorId) (q : Message) (old : Kept) (cut : Cutting) → is_without_snapshots q ≡ false
    → HearingIsCut is_due number p opening m reading from q old cut → IsLeftOf old.durable cut.left.durable
making-cut-left is_due number p opening m reading from q old cut ours g =
    cut-left (MakingNext number p m reading from q) (making-stores number p m reading from q) (making_issues q) p.me (making_begins m) old cut (cuts-leave is_due number p opening m reading from q old cut g (cut-making q ours))
