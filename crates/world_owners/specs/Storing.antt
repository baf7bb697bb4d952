-- A turn of a Commit or a Prepare, whole or cut, stores what that brings, or nothing.
use Rattle.std.specs.Prelude.{ℕ, ◌≡◌, ◌⊎◌, ◌/◌, ◌||◌, Bool, true, false, List, Option, Some, None, refl}
use Rattle.std.proofs.Common.{inl, inr, sym, ap, subst}
use Rattle.base_types.specs.declared.entry.Entry.{Entry}
use Rattle.base_types.specs.declared.epoch.Epoch.{Epoch}
use Rattle.base_types.specs.declared.id.AttemptId.{AttemptId}
use Rattle.base_types.specs.declared.operation.MinorWrite.{MinorWrite}
use Rattle.base_types.specs.declared.outcome.FloorWhy.{FloorWhy}
use Rattle.base_types.specs.declared.report.Line.{Line}
use Rattle.base_messages.specs.declared.actor.ActorId.{ActorId}
use Rattle.model_laws.specs.Members.{Has}
use Rattle.daos_model.specs.declared.durable.Durable.{Durable}
use Rattle.world_base.specs.declared.did.Did.{Did}
use Rattle.world_base.specs.declared.request.CommitRequest.{CommitRequest}
use Rattle.world_base.specs.declared.request.PrepareRequest.{PrepareRequest}
use Rattle.world_base.specs.declared.target.TargetMemory.{TargetMemory}
use Rattle.world_base.specs.declared.target.TargetPlan.{TargetPlan}
use Rattle.world_base.specs.Changes.{After, Before, Change, Cut, InPart, Kept, Prepares, Steps}
use Rattle.world_base.specs.Commits as commit
use Rattle.world_base.specs.CutTurns as cuts
use Rattle.world_base.specs.CutTurns.{CommitIsCut, CutHere, CutTurn, Cutting, HearingIsCut, IdleWorkIsCut, InChange, InQuestion, NoneIsDown, OneIsDown, UnstoredNext, is_stored, issued_by_commit, listed_issue, none_issued}
use Rattle.world_base.specs.Events.{listed}
use Rattle.world_base.specs.Further.{CommitDown, IsSpent, IsUnknown}
use Rattle.world_base.specs.PathLaws.{AllPlain, path-keeps, reached-keeps}
use Rattle.world_base.specs.Prepares as prepare
use Rattle.world_base.specs.Requests.{issued_for, request_epoch}
use Rattle.world_base.specs.TurnLaws.{commit-plain}
use Rattle.world_base.specs.Turns.{Whole}
use Rattle.world_making.specs.world_causes.causes.Causes.{Dated}
use Rattle.world_making.specs.world_causes.restarts.Cuts.{cut-keeps}
use Rattle.world_making.specs.world_causes.showing.CutTurns.{is_prepared_stage, is_store_cut}
use Rattle.world_owners.specs.Changing.{IsLeftOf}
use Rattle.world_owners.specs.Becoming.{Becomes, IsExtended, IsLeft, IsOfCommit, IsStored, IsStoredOn, StepIsCut, extended-itself, extended-more, extended-same, extending-cut, is_store_step, left-extended}

-- ---- a Commit

-- an epoch that the request doesn't bear is issued
issue-listed : (p : TargetPlan) (m : TargetMemory) (reading : ℕ) (tracker : Epoch) (x : AttemptId) (ep : Option Epoch) (e : Epoch) → request_epoch p m reading tracker ep ≡ Some e → (ep ≡ Some e) ⊎ Has (x, e) (listed (issued_for x ep e))
issue-listed p m reading tracker x None e has = inr (inl refl)
issue-listed p m reading tracker x (Some own) e has = inl has

issue-cut : (p : TargetPlan) (m : TargetMemory) (reading : ℕ) (tracker : Epoch) (x : AttemptId) (ep : Option Epoch) (e : Epoch) → request_epoch p m reading tracker ep ≡ Some e → (ep ≡ Some e) ⊎ Has (x, e) (listed_issue (issued_for x ep e))
issue-cut p m reading tracker x None e has = inr (inl refl)
issue-cut p m reading tracker x (Some own) e has = inl has

module _ (p : TargetPlan) (opening : Epoch × FloorWhy) (m : TargetMemory) (reading : ℕ) (q : CommitRequest) (old : Kept) where
  abbrev IsIts : Epoch → Type 0
  IsIts e = request_epoch p m reading q.tracker q.ep ≡ Some e

  -- what holds at a stage
  abbrev CommitAt : commit.CommitStage → Kept → Type 0
  CommitAt commit.Asked k = IsExtended old.durable k.durable
  CommitAt (commit.Known e) k = IsExtended old.durable k.durable × IsIts e
  CommitAt (commit.Checking e) k = IsExtended old.durable k.durable × IsIts e
  CommitAt (commit.Stored e) k = IsStoredOn old.durable (commit.led_entry p q e) (commit.own_writes p q.writes) k.durable × IsIts e

  commit-step : (s : commit.CommitStage) (k : Kept) (o : Option Change) (u : commit.CommitStage) (l : Kept) → commit.CommitNext p opening m reading q s k o u → Steps o k l → CommitAt s k → CommitAt u l
  commit-step s k o u l (commit.HasEpoch j e is) steps at = (extended-same old.durable k l steps at, is)
  commit-step s k o u l (commit.ExtendsLease j e lease low is) steps at = (extended-more old.durable k l (e.0 / 256) lease low is steps at.0, at.1)
  commit-step s k o u l (commit.IsCovered j e low) steps at = (extended-same old.durable k l steps at.0, at.1)
  commit-step s k o u l (commit.Stores j e allowed space) steps at = (record { on = k.durable; extended = at.0; now = steps.0 }, at.1)

  -- what is brought, where these epochs were issued
  of-commit : (issued : Dated) (e : Epoch) → IsIts e → (q.ep ≡ Some e) ⊎ Has (q.attempt, e) issued → IsOfCommit p m issued q (commit.led_entry p q e) (commit.own_writes p q.writes)
  of-commit issued e is dated = record { reading = reading; epoch = e; has = is; dated = dated; entry = refl; writes = refl }

  -- a whole turn
  abbrev CommitLeaves : Dated → Durable → Type 0
  CommitLeaves issued d = Becomes (IsOfCommit p m issued q) old.durable d

  commit-ends : (from : ActorId) (s : commit.CommitStage) (k : Kept) (left : TargetMemory × Did) → CommitAt s k → commit.CommitEnds p opening m reading q from s k left → CommitLeaves (listed left.1.issued) k.durable
  commit-ends from s k left at (commit.IsSpent j left2 none is) = IsLeft (left-extended old.durable k.durable at)
  commit-ends from s k left at (commit.IsRefused j e c left2 refused is) = IsLeft (left-extended old.durable k.durable at.0)
  commit-ends from s k left at (commit.HasNoSpace j e left2 allowed space is) = IsLeft (left-extended old.durable k.durable at.0)
  commit-ends from s k left at (commit.HasBegun j e left2 is) =
      IsStored (commit.led_entry p q e) (commit.own_writes p q.writes)
      (of-commit (listed left.1.issued) e at.1 (subst (λ o. (q.ep ≡ Some e) ⊎ Has (q.attempt, e) (listed o)) (sym (ap (λ z. z.1.issued) is)) (issue-listed p m reading q.tracker q.attempt q.ep e at.1))) at.0

  pub commit-leaves : (from : ActorId) (new : Kept) (left : TargetMemory × Did) → Whole (commit.CommitNext p opening m reading q) (commit.CommitEnds p opening m reading q from) commit.Asked old new left → CommitLeaves (listed left.1.issued) new.durable
  commit-leaves from new left w =
      commit-ends from w.last new left (reached-keeps (commit.CommitNext p opening m reading q) CommitAt commit-step commit.Asked old w.last new w.reached (extended-itself old.durable old.durable refl)) w.ends

  -- one with a member that is known to be down stores nothing
  down-ends : (from : ActorId) (s : commit.CommitStage) (k : Kept) (left : TargetMemory × Did) → CommitAt s k → CommitDown p m reading q from s k left → IsLeftOf old.durable k.durable
  down-ends from s k left at (IsSpent j e down left2 none is same) = left-extended old.durable k.durable at
  down-ends from s k left at (IsUnknown j e down left2 is same) = left-extended old.durable k.durable at.0

  pub down-leaves : (from : ActorId) (new : Kept) (left : TargetMemory × Did) → Whole (commit.CommitNext p opening m reading q) (CommitDown p m reading q from) commit.Asked old new left → IsLeftOf old.durable new.durable
  down-leaves from new left w =
      down-ends from w.last new left (reached-keeps (commit.CommitNext p opening m reading q) CommitAt commit-step commit.Asked old w.last new w.reached (extended-itself old.durable old.durable refl)) w.ends

  -- a turn that was cut: it counts as one that stored where it did, or was about to
  module _ (issued : Dated) where
    abbrev CutLeaves : Bool → Durable → Type 0
    CutLeaves stores d = Becomes (λ k ws. IsOfCommit p m issued q k ws × (stores ≡ true)) old.durable d

    its : (e : Epoch) → issued ≡ listed_issue (issued_for q.attempt q.ep e) → IsIts e → IsOfCommit p m issued q (commit.led_entry p q e) (commit.own_writes p q.writes)
    its e are is = of-commit issued e is (subst (λ is'. (q.ep ≡ Some e) ⊎ Has (q.attempt, e) is') (sym are) (issue-cut p m reading q.tracker q.attempt q.ep e is))

    in-question : (s : commit.CommitStage) (k : Kept) (x : Durable) → CommitAt s k → x ≡ k.durable → issued ≡ issued_by_commit q s → CutLeaves (is_stored s || false) x
    in-question commit.Asked k x at same are = IsLeft (subst (IsLeftOf old.durable) (sym same) (left-extended old.durable k.durable at))
    in-question (commit.Known e) k x at same are = IsLeft (subst (IsLeftOf old.durable) (sym same) (left-extended old.durable k.durable at.0))
    in-question (commit.Checking e) k x at same are = IsLeft (subst (IsLeftOf old.durable) (sym same) (left-extended old.durable k.durable at.0))
    in-question (commit.Stored e) k x at same are =
        IsStored (commit.led_entry p q e) (commit.own_writes p q.writes) (its e are at.1, refl) (subst (IsStoredOn old.durable (commit.led_entry p q e) (commit.own_writes p q.writes)) (sym same) at.0)

    storing-cut : (e : Epoch) (k : Kept) (x : Durable) → CommitAt (commit.Checking e) k → issued ≡ listed_issue (issued_for q.attempt q.ep e) → Cut (Prepares (commit.led_entry p q e) (commit.own_writes p q.writes)) k.durable x → CutLeaves true x
    storing-cut e k x at are (Before same) = IsLeft (subst (IsLeftOf old.durable) (sym same) (left-extended old.durable k.durable at.0))
    storing-cut e k x at are (After same) = IsStored (commit.led_entry p q e) (commit.own_writes p q.writes) (its e are at.1, refl) (record { on = k.durable; extended = at.0; now = same })
    storing-cut e k x at are (InPart partly) = absurd partly

    in-change : (s : commit.CommitStage) (k : Kept) (o : Option Change) (u : commit.CommitStage) (x : Durable) → commit.CommitNext p opening m reading q s k o u → StepIsCut o k.durable x → CommitAt s k → issued ≡ issued_by_commit q s
        → CutLeaves (is_stored s || is_store_step o) x
    in-change s k o u x (commit.HasEpoch j e is) cut at are = absurd cut
    in-change s k o u x (commit.ExtendsLease j e lease low is) cut at are = IsLeft (extending-cut old.durable k (e.0 / 256) lease x low is cut at.0)
    in-change s k o u x (commit.IsCovered j e low) cut at are = absurd cut
    in-change s k o u x (commit.Stores j e allowed space) cut at are = storing-cut e k x at are cut

    at-cut : (t : ℕ) (s : commit.CommitStage) (k left : Kept) (lines : List Line) → CommitAt s k → issued ≡ issued_by_commit q s → (here : CutHere (commit.CommitNext p opening m reading q) t s k left lines) → CutLeaves (is_stored s || is_store_cut here) left.durable
    at-cut t s k left lines at are (InChange c next is cut free) = in-change s k (Some c) next left.durable is cut at are
    at-cut t s k left lines at are (InQuestion same free) = in-question s k left.durable at same are

  pub commit-cut : (cut : Cutting) (g : CutTurn (commit.CommitNext p opening m reading q) (issued_by_commit q) p.me commit.Asked old cut) → CutLeaves cut.issued (is_stored g.last || is_store_cut g.here) cut.left.durable
  commit-cut cut g =
      at-cut cut.issued p.me g.last g.mid cut.left g.lines (path-keeps (commit.CommitNext p opening m reading q) CommitAt commit-step commit.Asked old g.did g.last g.mid g.path (extended-itself old.durable old.durable refl)) g.issued g.here

  -- before it stored anything
  unstored-plain : AllPlain (UnstoredNext p opening m reading q)
  unstored-plain s k o u (cuts.Before s2 u2 k2 o2 next early) = commit-plain p opening m reading q s k o u next

  unstored : (s : commit.CommitStage) (k : Kept) (o : Option Change) (u : commit.CommitStage) (l : Kept) → commit.CommitNext p opening m reading q s k o u → is_stored u ≡ false → Steps o k l → IsExtended old.durable k.durable → IsExtended old.durable l.durable
  unstored s k o u l (commit.HasEpoch j e is) early steps at = extended-same old.durable k l steps at
  unstored s k o u l (commit.ExtendsLease j e lease low is) early steps at = extended-more old.durable k l (e.0 / 256) lease low is steps at
  unstored s k o u l (commit.IsCovered j e low) early steps at = extended-same old.durable k l steps at
  unstored s k o u l (commit.Stores j e allowed space) early steps at = let no : ⊥ = cc in absurd no

  unstored-step : (s : commit.CommitStage) (k : Kept) (o : Option Change) (u : commit.CommitStage) (l : Kept) → UnstoredNext p opening m reading q s k o u → Steps o k l → IsExtended old.durable k.durable → IsExtended old.durable l.durable
  unstored-step s k o u l (cuts.Before s2 u2 k2 o2 next early) steps at = unstored s k o u l next early steps at

  pub down-cut : (cut : Cutting) → CutTurn (UnstoredNext p opening m reading q) (issued_by_commit q) p.me commit.Asked old cut → IsLeftOf old.durable cut.left.durable
  down-cut cut g =
      cut-keeps (UnstoredNext p opening m reading q) (issued_by_commit q) p.me (λ s k. IsExtended old.durable k.durable) (IsLeftOf old.durable) unstored-plain unstored-step (λ s k at. left-extended old.durable k.durable at)
      commit.Asked old cut g (extended-itself old.durable old.durable refl)

-- ---- a Prepare

module _ (p : TargetPlan) (opening : Epoch × FloorWhy) (m : TargetMemory) (q : PrepareRequest) (old : Kept) where
  abbrev PrepareAt : prepare.PrepareStage → Kept → Type 0
  PrepareAt prepare.Heard k = IsExtended old.durable k.durable
  PrepareAt prepare.Checking k = IsExtended old.durable k.durable
  PrepareAt prepare.Stored k = IsStoredOn old.durable q.entry q.writes k.durable

  prepare-step : (s : prepare.PrepareStage) (k : Kept) (o : Option Change) (u : prepare.PrepareStage) (l : Kept) → prepare.PrepareNext p opening m q s k o u → Steps o k l → PrepareAt s k → PrepareAt u l
  prepare-step s k o u l (prepare.ExtendsLease j lease low is) steps at = extended-more old.durable k l (q.entry.epoch.0 / 256) lease low is steps at
  prepare-step s k o u l (prepare.IsCovered j low) steps at = extended-same old.durable k l steps at
  prepare-step s k o u l (prepare.Stores j allowed space) steps at = record { on = k.durable; extended = at; now = steps.0 }

  abbrev IsItself : Entry → List MinorWrite → Type 0
  IsItself k ws = (k ≡ q.entry) × (ws ≡ q.writes)

  prepare-ends : (s : prepare.PrepareStage) (k : Kept) (left : TargetMemory × Did) → PrepareAt s k → prepare.PrepareEnds p opening m q s k left → Becomes IsItself old.durable k.durable
  prepare-ends s k left at (prepare.IsRefused j c left2 refused is) = IsLeft (left-extended old.durable k.durable at)
  prepare-ends s k left at (prepare.HasNoSpace j left2 allowed space is) = IsLeft (left-extended old.durable k.durable at)
  prepare-ends s k left at (prepare.IsPrepared j left2 is) = IsStored q.entry q.writes (refl, refl) at

  pub prepare-leaves : (new : Kept) (left : TargetMemory × Did) → Whole (prepare.PrepareNext p opening m q) (prepare.PrepareEnds p opening m q) prepare.Heard old new left → Becomes IsItself old.durable new.durable
  prepare-leaves new left w =
      prepare-ends w.last new left (reached-keeps (prepare.PrepareNext p opening m q) PrepareAt prepare-step prepare.Heard old w.last new w.reached (extended-itself old.durable old.durable refl)) w.ends

  abbrev PrepareCut : Bool → Durable → Type 0
  PrepareCut stores d = Becomes (λ k ws. IsItself k ws × (stores ≡ true)) old.durable d

  asked-then : (s : prepare.PrepareStage) (k : Kept) (x : Durable) → PrepareAt s k → x ≡ k.durable → PrepareCut (is_prepared_stage s || false) x
  asked-then prepare.Heard k x at same = IsLeft (subst (IsLeftOf old.durable) (sym same) (left-extended old.durable k.durable at))
  asked-then prepare.Checking k x at same = IsLeft (subst (IsLeftOf old.durable) (sym same) (left-extended old.durable k.durable at))
  asked-then prepare.Stored k x at same = IsStored q.entry q.writes ((refl, refl), refl) (subst (IsStoredOn old.durable q.entry q.writes) (sym same) at)

  preparing-cut : (k : Kept) (x : Durable) → IsExtended old.durable k.durable → Cut (Prepares q.entry q.writes) k.durable x → PrepareCut true x
  preparing-cut k x at (Before same) = IsLeft (subst (IsLeftOf old.durable) (sym same) (left-extended old.durable k.durable at))
  preparing-cut k x at (After same) = IsStored q.entry q.writes ((refl, refl), refl) (record { on = k.durable; extended = at; now = same })
  preparing-cut k x at (InPart partly) = absurd partly

  changed-then : (s : prepare.PrepareStage) (k : Kept) (o : Option Change) (u : prepare.PrepareStage) (x : Durable) → prepare.PrepareNext p opening m q s k o u → StepIsCut o k.durable x → PrepareAt s k → PrepareCut (is_prepared_stage s || is_store_step o) x
  changed-then s k o u x (prepare.ExtendsLease j lease low is) cut at = IsLeft (extending-cut old.durable k (q.entry.epoch.0 / 256) lease x low is cut at)
  changed-then s k o u x (prepare.IsCovered j low) cut at = absurd cut
  changed-then s k o u x (prepare.Stores j allowed space) cut at = preparing-cut k x at cut

  cut-then : (t : ℕ) (s : prepare.PrepareStage) (k left : Kept) (lines : List Line) → PrepareAt s k → (here : CutHere (prepare.PrepareNext p opening m q) t s k left lines) → PrepareCut (is_prepared_stage s || is_store_cut here) left.durable
  cut-then t s k left lines at (InChange c next is cut free) = changed-then s k (Some c) next left.durable is cut at
  cut-then t s k left lines at (InQuestion same free) = asked-then s k left.durable at same

  pub prepare-cut : (cut : Cutting) (g : CutTurn (prepare.PrepareNext p opening m q) none_issued p.me prepare.Heard old cut) → PrepareCut (is_prepared_stage g.last || is_store_cut g.here) cut.left.durable
  prepare-cut cut g = cut-then p.me g.last g.mid cut.left g.lines (path-keeps (prepare.PrepareNext p opening m q) PrepareAt prepare-step prepare.Heard old g.did g.last g.mid g.path (extended-itself old.durable old.durable refl)) g.here
