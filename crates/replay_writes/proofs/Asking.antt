-- A Commit from its beginning on.
use Rattle.std.proofs.Common.{ℕ, ◌≡◌, ◌/◌, refl, sym, ◌∙◌, ap, subst, Bool, false, Option, Some, None}
use Rattle.std.specs.Bool.{Decides}
use Rattle.base_types.specs.declared.epoch.Epoch.{Epoch}
use Rattle.base_types.specs.declared.outcome.FloorWhy.{FloorWhy}
use Rattle.base_messages.specs.declared.actor.ActorId.{ActorId}
use Rattle.daos_model.specs.declared.durable.Durable.{Durable}
use Rattle.world_base.specs.declared.did.Did.{Did}
use Rattle.world_base.specs.declared.request.CommitRequest.{CommitRequest}
use Rattle.world_base.specs.declared.target.TargetMemory.{TargetMemory}
use Rattle.world_base.specs.declared.target.TargetPlan.{TargetPlan}
use Rattle.world_base.specs.Changes.{Change, Kept}
use Rattle.world_base.specs.Commits.{Asked, Checking, CommitEnds, CommitNext, CommitStage, ExtendsLease, HasEpoch, IsCovered, IsSpent, Known, Stored}
use Rattle.world_base.specs.Requests.{issued_for, request_epoch}
use Rattle.world_base.specs.Turns.{Whole}
use Rattle.replay_base.specs.Leases as lease
use Rattle.replay_base.specs.Onward.{Onward}
use Rattle.replay_base.specs.Requested.{AsksAt, IsToldEpoch, SpentSo, TellsEpoch}
use Rattle.replay_base.specs.declared.leases.Covered.{Covered}
use Rattle.replay_base.proofs.Asking.{keeps_on, known_decides, known_not, spent_decides}
use Rattle.replay_base.proofs.Chains.{decides_on}
use Rattle.replay_base.proofs.Covering.{CoverStep, Covering, Extending, cover_iff, cover_none}
use Rattle.replay_writes.proofs.Stages.{EndsAt, NextAt, Refused, Spaceless, Turned, ends_at_stage, next_at, spent}

-- the epoch of a stage
abbrev IsAt : Epoch → CommitStage → Type 0
IsAt e Asked = ⊥
IsAt e (Known f) = f ≡ e
IsAt e (Checking f) = f ≡ e
IsAt e (Stored f) = f ≡ e

module _ (t : TargetPlan) (opening : Epoch × FloorWhy) (m : TargetMemory) (reading : ℕ) (q : CommitRequest) (from : ActorId) where
  cover_at : (e f : Epoch) (k : Kept) (o : Option Change) (u : CommitStage) → f ≡ e → CoverStep (f.0 / 256) (Known f) (Checking f) k o u → IsAt e u
  cover_at e f k o u at (Extending lease low is) = at
  cover_at e f k o u at (Covering le) = at

  stays : (e : Epoch) (s : CommitStage) (k : Kept) (o : Option Change) (u : CommitStage) → IsAt e s → CommitNext t opening m reading q s k o u → IsAt e u
  stays e s k o u at next = by s at (next_at t opening m reading q from s k o u next)
    where
      by : (s : CommitStage) → IsAt e s → NextAt t opening m reading q from s k o u → IsAt e u
      by Asked at step = absurd at
      by (Known f) at step = cover_at e f k o u at step
      by (Checking f) at step = subst (IsAt e) (sym step.there) at
      by (Stored f) at step = absurd step

  turned_issues : (e : Epoch) (k : Kept) (r : TargetMemory × Did) → Turned t opening m reading q from e k r → r.1.issued ≡ issued_for q.attempt q.ep e
  turned_issues e k r (Refused c why is) = ap (λ l. l.1.issued) is
  turned_issues e k r (Spaceless allowed lacks is) = ap (λ l. l.1.issued) is

  issues : (e : Epoch) (k new : Kept) (r : TargetMemory × Did) → Whole (CommitNext t opening m reading q) (CommitEnds t opening m reading q from) (Known e) k new r → r.1.issued ≡ issued_for q.attempt q.ep e
  issues e k new r w = by w.last (keeps_on (CommitNext t opening m reading q) (IsAt e) (stays e) (Known e) k w.reached.did w.last new w.reached.path refl) (ends_at_stage t opening m reading q from w.last new r w.ends)
    where
      by : (s : CommitStage) → IsAt e s → EndsAt t opening m reading q from s new r → r.1.issued ≡ issued_for q.attempt q.ep e
      by Asked at end = absurd at
      by (Known f) at end = absurd end
      by (Checking f) at end = turned_issues f new r end ∙ ap (issued_for q.attempt q.ep) at
      by (Stored f) at end = ap (λ l. l.1.issued) end ∙ ap (issued_for q.attempt q.ep) at

  cover_is : (e : Epoch) (k : Kept) (o : Option Change) (u : CommitStage) → CoverStep (e.0 / 256) (Known e) (Checking e) k o u → CommitNext t opening m reading q (Known e) k o u
  cover_is e k o u (Extending lease low is) = ExtendsLease k e lease low is
  cover_is e k o u (Covering le) = IsCovered k e le

  -- from where the epoch is known, a turn goes on where the lease covers it
  pub covered_decides : (e : Epoch) (d : Durable) (free : ℕ) (new : Kept) (left : TargetMemory × Did) (c : Covered) → lease.IsCovered (e.0 / 256) d false (Some c) → (test : Bool)
      → Decides test (Onward (CommitNext t opening m reading q) (CommitEnds t opening m reading q from) (Checking e) c.durable c.changed free new left)
      → Decides test (Onward (CommitNext t opening m reading q) (CommitEnds t opening m reading q from) (Known e) d false free new left)
  covered_decides e d free new left c is test same =
      decides_on test
      (cover_iff (CommitNext t opening m reading q) (CommitEnds t opening m reading q from) (e.0 / 256) (Known e) (Checking e) (λ k o u n. next_at t opening m reading q from (Known e) k o u n) (cover_is e)
      (λ k r end. ends_at_stage t opening m reading q from (Known e) k r end) d false c free new left is) same

  pub uncovered_none : (e : Epoch) (d : Durable) (free : ℕ) (new : Kept) (left : TargetMemory × Did) → lease.IsCovered (e.0 / 256) d false None → Onward (CommitNext t opening m reading q) (CommitEnds t opening m reading q from) (Known e) d false free new left → ⊥
  uncovered_none e d free new left is =
      cover_none (CommitNext t opening m reading q) (CommitEnds t opening m reading q from) (e.0 / 256) (Known e) (Checking e) (λ k o u n. next_at t opening m reading q from (Known e) k o u n) (cover_is e)
      (λ k r end. ends_at_stage t opening m reading q from (Known e) k r end) d false free new left is

-- ---- from the beginning on

module _ (t : TargetPlan) (opening : Epoch × FloorWhy) (m : TargetMemory) (q : CommitRequest) (from : ActorId) where
  abbrev pub HearsSo : Kept → Kept → TargetMemory × Did → Type 0
  HearsSo k new left = (reading : ℕ) × Whole (CommitNext t opening m reading q) (CommitEnds t opening m reading q from) Asked k new left

  abbrev request : ℕ → Option Epoch
  request reading = request_epoch t m reading q.tracker q.ep

  own : (reading : ℕ) (e : Epoch) → q.ep ≡ Some e → request reading ≡ Some e
  own reading e is = ap (request_epoch t m reading q.tracker) is

  pub commit_known : (e : Epoch) (k new : Kept) (r : TargetMemory × Did) (test : Bool) → IsToldEpoch q.ep r.1.issued e → AsksAt request e
      → ((reading : ℕ) → Decides test (Onward (CommitNext t opening m reading q) (CommitEnds t opening m reading q from) (Known e) k.durable false k.free new r)) → Decides test (HearsSo k new r)
  commit_known = known_decides request (λ reading. CommitNext t opening m reading q) (λ reading. CommitEnds t opening m reading q from) Asked Known q.attempt q.ep (spent t opening m 0 q from) own
      (λ reading k o u next. next_at t opening m reading q from Asked k o u next) (λ reading k e asks. HasEpoch k e asks) (λ reading k r end. ends_at_stage t opening m reading q from Asked k r end)
      (λ reading k none. IsSpent k (spent t opening m 0 q from) none refl) refl (λ reading e k new r w. issues t opening m reading q from e k new r w)

  pub commit_unknown : (e : Epoch) (k new : Kept) (r : TargetMemory × Did) → IsToldEpoch q.ep r.1.issued e → (AsksAt request e → ⊥) → HearsSo k new r → ⊥
  commit_unknown = known_not request (λ reading. CommitNext t opening m reading q) (λ reading. CommitEnds t opening m reading q from) Asked Known q.attempt q.ep (spent t opening m 0 q from) own
      (λ reading k o u next. next_at t opening m reading q from Asked k o u next) (λ reading k e asks. HasEpoch k e asks) (λ reading k r end. ends_at_stage t opening m reading q from Asked k r end)
      (λ reading k none. IsSpent k (spent t opening m 0 q from) none refl) refl (λ reading e k new r w. issues t opening m reading q from e k new r w)

  pub commit_spent : (k new : Kept) (r : TargetMemory × Did) (test : Bool) → q.ep ≡ None → r.1.issued ≡ None → Decides test (SpentSo request k new (spent t opening m 0 q from) r) → Decides test (HearsSo k new r)
  commit_spent = spent_decides request (λ reading. CommitNext t opening m reading q) (λ reading. CommitEnds t opening m reading q from) Asked Known q.attempt q.ep (spent t opening m 0 q from) own
      (λ reading k o u next. next_at t opening m reading q from Asked k o u next) (λ reading k e asks. HasEpoch k e asks) (λ reading k r end. ends_at_stage t opening m reading q from Asked k r end)
      (λ reading k none. IsSpent k (spent t opening m 0 q from) none refl) refl (λ reading e k new r w. issues t opening m reading q from e k new r w)

  pub commit_spent_so : (k new : Kept) (memory : TargetMemory) (did told : Did) (test : Bool) → TellsEpoch q.ep did.issued None → told ≡ (spent t opening m 0 q from).1 → Decides test (SpentSo (λ reading. request_epoch t m reading q.tracker None) k new (m, told) (memory, did))
      → Decides test (HearsSo k new (memory, did))
  commit_spent_so k new memory did told test none says same =
      commit_spent k new (memory, did) test none.0 none.1
      (subst (λ x. Decides test (SpentSo (λ reading. request_epoch t m reading q.tracker x) k new (spent t opening m 0 q from) (memory, did))) (sym none.0)
      (subst (λ x. Decides test (SpentSo (λ reading. request_epoch t m reading q.tracker None) k new (m, x) (memory, did))) says same))
