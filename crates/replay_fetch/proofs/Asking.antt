-- A Fetch from its beginning on.
use Rattle.std.proofs.Common.{ℕ, ◌≡◌, ◌/◌, refl, sym, ◌∙◌, ap, subst, Bool, true, false, Option, Some, None, inl, inr}
use Rattle.std.specs.Prelude.{if◌then◌else◌}
use Rattle.std.specs.Bool.{Decides}
use Rattle.base_types.specs.declared.epoch.Epoch.{Epoch}
use Rattle.base_messages.specs.declared.actor.ActorId.{ActorId}
use Rattle.daos_model.specs.declared.durable.Durable.{Durable}
use Rattle.daos_model.specs.BoolLaws.{clash}
use Rattle.world_base.specs.declared.did.Did.{Did}
use Rattle.world_base.specs.declared.request.FetchRequest.{FetchRequest}
use Rattle.world_base.specs.declared.target.TargetMemory.{TargetMemory}
use Rattle.world_base.specs.declared.target.TargetPlan.{TargetPlan}
use Rattle.world_base.specs.Changes.{Change, Kept}
use Rattle.world_base.specs.Reads.{Asked, AtSnapshot, ExtendsLease, FetchEnds, FetchNext, FetchStage, HasEpoch, IsCovered, IsSpent, Known, Reading, memory_then}
use Rattle.world_base.specs.Requests.{issued_for, request_epoch}
use Rattle.world_base.specs.Turns.{Whole}
use Rattle.replay_base.specs.Leases as lease
use Rattle.replay_base.specs.declared.told.Left.{Left}
use Rattle.replay_base.specs.Leaving.{IsLeftIf}
use Rattle.replay_base.specs.Onward.{Iff, Onward, keeps}
use Rattle.replay_base.specs.Requested.{AsksAt, IsToldEpoch, SpentSo, TellsEpoch}
use Rattle.replay_base.specs.declared.leases.Covered.{Covered}
use Rattle.replay_base.proofs.Asking.{Begins, keeps_on, known_decides, known_not, spent_decides}
use Rattle.replay_base.proofs.Chains.{OneStep, comes_whole, decides_on, silent_iff}
use Rattle.replay_base.proofs.Covering.{CoverStep, Covering, Extending, cover_iff, cover_none}
use Rattle.replay_base.proofs.Starts.{AtOnce, First, Later, first, iff_both}
use Rattle.replay_fetch.specs.Fetched.{FetchLeaves, FetchesSo, begins_at}
use Rattle.base_messages.specs.declared.message.Reply.TheVariants as reply
use Rattle.replay_fetch.specs.Met.{left_by}
use Rattle.replay_fetch.specs.declared.meets.Ending.{Ending}
use Rattle.replay_fetch.specs.declared.meets.Ending.TheVariants as ending
use Rattle.replay_fetch.specs.declared.reads.Work.{Work}
use Rattle.world_base.specs.declared.target.TargetState.{TargetState}
use Rattle.replay_fetch.proofs.Stages.{EndsAt, ends_at, NextAt, next_at, spent}

-- the epoch of a stage
abbrev IsAt : Epoch → FetchStage → Type 0
IsAt e Asked = ⊥
IsAt e (Known f) = f ≡ e
IsAt e (Reading f decided) = f ≡ e

-- the epoch that is issued, whatever a read ends with
issued_by : (t : TargetPlan) (q : FetchRequest) (from : ActorId) (e : Epoch) (r : Ending) (n : TargetMemory) → (left_by t q from e r n).1.issued ≡ issued_for q.attempt q.ep e
issued_by t q from e (ending.Replies (reply.Answer b)) n = refl
issued_by t q from e (ending.Replies (reply.Outcome o)) n = refl
issued_by t q from e (ending.Parks a leader) n = refl

module _ (t : TargetPlan) (m : TargetMemory) (reading : ℕ) (q : FetchRequest) (from : ActorId) where
  cover_at : (e f : Epoch) (k : Kept) (o : Option Change) (u : FetchStage) → f ≡ e → CoverStep (f.0 / 256) (Known f) (Reading f m.leader.decided) k o u → IsAt e u
  cover_at e f k o u at (Extending lease low is) = at
  cover_at e f k o u at (Covering le) = at

  stays : (e : Epoch) (s : FetchStage) (k : Kept) (o : Option Change) (u : FetchStage) → IsAt e s → FetchNext t m reading q s k o u → IsAt e u
  stays e s k o u at next = by s at (next_at t m reading q from s k o u next)
    where
      by : (s : FetchStage) → IsAt e s → NextAt t m reading q from s k o u → IsAt e u
      by Asked at step = absurd at
      by (Known f) at step = cover_at e f k o u at step
      by (Reading f decided) at step = subst (IsAt e) (sym step.there) at

  issues : (e : Epoch) (k new : Kept) (r : TargetMemory × Did) → Whole (FetchNext t m reading q) (FetchEnds t m reading q from) (Known e) k new r → r.1.issued ≡ issued_for q.attempt q.ep e
  issues e k new r w = by w.last (keeps_on (FetchNext t m reading q) (IsAt e) (stays e) (Known e) k w.reached.did w.last new w.reached.path refl) (ends_at t m reading q from w.last new r w.ends)
    where
      by : (s : FetchStage) → IsAt e s → EndsAt t m reading q from s new r → r.1.issued ≡ issued_for q.attempt q.ep e
      by Asked at end = absurd at
      by (Known f) at end = absurd end
      by (Reading f decided) at end = ap (λ l. l.1.issued) end.left_is ∙ issued_by t q from f end.r (memory_then q f decided m) ∙ ap (issued_for q.attempt q.ep) at

  cover_is : (e : Epoch) (k : Kept) (o : Option Change) (u : FetchStage) → CoverStep (e.0 / 256) (Known e) (Reading e m.leader.decided) k o u → FetchNext t m reading q (Known e) k o u
  cover_is e k o u (Extending lease low is) = ExtendsLease k e lease low is
  cover_is e k o u (Covering le) = IsCovered k e le

  -- from where the epoch is known, a turn goes on where the lease covers it
  covered_iff : (e : Epoch) (d : Durable) (changed : Bool) (c : Covered) (free : ℕ) (new : Kept) (left : TargetMemory × Did) → lease.IsCovered (e.0 / 256) d changed (Some c)
      → Iff (Onward (FetchNext t m reading q) (FetchEnds t m reading q from) (Known e) d changed free new left)
      (Onward (FetchNext t m reading q) (FetchEnds t m reading q from) (Reading e m.leader.decided) c.durable c.changed free new left)
  covered_iff e = cover_iff (FetchNext t m reading q) (FetchEnds t m reading q from) (e.0 / 256) (Known e) (Reading e m.leader.decided) (λ k o u n. next_at t m reading q from (Known e) k o u n) (cover_is e)
      (λ k r end. ends_at t m reading q from (Known e) k r end)

  uncovered_none : (e : Epoch) (d : Durable) (changed : Bool) (free : ℕ) (new : Kept) (left : TargetMemory × Did) → lease.IsCovered (e.0 / 256) d changed None
      → Onward (FetchNext t m reading q) (FetchEnds t m reading q from) (Known e) d changed free new left → ⊥
  uncovered_none e = cover_none (FetchNext t m reading q) (FetchEnds t m reading q from) (e.0 / 256) (Known e) (Reading e m.leader.decided) (λ k o u n. next_at t m reading q from (Known e) k o u n) (cover_is e)
      (λ k r end. ends_at t m reading q from (Known e) k r end)

  -- a Fetch with its own epoch begins with that
  begins_so : (e : Epoch) (d : Durable) → q.ep ≡ Some e → OneStep (FetchNext t m reading q) (FetchEnds t m reading q from) Asked d None (begins_at q e m)
  begins_so e d own = by q.snapshot refl
    where
      its : request_epoch t m reading q.tracker q.ep ≡ Some e
      its = ap (request_epoch t m reading q.tracker) own

      known : (p : Option Change) (u : FetchStage) → Begins (request_epoch t m reading q.tracker q.ep) Known p u → (p ≡ None) × (u ≡ Known e)
      known p u b = (let asked = b.asked in let same : b.epoch ≡ e = cc in (b.silent, b.there ∙ ap Known same))

      goes : (free : ℕ) (r : TargetMemory × Did) → FetchEnds t m reading q from Asked (keeps d free) r → ⊥
      goes free r end = (let none = (ends_at t m reading q from Asked (keeps d free) r end).1.0 in let bad : ⊥ = cc in bad)

      at_snapshot : (free : ℕ) (p : Option Change) (u : FetchStage) → q.snapshot ≡ true → NextAt t m reading q from Asked (keeps d free) p u → (p ≡ None) × (u ≡ Reading e m.leader.decided)
      at_snapshot free p u snapshot (inl s) = (let owns = s.own in let same : s.epoch ≡ e = cc in (s.silent, s.there ∙ ap (λ x. Reading x m.leader.decided) same))
      at_snapshot free p u snapshot (inr b) = clash q.snapshot snapshot b.0

      at_now : (free : ℕ) (p : Option Change) (u : FetchStage) → q.snapshot ≡ false → NextAt t m reading q from Asked (keeps d free) p u → (p ≡ None) × (u ≡ Known e)
      at_now free p u now (inl s) = clash q.snapshot s.snapshot now
      at_now free p u now (inr b) = known p u b.1

      by : (b : Bool) → q.snapshot ≡ b → OneStep (FetchNext t m reading q) (FetchEnds t m reading q from) Asked d None (begins_at q e m)
      by true is = record {
        there = λ free. subst (λ (b : Bool). FetchNext t m reading q Asked (keeps d free) None (if b then Reading e m.leader.decided else Known e)) (sym is) (AtSnapshot (keeps d free) e is own);
        alone = λ free p u next. subst (λ (b : Bool). (p ≡ None) × (u ≡ (if b then Reading e m.leader.decided else Known e))) (sym is) (at_snapshot free p u is (next_at t m reading q from Asked (keeps d free) p u next));
        goes = goes;
      }
      by false is = record {
        there = λ free. subst (λ (b : Bool). FetchNext t m reading q Asked (keeps d free) None (if b then Reading e m.leader.decided else Known e)) (sym is) (HasEpoch (keeps d free) e is its);
        alone = λ free p u next. subst (λ (b : Bool). (p ≡ None) × (u ≡ (if b then Reading e m.leader.decided else Known e))) (sym is) (at_now free p u is (next_at t m reading q from Asked (keeps d free) p u next));
        goes = goes;
      }

-- ---- as the code says it

module _ (t : TargetPlan) (from : ActorId) (q : FetchRequest) where
  pub snapshot_leaves : (e : Epoch) (m : TargetMemory) (d : Durable) (changed : Bool) (o : Option Left) → q.snapshot ≡ true → FetchLeaves t from q m (Reading e m.leader.decided) d changed o → FetchLeaves t from q m (begins_at q e m) d changed o
  snapshot_leaves e m d changed o snapshot l = subst (λ (b : Bool). FetchLeaves t from q m (if b then Reading e m.leader.decided else Known e) d changed o) (sym snapshot) l

  now_leaves : (e : Epoch) (m : TargetMemory) (d : Durable) (changed : Bool) (o : Option Left) → q.snapshot ≡ false → FetchLeaves t from q m (Known e) d changed o → FetchLeaves t from q m (begins_at q e m) d changed o
  now_leaves e m d changed o now l = subst (λ (b : Bool). FetchLeaves t from q m (if b then Reading e m.leader.decided else Known e) d changed o) (sym now) l

  pub covered_leaves : (e : Epoch) (m : TargetMemory) (d : Durable) (changed : Bool) (c : Covered) (o : Option Left) → q.snapshot ≡ false → lease.IsCovered (e.0 / 256) d changed (Some c)
      → FetchLeaves t from q m (Reading e m.leader.decided) c.durable c.changed o → FetchLeaves t from q m (begins_at q e m) d changed o
  covered_leaves e m d changed c o now is l = now_leaves e m d changed o now (record { comes = λ reading free new left. iff_both (covered_iff t m reading q from e d changed c free new left is) (l.comes reading free new left); read = l.read })

  pub uncovered_leaves : (e : Epoch) (m : TargetMemory) (d : Durable) (changed : Bool) → q.snapshot ≡ false → lease.IsCovered (e.0 / 256) d changed None → FetchLeaves t from q m (begins_at q e m) d changed None
  uncovered_leaves e m d changed now is = now_leaves e m d changed None now (record { comes = λ reading free new left. (λ w. uncovered_none t m reading q from e d changed free new left is w, λ bad. absurd bad); read = tt })

  pub own_leaves : (e : Epoch) (m : TargetMemory) (d : Durable) (changed : Bool) (o : Option Left) → q.ep ≡ Some e → FetchLeaves t from q m (begins_at q e m) d changed o → FetchLeaves t from q m Asked d changed o
  own_leaves e m d changed o own l = record {
    comes = λ reading free new left. iff_both (silent_iff (FetchNext t m reading q) (FetchEnds t m reading q from) Asked (begins_at q e m) d (begins_so t m reading q from e d own) changed free new left) (l.comes reading free new left);
    read = l.read;
  }

  pub own_decides : (w : Work) (o : Option Left) (s new : TargetState) (did : Did) (test : Bool) → w ≡ record { durable = s.durable; changed = false; memory = s.memory } → FetchLeaves t from q w.memory Asked w.durable w.changed o
      → Decides test (IsLeftIf o s.free (keeps new.durable new.free) (new.memory, did)) → Decides test (FetchesSo t from q s new did)
  own_decides w o s new did test is l same = (λ h. (0, (at 0).0 h), λ x. (at x.0).1 x.1)
    where
      leaves : FetchLeaves t from q s.memory Asked s.durable false o
      leaves = subst (λ x. FetchLeaves t from q x.memory Asked x.durable x.changed o) is l

      at : (reading : ℕ) → Decides test (Whole (FetchNext t s.memory reading q) (FetchEnds t s.memory reading q from) Asked (keeps s.durable s.free) (keeps new.durable new.free) (new.memory, did))
      at reading = decides_on test (comes_whole (FetchNext t s.memory reading q) (FetchEnds t s.memory reading q from) Asked s.durable o s.free (keeps new.durable new.free) (new.memory, did) (leaves.comes reading)) same

-- ---- from the beginning on

module _ (t : TargetPlan) (m : TargetMemory) (q : FetchRequest) (from : ActorId) where
  abbrev pub HearsSo : Kept → Kept → TargetMemory × Did → Type 0
  HearsSo k new left = (reading : ℕ) × Whole (FetchNext t m reading q) (FetchEnds t m reading q from) Asked k new left

  abbrev request : ℕ → Option Epoch
  request reading = request_epoch t m reading q.tracker q.ep

  -- not at a snapshot
  module _ (now : q.snapshot ≡ false) where
    own : (reading : ℕ) (e : Epoch) → q.ep ≡ Some e → request reading ≡ Some e
    own reading e is = ap (request_epoch t m reading q.tracker) is

    begins : (reading : ℕ) (k : Kept) (o : Option Change) (u : FetchStage) → FetchNext t m reading q Asked k o u → Begins (request reading) Known o u
    begins reading k o u next = by (next_at t m reading q from Asked k o u next)
      where
        by : NextAt t m reading q from Asked k o u → Begins (request reading) Known o u
        by (inl snap) = clash q.snapshot snap.snapshot now
        by (inr b) = b.1

    ends_so : (reading : ℕ) (k : Kept) (r : TargetMemory × Did) → FetchEnds t m reading q from Asked k r → (request reading ≡ None) × (r ≡ spent t m reading q from)
    ends_so reading k r end = (ends_at t m reading q from Asked k r end).1

    pub fetch_known : (e : Epoch) (k new : Kept) (r : TargetMemory × Did) (test : Bool) → IsToldEpoch q.ep r.1.issued e → AsksAt request e
        → ((reading : ℕ) → Decides test (Onward (FetchNext t m reading q) (FetchEnds t m reading q from) (Known e) k.durable false k.free new r)) → Decides test (HearsSo k new r)
    fetch_known = known_decides request (λ reading. FetchNext t m reading q) (λ reading. FetchEnds t m reading q from) Asked Known q.attempt q.ep (spent t m 0 q from) own begins (λ reading k e asks. HasEpoch k e now asks) ends_so
        (λ reading k none. IsSpent k (spent t m 0 q from) now none refl) refl (λ reading e k new r w. issues t m reading q from e k new r w)

    pub fetch_unknown : (e : Epoch) (k new : Kept) (r : TargetMemory × Did) → IsToldEpoch q.ep r.1.issued e → (AsksAt request e → ⊥) → HearsSo k new r → ⊥
    fetch_unknown = known_not request (λ reading. FetchNext t m reading q) (λ reading. FetchEnds t m reading q from) Asked Known q.attempt q.ep (spent t m 0 q from) own begins (λ reading k e asks. HasEpoch k e now asks) ends_so
        (λ reading k none. IsSpent k (spent t m 0 q from) now none refl) refl (λ reading e k new r w. issues t m reading q from e k new r w)

    pub fetch_spent : (k new : Kept) (r : TargetMemory × Did) (test : Bool) → q.ep ≡ None → r.1.issued ≡ None → Decides test (SpentSo request k new (spent t m 0 q from) r) → Decides test (HearsSo k new r)
    fetch_spent = spent_decides request (λ reading. FetchNext t m reading q) (λ reading. FetchEnds t m reading q from) Asked Known q.attempt q.ep (spent t m 0 q from) own begins (λ reading k e asks. HasEpoch k e now asks) ends_so
        (λ reading k none. IsSpent k (spent t m 0 q from) now none refl) refl (λ reading e k new r w. issues t m reading q from e k new r w)

    pub fetch_spent_so : (k new : Kept) (memory : TargetMemory) (did told : Did) (test : Bool) → TellsEpoch q.ep did.issued None → told ≡ (spent t m 0 q from).1 → Decides test (SpentSo (λ reading. request_epoch t m reading q.tracker None) k new (m, told) (memory, did))
        → Decides test (HearsSo k new (memory, did))
    fetch_spent_so k new memory did told test none says same =
        fetch_spent k new (memory, did) test none.0 none.1
        (subst (λ x. Decides test (SpentSo (λ reading. request_epoch t m reading q.tracker x) k new (spent t m 0 q from) (memory, did))) (sym none.0)
        (subst (λ x. Decides test (SpentSo (λ reading. request_epoch t m reading q.tracker None) k new (m, x) (memory, did))) says same))

    pub asked_decides : (e : Epoch) (w : Work) (o : Option Left) (s new : TargetState) (did : Did) (test : Bool) → m ≡ s.memory → w ≡ record { durable = s.durable; changed = false; memory = s.memory } → IsToldEpoch q.ep did.issued e → AsksAt request e
        → FetchLeaves t from q w.memory (begins_at q e w.memory) w.durable w.changed o → Decides test (IsLeftIf o s.free (keeps new.durable new.free) (new.memory, did)) → Decides test (HearsSo (keeps s.durable s.free) (keeps new.durable new.free) (new.memory, did))
    asked_decides e w o s new did test here is told asks l same =
        fetch_known e (keeps s.durable s.free) (keeps new.durable new.free) (new.memory, did) test told asks (λ reading. decides_on test (leaves.comes reading s.free (keeps new.durable new.free) (new.memory, did)) same)
      where
        leaves : FetchLeaves t from q m (Known e) s.durable false o
        leaves =
            subst (λ x. FetchLeaves t from q x (Known e) s.durable false o) (sym here)
            (subst (λ (b : Bool). FetchLeaves t from q s.memory (if b then Reading e s.memory.leader.decided else Known e) s.durable false o) now
            (subst (λ x. FetchLeaves t from q x.memory (begins_at q e x.memory) x.durable x.changed o) is l))

  -- at a snapshot there is none without an epoch
  pub snapshot_none : (k new : Kept) (r : TargetMemory × Did) → q.snapshot ≡ true → q.ep ≡ None → HearsSo k new r → ⊥
  snapshot_none k new r snapshot none w = by (first (FetchNext t m w.0 q) (FetchEnds t m w.0 q from) Asked k new r w.1)
    where
      step : (o : Option Change) (u : FetchStage) → NextAt t m w.0 q from Asked k o u → ⊥
      step o u (inl s) = (let own = s.own in let bad : ⊥ = cc in bad)
      step o u (inr b) = clash q.snapshot snapshot b.0

      by : First (FetchNext t m w.0 q) (FetchEnds t m w.0 q from) Asked k new r → ⊥
      by (AtOnce same end) = clash q.snapshot snapshot (ends_at t m w.0 q from Asked k r end).0
      by (Later o u n next taken rest) = step o u (next_at t m w.0 q from Asked k o u next)
