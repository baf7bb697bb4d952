-- The stages of a Commit and of a Prepare, as those of a turn that stores writes.
use Rattle.std.proofs.Common.{ℕ, ◌≡◌, ◌/◌, refl, sym, ◌∙◌, ap, subst, map, List, [], ◌∷◌, Bool, true, false, Option, Some, None}
use Rattle.std.specs.Prelude.{if◌then◌else◌}
use Rattle.std.specs.Bool.{Decides}
use Rattle.base_types.specs.declared.entry.Entry.{Entry}
use Rattle.base_types.specs.declared.epoch.Epoch.{Epoch}
use Rattle.base_types.specs.declared.operation.MinorWrite.{MinorWrite}
use Rattle.base_messages.specs.declared.actor.ActorId.{ActorId}
use Rattle.daos_model.specs.declared.durable.Durable.{Durable}
use Rattle.daos_model.specs.Changes.{prepared}
use Rattle.dtx_base.specs.Leading.{LeaderOf, begun, begun_alone, begun_with_others, prepare_to}
use Rattle.dtx_base.specs.Members.{other_members}
use Rattle.dtx_base.specs.Rows.{is_empty}
use Rattle.world_base.specs.declared.did.Did.{Did}
use Rattle.world_base.specs.declared.request.CommitRequest.{CommitRequest}
use Rattle.world_base.specs.declared.request.PrepareRequest.{PrepareRequest}
use Rattle.world_base.specs.declared.target.TargetMemory.{TargetMemory}
use Rattle.world_base.specs.declared.target.TargetPlan.{TargetPlan}
use Rattle.world_base.specs.declared.target.TargetState.{TargetState}
use Rattle.world_base.specs.Changes.{Change, Kept}
use Rattle.world_base.specs.Commits as commit
use Rattle.world_base.specs.Commits.{begins_at, led_entry, own_writes}
use Rattle.world_base.specs.Prepares as prepare
use Rattle.world_base.specs.Requests.{issued_for, sends, with_ticks}
use Rattle.world_base.specs.Roles.{leader_at, leads_on}
use Rattle.world_base.specs.Turns.{Whole}
use Rattle.replay_base.specs.declared.leases.Covered.{Covered}
use Rattle.replay_base.specs.Leases as lease
use Rattle.replay_base.specs.Onward.{Onward, keeps}
use Rattle.replay_base.proofs.Chains.{decides_on}
use Rattle.replay_base.proofs.Covering.{CoverStep, Covering, Extending, cover_iff, cover_none}
use Rattle.replay_base.proofs.Starts.{iff_both, whole_onward}
use Rattle.replay_writes.specs.Begun.{begun_by, begun_left, storing_for, storing_of}
use Rattle.replay_writes.specs.Ways.{EndsAs, is_stored, outcome_of}
use Rattle.replay_writes.specs.declared.ways.Storing.{Storing}
use Rattle.replay_writes.proofs.Checking.{ByRefusal, ForSpace, Stages, StoresAll, Turned, told_decides}
use Rattle.replay_writes.proofs.Stages as at
use Rattle.world_base.specs.ChangeLaws.{incarnation-prepared}

-- ---- an attempt begins

-- what a leader knows and sends then depends on no entry
begun_same : (e : Entry) (first : Option Epoch) (from : ActorId) (ws : List MinorWrite) (l k : LeaderOf) → l.me ≡ k.me → l.targets ≡ k.targets → l.incarnation ≡ k.incarnation → l.memory ≡ k.memory
    → ((begun e first from ws l).leader.memory ≡ (begun e first from ws k).leader.memory) × ((begun e first from ws l).posts ≡ (begun e first from ws k).posts)
unfolding begun
begun_same e first from ws l k me targets inc memory = by (is_empty (other_members e))
  where
    by : (b : Bool) → ((if b then begun_alone e from l else begun_with_others e first from ws l).leader.memory ≡ (if b then begun_alone e from k else begun_with_others e first from ws k).leader.memory)
        × ((if b then begun_alone e from l else begun_with_others e first from ws l).posts ≡ (if b then begun_alone e from k else begun_with_others e first from ws k).posts)
    by true = (cc, refl)
    by false = (cc, ap (λ n. map (prepare_to n l.incarnation e first ws) (other_members e)) targets ∙ ap (λ n. map (prepare_to k.targets n e first ws) (other_members e)) inc)

-- a refusal isn't told then
plain_posts : (e : Entry) (first : Option Epoch) (n inc : ℕ) (ws : List MinorWrite) (ms : List ℕ) → is_stored (outcome_of (map (prepare_to n inc e first ws) ms)) ≡ true
plain_posts e first n inc ws [] = refl
plain_posts e first n inc ws (m ∷ ms) = refl

begun_plain : (e : Entry) (first : Option Epoch) (from : ActorId) (ws : List MinorWrite) (l : LeaderOf) → is_stored (outcome_of (begun e first from ws l).posts) ≡ true
unfolding begun
begun_plain e first from ws l = by (is_empty (other_members e))
  where
    by : (b : Bool) → is_stored (outcome_of (if b then begun_alone e from l else begun_with_others e first from ws l).posts) ≡ true
    by true = refl
    by false = plain_posts e first l.targets l.incarnation ws (other_members e)

-- ---- a Commit

module _ (t : TargetPlan) (s : TargetState) (reading : ℕ) (q : CommitRequest) (from : ActorId) (e : Epoch) where
  abbrev CommitN : commit.CommitStage → Kept → Option Change → commit.CommitStage → Type 0
  CommitN = commit.CommitNext t s.opening s.memory reading q

  abbrev CommitE : commit.CommitStage → Kept → TargetMemory × Did → Type 0
  CommitE = commit.CommitEnds t s.opening s.memory reading q from

  abbrev done_at : Durable → TargetMemory × Did
  done_at d = at.stored t s.opening s.memory reading q from e (keeps d 0)

  abbrev CommitShape : Type 0
  CommitShape = Stages CommitN CommitE (commit.Checking e) (commit.Stored e) t (storing_of t from q e) (own_writes t q.writes) s done_at

  commit_turned : (k : Kept) (left : TargetMemory × Did) → at.Turned t s.opening s.memory reading q from e k left → Turned CommitN CommitE (commit.Checking e) (commit.Stored e) t (storing_of t from q e) (own_writes t q.writes) s done_at k left
  commit_turned k left (at.Refused c why is) = ByRefusal c why is
  commit_turned k left (at.Spaceless allowed lacks is) = ForSpace allowed lacks is

  commit_shape : CommitShape
  commit_shape = record {
    next_is = λ k o u next. (let z = at.next_at t s.opening s.memory reading q from (commit.Checking e) k o u next in record { allowed = z.allowed; space = z.space; change = z.change; there = z.there });
    next = λ k allowed space. commit.Stores k e allowed space;
    ends_is = λ k left ends. commit_turned k left (at.ends_at_stage t s.opening s.memory reading q from (commit.Checking e) k left ends);
    refuses = λ k c why. commit.IsRefused k e c _ why refl;
    lacks = λ k allowed lacks. commit.HasNoSpace k e _ allowed lacks refl;
    stays = λ k o u next. at.next_at t s.opening s.memory reading q from (commit.Stored e) k o u next;
    end_is = λ k left ends. at.ends_at_stage t s.opening s.memory reading q from (commit.Stored e) k left ends;
    end = λ k. commit.HasBegun k e _ refl;
  }

-- what is known then and follows, as the code makes it
begun_done : (t : TargetPlan) (s : TargetState) (q : CommitRequest) (from : ActorId) (e : Epoch) (d : Durable)
    → begun_left t from q (led_entry t q e) d.incarnation (with_ticks e s.memory) ≡ (leads_on (begins_at t s.memory q from e d) (with_ticks e s.memory), sends (begins_at t s.memory q from e d).posts (issued_for q.attempt q.ep e))
begun_done t s q from e d =
    let b = begun_same (led_entry t q e) q.first from q.writes (record { me = t.me; targets = t.targets; incarnation = d.incarnation; entries = []; memory = s.memory.leader }) (leader_at t s.memory d) refl refl refl refl in
    ap (λ z. (record (with_ticks e s.memory) { leader = z }, sends (begun_by t from q (led_entry t q e) d.incarnation (with_ticks e s.memory)).posts (issued_for q.attempt q.ep e))) b.0
    ∙ ap (λ z. (leads_on (begins_at t s.memory q from e d) (with_ticks e s.memory), sends z (issued_for q.attempt q.ep e))) b.1

-- the target's incarnation is all of what it keeps that shows
done_same : (t : TargetPlan) (s : TargetState) (q : CommitRequest) (from : ActorId) (e : Epoch) (d d' : Durable) → d.incarnation ≡ d'.incarnation
    → ◌≡◌ {A = TargetMemory × Did} (leads_on (begins_at t s.memory q from e d) (with_ticks e s.memory), sends (begins_at t s.memory q from e d).posts (issued_for q.attempt q.ep e))
    (leads_on (begins_at t s.memory q from e d') (with_ticks e s.memory), sends (begins_at t s.memory q from e d').posts (issued_for q.attempt q.ep e))
done_same t s q from e d d' same = sym (begun_done t s q from e d) ∙ ap (λ n. begun_left t from q (led_entry t q e) n (with_ticks e s.memory)) same ∙ begun_done t s q from e d'

pub commit_decides : (t : TargetPlan) (s new : TargetState) (q : CommitRequest) (from : ActorId) (e : Epoch) (start : Covered) (did : Did) (x : Storing) (ws : List MinorWrite) (m : TargetMemory) (done : TargetMemory × Did) (test : Bool)
    → x ≡ storing_of t from q e → ws ≡ own_writes t q.writes → m ≡ with_ticks e s.memory → done ≡ begun_left t from q x.entry start.durable.incarnation m → Decides test (EndsAs t x ws done start s new did (outcome_of did.posts))
    → (reading : ℕ) → Decides test (Onward (commit.CommitNext t s.opening s.memory reading q) (commit.CommitEnds t s.opening s.memory reading q from) (commit.Checking e) start.durable start.changed s.free (keeps new.durable new.free) (new.memory, did))
commit_decides t s new q from e start did x ws m done test x_is ws_is m_is done_is same reading =
    told_decides (CommitN t s reading q from e) (CommitE t s reading q from e) (commit.Checking e) (commit.Stored e) t (storing_of t from q e) (own_writes t q.writes) s (done_at t s reading q from e) (commit_shape t s reading q from e) start new did
    (begun_plain (led_entry t q e) q.first from q.writes (leader_at t s.memory (prepared (led_entry t q e) (own_writes t q.writes) start.durable)))
    test
    (subst (λ z. Decides test (EndsAs t (storing_of t from q e) (own_writes t q.writes) z start s new did (outcome_of did.posts))) done_so
    (subst (λ z. Decides test (EndsAs t (storing_of t from q e) z done start s new did (outcome_of did.posts))) ws_is (subst (λ z. Decides test (EndsAs t z ws done start s new did (outcome_of did.posts))) x_is same)))
  where
    done_so : done ≡ at.stored t s.opening s.memory reading q from e (keeps (prepared (led_entry t q e) (own_writes t q.writes) start.durable) 0)
    done_so =
        done_is ∙ ap (λ z. begun_left t from q z.entry start.durable.incarnation m) x_is ∙ ap (begun_left t from q (led_entry t q e) start.durable.incarnation) m_is ∙ begun_done t s q from e start.durable
        ∙ done_same t s q from e start.durable (prepared (led_entry t q e) (own_writes t q.writes) start.durable) (sym (incarnation-prepared (led_entry t q e) (own_writes t q.writes) start.durable))

-- ---- a Prepare

module _ (t : TargetPlan) (s : TargetState) (q : PrepareRequest) where
  abbrev PrepareN : prepare.PrepareStage → Kept → Option Change → prepare.PrepareStage → Type 0
  PrepareN = prepare.PrepareNext t s.opening s.memory q

  abbrev PrepareE : prepare.PrepareStage → Kept → TargetMemory × Did → Type 0
  PrepareE = prepare.PrepareEnds t s.opening s.memory q

  abbrev prepared_done : Durable → TargetMemory × Did
  prepared_done d = (with_ticks q.entry.epoch s.memory, prepare.acks q None)

  abbrev PStoresAll : Kept → Option Change → prepare.PrepareStage → Type 0
  PStoresAll k o u = StoresAll PrepareN PrepareE prepare.Checking prepare.Stored t (storing_for q) q.writes s prepared_done k o u

  abbrev PTurned : Kept → TargetMemory × Did → Type 0
  PTurned k left = Turned PrepareN PrepareE prepare.Checking prepare.Stored t (storing_for q) q.writes s prepared_done k left

  abbrev PNextAt : prepare.PrepareStage → Kept → Option Change → prepare.PrepareStage → Type 0
  PNextAt prepare.Heard k o u = CoverStep (q.entry.epoch.0 / 256) prepare.Heard prepare.Checking k o u
  PNextAt prepare.Checking k o u = PStoresAll k o u
  PNextAt prepare.Stored k o u = ⊥

  p_next_at : (z : prepare.PrepareStage) (k : Kept) (o : Option Change) (u : prepare.PrepareStage) → PrepareN z k o u → PNextAt z k o u
  p_next_at z k o u (prepare.ExtendsLease j lease low is) = Extending lease low is
  p_next_at z k o u (prepare.IsCovered j le) = Covering le
  p_next_at z k o u (prepare.Stores j allowed space) = record { allowed = allowed; space = space; change = refl; there = refl }

  abbrev PEndsAt : prepare.PrepareStage → Kept → TargetMemory × Did → Type 0
  PEndsAt prepare.Heard k left = ⊥
  PEndsAt prepare.Checking k left = PTurned k left
  PEndsAt prepare.Stored k left = left ≡ (with_ticks q.entry.epoch s.memory, prepare.acks q None)

  p_ends_at : (z : prepare.PrepareStage) (k : Kept) (left : TargetMemory × Did) → PrepareE z k left → PEndsAt z k left
  p_ends_at z k left (prepare.IsRefused j c l why is) = ByRefusal c why is
  p_ends_at z k left (prepare.HasNoSpace j l allowed lacks is) = ForSpace allowed lacks is
  p_ends_at z k left (prepare.IsPrepared j l is) = is

  prepare_shape : Stages PrepareN PrepareE prepare.Checking prepare.Stored t (storing_for q) q.writes s prepared_done
  prepare_shape = record {
    next_is = λ k o u next. p_next_at prepare.Checking k o u next;
    next = λ k allowed space. prepare.Stores k allowed space;
    ends_is = λ k left ends. p_ends_at prepare.Checking k left ends;
    refuses = λ k c why. prepare.IsRefused k c _ why refl;
    lacks = λ k allowed lacks. prepare.HasNoSpace k _ allowed lacks refl;
    stays = λ k o u next. p_next_at prepare.Stored k o u next;
    end_is = λ k left ends. p_ends_at prepare.Stored k left ends;
    end = λ k. prepare.IsPrepared k _ refl;
  }

  cover_is : (k : Kept) (o : Option Change) (u : prepare.PrepareStage) → CoverStep (q.entry.epoch.0 / 256) prepare.Heard prepare.Checking k o u → PrepareN prepare.Heard k o u
  cover_is k o u (Extending lease low is) = prepare.ExtendsLease k lease low is
  cover_is k o u (Covering le) = prepare.IsCovered k le

  pub prepare_decides : (new : TargetState) (start : Covered) (did : Did) (x : Storing) (ws : List MinorWrite) (done : TargetMemory × Did) (test : Bool) → lease.IsCovered (q.entry.epoch.0 / 256) s.durable false (Some start)
      → x ≡ storing_for q → ws ≡ q.writes → done ≡ (with_ticks q.entry.epoch s.memory, prepare.acks q None) → Decides test (EndsAs t x ws done start s new did (outcome_of did.posts))
      → Decides test (Whole PrepareN PrepareE prepare.Heard (keeps s.durable s.free) (keeps new.durable new.free) (new.memory, did))
  prepare_decides new start did x ws done test covered x_is ws_is done_is same =
      decides_on test
      (iff_both (whole_onward PrepareN PrepareE prepare.Heard (keeps s.durable s.free) (keeps new.durable new.free) (new.memory, did))
      (cover_iff PrepareN PrepareE (q.entry.epoch.0 / 256) prepare.Heard prepare.Checking (λ k o u n. p_next_at prepare.Heard k o u n) cover_is (λ k r ends. p_ends_at prepare.Heard k r ends) s.durable false start s.free (keeps new.durable new.free) (new.memory, did) covered))
      (told_decides PrepareN PrepareE prepare.Checking prepare.Stored t (storing_for q) q.writes s prepared_done prepare_shape start new did refl test
      (subst (λ z. Decides test (EndsAs t (storing_for q) q.writes z start s new did (outcome_of did.posts))) done_is
      (subst (λ z. Decides test (EndsAs t (storing_for q) z done start s new did (outcome_of did.posts))) ws_is (subst (λ z. Decides test (EndsAs t z ws done start s new did (outcome_of did.posts))) x_is same))))

  pub prepare_never : (new : TargetState) (did : Did) → lease.IsCovered (q.entry.epoch.0 / 256) s.durable false None → Whole PrepareN PrepareE prepare.Heard (keeps s.durable s.free) (keeps new.durable new.free) (new.memory, did) → ⊥
  prepare_never new did uncovered w =
      cover_none PrepareN PrepareE (q.entry.epoch.0 / 256) prepare.Heard prepare.Checking (λ k o u n. p_next_at prepare.Heard k o u n) cover_is (λ k r ends. p_ends_at prepare.Heard k r ends) s.durable false s.free (keeps new.durable new.free) (new.memory, did) uncovered
      ((whole_onward PrepareN PrepareE prepare.Heard (keeps s.durable s.free) (keeps new.durable new.free) (new.memory, did)).0 w)
