-- What a read comes to at each answer of the store.
use Rattle.std.proofs.Common.{ℕ, ◌≡◌, ◌≤◌, ◌+◌, ◌∙◌, refl, sym, ap, subst, Bool, true, false, List, Contains, filter, Option, Some, None}
use Rattle.std.specs.Prelude.{if◌then◌else◌}
use Rattle.base_types.specs.declared.answer.Answer.{Answer}
use Rattle.base_types.specs.declared.entry.Entry.{Entry}
use Rattle.base_types.specs.declared.entry.Settle.TheVariants.{Commit}
use Rattle.base_types.specs.declared.epoch.Epoch.{Epoch}
use Rattle.base_types.specs.declared.id.AttemptId.{AttemptId}
use Rattle.base_types.specs.declared.outcome.Cause.{Cause}
use Rattle.base_messages.specs.declared.actor.ActorId.{ActorId}
use Rattle.daos_model.specs.declared.durable.Durable.{Durable}
use Rattle.daos_model.specs.Durables.{entry_of}
use Rattle.target_parts.specs.dtx_table.Tables.{entry_in}
use Rattle.base_messages.specs.declared.message.Reply.TheVariants as reply
use Rattle.dtx_base.specs.Joining.{parking}
use Rattle.vos_store.specs.Calls.{State}
use Rattle.world_base.specs.declared.request.FetchRequest.{FetchRequest}
use Rattle.world_base.specs.declared.target.TargetMemory.{TargetMemory}
use Rattle.world_base.specs.declared.target.TargetPlan.{TargetPlan}
use Rattle.world_base.specs.Changes.{Kept, Settles, made}
use Rattle.world_base.specs.Reads.{FetchEnds, FetchNext, IsParked, IsRefused, IsServed, MeetsUnresolved, Reading, SettlesOwn, asks_leader, fetch_at, memory_then, stamps_with, tells}
use Rattle.world_base.specs.Requests.{is_other_attempt, with_ticks}
use Rattle.world_base.specs.Roles.{joins_on, other_leader, other_leader_of}
use Rattle.world_base.specs.Turns.{CutShort, Reached}
use Rattle.target_parts.specs.Parts.{Answered, Now, WasCut, kept}
use Rattle.target_parts.specs.Turning.{cut_in_change, now_stays, reached_change}
use Rattle.target_reads.specs.declared.reads.Met.{Met}
use Rattle.target_reads.specs.declared.reads.Met.TheVariants as met
use Rattle.target_reads.specs.declared.reads.Served.{Served}
use Rattle.target_reads.specs.declared.reads.Served.TheVariants as served
use Rattle.target_reads.specs.Meets.{ComesTo, Meets, Serves, beside_of, told_of}

-- ---- a list without one of its elements is shorter

-- ---- one read

-- the leader that the entries known tell of is that which the store keeps
pub other-known : (t : TargetPlan) (a : AttemptId) (es : List Entry) (d : Durable) → es ≡ d.entries → other_leader_of t.me (entry_in es a) ≡ other_leader t a d
unfolding other_leader entry_of
other-known t a es d same = ap (λ xs. other_leader_of t.me (entry_in xs a)) same

module _ (t : TargetPlan) (m : TargetMemory) (reading : ℕ) (q : FetchRequest) (e : Epoch) (first : List AttemptId) (old : Kept) (decided : List AttemptId) where
  served-at : (s : Served) (d : Durable) (h k : State) (new : Option Durable) → Reached (FetchNext t m reading q) (Reading e first) old (Reading e decided) (kept d h)
      → new ≡ Some d → k.free ≡ h.free → ComesTo t q e decided d s → Now new k (Serves t m reading q e first decided old s)
  served-at s d h k new r kept_is free comes = record {
    durable = d;
    kept_is = kept_is;
    holds = record { reached = now_stays (λ l. Reached (FetchNext t m reading q) (Reading e first) old (Reading e decided) l) d h k new (record { kept_is = kept_is; free = free }) r; comes = comes };
  }

  -- a read that was answered
  pub serves_answer : (b : Answer) (x : Met) (d : Durable) (h k : State) (new : Option Durable)
      → Reached (FetchNext t m reading q) (Reading e first) old (Reading e decided) (kept d h) → Answered (Meets t q e d) x d h new k → x ≡ met.Answer b
      → Now new k (Serves t m reading q e first decided old (served.Answer b))
  serves_answer b x d h k new r a is = served-at (served.Answer b) d h k new r a.stays.kept_is a.stays.free (subst (Meets t q e d) is a.holds)

  -- a read that was refused
  pub serves_refusal : (c : Cause) (x : Met) (d : Durable) (h k : State) (new : Option Durable)
      → Reached (FetchNext t m reading q) (Reading e first) old (Reading e decided) (kept d h) → Answered (Meets t q e d) x d h new k → x ≡ met.Refused c
      → Now new k (Serves t m reading q e first decided old (served.Refused c))
  serves_refusal c x d h k new r a is = served-at (served.Refused c) d h k new r a.stays.kept_is a.stays.free (subst (Meets t q e d) is a.holds)

  -- a read that meets an attempt which isn't settled, and isn't one of the decided ones
  pub serves_beside : (b : AttemptId) (y : Served) (leader : Option ℕ) (x : Met) (d : Durable) (h k : State) (new : Option Durable)
      → Reached (FetchNext t m reading q) (Reading e first) old (Reading e decided) (kept d h) → Answered (Meets t q e d) x d h new k → x ≡ met.Unsettled b → (Contains decided b → ⊥)
      → leader ≡ other_leader t b d → y ≡ beside_of b leader → Now new k (Serves t m reading q e first decided old y)
  serves_beside b y leader x d h k new r a is apart known told = by leader known told
    where
      says : Meets t q e d (met.Unsettled b)
      says = subst (Meets t q e d) is a.holds

      by : (o : Option ℕ) → o ≡ other_leader t b d → y ≡ beside_of b o → Now new k (Serves t m reading q e first decided old y)
      by None none is_y = served-at y d h k new r a.stays.kept_is a.stays.free (subst (ComesTo t q e decided d) (sym is_y) (says.0, says.1, apart, sym none))
      by (Some n) some is_y = served-at y d h k new r a.stays.kept_is a.stays.free (subst (ComesTo t q e decided d) (sym is_y) (says.0, says.1, sym some))

  -- an attempt in its way was settled
  pub serves_on : (b : AttemptId) (x : Met) (d : Durable) (h k n : State) (mid new : Option Durable)
      → Reached (FetchNext t m reading q) (Reading e first) old (Reading e decided) (kept d h) → Answered (Meets t q e d) x d h mid k → x ≡ met.Unsettled b → Contains decided b
      → new ≡ Some (made (Settles b Commit) d) → k.free ≤ n.free + 0
      → Now new n (λ l. Reached (FetchNext t m reading q) (Reading e first) old (Reading e (filter (is_other_attempt b) decided)) l)
  serves_on b x d h k n mid new r a is among done free =
      let says = subst (Meets t q e d) is a.holds in
      record {
        durable = made (Settles b Commit) d;
        kept_is = done;
        holds = reached_change (FetchNext t m reading q) (Reading e first) old (Reading e decided) (kept d k) (Settles b Commit) (Reading e (filter (is_other_attempt b) decided)) (kept (made (Settles b Commit) d) n)
            (now_stays (λ l. Reached (FetchNext t m reading q) (Reading e first) old (Reading e decided) l) d h k mid a.stays r) (SettlesOwn (kept d k) e decided b says.0 says.1 among) refl free;
      }

  -- that was cut
  pub serves_cut : (b : AttemptId) (x : Met) (d : Durable) (h k : State) (mid : Option Durable) (finds : Kept → Type 0)
      → Reached (FetchNext t m reading q) (Reading e first) old (Reading e decided) (kept d h) → Answered (Meets t q e d) x d h mid k → x ≡ met.Unsettled b → Contains decided b
      → WasCut (Settles b Commit) (kept d k) finds → CutShort (FetchNext t m reading q) (Reading e first) old finds
  serves_cut b x d h k mid finds r a is among cut =
      let says = subst (Meets t q e d) is a.holds in
      cut_in_change (FetchNext t m reading q) (Reading e first) old (Reading e decided) (kept d k) (Settles b Commit) (Reading e (filter (is_other_attempt b) decided)) finds
      (now_stays (λ l. Reached (FetchNext t m reading q) (Reading e first) old (Reading e decided) l) d h k mid a.stays r) (SettlesOwn (kept d k) e decided b says.0 says.1 among) cut

-- ---- what is then told

stamps-known : (b : Bool) (e : Epoch) (m : TargetMemory) → (if b then m else with_ticks e m).stamps ≡ m.stamps
stamps-known true e m = refl
stamps-known false e m = refl

member-known : (b : Bool) (e : Epoch) (m : TargetMemory) → (if b then m else with_ticks e m).member ≡ m.member
member-known true e m = refl
member-known false e m = refl

-- what a read came to ends its turn
pub served-ends : (t : TargetPlan) (m n : TargetMemory) (reading : ℕ) (q : FetchRequest) (from : ActorId) (e : Epoch) (decided : List AttemptId) (d : Durable) (k : State) (s : Served)
    → n ≡ memory_then q e decided m → ComesTo t q e decided d s → FetchEnds t m reading q from (Reading e decided) (kept d k) (told_of t q from e s n)
served-ends t m n reading q from e decided d k (served.Answer b) is comes =
    IsServed (kept d k) e decided b _ comes.0 comes.1
    (ap (λ x. told_of t q from e (served.Answer b) x) is
    ∙ ap (λ xs. (record (memory_then q e decided m) { stamps = stamps_with q e xs }, tells q from e (reply.Answer b))) (stamps-known q.snapshot e m))
served-ends t m n reading q from e decided d k (served.Refused c) is comes =
    IsRefused (kept d k) e decided c _ comes (ap (λ x. told_of t q from e (served.Refused c) x) is)
served-ends t m n reading q from e decided d k (served.Unresolved a) is comes =
    MeetsUnresolved (kept d k) e decided a _ comes.0 comes.1 comes.2 comes.3 (ap (λ x. told_of t q from e (served.Unresolved a) x) is)
served-ends t m n reading q from e decided d k (served.Waits a leader) is comes =
    IsParked (kept d k) e decided a leader _ comes.0 comes.1 comes.2
    (ap (λ x. told_of t q from e (served.Waits a leader) x) is
    ∙ ap (λ x. (joins_on (parking (fetch_at q e) a leader (record { me = t.me; memory = x })) (memory_then q e decided m), asks_leader q e a leader)) (member-known q.snapshot e m))
