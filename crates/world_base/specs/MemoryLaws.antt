-- What each turn of a target leaves of what it knows, and what follows from it.
use Rattle.std.specs.Prelude.{ℕ, ◌≡◌, ◌≤◌, ◌/◌, max, ◌++◌, Bool, true, false, List, [], ◌∷◌, Option, None, refl, if◌then◌else◌}
use Rattle.std.proofs.Common.{sym, ◌∙◌, ap, subst, arith, append-nil}
use Rattle.std.proofs.lemmas.List.{append_assoc}
use Rattle.base_types.specs.declared.entry.Entry.{Entry}
use Rattle.base_types.specs.declared.entry.Verdict.{Verdict}
use Rattle.base_types.specs.declared.epoch.Epoch.{Epoch}
use Rattle.base_types.specs.declared.id.AttemptId.{AttemptId}
use Rattle.base_types.specs.declared.outcome.FloorWhy.{FloorWhy}
use Rattle.base_types.specs.declared.operation.MinorWrite.{MinorWrite}
use Rattle.base_types.specs.declared.shown.Shown.{Shown}
use Rattle.base_types.specs.Epochs.{heard_ticks}
use Rattle.base_types.specs.Operations.{read_path}
use Rattle.base_messages.specs.declared.actor.ActorId.{ActorId}
use Rattle.base_messages.specs.declared.message.Message.{Message}
use Rattle.base_messages.specs.declared.message.Message.TheVariants as message
use Rattle.base_messages.specs.declared.message.Post.{Post}
use Rattle.daos_model.specs.declared.durable.Durable.{Durable}
use Rattle.dtx_base.specs.Joining.{inquired, verdict_heard}
use Rattle.dtx_base.specs.Leading.{LeaderOf, batched, begun, begun_alone, begun_with_others, marked_heard}
use Rattle.dtx_base.specs.Members.{other_members}
use Rattle.dtx_base.specs.Rows.{is_empty}
use Rattle.world_base.specs.declared.did.Did.{Did}
use Rattle.world_base.specs.declared.request.CommitRequest.{CommitRequest}
use Rattle.world_base.specs.declared.request.FetchRequest.{FetchRequest}
use Rattle.world_base.specs.declared.request.PrepareRequest.{PrepareRequest}
use Rattle.world_base.specs.declared.target.TargetMemory.{TargetMemory}
use Rattle.world_base.specs.declared.target.TargetPlan.{TargetPlan}
use Rattle.world_base.specs.Acks as ack
use Rattle.world_base.specs.Changes.{Kept}
use Rattle.world_base.specs.Commits as commit
use Rattle.world_base.specs.Idle.{AllSettled, IdleEnds, idle_memory}
use Rattle.world_base.specs.Marks as mark
use Rattle.world_base.specs.Prepares as prepare
use Rattle.world_base.specs.Reads as read
use Rattle.world_base.specs.Requests.{sends, with_ticks}
use Rattle.world_base.specs.RightTurns.{HearsRightly}
use Rattle.world_base.specs.Roles.{is_in_doubt, joins_on, leader_at, member_at, with_unsettled}
use Rattle.world_base.specs.TargetTurns.{IdlesWhole, commit_request, fetch_request, prepare_request}
use Rattle.world_base.specs.Turns.{Whole}
use Rattle.world_base.specs.VerdictLaws.{Tries, verdict-keeps}
use Rattle.world_base.specs.Verdicts as verdict

-- ---- ticks and timestamps

-- ticks don't go down, and no timestamp goes
pub record KnowsMore (m n : TargetMemory) : Type 0 where
  pub ticks : m.ticks ≤ n.ticks
  pub stamps : (more : List Shown) × (n.stamps ≡ m.stamps ++ more)

pub knows-same : (m n : TargetMemory) → n.ticks ≡ m.ticks → n.stamps ≡ m.stamps → KnowsMore m n
knows-same m n ticks stamps = record { ticks = omega (arith, ticks); stamps = ([], stamps ∙ sym (append-nil m.stamps)) }

pub knows-then : (m n p : TargetMemory) → KnowsMore m n → KnowsMore n p → KnowsMore m p
knows-then m n p k l = record {
  ticks = let a : m.ticks ≤ n.ticks = k.ticks in let b : n.ticks ≤ p.ticks = l.ticks in omega (arith, a, b);
  stamps = (k.stamps.0 ++ l.stamps.0, l.stamps.1 ∙ ap (λ x. x ++ l.stamps.0) k.stamps.1 ∙ append_assoc m.stamps k.stamps.0 l.stamps.0);
}

-- ticks that were heard of are no lower than before, nor than what was heard
pub heard-up : (n e : ℕ) → (n ≤ heard_ticks n e) × (e / 256 ≤ heard_ticks n e)
heard-up n e = up n (e / 256)
  where
    up : (a b : ℕ) → (a ≤ max a b) × (b ≤ max a b)
    up a b = (omega arith, omega arith)

-- ---- a leader

-- a leader knows the same of what it hasn't decided, of what its Marks name, and of what is down
pub record LeadsAsBefore (m n : TargetMemory) : Type 0 where
  pub undecided : n.leader.undecided ≡ m.leader.undecided
  pub named : n.leader.named ≡ m.leader.named
  pub down : n.leader.down ≡ m.leader.down

leads-then : (m n p : TargetMemory) → LeadsAsBefore m n → LeadsAsBefore n p → LeadsAsBefore m p
leads-then m n p k l = record { undecided = l.undecided ∙ k.undecided; named = l.named ∙ k.named; down = l.down ∙ k.down }

-- ---- a Fetch

-- What a turn that hears a Fetch leaves: as a leader all but which decided attempts aren't settled, and as a member what
-- idle work asked.
pub record ReadLeaves (m n : TargetMemory) : Type 0 where
  pub leads : LeadsAsBefore m n
  pub inquiries : n.member.inquiries ≡ m.member.inquiries
  pub more : KnowsMore m n

read-same : (m : TargetMemory) → ReadLeaves m m
read-same m = record { leads = record { undecided = refl; named = refl; down = refl }; inquiries = refl; more = knows-same m m refl refl }

read-then : (q : FetchRequest) (e : Epoch) (decided : List AttemptId) (m : TargetMemory) → ReadLeaves m (read.memory_then q e decided m) × ((read.memory_then q e decided m).stamps ≡ m.stamps)
read-then q e decided m = by q.snapshot
  where
    by : (s : Bool) → ReadLeaves m (with_unsettled decided (if s then m else with_ticks e m)) × ((with_unsettled decided (if s then m else with_ticks e m)).stamps ≡ m.stamps)
    by true = (record { leads = record { undecided = refl; named = refl; down = refl }; inquiries = refl; more = record { ticks = omega arith; stamps = ([], sym (append-nil m.stamps)) } }, refl)
    by false = (record { leads = record { undecided = refl; named = refl; down = refl }; inquiries = refl; more = record { ticks = (heard-up m.ticks e.0).0; stamps = ([], sym (append-nil m.stamps)) } }, refl)

-- one timestamp more, or none
stamped : (q : FetchRequest) (e : Epoch) (stamps : List Shown) → (more : List Shown) × (read.stamps_with q e stamps ≡ stamps ++ more)
stamped q e stamps = by q.snapshot
  where
    by : (s : Bool) → (more : List Shown) × ((if s then stamps else stamps ++ record { by = q.attempt; epoch = e; path = read_path q.read } ∷ []) ≡ stamps ++ more)
    by true = ([], sym (append-nil stamps))
    by false = (record { by = q.attempt; epoch = e; path = read_path q.read } ∷ [], refl)

pub fetch-leaves : (t : TargetPlan) (m : TargetMemory) (reading : ℕ) (q : FetchRequest) (from : ActorId) (s : read.FetchStage) (k : Kept) (left : TargetMemory × Did)
    → read.FetchEnds t m reading q from s k left → ReadLeaves m left.0
fetch-leaves t m reading q from s k left (read.IsSpent j z live none is) = subst (λ x. ReadLeaves m x.0) (sym is) (read-same m)
fetch-leaves t m reading q from s k left (read.IsRefused j e decided c z why is) = subst (λ x. ReadLeaves m x.0) (sym is) (read-then q e decided m).0
fetch-leaves t m reading q from s k left (read.MeetsUnresolved j e decided a z none unsettled other own is) = subst (λ x. ReadLeaves m x.0) (sym is) (read-then q e decided m).0
fetch-leaves t m reading q from s k left (read.IsParked j e decided a leader z none unsettled other is) =
    let r = (read-then q e decided m).0 in
    subst (λ x. ReadLeaves m x.0) (sym is) (record { leads = record { undecided = r.leads.undecided; named = r.leads.named; down = r.leads.down }; inquiries = refl; more = record { ticks = r.more.ticks; stamps = r.more.stamps } })
fetch-leaves t m reading q from s k left (read.IsServed j e decided b z none ok is) =
    let r = (read-then q e decided m).0 in
    subst (λ x. ReadLeaves m x.0) (sym is) (record { leads = record { undecided = r.leads.undecided; named = r.leads.named; down = r.leads.down }; inquiries = r.inquiries; more = record { ticks = r.more.ticks; stamps = stamped q e m.stamps } })

-- ---- a Commit

-- what a turn that hears a Commit leaves: what its Marks name, what is down, the timestamps, and all that it knows as a member
pub record CommitLeaves (m n : TargetMemory) : Type 0 where
  pub named : n.leader.named ≡ m.leader.named
  pub down : n.leader.down ≡ m.leader.down
  pub member : n.member ≡ m.member
  pub stamps : n.stamps ≡ m.stamps
  pub ticks : m.ticks ≤ n.ticks

begun-leaves : (e : Entry) (first : Option Epoch) (client : ActorId) (ws : List MinorWrite) (l : LeaderOf)
    → ((begun e first client ws l).leader.memory.named ≡ l.memory.named) × ((begun e first client ws l).leader.memory.down ≡ l.memory.down)
unfolding begun
begun-leaves e first client ws l = by (is_empty (other_members e))
  where
    by : (s : Bool) → ((if s then begun_alone e client l else begun_with_others e first client ws l).leader.memory.named ≡ l.memory.named)
        × ((if s then begun_alone e client l else begun_with_others e first client ws l).leader.memory.down ≡ l.memory.down)
    by true = (refl, refl)
    by false = (refl, refl)

pub commit-leaves : (t : TargetPlan) (opening : Epoch × FloorWhy) (m : TargetMemory) (reading : ℕ) (q : CommitRequest) (from : ActorId) (s : commit.CommitStage) (k : Kept) (left : TargetMemory × Did)
    → commit.CommitEnds t opening m reading q from s k left → CommitLeaves m left.0
commit-leaves t opening m reading q from s k left (commit.IsSpent j z none is) = subst (λ x. CommitLeaves m x.0) (sym is) (record { named = refl; down = refl; member = refl; stamps = refl; ticks = omega arith })
commit-leaves t opening m reading q from s k left (commit.IsRefused j e c z why is) =
    subst (λ x. CommitLeaves m x.0) (sym is) (record { named = refl; down = refl; member = refl; stamps = refl; ticks = (heard-up m.ticks e.0).0 })
commit-leaves t opening m reading q from s k left (commit.HasNoSpace j e z allowed full is) =
    subst (λ x. CommitLeaves m x.0) (sym is) (record { named = refl; down = refl; member = refl; stamps = refl; ticks = (heard-up m.ticks e.0).0 })
commit-leaves t opening m reading q from s k left (commit.HasBegun j e z is) =
    let b = begun-leaves (commit.led_entry t q e) q.first from q.writes (leader_at t m k.durable) in
    subst (λ x. CommitLeaves m x.0) (sym is) (record { named = b.0; down = b.1; member = refl; stamps = refl; ticks = (heard-up m.ticks e.0).0 })

-- ---- what targets hear of each other

-- a Prepare leaves all but the ticks
pub prepare-leaves : (t : TargetPlan) (opening : Epoch × FloorWhy) (m : TargetMemory) (q : PrepareRequest) (s : prepare.PrepareStage) (k : Kept) (left : TargetMemory × Did)
    → prepare.PrepareEnds t opening m q s k left → left.0 ≡ with_ticks q.entry.epoch m
prepare-leaves t opening m q s k left (prepare.IsRefused j c z why is) = ap (λ x. x.0) is
prepare-leaves t opening m q s k left (prepare.HasNoSpace j z allowed full is) = ap (λ x. x.0) is
prepare-leaves t opening m q s k left (prepare.IsPrepared j z is) = ap (λ x. x.0) is

-- an Ack and a Marked leave all but what is known as a leader
pub record LeavesTheRest (m n : TargetMemory) : Type 0 where
  pub member : n.member ≡ m.member
  pub stamps : n.stamps ≡ m.stamps
  pub ticks : n.ticks ≡ m.ticks

pub ack-leaves : (m : TargetMemory) (s : ack.AckStage) (k : Kept) (left : TargetMemory × Did) → ack.AckEnds m s k left → LeavesTheRest m left.0
ack-leaves m s k left (ack.IsFollowed j step z is) = subst (λ x. LeavesTheRest m x.0) (sym is) (record { member = refl; stamps = refl; ticks = refl })

-- and a Marked all but what the Marks name
pub record MarkedLeaves (m n : TargetMemory) : Type 0 where
  pub rest : LeavesTheRest m n
  pub undecided : n.leader.undecided ≡ m.leader.undecided
  pub decided : n.leader.decided ≡ m.leader.decided
  pub down : n.leader.down ≡ m.leader.down

pub marked-leaves : (t : TargetPlan) (m : TargetMemory) (member inc : ℕ) (ids s : List AttemptId) (k : Kept) (left : TargetMemory × Did) → ack.MarkedEnds t m member inc ids s k left → MarkedLeaves m left.0
unfolding marked_heard
marked-leaves t m member inc ids s k left (ack.AllConfirmed j z is) =
    subst (λ x. MarkedLeaves m x.0) (sym is) (record { rest = record { member = refl; stamps = refl; ticks = refl }; undecided = refl; decided = refl; down = refl })

-- where what is settled is in doubt, a Mark leaves all that is known, and so does a Query
pub mark-leaves : (m : TargetMemory) (from : ActorId) (inc : ℕ) (marks s : List (AttemptId × Bool)) (k : Kept) (left : TargetMemory × Did) → mark.MarkEnds m from inc marks s k left → left.0 ≡ m
mark-leaves m from inc marks s k left (mark.AllMarked j z is) = ap (λ x. x.0) is

pub query-leaves : (t : TargetPlan) (m : TargetMemory) (from : ActorId) (a : AttemptId) (ask : Option AttemptId) (s : verdict.QueryStage) (k : Kept) (left : TargetMemory × Did)
    → verdict.QueryEnds t m from a ask s k left → left.0 ≡ m
query-leaves t m from a ask s k left (verdict.IsTold j z is) = ap (λ x. x.0) is

-- a Verdict leaves as a leader what each Fetch leaves
pub record VerdictLeaves (m n : TargetMemory) : Type 0 where
  pub leads : LeadsAsBefore m n
  pub more : KnowsMore m n

pub verdict-leaves : (is_due : AttemptId → Durable → Bool) (t : TargetPlan) (m : TargetMemory) (reading : ℕ) (a : AttemptId) (ask : Option AttemptId) (v : Verdict) (old new : Kept) (left : TargetMemory × Did)
    → Whole (verdict.VerdictNext is_due t m reading a ask v) verdict.VerdictEnds verdict.Heard old new left → VerdictLeaves m left.0 × (left.1 ≡ sends left.1.posts None)
verdict-leaves is_due t m reading a ask v old new left w =
    verdict-keeps is_due t m reading a ask v old (λ asks n posts k. VerdictLeaves m n) (λ k steps. begins) goes new left w
  where
    begins : VerdictLeaves m (joins_on (verdict_heard a ask v (member_at t m)).member m)
    begins = record { leads = record { undecided = refl; named = refl; down = refl }; more = record { ticks = omega arith; stamps = ([], sym (append-nil m.stamps)) } }

    goes : (q : FetchRequest) (rest : List Message) (n : TargetMemory) (posts : List Post) (k l : Kept) (z : TargetMemory × Did) → VerdictLeaves m n → Tries t reading n q k l z → VerdictLeaves m z.0
    goes q rest n posts k l z h y =
        let r = fetch-leaves t n reading q (verdict.fetcher q) y.last l z y.ends in
        record { leads = leads-then m n z.0 h.leads r.leads; more = knows-then m n z.0 h.more r.more }

-- ---- idle work

-- idle work leaves all but what the Marks name, what isn't settled, and what was asked
pub record IdleLeaves (m n : TargetMemory) : Type 0 where
  pub undecided : n.leader.undecided ≡ m.leader.undecided
  pub decided : n.leader.decided ≡ []
  pub down : n.leader.down ≡ m.leader.down
  pub parked : n.member.parked ≡ m.member.parked
  pub stamps : n.stamps ≡ m.stamps
  pub ticks : n.ticks ≡ m.ticks

idle-then : (settling : Bool) (t : TargetPlan) (m : TargetMemory) (d : Durable) → IdleLeaves m (idle_memory settling t m d)
unfolding batched inquired
idle-then true t m d = record { undecided = refl; decided = refl; down = refl; parked = refl; stamps = refl; ticks = refl }
idle-then false t m d = record { undecided = refl; decided = refl; down = refl; parked = refl; stamps = refl; ticks = refl }

pub idle-leaves : (settling : Bool) (t : TargetPlan) (m : TargetMemory) (s : List AttemptId) (k : Kept) (left : TargetMemory × Did) → IdleEnds settling t m s k left → IdleLeaves m left.0
idle-leaves settling t m s k left (AllSettled j z is) = subst (λ x. IdleLeaves m x.0) (sym is) (idle-then settling t m k.durable)

-- ---- every turn

-- no turn of a target adds a line, lowers the ticks or drops a timestamp
pub record Follows (m : TargetMemory) (left : TargetMemory × Did) : Type 0 where
  pub lines : left.1.lines ≡ []
  pub more : KnowsMore m left.0

pub fetch-follows : (t : TargetPlan) (m : TargetMemory) (reading : ℕ) (q : FetchRequest) (from : ActorId) (s : read.FetchStage) (k : Kept) (left : TargetMemory × Did)
    → read.FetchEnds t m reading q from s k left → left.1.lines ≡ []
fetch-follows t m reading q from s k left (read.IsSpent j z live none is) = ap (λ x. x.1.lines) is
fetch-follows t m reading q from s k left (read.IsRefused j e decided c z why is) = ap (λ x. x.1.lines) is
fetch-follows t m reading q from s k left (read.MeetsUnresolved j e decided a z none unsettled other own is) = ap (λ x. x.1.lines) is
fetch-follows t m reading q from s k left (read.IsParked j e decided a leader z none unsettled other is) = ap (λ x. x.1.lines) is
fetch-follows t m reading q from s k left (read.IsServed j e decided b z none ok is) = ap (λ x. x.1.lines) is

pub commit-follows : (t : TargetPlan) (opening : Epoch × FloorWhy) (m : TargetMemory) (reading : ℕ) (q : CommitRequest) (from : ActorId) (s : commit.CommitStage) (k : Kept) (left : TargetMemory × Did)
    → commit.CommitEnds t opening m reading q from s k left → left.1.lines ≡ []
commit-follows t opening m reading q from s k left (commit.IsSpent j z none is) = ap (λ x. x.1.lines) is
commit-follows t opening m reading q from s k left (commit.IsRefused j e c z why is) = ap (λ x. x.1.lines) is
commit-follows t opening m reading q from s k left (commit.HasNoSpace j e z allowed full is) = ap (λ x. x.1.lines) is
commit-follows t opening m reading q from s k left (commit.HasBegun j e z is) = ap (λ x. x.1.lines) is

prepare-follows : (t : TargetPlan) (opening : Epoch × FloorWhy) (m : TargetMemory) (q : PrepareRequest) (s : prepare.PrepareStage) (k : Kept) (left : TargetMemory × Did)
    → prepare.PrepareEnds t opening m q s k left → (left.1.lines ≡ []) × (left.1.issued ≡ None)
prepare-follows t opening m q s k left (prepare.IsRefused j c z why is) = (ap (λ x. x.1.lines) is, ap (λ x. x.1.issued) is)
prepare-follows t opening m q s k left (prepare.HasNoSpace j z allowed full is) = (ap (λ x. x.1.lines) is, ap (λ x. x.1.issued) is)
prepare-follows t opening m q s k left (prepare.IsPrepared j z is) = (ap (λ x. x.1.lines) is, ap (λ x. x.1.issued) is)

ack-follows : (m : TargetMemory) (s : ack.AckStage) (k : Kept) (left : TargetMemory × Did) → ack.AckEnds m s k left → (left.1.lines ≡ []) × (left.1.issued ≡ None)
ack-follows m s k left (ack.IsFollowed j step z is) = (ap (λ x. x.1.lines) is, ap (λ x. x.1.issued) is)

marked-follows : (t : TargetPlan) (m : TargetMemory) (member inc : ℕ) (ids s : List AttemptId) (k : Kept) (left : TargetMemory × Did) → ack.MarkedEnds t m member inc ids s k left
    → (left.1.lines ≡ []) × (left.1.issued ≡ None)
marked-follows t m member inc ids s k left (ack.AllConfirmed j z is) = (ap (λ x. x.1.lines) is, ap (λ x. x.1.issued) is)

mark-follows : (m : TargetMemory) (from : ActorId) (inc : ℕ) (marks s : List (AttemptId × Bool)) (k : Kept) (left : TargetMemory × Did) → mark.MarkEnds m from inc marks s k left
    → (left.1.lines ≡ []) × (left.1.issued ≡ None)
mark-follows m from inc marks s k left (mark.AllMarked j z is) = (ap (λ x. x.1.lines) is, ap (λ x. x.1.issued) is)

query-follows : (t : TargetPlan) (m : TargetMemory) (from : ActorId) (a : AttemptId) (ask : Option AttemptId) (s : verdict.QueryStage) (k : Kept) (left : TargetMemory × Did)
    → verdict.QueryEnds t m from a ask s k left → (left.1.lines ≡ []) × (left.1.issued ≡ None)
query-follows t m from a ask s k left (verdict.IsTold j z is) = (ap (λ x. x.1.lines) is, ap (λ x. x.1.issued) is)

idle-follows : (settling : Bool) (t : TargetPlan) (m : TargetMemory) (s : List AttemptId) (k : Kept) (left : TargetMemory × Did) → IdleEnds settling t m s k left → (left.1.lines ≡ []) × (left.1.issued ≡ None)
idle-follows settling t m s k left (AllSettled j z is) = (ap (λ x. x.1.lines) is, ap (λ x. x.1.issued) is)

-- every turn that hears a message, where what is settled is in doubt
pub hears-follows : (t : TargetPlan) (opening : Epoch × FloorWhy) (m : TargetMemory) (reading : ℕ) (from : ActorId) (q : Message) (old new : Kept) (left : TargetMemory × Did)
    → HearsRightly t opening m reading from q old new left → Follows m left
hears-follows t opening m reading from (message.Fetch x op group ep first tracker r snapshot) old new left h = record {
  lines = fetch-follows t m reading (fetch_request x op group ep first tracker r snapshot) from h.last new left h.ends;
  more = (fetch-leaves t m reading (fetch_request x op group ep first tracker r snapshot) from h.last new left h.ends).more;
}
hears-follows t opening m reading from (message.Commit x ep first tracker ws) old new left h =
    let c = commit-leaves t opening m reading (commit_request x ep first tracker ws) from h.last new left h.ends in
    record {
      lines = commit-follows t opening m reading (commit_request x ep first tracker ws) from h.last new left h.ends;
      more = record { ticks = c.ticks; stamps = ([], c.stamps ∙ sym (append-nil m.stamps)) };
    }
hears-follows t opening m reading from (message.Prepare e first ws inc) old new left h = record {
  lines = (prepare-follows t opening m (prepare_request e first ws inc) h.last new left h.ends).0;
  more = subst (λ n. KnowsMore m n) (sym (prepare-leaves t opening m (prepare_request e first ws inc) h.last new left h.ends)) (record { ticks = (heard-up m.ticks e.epoch.0).0; stamps = ([], sym (append-nil m.stamps)) });
}
hears-follows t opening m reading from (message.Ack x inc refusal) old new left h =
    let c = ack-leaves m h.last new left h.ends in
    record { lines = (ack-follows m h.last new left h.ends).0; more = knows-same m left.0 c.ticks c.stamps }
hears-follows t opening m reading from (message.Mark inc marks) old new left h = record {
  lines = (mark-follows m from inc marks h.last new left h.ends).0;
  more = subst (λ n. KnowsMore m n) (sym (mark-leaves m from inc marks h.last new left h.ends)) (knows-same m m refl refl);
}
hears-follows t opening m reading from (message.Marked inc ids) old new left h =
    let c = (marked-leaves t m from.number inc ids h.last new left h.ends).rest in
    record { lines = (marked-follows t m from.number inc ids h.last new left h.ends).0; more = knows-same m left.0 c.ticks c.stamps }
hears-follows t opening m reading from (message.Query x ask) old new left h = record {
  lines = (query-follows t m from x ask h.last new left h.ends).0;
  more = subst (λ n. KnowsMore m n) (sym (query-leaves t m from x ask h.last new left h.ends)) (knows-same m m refl refl);
}
hears-follows t opening m reading from (message.Verdict x ask inc v) old new left h =
    let c = verdict-leaves (is_in_doubt t.me) t m reading x ask v old new left h in
    record { lines = ap (λ d. d.lines) c.1; more = c.0.more }
hears-follows t opening m reading from q old new left h = absurd h

-- and idle work
pub idles-follows : (settling : Bool) (t : TargetPlan) (m : TargetMemory) (old new : Kept) (left : TargetMemory × Did) → IdlesWhole settling t m old new left → Follows m left
idles-follows settling t m old new left h =
    let c = idle-leaves settling t m h.last new left h.ends in
    record { lines = (idle-follows settling t m h.last new left h.ends).0; more = knows-same m left.0 c.ticks c.stamps }

-- ---- what is issued

-- only a read or a Commit is issued an epoch
abbrev pub may_be_issued : Message → Bool
may_be_issued (message.Fetch x op group ep first tracker r snapshot) = true
may_be_issued (message.Commit x ep first tracker ws) = true
may_be_issued m = false

pub hears-issues-none : (t : TargetPlan) (opening : Epoch × FloorWhy) (m : TargetMemory) (reading : ℕ) (from : ActorId) (q : Message) (old new : Kept) (left : TargetMemory × Did)
    → HearsRightly t opening m reading from q old new left → may_be_issued q ≡ false → left.1.issued ≡ None
hears-issues-none t opening m reading from (message.Fetch x op group ep first tracker r snapshot) old new left h quiet = let n : ⊥ = cc in absurd n
hears-issues-none t opening m reading from (message.Commit x ep first tracker ws) old new left h quiet = let n : ⊥ = cc in absurd n
hears-issues-none t opening m reading from (message.Prepare e first ws inc) old new left h quiet = (prepare-follows t opening m (prepare_request e first ws inc) h.last new left h.ends).1
hears-issues-none t opening m reading from (message.Ack x inc refusal) old new left h quiet = (ack-follows m h.last new left h.ends).1
hears-issues-none t opening m reading from (message.Mark inc marks) old new left h quiet = (mark-follows m from inc marks h.last new left h.ends).1
hears-issues-none t opening m reading from (message.Marked inc ids) old new left h quiet = (marked-follows t m from.number inc ids h.last new left h.ends).1
hears-issues-none t opening m reading from (message.Query x ask) old new left h quiet = (query-follows t m from x ask h.last new left h.ends).1
hears-issues-none t opening m reading from (message.Verdict x ask inc v) old new left h quiet = ap (λ d. d.issued) (verdict-leaves (is_in_doubt t.me) t m reading x ask v old new left h).1
hears-issues-none t opening m reading from q old new left h quiet = absurd h

pub idles-issue-none : (settling : Bool) (t : TargetPlan) (m : TargetMemory) (old new : Kept) (left : TargetMemory × Did) → IdlesWhole settling t m old new left → left.1.issued ≡ None
idles-issue-none settling t m old new left h = (idle-follows settling t m h.last new left h.ends).1

-- a read at an epoch leaves what the target knows as a member
pub member-then : (q : FetchRequest) (e : Epoch) (decided : List AttemptId) (m : TargetMemory) → (read.memory_then q e decided m).member ≡ m.member
member-then q e decided m = by q.snapshot
  where
    by : (b : Bool) → (if b then m else with_ticks e m).member ≡ m.member
    by true = refl
    by false = refl
