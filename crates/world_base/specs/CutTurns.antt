-- Turns of a target that were cut: what they leave, the epoch that they issued, and the lines that they add.
use Rattle.std.specs.Prelude.{ℕ, ◌≡◌, ◌≤◌, ◌+◌, Bool, true, false, List, [], ◌∷◌, ◌++◌, Option, Some, None}
use Rattle.base_types.specs.declared.epoch.Epoch.{Epoch}
use Rattle.base_types.specs.declared.id.AttemptId.{AttemptId}
use Rattle.base_types.specs.declared.outcome.FloorWhy.{FloorWhy}
use Rattle.base_types.specs.declared.report.Line.{Line}
use Rattle.base_types.specs.declared.report.Line.TheVariants as line
use Rattle.base_messages.specs.declared.actor.ActorId.{ActorId}
use Rattle.base_messages.specs.declared.message.Message.{Message}
use Rattle.base_messages.specs.declared.message.Message.TheVariants as message
use Rattle.daos_model.specs.declared.durable.Durable.{Durable}
use Rattle.world_base.specs.declared.request.CommitRequest.{CommitRequest}
use Rattle.world_base.specs.declared.request.FetchRequest.{FetchRequest}
use Rattle.world_base.specs.declared.target.TargetMemory.{TargetMemory}
use Rattle.world_base.specs.declared.target.TargetPlan.{TargetPlan}
use Rattle.world_base.specs.Acks as ack
use Rattle.world_base.specs.Changes.{Change, Cut, Freezes, Kept, Prunes, cost}
use Rattle.world_base.specs.Commits as commit
use Rattle.world_base.specs.Idle.{IdleNext}
use Rattle.world_base.specs.Marks.{MarkNext}
use Rattle.world_base.specs.Prepares as prepare
use Rattle.world_base.specs.Reads as read
use Rattle.world_base.specs.Requests.{issued_for}
use Rattle.world_base.specs.Roles.{is_prepared, told_by}
use Rattle.world_base.specs.Snapshots as snap
use Rattle.world_base.specs.Statuses.{Looking, NoChange, down_of, status_refusal}
use Rattle.world_base.specs.TargetTurns.{commit_request, fetch_request, prepare_request}
use Rattle.world_base.specs.Turns.{Path}
use Rattle.world_base.specs.Verdicts as verdict

-- ---- what is left

-- the lines of the changes that were made
abbrev pub line_of : ℕ → Change → List Line
line_of t (Freezes c s) = line.Freeze t c s ∷ []
line_of t (Prunes c upto n) = line.Aggregate n t c upto ∷ []
line_of t c = []

abbrev pub lines_of : ℕ → List Change → List Line
lines_of t [] = []
lines_of t (c ∷ cs) = line_of t c ++ lines_of t cs

-- a prune that was cut has its line, whether it was made or not
abbrev pub cut_line : ℕ → Change → List Line
cut_line t (Prunes c upto n) = line.Aggregate n t c upto ∷ []
cut_line t c = []

-- what a cut turn leaves: what is kept then, the epochs that it issued, and its lines
pub record Cutting : Type 0 where
  pub left : Kept
  pub issued : List (AttemptId × Epoch)
  pub lines : List Line

-- Where it was cut: in a change, which was made, or not, or in part, and which may have cost its blocks; or in a question. The last are
-- the lines of what was cut.
pub data CutHere {S : Type 0} (Next : S → Kept → Option Change → S → Type 0) (t : ℕ) (last : S) (mid left : Kept) : List Line → Type 0 where
  InChange : (c : Change) (next : S) → Next last mid (Some c) next → Cut c mid.durable left.durable → mid.free ≤ left.free + cost c → CutHere Next t last mid left (cut_line t c)
  InQuestion : left.durable ≡ mid.durable → mid.free ≤ left.free → CutHere Next t last mid left []

-- a turn that was cut: some steps, and then the cut
pub record CutTurn {S : Type 0} (Next : S → Kept → Option Change → S → Type 0) (issues : S → List (AttemptId × Epoch)) (t : ℕ) (start : S) (old : Kept) (cut : Cutting) : Type 0 where
  pub last : S
  pub mid : Kept
  pub did : List Change
  pub path : Path Next start old did last mid
  pub lines : List Line
  pub here : CutHere Next t last mid cut.left lines
  pub issued : cut.issued ≡ issues last
  pub all_lines : cut.lines ≡ lines_of t did ++ lines

-- ---- which epoch was issued

-- an epoch counts as issued once the lease covers it
abbrev pub listed_issue : Option (AttemptId × Epoch) → List (AttemptId × Epoch)
listed_issue None = []
listed_issue (Some i) = i ∷ []

abbrev pub none_issued : {S : Type 0} → S → List (AttemptId × Epoch)
none_issued s = []

abbrev pub issued_by_fetch : FetchRequest → read.FetchStage → List (AttemptId × Epoch)
issued_by_fetch q read.Asked = []
issued_by_fetch q (read.Known e) = []
issued_by_fetch q (read.Reading e decided) = listed_issue (issued_for q.attempt q.ep e)

abbrev pub issued_by_commit : CommitRequest → commit.CommitStage → List (AttemptId × Epoch)
issued_by_commit q commit.Asked = []
issued_by_commit q (commit.Known e) = []
issued_by_commit q (commit.Checking e) = listed_issue (issued_for q.attempt q.ep e)
issued_by_commit q (commit.Stored e) = listed_issue (issued_for q.attempt q.ep e)

abbrev pub issued_by_freeze : AttemptId → Option Epoch → snap.FreezeStage → List (AttemptId × Epoch)
issued_by_freeze x ep snap.Asked = []
issued_by_freeze x ep (snap.Known s) = []
issued_by_freeze x ep (snap.Freezing s) = listed_issue (issued_for x ep s)
issued_by_freeze x ep (snap.Frozen s lines) = listed_issue (issued_for x ep s)
issued_by_freeze x ep (snap.Created s lines) = listed_issue (issued_for x ep s)

abbrev pub issued_by_prune : AttemptId → Option Epoch → snap.PruneStage → List (AttemptId × Epoch)
issued_by_prune x ep snap.Asked = []
issued_by_prune x ep (snap.Known g) = []
issued_by_prune x ep (snap.Settling g decided) = listed_issue (issued_for x ep g)
issued_by_prune x ep (snap.Pruned g lines) = listed_issue (issued_for x ep g)

-- ---- a Commit

abbrev pub is_stored : commit.CommitStage → Bool
is_stored commit.Asked = false
is_stored (commit.Known e) = false
is_stored (commit.Checking e) = false
is_stored (commit.Stored e) = true

-- the steps of a Commit before it stores anything
pub data UnstoredNext (t : TargetPlan) (opening : Epoch × FloorWhy) (m : TargetMemory) (reading : ℕ) (q : CommitRequest) : commit.CommitStage → Kept → Option Change → commit.CommitStage → Type 0 where
  Before : (s next : commit.CommitStage) (k : Kept) (o : Option Change) → commit.CommitNext t opening m reading q s k o next → is_stored next ≡ false → UnstoredNext t opening m reading q s k o next

-- a Commit was cut: one with a member that is known to be down before it stored anything
pub data CommitIsCut (t : TargetPlan) (opening : Epoch × FloorWhy) (m : TargetMemory) (reading : ℕ) (q : CommitRequest) (old : Kept) (cut : Cutting) : Type 0 where
  NoneIsDown : ((e : Epoch) → down_of t m q e ≡ None) → CutTurn (commit.CommitNext t opening m reading q) (issued_by_commit q) t.me commit.Asked old cut → CommitIsCut t opening m reading q old cut
  OneIsDown : (e : Epoch) (down : ℕ) → down_of t m q e ≡ Some down → CutTurn (UnstoredNext t opening m reading q) (issued_by_commit q) t.me commit.Asked old cut → CommitIsCut t opening m reading q old cut

-- ---- every kind of turn

-- a turn in which a target hears a message was cut so; this is what a Mark and a Verdict settle
abbrev pub HearingIsCut : (AttemptId → Durable → Bool) → ℕ → TargetPlan → Epoch × FloorWhy → TargetMemory → ℕ → ActorId → Message → Kept → Cutting → Type 0
HearingIsCut is_due number t opening m reading from (message.Fetch x op group ep first tracker r snapshot) old cut =
    CutTurn (read.FetchNext t m reading (fetch_request x op group ep first tracker r snapshot)) (issued_by_fetch (fetch_request x op group ep first tracker r snapshot)) t.me read.Asked old cut
HearingIsCut is_due number t opening m reading from (message.Commit x ep first tracker ws) old cut =
    CommitIsCut t opening m reading (commit_request x ep first tracker ws) old cut
HearingIsCut is_due number t opening m reading from (message.Prepare e first ws inc) old cut = CutTurn (prepare.PrepareNext t opening m (prepare_request e first ws inc)) none_issued t.me prepare.Heard old cut
HearingIsCut is_due number t opening m reading from (message.Ack x inc refusal) old cut = CutTurn (ack.AckNext t m from.number x inc refusal) none_issued t.me ack.Heard old cut
HearingIsCut is_due number t opening m reading from (message.StatusIs x inc how) old cut = CutTurn (ack.AckNext t m from.number x inc (status_refusal x how)) none_issued t.me ack.Heard old cut
HearingIsCut is_due number t opening m reading from (message.Mark inc marks) old cut = CutTurn (MarkNext is_due) none_issued t.me marks old cut
HearingIsCut is_due number t opening m reading from (message.Marked inc ids) old cut = CutTurn (ack.MarkedNext t m from.number) none_issued t.me (ack.to_confirm inc ids old.durable) old cut
HearingIsCut is_due number t opening m reading from (message.Verdict x ask inc v) old cut = CutTurn (verdict.VerdictNext is_due t (told_by v x m) reading x ask v) none_issued t.me verdict.Heard old cut
HearingIsCut is_due number t opening m reading from (message.Snap x c name tracker) old cut =
    CutTurn (snap.FreezeNext t m reading tracker None c (snap.is_held_by_all t 0)) (issued_by_freeze x None) t.me snap.Asked old cut
HearingIsCut is_due number t opening m reading from (message.Freeze x c s) old cut = CutTurn (snap.FreezeNext t m reading s (Some s) c false) (issued_by_freeze x (Some s)) t.me snap.Asked old cut
HearingIsCut is_due number t opening m reading from (message.Held x refusal) old cut = CutTurn (snap.HeldNext t m from.number x refusal) none_issued t.me snap.Heard old cut
HearingIsCut is_due number t opening m reading from (message.Prune x c (Some tracker) None) old cut = CutTurn (snap.PruneNext t m reading tracker None c number) (issued_by_prune x None) t.me snap.Asked old cut
HearingIsCut is_due number t opening m reading from (message.Prune x c None (Some g)) old cut = CutTurn (snap.PruneNext t m reading g (Some g) c number) (issued_by_prune x (Some g)) t.me snap.Asked old cut
HearingIsCut is_due number t opening m reading from (message.Query x ask) old cut = CutTurn verdict.QueryNext none_issued t.me verdict.IsAsked old cut
HearingIsCut is_due number t opening m reading from (message.Ask x) old cut = CutTurn NoChange none_issued t.me Looking old cut
HearingIsCut is_due number t opening m reading from (message.Status x inc) old cut = CutTurn NoChange none_issued t.me Looking old cut
HearingIsCut is_due number t opening m reading from (message.Reset' by down place asked) old cut = CutTurn NoChange none_issued t.me Looking old cut
HearingIsCut is_due number t opening m reading from other old cut = ⊥

abbrev pub IdleWorkIsCut : ℕ → TargetMemory → Kept → Cutting → Type 0
IdleWorkIsCut me m old cut = CutTurn IdleNext none_issued me m.leader.decided old cut
