-- The turns of a target: it hears a message, or does idle work; whole, or cut short.
use Rattle.std.specs.Prelude.{ℕ, Bool, List, Option}
use Rattle.base_types.specs.declared.entry.Entry.{Entry}
use Rattle.base_types.specs.declared.epoch.Epoch.{Epoch}
use Rattle.base_types.specs.declared.id.AttemptId.{AttemptId}
use Rattle.base_types.specs.declared.operation.MinorWrite.{MinorWrite}
use Rattle.base_types.specs.declared.operation.Read.{Read}
use Rattle.base_types.specs.declared.outcome.FloorWhy.{FloorWhy}
use Rattle.base_messages.specs.declared.actor.ActorId.{ActorId}
use Rattle.base_messages.specs.declared.message.Message.{Message}
use Rattle.base_messages.specs.declared.message.Message.TheVariants.{Ack, Commit, Fetch, Mark, Marked, Prepare, Query, Verdict}
use Rattle.dtx_base.specs.Leading.{attempts_of}
use Rattle.world_base.specs.declared.did.Did.{Did}
use Rattle.world_base.specs.declared.request.CommitRequest.{CommitRequest}
use Rattle.world_base.specs.declared.request.FetchRequest.{FetchRequest}
use Rattle.world_base.specs.declared.request.PrepareRequest.{PrepareRequest}
use Rattle.world_base.specs.declared.target.TargetMemory.{TargetMemory}
use Rattle.world_base.specs.declared.target.TargetPlan.{TargetPlan}
use Rattle.world_base.specs.Acks as ack
use Rattle.world_base.specs.Changes.{Kept}
use Rattle.world_base.specs.Commits as commit
use Rattle.world_base.specs.Idle.{IdleEnds, IdleNext}
use Rattle.world_base.specs.Marks.{MarkEnds, MarkNext}
use Rattle.world_base.specs.Prepares as prepare
use Rattle.world_base.specs.Reads as read
use Rattle.world_base.specs.Roles.{is_prepared, told_by, told_of_all}
use Rattle.world_base.specs.Turns.{Whole}
use Rattle.world_base.specs.Verdicts as verdict

-- ---- what is asked

abbrev pub fetch_request : AttemptId → ℕ → ℕ → Option Epoch → Option Epoch → Epoch → Read → Bool → FetchRequest
fetch_request x op group ep first tracker r snapshot = record { attempt = x; op = op; group = group; ep = ep; first = first; tracker = tracker; read = r; snapshot = snapshot }

abbrev pub commit_request : AttemptId → Option Epoch → Option Epoch → Epoch → List MinorWrite → CommitRequest
commit_request x ep first tracker ws = record { attempt = x; ep = ep; first = first; tracker = tracker; writes = ws }

abbrev pub prepare_request : Entry → Option Epoch → List MinorWrite → ℕ → PrepareRequest
prepare_request e first ws inc = record { entry = e; first = first; writes = ws; inc = inc }

-- ---- hearing

-- a turn in which a target of this plan and opening hears, knowing this, at a reading of its clock, a message of an actor: from what is
-- kept before it to what is kept after it, and to what is known then and what follows
abbrev pub Hearing : Type 1
Hearing = TargetPlan → Epoch × FloorWhy → TargetMemory → ℕ → ActorId → Message → Kept → Kept → TargetMemory × Did → Type 0

-- A target hears a message: what it then keeps and knows, and what follows. A Mark and a Verdict settle what is prepared here, whoever
-- leads it.
abbrev pub Hears : Hearing
Hears t opening m reading from (Fetch x op group ep first tracker r snapshot) old new left =
    Whole (read.FetchNext t m reading (fetch_request x op group ep first tracker r snapshot)) (read.FetchEnds t m reading (fetch_request x op group ep first tracker r snapshot) from)
    read.Asked old new left
Hears t opening m reading from (Commit x ep first tracker ws) old new left =
    Whole (commit.CommitNext t opening m reading (commit_request x ep first tracker ws)) (commit.CommitEnds t opening m reading (commit_request x ep first tracker ws) from)
    commit.Asked old new left
Hears t opening m reading from (Prepare e first ws inc) old new left =
    Whole (prepare.PrepareNext t opening m (prepare_request e first ws inc)) (prepare.PrepareEnds t opening m (prepare_request e first ws inc)) prepare.Heard old new left
Hears t opening m reading from (Ack x inc refusal) old new left = Whole (ack.AckNext t m from.number x inc refusal) (ack.AckEnds m) ack.Heard old new left
Hears t opening m reading from (Mark inc marks) old new left =
    Whole (MarkNext is_prepared) (MarkEnds (told_of_all (attempts_of marks) m) from inc marks) marks old new left
Hears t opening m reading from (Marked inc ids) old new left =
    Whole (ack.MarkedNext t m from.number) (ack.MarkedEnds t m from.number inc ids) (ack.to_confirm inc ids old.durable) old new left
Hears t opening m reading from (Query x ask) old new left = Whole verdict.QueryNext (verdict.QueryEnds t m from x ask) verdict.IsAsked old new left
Hears t opening m reading from (Verdict x ask inc v) old new left =
    Whole (verdict.VerdictNext is_prepared t (told_by v x m) reading x ask v) verdict.VerdictEnds verdict.Heard old new left
Hears t opening m reading from other old new left = ⊥

-- ---- idle work

-- a target does its idle work, in the settling phase or before it
abbrev pub IdlesWhole : Bool → TargetPlan → TargetMemory → Kept → Kept → TargetMemory × Did → Type 0
IdlesWhole settling t m old new left = Whole IdleNext (IdleEnds settling t m) m.leader.decided old new left
