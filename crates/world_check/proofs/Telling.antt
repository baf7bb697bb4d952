-- What followed from a target's turn is told by the world after it.
use Rattle.std.proofs.Common.{ℕ, ◌≡◌, ◌+◌, ◌++◌, ◌-◌, refl, sym, ◌∙◌, ap, map, drop, List, [], ◌∷◌, length, slice_get, Bool, Option, Some, None, arith}
use Rattle.base_types.specs.declared.epoch.Epoch.{Epoch}
use Rattle.base_types.specs.declared.id.AttemptId.{AttemptId}
use Rattle.base_types.specs.declared.outcome.FloorWhy.{FloorWhy}
use Rattle.base_types.specs.declared.report.Line.{Line}
use Rattle.base_messages.specs.declared.actor.ActorId.{ActorId}
use Rattle.base_messages.specs.declared.message.Message.{Message}
use Rattle.base_messages.specs.declared.message.Message.TheVariants as message
use Rattle.base_messages.specs.declared.message.Post.{Post}
use Rattle.dtx_base.specs.Leading.{attempts_of}
use Rattle.world_base.specs.declared.did.Did.{Did}
use Rattle.world_base.specs.declared.letter.Letter.{Letter}
use Rattle.world_base.specs.declared.request.PrepareRequest.{PrepareRequest}
use Rattle.world_base.specs.declared.target.TargetMemory.{TargetMemory}
use Rattle.world_base.specs.declared.target.TargetPlan.{TargetPlan}
use Rattle.world_base.specs.declared.world.World.{World}
use Rattle.world_base.specs.Events.{listed}
use Rattle.world_base.specs.Letters.{Takes, letters_of}
use Rattle.world_base.specs.Acks as ack
use Rattle.world_base.specs.Changes.{Kept}
use Rattle.world_base.specs.Idle.{AllSettled, IdleEnds}
use Rattle.world_base.specs.Marks as mark
use Rattle.world_base.specs.Prepares as prepare
use Rattle.world_base.specs.Roles.{told_of_all}
use Rattle.world_base.specs.TargetTurns.{Hears, IdlesWhole, commit_request, fetch_request, prepare_request}
use Rattle.world_base.specs.Verdicts as verdict
use Rattle.world_check.specs.Told.{did_told, post_of}
use Rattle.world_base.specs.MemoryLaws.{commit-follows, fetch-follows}

-- ---- no line is added

prepare_lines : (t : TargetPlan) (opening : Epoch × FloorWhy) (m : TargetMemory) (q : PrepareRequest) (s : prepare.PrepareStage) (k : Kept) (left : TargetMemory × Did) → prepare.PrepareEnds t opening m q s k left → left.1.lines ≡ []
prepare_lines t opening m q s k left (prepare.IsRefused j c l why is) = ap (λ x. x.1.lines) is
prepare_lines t opening m q s k left (prepare.HasNoSpace j l allowed lacks is) = ap (λ x. x.1.lines) is
prepare_lines t opening m q s k left (prepare.IsPrepared j l is) = ap (λ x. x.1.lines) is

ack_lines : (m : TargetMemory) (s : ack.AckStage) (k : Kept) (left : TargetMemory × Did) → ack.AckEnds m s k left → left.1.lines ≡ []
ack_lines m s k left (ack.IsFollowed j z l is) = ap (λ x. x.1.lines) is

mark_lines : (m : TargetMemory) (from : ActorId) (inc : ℕ) (marks s : List (AttemptId × Bool)) (k : Kept) (left : TargetMemory × Did) → mark.MarkEnds m from inc marks s k left → left.1.lines ≡ []
mark_lines m from inc marks s k left (mark.AllMarked j l is) = ap (λ x. x.1.lines) is

marked_lines : (t : TargetPlan) (m : TargetMemory) (member inc : ℕ) (ids s : List AttemptId) (k : Kept) (left : TargetMemory × Did) → ack.MarkedEnds t m member inc ids s k left → left.1.lines ≡ []
marked_lines t m member inc ids s k left (ack.AllConfirmed j l is) = ap (λ x. x.1.lines) is

query_lines : (t : TargetPlan) (m : TargetMemory) (from : ActorId) (a : AttemptId) (ask : Option AttemptId) (s : verdict.QueryStage) (k : Kept) (left : TargetMemory × Did) → verdict.QueryEnds t m from a ask s k left → left.1.lines ≡ []
query_lines t m from a ask s k left (verdict.IsTold j l is) = ap (λ x. x.1.lines) is

verdict_lines : (s : verdict.VerdictStage) (k : Kept) (left : TargetMemory × Did) → verdict.VerdictEnds s k left → left.1.lines ≡ []
verdict_lines s k left (verdict.AllTried j n posts l is) = ap (λ x. x.1.lines) is

pub hears_lines : (t : TargetPlan) (opening : Epoch × FloorWhy) (m : TargetMemory) (reading : ℕ) (from : ActorId) (l : Message) (old new : Kept) (left : TargetMemory × Did) → Hears t opening m reading from l old new left → left.1.lines ≡ []
hears_lines t opening m reading from (message.Fetch x op group ep first tracker r snapshot) old new left h = fetch-follows t m reading (fetch_request x op group ep first tracker r snapshot) from h.last new left h.ends
hears_lines t opening m reading from (message.Commit x ep first tracker ws) old new left h = commit-follows t opening m reading (commit_request x ep first tracker ws) from h.last new left h.ends
hears_lines t opening m reading from (message.Prepare e first ws inc) old new left h = prepare_lines t opening m (prepare_request e first ws inc) h.last new left h.ends
hears_lines t opening m reading from (message.Ack x inc refusal) old new left h = ack_lines m h.last new left h.ends
hears_lines t opening m reading from (message.Mark inc marks) old new left h = mark_lines (told_of_all (attempts_of marks) m) from inc marks h.last new left h.ends
hears_lines t opening m reading from (message.Marked inc ids) old new left h = marked_lines t m from.number inc ids h.last new left h.ends
hears_lines t opening m reading from (message.Query x ask) old new left h = query_lines t m from x ask h.last new left h.ends
hears_lines t opening m reading from (message.Verdict x ask inc v) old new left h = verdict_lines h.last new left h.ends
hears_lines t opening m reading from l old new left h = absurd h

idle_ends_lines : (settling : Bool) (t : TargetPlan) (m : TargetMemory) (s : List AttemptId) (k : Kept) (left : TargetMemory × Did) → IdleEnds settling t m s k left → left.1.lines ≡ []
idle_ends_lines settling t m s k left (AllSettled j l is) = ap (λ x. x.1.lines) is

pub idles_lines : (settling : Bool) (t : TargetPlan) (m : TargetMemory) (old new : Kept) (left : TargetMemory × Did) → IdlesWhole settling t m old new left → left.1.lines ≡ []
idles_lines settling t m old new left h = idle_ends_lines settling t m h.last new left h.ends

-- ---- read back

pub taken_length : (letters rest : List Letter) (l : Letter) → Takes letters l rest → length letters - 1 ≡ length rest
taken_length letters rest l k = ap (λ xs. length xs - 1) k.among ∙ shorter k.before k.after l ∙ ap length (sym k.left)
  where
    longer : (xs ys : List Letter) (z : Letter) → length (xs ++ z ∷ ys) ≡ length (xs ++ ys) + 1
    longer [] ys z = omega arith
    longer (x ∷ xs) ys z = let more = longer xs ys z in omega (arith, more)

    shorter : (xs ys : List Letter) (z : Letter) → length (xs ++ z ∷ ys) - 1 ≡ length (xs ++ ys)
    shorter xs ys z = let more = longer xs ys z in omega (arith, more)

behind_all : (rest others : List Letter) → drop (length rest) (rest ++ others) ≡ others
behind_all [] others = refl
behind_all (x ∷ rest) others = behind_all rest others

posts_back : (a : ActorId) (posts : List Post) → map post_of (letters_of a posts) ≡ posts
posts_back a [] = refl
posts_back a (p ∷ posts) = ap (λ ps. p ∷ ps) (posts_back a posts)

issue_behind : (xs : List (AttemptId × Epoch)) (o : Option (AttemptId × Epoch)) → slice_get (xs ++ listed o) (length xs) ≡ o
issue_behind [] None = refl
issue_behind [] (Some i) = refl
issue_behind (x ∷ xs) o = issue_behind xs o

abbrev did_of : List Post → List Line → Option (AttemptId × Epoch) → Did
did_of posts lines issued = record { posts = posts; lines = lines; issued = issued }

pub did_is : (w v : World) (a : ActorId) (did : Did) (rest : List Letter) (kept : ℕ) → did.lines ≡ [] → kept ≡ length rest → v.messages ≡ rest ++ letters_of a did.posts → v.issued ≡ w.issued ++ listed did.issued → did_told kept w v ≡ did
did_is w v a did rest kept lines many messages issued =
    let posts : map post_of (drop kept v.messages) ≡ did.posts =
    ap (λ n. map post_of (drop n v.messages)) many ∙ ap (λ xs. map post_of (drop (length rest) xs)) messages ∙ ap (map post_of) (behind_all rest (letters_of a did.posts)) ∙ posts_back a did.posts in
    let issue : slice_get v.issued (length w.issued) ≡ did.issued = ap (λ xs. slice_get xs (length w.issued)) issued ∙ issue_behind w.issued did.issued in
    ap (λ ps. did_of ps [] (slice_get v.issued (length w.issued))) posts ∙ ap (λ o. did_of did.posts [] o) issue ∙ ap (λ ls. did_of did.posts ls did.issued) (sym lines)
