-- What leaders and members post carries nothing of reads, but for Fetches that waited: each is answered, tried again, or waits on.
use Rattle.std.specs.Prelude.{ℕ, ◌≡◌, ◌≤◌, ◌+◌, ◌++◌, ◌==◌, Bool, true, false, List, [], ◌∷◌, filter, map, Option, Some, None, refl, if◌then◌else◌}
use Rattle.std.proofs.Common.{◌∙◌, ap, arith}
use Rattle.std.specs.Prelude.{◌||◌}
use Rattle.base_types.specs.declared.entry.Entry.{Entry}
use Rattle.base_types.specs.declared.entry.Verdict.{Verdict}
use Rattle.base_types.specs.declared.entry.Verdict.TheVariants as verdict
use Rattle.base_types.specs.declared.epoch.Epoch.{Epoch}
use Rattle.base_types.specs.declared.id.AttemptId.{AttemptId}
use Rattle.base_types.specs.declared.operation.MinorWrite.{MinorWrite}
use Rattle.base_types.specs.declared.operation.Read.{Read}
use Rattle.base_types.specs.declared.outcome.Cause.TheVariants.{Unresolved}
use Rattle.base_types.specs.declared.outcome.Outcome.{Outcome}
use Rattle.base_types.specs.declared.outcome.Outcome.TheVariants.{Committed}
use Rattle.base_types.specs.declared.outcome.Outcome.TheVariants as outcome
use Rattle.base_messages.specs.declared.actor.ActorId.{ActorId}
use Rattle.base_messages.specs.declared.message.Message.{Message}
use Rattle.base_messages.specs.declared.message.Message.TheVariants as message
use Rattle.base_messages.specs.declared.message.Post.{Post}
use Rattle.world_base.specs.dtx_base.declared.leading.Naming.{Naming}
use Rattle.world_base.specs.dtx_base.declared.leading.Undecided.{Undecided}
use Rattle.world_base.specs.dtx_base.declared.member.MemberMemory.{MemberMemory}
use Rattle.world_base.specs.dtx_base.declared.member.Parked.{Parked}
use Rattle.world_base.specs.dtx_base.Asking.{ask_heard, asked_of, asked_open}
use Rattle.world_base.specs.dtx_base.Joining.{MemberOf, all_unresolved_told, inquired, inquiry_for, is_parked_on, is_waiting, parked_ask, query_for, reset_heard, resolved, to_inquire, unresolved, unresolved_told, verdict_heard}
use Rattle.world_base.specs.dtx_base.Leading as leading
use Rattle.world_base.specs.dtx_base.Leading.{LeaderOf, abort_to, ack_heard, answer_heard, answer_if_awaited, batched, begun, begun_alone, begun_with_others, commit_mark, down_told, ended, entry_led, first_down, mark_reset, mark_with, marks_for, owed, prepare_reset, prepare_to, quietly, to_target, undecided_of}
use Rattle.world_base.specs.dtx_base.Members.{all_targets, are_all_counted, is_other_member, other_members, with_target}
use Rattle.world_base.specs.dtx_base.Rows.{is_among, is_empty}
use Rattle.world_base.specs.Statuses.{status_to, statuses_for, statuses_of}
use Rattle.world_letters.specs.kinds.Loads.{load, parked_load, post_load, total}
use Rattle.world_letters.specs.kinds.LoadLaws.{end-carries, total-append, total-map, total-none, total-parts}

-- posts that carry nothing of any read
abbrev pub CarryNone : List Post → Type 0
CarryNone posts = (x : AttemptId) (r : Read) → total (post_load x r) posts ≡ 0

-- ---- lists of posts

pub none-carried : CarryNone []
none-carried x r = refl

pub both-carry : (ps qs : List Post) → CarryNone ps → CarryNone qs → CarryNone (ps ++ qs)
both-carry ps qs k l x r = let all = total-append (post_load x r) ps qs in let first = k x r in let rest = l x r in omega (arith, all, first, rest)

pub each-carries : {T : Type 0} (f : T → Post) (ts : List T) → ((t : T) (x : AttemptId) (r : Read) → post_load x r (f t) ≡ 0) → CarryNone (map f ts)
each-carries f ts none x r = total-map (post_load x r) f ts ∙ total-none (λ t. post_load x r (f t)) ts (λ t. none t x r)

-- ---- leaders

-- the client that waits is told how its attempt ended
end-told : (client : Option ActorId) (a : AttemptId) (e : Epoch) (how : Outcome) → CarryNone (ended client a e how)
unfolding load
end-told None a e how x r = refl
end-told (Some c) a e how x r = refl

-- an attempt begins
pub beginnings-carry : (e : Entry) (first : Option Epoch) (client : ActorId) (ws : List MinorWrite) (l : LeaderOf) → CarryNone (begun e first client ws l).posts
unfolding begun load
beginnings-carry e first client ws l = by (is_empty (other_members e))
  where
    by : (b : Bool) → CarryNone (if b then begun_alone e client l else begun_with_others e first client ws l).posts
    by true = end-told (Some client) e.attempt e.epoch Committed
    by false = each-carries (prepare_to l.targets l.incarnation e first ws) (other_members e) (λ t x r. refl)

-- an Ack, or what tells of one
pub acks-carry : (t : ℕ) (a : AttemptId) (inc : ℕ) (refusal : Option Outcome) (l : LeaderOf) → CarryNone (ack_heard t a inc refusal l).posts
unfolding ack_heard load
acks-carry t a inc refusal l = by (inc == l.incarnation)
  where
    ok : (e : Entry) (u : Undecided) (b : Bool)
        → CarryNone (if b then record { leader = leading.decided a l; posts = ended u.client a e.epoch Committed } else quietly (leading.with_undecided (map (leading.counted_at a t) l.memory.undecided) l)).posts
    ok e u true = end-told u.client a e.epoch Committed
    ok e u false = none-carried

    answer : (refusal : Option Outcome) (e : Entry) (u : Undecided) (b : Bool) → CarryNone (if b then answer_heard t a refusal e u l else quietly l).posts
    answer None e u true = ok e u (are_all_counted e (with_target u.counted t))
    answer (Some how) e u true = both-carry (ended u.client a e.epoch how) (map (abort_to l.incarnation a) (other_members e)) (end-told u.client a e.epoch how) (each-carries (abort_to l.incarnation a) (other_members e) (λ m x r. refl))
    answer refusal e u false = none-carried

    awaited : (e : Option Entry) (u : Option Undecided) → CarryNone (answer_if_awaited t a refusal e u l).posts
    awaited None u = none-carried
    awaited (Some e) None = none-carried
    awaited (Some e) (Some u) = answer refusal e u (is_other_member e t)

    by : (b : Bool) → CarryNone (if b then answer_if_awaited t a refusal (entry_led a l) (undecided_of a l) l else quietly l).posts
    by true = awaited (entry_led a l) (undecided_of a l)
    by false = none-carried

-- a batch of Marks
mark-carries : (inc t : ℕ) (ids : List AttemptId) → CarryNone (mark_with inc t ids)
unfolding load
mark-carries inc t ids = by (is_empty ids)
  where
    by : (b : Bool) → CarryNone (if b then [] else to_target t (message.Mark inc (map commit_mark ids)) ∷ [])
    by true x r = refl
    by false x r = refl

marks-carry : (inc down : ℕ) (named : List Naming) (es : List Entry) (ts : List ℕ) → CarryNone (marks_for inc down named es ts)
marks-carry inc down named es [] = none-carried
marks-carry inc down named es (t ∷ ts) = both-carry (mark_with inc t (owed down named es t)) (marks_for inc down named es ts) (mark-carries inc t (owed down named es t)) (marks-carry inc down named es ts)

pub batches-carry : (l : LeaderOf) → CarryNone (batched l).posts
unfolding batched
batches-carry l = marks-carry l.incarnation l.memory.down l.memory.named l.entries all_targets

-- an Ask
pub asks-carry : (a : AttemptId) (from : ActorId) (l : LeaderOf) → CarryNone (ask_heard a from l).posts
unfolding ask_heard load
asks-carry a from l = by (entry_led a l) (is_among a l.memory.decided)
  where
    waits : (e : Entry) (down : Option ℕ) → CarryNone (asked_open a from e down l).posts
    waits e None x r = refl
    waits e (Some down) x r = refl

    known : (e : Entry) (b : Bool) → CarryNone (if b then record { leader = l; posts = record { to = from; message = message.Ended a (Some e.epoch) outcome.Committed } ∷ [] } else asked_open a from e (first_down e.members l.memory.down) l).posts
    known e true x r = refl
    known e false x r = waits e (first_down e.members l.memory.down) x r

    by : (e : Option Entry) (decided : Bool) → CarryNone (asked_of a from e decided l).posts
    by None decided x r = refl
    by (Some e) decided x r = known e (e.committed || decided) x r

-- a Reset
down-carries : (t : ℕ) (a : AttemptId) (e : Option Entry) (u : Option Undecided) (l : LeaderOf) → CarryNone (down_told t a e u l).posts
down-carries t a None u l = none-carried
down-carries t a (Some e) None l = none-carried
down-carries t a (Some e) (Some u) l = end-told u.client a e.epoch (outcome.Unknown t)

prepare-resets-carry : (t : ℕ) (down : Bool) (a : AttemptId) (inc : ℕ) (l : LeaderOf) → CarryNone (prepare_reset t down a inc l).posts
unfolding prepare_reset load
prepare-resets-carry t true a inc l = down-carries t a (entry_led a l) (undecided_of a l) l
prepare-resets-carry t false a inc l = by (inc == l.incarnation)
  where
    by : (b : Bool) → CarryNone (if b then record { leader = l; posts = to_target t (message.Status a inc) ∷ [] } else quietly l).posts
    by true x r = refl
    by false x r = refl

mark-resets-carry : (t : ℕ) (down : Bool) (inc : ℕ) (marks : List (AttemptId × Bool)) (l : LeaderOf) → CarryNone (mark_reset t down inc marks l).posts
unfolding mark_reset load
mark-resets-carry t true inc marks l x r = refl
mark-resets-carry t false inc marks l x r = refl

pub resets-carry : (t : ℕ) (down : Bool) (m : Message) (l : LeaderOf) → CarryNone (leading.reset_heard t down m l).posts
resets-carry t down (message.Prepare e first ws inc) l = prepare-resets-carry t down e.attempt inc l
resets-carry t down (message.Status a inc) l = prepare-resets-carry t down a inc l
resets-carry t down (message.Mark inc marks) l = mark-resets-carry t down inc marks l
resets-carry t down m l = none-carried

-- what a leader asks that opens again
pub statuses-carry : (inc : ℕ) (es : List Entry) → CarryNone (statuses_for inc es)
unfolding load
statuses-carry inc [] = none-carried
statuses-carry inc (e ∷ es) = both-carry (statuses_of inc e) (statuses_for inc es) (each-carries (status_to inc e.attempt) (other_members e) (λ t x r. refl)) (statuses-carry inc es)

-- ---- members

-- the Query for a Fetch that is parked
pub queries-carry : (ask : Message) (on : AttemptId) (leader : ℕ) → CarryNone (query_for ask on leader)
unfolding load
queries-carry ask on leader x r = refl

-- the Queries of idle work
pub inquiries-carry : (es : List Entry) (s : MemberOf) → CarryNone (inquired es s).freed.posts
unfolding inquired load
inquiries-carry es s = each-carries inquiry_for (to_inquire es s) (λ e x r. refl)

-- the client of a Fetch that waited is told that its attempt met one which isn't resolved
unresolved-carries : (a : AttemptId) (m : Message) (x : AttemptId) (r : Read) → total (post_load x r) (unresolved_told a m) ≤ load x r m
unresolved-carries a (message.Fetch y op group ep first tracker s snapshot) x r =
    let one = end-carries x y r s op group op group ep ep first tracker snapshot (outcome.Restart (Unresolved a)) in omega (arith, one)
unresolved-carries a m x r = omega arith

all-unresolved-carry : (a : AttemptId) (ps : List Parked) (x : AttemptId) (r : Read) → total (post_load x r) (all_unresolved_told a ps) ≤ total (parked_load x r) ps
all-unresolved-carry a [] x r = omega arith
all-unresolved-carry a (p ∷ ps) x r =
    let all = total-append (post_load x r) (unresolved_told a p.ask) (all_unresolved_told a ps) in
    let first = unresolved-carries a p.ask x r in
    let rest = all-unresolved-carry a ps x r in
    omega (arith, all, first, rest)

-- what a member's step leaves of the Fetches that waited: they are answered, tried again, or wait on
pub record FreesOnce (before after : MemberMemory) (posts : List Post) (again : List Message) (x : AttemptId) (r : Read) : Type 0 where
  pub once : total (post_load x r) posts + total (parked_load x r) after.parked + total (load x r) again ≤ total (parked_load x r) before.parked

quiet-frees : (before after : MemberMemory) (x : AttemptId) (r : Read) → after.parked ≡ before.parked → FreesOnce before after [] [] x r
quiet-frees before after x r same = record { once = let kept : total (parked_load x r) after.parked ≡ total (parked_load x r) before.parked = ap (total (parked_load x r)) same in omega (arith, kept) }

unresolved-frees : (a y : AttemptId) (s : MemberOf) (x : AttemptId) (r : Read) → FreesOnce s.memory (unresolved a y s).member.memory (unresolved a y s).freed.posts (unresolved a y s).freed.again x r
unfolding unresolved
unresolved-frees a y s x r = record {
  once =
      let parts = total-parts (parked_load x r) (is_waiting a y) s.memory.parked in
      let told = all-unresolved-carry a (filter (is_waiting a y) s.memory.parked) x r in
      omega (arith, parts, told);
}

resolved-frees : (a : AttemptId) (s : MemberOf) (x : AttemptId) (r : Read) → FreesOnce s.memory (resolved a s).member.memory (resolved a s).freed.posts (resolved a s).freed.again x r
resolved-frees a s x r = record {
  once =
      let parts = total-parts (parked_load x r) (is_parked_on a) s.memory.parked in
      let again = total-map (load x r) parked_ask (filter (is_parked_on a) s.memory.parked) in
      omega (arith, parts, again);
}

-- a Verdict
pub verdicts-free : (a : AttemptId) (ask : Option AttemptId) (v : Verdict) (s : MemberOf) (x : AttemptId) (r : Read)
    → FreesOnce s.memory (verdict_heard a ask v s).member.memory (verdict_heard a ask v s).freed.posts (verdict_heard a ask v s).freed.again x r
verdicts-free a ask verdict.Committed s x r = resolved-frees a s x r
verdicts-free a ask verdict.Aborted s x r = resolved-frees a s x r
verdicts-free a (Some y) verdict.Undecided s x r = unresolved-frees a y s x r
verdicts-free a None verdict.Undecided s x r = quiet-frees s.memory (verdict_heard a None verdict.Undecided s).member.memory x r refl

-- a Reset
pub resets-free : (down : Bool) (m : Message) (s : MemberOf) (x : AttemptId) (r : Read)
    → FreesOnce s.memory (reset_heard down m s).member.memory (reset_heard down m s).freed.posts (reset_heard down m s).freed.again x r
resets-free down (message.Query a (Some y)) s x r = unresolved-frees a y s x r
resets-free down (message.Query a None) s x r = quiet-frees s.memory (reset_heard down (message.Query a None) s).member.memory x r refl
resets-free down m s x r = quiet-frees s.memory s.memory x r refl
