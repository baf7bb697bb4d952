-- What a target that hears a message leaves of the rows of attempts, and that it tells ends of attempts that it leads.
use Rattle.std.specs.Prelude.{ℕ, ◌≡◌, ◌||◌, ◌++◌, Bool, true, false, List, [], ◌∷◌, filter, Option, Some, None, is_some, refl}
use Rattle.std.proofs.Common.{inl, inr, sym, ◌∙◌, ap, subst}
use Rattle.base_types.specs.declared.entry.Entry.{Entry}
use Rattle.base_types.specs.declared.entry.EntryState.{EntryState}
use Rattle.base_types.specs.declared.epoch.Epoch.{Epoch}
use Rattle.base_types.specs.declared.id.AttemptId.{AttemptId}
use Rattle.base_types.specs.declared.operation.MinorWrite.{MinorWrite}
use Rattle.base_types.specs.declared.outcome.Outcome.{Outcome}
use Rattle.base_types.specs.declared.outcome.Outcome.TheVariants as outcome
use Rattle.base_messages.specs.declared.actor.ActorId.{ActorId}
use Rattle.base_messages.specs.declared.message.Message.{Message, more_of-Message}
use Rattle.base_messages.specs.declared.message.Message.TheVariants as message
use Rattle.base_messages.specs.declared.message.Post.{Post}
use Rattle.daos_model.specs.declared.durable.Durable.{Durable}
use Rattle.daos_model.specs.Durables.{entry_of}
use Rattle.dtx_base.specs.declared.leading.Undecided.{Undecided}
use Rattle.dtx_base.specs.Leading.{LeaderOf, entry_led, knowing, reset_of, undecided_attempt}
use Rattle.dtx_base.specs.Rows.{is_among, row_of}
use Rattle.model_laws.specs.Members.{Has, has-cases, has-from_filter, has-map, has-right}
use Rattle.world_standing.specs.world_commit.attempts.Attempts.{entry_at, entry_in, is_known_in, leader_of, row_in}
use Rattle.world_standing.specs.world_commit.attempts.Counting.{has-taken}
use Rattle.world_standing.specs.world_commit.attempts.History.{History, Tells}
use Rattle.world_standing.specs.world_commit.attempts.Stored.{led-found, target-is}
use Rattle.world_base.specs.declared.did.Did.{Did}
use Rattle.world_base.specs.declared.target.TargetMemory.{TargetMemory}
use Rattle.world_base.specs.declared.target.TargetPlan.{TargetPlan}
use Rattle.world_base.specs.declared.world.World.{World}
use Rattle.world_base.specs.Acks as ack
use Rattle.world_base.specs.Changes.{Change, Kept, Steps}
use Rattle.world_base.specs.Commits as commit
use Rattle.world_base.specs.Events.{Rules, TargetHearsBy, TargetHearsRightly, kept, target_after, target_plan}
use Rattle.world_base.specs.Further.{CommitDown, HearsFurther, IsSpent, IsUnknown, reset_by}
use Rattle.world_base.specs.Letters.{letter_of, letters_of, target}
use Rattle.world_base.specs.MemoryLaws as memory
use Rattle.world_base.specs.PathLaws.{reached-keeps}
use Rattle.world_base.specs.RightTurns.{HearsRightly}
use Rattle.world_base.specs.Roles.{is_in_doubt, leader_at}
use Rattle.world_base.specs.Statuses.{status_refusal}
use Rattle.world_base.specs.TargetTurns.{commit_request, fetch_request, prepare_request}
use Rattle.world_base.specs.Turns.{Whole}
use Rattle.world_standing.specs.world_commit.fates.Asked.{AskedRight}
use Rattle.world_standing.specs.world_commit.fates.Facts.{Attempts, IsAckRight, IsRow, IsSaidSo, IsStateRight}
use Rattle.world_standing.specs.world_commit.fates.Lefts.{fetch-left, mark-answers, marked-left, query-answers, verdict-left}
use Rattle.world_standing.specs.world_commit.fates.Told.{silent_at}
use Rattle.world_standing.specs.world_commit.fates.Working.{ArePlain, mild-untold, plain-mild}
use Rattle.world_standing.specs.world_causes.outcomes.Premises.{AsksGoRight}
use Rattle.world_standing.specs.world_causes.outcomes.Telling.{ack-tells, commit-ends, end_to, post_to, silent-tells, single}
use Rattle.world_standing.specs.world_commit.requests.Rows.{commits-find}
use Rattle.world_standing.specs.world_commit.statuses.Fates.{tells_fate, told_by_it}
use Rattle.world_standing.specs.world_commit.statuses.Heard.{is_of_attempts}
use Rattle.world_standing.specs.world_letters.talks.LeaveLaws as leave
use Rattle.world_standing.specs.world_letters.talks.LeaveLaws.{AckIs, ToTargets}
use Rattle.world_standing.specs.world_letters.waits.Premises.{RequestsAreOfClients}
use Rattle.world_standing.specs.world_letters.waits.ResetTurns.{reset-is}
use Rattle.world_standing.specs.world_letters.waits.StopTurns.{nothing-changes}
use Rattle.world_legal.specs.doubts.Rows.{EndsGoToClients, HasRow, LeavesRows, NoneCommitted, ack-rows, ask-rows, commit-rows, left-untold, one-other, reset-rows, rows-same}

-- ---- what tells no ends

abbrev NoEnds : List Post → Type 0
NoEnds posts = (x : AttemptId) (own : Option Epoch) (how : Outcome) → Tells posts x own how → ⊥

none-of : (posts : List Post) → NoEnds posts → NoneCommitted posts
none-of posts none x own tells = none x own outcome.Committed tells

pub plain-untold : (posts : List Post) → ArePlain posts → (x : AttemptId) (own : Option Epoch) (how : Outcome) → Tells posts x own how → ⊥
plain-untold posts plain x own how tells = mild-untold posts (λ q i. plain-mild q.message (plain q i)) x own how tells

one-no_end : (posts : List Post) (to : ActorId) (m : Message) → posts ≡ post_to to m ∷ [] → ((x : AttemptId) (own : Option Epoch) (how : Outcome) → m ≡ message.Ended x own how → ⊥) → NoEnds posts
one-no_end posts to m sent off x own how tells = off x own how (single to m x own how (subst (λ ps. Tells ps x own how) sent tells))

targets-no_ends : (posts : List Post) → EndsGoToClients posts → ToTargets posts → NoEnds posts
targets-no_ends posts goes targets x own how tells =
    let bad : false ≡ true = sym (targets (end_to tells.to x own how) tells.sent).0 ∙ goes (end_to tells.to x own how) tells.sent refl in
    let no : ⊥ = cc in no

-- ---- an Ack, or what a member holds

abbrev FollowedSo : TargetPlan → TargetMemory → AttemptId → ack.AckStage → Type 0
FollowedSo p m a ack.Heard = Unit {0}
FollowedSo p m a (ack.Followed s) = (d : Durable) × AckIs a (leader_at p m d) s

ack-goes : (p : TargetPlan) (m : TargetMemory) (by-it : ℕ) (a : AttemptId) (inc : ℕ) (refusal : Option Outcome) (s : ack.AckStage) (k : Kept) (o : Option Change) (u : ack.AckStage) (l : Kept) → ack.AckNext p m by-it a inc refusal s k o u → Steps o k l → FollowedSo p m a s → FollowedSo p m a u
ack-goes p m by-it a inc refusal s k o u l (ack.Aborts k2 is) steps h = (k.durable, leave.ack-is by-it a inc refusal (leader_at p m k.durable))
ack-goes p m by-it a inc refusal s k o u l (ack.Counts k2 is) steps h = (k.durable, leave.ack-is by-it a inc refusal (leader_at p m k.durable))

ack-turn : (Leads : AttemptId → Type 0) (q : Message) (p : TargetPlan) (m : TargetMemory) (by-it : ℕ) (a : AttemptId) (inc : ℕ) (refusal : Option Outcome) (old new : Kept) (left : TargetMemory × Did) → Leads a → EndsGoToClients left.1.posts
    → Whole (ack.AckNext p m by-it a inc refusal) (ack.AckEnds m) ack.Heard old new left → LeavesRows Leads q m.leader.undecided left.0.leader.undecided left.1.posts
ack-turn Leads q p m by-it a inc refusal old new left lead goes w =
    ends w.last new left goes w.ends (reached-keeps (ack.AckNext p m by-it a inc refusal) (λ s k. FollowedSo p m a s) (ack-goes p m by-it a inc refusal) ack.Heard old w.last new w.reached tt)
  where
    ends : (s : ack.AckStage) (k : Kept) (o : TargetMemory × Did) → EndsGoToClients o.1.posts → ack.AckEnds m s k o → FollowedSo p m a s → LeavesRows Leads q m.leader.undecided o.0.leader.undecided o.1.posts
    ends s k o goes2 (ack.IsFollowed k2 step o2 says) h =
        subst (λ (z : TargetMemory × Did). LeavesRows Leads q m.leader.undecided z.0.leader.undecided z.1.posts) (sym says)
        (ack-rows Leads q a (leader_at p m h.0) step lead (subst EndsGoToClients (ap (λ (z : TargetMemory × Did). z.1.posts) says) goes2) h.1)

-- ---- a Commit with a member that is known to be down

down-turn : (Leads : AttemptId → Type 0) (q : Message) (t : TargetPlan) (m : TargetMemory) (reading : ℕ) (x : AttemptId) (ep first : Option Epoch) (tracker : Epoch) (ws : List MinorWrite) (from : ActorId) (s : commit.CommitStage) (k : Kept) (left : TargetMemory × Did)
    → CommitDown t m reading (commit_request x ep first tracker ws) from s k left → LeavesRows Leads q m.leader.undecided left.0.leader.undecided left.1.posts
down-turn Leads q t m reading x ep first tracker ws from s k left (IsSpent k2 e down left2 none known says) =
    rows-same Leads q m.leader.undecided left2.0.leader.undecided left2.1.posts (ap (λ o. o.0.leader.undecided) says)
    (subst NoneCommitted (sym (ap (λ (o : TargetMemory × Did). o.1.posts) says)) (one-other from (message.Ended x None outcome.EpochsSpent) (λ y own is. let no : ⊥ = cc in no)))
down-turn Leads q t m reading x ep first tracker ws from s k left (IsUnknown k2 e down left2 known says) =
    rows-same Leads q m.leader.undecided left2.0.leader.undecided left2.1.posts (ap (λ o. o.0.leader.undecided) says)
    (subst NoneCommitted (sym (ap (λ (o : TargetMemory × Did). o.1.posts) says)) (one-other from (message.Ended x (Some e) (outcome.Unknown down)) (λ y own is. let no : ⊥ = cc in no)))

-- what is told is of the attempt that is handed over
down-own : (t : TargetPlan) (m : TargetMemory) (reading : ℕ) (x : AttemptId) (ep first : Option Epoch) (tracker : Epoch) (ws : List MinorWrite) (from : ActorId) (s : commit.CommitStage) (k : Kept) (left : TargetMemory × Did)
    → CommitDown t m reading (commit_request x ep first tracker ws) from s k left → (y : AttemptId) (own : Option Epoch) (how : Outcome) → Tells left.1.posts y own how → y ≡ x
down-own t m reading x ep first tracker ws from s k left (IsSpent k2 e down left2 none known says) y own how tells =
    let said : message.Ended x None outcome.EpochsSpent ≡ message.Ended y own how = single from (message.Ended x None outcome.EpochsSpent) y own how (subst (λ (o : TargetMemory × Did). Tells o.1.posts y own how) says tells) in
    let same : x ≡ y = cc in
    sym same
down-own t m reading x ep first tracker ws from s k left (IsUnknown k2 e down left2 known says) y own how tells =
    let said : message.Ended x (Some e) (outcome.Unknown down) ≡ message.Ended y own how = single from (message.Ended x (Some e) (outcome.Unknown down)) y own how (subst (λ (o : TargetMemory × Did). Tells o.1.posts y own how) says tells) in
    let same : x ≡ y = cc in
    sym same

-- ---- a Reset

knowing-same : (t : ℕ) (down : Bool) (l : LeaderOf) → (knowing t down l).memory.undecided ≡ l.memory.undecided
knowing-same t true l = refl
knowing-same t false l = refl

reset-turn : (Leads : AttemptId → Type 0) (q : Message) (t : TargetPlan) (m : TargetMemory) (by-it : ℕ) (down : Bool) (place : _) (asked : Message) (rest : _) (k : Kept) → is_of_attempts (message.Reset' by-it down place (more_of-Message asked rest)) ≡ true
    → LeavesRows Leads q m.leader.undecided (reset_by t m by-it down asked k).0.leader.undecided (reset_by t m by-it down asked k).1.posts
reset-turn Leads q t m by-it down place (message.Freeze x c s) rest k ours = let no : ⊥ = cc in absurd no
reset-turn Leads q t m by-it down place (message.Prune x c tracker e) rest k ours = let no : ⊥ = cc in absurd no
reset-turn Leads q t m by-it down place asked rest k ours = record {
  rows = λ x at. inl (reset-rows x (leader_at t m k.durable) (reset_of by-it down asked (leader_at t m k.durable)) (reset-is by-it down asked (leader_at t m k.durable)) (subst (HasRow x) (knowing-same by-it down (reset_of by-it down asked (leader_at t m k.durable)).leader) at));
  led = λ x own tells. absurd (untold x own tells);
  told = λ x own tells at. untold x own tells;
}
  where
    untold : NoneCommitted (reset_by t m by-it down asked k).1.posts
    untold = left-untold t m by-it down asked k

-- ---- a message is heard

module _ (r : Rules) (h : History) (w v : World) (k : Attempts r h w) (right : AskedRight r h w) (asks : AsksGoRight r w) (from : RequestsAreOfClients v) where
  -- what is sent to somebody is in flight then
  goes-to : (t : ℕ) (rest : List _) (posts : List Post) → v.messages ≡ rest ++ letters_of (target t) posts → EndsGoToClients posts
  goes-to t rest posts messages q i is =
      (from.letters (letter_of (target t) q) (subst (Has (letter_of (target t) q)) (sym messages) (has-right rest (letters_of (target t) posts) (letter_of (target t) q) (has-map (letter_of (target t)) posts q i)))).end is

  -- ---- as without stops

  module _ (g : TargetHearsRightly r w v) where
    abbrev Turn : Message → Type 0
    Turn m = HearsRightly (target_plan r g.t) g.s.opening g.s.memory g.reading g.l.from m (kept g.s) g.new (g.memory, g.did)

    abbrev Leads : AttemptId → Type 0
    Leads x = g.t ≡ leader_of r x

    abbrev Leaves : Message → Type 0
    Leaves m = LeavesRows Leads m g.s.memory.leader.undecided g.memory.leader.undecided g.did.posts

    flies : Has g.l w.messages
    flies = has-taken w.messages g.l g.rest g.takes

    goes : EndsGoToClients g.did.posts
    goes = goes-to g.t g.rest g.did.posts (ap (λ u. u.messages) g.after)

    same-rows : (m : Message) → g.memory.leader.undecided ≡ g.s.memory.leader.undecided → NoEnds g.did.posts → Leaves m
    same-rows m same none = rows-same Leads m g.s.memory.leader.undecided g.memory.leader.undecided g.did.posts same (none-of g.did.posts none)

    plain : ArePlain g.did.posts → NoEnds g.did.posts
    plain are x own how tells = plain-untold g.did.posts are x own how tells

    ack-lead : (a : AttemptId) (inc : ℕ) (refusal : Option Outcome) → g.l.message ≡ message.Ack a inc refusal → g.t ≡ leader_of r a
    ack-lead a inc refusal is =
        let says : IsAckRight r h w g.l.from g.l.to a inc refusal = subst (IsSaidSo r h w g.l.from g.l.to) is (k.on.letters g.l flies) in
        target-is g.t (leader_of r a) (sym g.to_it ∙ says.way.receiver)

    -- which of them tell no ends
    fetch-none : (x : AttemptId) (op group : ℕ) (ep first : Option Epoch) (tracker : Epoch) (rd : _) (snapshot : Bool) → g.l.message ≡ message.Fetch x op group ep first tracker rd snapshot → Turn (message.Fetch x op group ep first tracker rd snapshot) → NoEnds g.did.posts
    fetch-none x op group ep first tracker rd snapshot is turn = plain (fetch-left r h w v k.on g x op group ep first tracker rd snapshot is turn).plain

    prepare-none : (e : Entry) (first : Option Epoch) (ws : List MinorWrite) (inc : ℕ) → Turn (message.Prepare e first ws inc) → NoEnds g.did.posts
    prepare-none e first ws inc turn = targets-no_ends g.did.posts goes (leave.prepare-leaves (target_plan r g.t) g.s.opening g.s.memory (prepare_request e first ws inc) turn.last g.new (g.memory, g.did) turn.ends).0

    pub rightly-rows : (m : Message) → g.l.message ≡ m → Turn m → Leaves m
    rightly-rows (message.Fetch x op group ep first tracker rd snapshot) is turn =
        same-rows (message.Fetch x op group ep first tracker rd snapshot) (memory.fetch-leaves (target_plan r g.t) g.s.memory g.reading (fetch_request x op group ep first tracker rd snapshot) g.l.from turn.last g.new (g.memory, g.did) turn.ends).leads.undecided
        (fetch-none x op group ep first tracker rd snapshot is turn)
    rightly-rows (message.Commit x ep first tracker ws) is turn =
        commit-rows Leads (commit_request x ep first tracker ws) g.l.from g.s.memory (g.memory, g.did) (target-is g.t (leader_of r x) (sym g.to_it ∙ (right.commits g.l x ep first tracker ws flies is).receiver)) (ap (λ o. row_in o x) (sym g.here) ∙ commits-find r h w k right g.l x ep first tracker ws g.t flies is g.to_it) goes
        (leave.commit-leaves (target_plan r g.t) g.s.opening g.s.memory g.reading (commit_request x ep first tracker ws) g.l.from turn.last g.new (g.memory, g.did) turn.ends)
    rightly-rows (message.Prepare e first ws inc) is turn =
        same-rows (message.Prepare e first ws inc) (ap (λ z. z.leader.undecided) (memory.prepare-leaves (target_plan r g.t) g.s.opening g.s.memory (prepare_request e first ws inc) turn.last g.new (g.memory, g.did) turn.ends))
        (prepare-none e first ws inc turn)
    rightly-rows (message.Ack x inc refusal) is turn = ack-turn Leads (message.Ack x inc refusal) (target_plan r g.t) g.s.memory g.l.from.number x inc refusal (kept g.s) g.new (g.memory, g.did) (ack-lead x inc refusal is) goes turn
    rightly-rows (message.Mark inc marks) is turn =
        same-rows (message.Mark inc marks) (ap (λ z. z.leader.undecided) (memory.mark-leaves g.s.memory g.l.from inc marks turn.last g.new (g.memory, g.did) turn.ends))
        (one-no_end g.did.posts _ _ (mark-answers r h w v k.on g inc marks is turn).sent (λ x own how says. let no : ⊥ = cc in no))
    rightly-rows (message.Marked inc ids) is turn =
        same-rows (message.Marked inc ids) (memory.marked-leaves (target_plan r g.t) g.s.memory g.l.from.number inc ids turn.last g.new (g.memory, g.did) turn.ends).undecided (plain (marked-left r h w v k.on g inc ids is turn).plain)
    rightly-rows (message.Query x ask) is turn =
        same-rows (message.Query x ask) (ap (λ z. z.leader.undecided) (memory.query-leaves (target_plan r g.t) g.s.memory g.l.from x ask turn.last g.new (g.memory, g.did) turn.ends))
        (one-no_end g.did.posts _ _ (query-answers r h w v k.on g x ask is turn).sent (λ y own how says. let no : ⊥ = cc in no))
    rightly-rows (message.Verdict x ask inc c) is turn =
        same-rows (message.Verdict x ask inc c) (memory.verdict-leaves (is_in_doubt (target_plan r g.t).me) (target_plan r g.t) g.s.memory g.reading x ask c (kept g.s) g.new (g.memory, g.did) turn).0.leads.undecided
        (plain (verdict-left r h w v k.on g x ask inc c is turn).plain)
    rightly-rows m is turn = absurd turn

    -- ---- what it tells is of attempts that it leads

    abbrev Own : List Post → Type 0
    Own posts = (x : AttemptId) (own : Option Epoch) (how : Outcome) → Tells posts x own how → g.t ≡ leader_of r x

    no-own : (posts : List Post) → NoEnds posts → Own (posts ++ [])
    no-own posts none x own how tells = elim (has-cases posts [] (end_to tells.to x own how) tells.sent) [ inl j ↦ absurd (none x own how (record { to = tells.to; sent = j })) | inr j ↦ absurd j ]

    commit-own : (x : AttemptId) (ep first : Option Epoch) (tracker : Epoch) (ws : List MinorWrite) → g.l.message ≡ message.Commit x ep first tracker ws → Turn (message.Commit x ep first tracker ws) → Own (g.did.posts ++ [])
    commit-own x ep first tracker ws is turn y own how tells = elim (has-cases g.did.posts [] (end_to tells.to y own how) tells.sent) [
      | inl j ↦
          let same = (commit-ends (target_plan r g.t) g.s.opening g.s.memory g.reading (commit_request x ep first tracker ws) g.l.from turn.last g.new (g.memory, g.did) turn.ends y own how (record { to = tells.to; sent = j })).same in
          target-is g.t (leader_of r y) (sym g.to_it ∙ subst (λ z. g.l.to ≡ target (leader_of r z)) (sym same) (right.commits g.l x ep first tracker ws flies is).receiver)
      | inr j ↦ absurd j
    ]

    ack-own : (a : AttemptId) (inc : ℕ) (refusal : Option Outcome) → g.l.message ≡ message.Ack a inc refusal → Turn (message.Ack a inc refusal) → Own (g.did.posts ++ silent_at g.s (target_after g.s g.new g.memory) (message.Ack a inc refusal))
    ack-own a inc refusal is turn x own how tells = subst (λ y. g.t ≡ leader_of r y) (sym same) (ack-lead a inc refusal is)
      where
        same : x ≡ a
        same = elim (has-cases g.did.posts (silent_at g.s (target_after g.s g.new g.memory) (message.Ack a inc refusal)) (end_to tells.to x own how) tells.sent) [
          | inl j ↦ (ack-tells (target_plan r g.t) g.s.memory g.l.from.number a inc refusal (kept g.s) g.new turn.last (g.memory, g.did) turn.reached turn.ends x own how (record { to = tells.to; sent = j })).end.same
          | inr j ↦ (silent-tells a refusal (entry_of g.s.durable a) (is_among a g.s.memory.leader.decided) (is_among a g.memory.leader.decided) (is_some (entry_of g.new.durable a)) x own how (record { to = tells.to; sent = j })).end.same
        ]

    pub rightly-own : (m : Message) → g.l.message ≡ m → Turn m → Own (g.did.posts ++ silent_at g.s (target_after g.s g.new g.memory) m)
    rightly-own (message.Fetch x op group ep first tracker rd snapshot) is turn = no-own g.did.posts (fetch-none x op group ep first tracker rd snapshot is turn)
    rightly-own (message.Commit x ep first tracker ws) is turn = commit-own x ep first tracker ws is turn
    rightly-own (message.Prepare e first ws inc) is turn = no-own g.did.posts (prepare-none e first ws inc turn)
    rightly-own (message.Ack x inc refusal) is turn = ack-own x inc refusal is turn
    rightly-own (message.Mark inc marks) is turn = no-own g.did.posts (one-no_end g.did.posts _ _ (mark-answers r h w v k.on g inc marks is turn).sent (λ x own how says. let no : ⊥ = cc in no))
    rightly-own (message.Marked inc ids) is turn = no-own g.did.posts (plain (marked-left r h w v k.on g inc ids is turn).plain)
    rightly-own (message.Query x ask) is turn = no-own g.did.posts (one-no_end g.did.posts _ _ (query-answers r h w v k.on g x ask is turn).sent (λ y own how says. let no : ⊥ = cc in no))
    rightly-own (message.Verdict x ask inc c) is turn = no-own g.did.posts (plain (verdict-left r h w v k.on g x ask inc c is turn).plain)
    rightly-own m is turn = absurd turn

  -- ---- after stops

  module _ (number : ℕ) (g : TargetHearsBy (HearsFurther number) r w v) where
    abbrev More : Message → Type 0
    More m = HearsFurther number (target_plan r g.t) g.s.opening g.s.memory g.reading g.l.from m (kept g.s) g.new (g.memory, g.did)

    abbrev Leading : AttemptId → Type 0
    Leading x = g.t ≡ leader_of r x

    abbrev Left : Message → Type 0
    Left m = LeavesRows Leading m g.s.memory.leader.undecided g.memory.leader.undecided g.did.posts

    abbrev LeftBy : Message → TargetMemory × Did → Type 0
    LeftBy m z = LeavesRows Leading m g.s.memory.leader.undecided z.0.leader.undecided z.1.posts

    flown : Has g.l w.messages
    flown = has-taken w.messages g.l g.rest g.takes

    state-lead : (a : AttemptId) (inc : ℕ) (how : EntryState) → g.l.message ≡ message.StatusIs a inc how → g.t ≡ leader_of r a
    state-lead a inc how is =
        let says : IsStateRight r h w g.l.from g.l.to a inc how = subst (IsSaidSo r h w g.l.from g.l.to) is (k.on.letters g.l flown) in
        target-is g.t (leader_of r a) (sym g.to_it ∙ says.way.receiver)

    -- an attempt with a row isn't settled
    unsettled : (x : AttemptId) (e : Entry) (u : Undecided) → entry_led x (leader_at (target_plan r g.t) g.s.memory g.s.durable) ≡ Some e → row_of undecided_attempt x g.s.memory.leader.undecided ≡ Some u → (e.committed || is_among x g.s.memory.leader.decided) ≡ false
    unsettled x e u led row = ap (λ b. b || is_among x g.s.memory.leader.decided) (ap (λ z. z.committed) same ∙ is.here.prepared) ∙ (ap (λ o. is_known_in o x) (sym g.here) ∙ is.unknown)
      where
        is : IsRow r w x g.t u
        is = (k.on.each x).rows.undecided g.t u (ap (λ o. row_in o x) g.here ∙ row)

        same : e ≡ is.here.entry
        same =
            let found : entry_at w g.t x ≡ Some e = ap (λ o. entry_in o x) g.here ∙ (led-found (target_plan r g.t) g.s.memory g.s.durable x e (k.on.ordered g.t g.s g.here).entries led).0 in
            let both : Some e ≡ Some is.here.entry = sym found ∙ is.here.found in
            cc

    pub further-rows : (m : Message) → g.l.message ≡ m → is_of_attempts m ≡ true → More m → Left m
    further-rows (message.Commit x ep first tracker ws) is ours turn = down-turn Leading (message.Commit x ep first tracker ws) (target_plan r g.t) g.s.memory g.reading x ep first tracker ws g.l.from turn.last g.new (g.memory, g.did) turn.ends
    further-rows (message.Ask x) is ours turn =
        subst (LeftBy (message.Ask x)) (sym (nothing-changes (kept g.s) g.new (g.memory, g.did) turn).1) (ask-rows Leading (message.Ask x) x g.l.from (leader_at (target_plan r g.t) g.s.memory g.s.durable) (target-is g.t (leader_of r x) (sym g.to_it ∙ asks g.l x flown is)) (unsettled x))
    further-rows (message.Status x inc) is ours turn =
        subst (LeftBy (message.Status x inc)) (sym (nothing-changes (kept g.s) g.new (g.memory, g.did) turn).1)
        (rows-same Leading (message.Status x inc) g.s.memory.leader.undecided g.s.memory.leader.undecided _ refl (one-other g.l.from (message.StatusIs x inc _) (λ y own says. let no : ⊥ = cc in no)))
    further-rows (message.StatusIs x inc how) is ours turn =
        ack-turn Leading (message.StatusIs x inc how) (target_plan r g.t) g.s.memory g.l.from.number x inc (status_refusal x how) (kept g.s) g.new (g.memory, g.did) (state-lead x inc how is) (goes-to g.t g.rest g.did.posts (ap (λ u. u.messages) g.after)) turn
    further-rows (message.Reset' by-it down place (more_of-Message asked rest)) is ours turn =
        subst (LeftBy (message.Reset' by-it down place (more_of-Message asked rest))) (sym (nothing-changes (kept g.s) g.new (g.memory, g.did) turn).1)
        (reset-turn Leading (message.Reset' by-it down place (more_of-Message asked rest)) (target_plan r g.t) g.s.memory by-it down place asked rest (kept g.s) ours)
    further-rows (message.Snap x c called tracker) is ours turn = let no : ⊥ = cc in absurd no
    further-rows (message.Freeze x c s) is ours turn = let no : ⊥ = cc in absurd no
    further-rows (message.Held x refusal) is ours turn = let no : ⊥ = cc in absurd no
    further-rows (message.Prune x c tracker e) is ours turn = let no : ⊥ = cc in absurd no
    further-rows m is ours turn = absurd turn

    abbrev Owns : List Post → Type 0
    Owns posts = (x : AttemptId) (own : Option Epoch) (how : Outcome) → Tells posts x own how → g.t ≡ leader_of r x

    handed-own : (x : AttemptId) (ep first : Option Epoch) (tracker : Epoch) (ws : List MinorWrite) → g.l.message ≡ message.Commit x ep first tracker ws → More (message.Commit x ep first tracker ws) → Owns (filter tells_fate g.did.posts)
    handed-own x ep first tracker ws is turn y own how tells =
        let same = down-own (target_plan r g.t) g.s.memory g.reading x ep first tracker ws g.l.from turn.last g.new (g.memory, g.did) turn.ends y own how (record { to = tells.to; sent = (has-from_filter tells_fate g.did.posts (end_to tells.to y own how) tells.sent).0 }) in
        target-is g.t (leader_of r y) (sym g.to_it ∙ subst (λ z. g.l.to ≡ target (leader_of r z)) (sym same) (right.commits g.l x ep first tracker ws flown is).receiver)

    state-own : (a : AttemptId) (inc : ℕ) (how : EntryState) → g.l.message ≡ message.StatusIs a inc how → More (message.StatusIs a inc how) → Owns (g.did.posts ++ silent_at g.s (target_after g.s g.new g.memory) (message.StatusIs a inc how))
    state-own a inc how is turn x own end tells = subst (λ y. g.t ≡ leader_of r y) (sym same) (state-lead a inc how is)
      where
        same : x ≡ a
        same = elim (has-cases g.did.posts (silent_at g.s (target_after g.s g.new g.memory) (message.StatusIs a inc how)) (end_to tells.to x own end) tells.sent) [
          | inl j ↦ (ack-tells (target_plan r g.t) g.s.memory g.l.from.number a inc (status_refusal a how) (kept g.s) g.new turn.last (g.memory, g.did) turn.reached turn.ends x own end (record { to = tells.to; sent = j })).end.same
          | inr j ↦ (silent-tells a (status_refusal a how) (entry_of g.s.durable a) (is_among a g.s.memory.leader.decided) (is_among a g.memory.leader.decided) (is_some (entry_of g.new.durable a)) x own end (record { to = tells.to; sent = j })).end.same
        ]

    pub further-own : (m : Message) → g.l.message ≡ m → More m → Owns (told_by_it m g.s (target_after g.s g.new g.memory) g.did.posts)
    further-own (message.Commit x ep first tracker ws) is turn = handed-own x ep first tracker ws is turn
    further-own (message.StatusIs x inc how) is turn = state-own x inc how is turn
    further-own m is turn = λ x own end tells. absurd tells.sent
