-- What a target that hears of stops names and parks: a Reset, a Status or the answer to it, an Ask, or a Commit with a member that is down.
use Rattle.std.specs.Prelude.{ℕ, ◌≡◌, ◌⊎◌, ◌==◌, Bool, true, false, not, ◌||◌, List, [], ◌∷◌, map, Option, Some, None, refl, if◌then◌else◌}
use Rattle.std.proofs.Common.{sym, ◌∙◌, ap, subst, inl, inr}
use Rattle.base_types.specs.declared.entry.Entry.{Entry}
use Rattle.base_types.specs.declared.entry.Verdict.TheVariants.{Undecided as Undecided_verdict}
use Rattle.base_types.specs.declared.epoch.Epoch.{Epoch}
use Rattle.base_types.specs.declared.id.AttemptId.{AttemptId}
use Rattle.base_types.specs.declared.outcome.FloorWhy.{FloorWhy}
use Rattle.base_types.specs.declared.outcome.Outcome.TheVariants.{Committed}
use Rattle.model_laws.specs.Members.{Has, has-cases, has-from_filter, has-from_map, has-left}
use Rattle.base_messages.specs.declared.actor.ActorId.{ActorId}
use Rattle.base_messages.specs.declared.message.Message.{Message, more_of-Message}
use Rattle.base_messages.specs.declared.message.Message.TheVariants as message
use Rattle.dtx_base.specs.declared.leading.Naming.{Naming}
use Rattle.dtx_base.specs.declared.leading.Undecided.{Undecided}
use Rattle.dtx_base.specs.declared.member.Parked.{Parked}
use Rattle.dtx_base.specs.Asking.{ask_heard, asked_of, asked_open, tells_end}
use Rattle.dtx_base.specs.Joining as member
use Rattle.dtx_base.specs.Joining.{MemberOf, asker, is_not_waiting, unresolved}
use Rattle.dtx_base.specs.Leading.{LeaderOf, LeaderStep, answered, attempts_of, down_told, entry_led, first_down, is_not_named_in, knowing, mark_reset, naming, prepare_reset, quietly, reset_heard, reset_of, status_asked, to_target, undecided_of}
use Rattle.dtx_base.specs.Rows.{is_among}
use Rattle.world_commit.specs.asks.NamedLaws.{IsMarkPost, IsNewlyNamed, acks-names, answered-goes}
use Rattle.world_commit.specs.asks.ParkedLaws.{ParksAfter, waiting-open}
use Rattle.world_commit.specs.questions.Facts.{IsMarkFor}
use Rattle.world_base.specs.declared.did.Did.{Did}
use Rattle.world_base.specs.declared.target.TargetMemory.{TargetMemory}
use Rattle.world_base.specs.declared.target.TargetPlan.{TargetPlan}
use Rattle.world_base.specs.Changes.{Kept}
use Rattle.world_base.specs.Commits as commit
use Rattle.world_base.specs.Further.{CommitDown, HearsFurther, IsSpent, IsUnknown, reset_by}
use Rattle.world_base.specs.MemoryLaws.{ack-leaves}
use Rattle.world_base.specs.Roles.{leader_at, member_at}
use Rattle.world_base.specs.Statuses.{AtOnce, EndsAs, IsDone, ask_left, reset_joins, reset_leads, reset_left, status_left, status_refusal}
use Rattle.world_base.specs.TargetTurns.{commit_request}

-- ---- which messages these are

-- a message asks for a snapshot or an aggregation
abbrev pub is_of_collections : Message → Bool
is_of_collections (message.Freeze x c s) = true
is_of_collections (message.Prune x c tracker e) = true
is_of_collections m = false

-- a message of stops: one that a target hears that may go on after others stopped
abbrev pub is_of_stops : Message → Bool
is_of_stops (message.Commit x ep first tracker ws) = true
is_of_stops (message.Ask x) = true
is_of_stops (message.Status x inc) = true
is_of_stops (message.StatusIs x inc how) = true
is_of_stops (message.Reset' by down place (more_of-Message q rest)) = not (is_of_collections q)
is_of_stops m = false

-- ---- a Reset, to a leader

-- a message isn't the Reset of the Mark that named an attempt so
abbrev pub IsNotLost : Naming → Message → Type 0
IsNotLost n (message.Reset' by down place (more_of-Message q rest)) = by ≡ n.member → IsMarkFor n q → ⊥
IsNotLost n m = Unit {0}

-- what is named after a step was named before and isn't lost, or is sent in it
abbrev NamesStill : ℕ → Message → LeaderOf → LeaderStep → Type 0
NamesStill by q l s = (n : Naming) → Has n s.leader.memory.named → (Has n l.memory.named × (by ≡ n.member → IsMarkFor n q → ⊥)) ⊎ IsNewlyNamed s.posts n

down-names : (t : ℕ) (a : AttemptId) (e : Option Entry) (u : Option Undecided) (l : LeaderOf) → (down_told t a e u l).leader.memory.named ≡ l.memory.named
down-names t a None u l = refl
down-names t a (Some e) None l = refl
down-names t a (Some e) (Some u) l = refl

status-names : (t : ℕ) (a : AttemptId) (inc : ℕ) (l : LeaderOf) → (status_asked t a inc l).leader.memory.named ≡ l.memory.named
status-names t a inc l = by (inc == l.incarnation)
  where
    by : (b : Bool) → (if b then record { leader = l; posts = to_target t (message.Status a inc) ∷ [] } else quietly l).leader.memory.named ≡ l.memory.named
    by true = refl
    by false = refl

prepare-names : (t : ℕ) (down : Bool) (a : AttemptId) (inc : ℕ) (l : LeaderOf) → (prepare_reset t down a inc l).leader.memory.named ≡ l.memory.named
unfolding prepare_reset
prepare-names t true a inc l = down-names t a (entry_led a l) (undecided_of a l) l
prepare-names t false a inc l = status-names t a inc l

-- what a Mark named that is lost is named no more
gone-names : (t inc : ℕ) (marks : List (AttemptId × Bool)) (named : List Naming) (n : Naming) → Has n (answered t inc (attempts_of marks) named) → Has n named × (t ≡ n.member → IsMarkFor n (message.Mark inc marks) → ⊥)
gone-names t inc marks named n i = (
  (has-from_filter (is_not_named_in t inc (attempts_of marks)) named n i).0,
  λ same k.
      let inc_same : n.inc ≡ inc = own k.marks k.mark in
      let list : k.marks ≡ marks = all k.marks k.mark in
      answered-goes t inc (attempts_of marks) named n i (sym same) inc_same (subst (λ ms. Has n.attempt (attempts_of ms)) list k.names),
)
  where
    own : (ms : List (AttemptId × Bool)) → message.Mark inc marks ≡ message.Mark n.inc ms → n.inc ≡ inc
    own ms is = cc

    all : (ms : List (AttemptId × Bool)) → message.Mark inc marks ≡ message.Mark n.inc ms → ms ≡ marks
    all ms is = cc

mark-names : (t : ℕ) (down : Bool) (inc : ℕ) (marks : List (AttemptId × Bool)) (l : LeaderOf) → NamesStill t (message.Mark inc marks) l (mark_reset t down inc marks l)
unfolding mark_reset
mark-names t true inc marks l n i = inl (gone-names t inc marks l.memory.named n i)
mark-names t false inc marks l n i = elim (has-cases (answered t inc (attempts_of marks) l.memory.named) (map (naming t inc) (attempts_of marks)) n i) [
  | inl old ↦ inl (gone-names t inc marks l.memory.named n old)
  | inr new ↦
      let a = has-from_map (naming t inc) (attempts_of marks) n new in
      inr (to_target t (message.Mark inc marks), inl refl, subst (λ z. IsMarkPost z (to_target t (message.Mark inc marks))) a.2 (record { marks = marks; message = refl; to = refl; names = a.1 }))
]

no-mark : (n : Naming) (q : Message) → ((inc : ℕ) (marks : List (AttemptId × Bool)) → q ≡ message.Mark inc marks → ⊥) → IsMarkFor n q → ⊥
no-mark n q none k = none n.inc k.marks k.mark

lost-names : (by : ℕ) (down : Bool) (q : Message) (l : LeaderOf) → NamesStill by q l (reset_of by down q l)
lost-names by down (message.Mark inc marks) l n i = mark-names by down inc marks l n i
lost-names by down (message.Prepare e first ws inc) l n i = inl (subst (Has n) (prepare-names by down e.attempt inc l) i, λ same. no-mark n (message.Prepare e first ws inc) (λ j ms is. let no : ⊥ = cc in no))
lost-names by down (message.Status a inc) l n i = inl (subst (Has n) (prepare-names by down a inc l) i, λ same. no-mark n (message.Status a inc) (λ j ms is. let no : ⊥ = cc in no))
lost-names by down q l n i = inl (i, λ same. no-mark n q (λ j ms is. let no : ⊥ = cc in no))

known-names : (by : ℕ) (down : Bool) (l : LeaderOf) → (knowing by down l).memory.named ≡ l.memory.named
known-names by true l = refl
known-names by false l = refl

reset-names : (by : ℕ) (down : Bool) (q : Message) (l : LeaderOf) → NamesStill by q l (reset_heard by down q l)
reset-names by down q l n i = lost-names by down q l n (subst (Has n) (known-names by down (reset_of by down q l).leader) i)

-- ---- such a turn

-- a turn without a change leaves what it ends as
pub ends-as : (left_by : Kept → TargetMemory × Did) (s : AtOnce) (k : Kept) (left : TargetMemory × Did) → EndsAs left_by s k left → left ≡ left_by k
ends-as left_by s k left (IsDone k2 left2 is) = is

-- a Reset of what leaders and members ask
pub reset-plain : (t : TargetPlan) (m : TargetMemory) (by : ℕ) (down : Bool) (q : Message) (k : Kept) → not (is_of_collections q) ≡ true → reset_by t m by down q k ≡ reset_left t m by down q k
reset-plain t m by down (message.Freeze x c s) k ours = let no : ⊥ = cc in absurd no
reset-plain t m by down (message.Prune x c tracker e) k ours = let no : ⊥ = cc in absurd no
reset-plain t m by down q k ours = refl

-- ---- what is named after such a turn

abbrev pub NamesOn : TargetMemory → Message → TargetMemory × Did → Type 0
NamesOn m q left = (n : Naming) → Has n left.0.leader.named → (Has n m.leader.named × IsNotLost n q) ⊎ IsNewlyNamed left.1.posts n

names-as : (m : TargetMemory) (q : Message) (left : TargetMemory × Did) → left.0.leader.named ≡ m.leader.named → ((n : Naming) → IsNotLost n q) → NamesOn m q left
names-as m q left same all n i = inl (subst (Has n) same i, all n)

pub commit-knows : (t : TargetPlan) (m : TargetMemory) (reading : ℕ) (x : AttemptId) (ep first : Option Epoch) (tracker : Epoch) (ws : List _) (from : ActorId) (s : commit.CommitStage) (k : Kept) (left : TargetMemory × Did)
    → CommitDown t m reading (commit_request x ep first tracker ws) from s k left → (left.0.leader ≡ m.leader) × (left.0.member ≡ m.member)
commit-knows t m reading x ep first tracker ws from s k left (IsSpent k2 e down left2 none known is) = (ap (λ y. y.0.leader) is, ap (λ y. y.0.member) is)
commit-knows t m reading x ep first tracker ws from s k left (IsUnknown k2 e down left2 known is) = (ap (λ y. y.0.leader) is, ap (λ y. y.0.member) is)

ask-names : (x : AttemptId) (from : ActorId) (l : LeaderOf) → (ask_heard x from l).leader.memory.named ≡ l.memory.named
unfolding ask_heard
ask-names x from l = by (entry_led x l) (is_among x l.memory.decided)
  where
    open' : (e : Entry) (o : Option ℕ) → (asked_open x from e o l).leader.memory.named ≡ l.memory.named
    open' e None = refl
    open' e (Some down) = refl

    known : (e : Entry) (b : Bool) → (if b then record { leader = l; posts = tells_end from x (Some e.epoch) Committed } else asked_open x from e (first_down e.members l.memory.down) l).leader.memory.named ≡ l.memory.named
    known e true = refl
    known e false = open' e (first_down e.members l.memory.down)

    by : (e : Option Entry) (decided : Bool) → (asked_of x from e decided l).leader.memory.named ≡ l.memory.named
    by None decided = refl
    by (Some e) decided = known e (e.committed || decided)

-- a message of stops that a target hears
pub more-names : (number : ℕ) (t : TargetPlan) (opening : Epoch × FloorWhy) (m : TargetMemory) (reading : ℕ) (from : ActorId) (q : Message) (old new : Kept) (left : TargetMemory × Did)
    → is_of_stops q ≡ true → HearsFurther number t opening m reading from q old new left → NamesOn m q left
more-names number t opening m reading from (message.Commit x ep first tracker ws) old new left ours h =
    names-as m (message.Commit x ep first tracker ws) left (ap (λ l. l.named) (commit-knows t m reading x ep first tracker ws from h.last new left h.ends).0) (λ n. tt)
more-names number t opening m reading from (message.Ask x) old new left ours h =
    names-as m (message.Ask x) left (ap (λ z. z.0.leader.named) (ends-as (ask_left t m from x) h.last new left h.ends) ∙ ask-names x from (leader_at t m new.durable)) (λ n. tt)
more-names number t opening m reading from (message.Status x inc) old new left ours h = names-as m (message.Status x inc) left (ap (λ z. z.0.leader.named) (ends-as (status_left m from x inc) h.last new left h.ends)) (λ n. tt)
more-names number t opening m reading from (message.StatusIs x inc how) old new left ours h = λ n i. elim (acks-names t m from.number x inc (status_refusal x how) old new left h n i) [ inl k ↦ inl (k.0, tt) | inr k ↦ inr k ]
more-names number t opening m reading from (message.Reset' by down place (more_of-Message q rest)) old new left ours h =
    subst (NamesOn m (message.Reset' by down place (more_of-Message q rest))) (sym (ends-as (reset_by t m by down q) h.last new left h.ends ∙ reset-plain t m by down q new ours))
    (λ n i. elim (reset-names by down q (leader_at t m new.durable) n i) [
      | inl k ↦ inl k
      | inr k ↦ inr (k.0, has-left (reset_leads t m by down q new).posts (reset_joins t m down q).freed.posts k.0 k.1, k.2)
    ])
more-names number t opening m reading from q old new left ours h = let no : ⊥ = cc in absurd no

-- ---- what waits after such a turn

-- a message isn't the Reset of such a question
abbrev pub IsNotBack : AttemptId → Option AttemptId → Message → Type 0
IsNotBack x ask (message.Reset' by down place (more_of-Message q rest)) = q ≡ message.Query x ask → ⊥
IsNotBack x ask m = Unit {0}

abbrev pub WaitsOn : Message → Parked → Type 0
WaitsOn q p = (of : AttemptId) → asker p.ask ≡ Some of → IsNotBack p.on (Some of) q

-- what waits after a step of a member waited before, and its question isn't lost
abbrev ParksStill : Message → MemberOf → List Parked → Type 0
ParksStill q s after = (p : Parked) → Has p after → Has p s.memory.parked × ((of : AttemptId) → asker p.ask ≡ Some of → q ≡ message.Query p.on (Some of) → ⊥)

query-parks : (down : Bool) (a : AttemptId) (ask : Option AttemptId) (s : MemberOf) → ParksStill (message.Query a ask) s (member.query_reset down a ask s).member.memory.parked
unfolding unresolved
query-parks down a (Some x) s p i =
    let k = waiting-open a x 0 Undecided_verdict s.memory.parked p i in
    (k.0, λ of fetch is. k.1 of fetch (on of is) (asks of is))
  where
    on : (of : AttemptId) → message.Query a (Some x) ≡ message.Query p.on (Some of) → p.on ≡ a
    on of is = cc

    asks : (of : AttemptId) → message.Query a (Some x) ≡ message.Query p.on (Some of) → Some of ≡ Some x
    asks of is = cc
query-parks down a None s p i = (i, λ of fetch is. let no : ⊥ = cc in no)

reset-parks : (down : Bool) (q : Message) (s : MemberOf) → ParksStill q s (member.reset_heard down q s).member.memory.parked
reset-parks down (message.Query a ask) s p i = query-parks down a ask s p i
reset-parks down q s p i = (i, λ of fetch is. let no : ⊥ = cc in no)

parks-as : (m : TargetMemory) (q : Message) (left : TargetMemory × Did) → left.0.member.parked ≡ m.member.parked → ((x : AttemptId) (ask : Option AttemptId) → IsNotBack x ask q) → ParksAfter m.member.parked (WaitsOn q) left.0 left.1.posts
parks-as m q left same all p i = inl (subst (Has p) same i, λ of fetch. all p.on (Some of))

pub more-parks : (number : ℕ) (t : TargetPlan) (opening : Epoch × FloorWhy) (m : TargetMemory) (reading : ℕ) (from : ActorId) (q : Message) (old new : Kept) (left : TargetMemory × Did)
    → is_of_stops q ≡ true → HearsFurther number t opening m reading from q old new left → ParksAfter m.member.parked (WaitsOn q) left.0 left.1.posts
more-parks number t opening m reading from (message.Commit x ep first tracker ws) old new left ours h =
    parks-as m (message.Commit x ep first tracker ws) left (ap (λ l. l.parked) (commit-knows t m reading x ep first tracker ws from h.last new left h.ends).1) (λ y ask. tt)
more-parks number t opening m reading from (message.Ask x) old new left ours h = parks-as m (message.Ask x) left (ap (λ z. z.0.member.parked) (ends-as (ask_left t m from x) h.last new left h.ends)) (λ y ask. tt)
more-parks number t opening m reading from (message.Status x inc) old new left ours h = parks-as m (message.Status x inc) left (ap (λ z. z.0.member.parked) (ends-as (status_left m from x inc) h.last new left h.ends)) (λ y ask. tt)
more-parks number t opening m reading from (message.StatusIs x inc how) old new left ours h = parks-as m (message.StatusIs x inc how) left (ap (λ z. z.parked) (ack-leaves m h.last new left h.ends).member) (λ y ask. tt)
more-parks number t opening m reading from (message.Reset' by down place (more_of-Message q rest)) old new left ours h = λ p i.
    let is : left ≡ reset_left t m by down q new = ends-as (reset_by t m by down q) h.last new left h.ends ∙ reset-plain t m by down q new ours in
    let k = reset-parks down q (member_at t m) p (subst (λ z. Has p z.0.member.parked) is i) in
    inl (k.0, k.1)
more-parks number t opening m reading from q old new left ours h = let no : ⊥ = cc in absurd no
