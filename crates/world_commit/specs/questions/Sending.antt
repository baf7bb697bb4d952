-- What a target that hears of stops sends, keeps, inquires, and knows to be down.
use Rattle.std.specs.Prelude.{ℕ, ◌≡◌, ◌⊎◌, ◌==◌, ◌||◌, Bool, true, false, List, [], ◌∷◌, filter, Option, Some, None, refl, if◌then◌else◌}
use Rattle.std.proofs.Common.{sym, ◌∙◌, ap, subst, inl, inr}
use Rattle.base_types.specs.declared.entry.Entry.{Entry}
use Rattle.base_types.specs.declared.epoch.Epoch.{Epoch}
use Rattle.base_types.specs.declared.id.AttemptId.{AttemptId}
use Rattle.base_types.specs.declared.operation.MinorWrite.{MinorWrite}
use Rattle.base_types.specs.declared.outcome.FloorWhy.{FloorWhy}
use Rattle.base_types.specs.declared.outcome.Outcome.TheVariants as outcome
use Rattle.model_laws.specs.Members.{Has, has-from_filter, has-from_map}
use Rattle.base_messages.specs.declared.actor.ActorId.{ActorId}
use Rattle.base_messages.specs.declared.message.Message.{Message, more_of-Message}
use Rattle.base_messages.specs.declared.message.Message.TheVariants as message
use Rattle.base_messages.specs.declared.message.Post.{Post}
use Rattle.daos_model.specs.declared.durable.Durable.{Durable}
use Rattle.daos_model.specs.Durables.{same_attempt}
use Rattle.daos_model.specs.EntryLaws.{same_attempt-itself}
use Rattle.dtx_base.specs.declared.leading.Undecided.{Undecided}
use Rattle.dtx_base.specs.declared.member.Inquiry.{Inquiry}
use Rattle.dtx_base.specs.declared.member.QueryState.TheVariants as state
use Rattle.dtx_base.specs.Asking.{ask_heard, asked_of, asked_open, tells_end}
use Rattle.dtx_base.specs.Joining as member
use Rattle.dtx_base.specs.Joining.{MemberOf, inquiries_reset, inquiry_at, inquiry_attempt, is_waiting, unresolved}
use Rattle.dtx_base.specs.LeaderLaws.{same-is}
use Rattle.dtx_base.specs.Leading.{LeaderOf, down_told, entry_led, first_down, mark_reset, prepare_reset, quietly, reset_heard, reset_of, status_asked, to_target, undecided_of}
use Rattle.dtx_base.specs.Members.{has_target, with_target}
use Rattle.dtx_base.specs.Rows.{is_among, is_other_row}
use Rattle.world_commit.specs.asks.Entries.{BringsNot, IsKept, Spares, StoresNot, Unprepared, ack-stores_not, commit-spares, whole-kept, whole-unprepared}
use Rattle.world_commit.specs.asks.Refusing.{Refuses, ack-kept}
use Rattle.world_commit.specs.asks.RowsKept.{acks-rows}
use Rattle.world_commit.specs.asks.Sending.{SendsFor, acks-send, all-told-sent, both-sent, ended-sent, one-sent}
use Rattle.world_commit.specs.attempts.MemberBits.{has-with, has-with_other}
use Rattle.world_commit.specs.attempts.Turning.{one-or_another}
use Rattle.world_commit.specs.questions.Hearing.{IsNotBack, commit-knows, ends-as, is_of_stops, reset-plain}
use Rattle.world_base.specs.declared.did.Did.{Did}
use Rattle.world_base.specs.declared.target.TargetMemory.{TargetMemory}
use Rattle.world_base.specs.declared.target.TargetPlan.{TargetPlan}
use Rattle.world_base.specs.Changes.{Change, Kept}
use Rattle.world_base.specs.Commits as commit
use Rattle.world_base.specs.Further.{CommitDown, HearsFurther, IsSpent, IsUnknown, reset_by}
use Rattle.world_base.specs.MemoryLaws.{ack-leaves}
use Rattle.world_base.specs.Roles.{leader_at, member_at}
use Rattle.world_base.specs.Statuses.{AtOnce, Looks, NoChange, ask_left, reset_joins, reset_leads, reset_left, status_left, status_refusal}
use Rattle.world_base.specs.TargetTurns.{commit_request}

-- ---- what is sent

none-sent : (sender : ActorId) (said : Message) → SendsFor sender said []
none-sent sender said p i = absurd i

commit-sends : (sender : ActorId) (said : Message) (t : TargetPlan) (m : TargetMemory) (reading : ℕ) (x : AttemptId) (ep first : Option Epoch) (tracker : Epoch) (ws : List MinorWrite) (from : ActorId) (s : commit.CommitStage) (k : Kept) (left : TargetMemory × Did)
    → CommitDown t m reading (commit_request x ep first tracker ws) from s k left → SendsFor sender said left.1.posts
commit-sends sender said t m reading x ep first tracker ws from s k left (IsSpent k2 e down left2 none known is) = subst (λ y. SendsFor sender said y.1.posts) (sym is) (one-sent sender said _ tt)
commit-sends sender said t m reading x ep first tracker ws from s k left (IsUnknown k2 e down left2 known is) = subst (λ y. SendsFor sender said y.1.posts) (sym is) (one-sent sender said _ tt)

ask-sends : (sender : ActorId) (said : Message) (x : AttemptId) (from : ActorId) (l : LeaderOf) → SendsFor sender said (ask_heard x from l).posts
unfolding ask_heard
ask-sends sender said x from l = by (entry_led x l) (is_among x l.memory.decided)
  where
    open' : (e : Entry) (o : Option ℕ) → SendsFor sender said (asked_open x from e o l).posts
    open' e None = none-sent sender said
    open' e (Some down) = one-sent sender said _ tt

    known : (e : Entry) (b : Bool) → SendsFor sender said (if b then record { leader = l; posts = tells_end from x (Some e.epoch) outcome.Committed } else asked_open x from e (first_down e.members l.memory.down) l).posts
    known e true = one-sent sender said _ tt
    known e false = open' e (first_down e.members l.memory.down)

    by : (e : Option Entry) (decided : Bool) → SendsFor sender said (asked_of x from e decided l).posts
    by None decided = one-sent sender said _ tt
    by (Some e) decided = known e (e.committed || decided)

status-sends : (sender : ActorId) (said : Message) (by : ℕ) (a : AttemptId) (inc : ℕ) (l : LeaderOf) → SendsFor sender said (status_asked by a inc l).posts
status-sends sender said by a inc l = cases (inc == l.incarnation)
  where
    cases : (b : Bool) → SendsFor sender said (if b then record { leader = l; posts = to_target by (message.Status a inc) ∷ [] } else quietly l).posts
    cases true = one-sent sender said _ tt
    cases false = none-sent sender said

down-sends : (sender : ActorId) (said : Message) (by : ℕ) (a : AttemptId) (e : Option Entry) (u : Option Undecided) (l : LeaderOf) → SendsFor sender said (down_told by a e u l).posts
down-sends sender said by a None u l = none-sent sender said
down-sends sender said by a (Some e) None l = none-sent sender said
down-sends sender said by a (Some e) (Some u) l = ended-sent sender said u.client a e.epoch (outcome.Unknown by)

prepare-sends : (sender : ActorId) (said : Message) (by : ℕ) (down : Bool) (a : AttemptId) (inc : ℕ) (l : LeaderOf) → SendsFor sender said (prepare_reset by down a inc l).posts
unfolding prepare_reset
prepare-sends sender said by true a inc l = down-sends sender said by a (entry_led a l) (undecided_of a l) l
prepare-sends sender said by false a inc l = status-sends sender said by a inc l

mark-sends : (sender : ActorId) (said : Message) (by : ℕ) (down : Bool) (inc : ℕ) (marks : List (AttemptId × Bool)) (l : LeaderOf) → SendsFor sender said (mark_reset by down inc marks l).posts
unfolding mark_reset
mark-sends sender said by true inc marks l = none-sent sender said
mark-sends sender said by false inc marks l = one-sent sender said _ tt

lost-sends : (sender : ActorId) (said : Message) (by : ℕ) (down : Bool) (q : Message) (l : LeaderOf) → SendsFor sender said (reset_of by down q l).posts
lost-sends sender said by down (message.Mark inc marks) l = mark-sends sender said by down inc marks l
lost-sends sender said by down (message.Prepare e first ws inc) l = prepare-sends sender said by down e.attempt inc l
lost-sends sender said by down (message.Status a inc) l = prepare-sends sender said by down a inc l
lost-sends sender said by down q l = none-sent sender said

query-sends : (sender : ActorId) (said : Message) (down : Bool) (a : AttemptId) (ask : Option AttemptId) (s : MemberOf) → SendsFor sender said (member.query_reset down a ask s).freed.posts
unfolding unresolved
query-sends sender said down a (Some x) s = all-told-sent sender said a (filter (is_waiting a x) s.memory.parked)
query-sends sender said down a None s = none-sent sender said

freed-sends : (sender : ActorId) (said : Message) (down : Bool) (q : Message) (s : MemberOf) → SendsFor sender said (member.reset_heard down q s).freed.posts
freed-sends sender said down (message.Query a ask) s = query-sends sender said down a ask s
freed-sends sender said down q s = none-sent sender said

pub more-sends : (number : ℕ) (t : TargetPlan) (opening : Epoch × FloorWhy) (m : TargetMemory) (reading : ℕ) (from : ActorId) (q : Message) (old new : Kept) (left : TargetMemory × Did)
    → is_of_stops q ≡ true → HearsFurther number t opening m reading from q old new left → SendsFor from q left.1.posts
more-sends number t opening m reading from (message.Commit x ep first tracker ws) old new left ours h = commit-sends from (message.Commit x ep first tracker ws) t m reading x ep first tracker ws from h.last new left h.ends
more-sends number t opening m reading from (message.Ask x) old new left ours h =
    subst (λ z. SendsFor from (message.Ask x) z.1.posts) (sym (ends-as (ask_left t m from x) h.last new left h.ends)) (ask-sends from (message.Ask x) x from (leader_at t m new.durable))
more-sends number t opening m reading from (message.Status x inc) old new left ours h =
    subst (λ z. SendsFor from (message.Status x inc) z.1.posts) (sym (ends-as (status_left m from x inc) h.last new left h.ends)) (one-sent from (message.Status x inc) _ tt)
more-sends number t opening m reading from (message.StatusIs x inc how) old new left ours h = acks-send from (message.StatusIs x inc how) t m from.number x inc (status_refusal x how) old new left h
more-sends number t opening m reading from (message.Reset' by down place (more_of-Message q rest)) old new left ours h =
    subst (λ z. SendsFor from (message.Reset' by down place (more_of-Message q rest)) z.1.posts) (sym (ends-as (reset_by t m by down q) h.last new left h.ends ∙ reset-plain t m by down q new ours))
    (both-sent from (message.Reset' by down place (more_of-Message q rest)) (reset_leads t m by down q new).posts (reset_joins t m down q).freed.posts (lost-sends from (message.Reset' by down place (more_of-Message q rest)) by down q (leader_at t m new.durable))
    (freed-sends from (message.Reset' by down place (more_of-Message q rest)) down q (member_at t m)))
more-sends number t opening m reading from q old new left ours h = let no : ⊥ = cc in absurd no

-- ---- what is kept

looks-spares : (x : AttemptId) (s : AtOnce) (k : Kept) (o : Option Change) (u : AtOnce) → NoChange s k o u → Spares x o × StoresNot x o
looks-spares x s k o u (Looks j) = (tt, tt)

pub more-unprepared : (number : ℕ) (t : TargetPlan) (opening : Epoch × FloorWhy) (m : TargetMemory) (reading : ℕ) (from : ActorId) (q : Message) (old new : Kept) (left : TargetMemory × Did) (x : AttemptId)
    → is_of_stops q ≡ true → HearsFurther number t opening m reading from q old new left → BringsNot x q → Unprepared old.durable x → Unprepared new.durable x
more-unprepared number t opening m reading from (message.Commit y ep first tracker ws) old new left x ours h brings =
    whole-unprepared _ _ _ old new left x h (λ s k o u next. (commit-spares t opening m reading (commit_request y ep first tracker ws) x brings s k o u next).1)
more-unprepared number t opening m reading from (message.Ask y) old new left x ours h brings = whole-unprepared _ _ _ old new left x h (λ s k o u next. (looks-spares x s k o u next).1)
more-unprepared number t opening m reading from (message.Status y inc) old new left x ours h brings = whole-unprepared _ _ _ old new left x h (λ s k o u next. (looks-spares x s k o u next).1)
more-unprepared number t opening m reading from (message.StatusIs y inc how) old new left x ours h brings = whole-unprepared _ _ _ old new left x h (ack-stores_not t m from.number y inc (status_refusal y how) x)
more-unprepared number t opening m reading from (message.Reset' by down place (more_of-Message q rest)) old new left x ours h brings = whole-unprepared _ _ _ old new left x h (λ s k o u next. (looks-spares x s k o u next).1)
more-unprepared number t opening m reading from q old new left x ours h brings = let no : ⊥ = cc in absurd no

-- an answer to a Status tells that a member holds nothing of an attempt, which is refused so
abbrev pub RefusesBy : TargetPlan → TargetMemory → Durable → AttemptId → Message → List Post → Type 0
RefusesBy t m d x (message.StatusIs y inc how) posts = (x ≡ y) × Refuses (leader_at t m d) y (status_refusal y how) posts
RefusesBy t m d x q posts = ⊥

pub more-kept : (number : ℕ) (t : TargetPlan) (opening : Epoch × FloorWhy) (m : TargetMemory) (reading : ℕ) (from : ActorId) (q : Message) (old new : Kept) (left : TargetMemory × Did) (x : AttemptId)
    → is_of_stops q ≡ true → HearsFurther number t opening m reading from q old new left → BringsNot x q → IsKept old.durable x → IsKept new.durable x ⊎ RefusesBy t m old.durable x q left.1.posts
more-kept number t opening m reading from (message.Commit y ep first tracker ws) old new left x ours h brings k =
    inl (whole-kept _ _ _ old new left x h (λ s n o u next. (commit-spares t opening m reading (commit_request y ep first tracker ws) x brings s n o u next).0) k)
more-kept number t opening m reading from (message.Ask y) old new left x ours h brings k = inl (whole-kept _ _ _ old new left x h (λ s n o u next. (looks-spares x s n o u next).0) k)
more-kept number t opening m reading from (message.Status y inc) old new left x ours h brings k = inl (whole-kept _ _ _ old new left x h (λ s n o u next. (looks-spares x s n o u next).0) k)
more-kept number t opening m reading from (message.StatusIs y inc how) old new left x ours h brings k = ack-kept t m from.number y inc (status_refusal y how) old x new left k h
more-kept number t opening m reading from (message.Reset' by down place (more_of-Message q rest)) old new left x ours h brings k = inl (whole-kept _ _ _ old new left x h (λ s n o u next. (looks-spares x s n o u next).0) k)
more-kept number t opening m reading from q old new left x ours h brings k = let no : ⊥ = cc in absurd no

-- ---- what is inquired

-- a message tells that a Query of idle work got no answer since the leader is down
abbrev pub TellsDown : AttemptId → Message → Type 0
TellsDown x (message.Reset' by down place (more_of-Message q rest)) = (down ≡ true) × (q ≡ message.Query x None)
TellsDown x m = ⊥

-- an inquiry after such a turn was there before, and its question isn't lost; or its leader is down
pub data MoreInquired (before : List Inquiry) (said : Message) (q : Inquiry) : Type 0 where
  StillThere : Has q before → IsNotBack q.attempt None said → MoreInquired before said q
  NowDown : (old : Inquiry) → Has old before → old.attempt ≡ q.attempt → q.state ≡ state.Down → TellsDown q.attempt said → MoreInquired before said q

inquired-as : (before after : List Inquiry) (said : Message) → after ≡ before → ((x : AttemptId) → IsNotBack x None said) → (q : Inquiry) → Has q after → MoreInquired before said q
inquired-as before after said same all q i = StillThere (subst (Has q) same i) (all q.attempt)

-- an inquiry after a step of a member was there before, and its question isn't lost; or the leader is down
data LostInquired (before : List Inquiry) (down : Bool) (asked : Message) (q : Inquiry) : Type 0 where
  Goes : Has q before → (asked ≡ message.Query q.attempt None → ⊥) → LostInquired before down asked q
  Stops : (old : Inquiry) → Has old before → old.attempt ≡ q.attempt → q.state ≡ state.Down → down ≡ true → asked ≡ message.Query q.attempt None → LostInquired before down asked q

-- what a Reset of a Query of idle work leaves
module _ (a : AttemptId) where
  query-of : (x : AttemptId) → message.Query a None ≡ message.Query x None → x ≡ a
  query-of x is = cc

  gone-inquired : (qs : List Inquiry) (q : Inquiry) → Has q (filter (is_other_row inquiry_attempt a) qs) → LostInquired qs false (message.Query a None) q
  gone-inquired qs q i =
      let k = has-from_filter (is_other_row inquiry_attempt a) qs q i in
      Goes k.0 (λ is. let own : same_attempt q.attempt a ≡ true = ap (λ b. same_attempt b a) (query-of q.attempt is) ∙ same_attempt-itself a in (let no : ⊥ = cc (own, k.1) in no))

  down-inquired : (qs : List Inquiry) (old q : Inquiry) → Has old qs → inquiry_at a state.Down old ≡ q → LostInquired qs true (message.Query a None) q
  down-inquired qs old q i is = cases (same_attempt old.attempt a) refl is
    where
      cases : (b : Bool) → same_attempt old.attempt a ≡ b → (if b then record old { state = state.Down } else old) ≡ q → LostInquired qs true (message.Query a None) q
      cases true own e =
          let here : old.attempt ≡ q.attempt = ap (λ z. z.attempt) e in
          Stops old i here (sym (ap (λ z. z.state) e)) refl (ap (λ b. message.Query b None) (sym (same-is old.attempt a own) ∙ here))
      cases false apart e =
          subst (LostInquired qs true (message.Query a None)) e
          (Goes i (λ is2. let own : same_attempt old.attempt a ≡ true = ap (λ b. same_attempt b a) (query-of old.attempt is2) ∙ same_attempt-itself a in (let no : ⊥ = cc (own, apart) in no)))

  idle-inquired : (down : Bool) (qs : List Inquiry) (q : Inquiry) → Has q (inquiries_reset down a qs) → LostInquired qs down (message.Query a None) q
  idle-inquired true qs q i = let o = has-from_map (inquiry_at a state.Down) qs q i in down-inquired qs o.0 q o.1 o.2
  idle-inquired false qs q i = gone-inquired qs q i

query-inquired : (down : Bool) (a : AttemptId) (ask : Option AttemptId) (s : MemberOf) (q : Inquiry) → Has q (member.query_reset down a ask s).member.memory.inquiries → LostInquired s.memory.inquiries down (message.Query a ask) q
unfolding unresolved
query-inquired down a (Some x) s q i = Goes i (λ is. let no : ⊥ = cc in no)
query-inquired down a None s q i = idle-inquired a down s.memory.inquiries q i

reset-inquired : (down : Bool) (said : Message) (s : MemberOf) (q : Inquiry) → Has q (member.reset_heard down said s).member.memory.inquiries → LostInquired s.memory.inquiries down said q
reset-inquired down (message.Query a ask) s q i = query-inquired down a ask s q i
reset-inquired down said s q i = Goes i (λ is. let no : ⊥ = cc in no)

pub more-inquired : (number : ℕ) (t : TargetPlan) (opening : Epoch × FloorWhy) (m : TargetMemory) (reading : ℕ) (from : ActorId) (said : Message) (old new : Kept) (left : TargetMemory × Did)
    → is_of_stops said ≡ true → HearsFurther number t opening m reading from said old new left → (q : Inquiry) → Has q left.0.member.inquiries → MoreInquired m.member.inquiries said q
more-inquired number t opening m reading from (message.Commit x ep first tracker ws) old new left ours h =
    inquired-as m.member.inquiries left.0.member.inquiries (message.Commit x ep first tracker ws) (ap (λ l. l.inquiries) (commit-knows t m reading x ep first tracker ws from h.last new left h.ends).1) (λ y. tt)
more-inquired number t opening m reading from (message.Ask x) old new left ours h = inquired-as m.member.inquiries left.0.member.inquiries (message.Ask x) (ap (λ z. z.0.member.inquiries) (ends-as (ask_left t m from x) h.last new left h.ends)) (λ y. tt)
more-inquired number t opening m reading from (message.Status x inc) old new left ours h = inquired-as m.member.inquiries left.0.member.inquiries (message.Status x inc) (ap (λ z. z.0.member.inquiries) (ends-as (status_left m from x inc) h.last new left h.ends)) (λ y. tt)
more-inquired number t opening m reading from (message.StatusIs x inc how) old new left ours h = inquired-as m.member.inquiries left.0.member.inquiries (message.StatusIs x inc how) (ap (λ z. z.inquiries) (ack-leaves m h.last new left h.ends).member) (λ y. tt)
more-inquired number t opening m reading from (message.Reset' by down place (more_of-Message said rest)) old new left ours h =
    λ q i. by' q (reset-inquired down said (member_at t m) q (subst (λ z. Has q z.0.member.inquiries) (ends-as (reset_by t m by down said) h.last new left h.ends ∙ reset-plain t m by down said new ours) i))
  where
    by' : (q : Inquiry) → LostInquired m.member.inquiries down said q → MoreInquired m.member.inquiries (message.Reset' by down place (more_of-Message said rest)) q
    by' q (Goes i none) = StillThere i none
    by' q (Stops old' i same is on asked) = NowDown old' i same is (on, asked)
more-inquired number t opening m reading from said old new left ours h = let no : ⊥ = cc in absurd no

-- ---- who is known to be down

-- a message tells that a target is down
abbrev pub TellsOfDown : ℕ → Message → Type 0
TellsOfDown u (message.Reset' by down place asked) = (by ≡ u) × (down ≡ true)
TellsOfDown u m = ⊥

-- those that were known to be down are, and that which a Reset tells of, and no others
pub record KnowsDown (m n : TargetMemory) (said : Message) : Type 0 where
  pub known : (u : ℕ) → has_target m.leader.down u ≡ true → has_target n.leader.down u ≡ true
  pub told : (u : ℕ) → TellsOfDown u said → has_target n.leader.down u ≡ true
  pub only : (u : ℕ) → has_target n.leader.down u ≡ true → (has_target m.leader.down u ≡ true) ⊎ TellsOfDown u said

knows-as : (m n : TargetMemory) (said : Message) → n.leader.down ≡ m.leader.down → ((u : ℕ) → TellsOfDown u said → ⊥) → KnowsDown m n said
knows-as m n said same none = record { known = λ u is. ap (λ b. has_target b u) same ∙ is; told = λ u tells. absurd (none u tells); only = λ u is. inl (ap (λ b. has_target b u) (sym same) ∙ is) }

down-down : (by : ℕ) (a : AttemptId) (e : Option Entry) (u : Option Undecided) (l : LeaderOf) → (down_told by a e u l).leader.memory.down ≡ l.memory.down
down-down by a None u l = refl
down-down by a (Some e) None l = refl
down-down by a (Some e) (Some u) l = refl

status-down : (by : ℕ) (a : AttemptId) (inc : ℕ) (l : LeaderOf) → (status_asked by a inc l).leader.memory.down ≡ l.memory.down
status-down by a inc l = cases (inc == l.incarnation)
  where
    cases : (b : Bool) → (if b then record { leader = l; posts = to_target by (message.Status a inc) ∷ [] } else quietly l).leader.memory.down ≡ l.memory.down
    cases true = refl
    cases false = refl

prepare-down : (by : ℕ) (down : Bool) (a : AttemptId) (inc : ℕ) (l : LeaderOf) → (prepare_reset by down a inc l).leader.memory.down ≡ l.memory.down
unfolding prepare_reset
prepare-down by true a inc l = down-down by a (entry_led a l) (undecided_of a l) l
prepare-down by false a inc l = status-down by a inc l

mark-down : (by : ℕ) (down : Bool) (inc : ℕ) (marks : List (AttemptId × Bool)) (l : LeaderOf) → (mark_reset by down inc marks l).leader.memory.down ≡ l.memory.down
unfolding mark_reset
mark-down by true inc marks l = refl
mark-down by false inc marks l = refl

lost-down : (by : ℕ) (down : Bool) (q : Message) (l : LeaderOf) → (reset_of by down q l).leader.memory.down ≡ l.memory.down
lost-down by down (message.Mark inc marks) l = mark-down by down inc marks l
lost-down by down (message.Prepare e first ws inc) l = prepare-down by down e.attempt inc l
lost-down by down (message.Status a inc) l = prepare-down by down a inc l
lost-down by down q l = refl

known-still : (set t u : ℕ) → has_target set u ≡ true → has_target (with_target set t) u ≡ true
known-still set t u is = elim (one-or_another u t) [
  | inl same ↦ subst (λ n. has_target (with_target set t) n ≡ true) (sym same) (has-with set t)
  | inr other ↦ has-with_other set t u other ∙ is
]

reset-down : (by : ℕ) (down : Bool) (q : Message) (l : LeaderOf) (u : ℕ) → has_target l.memory.down u ≡ true → has_target (reset_heard by down q l).leader.memory.down u ≡ true
reset-down by true q l u is = known-still (reset_of by true q l).leader.memory.down by u (ap (λ n. has_target n u) (lost-down by true q l) ∙ is)
reset-down by false q l u is = ap (λ n. has_target n u) (lost-down by false q l) ∙ is

reset-tells : (by : ℕ) (down : Bool) (q : Message) (l : LeaderOf) (u : ℕ) → by ≡ u → down ≡ true → has_target (reset_heard by down q l).leader.memory.down u ≡ true
reset-tells by true q l u same is = subst (λ n. has_target (with_target (reset_of by true q l).leader.memory.down by) n ≡ true) same (has-with (reset_of by true q l).leader.memory.down by)
reset-tells by false q l u same is = let no : ⊥ = cc in absurd no

reset-only : (by : ℕ) (down : Bool) (q : Message) (l : LeaderOf) (u : ℕ) → has_target (reset_heard by down q l).leader.memory.down u ≡ true → (has_target l.memory.down u ≡ true) ⊎ ((by ≡ u) × (down ≡ true))
reset-only by true q l u is = elim (one-or_another u by) [
  | inl same ↦ inr (sym same, refl)
  | inr other ↦ inl (ap (λ n. has_target n u) (sym (lost-down by true q l)) ∙ (sym (has-with_other (reset_of by true q l).leader.memory.down by u other) ∙ is))
]
reset-only by false q l u is = inl (ap (λ n. has_target n u) (sym (lost-down by false q l)) ∙ is)

ask-down : (x : AttemptId) (from : ActorId) (l : LeaderOf) → (ask_heard x from l).leader.memory.down ≡ l.memory.down
unfolding ask_heard
ask-down x from l = by (entry_led x l) (is_among x l.memory.decided)
  where
    open' : (e : Entry) (o : Option ℕ) → (asked_open x from e o l).leader.memory.down ≡ l.memory.down
    open' e None = refl
    open' e (Some down) = refl

    known : (e : Entry) (b : Bool) → (if b then record { leader = l; posts = tells_end from x (Some e.epoch) outcome.Committed } else asked_open x from e (first_down e.members l.memory.down) l).leader.memory.down ≡ l.memory.down
    known e true = refl
    known e false = open' e (first_down e.members l.memory.down)

    by : (e : Option Entry) (decided : Bool) → (asked_of x from e decided l).leader.memory.down ≡ l.memory.down
    by None decided = refl
    by (Some e) decided = known e (e.committed || decided)

pub more-down : (number : ℕ) (t : TargetPlan) (opening : Epoch × FloorWhy) (m : TargetMemory) (reading : ℕ) (from : ActorId) (q : Message) (old new : Kept) (left : TargetMemory × Did)
    → is_of_stops q ≡ true → HearsFurther number t opening m reading from q old new left → KnowsDown m left.0 q
more-down number t opening m reading from (message.Commit x ep first tracker ws) old new left ours h =
    knows-as m left.0 (message.Commit x ep first tracker ws) (ap (λ l. l.down) (commit-knows t m reading x ep first tracker ws from h.last new left h.ends).0) (λ u none. none)
more-down number t opening m reading from (message.Ask x) old new left ours h = knows-as m left.0 (message.Ask x) (ap (λ z. z.0.leader.down) (ends-as (ask_left t m from x) h.last new left h.ends) ∙ ask-down x from (leader_at t m new.durable)) (λ u none. none)
more-down number t opening m reading from (message.Status x inc) old new left ours h = knows-as m left.0 (message.Status x inc) (ap (λ z. z.0.leader.down) (ends-as (status_left m from x inc) h.last new left h.ends)) (λ u none. none)
more-down number t opening m reading from (message.StatusIs x inc how) old new left ours h = knows-as m left.0 (message.StatusIs x inc how) (acks-rows t m from.number x inc (status_refusal x how) old new left h).down (λ u none. none)
more-down number t opening m reading from (message.Reset' by down place (more_of-Message q rest)) old new left ours h =
    let is : left ≡ reset_left t m by down q new = ends-as (reset_by t m by down q) h.last new left h.ends ∙ reset-plain t m by down q new ours in
    record {
      known = λ u was. ap (λ z. has_target z.0.leader.down u) is ∙ reset-down by down q (leader_at t m new.durable) u was;
      told = λ u tells. ap (λ z. has_target z.0.leader.down u) is ∙ reset-tells by down q (leader_at t m new.durable) u tells.0 tells.1;
      only = λ u so. reset-only by down q (leader_at t m new.durable) u (ap (λ z. has_target z.0.leader.down u) (sym is) ∙ so);
    }
more-down number t opening m reading from q old new left ours h = let no : ⊥ = cc in absurd no
