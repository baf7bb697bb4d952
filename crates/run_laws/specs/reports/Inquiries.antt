-- Where what idle work asks comes from, in each event: a target inquires what became of an attempt in the settling phase alone, and is told that it
-- isn't decided by the attempt's leader, which keeps an entry of it.
use Rattle.std.specs.Prelude.{ℕ, ◌≡◌, ◌⊎◌, Bool, true, false, List, [], ◌∷◌, filter, map, slice_get, Some, None, refl, if◌then◌else◌}
use Rattle.std.proofs.Common.{inl, inr, sym, ◌∙◌, ap, subst}
use Rattle.base_types.specs.declared.entry.Entry.{Entry}
use Rattle.base_types.specs.declared.entry.Verdict.{Verdict}
use Rattle.base_types.specs.declared.entry.Verdict.TheVariants as verdict
use Rattle.base_types.specs.declared.id.AttemptId.{AttemptId}
use Rattle.base_messages.specs.declared.message.Message.{Message}
use Rattle.base_messages.specs.declared.message.Message.TheVariants as message
use Rattle.base_messages.specs.declared.message.Post.{Post}
use Rattle.model_laws.specs.Members.{Has, has-cases, has-from_filter, has-from_map}
use Rattle.daos_model.specs.Durables.{entry_of}
use Rattle.dtx_base.specs.declared.leading.Naming.{Naming}
use Rattle.dtx_base.specs.declared.member.Inquiry.{Inquiry}
use Rattle.dtx_base.specs.declared.member.QueryState.TheVariants as state
use Rattle.dtx_base.specs.Joining.{inquiry_for}
use Rattle.dtx_base.specs.Leading.{LeaderOf, batched, commit_mark, mark_with, marks_for, owed, query_answer, to_target}
use Rattle.dtx_base.specs.Members.{all_targets}
use Rattle.dtx_base.specs.Rows.{is_empty}
use Rattle.world_commit.specs.asks.Asks.{Flies, IsQuery, IsQueryOf, IsUndecidedTold, IsVerdict}
use Rattle.world_commit.specs.asks.InquiryLaws.{InquiryAfter, WasAnswered, WasThere, hears-inquired, idles-inquired, queried, undecided-kept}
use Rattle.world_commit.specs.asks.Knowing.{KnowsAttempts, TellsOf}
use Rattle.world_commit.specs.asks.Moving.{ClientMoves, TargetMoves, goes-moves, heard-moves, hears-moves, idle-moves, now-here, same-there}
use Rattle.world_commit.specs.asks.Sending.{MaySend, hears-sends}
use Rattle.world_commit.specs.asks.Told.{no-client}
use Rattle.world_commit.specs.asks.ToldTurns.{AMark, AnInquiry, IsIdlySent, idles-sends}
use Rattle.world_commit.specs.attempts.Attempts.{IsHeld, entry_in, leader_of}
use Rattle.world_commit.specs.attempts.Counting.{has-taken}
use Rattle.world_commit.specs.attempts.History.{History}
use Rattle.world_commit.specs.attempts.Stored.{target-is}
use Rattle.world_commit.specs.attempts.Turning.{one-or_another}
use Rattle.world_base.specs.declared.did.Did.{Did}
use Rattle.world_base.specs.declared.letter.Letter.{Letter}
use Rattle.world_base.specs.declared.target.TargetMemory.{TargetMemory}
use Rattle.world_base.specs.declared.target.TargetPlan.{TargetPlan}
use Rattle.world_base.specs.declared.target.TargetState.{TargetState}
use Rattle.world_base.specs.declared.world.World.{World}
use Rattle.world_base.specs.Changes.{Kept}
use Rattle.world_base.specs.Events.{ByClient, ByTarget, Rules, TargetHearsBy, TargetHearsRightly, TargetIdles, ToClient, ToTarget, kept, target_after, target_plan, rightly}
use Rattle.world_base.specs.Further.{HearsFurther}
use Rattle.world_base.specs.Idle.{AllSettled, IdleEnds, batch_of, inquiry_of}
use Rattle.world_base.specs.Letters.{client, letter_of, target}
use Rattle.world_base.specs.RightTurns.{HearsRightly}
use Rattle.world_base.specs.Roles.{leader_at}
use Rattle.world_base.specs.Stops.{Draws, Fails, Further, GivenUp, Happening, HearsMore, IsCut, Opens, Plainly, TargetCut, is_not_to, is_to, reset_letter, resets, swept}
use Rattle.world_commit.specs.fates.Facts.{Attempts}
use Rattle.world_commit.specs.fates.Rightly.{letters-tell}
use Rattle.world_commit.specs.questions.Hearing.{is_of_stops}
use Rattle.world_commit.specs.questions.Inquiring.{is_news}
use Rattle.world_commit.specs.questions.Known.{knows-fates}
use Rattle.world_commit.specs.questions.Leaving.{drawing-leaves, failing-leaves, given_up-leaves, opening-leaves, sweeping-leaves}
use Rattle.world_commit.specs.questions.Sending.{MoreInquired, NowDown, StillThere, more-inquired, more-sends}
use Rattle.world_commit.specs.questions.Stopping.{IsLoss, cut_loss, drawing_loss, failing_loss, given_up_loss, opening_loss, sweeping_loss}
use Rattle.world_closing.specs.world_making.fates.Sends.{is_sent_in_making, making-sent}
use Rattle.world_closing.specs.world_making.making.Kinds.{of-attempts}
use Rattle.world_closing.specs.world_making.making.Making.{IsOfMaking, MakingLeaves, tells_of_snapshots}
use Rattle.world_closing.specs.world_making.making.Turns.{hearings-leave}
use Rattle.world_closing.specs.world_making.questions.Sends.{query-unsent}
use Rattle.world_closing.specs.Below.{no-collections}

-- ---- what comes

-- a target's inquiry was there before; or it is asked in this event, which is idle work of the settling phase; or it was answered, and if that the
-- attempt isn't decided, by a letter that was in flight
pub data InquiryComes (settles : Type 0) (w : World) (m : ℕ) (q : Inquiry) : Type 0 where
  Stays : (z : TargetState) → slice_get w.targets m ≡ Some z → Has q z.memory.member.inquiries → InquiryComes settles w m q
  IsAsked : settles → q.state ≡ state.Unanswered → InquiryComes settles w m q
  IsAnswered : (z : TargetState) (old : Inquiry) → slice_get w.targets m ≡ Some z → Has old z.memory.member.inquiries → (q.state ≡ state.Undecided → Flies w (IsUndecidedTold m q.attempt)) → InquiryComes settles w m q

-- a letter by which idle work asks, or its answer, was in flight before; or it answers one that was, and if that the attempt isn't decided, its leader
-- keeps an entry of it; or it asks in this event
pub data LetterComes (settles : Type 0) (r : Rules) (w : World) (m : ℕ) (x : AttemptId) (l : Letter) : Type 0 where
  WasFlying : Has l w.messages → LetterComes settles r w m x l
  AnswersOne : Flies w (IsQueryOf m x None) → (IsUndecidedTold m x l → IsHeld w (leader_of r x) x) → LetterComes settles r w m x l
  AsksNow : settles → (IsUndecidedTold m x l → ⊥) → LetterComes settles r w m x l

pub record InquiriesCome (settles : Type 0) (r : Rules) (w u : World) : Type 0 where
  pub rows : (m : ℕ) (s : TargetState) (q : Inquiry) → slice_get u.targets m ≡ Some s → Has q s.memory.member.inquiries → InquiryComes settles w m q
  pub letters : (m : ℕ) (x : AttemptId) (l : Letter) → Has l u.messages → IsQueryOf m x None l → LetterComes settles r w m x l

-- idle work of the settling phase
abbrev pub IsSettling : {r : Rules} {w u : World} → Happening r w u → Type 0
IsSettling (Plainly (ByTarget g) up) = g.settling ≡ true
IsSettling e = ⊥

-- ---- idle work that isn't of the settling phase asks nothing

abbrev is_query : Message → Bool
is_query (message.Query x ask) = true
is_query m = false

one-mark : (inc t : ℕ) (ids : List AttemptId) (p : Post) → Has p (mark_with inc t ids) → is_query p.message ≡ false
one-mark inc t ids p i = by (is_empty ids) i
  where
    by : (b : Bool) → Has p (if b then [] else to_target t (message.Mark inc (map commit_mark ids)) ∷ []) → is_query p.message ≡ false
    by true none = absurd none
    by false (inl same) = ap (λ z. is_query z.message) same
    by false (inr none) = absurd none

all-marks : (inc down : ℕ) (named : List Naming) (es : List Entry) (ts : List ℕ) (p : Post) → Has p (marks_for inc down named es ts) → is_query p.message ≡ false
all-marks inc down named es [] p i = absurd i
all-marks inc down named es (t ∷ ts) p i = elim (has-cases (mark_with inc t (owed down named es t)) (marks_for inc down named es ts) p i) [
  | inl j ↦ one-mark inc t (owed down named es t) p j
  | inr j ↦ all-marks inc down named es ts p j
]

batch-marks : (l : LeaderOf) (p : Post) → Has p (batched l).posts → is_query p.message ≡ false
unfolding batched
batch-marks l p i = all-marks l.incarnation l.memory.down l.memory.named l.entries all_targets p i

-- what it leaves
record AsksNothing (m : TargetMemory) (left : TargetMemory × Did) : Type 0 where
  rows : left.0.member.inquiries ≡ m.member.inquiries
  posts : (p : Post) → Has p left.1.posts → is_query p.message ≡ false

idle-still : (t : TargetPlan) (m : TargetMemory) (s : List AttemptId) (k : Kept) (left : TargetMemory × Did) → IdleEnds false t m s k left → AsksNothing m left
idle-still t m s k left (AllSettled j z is) = record {
  rows = ap (λ x. x.0.member.inquiries) is;
  posts = λ p i. elim (has-cases (batch_of t m k.durable).posts (inquiry_of false t m k.durable).freed.posts p (subst (λ x. Has p x.1.posts) is i)) [ inl mark ↦ batch-marks _ p mark | inr none ↦ absurd none ];
}

-- ---- each kind of event

module _ (r : Rules) (w u : World) where
  -- no client asks what became of an attempt so, nor answers that
  client-comes : (settles : Type 0) (h : History) → KnowsAttempts r h u → ClientMoves w u → InquiriesCome settles r w u
  client-comes settles h B g = record {
    rows = λ m s q here i. Stays s (subst (λ ts. slice_get ts m ≡ Some s) g.targets here) i;
    letters = λ m x l i q. elim (g.comes l i) [ inl old ↦ WasFlying old | inr new ↦ absurd (none m x l i new.0 new.1 q) ];
  }
    where
      none : (m : ℕ) (x : AttemptId) (l : Letter) → Has l u.messages → (n : ℕ) → l.from ≡ client n → IsQueryOf m x None l → ⊥
      none m x l i n from (IsQuery leader is sender to) = no-client n m l.from from sender
      none m x l i n from (IsVerdict inc said is to) = no-client n (leader_of r x) l.from from (B.told l x i (subst (TellsOf x) (sym is) refl)).sender

  -- a target hears a message
  module _ (h : History) (A : KnowsAttempts r h w) (g : TargetHearsRightly r w u) where
    moves : TargetMoves w u g.t g.s (target_after g.s g.new g.memory) (Some g.l) g.did.posts
    moves = heard-moves r w u g

    taken : Has g.l w.messages
    taken = has-taken w.messages g.l g.rest g.takes

    turn-of : (said : Message) → g.l.message ≡ said → HearsRightly (target_plan r g.t) g.s.opening g.s.memory g.reading g.l.from said (kept g.s) g.new (g.memory, g.did)
    turn-of said is = subst (λ q. HearsRightly (target_plan r g.t) g.s.opening g.s.memory g.reading g.l.from q (kept g.s) g.new (g.memory, g.did)) is g.turn

    may : (p : Post) → Has p g.did.posts → MaySend g.l.from g.l.message p.to p.message
    may = hears-sends (target_plan r g.t) g.s.opening g.s.memory g.reading g.l.from g.l.message (kept g.s) g.new (g.memory, g.did) g.turn

    -- a Verdict that it sends answers a Query that it heard
    sent-verdict : (m : ℕ) (x : AttemptId) (inc : ℕ) (v : Verdict) (p : Post) → Has p g.did.posts → p.message ≡ message.Verdict x None inc v → p.to ≡ target m → (g.l.message ≡ message.Query x None) × (g.l.from ≡ target m)
    sent-verdict m x inc v p i is to = let s = subst (MaySend g.l.from g.l.message p.to) is (may p i) in (s.0, sym s.1 ∙ to)

    kept-held : (x : AttemptId) (e : Entry) → entry_of g.s.durable x ≡ Some e → IsHeld w g.t x
    kept-held x e found = record { entry = e; found = ap (λ o. entry_in o x) g.here ∙ found }

    -- which says that the attempt isn't decided where an entry is kept here
    held : (m : ℕ) (x : AttemptId) (l : Letter) (p : Post) → Has p g.did.posts → l ≡ letter_of (target g.t) p → IsUndecidedTold m x l → IsHeld w (leader_of r x) x
    held m x l p i same told =
        let q = sent-verdict m x told.inc verdict.Undecided p i (sym (ap (λ z. z.message) same) ∙ told.says) (sym (ap (λ z. z.to) same) ∙ told.to) in
        let way = (A.asked g.l x None taken q.0).0 in
        let leads : g.t ≡ leader_of r x = target-is g.t (leader_of r x) (sym g.to_it ∙ way.receiver) in
        let says : p.message ≡ message.Verdict x None g.s.durable.incarnation (query_answer x (leader_at (target_plan r g.t) g.s.memory g.s.durable)) =
        queried (target_plan r g.t) g.s.memory g.l.from x None (kept g.s) g.new (g.memory, g.did) (turn-of (message.Query x None) q.0) p i in
        let told-so : p.message ≡ message.Verdict x None told.inc verdict.Undecided = sym (ap (λ n. n.message) same) ∙ told.says in
        let undecided : query_answer x (leader_at (target_plan r g.t) g.s.memory g.s.durable) ≡ verdict.Undecided = cc (says, told-so) in
        let e = undecided-kept (target_plan r g.t) g.s.memory g.s.durable x undecided in
        subst (λ n. IsHeld w n x) leads (kept-held x e.0 e.1)

    sent : (m : ℕ) (x : AttemptId) (l : Letter) (p : Post) → Has p g.did.posts → l ≡ letter_of (target g.t) p → IsQueryOf m x None l → LetterComes ⊥ r w m x l
    sent m x l p i same (IsQuery leader is from to) = absurd (subst (MaySend g.l.from g.l.message p.to) (sym (ap (λ z. z.message) same) ∙ is) (may p i))
    sent m x l p i same (IsVerdict inc said is to) =
        let q = sent-verdict m x inc said p i (sym (ap (λ z. z.message) same) ∙ is) (sym (ap (λ z. z.to) same) ∙ to) in
        AnswersOne (g.l, taken, IsQuery g.t q.0 q.1 g.to_it) (held m x l p i same)

    heard-comes : InquiriesCome ⊥ r w u
    heard-comes = record {
      rows = λ m y q here i. elim (one-or_another m g.t) [
        | inl same ↦
            let is : Some (target_after g.s g.new g.memory) ≡ Some y = sym (now-here w u g.t g.s (target_after g.s g.new g.memory) (Some g.l) g.did.posts moves) ∙ ap (slice_get u.targets) (sym same) ∙ here in
            subst (λ n. InquiryComes ⊥ w n q) (sym same)
            (row q (hears-inquired (target_plan r g.t) g.s.opening g.s.memory g.reading g.l.from g.l.message (kept g.s) g.new (g.memory, g.did) g.turn q
            (subst (λ x. Has q x.memory.member.inquiries) (let one : y ≡ target_after g.s g.new g.memory = cc in one) i)))
        | inr other ↦ Stays y (sym (same-there w u g.t g.s (target_after g.s g.new g.memory) (Some g.l) g.did.posts moves m other) ∙ here) i
      ];
      letters = λ m x l i q. elim (moves.comes l i) [ inl old ↦ WasFlying old | inr new ↦ sent m x l new.0 new.1 new.2 q ];
    }
      where
        row : (q : Inquiry) → InquiryAfter g.s.memory.member.inquiries g.l.message q → InquiryComes ⊥ w g.t q
        row q (WasThere i open') = Stays g.s g.here i
        row q (WasAnswered inc old i same is says) = IsAnswered g.s old g.here i (λ undecided. (g.l, taken, record { inc = inc; says = says; to = g.to_it }))

  -- a target does its idle work
  module _ (g : TargetIdles r w u) where
    idle-moved : TargetMoves w u g.t g.s (target_after g.s g.new g.memory) None g.did.posts
    idle-moved = idle-moves r w u g

    abbrev Settles : Type 0
    Settles = g.settling ≡ true

    still : g.settling ≡ false → AsksNothing g.s.memory (g.memory, g.did)
    still off = idle-still (target_plan r g.t) g.s.memory g.turn.last g.new (g.memory, g.did) (subst (λ b. IdleEnds b (target_plan r g.t) g.s.memory g.turn.last g.new (g.memory, g.did)) off g.turn.ends)

    idle-row : (q : Inquiry) → Has q g.memory.member.inquiries → InquiryComes Settles w g.t q
    idle-row q i = by g.settling refl
      where
        by : (b : Bool) → g.settling ≡ b → InquiryComes Settles w g.t q
        by false off = Stays g.s g.here (subst (Has q) (still off).rows i)
        by true is = elim (idles-inquired g.settling (target_plan r g.t) g.s.memory (kept g.s) g.new (g.memory, g.did) g.turn q i) [
          | inl old ↦ Stays g.s g.here old
          | inr new ↦ IsAsked is (ap (λ z. z.state) new.1)
        ]

    idle-sent : (m : ℕ) (x : AttemptId) (l : Letter) (p : Post) → Has p g.did.posts → l ≡ letter_of (target g.t) p → IsQueryOf m x None l → LetterComes Settles r w m x l
    idle-sent m x l p i same q = by (idles-sends g.settling (target_plan r g.t) g.s.memory (kept g.s) g.new (g.memory, g.did) g.turn p i) q
      where
        says : (said : Message) → l.message ≡ said → p.message ≡ said
        says said is = sym (ap (λ z. z.message) same) ∙ is

        asks : (e : Entry) → p ≡ inquiry_for e → LetterComes Settles r w m x l
        asks e is = on g.settling refl
          where
            on : (b : Bool) → g.settling ≡ b → LetterComes Settles r w m x l
            on true settles = AsksNow settles (λ told. let one : message.Query e.attempt None ≡ message.Verdict x None told.inc verdict.Undecided = sym (ap (λ z. z.message) is) ∙ says _ told.says in let no : ⊥ = cc in no)
            on false off = let bad : true ≡ false = sym (ap (λ z. is_query z.message) is) ∙ (still off).posts p i in let no : ⊥ = cc in absurd no

        by : IsIdlySent g.t g.new.durable g.did.posts p → IsQueryOf m x None l → LetterComes Settles r w m x l
        by (AMark inc marks is) (IsQuery leader said from to) = let one : p.message ≡ message.Query x None = says _ said in let no : ⊥ = cc (one, is) in absurd no
        by (AMark inc marks is) (IsVerdict inc2 said told to) = let one : p.message ≡ message.Verdict x None inc2 said = says _ told in let no : ⊥ = cc (one, is) in absurd no
        by (AnInquiry e a is) q2 = asks e is

    idle-comes : InquiriesCome Settles r w u
    idle-comes = record {
      rows = λ m y q here i. elim (one-or_another m g.t) [
        | inl same ↦
            let is : Some (target_after g.s g.new g.memory) ≡ Some y = sym (now-here w u g.t g.s (target_after g.s g.new g.memory) None g.did.posts idle-moved) ∙ ap (slice_get u.targets) (sym same) ∙ here in
            subst (λ n. InquiryComes Settles w n q) (sym same) (idle-row q (subst (λ x. Has q x.memory.member.inquiries) (let one : y ≡ target_after g.s g.new g.memory = cc in one) i))
        | inr other ↦ Stays y (sym (same-there w u g.t g.s (target_after g.s g.new g.memory) None g.did.posts idle-moved m other) ∙ here) i
      ];
      letters = λ m x l i q. elim (idle-moved.comes l i) [ inl old ↦ WasFlying old | inr new ↦ idle-sent m x l new.0 new.1 new.2 q ];
    }

  -- a target hears of stops
  module _ (g : HearsMore r w u) (ours : is_of_stops g.hears.l.message ≡ true) where
    abbrev a : TargetHearsBy (HearsFurther g.number) r w u
    a = g.hears

    abbrev z : TargetState
    z = target_after a.s a.new a.memory

    more-moves : TargetMoves w u a.t a.s z (Some a.l) a.did.posts
    more-moves = heard-moves r w u a

    more-may : (p : Post) → Has p a.did.posts → MaySend a.l.from a.l.message p.to p.message
    more-may = more-sends g.number (target_plan r a.t) a.s.opening a.s.memory a.reading a.l.from a.l.message (kept a.s) a.new (a.memory, a.did) ours a.turn

    more-row : (q : Inquiry) → MoreInquired a.s.memory.member.inquiries a.l.message q → InquiryComes ⊥ w a.t q
    more-row q (StillThere i open') = Stays a.s a.here i
    more-row q (NowDown old i same is tells) = IsAnswered a.s old a.here i (λ undecided. let bad : state.Down ≡ state.Undecided = sym is ∙ undecided in let no : ⊥ = cc in absurd no)

    unsent : (m : ℕ) (x : AttemptId) (l : Letter) (p : Post) → Has p a.did.posts → l ≡ letter_of (target a.t) p → IsQueryOf m x None l → ⊥
    unsent m x l p i same (IsQuery leader is from to) = subst (MaySend a.l.from a.l.message p.to) (sym (ap (λ n. n.message) same) ∙ is) (more-may p i)
    unsent m x l p i same (IsVerdict inc said is to) =
        let s = subst (MaySend a.l.from a.l.message p.to) (sym (ap (λ n. n.message) same) ∙ is) (more-may p i) in
        let bad : false ≡ true = sym (ap is_of_stops s.0) ∙ ours in (let no : ⊥ = cc in no)

    more-comes : InquiriesCome ⊥ r w u
    more-comes = record {
      rows = λ m y q here i. elim (one-or_another m a.t) [
        | inl same ↦
            let is : Some z ≡ Some y = sym (now-here w u a.t a.s z (Some a.l) a.did.posts more-moves) ∙ ap (slice_get u.targets) (sym same) ∙ here in
            subst (λ n. InquiryComes ⊥ w n q) (sym same)
            (more-row q (more-inquired g.number (target_plan r a.t) a.s.opening a.s.memory a.reading a.l.from a.l.message (kept a.s) a.new (a.memory, a.did) ours a.turn q
            (subst (λ x. Has q x.memory.member.inquiries) (let one : y ≡ z = cc in one) i)))
        | inr other ↦ Stays y (sym (same-there w u a.t a.s z (Some a.l) a.did.posts more-moves m other) ∙ here) i
      ];
      letters = λ m x l i q. elim (more-moves.comes l i) [ inl old ↦ WasFlying old | inr new ↦ absurd (unsent m x l new.0 new.1 new.2 q) ];
    }

  -- a target hears of a snapshot or an aggregation: what it inquires stays, and it asks nothing
  module _ (f : HearsMore r w u) (is : IsOfMaking f.hears.l.message) where
    abbrev making : TargetHearsBy (HearsFurther f.number) r w u
    making = f.hears

    abbrev made : TargetState
    made = target_after making.s making.new making.memory

    left : MakingLeaves f.number (target_plan r making.t) making.s.memory making.reading making.l.from making.l.message (kept making.s) making.new (making.memory, making.did)
    left =
        hearings-leave f.number (target_plan r making.t) making.s.opening making.s.memory making.reading making.l.from making.l.message (kept making.s) making.new
        (making.memory, making.did) making.turn is

    making-moves : TargetMoves w u making.t making.s made (Some making.l) making.did.posts
    making-moves = heard-moves r w u making

    making-asks_none : (m : ℕ) (x : AttemptId) (l : Letter) (p : Post) → Has p making.did.posts → l ≡ letter_of (target making.t) p → IsQueryOf m x None l → ⊥
    making-asks_none m x l p i same =
        query-unsent m x None l
        (subst (λ n. is_sent_in_making n.message ≡ true) (sym same)
        (making-sent (target_plan r making.t) making.s.memory making.l.from making.l.message making.new.durable making.did.posts left.ends.sends p i))

    making-comes : InquiriesCome ⊥ r w u
    making-comes = record {
      rows = λ m y q here i. elim (one-or_another m making.t) [
        | inl same ↦
            let is' : Some made ≡ Some y = sym (now-here w u making.t making.s made (Some making.l) making.did.posts making-moves) ∙ ap (slice_get u.targets) (sym same) ∙ here in
            subst (λ n. InquiryComes ⊥ w n q) (sym same)
            (Stays making.s making.here (subst (λ n. Has q n.inquiries) left.ends.knows.member (subst (λ x. Has q x.memory.member.inquiries) (let one : y ≡ made = cc in one) i)))
        | inr other ↦ Stays y (sym (same-there w u making.t making.s made (Some making.l) making.did.posts making-moves m other) ∙ here) i
      ];
      letters = λ m x l i q. elim (making-moves.comes l i) [ inl old ↦ WasFlying old | inr new ↦ absurd (making-asks_none m x l new.0 new.1 new.2 q) ];
    }

  -- what is heard besides is of attempts
  further-comes : (g : HearsMore r w u) (b : Bool) → tells_of_snapshots g.hears.l.message ≡ b → InquiriesCome ⊥ r w u
  further-comes g true is = making-comes g is
  further-comes g false off = more-comes g (no-collections r w u (Further g) (of-attempts g.hears.l.message off))

  -- targets stop, open, or are given up
  no-query : (m : ℕ) (x : AttemptId) (l : Letter) → is_news l.message ≡ true → IsQueryOf m x None l → ⊥
  no-query m x l news (IsQuery leader is from to) = let bad : false ≡ true = sym (ap is_news is) ∙ news in let no : ⊥ = cc in no
  no-query m x l news (IsVerdict inc said is to) = let bad : false ≡ true = sym (ap is_news is) ∙ news in let no : ⊥ = cc in no

  loss-comes : IsLoss w u → ((l : Letter) → Has l u.messages → Has l w.messages ⊎ (is_news l.message ≡ true)) → InquiriesCome ⊥ r w u
  loss-comes i came = record {
    rows = λ m s q here j. elim (i.knows.memory m s here) [
      | inl none ↦ absurd (subst (Has q) none.inquiries j)
      | inr z ↦ Stays z.0 z.1 (subst (λ y. Has q y.member.inquiries) z.2 j)
    ];
    letters = λ m x l j q. elim (came l j) [ inl old ↦ WasFlying old | inr news ↦ absurd (no-query m x l news q) ];
  }

  cut-came : (g : TargetCut r w u) (l : Letter) → Has l u.messages → Has l w.messages ⊎ (is_news l.message ≡ true)
  cut-came g l i = elim (has-cases (filter (is_not_to g.t) w.messages) (resets g.t false w.asked) l (subst (Has l) (ap (λ y. y.messages) g.after) i)) [
    | inl before ↦ inl (has-from_filter (is_not_to g.t) w.messages l before).0
    | inr new ↦ let q = has-from_map (reset_letter false) (filter (is_to g.t) w.asked) l new in inr (subst (λ y. is_news y.message ≡ true) q.2 refl)
  ]

  -- whatever happens
  pub inquiries-come : (h later : History) → Attempts r h w → Attempts r later u → (e : Happening r w u) → InquiriesCome (IsSettling e) r w u
  inquiries-come h later A B (Plainly (ByClient g) up) = client-comes ⊥ later (knows-fates r later u B) (goes-moves r w u g)
  inquiries-come h later A B (Plainly (ToClient g) up) = client-comes ⊥ later (knows-fates r later u B) (hears-moves r w u g)
  inquiries-come h later A B (Plainly (ToTarget g) up) = heard-comes h (knows-fates r h w A) (rightly r w u g (letters-tell r h w A g.l g.t g.s (has-taken w.messages g.l g.rest g.takes) g.to_it g.here))
  inquiries-come h later A B (Plainly (ByTarget g) up) = idle-comes g
  inquiries-come h later A B (Further g) = further-comes g (tells_of_snapshots g.hears.l.message) refl
  inquiries-come h later A B (IsCut g) = loss-comes (cut_loss w u g.t g.s g.cut g.here g.after) (cut-came g)
  inquiries-come h later A B (Opens g) = loss-comes (opening_loss r w u g) (λ l i. elim ((opening-leaves r h h w u (λ x a. a) A.on.quiet g).came l i) [ inl old ↦ inl old.0 | inr news ↦ inr news ])
  inquiries-come h later A B (Fails g) = loss-comes (failing_loss r w u A.on.quiet g) (λ l i. elim ((failing-leaves r h h w u (λ x a. a) A.on.quiet g).came l i) [ inl old ↦ inl old.0 | inr news ↦ inr news ])
  inquiries-come h later A B (GivenUp g) = loss-comes (given_up_loss r w u A.on.quiet g) (λ l i. elim ((given_up-leaves r h h w u (λ x a. a) A.on.quiet g).came l i) [ inl old ↦ inl old.0 | inr news ↦ inr news ])
  inquiries-come h later A B (Draws g) = loss-comes (drawing_loss w u g) (λ l i. elim ((drawing-leaves r h h w u (λ x a. a) g).came l i) [ inl old ↦ inl old.0 | inr news ↦ inr news ])

-- what goes to targets that are given up is lost
pub swept-come : (r : Rules) (h : History) (u : World) → Attempts r h u → InquiriesCome ⊥ r u (swept u)
swept-come r h u A = loss-comes r u (swept u) (sweeping_loss u A.on.quiet) (λ l i. elim ((sweeping-leaves r h u A.on.quiet).came l i) [ inl old ↦ inl old.0 | inr news ↦ inr news ])
