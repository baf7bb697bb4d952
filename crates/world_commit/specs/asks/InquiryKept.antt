-- Every right event keeps what is said of inquiries: of those without an answer, of those that are down, and of those that are to be told.
use Rattle.std.specs.Prelude.{ℕ, ◌≡◌, ◌==◌, false, slice_get, Option, Some, None, refl}
use Rattle.std.proofs.Common.{sym, ◌∙◌, ap, subst, inl, inr, arith}
use Rattle.std.proofs.lemmas.Bool.Decides.{nat_tests}
use Rattle.base_types.specs.declared.entry.Entry.{Entry}
use Rattle.base_types.specs.declared.entry.Verdict.{Verdict}
use Rattle.base_types.specs.declared.entry.Verdict.TheVariants as verdict
use Rattle.base_types.specs.declared.id.AttemptId.{AttemptId}
use Rattle.model_laws.specs.Members.{Has}
use Rattle.base_messages.specs.declared.message.Message.{Message}
use Rattle.base_messages.specs.declared.message.Message.TheVariants as message
use Rattle.base_messages.specs.declared.message.Post.{Post}
use Rattle.daos_model.specs.Durables.{entry_of}
use Rattle.dtx_base.specs.declared.member.Inquiry.{Inquiry}
use Rattle.dtx_base.specs.declared.member.QueryState.TheVariants as state
use Rattle.dtx_base.specs.Joining.{inquiry_for, new_inquiry}
use Rattle.dtx_base.specs.Leading.{entry_attempt, query_answer}
use Rattle.world_commit.specs.asks.Asks.{Flies, IsQuery, IsQueryOf, IsToBeTold, IsUndecidedTold, IsVerdict, NonePrepares}
use Rattle.world_commit.specs.asks.InquiryLaws.{InquiryAfter, IsInquired, WasAnswered, WasThere, hears-inquired, idles-inquired, queried, undecided-kept}
use Rattle.world_commit.specs.asks.Knowing.{CommitsAreNew, KnowsAttempts, TellsOf}
use Rattle.world_commit.specs.asks.Moving.{ClientMoves, TargetMoves, heard-moves, idle-moves, now-here, same-there}
use Rattle.world_commit.specs.asks.ParkedLaws.{IsOpenStill}
use Rattle.world_commit.specs.asks.Sending.{MaySend, hears-sends}
use Rattle.world_commit.specs.asks.Told.{LeavesTold, born-on, client-leaves, no-client, refused-told}
use Rattle.world_commit.specs.asks.ToldTurns.{AMark, AnInquiry, IsIdlySent, hears-leaves, idles-leave, idles-sends}
use Rattle.world_commit.specs.attempts.Attempts.{IsBorn, IsHeld, IsItsEntry, IsOther, entry_at, entry_in, leader_of}
use Rattle.world_commit.specs.attempts.Counting.{has-taken}
use Rattle.world_commit.specs.attempts.History.{Aborted, History}
use Rattle.world_commit.specs.attempts.Stored.{row-found, target-is}
use Rattle.world_commit.specs.attempts.Turning.{one-or_another}
use Rattle.world_base.specs.declared.letter.Letter.{Letter}
use Rattle.world_base.specs.declared.target.TargetState.{TargetState}
use Rattle.world_base.specs.declared.world.World.{World}
use Rattle.world_base.specs.Events.{Rules, TargetHearsRightly, TargetIdles, kept, target_after, target_plan}
use Rattle.world_base.specs.Letters.{client, letter_of, target}
use Rattle.world_base.specs.RightTurns.{HearsRightly}
use Rattle.world_base.specs.Roles.{leader_at}

-- ---- the statement

-- What is said of an inquiry: without an answer, its question is somewhere; where its leader is down, that is known so; and one that was
-- answered undecided is to be told. It is of an attempt that another target leads, and of which a Prepare was heard.
pub record InquirySo (C D : World → ℕ → AttemptId → Type 0) (T : History → World → ℕ → AttemptId → Type 0) (r : Rules) (h : History) (w : World) (m : ℕ) (q : Inquiry) : Type 0 where
  pub other : IsOther r q.attempt m
  pub born : IsBorn r h w q.attempt
  pub heard : NonePrepares w m q.attempt
  pub down : q.state ≡ state.Down → D w m q.attempt
  pub unanswered : q.state ≡ state.Unanswered → C w m q.attempt
  pub undecided : q.state ≡ state.Undecided → T h w m q.attempt

pub record InquiriesSo (C D : World → ℕ → AttemptId → Type 0) (T : History → World → ℕ → AttemptId → Type 0) (r : Rules) (h : History) (w : World) : Type 0 where
  pub rows : (m : ℕ) (s : TargetState) (q : Inquiry) → slice_get w.targets m ≡ Some s → Has q s.memory.member.inquiries → InquirySo C D T r h w m q
  pub heard : (m : ℕ) (x : AttemptId) → IsOther r x m → Flies w (IsQueryOf m x None) → NonePrepares w m x
  pub told : (m : ℕ) (x : AttemptId) → Flies w (IsUndecidedTold m x) → T h w m x

-- what stays in an event of what isn't answered in it, of who is down, and of what is to be told; and what is to be told as without stops is so
pub record SenseStays (D : World → ℕ → AttemptId → Type 0) (T : History → World → ℕ → AttemptId → Type 0) (r : Rules) (h later : History) (w v : World) : Type 0 where
  pub down : (m : ℕ) (x : AttemptId) → D w m x → D v m x
  pub told : (m : ℕ) (x : AttemptId) → IsOther r x m → NonePrepares w m x → T h w m x → T later v m x
  pub plainly : (m : ℕ) (x : AttemptId) → IsToBeTold r v m x → T later v m x

-- ---- what a letter that is there already says stays

module _ (C D : World → ℕ → AttemptId → Type 0) (T : History → World → ℕ → AttemptId → Type 0) (r : Rules) (h later : History) (w v : World) (A : KnowsAttempts r h w) (B : KnowsAttempts r later v) (k : InquiriesSo C D T r h w) (L : LeavesTold r h later w v) (S : SenseStays D T r h later w v) where
  -- what a Query or a Verdict is about was heard of
  asked-born : (m : ℕ) (x : AttemptId) (l : Letter) → Has l w.messages → IsQueryOf m x None l → IsBorn r h w x
  asked-born m x l i (IsQuery leader is from to) = (A.asked l x None i is).1
  asked-born m x l i (IsVerdict inc said is to) = A.answered l x None inc said i is

  pub still-heard : (m : ℕ) (x : AttemptId) → IsOther r x m → Flies w (IsQueryOf m x None) → NonePrepares v m x
  still-heard m x other f = L.prepares m x (asked-born m x f.0 f.1 f.2) (k.heard m x other f)

  pub still-told : (m : ℕ) (x : AttemptId) → Flies w (IsUndecidedTold m x) → T later v m x
  still-told m x f =
      let way = A.told f.0 x f.1 (subst (TellsOf x) (sym f.2.says) refl) in
      let other : IsOther r x m = subst (IsOther r x) (target-is way.member m (sym way.receiver ∙ f.2.to)) way.other in
      S.told m x other (k.heard m x other (f.0, f.1, IsVerdict f.2.inc verdict.Undecided f.2.says f.2.to)) (k.told m x f)

  -- an inquiry from before that isn't answered
  pub still-inquired : (m : ℕ) (q : Inquiry) → (C w m q.attempt → C v m q.attempt) → InquirySo C D T r h w m q → InquirySo C D T r later v m q
  still-inquired m q on z = record {
    other = z.other;
    born = born-on r h later w v B L q.attempt z.born;
    heard = L.prepares m q.attempt z.born z.heard;
    down = λ is. S.down m q.attempt (z.down is);
    unanswered = λ is. on (z.unanswered is);
    undecided = λ is. S.told m q.attempt z.other z.heard (z.undecided is);
  }

-- ---- a client's turn

module _ (C D : World → ℕ → AttemptId → Type 0) (T : History → World → ℕ → AttemptId → Type 0) (r : Rules) (h later : History) (w v : World) (grown : (x : AttemptId) → Aborted h x → Aborted later x) (A : KnowsAttempts r h w) (B : KnowsAttempts r later v)
    (k : InquiriesSo C D T r h w) (g : ClientMoves w v) (S : SenseStays D T r h later w v) where
  client-left : LeavesTold r h later w v
  client-left = client-leaves r h later w v grown B g

  -- no client asks what became of an attempt, nor answers that
  no-query : (m : ℕ) (x : AttemptId) (ask : Option AttemptId) (l : Letter) → Has l v.messages → (n : ℕ) → l.from ≡ client n → IsQueryOf m x ask l → ⊥
  no-query m x ask l i n from (IsQuery leader is sender to) = no-client n m l.from from sender
  no-query m x ask l i n from (IsVerdict inc said is to) = no-client n (leader_of r x) l.from from (B.told l x i (subst (TellsOf x) (sym is) refl)).sender

  pub client-inquiries : ((m : ℕ) (x : AttemptId) → C w m x → C v m x) → InquiriesSo C D T r later v
  client-inquiries on = record {
    rows = λ m s q here i. still-inquired C D T r h later w v A B k client-left S m q (on m q.attempt) (k.rows m s q (subst (λ ts. slice_get ts m ≡ Some s) g.targets here) i);
    heard = λ m x other f. elim (g.comes f.0 f.1) [
      | inl old ↦ still-heard C D T r h later w v A B k client-left S m x other (f.0, old, f.2)
      | inr new ↦ absurd (no-query m x None f.0 f.1 new.0 new.1 f.2)
    ];
    told = λ m x f. elim (g.comes f.0 f.1) [
      | inl old ↦ still-told C D T r h later w v A B k client-left S m x (f.0, old, f.2)
      | inr new ↦ absurd (no-query m x None f.0 f.1 new.0 new.1 (IsVerdict f.2.inc verdict.Undecided f.2.says f.2.to))
    ];
  }

-- ---- a target hears a message

module _ (C D : World → ℕ → AttemptId → Type 0) (T : History → World → ℕ → AttemptId → Type 0) (r : Rules) (h later : History) (w v : World) (Q : CommitsAreNew r h w) (grown : (x : AttemptId) → Aborted h x → Aborted later x) (A : KnowsAttempts r h w) (B : KnowsAttempts r later v)
    (k : InquiriesSo C D T r h w) (g : TargetHearsRightly r w v) (S : SenseStays D T r h later w v) (on : (m : ℕ) (x : AttemptId) → (m ≡ g.t → IsOpenStill x None g.l.message) → C w m x → C v m x) where
  leaves : LeavesTold r h later w v
  leaves = hears-leaves r h later w v Q A B grown g

  moves : TargetMoves w v g.t g.s (target_after g.s g.new g.memory) (Some g.l) g.did.posts
  moves = heard-moves r w v g

  taken : Has g.l w.messages
  taken = has-taken w.messages g.l g.rest g.takes

  turn-of : (said : Message) → g.l.message ≡ said → HearsRightly (target_plan r g.t) g.s.opening g.s.memory g.reading g.l.from said (kept g.s) g.new (g.memory, g.did)
  turn-of said is = subst (λ q. HearsRightly (target_plan r g.t) g.s.opening g.s.memory g.reading g.l.from q (kept g.s) g.new (g.memory, g.did)) is g.turn

  -- one that was answered undecided
  now-answered : (q old : Inquiry) (inc : ℕ) → InquirySo C D T r h w g.t old → old.attempt ≡ q.attempt → q.state ≡ state.Undecided → g.l.message ≡ message.Verdict q.attempt None inc verdict.Undecided → InquirySo C D T r later v g.t q
  now-answered q old inc z same is says = record {
    other = subst (λ x. IsOther r x g.t) same z.other;
    born = born-on r h later w v B leaves q.attempt (subst (IsBorn r h w) same z.born);
    heard = leaves.prepares g.t q.attempt (subst (IsBorn r h w) same z.born) (subst (NonePrepares w g.t) same z.heard);
    down = λ down. let no : ⊥ = cc in absurd no;
    unanswered = λ yet. let no : ⊥ = cc in absurd no;
    undecided = λ known. still-told C D T r h later w v A B k leaves S g.t q.attempt (g.l, taken, record { inc = inc; says = says; to = g.to_it });
  }

  row-here : (q : Inquiry) → InquiryAfter g.s.memory.member.inquiries g.l.message q → InquirySo C D T r later v g.t q
  row-here q (WasThere i open') = still-inquired C D T r h later w v A B k leaves S g.t q (on g.t q.attempt (λ same. open')) (k.rows g.t g.s q g.here i)
  row-here q (WasAnswered inc old i same is says) = now-answered q old inc (k.rows g.t g.s old g.here i) same is says

  -- a Verdict that it sends answers a Query that it heard
  sent-verdict : (m : ℕ) (x : AttemptId) (inc : ℕ) (v' : Verdict) (p : Post) → Has p g.did.posts → p.message ≡ message.Verdict x None inc v' → p.to ≡ target m → (g.l.message ≡ message.Query x None) × (g.l.from ≡ target m)
  sent-verdict m x inc v' p i is to =
      let s = subst (MaySend g.l.from g.l.message p.to) is (hears-sends (target_plan r g.t) g.s.opening g.s.memory g.reading g.l.from g.l.message (kept g.s) g.new (g.memory, g.did) g.turn p i) in
      (s.0, sym s.1 ∙ to)

  query-there : (m : ℕ) (x : AttemptId) → (g.l.message ≡ message.Query x None) × (g.l.from ≡ target m) → Flies w (IsQueryOf m x None)
  query-there m x q = (g.l, taken, IsQuery g.t q.0 q.1 g.to_it)

  new-heard : (m : ℕ) (x : AttemptId) (l : Letter) (p : Post) → IsOther r x m → Has p g.did.posts → l ≡ letter_of (target g.t) p → IsQueryOf m x None l → NonePrepares v m x
  new-heard m x l p other i same (IsQuery leader is from to) =
      absurd (subst (MaySend g.l.from g.l.message p.to) (sym (ap (λ z. z.message) same) ∙ is) (hears-sends (target_plan r g.t) g.s.opening g.s.memory g.reading g.l.from g.l.message (kept g.s) g.new (g.memory, g.did) g.turn p i))
  new-heard m x l p other i same (IsVerdict inc said is to) =
      still-heard C D T r h later w v A B k leaves S m x other
      (query-there m x (sent-verdict m x inc said p i (sym (ap (λ z. z.message) same) ∙ is) (sym (ap (λ z. z.to) same) ∙ to)))

  -- an answer that an attempt isn't decided comes of its leader, which holds it
  new-told : (m : ℕ) (x : AttemptId) (l : Letter) (p : Post) → Has p g.did.posts → l ≡ letter_of (target g.t) p → IsUndecidedTold m x l → IsToBeTold r v m x
  new-told m x l p i same u =
      let q = sent-verdict m x u.inc verdict.Undecided p i (sym (ap (λ z. z.message) same) ∙ u.says) (sym (ap (λ z. z.to) same) ∙ u.to) in
      let way = (A.asked g.l x None taken q.0).0 in
      let other : IsOther r x m = subst (IsOther r x) (target-is way.member m (sym way.sender ∙ q.1)) way.other in
      let leads : g.t ≡ leader_of r x = target-is g.t (leader_of r x) (sym g.to_it ∙ way.receiver) in
      let says : p.message ≡ message.Verdict x None g.s.durable.incarnation (query_answer x (leader_at (target_plan r g.t) g.s.memory g.s.durable)) =
      queried (target_plan r g.t) g.s.memory g.l.from x None (kept g.s) g.new (g.memory, g.did) (turn-of (message.Query x None) q.0) p i in
      let same_said : message.Verdict x None g.s.durable.incarnation (query_answer x (leader_at (target_plan r g.t) g.s.memory g.s.durable)) ≡ message.Verdict x None u.inc verdict.Undecided = sym says ∙ sym (ap (λ n. n.message) same) ∙ u.says in
      let undecided : query_answer x (leader_at (target_plan r g.t) g.s.memory g.s.durable) ≡ verdict.Undecided = cc in
      let e = undecided-kept (target_plan r g.t) g.s.memory g.s.durable x undecided in
      let held : IsHeld w (leader_of r x) x = subst (λ n. IsHeld w n x) leads (record { entry = e.0; found = ap (λ o. entry_in o x) g.here ∙ e.1 }) in
      refused-told r h later w v B leaves m x other (leaves.kept x held)

  pub heard-inquiries : InquiriesSo C D T r later v
  heard-inquiries = record {
    rows = λ m y q here i. elim (one-or_another m g.t) [
      | inl same ↦
          let is : Some (target_after g.s g.new g.memory) ≡ Some y = sym (now-here w v g.t g.s (target_after g.s g.new g.memory) (Some g.l) g.did.posts moves) ∙ ap (slice_get v.targets) (sym same) ∙ here in
          subst (λ n. InquirySo C D T r later v n q) (sym same)
          (row-here q (hears-inquired (target_plan r g.t) g.s.opening g.s.memory g.reading g.l.from g.l.message (kept g.s) g.new (g.memory, g.did) g.turn q
          (subst (λ x. Has q x.memory.member.inquiries) (let one : y ≡ target_after g.s g.new g.memory = cc in one) i)))
      | inr other ↦
          still-inquired C D T r h later w v A B k leaves S m q (on m q.attempt (λ e. absurd (other e)))
          (k.rows m y q (sym (same-there w v g.t g.s (target_after g.s g.new g.memory) (Some g.l) g.did.posts moves m other) ∙ here) i)
    ];
    heard = λ m x other f. elim (moves.comes f.0 f.1) [
      | inl old ↦ still-heard C D T r h later w v A B k leaves S m x other (f.0, old, f.2)
      | inr new ↦ new-heard m x f.0 new.0 other new.1 new.2 f.2
    ];
    told = λ m x f. elim (moves.comes f.0 f.1) [
      | inl old ↦ still-told C D T r h later w v A B k leaves S m x (f.0, old, f.2)
      | inr new ↦ S.plainly m x (new-told m x f.0 new.0 new.1 new.2 f.2)
    ];
  }

-- ---- a target does its idle work

module _ (C D : World → ℕ → AttemptId → Type 0) (T : History → World → ℕ → AttemptId → Type 0) (r : Rules) (h later : History) (w v : World) (grown : (x : AttemptId) → Aborted h x → Aborted later x) (A : KnowsAttempts r h w) (B : KnowsAttempts r later v) (k : InquiriesSo C D T r h w)
    (g : TargetIdles r w v) (S : SenseStays D T r h later w v) (on : (m : ℕ) (x : AttemptId) → C w m x → C v m x) (new : (m : ℕ) (x : AttemptId) → Flies v (IsQueryOf m x None) → C v m x) where
  idle-leaves : LeavesTold r h later w v
  idle-leaves = idles-leave r h later w v g grown

  idle-moved : TargetMoves w v g.t g.s (target_after g.s g.new g.memory) None g.did.posts
  idle-moved = idle-moves r w v g

  -- what is asked of is an entry here
  asked-found : (e : Entry) → IsInquired g.t g.new.durable g.did.posts e → entry_at v g.t e.attempt ≡ Some e
  unfolding entry_of
  asked-found e a =
      let there = now-here w v g.t g.s (target_after g.s g.new g.memory) None g.did.posts idle-moved in
      ap (λ o. entry_in o e.attempt) there ∙ row-found entry_attempt g.new.durable.entries e (B.ordered g.t (target_after g.s g.new g.memory) there).entries a.kept

  asked-its : (e : Entry) → IsInquired g.t g.new.durable g.did.posts e → IsItsEntry r v e.attempt g.t e
  asked-its e a = (B.entries e.attempt).one g.t e (asked-found e a)

  asked-other : (e : Entry) → IsInquired g.t g.new.durable g.did.posts e → IsOther r e.attempt g.t
  asked-other e a = elim (asked-its e a).place [
    | inl leads ↦ (let led : (e.leader == g.t) ≡ false = a.led in let same : e.leader ≡ g.t = (asked-its e a).leader ∙ sym leads in let no : ⊥ = grind (arith, nat_tests) in absurd no)
    | inr other ↦ other
  ]

  none-prepares : (e : Entry) → IsInquired g.t g.new.durable g.did.posts e → NonePrepares v g.t e.attempt
  none-prepares e a l i is = let found = asked-found e a in let none = B.before e.attempt g.t l i is in (let no : ⊥ = cc (found, none) in no)

  new-row : (q : Inquiry) (e : Entry) → q ≡ new_inquiry e → IsInquired g.t g.new.durable g.did.posts e → InquirySo C D T r later v g.t q
  new-row q e is a = subst (InquirySo C D T r later v g.t) (sym is) (record {
    other = asked-other e a;
    born = (B.entries e.attempt).born g.t e (asked-found e a);
    heard = none-prepares e a;
    down = λ down. let no : ⊥ = cc in absurd no;
    unanswered = λ yet. new g.t e.attempt (letter_of (target g.t) (inquiry_for e), idle-moved.posted (inquiry_for e) a.sent, IsQuery e.leader refl refl refl);
    undecided = λ known. let no : ⊥ = cc in absurd no;
  })

  idle-asks : (p : Post) → Has p g.did.posts → IsIdlySent g.t g.new.durable g.did.posts p
  idle-asks = idles-sends g.settling (target_plan r g.t) g.s.memory (kept g.s) g.new (g.memory, g.did) g.turn

  asks-heard : (m : ℕ) (x : AttemptId) (l : Letter) (p : Post) → l ≡ letter_of (target g.t) p → IsIdlySent g.t g.new.durable g.did.posts p → IsQueryOf m x None l → NonePrepares v m x
  asks-heard m x l p same (AMark inc marks is) (IsQuery leader says from to) = let one : p.message ≡ message.Query x None = sym (ap (λ z. z.message) same) ∙ says in let no : ⊥ = cc (one, is) in absurd no
  asks-heard m x l p same (AMark inc marks is) (IsVerdict inc' said says to) = let one : p.message ≡ message.Verdict x None inc' said = sym (ap (λ z. z.message) same) ∙ says in let no : ⊥ = cc (one, is) in absurd no
  asks-heard m x l p same (AnInquiry e a is) (IsQuery leader says from to) =
      let one : message.Query e.attempt None ≡ message.Query x None = sym (ap (λ z. z.message) is) ∙ sym (ap (λ z. z.message) same) ∙ says in
      let own : e.attempt ≡ x = cc in
      let here : g.t ≡ m = target-is g.t m (sym (ap (λ z. z.from) same) ∙ from) in
      subst (λ n. NonePrepares v n x) here (subst (NonePrepares v g.t) own (none-prepares e a))
  asks-heard m x l p same (AnInquiry e a is) (IsVerdict inc said says to) =
      let one : message.Query e.attempt None ≡ message.Verdict x None inc said = sym (ap (λ z. z.message) is) ∙ sym (ap (λ z. z.message) same) ∙ says in let no : ⊥ = cc in absurd no

  no-answer : (m : ℕ) (x : AttemptId) (l : Letter) (p : Post) → l ≡ letter_of (target g.t) p → IsIdlySent g.t g.new.durable g.did.posts p → IsUndecidedTold m x l → ⊥
  no-answer m x l p same (AMark inc marks is) u = let one : p.message ≡ message.Verdict x None u.inc verdict.Undecided = sym (ap (λ z. z.message) same) ∙ u.says in let no : ⊥ = cc (one, is) in no
  no-answer m x l p same (AnInquiry e a is) u = let one : message.Query e.attempt None ≡ message.Verdict x None u.inc verdict.Undecided = sym (ap (λ z. z.message) is) ∙ sym (ap (λ z. z.message) same) ∙ u.says in let no : ⊥ = cc in no

  pub idle-inquiries : InquiriesSo C D T r later v
  idle-inquiries = record {
    rows = λ m y q here i. elim (one-or_another m g.t) [
      | inl same ↦
          let is : Some (target_after g.s g.new g.memory) ≡ Some y = sym (now-here w v g.t g.s (target_after g.s g.new g.memory) None g.did.posts idle-moved) ∙ ap (slice_get v.targets) (sym same) ∙ here in
          subst (λ n. InquirySo C D T r later v n q) (sym same)
          (elim (idles-inquired g.settling (target_plan r g.t) g.s.memory (kept g.s) g.new (g.memory, g.did) g.turn q (subst (λ x. Has q x.memory.member.inquiries) (let one : y ≡ target_after g.s g.new g.memory = cc in one) i)) [
            | inl old ↦ still-inquired C D T r h later w v A B k idle-leaves S g.t q (on g.t q.attempt) (k.rows g.t g.s q g.here old)
            | inr fresh ↦ new-row q fresh.0 fresh.1 fresh.2
          ])
      | inr other ↦
          still-inquired C D T r h later w v A B k idle-leaves S m q (on m q.attempt)
          (k.rows m y q (sym (same-there w v g.t g.s (target_after g.s g.new g.memory) None g.did.posts idle-moved m other) ∙ here) i)
    ];
    heard = λ m x other f. elim (idle-moved.comes f.0 f.1) [
      | inl old ↦ still-heard C D T r h later w v A B k idle-leaves S m x other (f.0, old, f.2)
      | inr sent ↦ asks-heard m x f.0 sent.0 sent.2 (idle-asks sent.0 sent.1) f.2
    ];
    told = λ m x f. elim (idle-moved.comes f.0 f.1) [
      | inl old ↦ still-told C D T r h later w v A B k idle-leaves S m x (f.0, old, f.2)
      | inr sent ↦ absurd (no-answer m x f.0 sent.0 sent.2 (idle-asks sent.0 sent.1) f.2)
    ];
  }
