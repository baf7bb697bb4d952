-- What is said of inquiries stays so where a target hears of stops.
use Rattle.std.specs.Prelude.{ℕ, ◌≡◌, Bool, true, false, List, [], ◌∷◌, slice_get, Some, None, refl}
use Rattle.std.proofs.Common.{sym, ◌∙◌, ap, subst, inl, inr}
use Rattle.base_types.specs.declared.id.AttemptId.{AttemptId}
use Rattle.base_types.specs.declared.report.Line.TheVariants as line
use Rattle.model_laws.specs.Members.{Has, has-left}
use Rattle.base_messages.specs.declared.message.Message.{Message, more_of-Message}
use Rattle.base_messages.specs.declared.message.Message.TheVariants as message
use Rattle.base_messages.specs.declared.message.Post.{Post}
use Rattle.daos_model.specs.Durables.{entry_of}
use Rattle.dtx_base.specs.declared.member.Inquiry.{Inquiry}
use Rattle.dtx_base.specs.declared.member.QueryState.TheVariants as state
use Rattle.dtx_base.specs.Leading.{abort_to}
use Rattle.dtx_base.specs.Members.{has_target, other_members}
use Rattle.world_commit.specs.asks.Asks.{IsQuery, IsQueryOf, IsVerdict, NonePrepares}
use Rattle.world_commit.specs.asks.Entries.{BringsNot}
use Rattle.world_commit.specs.asks.InquiryKept.{InquirySo, SenseStays, still-heard, still-inquired, still-told}
use Rattle.world_commit.specs.asks.Knowing.{CommitsAreNew, KnowsAttempts, unborn-still}
use Rattle.world_commit.specs.asks.Moving.{TargetMoves, heard-moves, now-here, same-there}
use Rattle.world_commit.specs.asks.Refusing.{refusal-told}
use Rattle.world_commit.specs.asks.Sending.{MaySend}
use Rattle.world_commit.specs.asks.Told.{IsPrepareOf, IsRefused, LeavesTold, born-on, held-or, none-or, prepare-is, told-on}
use Rattle.world_commit.specs.attempts.Attempts.{IsBorn, IsItsEntry, IsOther, entry_in, leader_of}
use Rattle.world_commit.specs.attempts.Counting.{has-taken}
use Rattle.world_commit.specs.attempts.History.{Aborted, History}
use Rattle.world_commit.specs.attempts.Stored.{led-found, target-is}
use Rattle.world_commit.specs.attempts.MemberBits.{other-no_leader, others-same}
use Rattle.world_commit.specs.attempts.Turning.{one-or_another}
use Rattle.world_commit.specs.fates.Facts.{Attempts, IsAskedSo, IsQueryRight, IsSaidSo, IsStateRight, down_in, knows_down}
use Rattle.world_commit.specs.questions.Facts.{InquiriesHold, IsKnownDown, IsOnInquiry, IsTold, IsToldOrStopped, LeaderStopped, NamesFor, NamesSender, ResetsNameSenders}
use Rattle.world_commit.specs.questions.Flying.{query-more}
use Rattle.world_commit.specs.questions.Hearing.{is_of_stops}
use Rattle.world_commit.specs.questions.Known.{knows-fates}
use Rattle.world_commit.specs.questions.Sending.{KnowsDown, MoreInquired, NowDown, RefusesBy, StillThere, TellsDown, TellsOfDown, more-down, more-inquired, more-kept, more-sends, more-unprepared}
use Rattle.world_base.specs.declared.letter.Letter.{Letter}
use Rattle.world_base.specs.declared.target.TargetState.{TargetState}
use Rattle.world_base.specs.declared.world.World.{World}
use Rattle.world_base.specs.Events.{Rules, TargetHearsBy, kept, target_after, target_plan}
use Rattle.world_base.specs.Further.{HearsFurther}
use Rattle.world_base.specs.Letters.{letter_of, target}
use Rattle.world_base.specs.Roles.{leader_at}
use Rattle.world_base.specs.Stops.{HearsMore}

-- a target that hears of stops hears no Prepare and no Mark
no-mark_heard : (m : ℕ) (x : AttemptId) (q : Message) (inc : ℕ) (marks : List (AttemptId × Bool)) → is_of_stops q ≡ true → q ≡ message.Mark inc marks → ⊥
no-mark_heard m x q inc marks ours is = let bad : false ≡ true = sym (ap is_of_stops is) ∙ ours in let no : ⊥ = cc in no

module _ (r : Rules) (h later : History) (w v : World) (Q : CommitsAreNew r h w) (A : Attempts r h w) (B : KnowsAttempts r later v) (grown : (x : AttemptId) → Aborted h x → Aborted later x) (names : ResetsNameSenders w) (g : HearsMore r w v) (ours : is_of_stops g.hears.l.message ≡ true) where
  abbrev a : TargetHearsBy (HearsFurther g.number) r w v
  a = g.hears

  abbrev z : TargetState
  z = target_after a.s a.new a.memory

  K : KnowsAttempts r h w
  K = knows-fates r h w A

  moves : TargetMoves w v a.t a.s z (Some a.l) a.did.posts
  moves = heard-moves r w v a

  taken : Has a.l w.messages
  taken = has-taken w.messages a.l a.rest a.takes

  says : (m : Message) → a.l.message ≡ m → IsSaidSo r h w a.l.from a.l.to m
  says m is = subst (IsSaidSo r h w a.l.from a.l.to) is (A.on.letters a.l taken)

  sends : (p : Post) → Has p a.did.posts → MaySend a.l.from a.l.message p.to p.message
  sends = more-sends g.number (target_plan r a.t) a.s.opening a.s.memory a.reading a.l.from a.l.message (kept a.s) a.new (a.memory, a.did) ours a.turn

  -- ---- what it leaves of entries and Marks

  -- it isn't brought an attempt that was stored
  brings : (x : AttemptId) → IsBorn r h w x → (m : Message) → a.l.message ≡ m → is_of_stops m ≡ true → BringsNot x m
  brings x born (message.Commit y ep first tracker ws) is on = λ same.
      let new = Q a.l y ep first tracker ws taken is in
      unborn-still r h w y new.unstored new.unended (subst (IsBorn r h w) same born)
  brings x born (message.Prepare e first ws inc) is on = let no : ⊥ = cc in absurd no
  brings x born m is on = tt

  -- an attempt that is refused is aborted, and each other member is told
  refused : (x : AttemptId) (m : Message) → a.l.message ≡ m → RefusesBy (target_plan r a.t) a.s.memory a.s.durable x m a.did.posts → IsRefused r later v x
  refused x (message.StatusIs y inc how) is f = record {
    aborted =
        let way = (let k : IsStateRight r h w a.l.from a.l.to y inc how = says (message.StatusIs y inc how) is in k.way) in
        B.aborted (mark-to way.member) x (sent way.member (subst (λ n. IsOther r n way.member) (sym f.0) way.other)) (inl (ap (λ n. (n, false)) f.0));
    marks = λ m other. (mark-to m, sent m other, record { inc = a.s.durable.incarnation; marks = (y, false) ∷ []; mark = refl; to = refl; names = inl f.0 });
  }
    where
      found : (entry_of a.s.durable y ≡ Some f.1.entry) × (f.1.entry.leader ≡ a.t)
      found = led-found (target_plan r a.t) a.s.memory a.s.durable y f.1.entry (K.ordered a.t a.s a.here).entries f.1.led

      its : IsItsEntry r w y a.t f.1.entry
      its = (K.entries y).one a.t f.1.entry (ap (λ o. entry_in o y) a.here ∙ found.0)

      mark-to : ℕ → Letter
      mark-to m = letter_of (target a.t) (abort_to a.s.durable.incarnation y m)

      sent : (m : ℕ) → IsOther r x m → Has (mark-to m) v.messages
      sent m other =
          let among : Has m (other_members f.1.entry) = subst (Has m) (sym (others-same r y f.1.entry its.leader its.members)) (subst (λ n. IsOther r n m) f.0 other) in
          moves.posted (abort_to a.s.durable.incarnation y m) (refusal-told (leader_at (target_plan r a.t) a.s.memory a.s.durable) y _ a.did.posts f.1 m among)
  refused x m is f = absurd f

  new-prepare : (m : ℕ) (x : AttemptId) → IsBorn r h w x → (p : Post) → Has p a.did.posts → IsPrepareOf m x p.to p.message → ⊥
  new-prepare m x born p i k = commits a.l.message refl (subst (MaySend a.l.from a.l.message p.to) k.is (sends p i))
    where
      commits : (said : Message) → a.l.message ≡ said → MaySend a.l.from said p.to (message.Prepare k.e k.first k.ws k.inc) → ⊥
      commits (message.Commit y ep first tracker ws) is same =
          let new = Q a.l y ep first tracker ws taken is in
          unborn-still r h w y new.unstored new.unended (subst (IsBorn r h w) (sym k.attempt ∙ same) born)
      commits said is none = absurd none

  leaves : LeavesTold r h later w v
  leaves = record {
    aborted = grown;
    kept = λ x held. held-or w v a.t a.s z (Some a.l) a.did.posts moves (leader_of r x) x (IsRefused r later v x)
        (λ same k. elim (more-kept g.number (target_plan r a.t) a.s.opening a.s.memory a.reading a.l.from a.l.message (kept a.s) a.new (a.memory, a.did) x ours a.turn (brings x (inl held) a.l.message refl ours) k) [
          | inl still ↦ inl still
          | inr gone ↦ inr (refused x a.l.message refl gone)
        ]) held;
    none = λ m x other heard none. none-or w v a.t a.s z (Some a.l) a.did.posts moves m x
        (λ same k.
        more-unprepared g.number (target_plan r a.t) a.s.opening a.s.memory a.reading a.l.from a.l.message (kept a.s) a.new (a.memory, a.did) x ours a.turn (brings-other x (subst (IsOther r x) same other) a.l.message refl ours) k) none;
    prepares = λ m x born heard l i is. elim (moves.comes l i) [
      | inl old ↦ heard l old is
      | inr new ↦ new-prepare m x born new.0 new.1 (subst (λ n. IsPrepareOf m x n.to n.message) new.2 (prepare-is m x l is))
    ];
    marks = λ m x f. elim (moves.stays f.0 f.1) [
      | inl is ↦ absurd (no-mark_heard m x a.l.message f.2.inc f.2.marks ours (ap (λ y. y.message) (let same : a.l ≡ f.0 = cc in same) ∙ f.2.mark))
      | inr stays ↦ inl (f.0, stays, f.2)
    ];
  }
    where
      brings-other : (x : AttemptId) → IsOther r x a.t → (m : Message) → a.l.message ≡ m → is_of_stops m ≡ true → BringsNot x m
      brings-other x other (message.Commit y ep first tracker ws) is on = λ same.
          let new = Q a.l y ep first tracker ws taken is in
          other-no_leader r x a.t other (target-is a.t (leader_of r y) (sym a.to_it ∙ new.receiver) ∙ ap (leader_of r) (sym same))
      brings-other x other (message.Prepare e first ws inc) is on = let no : ⊥ = cc in absurd no
      brings-other x other m is on = tt

  -- ---- who is down

  knows : KnowsDown a.s.memory a.memory a.l.message
  knows = more-down g.number (target_plan r a.t) a.s.opening a.s.memory a.reading a.l.from a.l.message (kept a.s) a.new (a.memory, a.did) ours a.turn

  down-here : (u : ℕ) → knows_down v a.t u ≡ has_target a.memory.leader.down u
  down-here u = ap (λ o. down_in o u) (now-here w v a.t a.s z (Some a.l) a.did.posts moves)

  down-on : (m u : ℕ) → knows_down w m u ≡ true → knows_down v m u ≡ true
  down-on m u is = elim (one-or_another m a.t) [
    | inl same ↦ subst (λ n. knows_down v n u ≡ true) (sym same) (down-here u ∙ knows.known u (sym (ap (λ o. down_in o u) a.here) ∙ ap (λ n. knows_down w n u) (sym same) ∙ is))
    | inr other ↦ ap (λ o. down_in o u) (same-there w v a.t a.s z (Some a.l) a.did.posts moves m other) ∙ is
  ]

  -- the leader of an attempt is down of which its Reset says so
  down-tells : (x : AttemptId) (m : Message) → a.l.message ≡ m → TellsDown x m → TellsOfDown (leader_of r x) m
  down-tells x (message.Reset' by down place (more_of-Message q rest)) is k =
      let named : a.l.from ≡ target by = subst (NamesFor a.l.from by) k.1 (subst (NamesSender a.l.from) is (names a.l taken)) in
      let asked : IsQueryRight r h w a.l.to a.l.from x = subst (λ n. asked-so n) k.1 (says (message.Reset' by down place (more_of-Message q rest)) is) in
      (target-is by (leader_of r x) (sym named ∙ asked.way.receiver), k.0)
    where
      asked-so : Message → Type 0
      asked-so n = IsAskedSo r h w a.l.to a.l.from n
  down-tells x m is k = absurd k

  sense : SenseStays (IsKnownDown r) (IsToldOrStopped r) r h later w v
  sense = record { down = λ m x is. down-on m (leader_of r x) is; told = told; plainly = λ m x t. IsTold t }
    where
      told : (m : ℕ) (x : AttemptId) → IsOther r x m → NonePrepares w m x → IsToldOrStopped r h w m x → IsToldOrStopped r later v m x
      told m x other heard (IsTold t) = IsTold (told-on r h later w v B leaves m x other heard t)
      told m x other heard (LeaderStopped k stop) = LeaderStopped (grown x k) (stop.0, subst (Has (line.Stop stop.0 (leader_of r x))) (sym (ap (λ u. u.lines) a.after)) (has-left w.lines _ (line.Stop stop.0 (leader_of r x)) stop.1))

  -- ---- what is said of inquiries

  module _ (k : InquiriesHold r h w) where
    abbrev Holds : ℕ → Inquiry → Type 0
    Holds m q = InquirySo IsOnInquiry (IsKnownDown r) (IsToldOrStopped r) r later v m q

    now-down : (q old : Inquiry) → Has old a.s.memory.member.inquiries → old.attempt ≡ q.attempt → q.state ≡ state.Down → TellsDown q.attempt a.l.message → Holds a.t q
    now-down q old i same is tells =
        let y = k.rows a.t a.s old a.here i in
        record {
          other = subst (λ x. IsOther r x a.t) same y.other;
          born = born-on r h later w v B leaves q.attempt (subst (IsBorn r h w) same y.born);
          heard = leaves.prepares a.t q.attempt (subst (IsBorn r h w) same y.born) (subst (NonePrepares w a.t) same y.heard);
          down = λ on. down-here (leader_of r q.attempt) ∙ knows.told (leader_of r q.attempt) (down-tells q.attempt a.l.message refl tells);
          unanswered = λ yet. let no : ⊥ = cc in absurd no;
          undecided = λ known. let no : ⊥ = cc in absurd no;
        }

    row-here : (q : Inquiry) → MoreInquired a.s.memory.member.inquiries a.l.message q → Holds a.t q
    row-here q (StillThere i open') = still-inquired IsOnInquiry (IsKnownDown r) (IsToldOrStopped r) r h later w v K B k leaves sense a.t q (query-more r w v g ours a.t q.attempt None (λ same. open')) (k.rows a.t a.s q a.here i)
    row-here q (NowDown old i same is tells) = now-down q old i same is tells

    -- no question is sent, nor an answer to one
    unsent : (m : ℕ) (x : AttemptId) (l : Letter) (p : Post) → Has p a.did.posts → l ≡ letter_of (target a.t) p → IsQueryOf m x None l → ⊥
    unsent m x l p i same (IsQuery leader is from to) = subst (MaySend a.l.from a.l.message p.to) (sym (ap (λ n. n.message) same) ∙ is) (sends p i)
    unsent m x l p i same (IsVerdict inc said is to) =
        let s = subst (MaySend a.l.from a.l.message p.to) (sym (ap (λ n. n.message) same) ∙ is) (sends p i) in
        let bad : false ≡ true = sym (ap is_of_stops s.0) ∙ ours in (let no : ⊥ = cc in no)

    pub inquiries-more : InquiriesHold r later v
    inquiries-more = record {
      rows = λ m y q here i. elim (one-or_another m a.t) [
        | inl same ↦
            let is : Some z ≡ Some y = sym (now-here w v a.t a.s z (Some a.l) a.did.posts moves) ∙ ap (slice_get v.targets) (sym same) ∙ here in
            subst (λ n. Holds n q) (sym same)
            (row-here q (more-inquired g.number (target_plan r a.t) a.s.opening a.s.memory a.reading a.l.from a.l.message (kept a.s) a.new (a.memory, a.did) ours a.turn q
            (subst (λ x. Has q x.memory.member.inquiries) (let one : y ≡ z = cc in one) i)))
        | inr other ↦
            still-inquired IsOnInquiry (IsKnownDown r) (IsToldOrStopped r) r h later w v K B k leaves sense m q (query-more r w v g ours m q.attempt None (λ e. absurd (other e)))
            (k.rows m y q (sym (same-there w v a.t a.s z (Some a.l) a.did.posts moves m other) ∙ here) i)
      ];
      heard = λ m x other f. elim (moves.comes f.0 f.1) [
        | inl old ↦ still-heard IsOnInquiry (IsKnownDown r) (IsToldOrStopped r) r h later w v K B k leaves sense m x other (f.0, old, f.2)
        | inr new ↦ absurd (unsent m x f.0 new.0 new.1 new.2 f.2)
      ];
      told = λ m x f. elim (moves.comes f.0 f.1) [
        | inl old ↦ still-told IsOnInquiry (IsKnownDown r) (IsToldOrStopped r) r h later w v K B k leaves sense m x (f.0, old, f.2)
        | inr new ↦ absurd (unsent m x f.0 new.0 new.1 new.2 (IsVerdict f.2.inc _ f.2.says f.2.to))
      ];
    }
