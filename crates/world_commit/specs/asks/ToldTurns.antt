-- A target's turn leaves what questions rest on.
use Rattle.std.specs.Prelude.{ℕ, ◌≡◌, ◌⊎◌, Bool, true, false, List, [], ◌∷◌, map, Option, Some, None, refl, if◌then◌else◌}
use Rattle.std.proofs.Common.{sym, ◌∙◌, ap, subst, inl, inr}
use Rattle.base_types.specs.declared.entry.Entry.{Entry}
use Rattle.base_types.specs.declared.epoch.Epoch.{Epoch}
use Rattle.base_types.specs.declared.id.AttemptId.{AttemptId}
use Rattle.base_types.specs.declared.operation.MinorWrite.{MinorWrite}
use Rattle.base_types.specs.declared.outcome.Outcome.{Outcome}
use Rattle.model_laws.specs.Members.{Has, has-cases, has-from_map, has-map, has-right}
use Rattle.base_messages.specs.declared.message.Message.{Message}
use Rattle.base_messages.specs.declared.message.Message.TheVariants as message
use Rattle.base_messages.specs.declared.message.Post.{Post}
use Rattle.daos_model.specs.declared.durable.Durable.{Durable}
use Rattle.daos_model.specs.Durables.{entry_of}
use Rattle.dtx_base.specs.declared.leading.Naming.{Naming}
use Rattle.dtx_base.specs.Joining.{inquired, inquiry_for, to_inquire}
use Rattle.dtx_base.specs.Leading.{LeaderOf, abort_to, batched, commit_mark, mark_with, marked_attempt, marks_for, owed, to_target}
use Rattle.dtx_base.specs.Members.{all_targets, other_members}
use Rattle.dtx_base.specs.Rows.{is_empty}
use Rattle.world_commit.specs.asks.Asks.{IsMarkOf, NonePrepared, NonePrepares}
use Rattle.world_commit.specs.asks.Entries.{BringsNot, EndsNot, IsKept, Unprepared, hears-kept, hears-unprepared, idles-kept, idles-unprepared}
use Rattle.world_commit.specs.asks.InquiryLaws.{IsInquired, inquired-is}
use Rattle.world_commit.specs.asks.Knowing.{CommitsAreNew, KnowsAttempts, TellsOf, unborn-still}
use Rattle.world_commit.specs.asks.MarkLaws.{marked-unprepared}
use Rattle.world_commit.specs.asks.Moving.{all-stay, heard-moves, idle-moves}
use Rattle.world_commit.specs.asks.Refusing.{Refuses, ack-kept, refusal-told}
use Rattle.world_commit.specs.asks.Sending.{IsCommitOf, MaySend, hears-sends}
use Rattle.world_commit.specs.asks.Told.{IsPrepareOf, IsRefused, LeavesTold, held-or, none-or, none-there, prepare-is, prepare-of}
use Rattle.world_commit.specs.attempts.Asked.{IsCommitNew}
use Rattle.world_commit.specs.attempts.Attempts.{IsBorn, IsFromLeader, IsHeld, IsItsEntry, IsOther, entry_at, entry_in, leader_of}
use Rattle.world_commit.specs.attempts.Counting.{has-taken}
use Rattle.world_commit.specs.attempts.History.{Aborted, History}
use Rattle.world_commit.specs.attempts.Stored.{led-found, target-is}
use Rattle.world_commit.specs.attempts.MemberBits.{other-no_leader, others-same}
use Rattle.world_base.specs.declared.did.Did.{Did}
use Rattle.world_base.specs.declared.letter.Letter.{Letter}
use Rattle.world_base.specs.declared.target.TargetMemory.{TargetMemory}
use Rattle.world_base.specs.declared.target.TargetPlan.{TargetPlan}
use Rattle.world_base.specs.declared.world.World.{World}
use Rattle.world_base.specs.Events.{Rules, TargetHearsRightly, TargetIdles, kept, target_after, target_plan}
use Rattle.world_base.specs.Letters.{letter_of, target}
use Rattle.world_base.specs.Changes.{Kept}
use Rattle.world_base.specs.DoubtLaws.{IsLedElsewhere}
use Rattle.world_base.specs.Idle.{AllSettled, IdleEnds, batch_of, inquiry_of}
use Rattle.world_base.specs.RightTurns.{HearsRightly}
use Rattle.world_base.specs.Roles.{leader_at, member_at, with_unsettled}
use Rattle.world_base.specs.TargetTurns.{IdlesWhole}

-- ---- a target hears a message

module _ (r : Rules) (h later : History) (w v : World) (Q : CommitsAreNew r h w) (A : KnowsAttempts r h w) (B : KnowsAttempts r later v) (grown : (x : AttemptId) → Aborted h x → Aborted later x) (g : TargetHearsRightly r w v) where
  taken : Has g.l w.messages
  taken = has-taken w.messages g.l g.rest g.takes

  -- who leads an attempt tells others of it
  heard-way : (x : AttemptId) (said : Message) → g.l.message ≡ said → TellsOf x said → IsFromLeader r x g.l.from g.l.to
  heard-way x said is k = A.told g.l x taken (subst (TellsOf x) (sym is) k)

  -- a member of an attempt isn't its leader
  no-member : (x : AttemptId) (m : ℕ) → IsOther r x m → g.l.to ≡ target m → g.t ≡ leader_of r x → ⊥
  no-member x m other to leads = other-no_leader r x m other (target-is m g.t (sym to ∙ g.to_it) ∙ leads)

  commit-new : (x : AttemptId) (ep first : Option Epoch) (tracker : Epoch) (ws : List MinorWrite) → g.l.message ≡ message.Commit x ep first tracker ws → IsCommitNew r h w g.l.to x ep ws
  commit-new x ep first tracker ws is = Q g.l x ep first tracker ws taken is

  -- a target isn't asked to store an attempt that it leads and holds
  brings-leader : (x : AttemptId) → g.t ≡ leader_of r x → IsHeld w (leader_of r x) x → (said : Message) → g.l.message ≡ said → BringsNot x said
  brings-leader x leads held (message.Commit y ep first tracker ws) is = λ same.
      let new = commit-new y ep first tracker ws is in
      let none : entry_at w (leader_of r x) x ≡ None = ap (λ z. entry_at w (leader_of r z) z) same ∙ new.unstored in
      let found = held.found in
      (let no : ⊥ = cc (found, none) in no)
  brings-leader x leads held (message.Prepare e first ws inc) is = λ same.
      let k = heard-way e.attempt (message.Prepare e first ws inc) is refl in
      no-member e.attempt k.member k.other k.receiver (leads ∙ ap (leader_of r) same)
  brings-leader x leads held said is = tt

  -- nor told that it ended, but by an Ack
  ends-leader : (x : AttemptId) → g.t ≡ leader_of r x → (said : Message) → g.l.message ≡ said → EndsNot x said ⊎ ((inc : ℕ) × (refusal : Option Outcome) × (y : AttemptId) × (said ≡ message.Ack y inc refusal))
  ends-leader x leads (message.Mark inc marks) is = inl (λ i.
      let m = has-from_map marked_attempt marks x i in
      let k = heard-way m.0.0 (message.Mark inc marks) is (m.0.1, m.1) in
      no-member m.0.0 k.member k.other k.receiver (leads ∙ ap (leader_of r) (sym m.2)))
  ends-leader x leads (message.Verdict y ask inc c) is = inl (λ same.
      let k = heard-way y (message.Verdict y ask inc c) is refl in
      no-member y k.member k.other k.receiver (leads ∙ ap (leader_of r) same))
  ends-leader x leads (message.Ack y inc refusal) is = inr (inc, refusal, y, refl)
  ends-leader x leads said is = inl tt

  -- an attempt that is refused is aborted, and each other member is told
  refused : (x y : AttemptId) (inc : ℕ) (refusal : Option Outcome) → g.t ≡ leader_of r x → x ≡ y → g.l.message ≡ message.Ack y inc refusal
      → Refuses (leader_at (target_plan r g.t) g.s.memory g.s.durable) y refusal g.did.posts → IsRefused r later v x
  refused x y inc refusal leads same is f = record {
    aborted = let way = A.acks g.l y inc refusal taken is in let to = subst (λ z. IsOther r z way.member) (sym same) way.other in B.aborted (mark-to way.member) x (sent way.member to) (inl (ap (λ z. (z, false)) same));
    marks = λ m other. (mark-to m, sent m other, record { inc = g.s.durable.incarnation; marks = (y, false) ∷ []; mark = refl; to = refl; names = inl same });
  }
    where
      found : (entry_of g.s.durable y ≡ Some f.entry) × (f.entry.leader ≡ g.t)
      found = led-found (target_plan r g.t) g.s.memory g.s.durable y f.entry (A.ordered g.t g.s g.here).entries f.led

      its : IsItsEntry r w y g.t f.entry
      its = (A.entries y).one g.t f.entry (ap (λ o. entry_in o y) g.here ∙ found.0)

      mark-to : ℕ → Letter
      mark-to m = letter_of (target g.t) (abort_to g.s.durable.incarnation y m)

      sent : (m : ℕ) → IsOther r x m → Has (mark-to m) v.messages
      sent m other =
          let among : Has m (other_members f.entry) = subst (Has m) (sym (others-same r y f.entry its.leader its.members)) (subst (λ z. IsOther r z m) same other) in
          (heard-moves r w v g).posted (abort_to g.s.durable.incarnation y m) (refusal-told (leader_at (target_plan r g.t) g.s.memory g.s.durable) y refusal g.did.posts f m among)

  -- its leader keeps an attempt, or refuses it
  leader-kept : (x : AttemptId) → g.t ≡ leader_of r x → IsHeld w (leader_of r x) x → (said : Message) → g.l.message ≡ said → IsKept g.s.durable x → IsKept g.new.durable x ⊎ IsRefused r later v x
  leader-kept x leads held said is k = elim (ends-leader x leads said is) [
    | inl ends ↦
        inl (hears-kept (target_plan r g.t) g.s.opening g.s.memory g.reading g.l.from said (kept g.s) g.new (g.memory, g.did) x
        (subst (λ q. HearsRightly (target_plan r g.t) g.s.opening g.s.memory g.reading g.l.from q (kept g.s) g.new (g.memory, g.did)) is g.turn) (brings-leader x leads held said is) ends k)
    | inr a ↦
        let here : g.l.message ≡ message.Ack a.2 a.0 a.1 = is ∙ a.3 in
        elim (ack-kept (target_plan r g.t) g.s.memory g.l.from.number a.2 a.0 a.1 (kept g.s) x g.new (g.memory, g.did) k
        (subst (λ q. HearsRightly (target_plan r g.t) g.s.opening g.s.memory g.reading g.l.from q (kept g.s) g.new (g.memory, g.did)) here g.turn)) [
          | inl still ↦ inl still
          | inr gone ↦ inr (refused x a.2 a.0 a.1 leads gone.0 here gone.1)
        ]
  ]

  -- a member isn't brought what it was brought before
  brings-member : (x : AttemptId) → IsOther r x g.t → NonePrepares w g.t x → (said : Message) → g.l.message ≡ said → BringsNot x said
  brings-member x other heard (message.Commit y ep first tracker ws) is = λ same.
      let new = commit-new y ep first tracker ws is in
      other-no_leader r x g.t other (target-is g.t (leader_of r y) (sym g.to_it ∙ new.receiver) ∙ ap (leader_of r) (sym same))
  brings-member x other heard (message.Prepare e first ws inc) is = λ same. heard g.l taken (prepare-of g.t x g.l e first ws inc is (sym same) g.to_it)
  brings-member x other heard said is = tt

  -- what it sends anew is a Prepare only of an attempt of which nothing was before
  new-prepare : (m : ℕ) (x : AttemptId) → IsBorn r h w x → (p : Post) → Has p g.did.posts → IsPrepareOf m x p.to p.message → ⊥
  new-prepare m x born p i k =
      commits g.l.message refl
      (subst (λ n. MaySend g.l.from g.l.message p.to n) k.is (hears-sends (target_plan r g.t) g.s.opening g.s.memory g.reading g.l.from g.l.message (kept g.s) g.new (g.memory, g.did) g.turn p i))
    where
      commits : (said : Message) → g.l.message ≡ said → IsCommitOf k.e.attempt said → ⊥
      commits (message.Commit y ep first tracker ws) is same =
          let new = commit-new y ep first tracker ws is in
          unborn-still r h w y new.unstored new.unended (subst (IsBorn r h w) (sym k.attempt ∙ same) born)
      commits said is none = absurd none

  -- a Mark that it hears settles what it names
  mark-heard : (x : AttemptId) (k : IsMarkOf g.t x g.l) → Unprepared g.new.durable x
  mark-heard x k =
      marked-unprepared g.t g.s.memory g.l.from k.inc k.marks (kept g.s) g.new (g.memory, g.did) x
      (subst (λ q. HearsRightly (target_plan r g.t) g.s.opening g.s.memory g.reading g.l.from q (kept g.s) g.new (g.memory, g.did)) k.mark g.turn) k.names elsewhere
    where
      named : (q : AttemptId × Bool) × Has q k.marks × (marked_attempt q ≡ x)
      named = has-from_map marked_attempt k.marks x k.names

      elsewhere : IsLedElsewhere g.t x g.s.durable
      elsewhere e found mine =
          let tells = heard-way named.0.0 (message.Mark k.inc k.marks) k.mark (named.0.1, named.1) in
          let its = (A.entries x).one g.t e (ap (λ o. entry_in o x) g.here ∙ found) in
          no-member named.0.0 tells.member tells.other tells.receiver (sym mine ∙ its.leader ∙ ap (leader_of r) (sym named.2))

  pub hears-leaves : LeavesTold r h later w v
  hears-leaves = record {
    aborted = grown;
    kept = λ x held.
        held-or w v g.t g.s (target_after g.s g.new g.memory) (Some g.l) g.did.posts (heard-moves r w v g) (leader_of r x) x (IsRefused r later v x)
        (λ same k. leader-kept x (sym same) held g.l.message refl k) held;
    none = λ m x other heard none.
        none-or w v g.t g.s (target_after g.s g.new g.memory) (Some g.l) g.did.posts (heard-moves r w v g) m x
        (λ same k.
        hears-unprepared (target_plan r g.t) g.s.opening g.s.memory g.reading g.l.from g.l.message (kept g.s) g.new (g.memory, g.did) x g.turn
        (brings-member x (subst (IsOther r x) same other) (subst (λ n. NonePrepares w n x) same heard) g.l.message refl) k) none;
    prepares = λ m x born heard l i is. elim ((heard-moves r w v g).comes l i) [
      | inl old ↦ heard l old is
      | inr new ↦ new-prepare m x born new.0 new.1 (subst (λ n. IsPrepareOf m x n.to n.message) new.2 (prepare-is m x l is))
    ];
    marks = λ m x f. elim ((heard-moves r w v g).stays f.0 f.1) [
      | inl is ↦ inr (mark-taken m x (subst (IsMarkOf m x) (let same : f.0 ≡ g.l = cc in same) f.2))
      | inr stays ↦ inl (f.0, stays, f.2)
    ];
  }
    where
      mark-taken : (m : ℕ) (x : AttemptId) → IsMarkOf m x g.l → NonePrepared v m x
      mark-taken m x k =
          let own : m ≡ g.t = target-is m g.t (sym k.to ∙ g.to_it) in
          subst (λ n. NonePrepared v n x) (sym own)
          (none-there w v g.t g.s (target_after g.s g.new g.memory) (Some g.l) g.did.posts (heard-moves r w v g) x (mark-heard x (subst (λ n. IsMarkOf n x g.l) own k)))

-- ---- a target does its idle work

-- idle work sends Marks, and asks of what is prepared here
pub data IsIdlySent (me : ℕ) (d : Durable) (posts : List Post) (p : Post) : Type 0 where
  AMark : (inc : ℕ) (marks : List (AttemptId × Bool)) → p.message ≡ message.Mark inc marks → IsIdlySent me d posts p
  AnInquiry : (e : Entry) → IsInquired me d posts e → p ≡ inquiry_for e → IsIdlySent me d posts p

one-mark : (me : ℕ) (d : Durable) (posts : List Post) (inc t : ℕ) (ids : List AttemptId) (p : Post) → Has p (mark_with inc t ids) → IsIdlySent me d posts p
one-mark me d posts inc t ids p i = by (is_empty ids) i
  where
    by : (b : Bool) → Has p (if b then [] else to_target t (message.Mark inc (map commit_mark ids)) ∷ []) → IsIdlySent me d posts p
    by true none = absurd none
    by false (inl same) = AMark inc (map commit_mark ids) (ap (λ z. z.message) same)
    by false (inr none) = absurd none

all-marks : (me : ℕ) (d : Durable) (posts : List Post) (inc down : ℕ) (named : List Naming) (es : List Entry) (ts : List ℕ) (p : Post) → Has p (marks_for inc down named es ts) → IsIdlySent me d posts p
all-marks me d posts inc down named es [] p i = absurd i
all-marks me d posts inc down named es (t ∷ ts) p i = elim (has-cases (mark_with inc t (owed down named es t)) (marks_for inc down named es ts) p i) [
  | inl j ↦ one-mark me d posts inc t (owed down named es t) p j
  | inr j ↦ all-marks me d posts inc down named es ts p j
]

batch-marks : (me : ℕ) (d : Durable) (posts : List Post) (l : LeaderOf) (p : Post) → Has p (batched l).posts → IsIdlySent me d posts p
unfolding batched
batch-marks me d posts l p i = all-marks me d posts l.incarnation l.memory.down l.memory.named l.entries all_targets p i

inquiry-asks : (settling : Bool) (t : TargetPlan) (m : TargetMemory) (d : Durable) (posts : List Post) → ((p : Post) → Has p (inquiry_of settling t m d).freed.posts → Has p posts)
    → (p : Post) → Has p (inquiry_of settling t m d).freed.posts → IsIdlySent t.me d posts p
unfolding inquired
inquiry-asks false t m d posts sent p i = absurd i
inquiry-asks true t m d posts sent p i =
    let e = has-from_map inquiry_for (to_inquire d.entries (member_at t m)) p i in
    AnInquiry e.0 (inquired-is t.me d (member_at t m) posts e.0 refl e.1 (sent (inquiry_for e.0) (has-map inquiry_for (to_inquire d.entries (member_at t m)) e.0 e.1))) (sym e.2)

idle-sends : (settling : Bool) (t : TargetPlan) (m : TargetMemory) (s : List AttemptId) (k : Kept) (left : TargetMemory × Did) → IdleEnds settling t m s k left
    → (p : Post) → Has p left.1.posts → IsIdlySent t.me k.durable left.1.posts p
idle-sends settling t m s k left (AllSettled j z is) p i =
    subst (λ x. IsIdlySent t.me k.durable x.1.posts p) (sym is)
    (elim (has-cases (batch_of t m k.durable).posts (inquiry_of settling t m k.durable).freed.posts p (subst (λ x. Has p x.1.posts) is i)) [
      | inl old ↦ batch-marks t.me k.durable _ (leader_at t (with_unsettled [] m) k.durable) p old
      | inr new ↦ inquiry-asks settling t m k.durable _ (λ q at. has-right (batch_of t m k.durable).posts (inquiry_of settling t m k.durable).freed.posts q at) p new
    ])

pub idles-sends : (settling : Bool) (t : TargetPlan) (m : TargetMemory) (old new : Kept) (left : TargetMemory × Did) → IdlesWhole settling t m old new left
    → (p : Post) → Has p left.1.posts → IsIdlySent t.me new.durable left.1.posts p
idles-sends settling t m old new left h = idle-sends settling t m h.last new left h.ends

module _ (r : Rules) (h later : History) (w v : World) (g : TargetIdles r w v) where
  idle-no-prepare : (m : ℕ) (x : AttemptId) (p : Post) → IsIdlySent g.t g.new.durable g.did.posts p → IsPrepareOf m x p.to p.message → ⊥
  idle-no-prepare m x p (AMark inc marks is) k = let no : ⊥ = cc (is, k.is) in no
  idle-no-prepare m x p (AnInquiry e asked is) k = let other : p.message ≡ message.Query e.attempt None = ap (λ z. z.message) is in (let no : ⊥ = cc (other, k.is) in no)

  pub idles-leave : ((x : AttemptId) → Aborted h x → Aborted later x) → LeavesTold r h later w v
  idles-leave grown = record {
    aborted = grown;
    kept = λ x held.
        held-or w v g.t g.s (target_after g.s g.new g.memory) None g.did.posts (idle-moves r w v g) (leader_of r x) x (IsRefused r later v x)
        (λ same k. inl (idles-kept g.settling (target_plan r g.t) g.s.memory (kept g.s) g.new (g.memory, g.did) x g.turn k)) held;
    none = λ m x other heard none.
        none-or w v g.t g.s (target_after g.s g.new g.memory) None g.did.posts (idle-moves r w v g) m x
        (λ same k. idles-unprepared g.settling (target_plan r g.t) g.s.memory (kept g.s) g.new (g.memory, g.did) x g.turn k) none;
    prepares = λ m x born heard l i is. elim ((idle-moves r w v g).comes l i) [
      | inl old ↦ heard l old is
      | inr new ↦ idle-no-prepare m x new.0 (idles-sends g.settling (target_plan r g.t) g.s.memory (kept g.s) g.new (g.memory, g.did) g.turn new.0 new.1) (subst (λ n. IsPrepareOf m x n.to n.message) new.2 (prepare-is m x l is))
    ];
    marks = λ m x f. inl (f.0, all-stay w v g.t g.s (target_after g.s g.new g.memory) g.did.posts (idle-moves r w v g) f.0 f.1, f.2);
  }
