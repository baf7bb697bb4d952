-- What clients do keeps what is frozen where.
use Rattle.std.specs.Prelude.{ℕ, ◌≡◌, ◌<◌, ◌⊎◌, ◌++◌, Bool, true, false, List, [], ◌∷◌, map, slice_get, Option, Some, None, refl}
use Rattle.std.proofs.Common.{append-nil, sym, ◌∙◌, ap, subst, inl, inr}
use Rattle.std.proofs.lemmas.Bool.{cases_eq}
use Rattle.base_types.specs.declared.epoch.Epoch.{Epoch}
use Rattle.base_types.specs.declared.id.AttemptId.{AttemptId}
use Rattle.base_types.specs.declared.id.ContId.{ContId}
use Rattle.base_types.specs.declared.key.Key.{Key}
use Rattle.base_types.specs.declared.operation.Op.{Op}
use Rattle.base_types.specs.declared.outcome.Outcome.{Outcome}
use Rattle.base_types.specs.declared.outcome.Outcome.TheVariants.{Committed}
use Rattle.base_types.specs.declared.report.Attempt.{Attempt}
use Rattle.base_types.specs.declared.report.Line.{Line}
use Rattle.base_types.specs.declared.report.Line.TheVariants as line
use Rattle.base_types.specs.declared.script.Command.{Command}
use Rattle.base_types.specs.declared.script.Command.TheVariants as command
use Rattle.base_messages.specs.declared.actor.ActorId.{ActorId}
use Rattle.base_messages.specs.declared.message.Message.{Message, more_of-Message}
use Rattle.base_messages.specs.declared.message.Message.TheVariants as message
use Rattle.base_messages.specs.declared.message.Post.{Post}
use Rattle.model_laws.specs.Members.{Has, contains-from_has, has-cases, has-filter, has-from_contains, has-from_map, has-left, has-right}
use Rattle.daos_model.specs.Attempts.{EachTry}
use Rattle.daos_model.specs.Opening.{Opening}
use Rattle.daos_model.specs.Snapshots.{HasSnapshotLine, Made, MakesSnapshot}
use Rattle.daos_model.specs.Transactions.{command_of}
use Rattle.world_base.specs.declared.client.ClientState.{ClientState}
use Rattle.world_base.specs.declared.client.KnownSnap.{KnownSnap}
use Rattle.world_base.specs.declared.client.Present.{Present}
use Rattle.world_base.specs.declared.letter.Letter.{Letter}
use Rattle.world_base.specs.declared.world.World.{World}
use Rattle.world_base.specs.ClientTurns.{Move, attempt_id, command_at, heard, is_waiting, knows_epoch, listed, moved, request_of, waits}
use Rattle.world_base.specs.Events.{ClientGoes, ClientHears, Rules, client_plan, epoch_issued, or_issued, with_client, with_epoch}
use Rattle.world_base.specs.Letters.{Takes, client, is_talk_of, is_tell, letter_of, letters_of, reset_message, talk_of, target}
use Rattle.world_base.specs.StepLaws.{by-hearing, by-next, set-is, set-there}
use Rattle.world_base.specs.Steps.{KeptByCounting, KeptByHearing, KeptByMoves, after_move, without}
use Rattle.world_letters.specs.clients.Answered.{is_refusal}
use Rattle.world_letters.specs.clients.Standing.{AreOfPresent, HasTold, has_number, number_of}
use Rattle.world_letters.specs.endings.Clients.{heard-asks}
use Rattle.world_letters.specs.endings.Events.{hearing-keeps as ends-by-hearing}
use Rattle.world_letters.specs.epochs.Epochs.{ClientsStand}
use Rattle.world_letters.specs.epochs.EventLaws.{stands-by-counting, stands-by-hearing, stands-by-moves}
use Rattle.world_letters.specs.epochs.Lists.{each-push, epoch-found}
use Rattle.world_making.specs.freezings.Asking.{question-snap, reply-about}
use Rattle.world_making.specs.freezings.Freezings.{EndComes, Freezings, HaveOneEpoch, IsFated, IsKnownSo, HasItsLine, LossComes, IsOwnMade}
use Rattle.world_making.specs.freezings.Keeping.{FatesStay, LeavesTargets, NoneMoreDone, beside-keeps, known-stays, says_done, taken-or-left}
use Rattle.world_making.specs.freezings.Knowing.{IsLearned, IsReplyOf, IsUndated, KnowsThen, LearnsBy, heard-ended, heard-knows, heard-lost, heard-undated, learned-is, learned-more, learned-new, moved-committed, moved-same, moved-undated}
use Rattle.world_letters.specs.lines.EndingLaws.{endings-by-counting, endings-by-moves}
use Rattle.world_letters.specs.lines.Lines.{Endings, IsCommitted, TellsEnd, filled}
use Rattle.world_letters.specs.lives.ClientLines.{AreTries, OwnLine, heard-own, listed-own, moved-own}
use Rattle.world_letters.specs.snapshots.Events.{command-is}
use Rattle.world_letters.specs.snapshots.Makings.{IsSnapIn, IsSnapOf}
use Rattle.world_letters.specs.talks.Conversation.{Answers}
use Rattle.world_letters.specs.talks.TalkLaws.{got-is-talk, left-is-among, taken-is-among}
use Rattle.world_letters.specs.waits.ClientLaws.{present-of, question-about, counting-keeps as talks-by-counting, hearing-keeps as talks-by-hearing, moves-keep as talks-by-moves}
use Rattle.world_letters.specs.waits.Requests.{is_request, question-requests}
use Rattle.world_letters.specs.waits.Waits.{Conversation, IsAnswer, IsAsked, IsHeld, IsLost, IsReplied, IsReplyTo, TalksSo, asked_of, held_of}
use Rattle.world_making.specs.freezings.Unasked.{AreUnasked, is_unasked, move-unasked, question-unasked}

-- ---- what they send

-- none of these says that a freeze or an attempt is done
abbrev pub NoneDone : List Post → Type 0
NoneDone posts = (q : Post) → Has q posts → says_done q.message ≡ false

pub none-more : (actor : ActorId) (rest : List Letter) (posts : List Post) (w v : World) → v.messages ≡ rest ++ letters_of actor posts → ((l : Letter) → Has l rest → Has l w.messages) → NoneDone posts → NoneMoreDone w v
none-more actor rest posts w v messages were off l i is = elim (has-cases rest (letters_of actor posts) l (subst (Has l) messages i)) [
  | inl j ↦ were l j
  | inr j ↦ (let z = has-from_map (letter_of actor) posts l j in let no : ⊥ = cc (ap (λ x. says_done x.message) z.2 ∙ is, off z.0 z.1) in absurd no)
]

-- what is asked says none of that
pub unasked-not : (posts : List Post) → AreUnasked posts → NoneDone posts
unasked-not posts asks q i = by q.message (asks q i)
  where
    by : (m : Message) → is_unasked m ≡ true → says_done m ≡ false
    by (message.Held x refusal) is = let no : ⊥ = cc in absurd no
    by (message.Ended x ep how) is = let no : ⊥ = cc in absurd no
    by m is = refl

-- ---- their lines

-- they tell of attempts alone
no-snapshot : (issued : List (AttemptId × Epoch)) (ls : List Line) → AreTries ls → (name : List ℕ) (c : ContId) (s : Epoch) → Has (line.Snapshot name c s) (map (with_epoch issued) ls) → ⊥
no-snapshot issued ls own name c s i =
    let z = has-from_map (with_epoch issued) ls (line.Snapshot name c s) i in
    let a = own z.0 z.1 in
    let no : ⊥ = cc (ap (with_epoch issued) a.1, z.2) in no

-- what each attempt has it has with what a client tells, where that has it
each-told : (P : List Line → Attempt → Type 0) (ls : List Line) (issued : List (AttemptId × Epoch)) (o : Option Line) → OwnLine o → EachTry P ls
    → ((b : Attempt) → o ≡ Some (line.Try b) → P ls (filled issued b)) → EachTry P (ls ++ map (with_epoch issued) (listed o))
each-told P ls issued None own each told = subst (EachTry P) (sym (append-nil ls)) each
each-told P ls issued (Some l) own each told =
    subst (λ z. EachTry P (ls ++ z ∷ [])) (ap (with_epoch issued) (sym own.1)) (each-push P ls (record own.0 { epoch = or_issued issued own.0.id own.0.epoch }) each (told own.0 (ap (λ z. Some z) own.1)))

-- the line of an attempt that it adds
new-try : (issued : List (AttemptId × Epoch)) (o : Option Line) → OwnLine o → (a : Attempt) → Has (line.Try a) (map (with_epoch issued) (listed o)) → (b : Attempt) × (o ≡ Some (line.Try b)) × (a ≡ filled issued b)
new-try issued None own a i = absurd i
new-try issued (Some l) own a (inl same) =
    let is : line.Try a ≡ line.Try (filled issued own.0) = same ∙ ap (with_epoch issued) own.1 in
    let one : a ≡ filled issued own.0 = cc in
    (own.0, ap (λ z. Some z) own.1, one)
new-try issued (Some l) own a (inr none) = absurd none

-- ---- what they know

-- the command of a present attempt is the one that its client is at
pub command-back : (r : Rules) (n : ℕ) (c : ClientState) (a : Present) (d : Command) (attempts : List Attempt) → HasTold (client_plan r n) c attempts → c.present ≡ Some a
    → command_of r.script (attempt_id (client_plan r n) c a) ≡ Some d → command_at (client_plan r n) c ≡ Some d
command-back r n c a d attempts told at of = by (command_at (client_plan r n) c) refl
  where
    is-numbered : has_number (command_at (client_plan r n) c) ≡ true
    is-numbered = (subst (λ o. AreOfPresent (client_plan r n) c.place c.command told.begun (number_of o)) at told.at_present).2

    by : (o : Option Command) → command_at (client_plan r n) c ≡ o → command_at (client_plan r n) c ≡ Some d
    by None is = let no : ⊥ = cc (ap has_number is, is-numbered) in absurd no
    by (Some own) is =
        let same : own ≡ d = (let one = command-is r n c a own attempts told is (ap has_number (sym is) ∙ is-numbered) in cc) in
        is ∙ ap (λ z. Some z) same

module _ (r : Rules) (o : Opening) (w : World) (n : ℕ) (c : ClientState) (here : slice_get w.clients n ≡ Some c) (k : Freezings r o w) where
  -- another client is as it was
  at-others : (P : ℕ → ClientState → Type 0) (v : World) (d : ClientState) → v.clients ≡ (with_client n d w).clients → P n d
      → ((m : ℕ) (e : ClientState) → (m ≡ n → ⊥) → slice_get w.clients m ≡ Some e → P m e) → (m : ℕ) (e : ClientState) → slice_get v.clients m ≡ Some e → P m e
  at-others P v d clients own others m e at = elim (cases_eq m n) [
    | inl same ↦ (let is : d ≡ e = set-is w.clients n d e (subst (λ x. slice_get (with_client n d w).clients x ≡ Some e) same there) in subst (λ x. P x e) (sym same) (subst (P n) is own))
    | inr off ↦ others m e off (sym (set-there w.clients n m d off) ∙ there)
  ]
    where
      there : slice_get (with_client n d w).clients m ≡ Some e
      there = ap (λ cs. slice_get cs m) (sym clients) ∙ at

  -- what it tells of a snapshot that it made
  module _ (l : Letter) (among : Has l w.messages) (stand : ClientsStand r w) (may : TellsEnd l.message) (mv : Move) (g : LearnsBy (client_plan r n) c l.message mv) where
    -- by when it is told of it, a line tells of the snapshot
    told-before : (e : Epoch) (name : List ℕ) (cont : ContId) → g.e ≡ Some e → g.how ≡ Committed → command_at (client_plan r n) c ≡ Some (command.Snap name cont) → Has (line.Snapshot name cont e) w.lines
    told-before e name cont at committed here2 =
        k.ended l (attempt_id (client_plan r n) c g.a) e name cont among (g.says ∙ ap (λ y. message.Ended (attempt_id (client_plan r n) c g.a) y g.how) at ∙ ap (message.Ended (attempt_id (client_plan r n) c g.a) (Some e)) committed)
        (command-is r n c g.a _ (stand n c here).0 (stand n c here).1 here2 refl)

    -- the epoch of its line is the one that it is told
    epoch-told : (e : Epoch) (name : List ℕ) (cont : ContId) → g.e ≡ Some e → command_at (client_plan r n) c ≡ Some (command.Snap name cont) → g.b.epoch ≡ Some e
    epoch-told e name cont at here2 = g.epoch ∙ ap (λ y. knows_epoch y g.e) (k.undated n c here g.a name cont g.at here2) ∙ at

    -- so a committed attempt has its line behind that of the snapshot
    told-committed : HasSnapshotLine r.script w.lines (filled w.issued g.b)
    told-committed name cont e snaps committed = contains-from_has w.lines (line.Snapshot name cont e) (by g.e refl (subst TellsEnd g.says may))
      where
        is-committed : g.how ≡ Committed
        is-committed = sym g.outcome ∙ committed

        at : command_at (client_plan r n) c ≡ Some (command.Snap name cont)
        at = command-back r n c g.a (command.Snap name cont) (stand n c here).0 (stand n c here).1 g.at (ap (command_of r.script) (sym g.id) ∙ snaps.command)

        by : (q : Option Epoch) → g.e ≡ q → (is_refusal g.how ≡ true) ⊎ IsCommitted g.e g.how → Has (line.Snapshot name cont e) w.lines
        by q is (inl refused) = let no : ⊥ = cc (ap is_refusal is-committed, refused) in absurd no
        by q is (inr done) =
            let own : or_issued w.issued g.b.id (Some done.epoch) ≡ Some e = ap (or_issued w.issued g.b.id) (sym (epoch-told done.epoch name cont done.at at)) ∙ snaps.issued in
            let same : done.epoch ≡ e = cc in
            told-before e name cont (done.at ∙ ap (λ z. Some z) same) is-committed at

    -- and it knows one that was made so
    learned-so : (v : World) → v.lines ≡ w.lines ++ map (with_epoch w.issued) (listed mv.line) → (kn : KnownSnap) → Has kn mv.state.known → ((kn : KnownSnap) → Has kn c.known → IsKnownSo r o v n kn) → IsKnownSo r o v n kn
    learned-so v lines kn i was = elim (learned-is (command_at (client_plan r n) c) g.e g.how c.known kn (subst (Has kn) g.learns i)) [
      | inl before ↦ was kn before
      | inr new ↦ made new
    ]
      where
        own-line : Has (line.Try (filled w.issued g.b)) v.lines
        own-line =
            subst (Has (line.Try (filled w.issued g.b))) (sym lines)
            (has-right w.lines (map (with_epoch w.issued) (listed mv.line)) (line.Try (filled w.issued g.b)) (subst (λ z. Has (line.Try (filled w.issued g.b)) (map (with_epoch w.issued) (listed z))) (sym g.line) (inl refl)))

        made : IsLearned (command_at (client_plan r n) c) g.e g.how kn → IsKnownSo r o v n kn
        made new = IsOwnMade (filled w.issued g.b) (ap (λ x. x.client) g.id) own-line (record {
          cont = new.cont;
          snaps = record {
            command = ap (command_of r.script) g.id ∙ command-is r n c g.a _ (stand n c here).0 (stand n c here).1 new.command refl;
            issued = ap (or_issued w.issued g.b.id) (epoch-told kn.epoch kn.name new.cont new.epoch new.command);
          };
          committed = g.outcome ∙ new.committed;
        }) (subst (Has (line.Snapshot kn.name new.cont kn.epoch)) (sym lines) (has-left w.lines (map (with_epoch w.issued) (listed mv.line))
            (line.Snapshot kn.name new.cont kn.epoch) (told-before kn.epoch kn.name new.cont new.epoch new.committed new.command)))

  -- while its attempt makes a snapshot, no read is answered for it
  no-read : (l : Letter) (rest : List Letter) → Takes w.messages l rest → l.to ≡ client n → Conversation r w → ClientsStand r w → (a : Present) (name : List ℕ) (cont : ContId)
      → c.present ≡ Some a → a.waits ≡ true → command_at (client_plan r n) c ≡ Some (command.Snap name cont)
      → IsReplyOf (attempt_id (client_plan r n) c a) l.message → ⊥
  no-read l rest takes to talks stand a name cont at waits-now here2 reply = by (waits c) (ap is_waiting at ∙ waits-now) (talks.talks n c here)
    where
      unlike : (m : Message) → IsReplyOf (attempt_id (client_plan r n) c a) m → (is_tell m ≡ false) × (is_request m ≡ false) ×
          ((x : AttemptId) (own : Option Epoch) (how : Outcome) → m ≡ message.Ended x own how → ⊥) × ((t : ℕ) (down : Bool) (q : Message) → m ≡ reset_message t down q → ⊥)
      unlike (message.Fetched x op group e b) h = (refl, refl, λ y own how same. (let no : ⊥ = cc in no), λ t down q same. (let no : ⊥ = cc in no))
      unlike m h = absurd h

      u : (is_tell l.message ≡ false) × (is_request l.message ≡ false) × ((x : AttemptId) (own : Option Epoch) (how : Outcome) → l.message ≡ message.Ended x own how → ⊥) ×
          ((t : ℕ) (down : Bool) (q : Message) → l.message ≡ reset_message t down q → ⊥)
      u = unlike l.message reply

      its : is_talk_of n l ≡ true
      its = got-is-talk n l u.0 to

      among : Has l (talk_of n w.messages)
      among = has-filter (is_talk_of n) w.messages l (has-from_contains w.messages l (taken-is-among w.messages l rest takes)) its

      only : (m : Letter) → talk_of n w.messages ≡ m ∷ [] → l ≡ m
      only m one = one-of (subst (Has l) one among)
        where
          one-of : Has l (m ∷ []) → l ≡ m
          one-of (inl same) = same
          one-of (inr none) = absurd none

      of : IsSnapOf r (attempt_id (client_plan r n) c a) name cont
      of = command-is r n c a _ (stand n c here).0 (stand n c here).1 here2 refl

      by : (b : Bool) → b ≡ true → TalksSo (client_plan r n) n c (talk_of n w.messages) (held_of n w) (asked_of n w) b → ⊥
      by false now q = let no : ⊥ = cc in no
      by true now (IsAsked q question one none free) = let no : ⊥ = cc (ap (λ y. is_request y.message) (only (letter_of (client n) q) one), question-requests (client_plan r n) c a q at question, u.1) in no
      by true now (IsHeld q y question holds none one free) = subst (Has l) none among
      by true now (IsReplied q l1 question replies one none free) =
          answered (ap (λ y. y.message) (only l1 one)) (question-snap r n c a (stand n c here).0 (stand n c here).1 at name cont of q question) replies.says
        where
          answered : l.message ≡ l1.message → (k2 : Epoch) × (q ≡ record { to = target 0; message = message.Snap (attempt_id (client_plan r n) c a) cont name k2 }) → IsReplyTo q l1.message → ⊥
          answered same is (IsAnswer answers) = let e = subst (λ z. Answers z l1.message) (ap (λ y. y.message) is.1) answers in u.2 (attempt_id (client_plan r n) c a) e.0 e.1 (same ∙ e.2)
          answered same is (IsLost down says) = u.3 q.to.number down q.message (same ∙ says)

-- ---- what a client waits for

-- a message is about the attempt that a client waits for, which is this one
record IsWaitedFor (r : Rules) (n : ℕ) (c : ClientState) (m : Message) (x : AttemptId) : Type 0 where
  a : Present
  at : c.present ≡ Some a
  now : a.waits ≡ true
  own : attempt_id (client_plan r n) c a ≡ x

-- the message of which it is told that it got no answer
abbrev unanswered : Message → Message → Message
unanswered other (message.Reset' t down place (more_of-Message q rest)) = q
unanswered other m = other

module _ (r : Rules) (o : Opening) (w : World) (n : ℕ) (c : ClientState) (here : slice_get w.clients n ≡ Some c) (k : Freezings r o w) (l : Letter) (rest : List Letter)
    (takes : Takes w.messages l rest) (to : l.to ≡ client n) (talks : Conversation r w) where
  -- a reply about an attempt comes where that is waited for
  waited-for : (x : AttemptId) → is_tell l.message ≡ false → is_request l.message ≡ false → ((q : Post) → IsReplyTo q l.message → request_of q.message ≡ Some x) → IsWaitedFor r n c l.message x
  waited-for x no-tell no-request about-x = by (waits c) refl (talks.talks n c here)
    where
      its : is_talk_of n l ≡ true
      its = got-is-talk n l no-tell to

      among : Has l (talk_of n w.messages)
      among = has-filter (is_talk_of n) w.messages l (has-from_contains w.messages l (taken-is-among w.messages l rest takes)) its

      only : (m : Letter) → talk_of n w.messages ≡ m ∷ [] → l ≡ m
      only m one = one-of (subst (Has l) one among)
        where
          one-of : Has l (m ∷ []) → l ≡ m
          one-of (inl same) = same
          one-of (inr none) = absurd none

      by : (b : Bool) → waits c ≡ b → TalksSo (client_plan r n) n c (talk_of n w.messages) (held_of n w) (asked_of n w) b → IsWaitedFor r n c l.message x
      by false now q = absurd (subst (Has l) q.no_letters among)
      by true now (IsAsked q question one none free) =
          let p = present-of c now in
          let no : ⊥ = cc (ap (λ y. is_request y.message) (only (letter_of (client n) q) one), question-requests (client_plan r n) c p.a q p.at question, no-request) in absurd no
      by true now (IsHeld q y question holds none one free) = absurd (subst (Has l) none among)
      by true now (IsReplied q l1 question replies one none free) =
          let p = present-of c now in
          let mine = about-x q (subst (IsReplyTo q) (ap (λ y. y.message) (sym (only l1 one))) replies.says) in
          let about-own = (question-about (client_plan r n) c p.a q p.at question).of_attempt in
          record { a = p.a; at = p.at; now = p.now; own = (let same : attempt_id (client_plan r n) c p.a ≡ x = cc (about-own, mine) in same) }

  waited-end : (x : AttemptId) (own : Option Epoch) (how : Outcome) → l.message ≡ message.Ended x own how → IsWaitedFor r n c l.message x
  waited-end x own how says = waited-for x (ap is_tell says) (ap is_request says) (λ q reply. reply-about q x own how (subst (IsReplyTo q) says reply))

  waited-loss : (x : AttemptId) (t : ℕ) (down : Bool) (cont : ContId) (name : Key) (e : Epoch) → l.message ≡ reset_message t down (message.Snap x cont name e) → IsWaitedFor r n c l.message x
  waited-loss x t down cont name e says = waited-for x (ap is_tell says) (ap is_request says) (λ q reply. lost q (subst (IsReplyTo q) says reply))
    where
      answers-not : (q : Message) → Answers q (reset_message t down (message.Snap x cont name e)) → ⊥
      answers-not (message.Fetch y op group ep first tracker rd snapshot) h = let no : ⊥ = cc (h.2) in no
      answers-not (message.Commit y ep first tracker ws) h = let no : ⊥ = cc (h.2) in no
      answers-not (message.Ask y) h = let no : ⊥ = cc (h.2) in no
      answers-not (message.Snap y cont2 name2 tracker) h = let no : ⊥ = cc (h.2) in no
      answers-not (message.Prune y cont2 tracker g) h = let no : ⊥ = cc (h.2) in no
      answers-not q h = h

      lost : (q : Post) → IsReplyTo q (reset_message t down (message.Snap x cont name e)) → request_of q.message ≡ Some x
      lost q (IsAnswer answers) = absurd (answers-not q.message answers)
      lost q (IsLost down2 same) = ap request_of (sym (ap (unanswered q.message) same))

-- ---- their turns

record Both (r : Rules) (o : Opening) (w : World) : Type 0 where
  once : HaveOneEpoch w
  stand : ClientsStand r w
  talks : Conversation r w
  ends : Endings w
  freezings : Freezings r o w

module _ (r : Rules) (some : 0 < r.attempts) (o : Opening) where
  client-beside : (w v : World) (n : ℕ) (rest : List Letter) (posts : List Post) (ls : List Line) → v.targets ≡ w.targets → v.issued ≡ w.issued
      → ((l : Letter) → Has l rest → Has l w.messages) → v.messages ≡ rest ++ letters_of (client n) posts
      → v.lines ≡ w.lines ++ map (with_epoch w.issued) ls → AreTries ls → NoneDone posts → ((m : ℕ) (c : ClientState) (kn : KnownSnap) → slice_get v.clients m ≡ Some c → Has kn c.known → IsKnownSo r o v m kn)
      → ((m : ℕ) (c : ClientState) → slice_get v.clients m ≡ Some c → IsUndated (client_plan r m) c) → EachTry (HasSnapshotLine r.script) (w.lines ++ map (with_epoch w.issued) ls)
      → FatesStay r w v → ((m : ℕ) (c : ClientState) (a : Attempt) (name : List ℕ) (e : Epoch) → slice_get v.clients m ≡ Some c → Has (line.Try a) v.lines → a.id.client ≡ m
      → Made r.script name e a → Has (record { name = name; epoch = e }) c.known) → LeavesTargets r o w v
  client-beside w v n rest posts ls targets issued were messages lines own none known undated committed fates knows = record {
    knows = knows;
    fates = fates;
    targets = targets;
    issued = issued;
    letters = none-more (client n) rest posts w v messages were none;
    more = λ l i. subst (Has l) (sym lines) (has-left w.lines (map (with_epoch w.issued) ls) l i);
    told = λ name c s i. elim (has-cases w.lines (map (with_epoch w.issued) ls) (line.Snapshot name c s) (subst (Has (line.Snapshot name c s)) lines i)) [
      | inl j ↦ j
      | inr j ↦ absurd (no-snapshot w.issued ls own name c s j)
    ];
    known = known;
    undated = undated;
    committed = subst (EachTry (HasSnapshotLine r.script)) (sym lines) committed;
  }

  -- what clients knew they know still
  was-known : (w v : World) → v.targets ≡ w.targets → ((l : Line) → Has l w.lines → Has l v.lines) → (n : ℕ) (k : KnownSnap) → IsKnownSo r o w n k → IsKnownSo r o v n k
  was-known w v targets more = known-stays r o w v (λ a s is z at0. is z (ap (λ ts. slice_get ts 0) (sym targets) ∙ at0)) more

  both-moves : KeptByMoves r (Both r o)
  both-moves w n c here b =
      record {
        once = b.once;
        stand = stands-by-moves r some w n c here b.stand;
        talks = talks-by-moves r w n c here b.talks;
        ends = endings-by-moves r w n c here b.ends;
        freezings = beside-keeps r o w v
            (client-beside w v n w.messages (listed mv.post) (listed mv.line) refl refl (λ l i. i) refl refl (listed-own mv.line (moved-own (client_plan r n) c)) (unasked-not _ (move-unasked r n c))
            (λ m e kn at i. at-others r o w n c here k (λ x y. (z : KnownSnap) → Has z y.known → IsKnownSo r o v x z) v mv.state refl
            (λ z j. still n z (k.known n c z here (subst (Has z) (moved-same (client_plan r n) c) j))) (λ x y off at2 z j. still x z (k.known x y z at2 j)) m e at kn i)
            (at-others r o w n c here k (λ x y. IsUndated (client_plan r x) y) v mv.state refl (moved-undated (client_plan r n) c (k.undated n c here)) (λ x y off. k.undated x y))
            (each-told (HasSnapshotLine r.script) w.lines w.issued mv.line (moved-own (client_plan r n) c) k.committed told) fates
            (λ m e a name s at i own made. at-others r o w n c here k (λ x y. (a : Attempt) (name : List ℕ) (s : Epoch) → Has (line.Try a) v.lines → a.id.client ≡ x
            → Made r.script name s a → Has (record { name = name; epoch = s }) y.known) v mv.state refl own-knows others-know m e at a name s i own made)) k;
      }
    where
      mv : Move
      mv = moved (client_plan r n) c

      v : World
      v = after_move w n mv

      k : Freezings r o w
      k = b.freezings

      still : (m : ℕ) (kn : KnownSnap) → IsKnownSo r o w m kn → IsKnownSo r o v m kn
      still = was-known w v refl (λ l i. has-left w.lines (map (with_epoch w.issued) (listed mv.line)) l i)

      -- no line that it adds is that of a committed attempt that makes a snapshot
      no-new : (a : Attempt) (name : List ℕ) (s : Epoch) → Made r.script name s a → Has (line.Try a) (map (with_epoch w.issued) (listed mv.line)) → ⊥
      no-new a name s made j =
          let x = new-try w.issued mv.line (moved-own (client_plan r n) c) a j in
          let g = moved-committed (client_plan r n) c x.0 x.1 (ap (λ z. z.outcome) (sym x.2) ∙ made.committed) in
          let run = command-is r n c g.0 _ (b.stand n c here).0 (b.stand n c here).1 g.3.3 refl in
          let no : ⊥ = cc (ap (λ z. command_of r.script z.id) x.2, ap (command_of r.script) g.2, run, made.snaps.command) in no

      was-line : (a : Attempt) (name : List ℕ) (s : Epoch) → Made r.script name s a → Has (line.Try a) v.lines → Has (line.Try a) w.lines
      was-line a name s made i = elim (has-cases w.lines (map (with_epoch w.issued) (listed mv.line)) (line.Try a) i) [ inl j ↦ j | inr j ↦ absurd (no-new a name s made j) ]

      own-knows : (a : Attempt) (name : List ℕ) (s : Epoch) → Has (line.Try a) v.lines → a.id.client ≡ n → Made r.script name s a → Has (record { name = name; epoch = s }) mv.state.known
      own-knows a name s i own made = subst (Has (record { name = name; epoch = s })) (sym (moved-same (client_plan r n) c)) (k.knows n c a name s here (was-line a name s made i) own made)

      others-know : (m : ℕ) (e : ClientState) → (m ≡ n → ⊥) → slice_get w.clients m ≡ Some e → (a : Attempt) (name : List ℕ) (s : Epoch) → Has (line.Try a) v.lines
          → a.id.client ≡ m → Made r.script name s a → Has (record { name = name; epoch = s }) e.known
      others-know m e off at a name s i own made = k.knows m e a name s at (was-line a name s made i) own made

      fates : FatesStay r w v
      fates x s a i snaps (EndComes l j says) = EndComes l (has-left w.messages (letters_of (client n) (listed mv.post)) l j) says
      fates x s a i snaps (LossComes l t down a2 name q j says) = LossComes l t down a2 name q (has-left w.messages (letters_of (client n) (listed mv.post)) l j) says
      fates x s a i snaps (HasItsLine y j id epoch how) = HasItsLine y (has-left w.lines (map (with_epoch w.issued) (listed mv.line)) (line.Try y) j) id epoch how

      -- it tells of a transaction alone that it is committed
      told : (x : Attempt) → mv.line ≡ Some (line.Try x) → HasSnapshotLine r.script w.lines (filled w.issued x)
      told x is name cont e snaps committed = absurd (other (moved-committed (client_plan r n) c x is committed) snaps)
        where
          other : (a : Present) × (c.present ≡ Some a) × (x.id ≡ attempt_id (client_plan r n) c a) ×
              ((ops : List Op) × (turns : List ℕ) × (snapshot : Option (List ℕ)) × (command_at (client_plan r n) c ≡ Some (command.Run ops turns snapshot)))
              → MakesSnapshot r.script name cont e (filled w.issued x) → ⊥
          other g snaps =
              let run = command-is r n c g.0 _ (b.stand n c here).0 (b.stand n c here).1 g.3.3 refl in
              let no : ⊥ = cc (ap (command_of r.script) g.2, run, snaps.command) in no

  both-hearing : KeptByHearing r (Both r o)
  both-hearing w n c l rest here awake takes to b =
      record {
        once = b.once;
        stand = stands-by-hearing r some w n c l rest here awake takes to b.stand;
        talks = talks-by-hearing r w n c l rest here awake takes to b.talks;
        ends = ends-by-hearing r w n c l rest here awake takes to b.ends;
        freezings = beside-keeps r o w v
            (client-beside w v n rest (listed mv.post) (listed mv.line) refl refl (λ m i. has-from_contains w.messages m
            (left-is-among w.messages l rest m takes (contains-from_has rest m i))) refl refl (listed-own mv.line (heard-own (client_plan r n) c l.message))
            (unasked-not _ (question-unasked _ (heard-asks (client_plan r n) c l.message)))
            (λ m e kn at i. at-others r o w n c here k (λ x y. (z : KnownSnap) → Has z y.known → IsKnownSo r o v x z) v mv.state refl
            (own (heard-knows (client_plan r n) c l.message may)) (λ x y off at2 z j. still x z (k.known x y z at2 j)) m e at kn i)
            (at-others r o w n c here k (λ x y. IsUndated (client_plan r x) y) v mv.state refl
            (heard-undated (client_plan r n) c l.message (no-read r o w n c here k l rest takes to b.talks b.stand) (k.undated n c here)) (λ x y off. k.undated x y))
            (each-told (HasSnapshotLine r.script) w.lines w.issued mv.line (heard-own (client_plan r n) c l.message) k.committed (told (heard-knows (client_plan r n) c l.message may))) fates
            (λ m e a name s at i own made. at-others r o w n c here k (λ x y. (a : Attempt) (name : List ℕ) (s : Epoch) → Has (line.Try a) v.lines → a.id.client ≡ x
            → Made r.script name s a → Has (record { name = name; epoch = s }) y.known) v mv.state refl (own-knows (heard-knows (client_plan r n) c l.message may))
            (others-know (heard-knows (client_plan r n) c l.message may)) m e at a name s i own made)) k;
      }
    where
      mv : Move
      mv = heard (client_plan r n) c l.message

      v : World
      v = after_move (without w rest) n mv

      k : Freezings r o w
      k = b.freezings

      among : Has l w.messages
      among = has-from_contains w.messages l (taken-is-among w.messages l rest takes)

      may : TellsEnd l.message
      may = b.ends l (taken-is-among w.messages l rest takes)

      still : (m : ℕ) (kn : KnownSnap) → IsKnownSo r o w m kn → IsKnownSo r o v m kn
      still = was-known w v refl (λ x i. has-left w.lines (map (with_epoch w.issued) (listed mv.line)) x i)

      lines-more : (y : Line) → Has y w.lines → Has y v.lines
      lines-more y j = has-left w.lines (map (with_epoch w.issued) (listed mv.line)) y j

      stays-in : (m : Letter) → Has m rest → Has m v.messages
      stays-in m j = has-left rest (letters_of (client n) (listed mv.post)) m j

      own-line : (y : Attempt) → mv.line ≡ Some (line.Try y) → Has (line.Try (filled w.issued y)) v.lines
      own-line y is =
          has-right w.lines (map (with_epoch w.issued) (listed mv.line)) (line.Try (filled w.issued y)) (subst (λ z. Has (line.Try (filled w.issued y)) (map (with_epoch w.issued) (listed z))) (sym is) (inl refl))

      -- the epoch that was issued to an attempt is found
      issued-found : (x : AttemptId) (s : Epoch) → Has (x, s) w.issued → epoch_issued w.issued x ≡ Some s
      issued-found x s i = elim (epoch-found w.issued x) [
        | inl none ↦ absurd (none.1 s (contains-from_has w.issued (x, s) i))
        | inr f ↦ f.1 ∙ ap (λ z. Some z) (b.once x f.0 s (has-from_contains w.issued (x, f.0) f.2) i)
      ]

      -- an attempt that makes a snapshot has no epoch that its client knows
      no-epoch : (x : AttemptId) (a : ContId) → IsSnapIn r x a → (g : IsWaitedFor r n c l.message x) → g.a.epoch ≡ None
      no-epoch x a snaps g =
          k.undated n c here g.a snaps.0 a g.at (command-back r n c g.a (command.Snap snaps.0 a) (b.stand n c here).0 (b.stand n c here).1 g.at (ap (command_of r.script) g.own ∙ snaps.1))

      ends-told : (x : AttemptId) (s : Epoch) (a : ContId) → Has (x, s) w.issued → IsSnapIn r x a → l.message ≡ message.Ended x (Some s) Committed → IsFated v x s
      ends-told x s a i snaps says =
          let g = waited-end r o w n c here k l rest takes to b.talks x (Some s) Committed says in
          let e = heard-ended (client_plan r n) c g.a g.at g.now l.message (Some s) Committed (says ∙ ap (λ y. message.Ended y (Some s) Committed) (sym g.own)) in
          let known : e.b.epoch ≡ Some s = e.epoch ∙ ap (λ y. knows_epoch y (Some s)) (no-epoch x a snaps g) in
          HasItsLine (filled w.issued e.b) (own-line e.b e.line) (e.id ∙ g.own) (ap (or_issued w.issued e.b.id) known) (inl e.fate)

      loss-told : (x : AttemptId) (s : Epoch) (a : ContId) → Has (x, s) w.issued → IsSnapIn r x a → (t : ℕ) (down : Bool) (a2 : ContId) (name : Key) (q : Epoch) → l.message ≡ reset_message t down (message.Snap x a2 name q) → IsFated v x s
      loss-told x s a i snaps t down a2 name q says =
          let g = waited-loss r o w n c here k l rest takes to b.talks x t down a2 name q says in
          let e = heard-lost (client_plan r n) c g.a g.at g.now l.message t down a2 name q (says ∙ ap (λ y. reset_message t down (message.Snap y a2 name q)) (sym g.own)) in
          let none : e.b.epoch ≡ None = e.epoch ∙ no-epoch x a snaps g in
          HasItsLine (filled w.issued e.b) (own-line e.b e.line) (e.id ∙ g.own) (ap (or_issued w.issued e.b.id) none ∙ ap (epoch_issued w.issued) (e.id ∙ g.own) ∙ issued-found x s i) (inr e.fate)

      fates : FatesStay r w v
      fates x s a i snaps (HasItsLine y j id epoch how) = HasItsLine y (lines-more (line.Try y) j) id epoch how
      fates x s a i snaps (EndComes m j says) = elim (taken-or-left w.messages l rest takes m j) [
        | inl left ↦ EndComes m (stays-in m left) says
        | inr it ↦ ends-told x s a i snaps (ap (λ y. y.message) (sym it) ∙ says)
      ]
      fates x s a i snaps (LossComes m t down a2 name q j says) = elim (taken-or-left w.messages l rest takes m j) [
        | inl left ↦ LossComes m t down a2 name q (stays-in m left) says
        | inr it ↦ loss-told x s a i snaps t down a2 name q (ap (λ y. y.message) (sym it) ∙ says)
      ]

      own : KnowsThen (client_plan r n) c l.message mv → (kn : KnownSnap) → Has kn mv.state.known → IsKnownSo r o v n kn
      own (inl same) kn i = still n kn (k.known n c kn here (subst (Has kn) same.0 i))
      own (inr learns) kn i = learned-so r o w n c here k l among b.stand may mv learns v refl kn i (λ z j. still n z (k.known n c z here j))

      -- a line of a committed attempt that makes a snapshot was there, or is of what it was told
      line-from : KnowsThen (client_plan r n) c l.message mv → (a : Attempt) (name : List ℕ) (s : Epoch) → Made r.script name s a → Has (line.Try a) v.lines
          → Has (line.Try a) w.lines ⊎ ((g : LearnsBy (client_plan r n) c l.message mv) × (a ≡ filled w.issued g.b))
      line-from then' a name s made i = elim (has-cases w.lines (map (with_epoch w.issued) (listed mv.line)) (line.Try a) i) [
        | inl j ↦ inl j
        | inr j ↦ inr (new then' (new-try w.issued mv.line (heard-own (client_plan r n) c l.message) a j))
      ]
        where
          new : KnowsThen (client_plan r n) c l.message mv → (x : Attempt) × (mv.line ≡ Some (line.Try x)) × (a ≡ filled w.issued x) → (g : LearnsBy (client_plan r n) c l.message mv) × (a ≡ filled w.issued g.b)
          new (inl same) x = absurd (same.1 x.0 x.1 (ap (λ z. z.outcome) (sym x.2) ∙ made.committed))
          new (inr g) x = let one : x.0 ≡ g.b = cc (x.1, g.line) in (g, x.2 ∙ ap (filled w.issued) one)

      own-knows : KnowsThen (client_plan r n) c l.message mv → (a : Attempt) (name : List ℕ) (s : Epoch) → Has (line.Try a) v.lines → a.id.client ≡ n → Made r.script name s a → Has (record { name = name; epoch = s }) mv.state.known
      own-knows then' a name s i own made = elim (line-from then' a name s made i) [
        | inl j ↦ still-knows then' (record { name = name; epoch = s }) (k.knows n c a name s here j own made)
        | inr g ↦ learns-it g.0 g.1
      ]
        where
          still-knows : KnowsThen (client_plan r n) c l.message mv → (z : KnownSnap) → Has z c.known → Has z mv.state.known
          still-knows (inl same) z j = subst (Has z) (sym same.0) j
          still-knows (inr g) z j = subst (Has z) (sym g.learns) (learned-more (command_at (client_plan r n) c) g.e g.how c.known z j)

          learns-it : (g : LearnsBy (client_plan r n) c l.message mv) → a ≡ filled w.issued g.b → Has (record { name = name; epoch = s }) mv.state.known
          learns-it g is =
              let how : g.how ≡ Committed = sym g.outcome ∙ ap (λ z. z.outcome) (sym is) ∙ made.committed in
              let at = command-back r n c g.a (command.Snap name made.cont) (b.stand n c here).0 (b.stand n c here).1 g.at (ap (command_of r.script) (sym g.id ∙ ap (λ z. z.id) (sym is)) ∙ made.snaps.command) in
              subst (Has (record { name = name; epoch = s })) (sym g.learns) (learned-new (command_at (client_plan r n) c) g.e g.how c.known name made.cont s at (its-epoch g is at how) how)
            where
              its-epoch : (g : LearnsBy (client_plan r n) c l.message mv) → a ≡ filled w.issued g.b → command_at (client_plan r n) c ≡ Some (command.Snap name made.cont) → g.how ≡ Committed → g.e ≡ Some s
              its-epoch g is at how = by-end (subst TellsEnd g.says may)
                where
                  by-end : (is_refusal g.how ≡ true) ⊎ IsCommitted g.e g.how → g.e ≡ Some s
                  by-end (inl refused) = let no : ⊥ = cc (ap is_refusal how, refused) in absurd no
                  by-end (inr done) =
                      let known : g.b.epoch ≡ Some done.epoch = g.epoch ∙ ap (λ y. knows_epoch y g.e) (k.undated n c here g.a name made.cont g.at at) ∙ done.at in
                      let shown : or_issued w.issued g.b.id (Some done.epoch) ≡ Some s = ap (or_issued w.issued g.b.id) (sym known) ∙ ap (λ z. z.epoch) (sym is) ∙ made.snaps.issued in
                      let one : done.epoch ≡ s = cc in
                      done.at ∙ ap (λ z. Some z) one

      others-know : KnowsThen (client_plan r n) c l.message mv → (m : ℕ) (e : ClientState) → (m ≡ n → ⊥) → slice_get w.clients m ≡ Some e → (a : Attempt) (name : List ℕ)
          (s : Epoch) → Has (line.Try a) v.lines → a.id.client ≡ m → Made r.script name s a → Has (record { name = name; epoch = s }) e.known
      others-know then' m e off at a name s i own made = elim (line-from then' a name s made i) [
        | inl j ↦ k.knows m e a name s at j own made
        | inr g ↦ absurd (off (sym own ∙ ap (λ z. z.id.client) g.1 ∙ ap (λ z. z.client) g.0.id))
      ]

      told : KnowsThen (client_plan r n) c l.message mv → (x : Attempt) → mv.line ≡ Some (line.Try x) → HasSnapshotLine r.script w.lines (filled w.issued x)
      told (inl same) x is = silent x is
        where
          silent : (x : Attempt) → mv.line ≡ Some (line.Try x) → HasSnapshotLine r.script w.lines (filled w.issued x)
          silent x is name cont e snaps committed = absurd (same.1 x is committed)
      told (inr learns) x is =
          let one : learns.b ≡ x = cc (learns.line, is) in subst (λ z. HasSnapshotLine r.script w.lines (filled w.issued z)) one (told-committed r o w n c here k l among b.stand may mv learns)

  both-counting : KeptByCounting (Both r o)
  both-counting w n m c here b =
      record {
        once = b.once;
        stand = stands-by-counting r some w n m c here b.stand;
        talks = talks-by-counting r w n m c here b.talks;
        ends = endings-by-counting w n m c here b.ends;
        freezings = beside-keeps r o w v (record {
          targets = refl;
          issued = refl;
          letters = λ l i is. i;
          more = λ l i. i;
          told = λ name a s i. i;
          known = λ x e kn at i. at-others r o w n c here k (λ x y. (z : KnownSnap) → Has z y.known → IsKnownSo r o v x z) v (record c { skip = m }) refl (λ z j. was-known w v refl (λ l i2. i2) n z (k.known n c z here j))
              (λ x y off at2 z j. was-known w v refl (λ l i2. i2) x z (k.known x y z at2 j)) x e at kn i;
          knows = λ x e a name s at i own made. at-others r o w n c here k (λ x y. (a : Attempt) (name : List ℕ) (s : Epoch) → Has (line.Try a) w.lines → a.id.client ≡ x
              → Made r.script name s a → Has (record { name = name; epoch = s }) y.known) v (record c { skip = m }) refl (λ a name s. k.knows n c a name s here)
              (λ x y off at2 a name s. k.knows x y a name s at2) x e at a name s i own made;
          undated = at-others r o w n c here k (λ x y. IsUndated (client_plan r x) y) v (record c { skip = m }) refl (k.undated n c here) (λ x y off. k.undated x y);
          committed = k.committed;
          fates = λ x s a i snaps f. same-fate x s f;
        }) k;
      }
    where
      v : World
      v = with_client n (record c { skip = m }) w

      k : Freezings r o w
      k = b.freezings

      same-fate : (x : AttemptId) (s : Epoch) → IsFated w x s → IsFated v x s
      same-fate x s (EndComes l i says) = EndComes l i says
      same-fate x s (LossComes l t down a name q i says) = LossComes l t down a name q i says
      same-fate x s (HasItsLine a i id epoch how) = HasItsLine a i id epoch how

  pub going-keeps : (w v : World) → ClientGoes r w v → HaveOneEpoch w → ClientsStand r w → Conversation r w → Endings w → Freezings r o w → Freezings r o v
  going-keeps w v g once stand talks ends k = (by-next r (Both r o) both-moves both-counting w v (record { once = once; stand = stand; talks = talks; ends = ends; freezings = k }) g).freezings

  pub hearing-keeps : (w v : World) → ClientHears r w v → HaveOneEpoch w → ClientsStand r w → Conversation r w → Endings w → Freezings r o w → Freezings r o v
  hearing-keeps w v g once stand talks ends k = (by-hearing r (Both r o) both-moves both-hearing w v (record { once = once; stand = stand; talks = talks; ends = ends; freezings = k }) g).freezings
