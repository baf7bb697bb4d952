-- A target that hears a message keeps that clients were told what was served: what it answers is of what the client that waits for it asks.
use Rattle.std.specs.Prelude.{ℕ, ◌≡◌, ◌+◌, zero, suc, ◌⊎◌, ◌++◌, Bool, true, false, List, [], ◌∷◌, map, filter, Contains, slice_get, Option, Some, None, refl}
use Rattle.std.proofs.Common.{sym, ◌∙◌, ap, subst, arith, append-nil, inl, inr}
use Rattle.base_types.specs.declared.answer.Answer.{Answer}
use Rattle.base_types.specs.declared.epoch.Epoch.{Epoch}
use Rattle.base_types.specs.declared.id.AttemptId.{AttemptId}
use Rattle.base_messages.specs.declared.message.Message.TheVariants as message
use Rattle.base_messages.specs.declared.message.Post.{Post}
use Rattle.base_messages.specs.declared.message.Reply.TheVariants as reply
use Rattle.model_laws.specs.Members.{Has, has-filter, has-left, has-map, has-right}
use Rattle.model_laws.specs.TargetLaws.{same_number}
use Rattle.dtx_base.specs.declared.member.Parked.{Parked}
use Rattle.world_contents.specs.world_commit.attempts.Counting.{has-taken}
use Rattle.world_contents.specs.world_commit.attempts.History.{History}
use Rattle.world_base.specs.declared.client.ClientPlan.{ClientPlan}
use Rattle.world_base.specs.declared.client.ClientState.{ClientState}
use Rattle.world_base.specs.declared.client.Present.{Present}
use Rattle.world_base.specs.declared.letter.Letter.{Letter}
use Rattle.world_base.specs.declared.request.FetchRequest.{FetchRequest}
use Rattle.world_base.specs.declared.target.TargetState.{TargetState}
use Rattle.world_base.specs.declared.world.World.{World}
use Rattle.world_base.specs.ClientTurns.{about, attempt_id, request_of, waits}
use Rattle.world_base.specs.Events.{Rules, TargetHearsBy, client_plan, with_epoch}
use Rattle.world_base.specs.Letters.{client, is_talk_of, is_tell, letter_of, letters_of, talk_of, target}
use Rattle.world_base.specs.Requests.{fetch_message}
use Rattle.world_base.specs.TargetTurns.{Hearing}
use Rattle.world_contents.specs.gots.Gots.{Gots, IsServedAnswer, Remembers}
use Rattle.world_contents.specs.gots.TargetGots.{AnswersClient, answer-remembered, client-served, same-clients, same-request, sent-or_left}
use Rattle.world_contents.specs.reads.Adds.{AreAnswered, Heard, IsAnswered, IsAskedIn, Waited, served_at}
use Rattle.world_contents.specs.world_commit.statuses.Senders.{IsSentRightly, SendersAreRight}
use Rattle.world_contents.specs.world_letters.talks.Asked.{AsksRead}
use Rattle.world_contents.specs.world_letters.talks.AskLaws.{asked-is-request, asked-read, sent-is-asked}
use Rattle.world_contents.specs.world_letters.talks.Conversation.{is_fetch_of}
use Rattle.world_contents.specs.world_letters.talks.HearLaws.{answer-is}
use Rattle.world_contents.specs.world_letters.talks.TalkLaws.{got-is-talk, left-is-among, sent-is-talk}
use Rattle.world_contents.specs.world_letters.waits.ClientLaws.{present-of}
use Rattle.world_contents.specs.world_letters.waits.Waits.{ARead, Conversation, Held, HoldsIt, IsAnswer, IsAsked, IsHeld, IsLost, IsQuestion, IsReplied, IsReplyTo, ItsAsk, ItsRequest, TalksSo, asked_of, held_by, held_from, held_of, is_parked_of, parked_at}

-- ---- lists

only-one : {T : Type 0} (x y : T) (xs : List T) → Has x xs → xs ≡ y ∷ [] → x ≡ y
only-one {T} x y xs i is = by (subst (Has x) is i)
  where
    by : Has x (y ∷ []) → x ≡ y
    by (inl same) = same
    by (inr none) = absurd none

none-in : {T : Type 0} (x : T) (xs : List T) → Has x xs → xs ≡ [] → ⊥
none-in x xs i is = subst (Has x) is i

target-no_client : (t n : ℕ) → target t ≡ client n → ⊥
target-no_client t n e = let f : false ≡ true = ap (λ a. a.client) e in let no : ⊥ = cc in no

-- what a target holds is among what targets hold
held-among : (n i k : ℕ) (ss : List TargetState) (s : TargetState) (x : Held) → slice_get ss k ≡ Some s → Has x (held_by n (i + k) s.memory) → Has x (held_from n i ss)
held-among n i k [] s x at j = let no : ⊥ = cc in absurd no
held-among n i zero (y ∷ ss) s x at j =
    let same : y ≡ s = cc in
    has-left (held_by n i y.memory) (held_from n (i + 1) ss) x (subst (λ z. Has x (held_by n i z.memory)) (sym same) (subst (λ m. Has x (held_by n m s.memory)) (let e : i + 0 ≡ i = omega arith in e) j))
held-among n i (suc k) (y ∷ ss) s x at j =
    has-right (held_by n i y.memory) (held_from n (i + 1) ss) x (held-among n (i + 1) k ss s x at (subst (λ m. Has x (held_by n m s.memory)) (let e : i + suc k ≡ (i + 1) + k = omega arith in e) j))

held-of : (n t : ℕ) (w : World) (s : TargetState) (x : Held) → slice_get w.targets t ≡ Some s → Has x (held_by n t s.memory) → Has x (held_of n w)
held-of n t w s x at i = held-among n 0 t w.targets s x at (subst (λ m. Has x (held_by n m s.memory)) (let e : t ≡ 0 + t = omega arith in e) i)

-- ---- what is asked

-- a question is about the attempt that a client is at
question-of : (p : ClientPlan) (c : ClientState) (a : Present) (q : Post) → c.present ≡ Some a → IsQuestion p c q → request_of q.message ≡ Some (attempt_id p c a)
question-of p c a q at (ItsRequest k low sent) = (asked-is-request p k c a q (sent-is-asked p k c a q at sent)).of_attempt
question-of p c a q at (ItsAsk k s f low sent commit says) = ap (λ x. request_of x.message) says ∙ sym (ap request_of commit) ∙ (asked-is-request p k c a s (sent-is-asked p k c a s at sent)).of_attempt

-- a question that is a Fetch is asked of the attempt's next read
record ReadsNow (p : ClientPlan) (c : ClientState) (a : Present) (f : FetchRequest) : Type 0 where
  k : Epoch
  asks : AsksRead p k c a f

question-reads : (p : ClientPlan) (c : ClientState) (a : Present) (q : Post) (f : FetchRequest) → c.present ≡ Some a → IsQuestion p c q → q.message ≡ fetch_message f → ReadsNow p c a f
question-reads p c a q f at (ItsRequest k low sent) says = record { k = k; asks = asked-read p k c a q f (sent-is-asked p k c a q at sent) says }
question-reads p c a q f at (ItsAsk k s g low sent commit is) says = let e : message.Ask g.attempt ≡ fetch_message f = sym (ap (λ x. x.message) is) ∙ says in let no : ⊥ = cc in absurd no

module _ (Turn : Hearing) (r : Rules) (h k : History) (w v : World) (W : Conversation r w) (V : Conversation r v) (senders : SendersAreRight w) (G : Gots r h w) (g : TargetHearsBy Turn r w v) where
  in-talk : (u : World) (n : ℕ) (l : Letter) → Has l u.messages → is_talk_of n l ≡ true → Has l (talk_of n u.messages)
  in-talk u n l i talks = has-filter (is_talk_of n) u.messages l i talks

  heard-asked : (q : FetchRequest) (epoch : Epoch) (b : Answer) → fetch_message q ≡ g.l.message → ((f : Epoch) → q.ep ≡ Some f → f ≡ epoch) → Has (served_at g.t q epoch b) k.served → AnswersClient r k w g.t q epoch b
  heard-asked q epoch b it own among = by (slice_get w.clients q.attempt.client) refl
    where
      flies : Has g.l w.messages
      flies = has-taken w.messages g.l g.rest g.takes

      from : g.l.from ≡ client q.attempt.client
      from = subst (IsSentRightly g.l.from) (sym it) (senders g.l flies)

      its : Has g.l (talk_of q.attempt.client w.messages)
      its = in-talk w q.attempt.client g.l flies (sent-is-talk q.attempt.client g.l (ap is_tell (sym it)) from)

      talks : (c : ClientState) → slice_get w.clients q.attempt.client ≡ Some c → (b' : Bool) → waits c ≡ b' → TalksSo (client_plan r q.attempt.client) q.attempt.client c (talk_of q.attempt.client w.messages) (held_of q.attempt.client w) (asked_of q.attempt.client w) b' → AnswersClient r k w g.t q epoch b
      talks c here false now quiet = absurd (none-in g.l (talk_of q.attempt.client w.messages) its quiet.no_letters)
      talks c here true now (IsAsked z is letters held asked) =
          let i = present-of c now in
          let same : g.l ≡ letter_of (client q.attempt.client) z = only-one g.l (letter_of (client q.attempt.client) z) (talk_of q.attempt.client w.messages) its letters in
          let y = question-reads (client_plan r q.attempt.client) c i.a z q i.at is (sym (ap (λ x. x.message) same) ∙ sym it) in
          record { n = q.attempt.client; c = c; a = i.a; here = here; present = i.at; k0 = y.k; is = record { f = q; asks = y.asks; agrees = own; attempt = refl; op = refl; group = refl; read = refl; among = among } }
      talks c here true now (IsHeld z x is holds letters held asked) = absurd (none-in g.l (talk_of q.attempt.client w.messages) its letters)
      talks c here true now (IsReplied z l is got letters held asked) =
          let same : g.l ≡ l = only-one g.l l (talk_of q.attempt.client w.messages) its letters in
          absurd (target-no_client g.t q.attempt.client (sym g.to_it ∙ ap (λ x. x.to) same ∙ got.to))

      by : (o : Option ClientState) → slice_get w.clients q.attempt.client ≡ o → AnswersClient r k w g.t q epoch b
      by None none = absurd (none-in g.l (talk_of q.attempt.client w.messages) its (W.nobody q.attempt.client none).no_letters)
      by (Some c) here = talks c here (waits c) refl (W.talks q.attempt.client c here)

  waited-asked : (q : FetchRequest) (epoch : Epoch) (b : Answer) (p : Parked) → Has p g.s.memory.member.parked → fetch_message q ≡ p.ask → ((f : Epoch) → q.ep ≡ Some f → f ≡ epoch) → Has (served_at g.t q epoch b) k.served → AnswersClient r k w g.t q epoch b
  waited-asked q epoch b p i it own among = by (slice_get w.clients q.attempt.client) refl
    where
      its : Has (parked_at g.t p) (held_of q.attempt.client w)
      its = held-of q.attempt.client g.t w g.s (parked_at g.t p) g.here
          (has-left (map (parked_at g.t) (filter (is_parked_of q.attempt.client) g.s.memory.member.parked)) _ (parked_at g.t p)
          (has-map (parked_at g.t) (filter (is_parked_of q.attempt.client) g.s.memory.member.parked) p (has-filter (is_parked_of q.attempt.client) g.s.memory.member.parked p i (ap (is_fetch_of q.attempt.client) (sym it) ∙ same_number q.attempt.client))))

      read-so : (c : ClientState) → slice_get w.clients q.attempt.client ≡ Some c → waits c ≡ true → (z : Post) (x : Held) → IsQuestion (client_plan r q.attempt.client) c z → HoldsIt z x → x ≡ parked_at g.t p → AnswersClient r k w g.t q epoch b
      read-so c here now z x is (ARead t ask f e to says has asked) same =
          let y = present-of c now in
          let u = question-reads (client_plan r q.attempt.client) c y.a z f y.at is says in
          let its-ask : ask ≡ p.ask = cc in
          let both = same-request q (record f { ep = Some e }) (it ∙ sym its-ask ∙ asked) in
          record {
            n = q.attempt.client;
            c = c;
            a = y.a;
            here = here;
            present = y.at;
            k0 = u.k;
            is = record { f = f; asks = u.asks; agrees = λ o is'. has o is' ∙ own e both.3; attempt = both.0; op = both.1; group = both.2; read = both.4; among = among };
          }
      read-so c here now z x is holds same = let no : ⊥ = cc in absurd no

      talks : (c : ClientState) → slice_get w.clients q.attempt.client ≡ Some c → (b' : Bool) → waits c ≡ b' → TalksSo (client_plan r q.attempt.client) q.attempt.client c (talk_of q.attempt.client w.messages) (held_of q.attempt.client w) (asked_of q.attempt.client w) b' → AnswersClient r k w g.t q epoch b
      talks c here false now quiet = absurd (none-in (parked_at g.t p) (held_of q.attempt.client w) its quiet.none_held)
      talks c here true now (IsAsked z is letters held asked) = absurd (none-in (parked_at g.t p) (held_of q.attempt.client w) its held)
      talks c here true now (IsHeld z x is holds letters held asked) = read-so c here now z x is holds (sym (only-one (parked_at g.t p) x (held_of q.attempt.client w) its held))
      talks c here true now (IsReplied z l is got letters held asked) = absurd (none-in (parked_at g.t p) (held_of q.attempt.client w) its held)

      by : (o : Option ClientState) → slice_get w.clients q.attempt.client ≡ o → AnswersClient r k w g.t q epoch b
      by None none = absurd (none-in (parked_at g.t p) (held_of q.attempt.client w) its (W.nobody q.attempt.client none).none_held)
      by (Some c) here = talks c here (waits c) refl (W.talks q.attempt.client c here)

  asked-by : (q : FetchRequest) (epoch : Epoch) (b : Answer) → IsAskedIn g.l.message g.s.memory.member.parked (fetch_message q) → ((f : Epoch) → q.ep ≡ Some f → f ≡ epoch) → Has (served_at g.t q epoch b) k.served → AnswersClient r k w g.t q epoch b
  asked-by q epoch b (Heard it) own among = heard-asked q epoch b it own among
  asked-by q epoch b (Waited p i it) own among = waited-asked q epoch b p i it own among

  clients : v.clients ≡ w.clients
  clients = ap (λ x. x.clients) g.after

  -- an answer goes to its attempt's client, since what is in flight to a client answers what it asked
  goes-home : (n : ℕ) (c : ClientState) (l : Letter) (x : AttemptId) (op group : ℕ) (own : Option Epoch) (b : Answer) → slice_get w.clients n ≡ Some c → Has l v.messages → l.from ≡ target g.t → l.to ≡ client n
      → l.message ≡ message.Fetched x op group own (reply.Answer b) → x.client ≡ n
  goes-home n c l x op group own b here i from to is = talks (waits c) refl (V.talks n c (ap (λ cs. slice_get cs n) clients ∙ here))
    where
      its : Has l (talk_of n v.messages)
      its = in-talk v n l i (got-is-talk n l (ap is_tell is) to)

      says : (z : Post) → request_of z.message ≡ about l.message → (a : Present) → request_of z.message ≡ Some (attempt_id (client_plan r n) c a) → x.client ≡ n
      says z same a of = let e : Some x ≡ Some (attempt_id (client_plan r n) c a) = sym (ap about is) ∙ sym same ∙ of in let one : x ≡ attempt_id (client_plan r n) c a = cc in ap (λ y. y.client) one

      replies : (z : Post) → waits c ≡ true → IsQuestion (client_plan r n) c z → IsReplyTo z l.message → x.client ≡ n
      replies z now asks (IsAnswer ans) = let y = present-of c now in says z (sym (answer-is z.message l.message ans).same_about) y.a (question-of (client_plan r n) c y.a z y.at asks)
      replies z now asks (IsLost down lost) = let no : ⊥ = cc (is, lost) in absurd no

      talks : (b' : Bool) → waits c ≡ b' → TalksSo (client_plan r n) n c (talk_of n v.messages) (held_of n v) (asked_of n v) b' → x.client ≡ n
      talks false now quiet = absurd (none-in l (talk_of n v.messages) its quiet.no_letters)
      talks true now (IsAsked z asks letters held asked) =
          let same : l ≡ letter_of (client n) z = only-one l (letter_of (client n) z) (talk_of n v.messages) its letters in
          absurd (target-no_client g.t n (sym from ∙ ap (λ y. y.from) same))
      talks true now (IsHeld z y asks holds letters held asked) = absurd (none-in l (talk_of n v.messages) its letters)
      talks true now (IsReplied z m asks got letters held asked) =
          let same : l ≡ m = only-one l m (talk_of n v.messages) its letters in replies z now asks (subst (λ y. IsReplyTo z y.message) (sym same) got.says)

  module _ (answered : AreAnswered k.served g.t g.l.message g.s.memory.member.parked g.did.posts) where
    -- an answer that is sent to a client is of what it asks
    sent-answer : (n : ℕ) (c : ClientState) (a : Present) (p : Post) (x : AttemptId) (op group : ℕ) (own : Option Epoch) (b : Answer) → slice_get w.clients n ≡ Some c → c.present ≡ Some a → Has p g.did.posts → p.to ≡ client n
        → p.message ≡ message.Fetched x op group own (reply.Answer b) → IsServedAnswer (client_plan r n) k c a own b
    sent-answer n c a p x op group own b here present i to it = subst (λ e. IsServedAnswer (client_plan r n) k c a e b) (sym z.told) (client-served r k w g.t n c a z.q z.epoch b y number here present)
      where
        z : IsAnswered k.served g.t g.l.message g.s.memory.member.parked x op group own b
        z = answered p x op group own b i it

        y : AnswersClient r k w g.t z.q z.epoch b
        y = asked-by z.q z.epoch b z.asked z.own z.among

        flies : Has (letter_of (target g.t) p) v.messages
        flies = subst (λ u. Has (letter_of (target g.t) p) u.messages) (sym g.after) (has-right g.rest (letters_of (target g.t) g.did.posts) (letter_of (target g.t) p) (has-map (letter_of (target g.t)) g.did.posts p i))

        number : y.n ≡ n
        number =
            let of_it : x.client ≡ y.n = ap (λ u. u.client) (z.attempt ∙ y.is.attempt ∙ y.is.asks.attempt) in
            sym of_it ∙ goes-home n c (letter_of (target g.t) p) x op group own b here flies refl to it

    -- so clients were told what was served then, where it tells of no line
    pub hearing-gots : Remembers h k → g.did.lines ≡ [] → Gots r k v
    hearing-gots more silent = same-clients r h k w v more clients lines G flies
      where
        lines : v.lines ≡ w.lines
        lines = ap (λ x. x.lines) g.after ∙ ap (λ ls. w.lines ++ map (with_epoch w.issued) ls) silent ∙ append-nil w.lines

        flies : (n : ℕ) (c : ClientState) (a : Present) (l : Letter) (x : AttemptId) (op group : ℕ) (own : Option Epoch) (b : Answer) → slice_get w.clients n ≡ Some c → c.present ≡ Some a → Contains v.messages l → l.to ≡ client n
            → l.message ≡ message.Fetched x op group own (reply.Answer b) → IsServedAnswer (client_plan r n) k c a own b
        flies n c a l x op group own b here present among to it = by (sent-or_left g.rest (target g.t) g.did.posts l (subst (λ ls. Contains ls l) (ap (λ z. z.messages) g.after) among))
          where
            by : Contains g.rest l ⊎ ((p : Post) × Has p g.did.posts × (letter_of (target g.t) p ≡ l)) → IsServedAnswer (client_plan r n) k c a own b
            by (inl before) = answer-remembered (client_plan r n) h k c a own b more (G.flying n c a l x op group own b here present (left-is-among w.messages g.l g.rest l g.takes before) to it)
            by (inr p) = sent-answer n c a p.0 x op group own b here present p.1 (ap (λ z. z.to) p.2 ∙ to) (ap (λ z. z.message) p.2 ∙ it)
