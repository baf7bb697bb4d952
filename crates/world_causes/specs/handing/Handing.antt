-- What a client asked is in flight alone: so attempts are handed over one at a time, to their leaders, and clients are told their own ends.
use Rattle.std.specs.Prelude.{ℕ, ◌≡◌, ◌≢◌, Bool, true, false, List, [], ◌∷◌, slice_get, Option, Some, None, refl}
use Rattle.std.proofs.Common.{sym, ◌∙◌, ap, subst, inl, inr}
use Rattle.base_types.specs.declared.entry.Entry.{Entry}
use Rattle.base_types.specs.declared.epoch.Epoch.{Epoch}
use Rattle.base_types.specs.declared.id.AttemptId.{AttemptId}
use Rattle.base_types.specs.declared.operation.MinorWrite.{MinorWrite}
use Rattle.base_types.specs.declared.operation.Op.{Op}
use Rattle.base_types.specs.declared.outcome.Outcome.{Outcome}
use Rattle.base_types.specs.declared.script.Command.TheVariants as command
use Rattle.base_types.specs.Placement.{writes_leader}
use Rattle.base_messages.specs.declared.message.Message.{Message}
use Rattle.base_messages.specs.declared.message.Message.TheVariants as message
use Rattle.base_messages.specs.declared.message.Post.{Post}
use Rattle.daos_model.specs.Accesses.{minor_writes}
use Rattle.daos_model.specs.BoolLaws.{clash}
use Rattle.daos_model.specs.Durables.{same_attempt}
use Rattle.daos_model.specs.EntryLaws.{same_attempt-itself}
use Rattle.daos_model.specs.Transactions.{attempt_ops, ops_or_none}
use Rattle.dtx_base.specs.LeaderLaws.{same-is}
use Rattle.model_laws.specs.Members.{Has, contains-from_has}
use Rattle.world_contents.specs.world_commit.attempts.Asked.{IsCommitNew}
use Rattle.world_contents.specs.world_commit.attempts.Attempts.{IsBorn, entry_at, leader_of, writes_of}
use Rattle.world_contents.specs.world_commit.attempts.Counting.{has-taken}
use Rattle.world_contents.specs.world_commit.attempts.History.{History}
use Rattle.world_base.specs.declared.client.ClientPlan.{ClientPlan}
use Rattle.world_base.specs.declared.client.ClientState.{ClientState}
use Rattle.world_base.specs.declared.client.Present.{Present}
use Rattle.world_base.specs.declared.letter.Letter.{Letter}
use Rattle.world_base.specs.declared.request.CommitRequest.{CommitRequest}
use Rattle.world_base.specs.declared.world.World.{World}
use Rattle.world_base.specs.ClientTurns.{attempt_id, command_at, request_of, waits}
use Rattle.world_base.specs.Events.{Rules, client_plan}
use Rattle.world_base.specs.Letters.{Takes, client, is_talk_of, is_tell, letter_of, reset_message, talk_of, target}
use Rattle.world_contents.specs.world_letters.clients.Answered.{ops_here}
use Rattle.world_contents.specs.world_letters.epochs.Asking.{ops-at}
use Rattle.world_contents.specs.world_letters.epochs.Epochs.{ClientsStand}
use Rattle.world_contents.specs.world_commit.fates.Asked.{AskedRight}
use Rattle.world_causes.specs.outcomes.Outcomes.{IsBehind, Outcomes, WaitsForEnd, commits}
use Rattle.world_causes.specs.outcomes.Premises.{AsksGoRight, CommitsAreOfClients, HandsOver, IsWaitedFor, hands}
use Rattle.world_causes.specs.outcomes.TalkLaws.{asks-commit}
use Rattle.world_contents.specs.world_letters.talks.AskLaws.{asked-commit, sent-is-asked}
use Rattle.world_contents.specs.world_letters.talks.Asked.{ARead, ASnapshot, AnAggregation, Asked, ItsWrites, commit_of}
use Rattle.world_contents.specs.world_letters.talks.Conversation.{Answers}
use Rattle.world_contents.specs.world_letters.talks.TalkLaws.{got-is-talk, sent-is-talk, taken-from, talk-none, talk-only}
use Rattle.world_contents.specs.world_letters.waits.ClientLaws.{present-of, question-about}
use Rattle.world_contents.specs.world_letters.waits.Passing.{IsOfClient, question-of}
use Rattle.world_contents.specs.world_letters.waits.Premises.{RequestsAreOfClients, is_end}
use Rattle.world_contents.specs.world_letters.waits.Requests.{is_request, request-tells}
use Rattle.world_contents.specs.world_letters.waits.Waits.{Conversation, IsAnswer, IsAsked, IsHeld, IsLost, IsQuestion, IsReplied, IsReply, IsReplyTo, ItsAsk, ItsRequest, TalksSo, asked_of, held_of}

-- ---- what is in flight of a client

-- a request in flight is what its client asked, and nothing else of that client is in flight
pub record IsAskedBy (r : Rules) (w : World) (l : Letter) (rest : List Letter) : Type 0 where
  pub n : ℕ
  pub c : ClientState
  pub here : slice_get w.clients n ≡ Some c
  pub a : Present
  pub at : c.present ≡ Some a
  pub now : a.waits ≡ true
  pub q : Post
  pub question : IsQuestion (client_plan r n) c q
  pub is : l ≡ letter_of (client n) q
  pub alone : talk_of n rest ≡ []

-- a letter to a client, but for one that tells a tracker, replies to what it asked
pub record IsToldTo (r : Rules) (w : World) (n : ℕ) (l : Letter) : Type 0 where
  pub c : ClientState
  pub here : slice_get w.clients n ≡ Some c
  pub now : waits c ≡ true
  pub q : Post
  pub question : IsQuestion (client_plan r n) c q
  pub reply : IsReply n q l

module _ (r : Rules) (w : World) (k : Conversation r w) (from : RequestsAreOfClients w) (l : Letter) (rest : List Letter) (takes : Takes w.messages l rest) where
  among : Has l w.messages
  among = has-taken w.messages l rest takes

  pub asked-by : is_request l.message ≡ true → IsAskedBy r w l rest
  asked-by is = by (slice_get w.clients n) refl
    where
      n : ℕ
      n = l.from.number

      is-client : l.from.client ≡ true
      is-client = (from.letters l among).request is

      its : is_talk_of n l ≡ true
      its = sent-is-talk n l (request-tells l.message is) (ap (λ b. record { client = b; number = n }) is-client)

      waiting : (c : ClientState) → slice_get w.clients n ≡ Some c → (b : Bool) → waits c ≡ b → TalksSo (client_plan r n) n c (talk_of n w.messages) (held_of n w) (asked_of n w) b → IsAskedBy r w l rest
      waiting c here false now q = absurd (talk-none n w.messages l rest takes its q.no_letters)
      waiting c here true now (IsAsked q question one none free) =
          let only = talk-only n w.messages l (letter_of (client n) q) rest takes its one in
          let i = present-of c now in
          record { n = n; c = c; here = here; a = i.a; at = i.at; now = i.now; q = q; question = question; is = only.0; alone = only.1 }
      waiting c here true now (IsHeld q x question holds none one free) = absurd (talk-none n w.messages l rest takes its none)
      waiting c here true now (IsReplied q m question got one none free) =
          let only = talk-only n w.messages l m rest takes its one in
          let i = present-of c now in
          let off : l.from.client ≡ false = ap (λ x. x.from.client) only.0 ∙ ap (λ a. a.client) got.from ∙ (question-about (client_plan r n) c i.a q i.at question).to_target in
          clash l.from.client is-client off

      by : (o : Option ClientState) → slice_get w.clients n ≡ o → IsAskedBy r w l rest
      by None e = absurd (talk-none n w.messages l rest takes its (k.nobody n e).no_letters)
      by (Some c) e = waiting c e (waits c) refl (k.talks n c e)

pub told-to : (r : Rules) (w : World) → Conversation r w → (n : ℕ) (l : Letter) (rest : List Letter) → Takes w.messages l rest → l.to ≡ client n → is_tell l.message ≡ false → IsToldTo r w n l
told-to r w k n l rest takes to no_tell = by (slice_get w.clients n) refl
  where
    its : is_talk_of n l ≡ true
    its = got-is-talk n l no_tell to

    waiting : (c : ClientState) → slice_get w.clients n ≡ Some c → (b : Bool) → waits c ≡ b → TalksSo (client_plan r n) n c (talk_of n w.messages) (held_of n w) (asked_of n w) b → IsToldTo r w n l
    waiting c here false now q = absurd (talk-none n w.messages l rest takes its q.no_letters)
    waiting c here true now (IsAsked q question one none free) =
        let only = talk-only n w.messages l (letter_of (client n) q) rest takes its one in
        let i = present-of c now in
        clash l.to.client (ap (λ x. x.client) to) (ap (λ x. x.to.client) only.0 ∙ (question-about (client_plan r n) c i.a q i.at question).to_target)
    waiting c here true now (IsHeld q x question holds none one free) = absurd (talk-none n w.messages l rest takes its none)
    waiting c here true now (IsReplied q m question got one none free) =
        let only = talk-only n w.messages l m rest takes its one in
        record { c = c; here = here; now = now; q = q; question = question; reply = subst (IsReply n q) (sym only.0) got }

    by : (o : Option ClientState) → slice_get w.clients n ≡ o → IsToldTo r w n l
    by None e = absurd (talk-none n w.messages l rest takes its (k.nobody n e).no_letters)
    by (Some c) e = waiting c e (waits c) refl (k.talks n c e)

-- ---- what is handed over

hands-request : (x : AttemptId) (m : Message) → hands x m ≡ true → is_request m ≡ true
hands-request x (message.Commit y ep first tracker ws) own = refl
hands-request x (message.Ask y) own = refl
hands-request x m own = let no : ⊥ = cc in absurd no

-- who hands an attempt over, or asks after it, is behind its last operation
pub question-hands : (p : ClientPlan) (c : ClientState) (a : Present) (q : Post) (x : AttemptId) → c.present ≡ Some a → IsQuestion p c q → hands x q.message ≡ true → (attempt_id p c a ≡ x) × IsBehind (ops_here p c) a
question-hands p c a q x at (ItsRequest k low sent) own = asks-commit p k c a q x (sent-is-asked p k c a q at sent) own
question-hands p c a q x at (ItsAsk k s f low sent commit says) own =
    let its : f.attempt ≡ x = same-is f.attempt x (subst (λ (z : Post). hands x z.message ≡ true) says own) in
    asks-commit p k c a s x (sent-is-asked p k c a s at sent) (ap (hands x) commit ∙ ap (λ y. same_attempt y x) its ∙ same_attempt-itself x)

module _ (r : Rules) (w : World) (k : Conversation r w) (from : RequestsAreOfClients w) where
  -- the client that hands it over
  handed : (l : Letter) (rest : List Letter) (x : AttemptId) → Takes w.messages l rest → hands x l.message ≡ true → (z : IsAskedBy r w l rest) × (attempt_id (client_plan r z.n) z.c z.a ≡ x) × IsBehind (ops_here (client_plan r z.n) z.c) z.a
  handed l rest x takes own =
      let z = asked-by r w k from l rest takes (hands-request x l.message own) in
      let b = question-hands (client_plan r z.n) z.c z.a z.q x z.at z.question (subst (λ (y : Letter). hands x y.message ≡ true) z.is own) in
      (z, b.0, b.1)

  waited : (l : Letter) (rest : List Letter) (x : AttemptId) → (z : IsAskedBy r w l rest) → attempt_id (client_plan r z.n) z.c z.a ≡ x → IsBehind (ops_here (client_plan r z.n) z.c) z.a → IsWaitedFor r w.clients x
  waited l rest x z own behind = record {
    c = z.c;
    here = subst (λ m. slice_get w.clients m ≡ Some z.c) (ap (λ y. y.client) own) z.here;
    waits = subst (λ m. WaitsForEnd (client_plan r m) z.c x) (ap (λ y. y.client) own) (record { a = z.a; present = z.at; own = own; waits = z.now; behind = behind });
  }

  -- an end answers the attempt that was asked for
  pub ended-attempt : (q : Post) (x : AttemptId) (own : Option Epoch) (how : Outcome) (m : Message) → m ≡ message.Ended x own how → IsReplyTo q m → request_of q.message ≡ Some x
  ended-attempt q x own how m says (IsAnswer ans) = by q.message (subst (Answers q.message) says ans)
    where
      by : (y : Message) → Answers y (message.Ended x own how) → request_of y ≡ Some x
      by (message.Fetch y op group e first tracker rd snapshot) a = let bad = a.2 in (let no : ⊥ = cc in absurd no)
      by (message.Commit y e first tracker ws) a = let same : message.Ended x own how ≡ message.Ended y a.0 a.1 = a.2 in cc
      by (message.Ask y) a = let same : message.Ended x own how ≡ message.Ended y a.0 a.1 = a.2 in cc
      by (message.Snap y cont name tracker) a = let same : message.Ended x own how ≡ message.Ended y a.0 a.1 = a.2 in cc
      by (message.Prune y cont tracker e) a = let same : message.Ended x own how ≡ message.Ended y a.0 a.1 = a.2 in cc
      by y a = absurd a
  ended-attempt q x own how m says (IsLost down lost) = let bad : message.Ended x own how ≡ reset_message q.to.number down q.message = sym says ∙ lost in let no : ⊥ = cc in absurd no

  pub hands-over : HandsOver r w
  hands-over = record {
    waits = λ l x i own. (let t = taken-from w.messages l (contains-from_has w.messages l i) in let z = handed l t.0 x t.1 own in waited l t.0 x z.0 z.1 z.2);
    sender = λ l x i own. (let t = taken-from w.messages l (contains-from_has w.messages l i) in let z = handed l t.0 x t.1 own in ap (λ m. m.from) z.0.is ∙ ap (λ y. client y.client) z.1);
    alone = λ l rest x takes own. (let z = handed l rest x takes own in subst (λ m. talk_of m rest ≡ []) (ap (λ y. y.client) z.1) z.0.alone);
    answered = λ l x own how i says. answered l x own how i says;
  }
    where
      answered : (l : Letter) (x : AttemptId) (own : Option Epoch) (how : Outcome) → Has l w.messages → l.message ≡ message.Ended x own how → l.to ≡ client x.client
      answered l x own how i says =
          let t = taken-from w.messages l (contains-from_has w.messages l i) in
          let to : l.to ≡ client l.to.number = ap (λ b. record { client = b; number = l.to.number }) ((from.letters l i).end (ap is_end says)) in
          let z = told-to r w k l.to.number l t.0 t.1 to (ap is_tell says) in
          let of : IsOfClient l.to.number z.q = question-of r l.to.number z.c z.q z.now z.question in
          let same : Some of.x ≡ Some x = sym of.asks ∙ ended-attempt z.q x own how l.message says z.reply.says in
          let its : of.x ≡ x = cc in
          to ∙ ap client (sym of.own ∙ ap (λ y. y.client) its)

-- what hands an attempt over comes of a client
pub commits-of_clients : (w : World) → RequestsAreOfClients w → CommitsAreOfClients w
commits-of_clients w from l x i is = (from.letters l i).request (as-request l.message is)
  where
    as-request : (m : Message) → commits x m ≡ true → is_request m ≡ true
    as-request (message.Commit y ep first tracker ws) own = refl
    as-request m own = let no : ⊥ = cc in absurd no

-- ---- where it goes

-- what a client hands over are the writes of its attempt, and it hands them to their leader
pub record IsHandedRight (r : Rules) (x : AttemptId) (q : Post) (ws : List MinorWrite) : Type 0 where
  pub to : q.to ≡ target (leader_of r x)
  pub writes : ws ≡ writes_of r x
  pub some : ws ≢ []

module _ (r : Rules) (w : World) (stand : ClientsStand r w) (n : ℕ) (c : ClientState) (here : slice_get w.clients n ≡ Some c) (a : Present) (at : c.present ≡ Some a) where
  abbrev p : ClientPlan
  p = client_plan r n

  -- the operations of a present attempt are those of its command
  ops-are : (ops : List Op) (turns : List ℕ) (name : Option (List ℕ)) → command_at p c ≡ Some (command.Run ops turns name) → attempt_ops r.script (attempt_id p c a) ≡ ops
  ops-are ops turns name command-is = let s = stand n c here in ops-at r n c a s.0 at s.1 ∙ ap ops_or_none command-is

  pub commit-goes : (k : Epoch) (q : Post) (f : CommitRequest) → Asked p k c a q → q.message ≡ commit_of f → IsHandedRight r (attempt_id p c a) q f.writes
  commit-goes k q f (ItsWrites ops turns snapshot w2 ws command-is last all says) same =
      let ours : minor_writes 0 (attempt_ops r.script (attempt_id p c a)) ≡ w2 ∷ ws = ap (minor_writes 0) (ops-are ops turns snapshot command-is) ∙ all in
      let both : commit_of f ≡ message.Commit (attempt_id p c a) a.epoch a.first k (w2 ∷ ws) = sym same ∙ ap (λ z. z.message) says in
      let writes : f.writes ≡ w2 ∷ ws = cc in
      record { to = ap (λ z. z.to) says ∙ ap (λ ws. target (writes_leader ws r.script.targets)) (sym ours); writes = writes ∙ sym ours; some = λ none. let bad : w2 ∷ ws ≡ [] = sym writes ∙ none in let no : ⊥ = cc in no }
  commit-goes k q f (ARead ops turns snapshot op rd at2 is asks says) same = let bad = sym same ∙ ap (λ z. z.message) says in (let no : ⊥ = cc in absurd no)
  commit-goes k q f (ASnapshot name cont at2 says) same = let bad = sym same ∙ ap (λ z. z.message) says in (let no : ⊥ = cc in absurd no)
  commit-goes k q f (AnAggregation cont at2 says) same = let bad = sym same ∙ ap (λ z. z.message) says in (let no : ⊥ = cc in absurd no)

  -- so who asks after an attempt asks its leader
  pub ask-goes : (q : Post) (x : AttemptId) → IsQuestion p c q → q.message ≡ message.Ask x → q.to ≡ target (leader_of r x)
  ask-goes q x (ItsAsk k s f low sent commit says) same =
      let g = commit-goes k s f (sent-is-asked p k c a s at sent) commit in
      let own : f.attempt ≡ attempt_id p c a = (asked-commit p k c a s f (sent-is-asked p k c a s at sent) commit).attempt in
      let ask : message.Ask f.attempt ≡ message.Ask x = sym (ap (λ z. z.message) says) ∙ same in
      let its : f.attempt ≡ x = cc in
      ap (λ z. z.to) says ∙ g.to ∙ ap (λ y. target (leader_of r y)) (sym own ∙ its)
  ask-goes q x (ItsRequest k low sent) same = by (sent-is-asked p k c a q at sent)
    where
      by : Asked p k c a q → q.to ≡ target (leader_of r x)
      by (ItsWrites ops turns snapshot w2 ws at2 last all says) = let bad = sym same ∙ ap (λ z. z.message) says in (let no : ⊥ = cc in absurd no)
      by (ARead ops turns snapshot op rd at2 is asks says) = let bad = sym same ∙ ap (λ z. z.message) says in (let no : ⊥ = cc in absurd no)
      by (ASnapshot name cont at2 says) = let bad = sym same ∙ ap (λ z. z.message) says in (let no : ⊥ = cc in absurd no)
      by (AnAggregation cont at2 says) = let bad = sym same ∙ ap (λ z. z.message) says in (let no : ⊥ = cc in absurd no)

  commit-is : (q : Post) (f : CommitRequest) → IsQuestion p c q → q.message ≡ commit_of f → (f.attempt ≡ attempt_id p c a) × IsHandedRight r (attempt_id p c a) q f.writes
  commit-is q f (ItsRequest k low sent) same = let z = sent-is-asked p k c a q at sent in ((asked-commit p k c a q f z same).attempt, commit-goes k q f z same)
  commit-is q f (ItsAsk k s g low sent commit says) same = let bad = sym same ∙ ap (λ z. z.message) says in (let no : ⊥ = cc in absurd no)

module _ (r : Rules) (w : World) (k : Conversation r w) (from : RequestsAreOfClients w) (stand : ClientsStand r w) where
  pub asks-right : AsksGoRight r w
  asks-right l x i says =
      let t = taken-from w.messages l (contains-from_has w.messages l i) in
      let z = asked-by r w k from l t.0 t.1 (ap is_request says) in
      ap (λ y. y.to) z.is ∙ ask-goes r w stand z.n z.c z.here z.a z.at z.q x z.question (sym (ap (λ y. y.message) z.is) ∙ says)

  -- a Commit in flight
  pub record IsCommitAsked (l : Letter) (x : AttemptId) (ws : List MinorWrite) : Type 0 where
    pub to : l.to ≡ target (leader_of r x)
    pub writes : ws ≡ writes_of r x
    pub some : ws ≢ []
    pub sender : l.from ≡ client x.client

  pub commit-asked : (l : Letter) (x : AttemptId) (ep first : Option Epoch) (tracker : Epoch) (ws : List MinorWrite) → Has l w.messages → l.message ≡ message.Commit x ep first tracker ws → IsCommitAsked l x ws
  commit-asked l x ep first tracker ws i says =
      let f : CommitRequest = record { attempt = x; ep = ep; first = first; tracker = tracker; writes = ws } in
      let t = taken-from w.messages l (contains-from_has w.messages l i) in
      let z = asked-by r w k from l t.0 t.1 (ap is_request says) in
      let g = commit-is r w stand z.n z.c z.here z.a z.at z.q f z.question (sym (ap (λ y. y.message) z.is) ∙ says) in
      record {
        to = ap (λ y. y.to) z.is ∙ g.1.to ∙ ap (λ y. target (leader_of r y)) (sym g.0);
        writes = g.1.writes ∙ ap (writes_of r) (sym g.0);
        some = g.1.some;
        sender = ap (λ y. y.from) z.is ∙ ap (λ y. client y.client) (sym g.0);
      }

-- what is issued goes with Commits, and an attempt has one epoch
pub record EpochsOfCommits (w : World) : Type 0 where
  pub own : (l : Letter) (x : AttemptId) (e : Epoch) (first : Option Epoch) (tracker : Epoch) (ws : List MinorWrite) → Has l w.messages → l.message ≡ message.Commit x (Some e) first tracker ws → Has (x, e) w.issued
  pub one : (x : AttemptId) (e f : Epoch) → Has (x, e) w.issued → Has (x, f) w.issued → e ≡ f

-- so what is asked of targets is right and new
pub asked-right : (r : Rules) (h : History) (w : World) → Conversation r w → RequestsAreOfClients w → ClientsStand r w → Outcomes r h w → EpochsOfCommits w → AskedRight r h w
asked-right r h w k from stand outcomes epochs = record {
  commits = λ l x ep first tracker ws i says. new l x ep first tracker ws i says;
  senders = λ l x ep first tracker ws i says. (commit-asked r w k from stand l x ep first tracker ws i says).sender;
  one_epoch = epochs.one;
}
  where
    new : (l : Letter) (x : AttemptId) (ep first : Option Epoch) (tracker : Epoch) (ws : List MinorWrite) → Has l w.messages → l.message ≡ message.Commit x ep first tracker ws → IsCommitNew r h w l.to x ep ws
    new l x ep first tracker ws i says =
        let c = commit-asked r w k from stand l x ep first tracker ws i says in
        record {
          receiver = c.to;
          writes = c.writes;
          own = λ e is. epochs.own l x e first tracker ws i (says ∙ ap (λ z. message.Commit x z first tracker ws) is);
          unstored = unstored (entry_at w (leader_of r x) x) refl;
          unended = λ d. unborn (inr d);
        }
      where
        unborn : IsBorn r h w x → ⊥
        unborn = outcomes.new l x i (ap (commits x) says ∙ same_attempt-itself x)

        unstored : (o : Option Entry) → entry_at w (leader_of r x) x ≡ o → entry_at w (leader_of r x) x ≡ None
        unstored None found = found
        unstored (Some e) found = absurd (unborn (inl (record { entry = e; found = found })))
