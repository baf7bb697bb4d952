-- Whatever tells of a stop of an attempt, its client has begun it.
use Rattle.std.specs.Prelude.{ℕ, ◌≡◌, ◌⊎◌, true, false, slice_get, Option, Some, None, refl}
use Rattle.std.proofs.Common.{sym, ◌∙◌, ap, subst, inl}
use Rattle.base_types.specs.declared.epoch.Epoch.{Epoch}
use Rattle.base_types.specs.declared.id.AttemptId.{AttemptId}
use Rattle.base_messages.specs.declared.message.Message.{Message, more_of-Message}
use Rattle.base_messages.specs.declared.message.Message.TheVariants as message
use Rattle.base_messages.specs.declared.message.Post.{Post}
use Rattle.base_messages.specs.declared.message.Reply.{Reply}
use Rattle.base_messages.specs.declared.message.Reply.TheVariants as reply
use Rattle.daos_model.specs.Attempts.{is_lost}
use Rattle.daos_model.specs.BoolLaws.{and_left}
use Rattle.daos_model.specs.Durables.{same_attempt}
use Rattle.dtx_base.specs.LeaderLaws.{same-is}
use Rattle.model_laws.specs.Members.{Has, contains-from_has}
use Rattle.world_contents.specs.world_commit.attempts.Attempts.{IsBorn}
use Rattle.world_contents.specs.world_commit.attempts.History.{History}
use Rattle.world_base.specs.declared.client.ClientState.{ClientState}
use Rattle.world_base.specs.declared.client.Present.{Present}
use Rattle.world_base.specs.declared.letter.Letter.{Letter}
use Rattle.world_base.specs.declared.world.World.{World}
use Rattle.world_base.specs.ClientTurns.{attempt_id, request_of}
use Rattle.world_base.specs.Events.{Rules, client_plan}
use Rattle.world_base.specs.Letters.{client, is_tell, reset_message}
use Rattle.world_contents.specs.world_letters.epochs.Epochs.{IsPresent}
use Rattle.world_contents.specs.world_commit.fates.Facts.{Attempts, IsAskedSo, IsSaidSo}
use Rattle.world_causes.specs.handing.Begun.{handed-where, lost-question}
use Rattle.world_causes.specs.handing.Handing.{asked-by, ended-attempt, told-to}
use Rattle.world_causes.specs.causes.Causes.{EndsOf}
use Rattle.world_causes.specs.handing.Targets.{unanswered-by}
use Rattle.world_causes.specs.losses.ClientHears.{TellsLoss}
use Rattle.world_causes.specs.losses.Clients.{AreBegun, IsOver}
use Rattle.world_causes.specs.losses.Losses.{is_asked_of, tells_stop}
use Rattle.world_causes.specs.outcomes.Outcomes.{Outcomes}
use Rattle.world_contents.specs.world_letters.talks.Conversation.{Answers}
use Rattle.world_contents.specs.world_letters.talks.TalkLaws.{taken-from}
use Rattle.world_contents.specs.world_letters.waits.ClientLaws.{present-of, question-about}
use Rattle.world_contents.specs.world_letters.waits.Premises.{RequestsAreOfClients, is_end}
use Rattle.world_contents.specs.world_letters.waits.Passing.{IsOfClient, question-of}
use Rattle.world_contents.specs.world_letters.waits.Requests.{is_lost_request, is_request}
use Rattle.world_contents.specs.world_letters.waits.Waits.{Conversation, IsAnswer, IsLost, IsQuestion, IsReplyTo}

-- what a read is answered, its attempt asked for
fetched-attempt : (q : Post) (x : AttemptId) (op group : ℕ) (own : Option Epoch) (b : Reply) (m : Message) → m ≡ message.Fetched x op group own b → IsReplyTo q m → request_of q.message ≡ Some x
fetched-attempt q x op group own b m says (IsAnswer ans) = by q.message (subst (Answers q.message) says ans)
  where
    by : (y : Message) → Answers y (message.Fetched x op group own b) → request_of y ≡ Some x
    by (message.Fetch y op2 group2 e first tracker rd snapshot) a = let same = a.2 in cc
    by (message.Commit y e first tracker ws) a = let bad = a.2 in (let no : ⊥ = cc in absurd no)
    by (message.Ask y) a = let bad = a.2 in (let no : ⊥ = cc in absurd no)
    by (message.Snap y cont name tracker) a = let bad = a.2 in (let no : ⊥ = cc in absurd no)
    by (message.Prune y cont tracker e) a = let bad = a.2 in (let no : ⊥ = cc in absurd no)
    by y a = absurd a
fetched-attempt q x op group own b m says (IsLost down lost) = let bad : message.Fetched x op group own b ≡ reset_message q.to.number down q.message = sym says ∙ lost in let no : ⊥ = cc in absurd no

module _ (r : Rules) (h : History) (w : World) (attempts : Attempts r h w) (outcomes : Outcomes r h w) (k : Conversation r w) (from : RequestsAreOfClients w) where
  abbrev IsBegun : AttemptId → Type 0
  IsBegun x = IsPresent r w x ⊎ IsOver w.clients x

  born : (y x : AttemptId) → y ≡ x → IsBorn r h w y → IsBegun x
  born y x same is = handed-where r h w outcomes x (subst (IsBorn r h w) same is)

  present : (n : ℕ) (c : ClientState) (a : Present) (q : Post) (x : AttemptId) → slice_get w.clients n ≡ Some c → c.present ≡ Some a → IsQuestion (client_plan r n) c q → request_of q.message ≡ Some x → IsPresent r w x
  present n c a q x here at question of =
      let about = question-about (client_plan r n) c a q at question in
      let same : Some (attempt_id (client_plan r n) c a) ≡ Some x = sym about.of_attempt ∙ of in
      let one : attempt_id (client_plan r n) c a ≡ x = cc in
      subst (IsPresent r w) one (record { c = c; a = a; here = here; at = at; own = refl })

  asks : (l : Letter) (x : AttemptId) → Has l w.messages → is_request l.message ≡ true → request_of l.message ≡ Some x → IsPresent r w x
  asks l x i is of =
      let t = taken-from w.messages l (contains-from_has w.messages l i) in
      let z = asked-by r w k from l t.0 t.1 is in
      present z.n z.c z.a z.q x z.here z.at z.question (ap (λ y. request_of y.message) (sym z.is) ∙ of)

  told : (l : Letter) (x : AttemptId) → Has l w.messages → l.to.client ≡ true → is_tell l.message ≡ false → ((q : Post) → IsReplyTo q l.message → request_of q.message ≡ Some x) → IsPresent r w x
  told l x i to off of =
      let t = taken-from w.messages l (contains-from_has w.messages l i) in
      let z = told-to r w k l.to.number l t.0 t.1 (ap (λ b. record { client = b; number = l.to.number }) to) off in
      let p = present-of z.c z.now in
      present l.to.number z.c p.a z.q x z.here p.at z.question (of z.q z.reply.says)

  -- what a client asked is lost
  loses : (l : Letter) (q : Message) (x : AttemptId) → Has l w.messages → l.to.client ≡ true → TellsLoss l.message q → request_of q ≡ Some x → IsPresent r w x
  loses l q x i to tells of =
      let z = lost-question r w k l q i to tells in
      let p = present-of z.0.c z.0.now in
      present l.to.number z.0.c p.a z.0.q x z.0.here p.at z.0.question (ap request_of z.1 ∙ of)

  module _ (l : Letter) (x : AttemptId) (i : Has l w.messages) where
    lost : (q : Message) → is_asked_of x q ≡ true → IsAskedSo r h w l.to l.from q → TellsLoss l.message q → (is_request q ≡ true → l.to.client ≡ true) → IsBegun x
    lost (message.Prepare e first ws inc) is so tells to = born e.attempt x (same-is e.attempt x is) so.born
    lost (message.Status y inc) is so tells to = born y x (same-is y x is) so.born
    lost (message.Fetch y op group ep first tracker rd snapshot) is so tells to = inl (loses l (message.Fetch y op group ep first tracker rd snapshot) x i (to refl) tells (ap (λ z. Some z) (same-is y x is)))
    lost (message.Commit y ep first tracker ws) is so tells to = inl (loses l (message.Commit y ep first tracker ws) x i (to refl) tells (ap (λ z. Some z) (same-is y x is)))
    lost (message.Ask y) is so tells to = inl (loses l (message.Ask y) x i (to refl) tells (ap (λ z. Some z) (same-is y x is)))
    lost (message.Snap y cont name tracker) is so tells to = inl (loses l (message.Snap y cont name tracker) x i (to refl) tells (ap (λ z. Some z) (same-is y x is)))
    lost (message.Prune y cont (Some tracker) None) is so tells to = inl (loses l (message.Prune y cont (Some tracker) None) x i (to refl) tells (ap (λ z. Some z) (same-is y x is)))
    lost q is so tells to = let no : ⊥ = cc in absurd no

    letter-begun : (m : Message) → l.message ≡ m → tells_stop x m ≡ true → IsSaidSo r h w l.from l.to m → IsBegun x
    letter-begun (message.Status y inc) says is so = born y x (same-is y x is) so.born
    letter-begun (message.StatusIs y inc how) says is so = born y x (same-is y x is) so.born
    letter-begun (message.Ask y) says is so = inl (asks l x i (ap is_request says) (ap request_of says ∙ ap (λ z. Some z) (same-is y x is)))
    letter-begun (message.Reset' t false place (more_of-Message q more)) says is so =
        lost q is so (subst (λ m. TellsLoss m q) (sym says) refl) (λ asks. (from.letters l i).lost (ap is_lost_request says ∙ asks))
    letter-begun (message.Ended y own how) says is so =
        let its : y ≡ x = same-is y x (and_left (same_attempt y x) (is_lost x how) is) in
        inl (told l x i ((from.letters l i).end (ap is_end says)) (ap is_tell says) (λ q replies. ended-attempt r w k from q y own how l.message says replies ∙ ap (λ z. Some z) its))
    letter-begun (message.Ack y inc (Some how)) says is so = born y x (same-is y x (and_left (same_attempt y x) (is_lost x how) is)) so.born
    letter-begun (message.Fetched y op group own (reply.Outcome how)) says is so =
        let its : y ≡ x = same-is y x (and_left (same_attempt y x) (is_lost x how) is) in
        inl (told l x i ((from.letters l i).end (ap is_end says)) (ap is_tell says) (λ q replies. fetched-attempt q y op group own (reply.Outcome how) l.message says replies ∙ ap (λ z. Some z) its))
    letter-begun m says is so = let no : ⊥ = cc in absurd no

  asked-begun : (l : Letter) (x : AttemptId) → Has l w.asked → (m : Message) → l.message ≡ m → tells_stop x m ≡ true → is_asked_of x m ≡ true → IsAskedSo r h w l.from l.to m → IsBegun x
  asked-begun l x i (message.Status y inc) says is asks' so = born y x (same-is y x is) so.born
  asked-begun l x i (message.Ask y) says is asks' so =
      let z = unanswered-by r w k from l i (ap is_request says) in
      inl (present z.n z.c z.a z.q x z.here z.at z.question (ap (λ y. request_of y.message) (sym z.is) ∙ ap request_of says ∙ ap (λ y. Some y) (same-is y x is)))
  asked-begun l x i m says is asks' so = let no : ⊥ = cc in absurd no

  pub are-begun : AreBegun r w
  are-begun = record {
    letters = λ l x i is. letter-begun l x i l.message refl is (attempts.on.letters l i);
    asked = λ l x i is asks'. asked-begun l x i l.message refl is asks' (attempts.on.asked l i);
    resting = λ x rests. handed-where r h w outcomes x (inl rests.held);
  }

-- ---- who is told

-- What came of an attempt, or of a read of it, is told to its client.
module _ (r : Rules) (w : World) (k : Conversation r w) (from : RequestsAreOfClients w) where
  told-client : (l : Letter) (x : AttemptId) → Has l w.messages → is_end l.message ≡ true → is_tell l.message ≡ false → ((q : Post) → IsReplyTo q l.message → request_of q.message ≡ Some x) → l.to ≡ client x.client
  told-client l x i ends off of =
      let t = taken-from w.messages l (contains-from_has w.messages l i) in
      let to : l.to ≡ client l.to.number = ap (λ b. record { client = b; number = l.to.number }) ((from.letters l i).end ends) in
      let z = told-to r w k l.to.number l t.0 t.1 to off in
      let asks : IsOfClient l.to.number z.q = question-of r l.to.number z.c z.q z.now z.question in
      let same : Some asks.x ≡ Some x = sym asks.asks ∙ of z.q z.reply.says in
      let its : asks.x ≡ x = cc in
      to ∙ ap client (sym asks.own ∙ ap (λ y. y.client) its)

  pub ends-told : (l : Letter) (x : AttemptId) → Has l w.messages → EndsOf l.message x → l.to ≡ client x.client
  ends-told l x i ends = by l.message refl ends
    where
      by : (m : Message) → l.message ≡ m → EndsOf m x → l.to ≡ client x.client
      by (message.Fetched y op group own b) is same = told-client l x i (ap is_end is) (ap is_tell is) (λ q replies. fetched-attempt q y op group own b l.message is replies ∙ ap (λ z. Some z) same)
      by (message.Ended y own how) is same = told-client l x i (ap is_end is) (ap is_tell is) (λ q replies. ended-attempt r w k from q y own how l.message is replies ∙ ap (λ z. Some z) same)
      by m is none = absurd none
