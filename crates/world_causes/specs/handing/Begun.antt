-- What tells of a stop is of attempts that clients have begun, what reads is new, and leaders are targets: what losses ask of other facts.
use Rattle.std.specs.Prelude.{ℕ, ◌≡◌, ◌⊎◌, ◌==◌, Bool, true, false, [], ◌∷◌, slice_get, Contains, Option, Some, None, refl}
use Rattle.std.proofs.Common.{sym, ◌∙◌, ap, subst, arith, inl, inr}
use Rattle.base_types.specs.declared.epoch.Epoch.{Epoch}
use Rattle.base_types.specs.declared.id.AttemptId.{AttemptId}
use Rattle.base_messages.specs.declared.message.Message.{Message, more_of-Message}
use Rattle.base_messages.specs.declared.message.Message.TheVariants as message
use Rattle.base_messages.specs.declared.message.Post.{Post}
use Rattle.daos_model.specs.Accesses.{minor_writes}
use Rattle.daos_model.specs.Durables.{same_attempt}
use Rattle.daos_model.specs.EntryLaws.{same_attempt-itself}
use Rattle.daos_model.specs.Accesses.{attempt_targets}
use Rattle.daos_model.specs.Transactions.{attempt_ops}
use Rattle.dtx_base.specs.Joining.{is_asker}
use Rattle.dtx_base.specs.LeaderLaws.{same-is}
use Rattle.model_laws.specs.Members.{Has, contains-from_has, has-filter, has-left, has-map, has-right}
use Rattle.model_laws.specs.TargetLaws.{same_number}
use Rattle.world_contents.specs.world_commit.attempts.Attempts.{IsBorn, leader_of}
use Rattle.world_contents.specs.world_commit.attempts.History.{History}
use Rattle.world_base.specs.declared.client.ClientPlan.{ClientPlan}
use Rattle.world_base.specs.declared.client.ClientState.{ClientState}
use Rattle.world_base.specs.declared.client.Present.{Present}
use Rattle.world_base.specs.declared.letter.Letter.{Letter}
use Rattle.world_base.specs.declared.world.World.{World}
use Rattle.world_base.specs.ClientTurns.{attempt_id, is_waiting, request_of, waits}
use Rattle.world_base.specs.Events.{Rules, client_plan}
use Rattle.world_base.specs.Letters.{is_tell, talk_of}
use Rattle.world_base.specs.Reads.{fetch_at}
use Rattle.world_contents.specs.world_letters.clients.Answered.{ops_here}
use Rattle.world_contents.specs.world_letters.epochs.Asking.{ops-at}
use Rattle.world_contents.specs.world_letters.epochs.Epochs.{ClientsStand, IsPast, IsPresent}
use Rattle.world_causes.specs.handing.Fitting.{answers-no_reset, is_handing, is_reset, question-before}
use Rattle.world_causes.specs.handing.Handing.{IsToldTo, asked-by, told-to}
use Rattle.world_causes.specs.handing.Targets.{PlacesAreRight, leader-is_target}
use Rattle.world_causes.specs.losses.ClientHears.{LossesAreAsked, TellsLoss}
use Rattle.world_causes.specs.losses.Clients.{IsOver}
use Rattle.world_causes.specs.losses.Losses.{LeadersAreTargets, is_asked_of}
use Rattle.world_causes.specs.losses.Readers.{InFlight, ReadersAreNew, Waiting}
use Rattle.world_causes.specs.outcomes.ClientLaws.{present-not-past, unborn}
use Rattle.world_causes.specs.outcomes.Outcomes.{Outcomes, WaitsForEnd}
use Rattle.world_contents.specs.world_letters.talks.AskLaws.{sent-is-asked}
use Rattle.world_contents.specs.world_letters.talks.Asked.{ARead, ASnapshot, AnAggregation, Asked, ItsWrites}
use Rattle.world_contents.specs.world_letters.talks.TalkLaws.{taken-from}
use Rattle.world_contents.specs.world_letters.waits.ClientLaws.{present-of, question-about}
use Rattle.world_contents.specs.world_letters.waits.Parts.{parked_part}
use Rattle.world_contents.specs.world_letters.waits.Passing.{held-beside}
use Rattle.world_contents.specs.world_letters.waits.Premises.{RequestsAreOfClients}
use Rattle.world_contents.specs.world_letters.waits.Requests.{is_request}
use Rattle.world_contents.specs.world_letters.waits.Waits as holds
use Rattle.world_contents.specs.world_letters.waits.Waits.{Conversation, Held, HoldsIt, IsAnswer, IsAsked, IsHeld, IsLost, IsQuestion, IsReplied, IsReplyTo, ItsAsk, ItsRequest, ParkedAt, TalksSo, asked_of, held_by, held_of, is_parked_of, parked_at}

-- ---- what a client asked

-- a question of a client is about its attempt
module _ (p : ClientPlan) (c : ClientState) (a : Present) (at : c.present ≡ Some a) (q : Post) (x : AttemptId) (own : request_of q.message ≡ Some x) where
  about : (m : Message) → q.message ≡ m → request_of m ≡ Some (attempt_id p c a) → is_asked_of (attempt_id p c a) m ≡ true → is_asked_of x q.message ≡ true
  about m says its is =
      let same : Some (attempt_id p c a) ≡ Some x = sym its ∙ ap request_of (sym says) ∙ own in
      let one : attempt_id p c a ≡ x = cc in
      subst (λ y. is_asked_of y q.message ≡ true) one (ap (is_asked_of (attempt_id p c a)) says ∙ is)

  asked-about : (k : Epoch) → Asked p k c a q → is_asked_of x q.message ≡ true
  asked-about k (ARead ops turns snapshot op rd command-is found asks says) = about _ (ap (λ z. z.message) says) refl (same_attempt-itself (attempt_id p c a))
  asked-about k (ItsWrites ops turns snapshot w ws command-is last all says) = about _ (ap (λ z. z.message) says) refl (same_attempt-itself (attempt_id p c a))
  asked-about k (ASnapshot name cont command-is says) = about _ (ap (λ z. z.message) says) refl (same_attempt-itself (attempt_id p c a))
  asked-about k (AnAggregation cont command-is says) = about _ (ap (λ z. z.message) says) refl (same_attempt-itself (attempt_id p c a))

  question-asked : IsQuestion p c q → is_asked_of x q.message ≡ true
  question-asked (ItsRequest k low sent) = asked-about k (sent-is-asked p k c a q at sent)
  question-asked (ItsAsk k s f low sent commit says) =
      let same : Some f.attempt ≡ Some x = ap (λ z. request_of z.message) (sym says) ∙ own in
      let one : f.attempt ≡ x = cc in
      ap (λ z. is_asked_of x z.message) says ∙ ap (λ y. same_attempt y x) one ∙ same_attempt-itself x

-- a letter that tells of a loss is a Reset
pub loss-reset : (m q : Message) → TellsLoss m q → (is_reset m ≡ true) × (is_tell m ≡ false)
loss-reset (message.Reset' t down place (more_of-Message a more)) q tells = (refl, refl)
loss-reset m q tells = absurd tells

module _ (r : Rules) (w : World) (k : Conversation r w) where
  -- what is lost of a client is its question
  pub lost-question : (l : Letter) (q : Message) → Has l w.messages → l.to.client ≡ true → TellsLoss l.message q → (z : IsToldTo r w l.to.number l) × (z.q.message ≡ q)
  lost-question l q i to tells =
      let t = taken-from w.messages l (contains-from_has w.messages l i) in
      let z = told-to r w k l.to.number l t.0 t.1 (ap (λ b. record { client = b; number = l.to.number }) to) (loss-reset l.message q tells).1 in
      (z, by z z.reply.says)
    where
      by : (z : IsToldTo r w l.to.number l) → IsReplyTo z.q l.message → z.q.message ≡ q
      by z (IsAnswer ans) = let bad : true ≡ false = sym (loss-reset l.message q tells).0 ∙ answers-no_reset z.q.message l.message ans in let no : ⊥ = cc in absurd no
      by z (IsLost down lost) = subst (λ m. TellsLoss m q) lost tells

  pub losses-asked : LossesAreAsked w
  losses-asked l q x i to tells own =
      let z = lost-question l q i to tells in
      let p = present-of z.0.c z.0.now in
      subst (λ m. is_asked_of x m ≡ true) z.1 (question-asked (client_plan r l.to.number) z.0.c p.a p.at z.0.q x (ap request_of z.1 ∙ own) z.0.question)

-- ---- who is at an attempt

module _ (r : Rules) (h : History) (w : World) (outcomes : Outcomes r h w) where
  -- whatever its leader stored, or is aborted, its client is at, or past
  pub handed-where : (x : AttemptId) → IsBorn r h w x → IsPresent r w x ⊎ IsOver w.clients x
  handed-where x born = by (outcomes.handed x born).how
    where
      by : IsPast (outcomes.handed x born).c x ⊎ WaitsForEnd (client_plan r x.client) (outcomes.handed x born).c x → IsPresent r w x ⊎ IsOver w.clients x
      by (inl past) = inr (record { c = (outcomes.handed x born).c; here = (outcomes.handed x born).here; past = past })
      by (inr z) = inl (record { c = (outcomes.handed x born).c; a = z.a; here = (outcomes.handed x born).here; at = z.present; own = z.own })

  -- one that isn't handed over yet is new
  before-new : (n : ℕ) (c : ClientState) (a : Present) (q : Post) → slice_get w.clients n ≡ Some c → c.present ≡ Some a → IsQuestion (client_plan r n) c q → is_handing q.message ≡ false → IsBorn r h w (attempt_id (client_plan r n) c a) → ⊥
  before-new n c a q here at question off =
      unborn r h w n c (attempt_id (client_plan r n) c a) outcomes here refl (present-not-past (client_plan r n) c a at)
      (λ z. let both : Some z.a ≡ Some a = sym z.present ∙ at in let one : z.a ≡ a = cc in question-before (client_plan r n) c a at q question off (record { last = ap (λ b. slice_get (ops_here (client_plan r n) c) b.op) (sym one) ∙ z.behind.last; writes = z.behind.writes }))

  question-new : (n : ℕ) (c : ClientState) (q : Post) (x : AttemptId) → slice_get w.clients n ≡ Some c → waits c ≡ true → IsQuestion (client_plan r n) c q → is_asker x q.message ≡ true → IsBorn r h w x → ⊥
  question-new n c q x here now question asks born =
      let p = present-of c now in
      let about = question-about (client_plan r n) c p.a q p.at question in
      let of = asker-of q.message asks in
      let same : Some (attempt_id (client_plan r n) c p.a) ≡ Some x = sym about.of_attempt ∙ of.0 in
      let one : attempt_id (client_plan r n) c p.a ≡ x = cc in
      before-new n c p.a q here p.at question of.1 (subst (IsBorn r h w) (sym one) born)
    where
      asker-of : (m : Message) → is_asker x m ≡ true → (request_of m ≡ Some x) × (is_handing m ≡ false)
      asker-of (message.Fetch y op group ep first tracker rd snapshot) own = (ap (λ z. Some z) (same-is y x own), refl)
      asker-of m own = let no : ⊥ = cc in absurd no

  -- what reads is new
  pub readers-new : Conversation r w → RequestsAreOfClients w → ReadersAreNew r h w
  readers-new k from x (InFlight l i asks) born =
      let t = taken-from w.messages l (contains-from_has w.messages l i) in
      let z = asked-by r w k from l t.0 t.1 (asks-request l.message asks) in
      question-new z.n z.c z.q x z.here (ap (λ o. is_waiting o) z.at ∙ z.now) z.question (ap (λ y. is_asker x y.message) (sym z.is) ∙ asks) born
    where
      asks-request : (m : Message) → is_asker x m ≡ true → is_request m ≡ true
      asks-request (message.Fetch y op group ep first tracker rd snapshot) own = refl
      asks-request m own = let no : ⊥ = cc in absurd no
  readers-new k from x (Waiting t s p here i asks) born = by (slice_get w.clients x.client) refl
    where
      fetch-of : (m : Message) → is_asker x m ≡ true → is_parked_of x.client (record p { ask = m }) ≡ true
      fetch-of (message.Fetch y op group ep first tracker rd snapshot) own = ap (λ z. z.client == x.client) (same-is y x own) ∙ same_number x.client
      fetch-of m own = let no : ⊥ = cc in absurd no

      among : Has (ParkedAt t p.ask) (held_of x.client w)
      among =
          let b = held-beside x.client t 0 t w.targets s here (omega arith) in
          subst (Has (ParkedAt t p.ask)) (sym b.was) (has-right b.before _ (ParkedAt t p.ask) (has-left (held_by x.client t s.memory) b.after (ParkedAt t p.ask)
          (has-left (parked_part x.client t s.memory.member.parked) _ (ParkedAt t p.ask) (has-map (parked_at t) _ p (has-filter (is_parked_of x.client) s.memory.member.parked p i (fetch-of p.ask asks))))))

      -- it is what its client asked
      read-asked : (q : Post) (y : Held) → HoldsIt q y → ParkedAt t p.ask ≡ y → is_asker x q.message ≡ true
      read-asked q y (holds.ARead t2 ask f e to asked own it) same =
          let one : p.ask ≡ ask = cc in
          let is : is_asker x (fetch_at f e) ≡ true = ap (is_asker x) (sym (one ∙ it)) ∙ asks in
          ap (is_asker x) asked ∙ is
      read-asked q y (holds.ItsWrites t2 f to asked) same = let no : ⊥ = cc in absurd no
      read-asked q y (holds.AnAsk t2 z to asked) same = let no : ⊥ = cc in absurd no
      read-asked q y (holds.ASnapshot t2 c name k2 to asked named) same = let no : ⊥ = cc in absurd no
      read-asked q y (holds.AnAggregation t2 c k2 to asked named) same = let no : ⊥ = cc in absurd no

      only : (y : Held) → Has (ParkedAt t p.ask) (y ∷ []) → ParkedAt t p.ask ≡ y
      only y (inl same) = same
      only y (inr none) = absurd none

      waiting : (c : ClientState) → slice_get w.clients x.client ≡ Some c → (b : Bool) → waits c ≡ b → TalksSo (client_plan r x.client) x.client c (talk_of x.client w.messages) (held_of x.client w) (asked_of x.client w) b → ⊥
      waiting c at false now q = subst (Has (ParkedAt t p.ask)) q.none_held among
      waiting c at true now (IsAsked q question letters none asked) = subst (Has (ParkedAt t p.ask)) none among
      waiting c at true now (IsHeld q y question it letters one asked) = question-new x.client c q x at now question (read-asked q y it (only y (subst (Has (ParkedAt t p.ask)) one among))) born
      waiting c at true now (IsReplied q l question got letters none asked) = subst (Has (ParkedAt t p.ask)) none among

      by : (o : Option ClientState) → slice_get w.clients x.client ≡ o → ⊥
      by None at = subst (Has (ParkedAt t p.ask)) (k.nobody x.client at).none_held among
      by (Some c) at = waiting c at (waits c) refl (k.talks x.client c at)

  -- the leader of a present attempt that it holds is one of its targets
  pub leaders-targets : ClientsStand r w → PlacesAreRight r → LeadersAreTargets r w
  leaders-targets stand places x at held = by (outcomes.handed x (inl held)).how
    where
      z : ClientState
      z = (outcomes.handed x (inl held)).c

      one : z ≡ at.c
      one = let both : Some z ≡ Some at.c = sym (outcomes.handed x (inl held)).here ∙ at.here in cc

      by : IsPast (outcomes.handed x (inl held)).c x ⊎ WaitsForEnd (client_plan r x.client) (outcomes.handed x (inl held)).c x → Contains (attempt_targets r.script x) (leader_of r x)
      by (inl past) = absurd (present-not-past (client_plan r x.client) at.c at.a at.at (subst (IsPast at.c) (sym at.own) (subst (λ c. IsPast c x) one past)))
      by (inr ends) =
          let s = stand x.client (outcomes.handed x (inl held)).c (outcomes.handed x (inl held)).here in
          let ops = ap (λ y. minor_writes 0 (attempt_ops r.script y)) (sym ends.own) ∙ ap (minor_writes 0) (ops-at r x.client (outcomes.handed x (inl held)).c ends.a s.0 ends.present s.1) in
          leader-is_target r x places (λ none. ends.behind.writes (sym ops ∙ none))
