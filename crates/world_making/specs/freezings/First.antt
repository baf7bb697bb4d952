-- Target 0 is asked for snapshots, and collects them.
use Rattle.std.specs.Prelude.{ℕ, ◌≡◌, ◌++◌, Bool, true, false, List, [], ◌∷◌, filter, map, slice_get, Option, Some, None, refl}
use Rattle.std.proofs.Common.{sym, ◌∙◌, ap, subst, inl, inr, arith}
use Rattle.base_types.specs.declared.epoch.Epoch.{Epoch}
use Rattle.base_messages.specs.declared.actor.ActorId.{ActorId}
use Rattle.base_messages.specs.declared.message.Message.{Message}
use Rattle.base_messages.specs.declared.message.Message.TheVariants as message
use Rattle.base_messages.specs.declared.message.Post.{Post}
use Rattle.model_laws.specs.Members.{Has, has-filter, has-from_contains, has-from_filter, has-left, has-map, has-right}
use Rattle.model_laws.specs.TargetLaws.{same_number}
use Rattle.world_base.specs.declared.client.ClientPlan.{ClientPlan}
use Rattle.world_base.specs.declared.client.ClientState.{ClientState}
use Rattle.world_base.specs.declared.client.Present.{Present}
use Rattle.world_base.specs.declared.letter.Letter.{Letter}
use Rattle.world_base.specs.declared.target.Collection.{Collection}
use Rattle.world_base.specs.declared.target.TargetState.{TargetState}
use Rattle.world_base.specs.declared.world.World.{World}
use Rattle.world_base.specs.ClientTurns.{waits}
use Rattle.world_base.specs.Events.{Rules, client_plan}
use Rattle.world_base.specs.Letters.{Takes, client, is_client, is_talk_of, is_tell, letter_of, target}
use Rattle.world_making.specs.freezings.Asking.{asks_snapshot}
use Rattle.world_letters.specs.talks.Asked.{ARead, ASnapshot, AnAggregation, Asked, ItsWrites}
use Rattle.world_letters.specs.talks.AskLaws.{sent-is-asked}
use Rattle.world_letters.specs.talks.TalkLaws.{sent-is-talk, taken-is-among, talk-none, talk-only}
use Rattle.world_letters.specs.waits.ClientLaws.{IsAt, present-of}
use Rattle.world_letters.specs.waits.Passing.{HeldBeside, held-beside}
use Rattle.world_letters.specs.waits.Premises.{RequestsAreOfClients}
use Rattle.world_letters.specs.waits.Requests.{IsWhatIsAsked, is_request, talk-is_asked}
use Rattle.world_letters.specs.waits.Waits as carrier
use Rattle.world_letters.specs.waits.Waits.{CollectedAt, Conversation, Held, HoldsIt, IsAsked, IsHeld, IsQuestion, IsReplied, ItsAsk, ItsRequest, TalksSo, asked_of, collected_at, held_by, held_of, is_asked_by, is_collected_of, is_open_of, is_parked_of, open_at, parked_at}
use Rattle.world_base.specs.Letters.{talk_of}

-- a request for a snapshot, or for an aggregation
abbrev asks_first : Message → Bool
asks_first (message.Snap x cont name tracker) = true
asks_first (message.Prune x cont tracker e) = true
asks_first m = false

-- a client asks it of target 0
asked-first : (p : ClientPlan) (c : ClientState) (a : Present) (q : Post) (k : Epoch) → Asked p k c a q → asks_first q.message ≡ true → q.to ≡ target 0
asked-first p c a q k (ARead ops turns snapshot op rd here at' asks says) is = let no : ⊥ = cc (ap (λ z. asks_first z.message) says, is) in absurd no
asked-first p c a q k (ItsWrites ops turns snapshot w ws here last all says) is = let no : ⊥ = cc (ap (λ z. asks_first z.message) says, is) in absurd no
asked-first p c a q k (ASnapshot name cont here says) is = ap (λ z. z.to) says
asked-first p c a q k (AnAggregation cont here says) is = ap (λ z. z.to) says

question-first : (p : ClientPlan) (c : ClientState) (a : Present) (q : Post) → c.present ≡ Some a → IsQuestion p c q → asks_first q.message ≡ true → q.to ≡ target 0
question-first p c a q at (ItsRequest k low sent) is = asked-first p c a q k (sent-is-asked p k c a q at sent) is
question-first p c a q at (ItsAsk k s f low sent commit says) is = let no : ⊥ = cc (ap (λ z. asks_first z.message) says, is) in absurd no

number-of : (t : ℕ) (a : ActorId) → a ≡ target t → a ≡ target 0 → t ≡ 0
number-of t a one two = sym (ap (λ x. x.number) one) ∙ ap (λ x. x.number) two

module _ (r : Rules) (w : World) (k : Conversation r w) (of_clients : RequestsAreOfClients w) where
  -- what asks for a snapshot goes to target 0
  pub snap-first : (l : Letter) (rest : List Letter) (t : ℕ) → Takes w.messages l rest → l.to ≡ target t → asks_snapshot l.message ≡ true → t ≡ 0
  snap-first l rest t takes to is = number-of t l.to to (ap (λ x. x.to) a.is ∙ question-first (client_plan r l.from.number) a.c p.a a.q p.at a.question (first a.q.message (ap (λ x. asks_snapshot x.message) (sym a.is) ∙ is)))
    where
      request : (m : Message) → asks_snapshot m ≡ true → is_request m ≡ true
      request (message.Snap x cont name tracker) is = refl
      request m is = let no : ⊥ = cc in absurd no

      tells : (m : Message) → asks_snapshot m ≡ true → is_tell m ≡ false
      tells (message.Snap x cont name tracker) is = refl
      tells m is = let no : ⊥ = cc in absurd no

      first : (m : Message) → asks_snapshot m ≡ true → asks_first m ≡ true
      first (message.Snap x cont name tracker) is = refl
      first m is = let no : ⊥ = cc in absurd no

      from : l.from ≡ client l.from.number
      from = ap (λ b. record { client = b; number = l.from.number }) ((of_clients.letters l (has-from_contains w.messages l (taken-is-among w.messages l rest takes))).request (request l.message is))

      a : IsWhatIsAsked r w l.from.number l
      a = talk-is_asked r w k l rest takes t to l.from.number (sent-is-talk l.from.number l (tells l.message is) from)

      p : IsAt a.c
      p = present-of a.c a.now

  -- what is collected for a client is held for it
  collected-held : (t : ℕ) (s : TargetState) (c : Collection) → slice_get w.targets t ≡ Some s → Has c s.memory.collecting → Has (CollectedAt t c) (held_of c.client.number w)
  collected-held t s c here i = held-there
    where
      n : ℕ
      n = c.client.number

      its : is_collected_of n c ≡ true
      its = ap (λ a. is_client n a) (ap (λ b. record { client = b; number = n }) ((of_clients.waiters t s here).collecting c i)) ∙ same_number n

      beside : HeldBeside n t 0 t w.targets s
      beside = held-beside n t 0 t w.targets s here (omega arith)

      mine : Has (CollectedAt t c) (held_by n t s.memory)
      mine =
          has-right (map (parked_at t) (filter (is_parked_of n) s.memory.member.parked)) _ (CollectedAt t c)
          (has-right (map (open_at t) (filter (is_open_of n) s.memory.leader.undecided)) _ (CollectedAt t c)
          (has-map (collected_at t) (filter (is_collected_of n) s.memory.collecting) c (has-filter (is_collected_of n) s.memory.collecting c i its)))

      held-there : Has (CollectedAt t c) (held_of n w)
      held-there = subst (Has (CollectedAt t c)) (sym beside.was) (has-right beside.before (held_by n t s.memory ++ beside.after) (CollectedAt t c) (has-left (held_by n t s.memory) beside.after (CollectedAt t c) mine))

  -- and target 0 collects it
  pub collects-first : (t : ℕ) (s : TargetState) (c : Collection) → slice_get w.targets t ≡ Some s → Has c s.memory.collecting → t ≡ 0
  collects-first t s c here i = by (slice_get w.clients n) refl
    where
      n : ℕ
      n = c.client.number

      held : Has (CollectedAt t c) (held_of n w)
      held = collected-held t s c here i

      it : (p : ClientPlan) (cl : ClientState) (a : Present) (q : Post) → cl.present ≡ Some a → IsQuestion p cl q → HoldsIt q (CollectedAt t c) → t ≡ 0
      it p cl a q at question (carrier.ASnapshot t2 c2 name2 k2 to asks named) = number-of t q.to to (question-first p cl a q at question (ap asks_first asks))
      it p cl a q at question (carrier.AnAggregation t2 c2 k2 to asks named) = number-of t q.to to (question-first p cl a q at question (ap asks_first asks))

      waiting : (cl : ClientState) (b : Bool) → waits cl ≡ b → TalksSo (client_plan r n) n cl (talk_of n w.messages) (held_of n w) (asked_of n w) b → t ≡ 0
      waiting cl false now q = absurd (subst (Has (CollectedAt t c)) q.none_held held)
      waiting cl true now (IsAsked q question one none free) = absurd (subst (Has (CollectedAt t c)) none held)
      waiting cl true now (IsHeld q y question holds none one free) = same (subst (Has (CollectedAt t c)) one held)
        where
          same : Has (CollectedAt t c) (y ∷ []) → t ≡ 0
          same (inl is) = it (client_plan r n) cl (present-of cl now).a q (present-of cl now).at question (subst (HoldsIt q) (sym is) holds)
          same (inr none') = absurd none'
      waiting cl true now (IsReplied q l question reply one none free) = absurd (subst (Has (CollectedAt t c)) none held)

      by : (o : Option ClientState) → slice_get w.clients n ≡ o → t ≡ 0
      by None e = absurd (subst (Has (CollectedAt t c)) (k.nobody n e).none_held held)
      by (Some cl) e = waiting cl (waits cl) refl (k.talks n cl e)

  -- a request for a snapshot that is in flight is without an answer
  pub snap-asked : (l : Letter) (rest : List Letter) (t : ℕ) → Takes w.messages l rest → l.to ≡ target t → asks_snapshot l.message ≡ true → Has l w.asked
  snap-asked l rest t takes to is = by (slice_get w.clients n) refl
    where
      n : ℕ
      n = l.from.number

      request : (m : Message) → asks_snapshot m ≡ true → (is_request m ≡ true) × (is_tell m ≡ false)
      request (message.Snap x cont name tracker) is = (refl, refl)
      request m is = let no : ⊥ = cc in absurd no

      from : l.from ≡ client n
      from = ap (λ b. record { client = b; number = n }) ((of_clients.letters l (has-from_contains w.messages l (taken-is-among w.messages l rest takes))).request (request l.message is).0)

      its : is_talk_of n l ≡ true
      its = sent-is-talk n l (request l.message is).1 from

      waiting : (cl : ClientState) (b : Bool) → waits cl ≡ b → TalksSo (client_plan r n) n cl (talk_of n w.messages) (held_of n w) (asked_of n w) b → Has l w.asked
      waiting cl false now q = absurd (talk-none n w.messages l rest takes its q.no_letters)
      waiting cl true now (IsAsked q question one none free) =
          (has-from_filter (is_asked_by n) w.asked l (subst (Has l) (sym free) (inl (talk-only n w.messages l (letter_of (client n) q) rest takes its one).0))).0
      waiting cl true now (IsHeld q y question holds none one free) = absurd (talk-none n w.messages l rest takes its none)
      waiting cl true now (IsReplied q m question reply one none free) =
          let only = talk-only n w.messages l m rest takes its one in
          let there : true ≡ false = sym (ap (λ x. x.client) reply.to) ∙ sym (ap (λ x. x.to.client) only.0) ∙ ap (λ x. x.client) to in
          let no : ⊥ = cc in absurd no

      by : (o : Option ClientState) → slice_get w.clients n ≡ o → Has l w.asked
      by None e = absurd (talk-none n w.messages l rest takes its (k.nobody n e).no_letters)
      by (Some cl) e = waiting cl (waits cl) refl (k.talks n cl e)

  -- what asks for a snapshot that is collected
  pub record AsksForIt (t : ℕ) (c : Collection) (name : List ℕ) : Type 0 where
    pub l : Letter
    pub asked : Has l w.asked
    pub to : l.to ≡ target t
    pub tracker : Epoch
    pub says : l.message ≡ message.Snap c.attempt c.cont name tracker

  pub collected-asked : (t : ℕ) (s : TargetState) (c : Collection) (name : List ℕ) → slice_get w.targets t ≡ Some s → Has c s.memory.collecting → c.name ≡ Some name → AsksForIt t c name
  collected-asked t s c name here i named = by (slice_get w.clients n) refl
    where
      n : ℕ
      n = c.client.number

      held : Has (CollectedAt t c) (held_of n w)
      held = collected-held t s c here i

      it : (y : Held) (q : Post) → y ≡ CollectedAt t c → HoldsIt q y → Has (letter_of (client n) q) w.asked → AsksForIt t c name
      it y q same (carrier.ARead t2 ask f e to asks own is) asked = let no : ⊥ = cc in absurd no
      it y q same (carrier.ItsWrites t2 f to asks) asked = let no : ⊥ = cc in absurd no
      it y q same (carrier.AnAsk t2 x to asks) asked = let no : ⊥ = cc in absurd no
      it y q same (carrier.ASnapshot t2 c2 name2 k2 to asks named2) asked =
          let one : c2 ≡ c = cc in
          let two : t2 ≡ t = cc in
          let called : name2 ≡ name = cc (named2, ap (λ z. z.name) one, named) in
          record {
            l = letter_of (client n) q;
            asked = asked;
            to = to ∙ ap target two;
            tracker = k2;
            says = asks ∙ ap (λ z. message.Snap z.attempt z.cont name2 k2) one ∙ ap (λ z. message.Snap c.attempt c.cont z k2) called;
          }
      it y q same (carrier.AnAggregation t2 c2 k2 to asks named2) asked = let one : c2 ≡ c = cc in let no : ⊥ = cc (named2, ap (λ z. z.name) one, named) in absurd no

      waiting : (cl : ClientState) (b : Bool) → waits cl ≡ b → TalksSo (client_plan r n) n cl (talk_of n w.messages) (held_of n w) (asked_of n w) b → AsksForIt t c name
      waiting cl false now q = absurd (subst (Has (CollectedAt t c)) q.none_held held)
      waiting cl true now (IsAsked q question one none free) = absurd (subst (Has (CollectedAt t c)) none held)
      waiting cl true now (IsHeld q y question holds none one free) = same (subst (Has (CollectedAt t c)) one held)
        where
          same : Has (CollectedAt t c) (y ∷ []) → AsksForIt t c name
          same (inl is) = it y q (sym is) holds (has-from_filter (is_asked_by n) w.asked (letter_of (client n) q) (subst (Has (letter_of (client n) q)) (sym free) (inl refl))).0
          same (inr none') = absurd none'
      waiting cl true now (IsReplied q l question reply one none free) = absurd (subst (Has (CollectedAt t c)) none held)

      by : (o : Option ClientState) → slice_get w.clients n ≡ o → AsksForIt t c name
      by None e = absurd (subst (Has (CollectedAt t c)) (k.nobody n e).none_held held)
      by (Some cl) e = waiting cl (waits cl) refl (k.talks n cl e)
