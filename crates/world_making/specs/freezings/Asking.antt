-- What a client asks whose attempt makes a snapshot, and who may tell it that the attempt ended.
use Rattle.std.specs.Prelude.{ℕ, ◌≡◌, ◌⊎◌, ◌++◌, Bool, true, false, List, [], ◌∷◌, filter, slice_get, Option, Some, None, refl}
use Rattle.std.proofs.Common.{append-nil, sym, ◌∙◌, ap, subst, inl, inr, arith}
use Rattle.std.proofs.Math.ListN.{set}
use Rattle.base_types.specs.declared.epoch.Epoch.{Epoch}
use Rattle.base_types.specs.declared.id.AttemptId.{AttemptId}
use Rattle.base_types.specs.declared.id.ContId.{ContId}
use Rattle.base_types.specs.declared.outcome.Outcome.{Outcome}
use Rattle.base_types.specs.declared.report.Attempt.{Attempt}
use Rattle.base_types.specs.declared.script.Command.{Command}
use Rattle.base_types.specs.declared.script.Command.TheVariants as command
use Rattle.base_types.specs.Scripts.{is_numbered}
use Rattle.base_messages.specs.declared.message.Message.{Message}
use Rattle.base_messages.specs.declared.message.Message.TheVariants as message
use Rattle.base_messages.specs.declared.message.Post.{Post}
use Rattle.model_laws.specs.Members.{Has, has-filter, has-from_filter, has-from_map, has-left, has-map}
use Rattle.world_base.specs.declared.client.ClientState.{ClientState}
use Rattle.world_base.specs.declared.client.Present.{Present}
use Rattle.world_base.specs.declared.letter.Letter.{Letter}
use Rattle.world_base.specs.declared.target.Collection.{Collection}
use Rattle.world_base.specs.declared.target.TargetState.{TargetState}
use Rattle.world_base.specs.declared.world.World.{World}
use Rattle.world_base.specs.ClientTurns.{attempt_id, command_at, request_of, waits}
use Rattle.world_base.specs.Events.{Rules, client_plan}
use Rattle.world_base.specs.Letters.{client, is_client, is_talk_of, letter_of, letters_of, talk_of, target}
use Rattle.world_letters.specs.clients.Standing.{HasTold}
use Rattle.world_letters.specs.epochs.Epochs.{ClientsStand}
use Rattle.world_letters.specs.snapshots.Events.{command-is}
use Rattle.world_letters.specs.snapshots.Makings.{IsSnapOf}
use Rattle.world_letters.specs.talks.Asked.{ARead, ASnapshot, AnAggregation, Asked, ItsWrites}
use Rattle.world_letters.specs.talks.AskLaws.{sent-is-asked}
use Rattle.world_letters.specs.talks.Conversation.{Answers}
use Rattle.world_letters.specs.talks.TalkLaws.{got-is-talk}
use Rattle.world_letters.specs.waits.ClientLaws.{IsAt, present-of, question-about}
use Rattle.world_letters.specs.waits.Lists.{held-at}
use Rattle.world_letters.specs.waits.Parts.{NoParts, collected-is, collected_part, no-parts}
use Rattle.world_letters.specs.waits.Passing.{HeldBeside, held-beside, none-part}
use Rattle.world_letters.specs.waits.Requests.{is_request, question-requests}
use Rattle.world_letters.specs.waits.Waits as carrier
use Rattle.world_letters.specs.waits.Waits.{CollectedAt, Conversation, Held, HoldsIt, IsAnswer, IsAsked, IsHeld, IsLost, IsQuestion, IsReplied, IsReplyTo, ItsAsk, ItsRequest, TalksSo, Waits, asked_of, collected_at, held_by, held_from, held_of, is_collected_of}

-- ---- the question

module _ (r : Rules) (n : ℕ) (c : ClientState) (a : Present) (attempts : List Attempt) (told : HasTold (client_plan r n) c attempts) (at : c.present ≡ Some a) (name : List ℕ) (cont : ContId)
    (of : IsSnapOf r (attempt_id (client_plan r n) c a) name cont) where
  no-other : (d : Command) → command_at (client_plan r n) c ≡ Some d → is_numbered d ≡ true → d ≡ command.Snap name cont
  no-other d here number = let own = command-is r n c a d attempts told here number in let same : d ≡ command.Snap name cont = cc (own, of) in same

  -- what asks for this snapshot, of target 0
  abbrev pub SnapPost : Epoch → Post
  SnapPost k = record { to = target 0; message = message.Snap (attempt_id (client_plan r n) c a) cont name k }

  asked-snap : (k : Epoch) (q : Post) → Asked (client_plan r n) k c a q → q ≡ SnapPost k
  asked-snap k q (ARead ops turns snapshot op rd here at' asks says) = let other = no-other (command.Run ops turns snapshot) here refl in let no : ⊥ = cc in absurd no
  asked-snap k q (ItsWrites ops turns snapshot w ws here last all says) = let other = no-other (command.Run ops turns snapshot) here refl in let no : ⊥ = cc in absurd no
  asked-snap k q (ASnapshot name2 cont2 here says) =
      let same = no-other (command.Snap name2 cont2) here refl in
      let one : name2 ≡ name = cc in
      let two : cont2 ≡ cont = cc in
      subst (λ z. q ≡ record { to = target 0; message = message.Snap (attempt_id (client_plan r n) c a) z name k }) two
      (subst (λ z. q ≡ record { to = target 0; message = message.Snap (attempt_id (client_plan r n) c a) cont2 z k }) one says)
  asked-snap k q (AnAggregation cont2 here says) = let other = no-other (command.Aggregate cont2) here refl in let no : ⊥ = cc in absurd no

  -- what a client asks whose attempt makes a snapshot
  pub question-snap : (q : Post) → IsQuestion (client_plan r n) c q → (k : Epoch) × (q ≡ SnapPost k)
  question-snap q (ItsRequest k low sent) = (k, asked-snap k q (sent-is-asked (client_plan r n) k c a q at sent))
  question-snap q (ItsAsk k s f low sent commit says) =
      let is = asked-snap k s (sent-is-asked (client_plan r n) k c a s at sent) in
      let no : ⊥ = cc (ap (λ z. z.message) is, commit) in absurd no

-- an end is an answer to what is about its attempt
answers-about : (q : Message) (x : AttemptId) (own : Option Epoch) (how : Outcome) → Answers q (message.Ended x own how) → request_of q ≡ Some x
answers-about (message.Fetch y op group e first tracker rd snapshot) x own how h = let no : ⊥ = cc (h.2) in absurd no
answers-about (message.Commit y e first tracker ws) x own how h = let same : x ≡ y = cc (h.2) in ap (λ z. Some z) (sym same)
answers-about (message.Ask y) x own how h = let same : x ≡ y = cc (h.2) in ap (λ z. Some z) (sym same)
answers-about (message.Snap y cont name tracker) x own how h = let same : x ≡ y = cc (h.2) in ap (λ z. Some z) (sym same)
answers-about (message.Prune y cont tracker e) x own how h = let same : x ≡ y = cc (h.2) in ap (λ z. Some z) (sym same)
answers-about q x own how h = absurd h

pub reply-about : (q : Post) (x : AttemptId) (own : Option Epoch) (how : Outcome) → IsReplyTo q (message.Ended x own how) → request_of q.message ≡ Some x
reply-about q x own how (IsAnswer answers) = answers-about q.message x own how answers
reply-about q x own how (IsLost down says) = let no : ⊥ = cc in absurd no

-- what is held for a request for a snapshot is collected
holds-collection : (q : Post) (y : Held) (x : AttemptId) (cont : ContId) (name : List ℕ) (k : Epoch) → q.message ≡ message.Snap x cont name k → HoldsIt q y → (t : ℕ) × (c : Collection) × (y ≡ CollectedAt t c)
holds-collection q y x cont name k is (carrier.ARead t ask f e to asks own it) = let no : ⊥ = cc (is, asks) in absurd no
holds-collection q y x cont name k is (carrier.ItsWrites t f to asks) = let no : ⊥ = cc (is, asks) in absurd no
holds-collection q y x cont name k is (carrier.AnAsk t z to asks) = let no : ⊥ = cc (is, asks) in absurd no
holds-collection q y x cont name k is (carrier.ASnapshot t c name2 k2 to asks named) = (t, c, refl)
holds-collection q y x cont name k is (carrier.AnAggregation t c k2 to asks named) = (t, c, refl)

-- a message asks for a snapshot
abbrev pub asks_snapshot : Message → Bool
asks_snapshot (message.Snap x cont name tracker) = true
asks_snapshot m = false

-- ---- who is told

-- A target had a turn, in which it heard no request for a snapshot, and in which what it collects for a client stays so. Then an end of an
-- attempt that makes a snapshot isn't told in it.
module _ (r : Rules) (w u : World) (t : ℕ) (s z : TargetState) (rest : List Letter) (posts : List Post) (here : slice_get w.targets t ≡ Some s) (clients : u.clients ≡ w.clients) (targets : u.targets ≡ set w.targets t z)
    (messages : u.messages ≡ rest ++ letters_of (target t) posts) (left : (l : Letter) → Has l w.messages → Has l rest ⊎ ((l.to ≡ target t) × (asks_snapshot l.message ≡ false)))
    (stays : (c : Collection) → Has c s.memory.collecting → (d : Collection) × Has d z.memory.collecting × (d.client ≡ c.client)) (stand : ClientsStand r w) (before : Conversation r w) (after : Conversation r u) where
  -- what is left in flight is in flight
  still-there : (l : Letter) → Has l rest → Has l u.messages
  still-there l i = subst (Has l) (sym messages) (has-left rest (letters_of (target t) posts) l i)

  module _ (n : ℕ) (l : Letter) (i : Has l u.messages) (to : l.to ≡ client n) (x : AttemptId) (own : Option Epoch) (how : Outcome) (says : l.message ≡ message.Ended x own how)
      (name : List ℕ) (cont : ContId) (of : IsSnapOf r x name cont) where
    its : is_talk_of n l ≡ true
    its = got-is-talk n l (ap carrier-tell says) to
      where
        carrier-tell : Message → Bool
        carrier-tell (message.Tell tracker) = true
        carrier-tell m = false

    among : Has l (talk_of n u.messages)
    among = has-filter (is_talk_of n) u.messages l i its

    only : (ls : List Letter) (m : Letter) → ls ≡ m ∷ [] → Has l ls → l ≡ m
    only ls m one j = by (subst (Has l) one j)
      where
        by : Has l (m ∷ []) → l ≡ m
        by (inl same) = same
        by (inr none) = absurd none

    -- what is collected for it stays so
    collection-stays : (t2 : ℕ) (c : Collection) → held_of n w ≡ CollectedAt t2 c ∷ [] → held_of n u ≡ [] → ⊥
    collection-stays t2 c one none = subst (Has (CollectedAt t d.0)) z-parts.collected (has-map (collected_at t) (filter (is_collected_of n) z.memory.collecting) d.0
        (has-filter (is_collected_of n) z.memory.collecting d.0 d.1 (ap (is_client n) d.2 ∙ found.2)))
      where
        beside : HeldBeside n t 0 t w.targets s
        beside = held-beside n t 0 t w.targets s here (omega arith)

        now : beside.before ++ (held_by n t z.memory ++ beside.after) ≡ []
        now = sym (beside.becomes z) ∙ ap (held_from n 0) (sym targets) ∙ none

        nones : (beside.before ≡ []) × ((held_by n t z.memory ++ beside.after) ≡ [])
        nones = none-part beside.before (held_by n t z.memory ++ beside.after) now

        z-none : (held_by n t z.memory ≡ []) × (beside.after ≡ [])
        z-none = none-part (held_by n t z.memory) beside.after nones.1

        s-held : held_by n t s.memory ≡ CollectedAt t2 c ∷ []
        s-held =
            sym (append-nil (held_by n t s.memory)) ∙ ap (λ ys. held_by n t s.memory ++ ys) (sym z-none.1) ∙ ap (λ ys. ys ++ (held_by n t s.memory ++ beside.after)) (sym nones.0) ∙ sym beside.was ∙ one

        same : t2 ≡ t
        same = held-at n t s.memory (CollectedAt t2 c) (subst (Has (CollectedAt t2 c)) (sym s-held) (inl refl))

        part : collected_part n t s.memory.collecting ≡ CollectedAt t c ∷ []
        part = (collected-is n t s.memory c (subst (λ y. held_by n t s.memory ≡ CollectedAt y c ∷ []) same s-held)).collected

        found : (c2 : Collection) × Has c2 s.memory.collecting × (is_collected_of n c2 ≡ true)
        found =
            let m = has-from_map (collected_at t) (filter (is_collected_of n) s.memory.collecting) (CollectedAt t c) (subst (Has (CollectedAt t c)) (sym part) (inl refl)) in
            let f = has-from_filter (is_collected_of n) s.memory.collecting m.0 m.1 in
            (m.0, f.0, f.1)

        d : (d : Collection) × Has d z.memory.collecting × (d.client ≡ found.0.client)
        d = stays found.0 found.1

        z-parts : NoParts n t z.memory
        z-parts = no-parts n t z.memory z-none.0

    end-there : (c : ClientState) → slice_get w.clients n ≡ Some c → (b : Bool) → waits c ≡ b → TalksSo (client_plan r n) n c (talk_of n w.messages) (held_of n w) (asked_of n w) b
        → TalksSo (client_plan r n) n c (talk_of n u.messages) (held_of n u) (asked_of n u) b → Has l w.messages
    end-there c at false now was then' = absurd (subst (Has l) then'.no_letters among)
    end-there c at true now was then' = by then'
      where
        p : IsAt c
        p = present-of c now

        by : Waits (client_plan r n) n c (talk_of n u.messages) (held_of n u) (asked_of n u) → Has l w.messages
        by (IsAsked q question one none free) =
            let is = only (talk_of n u.messages) (letter_of (client n) q) one among in
            let request = question-requests (client_plan r n) c p.a q p.at question in
            let no : ⊥ = cc (ap is_request (sym (ap (λ y. y.message) is) ∙ says), request) in absurd no
        by (IsHeld q y question holds none one free) = absurd (subst (Has l) none among)
        by (IsReplied q l1 question reply one none free) = back was
          where
            is : l ≡ l1
            is = only (talk_of n u.messages) l1 one among

            of-it : attempt_id (client_plan r n) c p.a ≡ x
            of-it =
                let about = question-about (client_plan r n) c p.a q p.at question in
                let mine = reply-about q x own how (subst (IsReplyTo q) (ap (λ y. y.message) (sym is) ∙ says) reply.says) in
                let same : attempt_id (client_plan r n) c p.a ≡ x = cc (about.of_attempt, mine) in same

            of-own : IsSnapOf r (attempt_id (client_plan r n) c p.a) name cont
            of-own = subst (λ y. IsSnapOf r y name cont) (sym of-it) of

            asks : (q2 : Post) → IsQuestion (client_plan r n) c q2 → (k : Epoch) × (q2 ≡ record { to = target 0; message = message.Snap (attempt_id (client_plan r n) c p.a) cont name k })
            asks q2 question2 = question-snap r n c p.a (stand n c at).0 (stand n c at).1 p.at name cont of-own q2 question2

            -- a letter of its conversation that was left in flight is the end that is told
            back-is : (m : Letter) → Has m rest → is_talk_of n m ≡ true → l ≡ m
            back-is m j talks = is ∙ sym (the-one (subst (Has m) one (has-filter (is_talk_of n) u.messages m (still-there m j) talks)))
              where
                the-one : Has m (l1 ∷ []) → m ≡ l1
                the-one (inl same) = same
                the-one (inr none') = absurd none'

            back : Waits (client_plan r n) n c (talk_of n w.messages) (held_of n w) (asked_of n w) → Has l w.messages
            back (IsAsked q2 question2 one2 none2 free2) =
                let k = asks q2 question2 in
                let m = letter_of (client n) q2 in
                let f = has-from_filter (is_talk_of n) w.messages m (subst (Has m) (sym one2) (inl refl)) in
                elim (left m f.0) [
                  | inl j ↦ (let same = back-is m j f.1 in let no : ⊥ = cc (ap (λ y. y.message) same, says, ap (λ y. y.message) k.1) in absurd no)
                  | inr heard ↦ (let no : ⊥ = cc (ap (λ y. asks_snapshot y.message) k.1, heard.1) in absurd no)
                ]
            back (IsHeld q2 y question2 holds2 none2 one2 free2) =
                let k = asks q2 question2 in
                let h = holds-collection q2 y (attempt_id (client_plan r n) c p.a) cont name k.0 (ap (λ z. z.message) k.1) holds2 in
                absurd (collection-stays h.0 h.1 (one2 ∙ ap (λ z. z ∷ []) h.2) none)
            back (IsReplied q2 l2 question2 reply2 one2 none2 free2) =
                let f = has-from_filter (is_talk_of n) w.messages l2 (subst (Has l2) (sym one2) (inl refl)) in
                elim (left l2 f.0) [
                  | inl j ↦ subst (λ y. Has y w.messages) (sym (back-is l2 j f.1)) f.0
                  | inr heard ↦ (let no : ⊥ = cc (ap (λ y. y.client) reply2.to, ap (λ y. y.client) heard.0) in absurd no)
                ]

    pub end-was : Has l w.messages
    end-was = by (slice_get w.clients n) refl
      where
        by : (o : Option ClientState) → slice_get w.clients n ≡ o → Has l w.messages
        by None e = absurd (subst (Has l) (after.nobody n (ap (λ cs. slice_get cs n) clients ∙ e)).no_letters among)
        by (Some c) e = end-there c e (waits c) refl (before.talks n c e) (after.talks n c (ap (λ cs. slice_get cs n) clients ∙ e))
