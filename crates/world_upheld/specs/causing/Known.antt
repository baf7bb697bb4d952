-- What is known where a target hears what makes snapshots or aggregates.
use Rattle.std.specs.Prelude.{ℕ, ◌≡◌, ◌≤◌, ◌<◌, ◌+◌, ◌/◌, ◌++◌, Bool, true, false, List, [], ◌∷◌, filter, length, map, Contains, slice_get, Option, Some, None, refl}
use Rattle.std.proofs.Common.{append-nil, inl, inr, sym, ◌∙◌, ap, subst, arith}
use Rattle.std.proofs.lemmas.Option.{slice_get_within}
use Rattle.base_types.specs.declared.epoch.Epoch.{Epoch}
use Rattle.base_types.specs.declared.id.AttemptId.{AttemptId}
use Rattle.base_types.specs.declared.id.ContId.{ContId}
use Rattle.base_types.specs.declared.report.Line.TheVariants as line
use Rattle.base_messages.specs.declared.message.Message.{Message}
use Rattle.base_messages.specs.declared.message.Message.TheVariants as message
use Rattle.base_messages.specs.declared.message.Post.{Post}
use Rattle.model_laws.specs.JoinLaws.{has-range}
use Rattle.model_laws.specs.DecidedLaws.{has-all}
use Rattle.model_laws.specs.Members.{Has, contains-from_has, has-filter, has-from_contains, has-left, has-map, has-right}
use Rattle.model_laws.specs.TargetLaws.{same_number}
use Rattle.daos_model.specs.Accesses.{attempt_targets, option_targets}
use Rattle.daos_model.specs.Opening.{Opening, top}
use Rattle.daos_model.specs.Stops.{HasTarget}
use Rattle.world_base.specs.declared.client.ClientPlan.{ClientPlan}
use Rattle.world_base.specs.declared.client.ClientState.{ClientState}
use Rattle.world_base.specs.declared.client.Present.{Present}
use Rattle.world_base.specs.declared.letter.Letter.{Letter}
use Rattle.world_base.specs.declared.target.Collection.{Collection}
use Rattle.world_base.specs.declared.target.TargetState.{TargetState}
use Rattle.world_base.specs.declared.world.World.{World}
use Rattle.world_base.specs.ClientTurns.{attempt_id, request_of, waits}
use Rattle.world_base.specs.Events.{Rules, client_plan, kept, listed, target_plan}
use Rattle.world_base.specs.Letters.{Takes, client, is_client, is_tell, talk_of, target}
use Rattle.world_base.specs.Requests.{issued_for, request_epoch}
use Rattle.world_legal.specs.world_causes.causes.Causes.{Stored}
use Rattle.world_legal.specs.world_causes.causes.Shown.{Causes, limit_over}
use Rattle.world_upheld.specs.causing.Collected.{CollectsFor}
use Rattle.world_upheld.specs.causing.Dating.{request-new}
use Rattle.world_upheld.specs.causing.Frames.{IsDatedWithin}
use Rattle.world_upheld.specs.causing.Places.{Places}
use Rattle.world_upheld.specs.causing.Posts.{IsAskedNow, IsFreezer}
use Rattle.world_upheld.specs.causing.Refusing.{FreezeRefusalsShow, snap-at}
use Rattle.world_letters.specs.epochs.Epochs.{AsksEpoch, ClientsStand}
use Rattle.world_letters.specs.lines.Lines.{Endings}
use Rattle.world_letters.specs.lives.Lives.{Lives}
use Rattle.world_owners.specs.world_making.making.Making.{MakingRequest}
use Rattle.world_legal.specs.world_causes.showing.Further.{IsGone, TellsReset}
use Rattle.world_letters.specs.snapshots.Makings.{IsMadeBy, IsSnapIn, IsSo, Makings}
use Rattle.world_letters.specs.talks.Asked.{ARead, ASnapshot, AnAggregation, Asked, ItsWrites}
use Rattle.world_letters.specs.talks.AskLaws.{sent-is-asked}
use Rattle.world_letters.specs.talks.TalkLaws.{sent-is-talk, taken-is-among}
use Rattle.world_letters.specs.waits.ClientLaws.{IsAt, present-of, question-about}
use Rattle.world_letters.specs.waits.Passing.{HeldBeside, held-beside}
use Rattle.world_letters.specs.waits.Premises.{RequestsAreOfClients}
use Rattle.world_letters.specs.waits.Requests.{IsWhatIsAsked, talk-is_asked}
use Rattle.world_letters.specs.waits.Waits as carrier
use Rattle.world_letters.specs.waits.Waits.{CollectedAt, Conversation, HoldsIt, IsAsked, IsHeld, IsQuestion, IsReplied, ItsAsk, ItsRequest, TalksSo, asked_of, collected_at, held_by, held_of, is_collected_of, is_open_of, is_parked_of, open_at, parked_at}

-- where a message tells that a target is down, a line tells that it was given up
abbrev pub DownsHaveLines : World → Type 0
DownsHaveLines w = (l : Letter) (t : ℕ) (q : Message) → Has l w.messages → TellsReset t true q l.message → Has (line.Down t) w.lines

-- What is known of epochs where snapshots are made and containers aggregated: the number of a target fits into one; who asks for an epoch is the
-- attempt's client, and that has none; and an attempt that makes a snapshot has at most one, above the opening's.
pub record MakersAreDated (r : Rules) (o : Opening) (w : World) : Type 0 where
  pub few : length w.targets ≤ 256
  pub asker : (l : Letter) (x : AttemptId) (k : Epoch) → Contains w.messages l → AsksEpoch l.message x k → l.from ≡ client x.client
  pub low : (l : Letter) (x : AttemptId) (k : Epoch) → Contains w.messages l → AsksEpoch l.message x k → top o ≤ k.0
  pub fresh : (l : Letter) (x : AttemptId) (k : Epoch) → Contains w.messages l → AsksEpoch l.message x k → (e : Epoch) → Contains w.issued (x, e) → ⊥
  pub one : (x : AttemptId) (c : ContId) (e f : Epoch) → IsSnapIn r x c → Contains w.issued (x, e) → Contains w.issued (x, f) → e ≡ f
  pub above : (x : AttemptId) (c : ContId) (e : Epoch) → IsSnapIn r x c → Contains w.issued (x, e) → top o < e.0

-- of a run, beside causes, each by the crate whose word it is
pub record IsMakingKnown (r : Rules) (o : Opening) (w : World) : Type 0 where
  pub some : 0 < r.attempts
  pub many : length w.targets ≡ r.script.targets
  pub talk : Conversation r w
  pub requests : RequestsAreOfClients w
  pub stand : ClientsStand r w
  pub ends : Endings w
  pub dates : MakersAreDated r o w
  pub makings : Makings r w
  pub lives : Lives w
  pub downs : DownsHaveLines w
  pub places : Places r o w
  pub refusals : FreezeRefusalsShow r o w

-- what is asked of a target
abbrev asks_for : AttemptId → ContId → Option Epoch → Epoch → MakingRequest
asks_for x c ep tracker = record { attempt = x; cont = c; ep = ep; tracker = tracker }

tracker-within : (k c b : ℕ) → k ≤ c → c / 256 ≤ b → k / 256 ≤ b
tracker-within k c b low up = omega (arith, low, up)

-- a request by which a snapshot is to be made, or a container aggregated, for which an epoch is to be issued
abbrev pub asks_new : Message → Bool
asks_new (message.Snap x c name tracker) = true
asks_new (message.Prune x c (Some tracker) None) = true
asks_new m = false

asks-no_tell : (m : Message) → asks_new m ≡ true → is_tell m ≡ false
asks-no_tell (message.Tell k) is = let no : ⊥ = cc in absurd no
asks-no_tell m is = refl

-- what a client asks bears its tracker at most
asked-tracker : (p : ClientPlan) (c : ClientState) (a : Present) (q : Post) (k : Epoch) → Asked p k c a q → (x : AttemptId) (t : Epoch) → asks_new q.message ≡ true → AsksEpoch q.message x t → t ≡ k
asked-tracker p c a q k (ARead ops turns snapshot op rd here at asks says) x t new is = let no : ⊥ = cc (ap (λ z. asks_new z.message) says, new) in absurd no
asked-tracker p c a q k (ItsWrites ops turns snapshot w ws here last all says) x t new is = let no : ⊥ = cc (ap (λ z. asks_new z.message) says, new) in absurd no
asked-tracker p c a q k (ASnapshot name cont here says) x t new is = let both = subst (λ z. AsksEpoch z.message x t) says is in sym both.1
asked-tracker p c a q k (AnAggregation cont here says) x t new is = let both = subst (λ z. AsksEpoch z.message x t) says is in sym both.1

question-tracker : (p : ClientPlan) (c : ClientState) (a : Present) (q : Post) → c.present ≡ Some a → IsQuestion p c q → (x : AttemptId) (t : Epoch) → asks_new q.message ≡ true → AsksEpoch q.message x t → t.0 ≤ c.tracker.0
question-tracker p c a q at (ItsRequest k low sent) x t new is = subst (λ e. e.0 ≤ c.tracker.0) (sym (asked-tracker p c a q k (sent-is-asked p k c a q at sent) x t new is)) low
question-tracker p c a q at (ItsAsk k s f low sent commit says) x t new is = let no : ⊥ = cc (ap (λ z. asks_new z.message) says, new) in absurd no

module _ (r : Rules) (o : Opening) (stored : Stored) (w : World) (K : IsMakingKnown r o w) (C : Causes r o stored w) (t : ℕ) (s : TargetState) (here : slice_get w.targets t ≡ Some s) where
  pub few : t < 256
  few = let p : t < length w.targets = slice_get_within w.targets t s here in let q : length w.targets ≤ 256 = K.dates.few in omega (arith, p, q)

  pub there : t < r.script.targets
  there = let p : t < length w.targets = slice_get_within w.targets t s here in let q : length w.targets ≡ r.script.targets = K.many in omega (arith, p, q)

  pub freezer : IsFreezer r o w.issued w.lines t (kept s)
  freezer = record { there = there; told = λ cont. C.floors.aggregated t s cont here; within = λ floor cont reason i. C.bounded.floors t floor cont reason i; places = K.places t s here }

  -- ---- what target 0 collects is of its attempt's client

  pub collects-for : (c : Collection) → Has c s.memory.collecting → CollectsFor o w.issued w.lines c
  collects-for c i = (by (slice_get w.clients n) refl, C.bounded.issued c.attempt c.epoch (contains-from_has w.issued (c.attempt, c.epoch) (K.makings.collecting t s c here i).0))
    where
      n : ℕ
      n = c.client.number

      mine' : c.client ≡ client n
      mine' = ap (λ b. record { client = b; number = n }) ((K.requests.waiters t s here).collecting c i)

      its : is_collected_of n c ≡ true
      its = ap (λ a. is_client n a) mine' ∙ same_number n

      beside : HeldBeside n t 0 t w.targets s
      beside = held-beside n t 0 t w.targets s here (omega arith)

      mine : Has (CollectedAt t c) (held_by n t s.memory)
      mine =
          has-right (map (parked_at t) (filter (is_parked_of n) s.memory.member.parked)) _ (CollectedAt t c)
          (has-right (map (open_at t) (filter (is_open_of n) s.memory.leader.undecided)) _ (CollectedAt t c) (has-map (collected_at t) (filter (is_collected_of n) s.memory.collecting) c (has-filter (is_collected_of n) s.memory.collecting c i its)))

      held : Has (CollectedAt t c) (held_of n w)
      held = subst (Has (CollectedAt t c)) (sym beside.was) (has-right beside.before (held_by n t s.memory ++ beside.after) (CollectedAt t c) (has-left (held_by n t s.memory) beside.after (CollectedAt t c) mine))

      own : (cl : ClientState) (a : Present) (q : Post) → cl.present ≡ Some a → IsQuestion (client_plan r n) cl q → request_of q.message ≡ Some c.attempt → c.client ≡ client c.attempt.client
      own cl a q at question asks =
          let about = (question-about (client_plan r n) cl a q at question).of_attempt in
          let same : attempt_id (client_plan r n) cl a ≡ c.attempt = cc in
          mine' ∙ ap (λ y. client y.client) same

      it : (cl : ClientState) (a : Present) (q : Post) → cl.present ≡ Some a → IsQuestion (client_plan r n) cl q → HoldsIt q (CollectedAt t c) → c.client ≡ client c.attempt.client
      it cl a q at question (carrier.ASnapshot t2 c2 name2 k2 to asks named) = own cl a q at question (ap request_of asks)
      it cl a q at question (carrier.AnAggregation t2 c2 k2 to asks named) = own cl a q at question (ap request_of asks)

      waiting : (cl : ClientState) (b : Bool) → waits cl ≡ b → TalksSo (client_plan r n) n cl (talk_of n w.messages) (held_of n w) (asked_of n w) b → c.client ≡ client c.attempt.client
      waiting cl false now q = absurd (subst (Has (CollectedAt t c)) q.none_held held)
      waiting cl true now (IsAsked q question one none free) = absurd (subst (Has (CollectedAt t c)) none held)
      waiting cl true now (IsHeld q y question holds none one free) = same (subst (Has (CollectedAt t c)) one held)
        where
          same : Has (CollectedAt t c) (y ∷ []) → c.client ≡ client c.attempt.client
          same (inl is) = it cl (present-of cl now).a q (present-of cl now).at question (subst (HoldsIt q) (sym is) holds)
          same (inr none') = absurd none'
      waiting cl true now (IsReplied q l question reply one none free) = absurd (subst (Has (CollectedAt t c)) none held)

      by : (z : Option ClientState) → slice_get w.clients n ≡ z → c.client ≡ client c.attempt.client
      by None e = absurd (subst (Has (CollectedAt t c)) (K.talk.nobody n e).none_held held)
      by (Some cl) e = waiting cl (waits cl) refl (K.talk.talks n cl e)

  -- what an attempt makes that is collected is made at all targets
  maker-at : (x : AttemptId) (c : ContId) (name : Option (List ℕ)) (u : ℕ) → IsMadeBy r x c name → u < r.script.targets → Contains (attempt_targets r.script x) u
  maker-at x c (Some name) u makes low = snap-at r x c u (name, makes) low
  maker-at x c None u makes low = subst (λ d. Contains (option_targets x.command r.script.targets d) u) (sym makes) (contains-from_has _ u (has-range 0 r.script.targets u (omega arith) (omega (arith, low))))

  -- ---- letters

  module _ (l : Letter) (rest : List Letter) (takes : Takes w.messages l rest) (to : l.to ≡ target t) where
    among : Contains w.messages l
    among = taken-is-among w.messages l rest takes

    -- a request is of the attempt's client, with a tracker that the limit covers
    pub asked-now : (x : AttemptId) (tracker : Epoch) → asks_new l.message ≡ true → AsksEpoch l.message x tracker → IsAskedNow o w.issued w.lines x tracker l.from
    asked-now x tracker new asks = record {
      tracked = tracker-within tracker.0 a.c.tracker.0 (limit_over o w.lines w.issued)
          (question-tracker (client_plan r x.client) a.c p.a a.q p.at a.question x tracker (ap (λ y. asks_new y.message) (sym a.is) ∙ new) (subst (λ y. AsksEpoch y.message x tracker) a.is asks)) (C.bounded.trackers x.client a.c a.here);
      low = K.dates.low l x tracker among asks;
      fresh = K.dates.fresh l x tracker among asks;
      own = from;
    }
      where
        from : l.from ≡ client x.client
        from = K.dates.asker l x tracker among asks

        a : IsWhatIsAsked r w x.client l
        a = talk-is_asked r w K.talk l rest takes t to x.client (sent-is-talk x.client l (asks-no_tell l.message new) from)

        p : IsAt a.c
        p = present-of a.c a.now

    -- what is asked is dated within the limit
    pub dated-within : (reading : ℕ) (runs : s.memory.ticks ≤ limit_over o w.lines w.issued) → IsDatedWithin o w.issued w.lines (target_plan r t) s.memory reading l.message
    dated-within reading ticks = by l.message refl
      where
        next : (n b : ℕ) → n ≤ b → n ≤ b + 1
        next n b low = omega (arith, low)

        -- an epoch that the request bears
        borne : (x : AttemptId) (g e : Epoch) → Contains w.issued (x, g) → g ≡ e → (e.0 / 256 ≤ limit_over o w.lines w.issued + 1) × (e.0 / 256 ≤ limit_over o w.lines (w.issued ++ []))
        borne x g e i same =
            let low : e.0 / 256 ≤ limit_over o w.lines w.issued = subst (λ z. z.0 / 256 ≤ limit_over o w.lines w.issued) same (C.bounded.issued x g i) in
            (next (e.0 / 256) (limit_over o w.lines w.issued) low, subst (λ is. e.0 / 256 ≤ limit_over o w.lines is) (sym (append-nil w.issued)) low)

        new : (x : AttemptId) (tracker e : Epoch) → IsAskedNow o w.issued w.lines x tracker l.from → request_epoch (target_plan r t) s.memory reading tracker None ≡ Some e
            → (e.0 / 256 ≤ limit_over o w.lines w.issued + 1) × (e.0 / 256 ≤ limit_over o w.lines (w.issued ++ (x, e) ∷ []))
        new x tracker e A found = let k = request-new o w.issued w.lines (target_plan r t) s.memory reading tracker few ticks A.tracked A.low x e found in (k.near, k.within)

        as-asked : (a b : MakingRequest) (e : Epoch) → b ≡ a → ((request_epoch (target_plan r t) s.memory reading b.tracker b.ep ≡ Some e) → (e.0 / 256 ≤ limit_over o w.lines w.issued + 1) × (e.0 / 256 ≤ limit_over o w.lines (w.issued ++ listed (issued_for b.attempt b.ep e))))
            → request_epoch (target_plan r t) s.memory reading a.tracker a.ep ≡ Some e → (e.0 / 256 ≤ limit_over o w.lines w.issued + 1) × (e.0 / 256 ≤ limit_over o w.lines (w.issued ++ listed (issued_for a.attempt a.ep e)))
        as-asked a b e same f =
            subst (λ z. request_epoch (target_plan r t) s.memory reading z.tracker z.ep ≡ Some e → (e.0 / 256 ≤ limit_over o w.lines w.issued + 1) × (e.0 / 256 ≤ limit_over o w.lines (w.issued ++ listed (issued_for z.attempt z.ep e)))) same f

        so : (m : Message) → l.message ≡ m → Has l w.messages
        so m is = has-from_contains w.messages l among

        by : (m : Message) → l.message ≡ m → IsDatedWithin o w.issued w.lines (target_plan r t) s.memory reading m
        by (message.Snap x c name tracker) is a e asks = as-asked a (asks_for x c None tracker) e (cc)
            (λ found. new x tracker e (asked-now x tracker (ap asks_new is) (subst (λ m. AsksEpoch m x tracker) (sym is) (refl, refl))) found)
        by (message.Freeze x c f) is a e asks = as-asked a (asks_for x c (Some f) f) e (cc)
            (λ found. let same : f ≡ e = cc in borne x f e (contains-from_has w.issued (x, f) (subst (λ m. IsSo r w.issued m) is (K.makings.letters l (so _ is))).0) same)
        by (message.Prune x c (Some tracker) None) is a e asks = as-asked a (asks_for x c None tracker) e (cc)
            (λ found. new x tracker e (asked-now x tracker (ap asks_new is) (subst (λ m. AsksEpoch m x tracker) (sym is) (refl, refl))) found)
        by (message.Prune x c None (Some g)) is a e asks = as-asked a (asks_for x c (Some g) g) e (cc)
            (λ found. let same : g ≡ e = cc in borne x g e (contains-from_has w.issued (x, g) (subst (λ m. IsSo r w.issued m) is (K.makings.letters l (so _ is))).0) same)
        by m is a e asks = let no : ⊥ = cc in absurd no

    -- a target that is told to be down was given up, and is one of an attempt's that is collected
    pub collected-gone : (by : ℕ) (q : Message) → TellsReset by true q l.message → (x : AttemptId) (c : Collection) → Has c s.memory.collecting → c.attempt ≡ x → IsGone r w.lines x by
    collected-gone by q tells x c i same = (subst (λ y. Contains (attempt_targets r.script y) by) same (maker-at c.attempt c.cont c.name by (K.makings.collecting t s c here i).1 low), contains-from_has w.lines (line.Down by) told)
      where
        told : Has (line.Down by) w.lines
        told = K.downs l by q (has-from_contains w.messages l among) tells

        low : by < r.script.targets
        low = let k : by < length w.targets = has-all (HasTarget (length w.targets)) w.lines (line.Down by) K.lives.bounded told in let q : length w.targets ≡ r.script.targets = K.many in omega (arith, k, q)
