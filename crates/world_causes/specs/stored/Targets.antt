-- What a target hears, and its idle work, keep what is stored once.
use Rattle.std.specs.Prelude.{ℕ, ◌≡◌, ◌≤◌, ◌+◌, ◌++◌, ◌&&◌, ◌||◌, true, false, not, List, [], map, Contains, slice_get, Option, Some, None, refl}
use Rattle.std.proofs.Common.{append-nil, inl, inr, sym, ◌∙◌, ap, subst, arith}
use Rattle.std.proofs.lemmas.List.Elements.{Contains-append_left}
use Rattle.base_types.specs.declared.entry.Entry.{Entry}
use Rattle.base_types.specs.declared.epoch.Epoch.{Epoch}
use Rattle.base_types.specs.declared.id.AttemptId.{AttemptId}
use Rattle.base_types.specs.declared.outcome.Outcome.TheVariants as outcome
use Rattle.base_messages.specs.declared.message.Message.{Message}
use Rattle.base_messages.specs.declared.message.Message.TheVariants as message
use Rattle.base_messages.specs.declared.message.Post.{Post}
use Rattle.base_messages.specs.declared.message.Reply.TheVariants as reply
use Rattle.model_laws.specs.Members.{Has, contains-from_has, has-cases, has-from_contains, has-from_map}
use Rattle.model_laws.specs.TargetLaws.{same_number}
use Rattle.daos_model.specs.Attempts.{tries}
use Rattle.daos_model.specs.BoolLaws.{both}
use Rattle.daos_model.specs.Durables.{entry_key, same_attempt}
use Rattle.daos_model.specs.EntryLaws.{same_attempt-itself}
use Rattle.daos_model.specs.Ordered.{is_rising}
use Rattle.world_contents.specs.world_commit.attempts.Attempts as attempts
use Rattle.world_contents.specs.world_commit.attempts.Attempts.{IsBorn, IsFromLeader, IsOther, entry_at, leader_of}
use Rattle.world_contents.specs.world_commit.attempts.Asked.{IsCommitNew}
use Rattle.world_contents.specs.world_commit.attempts.Counting.{count-some, count-taken}
use Rattle.world_contents.specs.world_commit.attempts.History.{History}
use Rattle.world_contents.specs.world_commit.attempts.MemberBits.{other-no_leader}
use Rattle.world_base.specs.declared.did.Did.{Did}
use Rattle.world_base.specs.declared.letter.Letter.{Letter}
use Rattle.world_base.specs.declared.request.CommitRequest.{CommitRequest}
use Rattle.world_base.specs.declared.target.TargetMemory.{TargetMemory}
use Rattle.world_base.specs.declared.target.TargetState.{TargetState}
use Rattle.world_base.specs.declared.world.World.{World}
use Rattle.world_base.specs.Changes.{Kept}
use Rattle.world_base.specs.Events.{Rules, TargetHearsRightly, TargetIdles, client_plan, kept, target_after, target_plan, with_epoch}
use Rattle.world_base.specs.Events as events
use Rattle.world_base.specs.Letters.{Takes, client, is_client, is_talk_of, is_tell, letter_of, letters_of, target}
use Rattle.world_base.specs.MemoryLaws.{hears-follows, idles-follows}
use Rattle.world_base.specs.StepLaws.{set-here}
use Rattle.world_contents.specs.world_commit.fates.Facts as fates
use Rattle.world_contents.specs.world_commit.fates.Facts.{IsAckRight, IsSaidSo, is_between, is_try, prepares_in_vain, prepares_it, preparing}
use Rattle.world_causes.specs.outcomes.Outcomes.{IsHandedOver, commits}
use Rattle.world_causes.specs.outcomes.ClientLaws.{present-not-past}
use Rattle.world_causes.specs.outcomes.Premises.{IsWaitedFor, hands}
use Rattle.world_contents.specs.world_letters.epochs.Epochs.{IsPast}
use Rattle.world_causes.specs.causes.ClientLaws.{ends-no_tell}
use Rattle.world_contents.specs.world_letters.talks.Asked.{commit_of}
use Rattle.world_contents.specs.world_letters.talks.TalkLaws.{got-is-talk, left-is-among, left-or-it, none-among, taken-from, taken-is-among}
use Rattle.world_causes.specs.causes.Causes.{EndsOf, Stored, stored_by}
use Rattle.world_causes.specs.causes.Storing.{HasItsLine, IsAskedAt, IsPrepareOf, IsRefusedAt, IsTold, RefusesAt}
use Rattle.world_causes.specs.causes.StoringLaws.{DidSo, asked-for, asks-cases, cases, commit-is, commit-no_end, entry-now, not-both, target-stores_once}
use Rattle.world_causes.specs.causes.StoreTurns.{AsksFor, IsCommitOf, StoresAs, hears-stores, idles-stores, nothing_heard}
use Rattle.world_causes.specs.stored.Over.{IsStoringKnown, IsUntold, StoringOver}

some-none : {T : Type 0} (o : Option T) (x : T) → o ≡ Some x → o ≡ None → ⊥
some-none o x h k = cc

-- ---- letters

module _ (r : Rules) (h : History) (w : World) (l : Letter) where
  -- a Prepare is of its leader, to another member, and of an attempt that was born
  prepare-way : (A : fates.Attempts r h w) (x : AttemptId) (m : Message) → l.message ≡ m → IsPrepareOf m x → IsSaidSo r h w l.from l.to m → IsFromLeader r x l.from l.to × IsBorn r h w x
  prepare-way A x (message.Prepare e first ws inc) is p k = (subst (λ y. IsFromLeader r y l.from l.to) p k.way, subst (IsBorn r h w) p k.born)
  prepare-way A x m is p k = absurd p

  prepare-says : fates.Attempts r h w → (x : AttemptId) → Contains w.messages l → IsPrepareOf l.message x → IsFromLeader r x l.from l.to × IsBorn r h w x
  prepare-says A x i p = prepare-way A x l.message refl p (A.on.letters l (has-from_contains w.messages l i))

  pub prepare-born : fates.Attempts r h w → (x : AttemptId) → Contains w.messages l → IsPrepareOf l.message x → IsBorn r h w x
  prepare-born A x i p = (prepare-says A x i p).1

  -- its epoch was issued
  prepare-dated : (x : AttemptId) (m : Message) → l.message ≡ m → IsPrepareOf m x → IsSaidSo r h w l.from l.to m → (e : Epoch) × Contains w.issued (x, e)
  prepare-dated x (message.Prepare e first ws inc) is p k = (e.epoch, subst (λ y. Contains w.issued (y, e.epoch)) p (contains-from_has w.issued (e.attempt, e.epoch) k.issued))
  prepare-dated x m is p k = absurd p

  pub prepare-issued : fates.Attempts r h w → (x : AttemptId) → Contains w.messages l → IsPrepareOf l.message x → (e : Epoch) × Contains w.issued (x, e)
  prepare-issued A x i p = prepare-dated x l.message refl p (A.on.letters l (has-from_contains w.messages l i))

  prepare-other : fates.Attempts r h w → (x : AttemptId) (t : ℕ) → Contains w.messages l → IsPrepareOf l.message x → l.to ≡ target t → IsOther r x t
  prepare-other A x t i p to = let k = (prepare-says A x i p).0 in subst (IsOther r x) (ap (λ z. z.number) (sym k.receiver ∙ to)) k.other

-- it counts among what a member is asked to prepare
prepare-tries : (r : Rules) (l : Letter) (m : Message) (x : AttemptId) (t : ℕ) → l.message ≡ m → IsPrepareOf m x → l.to ≡ target t → is_try r x t l ≡ true
unfolding is_between
prepare-tries r l (message.Prepare e first ws inc) x t is p to =
    ap (λ z. (attempts.is_target t l.to && prepares_it x z) || (attempts.is_target (leader_of r x) l.to && (attempts.is_target t l.from && prepares_in_vain x z))) is
    ∙ ap (λ b. b || (attempts.is_target (leader_of r x) l.to && (attempts.is_target t l.from && false))) (ap (λ a. attempts.is_target t a && same_attempt e.attempt x) to ∙ both (attempts.is_target t (target t)) (same_attempt e.attempt x) (same_number t) (subst (λ y. same_attempt y x ≡ true) (sym p) (same_attempt-itself x)))
prepare-tries r l m x t is p to = absurd p

-- ---- a Commit

pub hands-it : (x : AttemptId) (m : Message) → IsCommitOf m x → hands x m ≡ true
hands-it x (message.Commit y ep first tracker ws) same = subst (λ n. same_attempt n x ≡ true) (sym same) (same_attempt-itself x)
hands-it x m none = absurd none

module _ (r : Rules) (h later : History) (stored : Stored) (w v : World) (G : IsStoringKnown r h later w v) (S : StoringOver r stored w) where
  -- it goes to its leader, and nothing became of its attempt
  pub commit-new : (l : Letter) (x : AttemptId) → Contains w.messages l → IsCommitOf l.message x → (l.to ≡ target (leader_of r x)) × (IsBorn r h w x → ⊥)
  commit-new l x i k = (subst (λ y. l.to ≡ target (leader_of r y)) q.2 new.receiver, λ b. unborn (subst (IsBorn r h w) (sym q.2) b))
    where
      q : (q : CommitRequest) × (l.message ≡ commit_of q) × (q.attempt ≡ x)
      q = commit-is l.message x k

      new : IsCommitNew r h w l.to q.0.attempt q.0.ep q.0.writes
      new = G.asked.commits l q.0.attempt q.0.ep q.0.first q.0.tracker q.0.writes (has-from_contains w.messages l i) q.1

      unborn : IsBorn r h w q.0.attempt → ⊥
      unborn (inl held) = some-none (entry_at w (leader_of r q.0.attempt) q.0.attempt) held.entry held.found new.unstored
      unborn (inr aborted) = new.unended aborted

  -- nobody is told of its end
  untold : (l : Letter) (x : AttemptId) → Contains w.messages l → IsCommitOf l.message x → IsUntold w x
  untold l x i k = record {
    letters = λ z j ends. elim (left-or-it w.messages l taken.0 z taken.1 j) [
      | inl same ↦ commit-no_end z.message x x (subst (λ y. IsCommitOf y.message x) (sym same) k) ends
      | inr there ↦ none-among x.client taken.0 z (G.hands.alone l taken.0 x taken.1 (hands-it x l.message k)) there (got-is-talk x.client z (ends-no_tell z.message x ends) (G.own z x j ends))
    ];
    lines = λ b j same. present-not-past (client_plan r x.client) waits.c waits.waits.a waits.waits.present
        (subst (IsPast waits.c) (same ∙ sym waits.waits.own) (G.past b waits.c (contains-from_has (tries w.lines) b j) (subst (λ y. slice_get w.clients y.client ≡ Some waits.c) (sym same) waits.here)));
  }
    where
      taken : (rest : List Letter) × Takes w.messages l rest
      taken = taken-from w.messages l i

      waits : IsWaitedFor r w.clients x
      waits = G.hands.waits l x (has-from_contains w.messages l i) (hands-it x l.message k)

  -- it wasn't refused anywhere
  pub commit-unrefused : (l : Letter) (x : AttemptId) → Contains w.messages l → IsCommitOf l.message x → (u : ℕ) → IsRefusedAt w u x → ⊥
  commit-unrefused l x i k u (HasItsLine b need free j same is) = (untold l x i k).lines b (has-from_contains (tries w.lines) b j) same
  commit-unrefused l x i k u (IsTold z j p) = told z.message refl p
    where
      told : (m : Message) → z.message ≡ m → RefusesAt m u x → ⊥
      told (message.Ack y inc (Some (outcome.NoSpace n need free))) is q = (commit-new l x i k).1 (subst (IsBorn r h w) q.0 (ack-born (subst (IsSaidSo r h w z.from z.to) is (G.attempts.on.letters z (has-from_contains w.messages z j)))))
        where
          ack-born : IsAckRight r h w z.from z.to y inc (Some (outcome.NoSpace n need free)) → IsBorn r h w y
          ack-born a = a.born
      told (message.Ended y e (outcome.NoSpace n need free)) is q = (untold l x i k).letters z j (subst (λ m. EndsOf m x) (sym is) q.0)
      told (message.Fetched y op group e (reply.Outcome (outcome.NoSpace n need free))) is q = (untold l x i k).letters z j (subst (λ m. EndsOf m x) (sym is) q.0)
      told m is q = absurd q

  -- no other Commit of it is in flight beside it
  pub commit-alone : (l : Letter) (rest : List Letter) (x : AttemptId) → Takes w.messages l rest → IsCommitOf l.message x → (z : Letter) → Contains rest z → IsCommitOf z.message x → ⊥
  unfolding is_talk_of
  commit-alone l rest x takes k z i c = none-among x.client rest z (G.hands.alone l rest x takes (hands-it x l.message k)) i (talks z.message refl c)
    where
      among : Contains w.messages z
      among = left-is-among w.messages l rest z takes i

      from : z.from ≡ client x.client
      from = G.hands.sender z x (has-from_contains w.messages z among) (hands-it x z.message c)

      talks : (m : Message) → z.message ≡ m → IsCommitOf m x → is_talk_of x.client z ≡ true
      talks (message.Commit y ep first tracker ws) is same =
          ap (λ n. not (is_tell n) && (is_client x.client z.from || is_client x.client z.to)) is ∙ ap (λ a. is_client x.client a || is_client x.client z.to) from ∙ ap (λ b. b || is_client x.client z.to) (same_number x.client)
      talks m is none = absurd none

  -- ---- the world then

  -- a target sends no Commit
  left-commit : (t : ℕ) (rest : List Letter) (posts : List Post) → v.messages ≡ rest ++ letters_of (target t) posts → (l : Letter) (x : AttemptId) → Contains v.messages l → IsCommitOf l.message x → Contains rest l
  left-commit t rest posts are l x i c = elim (has-cases rest (letters_of (target t) posts) l (subst (Has l) are (has-from_contains v.messages l i))) [
    | inl j ↦ contains-from_has rest l j
    | inr j ↦ (let q = has-from_map (letter_of (target t)) posts l j in
        let from : l.from.client ≡ true = G.commits_then l x (has-from_contains v.messages l i) (commits-it l.message c) in
        let same : false ≡ l.from.client = ap (λ z. z.from.client) q.2 in
        let no : ⊥ = cc (from, same) in absurd no)
  ]
    where
      commits-it : (m : Message) → IsCommitOf m x → commits x m ≡ true
      commits-it (message.Commit y ep first tracker ws) same = subst (λ n. same_attempt n x ≡ true) (sym same) (same_attempt-itself x)
      commits-it m none = absurd none

  -- what was heard asks for an attempt
  module _ (t : ℕ) (s z : TargetState) (m : Message) (did : Did) (rest : List Letter) (new : Kept) (same : new.durable ≡ z.durable) (K : DidSo stored w v t s z m did rest) (A : StoresAs s.durable t m new did.posts) (clients : v.clients ≡ w.clients)
      (quiet : (x : AttemptId) (l : Letter) → AsksFor m x → Contains rest l → IsCommitOf l.message x → ⊥) where
    rising : is_rising entry_key z.durable.entries ≡ true
    rising = (G.attempts_then.on.ordered t z K.now).entries

    dated : (x : AttemptId) (e : Entry) → entry_at v t x ≡ Some e → Contains v.issued (x, e.epoch)
    dated x e at = contains-from_has v.issued (x, e.epoch) ((G.attempts_then.on.each x).entries.one t e at).issued

    pub target-over : StoringOver r (stored_by t s.durable z.durable ++ stored) v
    target-over = record {
      so = target-stores_once stored w v S.so t s z m did rest new same rising dated K A;
      handed = λ u x i. elim (cases stored w v S.so t s z m did rest new same rising dated K A u x i) [
        | inl k ↦ (let e = entry-now stored w v S.so t s z m did rest new same rising dated K A u x k in G.handed_then x ((G.attempts_then.on.each x).entries.born t e.0 e.1))
        | inr j ↦ subst (λ cs. IsHandedOver r cs x) (sym clients) (S.handed u x j)
      ];
      uncommitted = λ u x l i j c. elim (cases stored w v S.so t s z m did rest new same rising dated K A u x i) [
        | inl k ↦ asked-for stored w v S.so t s z m did rest new same rising dated K A u x k (λ f. quiet x l f (left-commit t rest did.posts K.messages l x j c) c)
        | inr k ↦ S.uncommitted u x l k (K.left l (left-commit t rest did.posts K.messages l x j c)) c
      ];
    }

  -- ---- a target hears

  module _ (t : ℕ) (s : TargetState) (l : Letter) (rest : List Letter) (here : slice_get w.targets t ≡ Some s) (takes : Takes w.messages l rest) (to_it : l.to ≡ target t) (new : Kept) (memory : TargetMemory) (did : Did)
      (after : v ≡ events.with_target t (target_after s new memory) (events.after_turn w (target t) did rest)) (silent : did.lines ≡ []) (A : StoresAs s.durable t l.message new did.posts) where
    heard : Contains w.messages l
    heard = taken-is-among w.messages l rest takes

    asked-here : (x : AttemptId) → IsPrepareOf l.message x → IsAskedAt w t x
    asked-here x p = record { l = l; among = heard; to = to_it; its = p }

    -- no other Prepare of the attempt goes to this target then
    alone-there : (x : AttemptId) → AsksFor l.message x → IsAskedAt v t x → ⊥
    alone-there x f a = elim (asks-cases l.message x f) [ inl k ↦ commit k | inr p ↦ prepare p ]
      where
        commit : IsCommitOf l.message x → ⊥
        commit k =
            let leads : t ≡ leader_of r x = ap (λ y. y.number) (sym to_it ∙ (commit-new l x heard k).0) in
            other-no_leader r x t (prepare-other r later v a.l G.attempts_then x t a.among a.its a.to) leads

        prepare : IsPrepareOf l.message x → ⊥
        prepare p = elim (has-cases rest (letters_of (target t) did.posts) a.l (subst (Has a.l) (ap (λ y. y.messages) after) (has-from_contains v.messages a.l a.among))) [
          | inl j ↦ two j
          | inr j ↦ (let q = has-from_map (letter_of (target t)) did.posts a.l j in
              not-both l.message x x ((A.said q.0 q.1).asks x (subst (λ y. IsPrepareOf y x) (sym (ap (λ y. y.message) q.2)) a.its)) p)
        ]
          where
            two : Has a.l rest → ⊥
            two j =
                let few : preparing r w x t ≤ 1 = (G.attempts.on.each x).awaited.tries t (prepare-other r h w l G.attempts x t heard p to_it) in
                let all : preparing r w x t ≡ attempts.one_if (is_try r x t l) + attempts.count (is_try r x t) rest = count-taken (is_try r x t) w.messages l rest takes in
                let one : attempts.one_if (is_try r x t l) ≡ 1 = ap attempts.one_if (prepare-tries r l l.message x t refl p to_it) in
                let more : 1 ≤ attempts.count (is_try r x t) rest = count-some (is_try r x t) rest a.l j (prepare-tries r a.l a.l.message x t refl a.its a.to) in
                omega (arith, few, all, one, more)

    pub hearing-over : StoringOver r (stored_by t s.durable new.durable ++ stored) v
    hearing-over = target-over t s (target_after s new memory) l.message did rest new refl (record {
      now = ap (λ y. slice_get y.targets t) after ∙ set-here w.targets t s (target_after s new memory) here;
      messages = ap (λ y. y.messages) after;
      lines = ap (λ y. y.lines) after ∙ ap (λ ls. w.lines ++ map (with_epoch w.issued) ls) silent ∙ append-nil w.lines;
      issued = λ x e i. subst (λ is. Contains is (x, e)) (sym (ap (λ y. y.issued) after)) (Contains-append_left w.issued (events.listed did.issued) (x, e) i);
      left = λ z i. left-is-among w.messages l rest z takes i;
      unstored = λ x f i. elim (asks-cases l.message x f) [ inl k ↦ S.uncommitted t x l i heard k | inr p ↦ S.so.asked t x (asked-here x p) i ];
      unrefused = λ x f b. elim (asks-cases l.message x f) [ inl k ↦ commit-unrefused l x heard k t b | inr p ↦ (S.so.refused t x b).1 (asked-here x p) ];
      anew = λ u x k i. S.uncommitted u x l i heard k;
      uncommitted = λ u x k b. commit-unrefused l x heard k u b;
      told = λ u x p. IsTold l heard p;
      alone = alone-there;
    }) A (ap (λ y. y.clients) after) (λ x z f i c. elim (asks-cases l.message x f) [
      | inl k ↦ commit-alone l rest x takes k z i c
      | inr p ↦ (commit-new z x (left-is-among w.messages l rest z takes i) c).1 (prepare-born r h w l G.attempts x heard p)
    ])

  -- what it hears without stops
  pub rightly-over : (g : TargetHearsRightly r w v) → StoringOver r (stored_by g.t g.s.durable g.new.durable ++ stored) v
  rightly-over g = hearing-over g.t g.s g.l g.rest g.here g.takes g.to_it g.new g.memory g.did g.after (hears-follows (target_plan r g.t) g.s.opening g.s.memory g.reading g.l.from g.l.message (kept g.s) g.new (g.memory, g.did) g.turn).lines
      (hears-stores g.s.durable (kept g.s) refl (target_plan r g.t) g.s.opening g.s.memory g.reading g.l.from g.l.message g.new (g.memory, g.did) g.turn)

  -- idle work
  pub idling-over : (g : TargetIdles r w v) → StoringOver r (stored_by g.t g.s.durable g.new.durable ++ stored) v
  idling-over g = target-over g.t g.s (target_after g.s g.new g.memory) nothing_heard g.did w.messages g.new refl (record {
    now = ap (λ y. slice_get y.targets g.t) g.after ∙ set-here w.targets g.t g.s (target_after g.s g.new g.memory) g.here;
    messages = ap (λ y. y.messages) g.after;
    lines = ap (λ y. y.lines) g.after
        ∙ ap (λ ls. w.lines ++ map (with_epoch w.issued) ls) (idles-follows g.settling (target_plan r g.t) g.s.memory (kept g.s) g.new (g.memory, g.did) g.turn).lines
        ∙ append-nil w.lines;
    issued = λ x e i. subst (λ is. Contains is (x, e)) (sym (ap (λ y. y.issued) g.after)) (Contains-append_left w.issued (events.listed g.did.issued) (x, e) i);
    left = λ l i. i;
    unstored = λ x f i. absurd f;
    unrefused = λ x f b. absurd f;
    anew = λ u x k i. absurd k;
    uncommitted = λ u x k b. absurd k;
    told = λ u x p. absurd p;
    alone = λ x f a. absurd f;
  }) (idles-stores g.s.durable (kept g.s) refl g.t g.settling (target_plan r g.t) g.s.memory g.new (g.memory, g.did) g.turn) (ap (λ y. y.clients) g.after) (λ x l f i c. absurd f)
