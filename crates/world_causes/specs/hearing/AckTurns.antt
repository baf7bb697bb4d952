-- A leader hears what a member answers: an Ack, or what it holds. It may decide an attempt that nobody waits for, or that was decided before
-- by an earlier incarnation.
use Rattle.std.specs.Prelude.{ℕ, ◌≡◌, ◌≢◌, ◌⊎◌, ◌++◌, ◌&&◌, Bool, true, false, not, is_some, List, [], ◌∷◌, map, Contains, slice_get, Option, Some, None, refl, if◌then◌else◌}
use Rattle.std.proofs.Common.{sym, ◌∙◌, ap, subst, inl, inr}
use Rattle.std.proofs.lemmas.List.Elements.{Contains-append_left}
use Rattle.base_types.specs.declared.entry.Entry.{Entry}
use Rattle.base_types.specs.declared.epoch.Epoch.{Epoch}
use Rattle.base_types.specs.declared.id.AttemptId.{AttemptId}
use Rattle.base_types.specs.declared.outcome.Outcome.{Outcome}
use Rattle.base_types.specs.declared.outcome.Outcome.TheVariants.{Committed}
use Rattle.base_messages.specs.declared.actor.ActorId.{ActorId}
use Rattle.base_messages.specs.declared.message.Message.{Message}
use Rattle.base_messages.specs.declared.message.Message.TheVariants as message
use Rattle.base_messages.specs.declared.message.Post.{Post}
use Rattle.model_laws.specs.Members.{Has, contains-from_has, has-cases, has-from_map}
use Rattle.daos_model.specs.declared.durable.Version.{Version}
use Rattle.daos_model.specs.BoolLaws.{clash}
use Rattle.daos_model.specs.Durables.{entry_of}
use Rattle.daos_model.specs.Opening.{Opening}
use Rattle.dtx_base.specs.Leading.{abort_to, ended}
use Rattle.dtx_base.specs.Members.{other_members}
use Rattle.dtx_base.specs.Rows.{is_among}
use Rattle.world_contents.specs.world_commit.attempts.Attempts.{Entries, entry_in, writes_of}
use Rattle.world_contents.specs.world_commit.attempts.History.{Decided, GrowsBy, History, Served, Tells, is_decided}
use Rattle.world_base.specs.declared.did.Did.{Did}
use Rattle.world_base.specs.declared.letter.Letter.{Letter}
use Rattle.world_base.specs.declared.target.Life.TheVariants.{Running}
use Rattle.world_base.specs.declared.target.TargetMemory.{TargetMemory}
use Rattle.world_base.specs.declared.target.TargetState.{TargetState}
use Rattle.world_base.specs.declared.world.World.{World}
use Rattle.world_base.specs.Acks as ack
use Rattle.world_base.specs.Changes.{Kept}
use Rattle.world_base.specs.Events.{Rules, kept, listed, target_plan}
use Rattle.world_base.specs.PathLaws.{reached-keeps}
use Rattle.world_base.specs.Roles.{leader_at}
use Rattle.world_base.specs.Turns.{Whole}
use Rattle.world_contents.specs.world_commit.fates.Told.{refused_end, silent_end, told_end}
use Rattle.world_contents.specs.reads.AckLaws as acks
use Rattle.world_contents.specs.reads.AckLaws.{AckTells, Nothing, Refused, TellsCommit, ack-tells, refusal-silent}
use Rattle.world_contents.specs.reads.Adds.{AreAnswered, NoneIs, is_answer, none-answered}
use Rattle.world_contents.specs.reads.Beginning.{TurnBegins}
use Rattle.world_contents.specs.reads.ChangeLaws.{WasDecided, decided-has, has-decided}
use Rattle.world_contents.specs.reads.EventLaws.{After, turn-begins, turn-keeps}
use Rattle.world_contents.specs.reads.Given.{IsRefusalRight}
use Rattle.world_contents.specs.reads.Growing.{Decides, NoneMore, OneMore, committed_in, refused_in}
use Rattle.world_contents.specs.reads.GrowLaws.{committed-told, tells-committed}
use Rattle.world_contents.specs.reads.Midway.{IsServedRight, Sound}
use Rattle.world_contents.specs.reads.Reads.{Reads}
use Rattle.world_contents.specs.reads.Standing.{Knows}
use Rattle.world_contents.specs.reads.Versions.{Versions}
use Rattle.world_causes.specs.hearing.Going.{GoesOn}
use Rattle.world_causes.specs.hearing.Growing.{tells-grow}

-- ---- what a leader would tell

-- it is of the attempt, at the epoch of the entry that it had of it
silent-is : (x : AttemptId) (refusal : Option Outcome) (k : Option Entry) (before after stays : Bool) (p : Post) → Has p (silent_end x refusal k before after stays)
    → (e : Entry) × (k ≡ Some e) × (how : Outcome) × (p ≡ told_end x (Some e.epoch) how)
silent-is x refusal None before after stays p i = absurd i
silent-is x refusal (Some e) before after stays p i = by (after && not before) stays refusal i
  where
    by : (b c : Bool) (refusal : Option Outcome) → Has p (if b then told_end x (Some e.epoch) Committed ∷ [] else (if c then [] else refused_end x e.epoch refusal))
        → (f : Entry) × (Some e ≡ Some f) × (how : Outcome) × (p ≡ told_end x (Some f.epoch) how)
    by true c refusal (inl same) = (e, refl, Committed, same)
    by true c refusal (inr j) = absurd j
    by false true refusal j = absurd j
    by false false None j = absurd j
    by false false (Some how) (inl same) = (e, refl, how, same)
    by false false (Some how) (inr j) = absurd j

-- an attempt with its epoch
abbrev issue : AttemptId → Epoch → AttemptId × Epoch
issue x e = (x, e)

-- ---- the turn

module _ (r : Rules) (o : Opening) (held : ℕ → List Version) (h : History) (w v : World) (b : Knows r o held h w) (t : ℕ) (s : TargetState) (here : slice_get w.targets t ≡ Some s) (runs : s.life ≡ Running)
    (new : Kept) (left : TargetMemory × Did) (rest : List Letter) (after : v ≡ After w t s new left rest) (from : ℕ) (x : AttemptId) (inc : ℕ) (refusal : Option Outcome)
    (right : IsRefusalRight refusal) (firm : ack.is_refusing from x inc refusal (leader_at (target_plan r t) s.memory s.durable) ≡ true → WasDecided h x → ⊥) (some : writes_of r x ≢ [])
    (turn : Whole (ack.AckNext (target_plan r t) s.memory from x inc refusal) (ack.AckEnds s.memory) ack.Heard (kept s) new left) where
  abbrev begun : TurnBegins r o (held t) h w t s
  begun = turn-begins r o held h w b t s here runs

  abbrev told : List Post
  told = left.1.posts ++ silent_end x refusal (entry_of s.durable x) (is_among x s.memory.leader.decided) (is_among x left.0.leader.decided) (is_some (entry_of new.durable x))

  -- what is kept and known then
  record AckOver (k : Kept) (did : TargetMemory × Did) : Type 0 where
    sound : Sound r o (held t) h h.served s.opening t k.durable s.memory.stamps
    stamps : did.0.stamps ≡ s.memory.stamps
    tells : AckTells from x refusal (leader_at (target_plan r t) s.memory s.durable) did.1.posts

  ends : (g : ack.AckStage) (k : Kept) (did : TargetMemory × Did) → ack.AckEnds s.memory g k did → acks.AckMid r o (held t) h w t s begun from x inc refusal g k → AckOver k did
  ends g k did (ack.IsFollowed k' f z is) p = subst (AckOver k) (sym is) (record {
    sound = p.0;
    stamps = refl;
    tells = subst (λ y. AckTells from x refusal (leader_at (target_plan r t) s.memory s.durable) y.posts) (sym p.1) (ack-tells from x inc refusal (leader_at (target_plan r t) s.memory s.durable));
  })

  over : AckOver new left
  over = ends turn.last new left turn.ends
      (reached-keeps (ack.AckNext (target_plan r t) s.memory from x inc refusal) (acks.AckMid r o (held t) h w t s begun from x inc refusal) (acks.ack-step r o (held t) h w t s begun from x inc refusal firm) ack.Heard (kept s) turn.last new turn.reached refl)

  -- it answers no read
  silent : NoneIs is_answer left.1.posts
  silent = by over.tells
    where
      one : (e : Entry) (client : ActorId) → NoneIs is_answer (record { to = client; message = message.Ended x (Some e.epoch) Committed } ∷ [])
      one e client p (inl same) = ap (λ q. is_answer q.message) same
      one e client p (inr j) = absurd j

      by : AckTells from x refusal (leader_at (target_plan r t) s.memory s.durable) left.1.posts → NoneIs is_answer left.1.posts
      by (Nothing none) = λ p i. absurd (subst (Has p) none i)
      by (TellsCommit e u client found row other is) = subst (NoneIs is_answer) (sym is) (one e client)
      by (Refused e u how is all) = subst (NoneIs is_answer) (sym all) (refusal-silent u.client x e.epoch how s.durable.incarnation (other_members e))

  -- ---- what is told

  -- its entry, and that it has this epoch
  record IsOf (y : AttemptId) (f : Epoch) : Type 0 where
    entry : Entry
    found : entry_of s.durable x ≡ Some entry
    attempt : y ≡ x
    epoch : f ≡ entry.epoch

  ended-is : (y : AttemptId) (f : Epoch) (e : Entry) (how : Outcome) → entry_of s.durable x ≡ Some e → message.Ended x (Some e.epoch) how ≡ message.Ended y (Some f) Committed → IsOf y f
  ended-is y f e how found same = let one : x ≡ y = cc in let is : e.epoch ≡ f = cc in record { entry = e; found = found; attempt = sym one; epoch = sym is }

  posts-of : (y : AttemptId) (f : Epoch) (p : Post) → Has p left.1.posts → p.message ≡ message.Ended y (Some f) Committed → IsOf y f
  posts-of y f p i says = by over.tells
    where
      client-of : (e : Entry) (how : Outcome) (c : Option ActorId) → entry_of s.durable x ≡ Some e → Has p (ended c x e.epoch how) → IsOf y f
      client-of e how None found j = absurd j
      client-of e how (Some c) found (inl same) = ended-is y f e how found (sym (ap (λ q. q.message) same) ∙ says)
      client-of e how (Some c) found (inr j) = absurd j

      by : AckTells from x refusal (leader_at (target_plan r t) s.memory s.durable) left.1.posts → IsOf y f
      by (Nothing none) = absurd (subst (Has p) none i)
      by (TellsCommit e u client found row other is) =
          let z = begun.rows x u row in
          let same : e ≡ z.entry = acks.led-found r o (held t) h w t s begun x z e found in
          client-of e Committed (Some client) (z.found ∙ ap (λ k. Some k) (sym same)) (subst (Has p) is i)
      by (Refused e u how is all) = elim (has-cases (ended u.client x e.epoch how) (map (abort_to s.durable.incarnation x) (other_members e)) p (subst (Has p) all i)) [
        | inl j ↦ refused e u.client how is j
        | inr j ↦ (let z = has-from_map (abort_to s.durable.incarnation x) (other_members e) p j in let no : ⊥ = cc (says, ap (λ q. q.message) z.2) in absurd no)
      ]
        where
          refused : (e : Entry) (c : Option ActorId) (how : Outcome) → refusal ≡ Some how → Has p (ended c x e.epoch how) → IsOf y f
          refused e None how is j = absurd j
          refused e (Some c) how is (inl same) =
              let says' : message.Ended x (Some e.epoch) how ≡ message.Ended y (Some f) Committed = sym (ap (λ q. q.message) same) ∙ says in
              let no : how ≡ Committed = cc in absurd (subst IsRefusalRight is right no)
          refused e (Some c) how is (inr j) = absurd j

  told-of : (y : AttemptId) (f : Epoch) → Tells told y (Some f) Committed → IsOf y f
  told-of y f z = elim (has-cases left.1.posts _ _ z.sent) [
    | inl i ↦ posts-of y f _ i refl
    | inr i ↦ (let q = silent-is x refusal (entry_of s.durable x) (is_among x s.memory.leader.decided) (is_among x left.0.leader.decided) (is_some (entry_of new.durable x)) _ i in
        ended-is y f q.0 q.2 q.1 (sym (ap (λ p. p.message) q.3)))
  ]

  -- ---- what is decided

  -- what is told as committed was decided; or it is the attempt, which wasn't
  data Deciding : Type 0 where
    NothingNew : ((y : AttemptId) (f : Epoch) → Tells told y (Some f) Committed → Decided h y f) → Deciding
    TheAttempt : (e : Entry) → entry_of s.durable x ≡ Some e → (WasDecided h x → ⊥) → Tells told x (Some e.epoch) Committed → Deciding

  decided-before : WasDecided h x → (y : AttemptId) (f : Epoch) → IsOf y f → Decided h y f
  decided-before d y f z =
      let same : z.entry.epoch ≡ d.0 = (b.versions.stand t s here).epochs x z.entry d.0 z.found d.1 in
      subst (λ i. Decided h i f) (sym z.attempt) (subst (Decided h x) (sym (z.epoch ∙ same)) d.1)

  deciding : Deciding
  deciding = by (committed_in told) refl
    where
      attempt : (y : AttemptId) (f : Epoch) → Tells told y (Some f) Committed → IsOf y f → (c : Bool) → is_decided h x ≡ c → Deciding
      attempt y f tells z true is = NothingNew (λ i g tells'. decided-before (decided-has h x is) i g (told-of i g tells'))
      attempt y f tells z false is =
          TheAttempt z.entry z.found (λ d. clash (is_decided h x) (has-decided h x d.0 d.1) is) (subst (λ i. Tells told i (Some z.entry.epoch) Committed) z.attempt (subst (λ g. Tells told y (Some g) Committed) z.epoch tells))

      by : (is : List (AttemptId × Epoch)) → committed_in told ≡ is → Deciding
      by [] none = NothingNew (λ y f z. absurd (subst (Has (y, f)) none (tells-committed told y f _ z.sent refl)))
      by (i ∷ is) same = let first = committed-told told i.0 i.1 (subst (Has i) (sym same) (inl refl)) in attempt i.0 i.1 first (told-of i.0 i.1 first) (is_decided h x) refl

  none-right : (q : Served) → Has q [] → IsServedRight r o h t (w.issued ++ listed left.1.issued) q
  none-right q i = absurd i

  sound : Sound r o (held t) h h.served s.opening t new.durable left.0.stamps
  sound = subst (Sound r o (held t) h h.served s.opening t new.durable) (sym over.stamps) over.sound

  issued : (e : Entry) → entry_of s.durable x ≡ Some e → Contains w.issued (x, e.epoch)
  issued e found = contains-from_has w.issued (x, e.epoch) ((b.attempts.entries x).one t e (ap (λ i. entry_in i x) here ∙ found)).issued

  -- these attempts are decided, of which nothing else is told
  module _ (heard : Message) (entries : (later : History) → GrowsBy h told later → (y : AttemptId) → Entries r later v y) where
    goes : (posts : List Post) (more : List (AttemptId × Epoch)) → Decides r o h (w.issued ++ listed left.1.issued) posts more → GrowsBy h told (record { decided = more ++ h.decided; aborted = refused_in told ++ h.aborted; served = h.served })
        → GoesOn r o held h v told (λ later. AreAnswered later.served t heard s.memory.member.parked left.1.posts)
    goes posts more decides grows = record {
      later = record { decided = more ++ h.decided; aborted = refused_in told ++ h.aborted; served = h.served };
      grows = grows;
      served = λ q i. i;
      also = none-answered h.served t heard s.memory.member.parked left.1.posts silent;
      versions = subst (Versions r o held _) (sym after) k.0;
      reads = subst (Reads r o _) (sym after) k.1;
    }
      where
        k : Versions r o held (record { decided = more ++ h.decided; aborted = refused_in told ++ h.aborted; served = h.served }) (After w t s new left rest)
            × Reads r o (record { decided = more ++ h.decided; aborted = refused_in told ++ h.aborted; served = h.served }) (After w t s new left rest)
        k = turn-keeps r o held h w b t s new left rest here [] none-right sound posts more decides (refused_in told ++ h.aborted)
            (λ y. subst (λ u. Entries r (record { decided = more ++ h.decided; aborted = refused_in told ++ h.aborted; served = h.served }) u y) after (entries _ grows y))

    pub ack-goes : GoesOn r o held h v told (λ later. AreAnswered later.served t heard s.memory.member.parked left.1.posts)
    ack-goes = by deciding
      where
        by : Deciding → GoesOn r o held h v told (λ later. AreAnswered later.served t heard s.memory.member.parked left.1.posts)
        by (NothingNew was) = goes [] [] (NoneMore refl) (tells-grow h told [] h.served (λ y f z. inr (was y f z)) (λ y f i. absurd i))
        by (TheAttempt e found none tells) =
            goes (told_end x (Some e.epoch) Committed ∷ []) ((x, e.epoch) ∷ [])
            (OneMore x e.epoch refl (acks.may-decide r o (held t) h w t s begun x none e (issued e found)) (Contains-append_left w.issued (listed left.1.issued) (x, e.epoch) (issued e found)) some)
            (tells-grow h told ((x, e.epoch) ∷ []) h.served (λ y f z. one y f (told-of y f z)) (λ y f i. only y f i))
          where
            one : (y : AttemptId) (f : Epoch) → IsOf y f → Has (issue y f) (issue x e.epoch ∷ []) ⊎ Decided h y f
            one y f z =
                let is : z.entry ≡ e = cc (z.found, found) in
                let same : issue y f ≡ issue x e.epoch = ap (λ i. issue i f) z.attempt ∙ ap (issue x) (z.epoch ∙ ap (λ k. k.epoch) is) in inl (inl same)

            only : (y : AttemptId) (f : Epoch) → Has (issue y f) (issue x e.epoch ∷ []) → Tells told y (Some f) Committed
            only y f (inl same) = subst (λ i. Tells told i.0 (Some i.1) Committed) (sym same) tells
            only y f (inr j) = absurd j
