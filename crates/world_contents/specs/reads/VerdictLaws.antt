-- A turn in which a target answers Fetches leaves what it keeps and serves sound: the one that it hears, or, where it hears a Verdict,
-- those that waited for it.
use Rattle.std.specs.Prelude.{ℕ, ◌≡◌, ◌⊎◌, ◌++◌, Bool, true, false, List, [], ◌∷◌, filter, Contains, Option, Some, None, refl}
use Rattle.std.proofs.Common.{sym, ◌∙◌, ap, subst, inl, inr}
use Rattle.std.proofs.lemmas.List.{append_assoc}
use Rattle.std.proofs.lemmas.List.Elements.{Contains-append_left, Contains-push}
use Rattle.base_types.specs.declared.answer.Answer.{Answer}
use Rattle.base_types.specs.declared.entry.Verdict.{Verdict}
use Rattle.base_types.specs.declared.entry.Verdict.TheVariants as fate
use Rattle.base_types.specs.declared.epoch.Epoch.{Epoch}
use Rattle.base_types.specs.declared.id.AttemptId.{AttemptId}
use Rattle.base_types.specs.declared.outcome.Outcome.{Outcome}
use Rattle.model_laws.specs.Members.{Has, has-cases, has-from_filter, has-from_map, has-left, has-right}
use Rattle.base_messages.specs.declared.actor.ActorId.{ActorId}
use Rattle.base_messages.specs.declared.message.Message.{Message}
use Rattle.base_messages.specs.declared.message.Message.TheVariants as message
use Rattle.base_messages.specs.declared.message.Post.{Post}
use Rattle.base_messages.specs.declared.message.Reply.TheVariants as reply
use Rattle.daos_model.specs.declared.durable.Version.{Version}
use Rattle.daos_model.specs.Forms.{is_read_in_form}
use Rattle.daos_model.specs.Opening.{Opening}
use Rattle.world_commit.specs.dtx_base.declared.member.Parked.{Parked}
use Rattle.world_commit.specs.dtx_base.Joining.{all_unresolved_told, is_parked_on, is_waiting, parked_ask, unresolved, unresolved_told, verdict_heard}
use Rattle.world_commit.specs.attempts.History.{History, Served}
use Rattle.world_commit.specs.world_base.declared.did.Did.{Did}
use Rattle.world_commit.specs.world_base.declared.request.FetchRequest.{FetchRequest}
use Rattle.world_commit.specs.world_base.declared.target.TargetMemory.{TargetMemory}
use Rattle.world_commit.specs.world_base.declared.target.TargetState.{TargetState}
use Rattle.world_commit.specs.world_base.declared.world.World.{World}
use Rattle.world_commit.specs.world_base.Events.{Rules, kept, listed, target_plan}
use Rattle.world_contents.specs.reads.Adds.{AreAnswered, Heard, IsAnswered, IsAskedIn, NoneIs, Waited, is_answer, is_end, none-answered, served_at}
use Rattle.world_contents.specs.reads.Beginning.{TurnBegins}
use Rattle.world_contents.specs.reads.ChangeLaws.{WasDecided}
use Rattle.world_contents.specs.reads.FetchLaws.{AreKnown, FetchLeaves, IsServedTo, IsTold, fetch-leaves, IsFetchAt, Mid, fetch-step}
use Rattle.world_contents.specs.reads.Given.{IsFetchRight, IsParkedRight, IsWaitingRight, IsReadEpoch}
use Rattle.world_contents.specs.reads.Growing.{NoneMore}
use Rattle.world_contents.specs.reads.GrowLaws.{none-committed}
use Rattle.world_contents.specs.reads.Midway.{IsServedRight, Sound, TurnLeaves}
use Rattle.world_contents.specs.reads.Reads.{IsOfAttempt}
use Rattle.world_contents.specs.reads.StepLaws.{aborts-sound, commits-sound}
use Rattle.world_commit.specs.world_base.Changes.{Kept, Steps, Settles}
use Rattle.world_commit.specs.world_base.Reads as read
use Rattle.world_commit.specs.world_base.Requests.{fetch_message, issued_for, request_epoch}
use Rattle.world_commit.specs.world_base.Roles.{joins_on, member_at}
use Rattle.world_commit.specs.world_base.Turns.{Whole, Reached}
use Rattle.world_commit.specs.world_base.VerdictLaws.{Tries, verdict-keeps}
use Rattle.world_commit.specs.world_base.Verdicts as verdict
use Rattle.base_types.specs.Operations.{read_path}
use Rattle.base_types.specs.declared.entry.Settle.TheVariants.{Abort, Commit}
use Rattle.base_types.specs.declared.snapshot.Snap.{Snap}
use Rattle.daos_model.specs.declared.durable.Durable.{Durable}
use Rattle.daos_model.specs.Durables.{is_frozen}
use Rattle.world_commit.specs.world_base.ChangeLaws.{snaps-made}
use Rattle.world_commit.specs.world_base.PathLaws.{reached-keeps}
use Rattle.world_commit.specs.world_letters.clients.Snapshots.{is_at_snapshot}

-- ---- what is answered

-- an answer that a Fetch's turn sends, to a Fetch that may be answered
told-answered : (more : List Served) (t : ℕ) (heard : Message) (parked : List Parked) (q : FetchRequest) (p : Post) (x : AttemptId) (op group : ℕ) (own : Option Epoch) (b : Answer)
    → IsAskedIn heard parked (fetch_message q) → IsTold t q more p → p.message ≡ message.Fetched x op group own (reply.Answer b) → IsAnswered more t heard parked x op group own b
told-answered more t heard parked q p x op group own b asked told says = by (sym told.says ∙ says)
  where
    by : message.Fetched q.attempt q.op q.group (Some told.epoch) (reply.Answer told.answer) ≡ message.Fetched x op group own (reply.Answer b) → IsAnswered more t heard parked x op group own b
    by same =
        let h1 : x ≡ q.attempt = cc in
        let h2 : op ≡ q.op = cc in
        let h3 : group ≡ q.group = cc in
        let h4 : own ≡ Some told.epoch = cc in
        let h5 : told.answer ≡ b = cc in
        record { q = q; asked = asked; attempt = h1; of_op = h2; of_group = h3; epoch = told.epoch; told = h4; own = told.own; among = subst (λ c. Has (served_at t q told.epoch c) more) h5 told.among }

answered-more : (served more : List Served) (t : ℕ) (heard : Message) (parked : List Parked) (x : AttemptId) (op group : ℕ) (own : Option Epoch) (b : Answer) → ((z : Served) → Has z served → Has z more)
    → IsAnswered served t heard parked x op group own b → IsAnswered more t heard parked x op group own b
answered-more served more t heard parked x op group own b grew a = record {
  q = a.q;
  asked = a.asked;
  attempt = a.attempt;
  of_op = a.of_op;
  of_group = a.of_group;
  epoch = a.epoch;
  told = a.told;
  own = a.own;
  among = grew (served_at t a.q a.epoch b) a.among;
}

-- all that a Fetch's turn sends
leaves-answered : (r : Rules) (o : Opening) (held : List Version) (h : History) (served : List Served) (snaps : List Snap) (s : TargetState) (t : ℕ) (m : TargetMemory) (reading : ℕ) (q : FetchRequest) (new : Kept) (left : TargetMemory × Did) (heard : Message) (parked : List Parked)
    → IsAskedIn heard parked (fetch_message q) → (f : FetchLeaves r o held h served snaps s.opening t m reading q new left) → AreAnswered (f.more ++ served) t heard parked left.1.posts
leaves-answered r o held h served snaps s t m reading q new left heard parked asked f p x op group own b i says =
    answered-more f.more (f.more ++ served) t heard parked x op group own b (λ z j. has-left f.more served z j)
    (told-answered f.more t heard parked q p x op group own b asked (f.told p i (ap is_answer says)) says)

-- the epoch of a read is one at which it may be answered
pub read-at : (r : Rules) (o : Opening) (w : World) (d : Durable) (q : FetchRequest) (snapshot : Bool) (e : Epoch) → IsReadEpoch r o w d q.attempt (read_path q.read).cont q.ep snapshot e → IsFetchAt r o d.snaps q snapshot e
unfolding is_frozen
read-at r o w d q true e its = its
read-at r o w d q false e its = its.above

-- what it serves is right, where its epoch was issued, or is a snapshot's
served-right : (r : Rules) (o : Opening) (h : History) (t : ℕ) (m : TargetMemory) (reading : ℕ) (q : FetchRequest) (did : Did) (z : Served) (issued : List (AttemptId × Epoch)) → IsFetchRight r t q.attempt q.op q.group q.read q.snapshot
    → (k : IsServedTo r o h t m reading q did z) → (q.snapshot ≡ false → Contains issued (q.attempt, k.epoch)) → IsServedRight r o h t issued z
served-right r o h t m reading q did z issued asks k its = record {
  here = ap (λ y. y.target) k.same;
  asked = subst (IsOfAttempt r) (sym k.same) (asks.asked k.epoch k.answer);
  form = ap (λ y. is_read_in_form y.read) k.same ∙ asks.form;
  right = k.right;
  its = λ off. subst (λ y. Contains issued (y.by, y.epoch)) (sym k.same) (its (asks.at ∙ sym (ap (λ y. is_at_snapshot r y.by) k.same) ∙ off));
}

module _ (r : Rules) (o : Opening) (held : List Version) (h : History) (w : World) (t : ℕ) (s : TargetState) (b : TurnBegins r o held h w t s) where
  -- ---- a Fetch

  pub fetch-sound : (reading : ℕ) (q : FetchRequest) (from : ActorId) → IsFetchRight r t q.attempt q.op q.group q.read q.snapshot
      → ((e : Epoch) → request_epoch (target_plan r t) s.memory reading q.tracker q.ep ≡ Some e → IsReadEpoch r o w s.durable q.attempt (read_path q.read).cont q.ep q.snapshot e) → (new : Kept) (left : TargetMemory × Did)
      → Whole (read.FetchNext (target_plan r t) s.memory reading q) (read.FetchEnds (target_plan r t) s.memory reading q from) read.Asked (kept s) new left
      → TurnLeaves r o held h w s.opening t (fetch_message q) s.memory.member.parked new left
  fetch-sound reading q from asks epochs new left turn = record {
    more = f.more;
    right = λ z i. let k = f.each z i in served-right r o h t s.memory reading q left.1 z (w.issued ++ listed left.1.issued) asks k (λ off. issued off k.epoch k.its k.issued);
    sound = f.sound;
    answered = leaves-answered r o held h h.served s.durable.snaps s t s.memory reading q new left (fetch_message q) s.memory.member.parked (Heard refl) f;
    told = [];
    decides = NoneMore (none-committed left.1.posts f.endless);
  }
    where
      f : FetchLeaves r o held h h.served s.durable.snaps s.opening t s.memory reading q new left
      f = fetch-leaves r o held h h.served s.durable.snaps s.opening t s.memory reading q asks b.apart (λ e has. read-at r o w s.durable q q.snapshot e (epochs e has)) b.known from (kept s) new left refl turn b.sound

      issued : q.snapshot ≡ false → (e : Epoch) → request_epoch (target_plan r t) s.memory reading q.tracker q.ep ≡ Some e → left.1.issued ≡ issued_for q.attempt q.ep e → Contains (w.issued ++ listed left.1.issued) (q.attempt, e)
      issued off e has is = subst (λ i. Contains (w.issued ++ listed i) (q.attempt, e)) (sym is) (by q.ep refl)
        where
          by : (ep : Option Epoch) → q.ep ≡ ep → Contains (w.issued ++ listed (issued_for q.attempt ep e)) (q.attempt, e)
          by None same = Contains-push w.issued (q.attempt, e)
          by (Some g) same =
              let one : Some g ≡ Some e = sym (ap (λ ep. request_epoch (target_plan r t) s.memory reading q.tracker ep) same) ∙ has in
              Contains-append_left w.issued [] (q.attempt, e) ((subst (λ c. IsReadEpoch r o w s.durable q.attempt (read_path q.read).cont q.ep c e) off (epochs e has)).own e (same ∙ one))

  -- ---- a Verdict

  abbrev pub IsVerdictRight : Verdict → AttemptId → Type 0
  IsVerdictRight fate.Committed x = WasDecided h x
  IsVerdictRight fate.Aborted x = WasDecided h x → ⊥
  IsVerdictRight fate.Undecided x = Unit {0}

  -- what holds between two of the Fetches that are tried again
  pub record VerdictMid (heard : Message) (asks : List Message) (n : TargetMemory) (posts : List Post) (k : Kept) : Type 0 where
    pub more : List Served
    pub right : (z : Served) → Has z more → IsServedRight r o h t w.issued z
    pub sound : Sound r o held h (more ++ h.served) s.opening t k.durable n.stamps
    pub same_snaps : k.durable.snaps ≡ s.durable.snaps
    pub known : AreKnown h n.leader.decided
    pub waited : (a : Message) → Has a asks → (p : Parked) × Has p s.memory.member.parked × (a ≡ p.ask)
    pub answered : AreAnswered (more ++ h.served) t heard s.memory.member.parked posts
    pub endless : NoneIs is_end posts

  module _ (is_due : AttemptId → Durable → Bool) (reading : ℕ) (x : AttemptId) (ask : Option AttemptId) (v : Verdict) (heard : Message) (right : IsVerdictRight v x)
      (parked : (p : Parked) → Has p s.memory.member.parked → IsParkedRight r o w t s.durable p.ask) where
    -- the attempt is settled
    settles : (k : Kept) → Steps (verdict.settling_change x (verdict.settles_by is_due v x s.durable)) (kept s) k → Sound r o held h h.served s.opening t k.durable s.memory.stamps
    settles k steps = by v right (is_due x s.durable) steps
      where
        by : (v : Verdict) → IsVerdictRight v x → (there : Bool) → Steps (verdict.settling_change x (verdict.step_if there (verdict.step_by v))) (kept s) k → Sound r o held h h.served s.opening t k.durable s.memory.stamps
        by fate.Committed ok true st = subst (λ d. Sound r o held h h.served s.opening t d s.memory.stamps) (sym st.0) (commits-sound r o held h h.served s.opening t s.memory.stamps s.durable x ok b.sound)
        by fate.Aborted ok true st = subst (λ d. Sound r o held h h.served s.opening t d s.memory.stamps) (sym st.0) (aborts-sound r o held h h.served s.opening t s.memory.stamps s.durable x ok b.sound)
        by fate.Undecided ok true st = subst (λ n. Sound r o held h h.served s.opening t n.durable s.memory.stamps) (sym st) b.sound
        by v ok false st = subst (λ n. Sound r o held h h.served s.opening t n.durable s.memory.stamps) (sym st) b.sound

    -- which touches no snapshot
    settled-snaps : (k : Kept) → Steps (verdict.settling_change x (verdict.settles_by is_due v x s.durable)) (kept s) k → k.durable.snaps ≡ s.durable.snaps
    settled-snaps k steps = by v (is_due x s.durable) steps
      where
        by : (v : Verdict) (there : Bool) → Steps (verdict.settling_change x (verdict.step_if there (verdict.step_by v))) (kept s) k → k.durable.snaps ≡ s.durable.snaps
        by fate.Committed true st = ap (λ d. d.snaps) st.0 ∙ snaps-made (Settles x Commit) s.durable refl
        by fate.Aborted true st = ap (λ d. d.snaps) st.0 ∙ snaps-made (Settles x Abort) s.durable refl
        by fate.Undecided true st = ap (λ n. n.durable.snaps) st
        by v false st = ap (λ n. n.durable.snaps) st

    -- those that are told that it isn't resolved
    unresolved-plain : (test : Message → Bool) → ((y : AttemptId) (op group : ℕ) (ep : Option Epoch) (how : Outcome) → test (message.Fetched y op group ep (reply.Outcome how)) ≡ false) → (ps : List Parked) → NoneIs test (all_unresolved_told x ps)
    unresolved-plain test off [] p i = absurd i
    unresolved-plain test off (q ∷ qs) p i = elim (has-cases (unresolved_told x q.ask) (all_unresolved_told x qs) p i) [
      | inl j ↦ one q.ask j
      | inr j ↦ unresolved-plain test off qs p j
    ]
      where
        one : (m : Message) → Has p (unresolved_told x m) → test p.message ≡ false
        one (message.Fetch y op group ep first tracker z snapshot) (inl same) = ap (λ a. test a.message) same ∙ off y op group ep _
        one (message.Fetch y op group ep first tracker z snapshot) (inr j) = absurd j
        one m j = absurd j

    freed : (v : Verdict) (ask : Option AttemptId) (a : Message) → Has a (verdict_heard x ask v (member_at (target_plan r t) s.memory)).freed.again → (p : Parked) × Has p s.memory.member.parked × (a ≡ p.ask)
    unfolding unresolved
    freed fate.Committed ask a i = let z = has-from_map parked_ask (filter (is_parked_on x) s.memory.member.parked) a i in (z.0, (has-from_filter (is_parked_on x) s.memory.member.parked z.0 z.1).0, sym z.2)
    freed fate.Aborted ask a i = let z = has-from_map parked_ask (filter (is_parked_on x) s.memory.member.parked) a i in (z.0, (has-from_filter (is_parked_on x) s.memory.member.parked z.0 z.1).0, sym z.2)
    freed fate.Undecided None a i = absurd i
    freed fate.Undecided (Some y) a i = absurd i

    plain : (test : Message → Bool) → ((y : AttemptId) (op group : ℕ) (ep : Option Epoch) (how : Outcome) → test (message.Fetched y op group ep (reply.Outcome how)) ≡ false) → (v : Verdict) (ask : Option AttemptId)
        → NoneIs test (verdict_heard x ask v (member_at (target_plan r t) s.memory)).freed.posts
    unfolding unresolved
    plain test off fate.Committed ask p i = absurd i
    plain test off fate.Aborted ask p i = absurd i
    plain test off fate.Undecided None p i = absurd i
    plain test off fate.Undecided (Some y) p i = unresolved-plain test off (filter (is_waiting x y) s.memory.member.parked) p i

    pub begins : (k : Kept) → Steps (verdict.settling_change x (verdict.settles_by is_due v x s.durable)) (kept s) k
        → VerdictMid heard (verdict_heard x ask v (member_at (target_plan r t) s.memory)).freed.again (joins_on (verdict_heard x ask v (member_at (target_plan r t) s.memory)).member s.memory)
        (verdict_heard x ask v (member_at (target_plan r t) s.memory)).freed.posts k
    begins k steps = record {
      more = [];
      right = λ z i. absurd i;
      sound = settles k steps;
      same_snaps = settled-snaps k steps;
      known = b.known;
      waited = freed v ask;
      answered = none-answered h.served t heard s.memory.member.parked _ (plain is_answer (λ y op group ep how. refl) v ask);
      endless = plain is_end (λ y op group ep how. refl) v ask;
    }

    -- a Fetch that is tried again is right, and so is its epoch
    tried : (q : FetchRequest) (rest : List Message) (n : TargetMemory) (posts : List Post) (k : Kept) → VerdictMid heard (fetch_message q ∷ rest) n posts k → IsWaitingRight r o w t s.durable q.attempt q.op q.group q.ep q.read q.snapshot
    tried q rest n posts k mid = let from = mid.waited (fetch_message q) (inl refl) in subst (IsParkedRight r o w t s.durable) (sym from.2) (parked from.0 from.1)

    tried-epoch : (q : FetchRequest) (n : TargetMemory) → IsWaitingRight r o w t s.durable q.attempt q.op q.group q.ep q.read q.snapshot
        → (e : Epoch) → request_epoch (target_plan r t) n reading q.tracker q.ep ≡ Some e → IsReadEpoch r o w s.durable q.attempt (read_path q.read).cont q.ep q.snapshot e
    tried-epoch q n ok e has =
        let same : Some ok.epoch ≡ Some e = sym (ap (λ ep. request_epoch (target_plan r t) n reading q.tracker ep) ok.has) ∙ has in
        let one : ok.epoch ≡ e = cc in
        subst (IsReadEpoch r o w s.durable q.attempt (read_path q.read).cont q.ep q.snapshot) one ok.its

    -- in the middle of it
    pub trying-mid : (q : FetchRequest) (rest : List Message) (n : TargetMemory) (posts : List Post) (j : Kept) (g : read.FetchStage) (k : Kept) → (mid : VerdictMid heard (fetch_message q ∷ rest) n posts j)
        → Reached (read.FetchNext (target_plan r t) n reading q) read.Asked j g k → Mid r o held h (mid.more ++ h.served) s.durable.snaps s.opening t n reading q g k
    trying-mid q rest n posts j g k mid reached =
        let ok = tried q rest n posts j mid in
        reached-keeps (read.FetchNext (target_plan r t) n reading q) (Mid r o held h (mid.more ++ h.served) s.durable.snaps s.opening t n reading q)
        (fetch-step r o held h (mid.more ++ h.served) s.durable.snaps s.opening t n reading q (λ e has. read-at r o w s.durable q q.snapshot e (tried-epoch q n ok e has)) mid.known)
        read.Asked j g k reached (mid.sound, mid.same_snaps)

    pub goes : (q : FetchRequest) (rest : List Message) (n : TargetMemory) (posts : List Post) (k l : Kept) (left : TargetMemory × Did) → VerdictMid heard (fetch_message q ∷ rest) n posts k → Tries (target_plan r t) reading n q k l left
        → VerdictMid heard rest left.0 (posts ++ left.1.posts) l
    goes q rest n posts k l left mid tries = record {
      more = f.more ++ mid.more;
      right = λ z i. right-of z (has-cases f.more mid.more z i);
      sound = subst (λ zs. Sound r o held h zs s.opening t l.durable left.0.stamps) (sym (append_assoc f.more mid.more h.served)) f.sound;
      same_snaps = f.same_snaps;
      known = f.known;
      waited = λ a i. mid.waited a (inr i);
      answered = answered;
      endless = λ p i. elim (has-cases posts left.1.posts p i) [ inl j ↦ mid.endless p j | inr j ↦ f.endless p j ];
    }
      where
        from : (p : Parked) × Has p s.memory.member.parked × (fetch_message q ≡ p.ask)
        from = mid.waited (fetch_message q) (inl refl)

        ok : IsWaitingRight r o w t s.durable q.attempt q.op q.group q.ep q.read q.snapshot
        ok = tried q rest n posts k mid

        its : (e : Epoch) → request_epoch (target_plan r t) n reading q.tracker q.ep ≡ Some e → IsReadEpoch r o w s.durable q.attempt (read_path q.read).cont q.ep q.snapshot e
        its = tried-epoch q n ok

        f : FetchLeaves r o held h (mid.more ++ h.served) s.durable.snaps s.opening t n reading q l left
        f = fetch-leaves r o held h (mid.more ++ h.served) s.durable.snaps s.opening t n reading q ok.right b.apart (λ e has. read-at r o w s.durable q q.snapshot e (its e has)) mid.known (verdict.fetcher q) k l left mid.same_snaps tries mid.sound

        epoch : (e : Epoch) → request_epoch (target_plan r t) n reading q.tracker q.ep ≡ Some e → q.ep ≡ Some e
        epoch e has = ok.has ∙ sym (ap (λ ep. request_epoch (target_plan r t) n reading q.tracker ep) ok.has) ∙ has

        right-of : (z : Served) → Has z f.more ⊎ Has z mid.more → IsServedRight r o h t w.issued z
        right-of z (inl i) = let k = f.each z i in served-right r o h t n reading q left.1 z w.issued ok.right k (λ off. (subst (λ c. IsReadEpoch r o w s.durable q.attempt (read_path q.read).cont q.ep c k.epoch) off (its k.epoch k.its)).own k.epoch (epoch k.epoch k.its))
        right-of z (inr i) = mid.right z i

        answered : AreAnswered ((f.more ++ mid.more) ++ h.served) t heard s.memory.member.parked (posts ++ left.1.posts)
        answered p y op group own c i says =
            subst (λ zs. IsAnswered zs t heard s.memory.member.parked y op group own c) (sym (append_assoc f.more mid.more h.served)) (elim (has-cases posts left.1.posts p i) [
              | inl j ↦ answered-more (mid.more ++ h.served) (f.more ++ (mid.more ++ h.served)) t heard s.memory.member.parked y op group own c (λ z a. has-right f.more (mid.more ++ h.served) z a) (mid.answered p y op group own c j says)
              | inr j ↦ leaves-answered r o held h (mid.more ++ h.served) s.durable.snaps s t n reading q l left heard s.memory.member.parked (Waited from.0 from.1 from.2) f p y op group own c j says
            ])

    -- the whole turn
    pub verdict-sound : (new : Kept) (left : TargetMemory × Did) → Whole (verdict.VerdictNext is_due (target_plan r t) s.memory reading x ask v) verdict.VerdictEnds verdict.Heard (kept s) new left
        → TurnLeaves r o held h w s.opening t heard s.memory.member.parked new left
    verdict-sound new left turn = record {
      more = mid.more;
      right = λ z i. let k = mid.right z i in record { here = k.here; asked = k.asked; form = k.form; right = k.right; its = λ off. Contains-append_left w.issued (listed left.1.issued) (z.by, z.epoch) (k.its off) };
      sound = mid.sound;
      answered = mid.answered;
      told = [];
      decides = NoneMore (none-committed left.1.posts mid.endless);
    }
      where
        mid : VerdictMid heard [] left.0 left.1.posts new
        mid = (verdict-keeps is_due (target_plan r t) s.memory reading x ask v (kept s) (VerdictMid heard) begins goes new left turn).0
