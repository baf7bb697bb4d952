-- The answers of a turn are of reads that nothing refused; those at no snapshot lie behind what was answered before.
use Rattle.std.specs.Prelude.{ℕ, ◌≡◌, ◌++◌, Bool, true, false, List, [], ◌∷◌, filter, slice_get, Option, Some, None, refl}
use Rattle.std.specs.List.{list_any}
use Rattle.std.proofs.Common.{sym, ◌∙◌, ap, subst, inl, inr}
use Rattle.base_types.specs.declared.answer.Answer.{Answer}
use Rattle.base_types.specs.declared.entry.Verdict.{Verdict}
use Rattle.base_types.specs.declared.entry.Verdict.TheVariants as fate
use Rattle.base_types.specs.declared.epoch.Epoch.{Epoch}
use Rattle.base_types.specs.declared.id.AttemptId.{AttemptId}
use Rattle.base_types.specs.Operations.{read_path}
use Rattle.base_messages.specs.declared.actor.ActorId.{ActorId}
use Rattle.base_messages.specs.declared.message.Message.{Message}
use Rattle.base_messages.specs.declared.message.Message.TheVariants as message
use Rattle.base_messages.specs.declared.message.Post.{Post}
use Rattle.base_messages.specs.declared.message.Reply.TheVariants as reply
use Rattle.daos_model.specs.declared.durable.Durable.{Durable}
use Rattle.daos_model.specs.declared.durable.Version.{Version}
use Rattle.daos_model.specs.Attempts.{tries}
use Rattle.daos_model.specs.BoolLaws.{clash}
use Rattle.daos_model.specs.Durables.{is_frozen, is_snap_at}
use Rattle.daos_model.specs.Opening.{Opening}
use Rattle.dtx_base.specs.declared.member.Parked.{Parked}
use Rattle.dtx_base.specs.Joining.{all_unresolved_told, is_waiting, unresolved, unresolved_told, verdict_heard}
use Rattle.model_laws.specs.Members.{Has, has-cases}
use Rattle.world_legal.specs.world_commit.attempts.Counting.{has-taken}
use Rattle.world_legal.specs.world_commit.attempts.History.{History, Served}
use Rattle.world_base.specs.declared.did.Did.{Did}
use Rattle.world_base.specs.declared.letter.Letter.{Letter}
use Rattle.world_base.specs.declared.request.FetchRequest.{FetchRequest}
use Rattle.world_base.specs.declared.target.Life.TheVariants.{Running}
use Rattle.world_base.specs.declared.target.TargetMemory.{TargetMemory}
use Rattle.world_base.specs.declared.target.TargetState.{TargetState}
use Rattle.world_base.specs.declared.world.World.{World}
use Rattle.world_base.specs.Changes.{Kept, Steps}
use Rattle.world_base.specs.Events.{Rules, TargetHearsRightly, kept, target_plan}
use Rattle.world_base.specs.Letters.{target}
use Rattle.world_base.specs.PathLaws.{reached-keeps}
use Rattle.world_base.specs.Reads as read
use Rattle.world_base.specs.Requests.{fetch_message, request_epoch}
use Rattle.world_base.specs.RightTurns.{HearsRightly}
use Rattle.world_base.specs.Roles.{is_in_doubt, joins_on, member_at}
use Rattle.world_base.specs.TargetTurns.{commit_request, fetch_request, prepare_request}
use Rattle.world_base.specs.Turns.{Whole}
use Rattle.world_base.specs.VerdictLaws.{Tries, verdict-keeps}
use Rattle.world_base.specs.Verdicts as verdict
use Rattle.world_legal.specs.world_standing.external.Kept.{IsServedBehind}
use Rattle.world_legal.specs.world_standing.external.Silent.{ack-silent, commit-silent, mark-silent, marked-silent, prepare-silent, query-silent}
use Rattle.world_legal.specs.world_standing.external.Behind.{FirstIsKnown}
use Rattle.world_legal.specs.world_causes.hearing.Going.{Before}
use Rattle.world_legal.specs.world_causes.hearing.PlainTurns.{knows}
use Rattle.world_upheld.specs.order.Serving.{served-lie-behind}
use Rattle.world_upheld.specs.order.Storing.{KnowsTold}
use Rattle.world_legal.specs.world_contents.reads.Adds.{Heard, IsAskedIn, NoneIs, Waited, is_answer, served_at}
use Rattle.world_legal.specs.world_contents.reads.Beginning.{TurnBegins}
use Rattle.world_legal.specs.world_contents.reads.EventLaws.{parked-right, right, told-so, turn-begins, verdict-right}
use Rattle.world_legal.specs.world_contents.reads.FetchLaws.{Mid, fetch-step}
use Rattle.world_legal.specs.world_contents.reads.Given.{IsParkedRight, IsReadEpoch}
use Rattle.world_legal.specs.world_contents.reads.Standing.{Knows}
use Rattle.world_legal.specs.world_contents.reads.VerdictLaws.{IsVerdictRight, VerdictMid, begins, goes, trying-mid}
use Rattle.world_legal.specs.world_contents.reads.VerdictLaws as verdicts
use Rattle.world_legal.specs.world_contents.reads.Versions.{VersionsStand}

module _ (r : Rules) (o : Opening) (held : List Version) (h : History) (w : World) (t : ℕ) (s : TargetState) (b : TurnBegins r o held h w t s) where
  -- An answer is that of a read which is asked here, at an epoch at which nothing refused it; and then the target froze what it froze before.
  pub record IsAnswerFree (heard : Message) (p : Post) : Type 0 where
    pub q : FetchRequest
    pub asked : IsAskedIn heard s.memory.member.parked (fetch_message q)
    pub epoch : Epoch
    pub answer : Answer
    pub says : p.message ≡ message.Fetched q.attempt q.op q.group (Some epoch) (reply.Answer answer)
    pub own : (f : Epoch) → q.ep ≡ Some f → f ≡ epoch
    pub durable : Durable
    pub stand : VersionsStand r o held h t durable
    pub snaps : durable.snaps ≡ s.durable.snaps
    pub free : read.fetch_cause (target_plan r t) q epoch durable ≡ None

  abbrev pub AnswersAreFree : Message → List Post → Type 0
  AnswersAreFree heard posts = (p : Post) → Has p posts → is_answer p.message ≡ true → IsAnswerFree heard p

  pub silent-free : (heard : Message) (posts : List Post) → NoneIs is_answer posts → AnswersAreFree heard posts
  silent-free heard posts silent p i is = clash (is_answer p.message) is (silent p i)

  one-unanswered : (heard : Message) (p : Post) → is_answer p.message ≡ false → AnswersAreFree heard (p ∷ [])
  one-unanswered heard p off z (inl same) is = clash (is_answer z.message) is (ap (λ y. is_answer y.message) same ∙ off)
  one-unanswered heard p off z (inr j) is = absurd j

  -- ---- a Fetch

  module _ (served : List Served) (n : TargetMemory) (reading : ℕ) (q : FetchRequest) (heard : Message) (asked : IsAskedIn heard s.memory.member.parked (fetch_message q)) where
    abbrev MidHere : read.FetchStage → Kept → Type 0
    MidHere g k = Mid r o held h served s.durable.snaps s.opening t n reading q g k

    ends-free : (from : ActorId) (g : read.FetchStage) (k : Kept) (left : TargetMemory × Did) → read.FetchEnds (target_plan r t) n reading q from g k left → MidHere g k
        → AnswersAreFree heard left.1.posts
    ends-free from g k left (read.IsSpent k' z off none is) p = subst (λ (y : TargetMemory × Did). AnswersAreFree heard y.1.posts) (sym is) (one-unanswered heard _ refl)
    ends-free from g k left (read.IsRefused k' e decided c z why is) p = subst (λ (y : TargetMemory × Did). AnswersAreFree heard y.1.posts) (sym is) (one-unanswered heard _ refl)
    ends-free from g k left (read.MeetsUnresolved k' e decided a z none at other own is) p = subst (λ (y : TargetMemory × Did). AnswersAreFree heard y.1.posts) (sym is)
        (one-unanswered heard _ refl)
    ends-free from g k left (read.IsParked k' e decided a leader z none at other is) p = subst (λ (y : TargetMemory × Did). AnswersAreFree heard y.1.posts) (sym is)
        (one-unanswered heard _ refl)
    ends-free from g k left (read.IsServed k' e decided answer z none at is) p = subst (λ (y : TargetMemory × Did). AnswersAreFree heard y.1.posts) (sym is) only
      where
        own : (f : Epoch) → q.ep ≡ Some f → f ≡ e
        own f has = let same : Some f ≡ Some e = sym (ap (λ ep. request_epoch (target_plan r t) n reading q.tracker ep) has) ∙ p.1 in cc

        only : AnswersAreFree heard (record { to = from; message = read.fetched_message q (Some e) (reply.Answer answer) } ∷ [])
        only y (inl same) told = record {
          q = q;
          asked = asked;
          epoch = e;
          answer = answer;
          says = ap (λ x. x.message) same;
          own = own;
          durable = k.durable;
          stand = p.0.0.stand;
          snaps = p.0.1;
          free = none;
        }
        only y (inr j) told = absurd j

  fetch-free : (reading : ℕ) (q : FetchRequest) (from : ActorId)
      → ((e : Epoch) → request_epoch (target_plan r t) s.memory reading q.tracker q.ep ≡ Some e → IsReadEpoch r o w s.durable q.attempt (read_path q.read).cont q.ep q.snapshot e)
      → (new : Kept) (left : TargetMemory × Did)
      → Whole (read.FetchNext (target_plan r t) s.memory reading q) (read.FetchEnds (target_plan r t) s.memory reading q from) read.Asked (kept s) new left
      → AnswersAreFree (fetch_message q) left.1.posts
  fetch-free reading q from epochs new left turn =
      ends-free h.served s.memory reading q (fetch_message q) (Heard refl) from turn.last new left turn.ends
      (reached-keeps (read.FetchNext (target_plan r t) s.memory reading q) (MidHere h.served s.memory reading q (fetch_message q) (Heard refl))
      (fetch-step r o held h h.served s.durable.snaps s.opening t s.memory reading q (λ e has. verdicts.read-at r o w s.durable q q.snapshot e (epochs e has)) b.known) read.Asked
      (kept s) turn.last new turn.reached (b.sound, refl))

  -- ---- a Verdict

  module _ (is_due : AttemptId → Durable → Bool) (reading : ℕ) (x : AttemptId) (ask : Option AttemptId) (v : Verdict) (heard : Message)
      (right : IsVerdictRight r o held h w t s b v x)
      (parked : (p : Parked) → Has p s.memory.member.parked → IsParkedRight r o w t s.durable p.ask) where
    -- what holds between two of the Fetches that are tried again
    record Trying (asks : List Message) (n : TargetMemory) (posts : List Post) (k : Kept) : Type 0 where
      mid : VerdictMid r o held h w t s b heard asks n posts k
      free : AnswersAreFree heard posts

    unresolved-silent : (ps : List Parked) → NoneIs is_answer (all_unresolved_told x ps)
    unresolved-silent [] p i = absurd i
    unresolved-silent (q ∷ qs) p i = elim (has-cases (unresolved_told x q.ask) (all_unresolved_told x qs) p i) [
      | inl j ↦ one q.ask j
      | inr j ↦ unresolved-silent qs p j
    ]
      where
        one : (m : Message) → Has p (unresolved_told x m) → is_answer p.message ≡ false
        one (message.Fetch y op group ep first tracker z snapshot) (inl same) = ap (λ a. is_answer a.message) same
        one (message.Fetch y op group ep first tracker z snapshot) (inr j) = absurd j
        one m j = absurd j

    freed-silent : (v : Verdict) (ask : Option AttemptId) → NoneIs is_answer (verdict_heard x ask v (member_at (target_plan r t) s.memory)).freed.posts
    unfolding unresolved
    freed-silent fate.Committed ask p i = absurd i
    freed-silent fate.Aborted ask p i = absurd i
    freed-silent fate.Undecided None p i = absurd i
    freed-silent fate.Undecided (Some y) p i = unresolved-silent (filter (is_waiting x y) s.memory.member.parked) p i

    begins-so : (k : Kept) → Steps (verdict.settling_change x (verdict.settles_by is_due v x s.durable)) (kept s) k
        → Trying (verdict_heard x ask v (member_at (target_plan r t) s.memory)).freed.again (joins_on (verdict_heard x ask v (member_at (target_plan r t) s.memory)).member s.memory)
        (verdict_heard x ask v (member_at (target_plan r t) s.memory)).freed.posts k
    begins-so k steps = record { mid = begins r o held h w t s b is_due reading x ask v heard right parked k steps; free = silent-free heard _ (freed-silent v ask) }

    goes-so : (q : FetchRequest) (rest : List Message) (n : TargetMemory) (posts : List Post) (k l : Kept) (left : TargetMemory × Did) → Trying (fetch_message q ∷ rest) n posts k
        → Tries (target_plan r t) reading n q k l left
        → Trying rest left.0 (posts ++ left.1.posts) l
    goes-so q rest n posts k l left mid tries = record {
      mid = goes r o held h w t s b is_due reading x ask v heard right parked q rest n posts k l left mid.mid tries;
      free = λ p i is. elim (has-cases posts left.1.posts p i) [ inl j ↦ mid.free p j is | inr j ↦ now p j is ];
    }
      where
        from : (p : Parked) × Has p s.memory.member.parked × (fetch_message q ≡ p.ask)
        from = mid.mid.waited (fetch_message q) (inl refl)

        now : AnswersAreFree heard left.1.posts
        now = ends-free (mid.mid.more ++ h.served) n reading q heard (Waited from.0 from.1 from.2) (verdict.fetcher q) tries.last l left tries.ends
            (trying-mid r o held h w t s b is_due reading x ask v heard right parked q rest n posts k tries.last l mid.mid tries.reached)

    verdict-free : (new : Kept) (left : TargetMemory × Did) → Whole (verdict.VerdictNext is_due (target_plan r t) s.memory reading x ask v) verdict.VerdictEnds verdict.Heard
        (kept s) new left → AnswersAreFree heard left.1.posts
    verdict-free new left turn = (verdict-keeps is_due (target_plan r t) s.memory reading x ask v (kept s) Trying begins-so goes-so new left turn).0.free

-- ---- the whole turn

module _ (r : Rules) (o : Opening) (held : ℕ → List Version) (h : History) (w : World) (B : Before r o held h w) (t : ℕ) (s : TargetState) (here : slice_get w.targets t ≡ Some s)
    (runs : s.life ≡ Running) where
  abbrev facts : Knows r o held h w
  facts = knows r o held h w w B

  abbrev pub turn_begins : TurnBegins r o (held t) h w t s
  turn_begins = turn-begins r o held h w facts t s here runs

  module _ (reading : ℕ) (l : Letter) (among : Has l w.messages) (to_it : l.to ≡ target t) where
    abbrev Free : Message → TargetMemory × Did → Type 0
    Free m left = AnswersAreFree r o (held t) h w t s turn_begins m left.1.posts

    quiet : (m : Message) (left : TargetMemory × Did) → NoneIs is_answer left.1.posts → Free m left
    quiet m left silent = silent-free r o (held t) h w t s turn_begins m left.1.posts silent

    pub hears-free : (m : Message) → l.message ≡ m → (new : Kept) (left : TargetMemory × Did)
        → HearsRightly (target_plan r t) s.opening s.memory reading l.from m (kept s) new left → Free m left
    hears-free (message.Fetch x op group ep first tracker q snapshot) is new left turn =
        let ok = right r o held h w facts t s here runs reading l among to_it (message.Fetch x op group ep first tracker q snapshot) is in
        fetch-free r o (held t) h w t s turn_begins reading (fetch_request x op group ep first tracker q snapshot) l.from (ok.1 reading) new left turn
    hears-free (message.Verdict x ask inc v) is new left turn =
        verdict-free r o (held t) h w t s turn_begins (is_in_doubt t) reading x ask v (message.Verdict x ask inc v)
        (verdict-right r o held h w facts t s here runs reading l among to_it x v (told-so r o held h w facts t s here runs reading l among to_it (message.Verdict x ask inc v) is))
        (parked-right r o held h w facts t s here runs reading l among to_it) new left turn
    hears-free (message.Commit x ep first tracker ws) is new left turn = quiet _ left
        (commit-silent (target_plan r t) s.opening s.memory reading (commit_request x ep first tracker ws) l.from turn.last new left turn.ends)
    hears-free (message.Prepare e first ws inc) is new left turn = quiet _ left
        (prepare-silent (target_plan r t) s.opening s.memory (prepare_request e first ws inc) turn.last new left turn.ends)
    hears-free (message.Ack x inc refusal) is new left turn = quiet _ left (ack-silent (target_plan r t) s.memory l.from.number x inc refusal (kept s) new left turn)
    hears-free (message.Mark inc marks) is new left turn = quiet _ left (mark-silent s.memory l.from inc marks turn.last new left turn.ends)
    hears-free (message.Marked inc ids) is new left turn = quiet _ left (marked-silent (target_plan r t) s.memory l.from.number inc ids turn.last new left turn.ends)
    hears-free (message.Query x ask) is new left turn = quiet _ left (query-silent (target_plan r t) s.memory l.from x ask turn.last new left turn.ends)
    hears-free m is new left turn = absurd turn

-- ---- the statement

-- An answer is that of a read which is asked here. One at no snapshot, at an epoch at which none is frozen here, lies behind what was answered
-- before, where the first epoch that goes with it is its command's.
pub record IsAnswerBehind (r : Rules) (w : World) (t : ℕ) (s : TargetState) (heard : Message) (p : Post) : Type 0 where
  pub q : FetchRequest
  pub asked : IsAskedIn heard s.memory.member.parked (fetch_message q)
  pub epoch : Epoch
  pub answer : Answer
  pub says : p.message ≡ message.Fetched q.attempt q.op q.group (Some epoch) (reply.Answer answer)
  pub own : (f : Epoch) → q.ep ≡ Some f → f ≡ epoch
  pub behind : q.snapshot ≡ false → is_frozen s.durable (read_path q.read).cont epoch ≡ false → FirstIsKnown w.issued q.attempt q.first
      → IsServedBehind r (tries w.lines) w.issued (served_at t q epoch answer)

abbrev pub AnswersLieBehind : Type 0
AnswersLieBehind =
    (r : Rules) (o : Opening) (held : ℕ → List Version) (h : History) (w v : World) → Before r o held h w → KnowsTold r h (tries w.lines) → (g : TargetHearsRightly r w v)
    → (p : Post) → Has p g.did.posts
    → is_answer p.message ≡ true
    → IsAnswerBehind r w g.t g.s g.l.message p

pub answers-lie-behind : AnswersLieBehind
unfolding is_frozen
answers-lie-behind r o held h w v B a g p i is = record {
  q = z.q;
  asked = z.asked;
  epoch = z.epoch;
  answer = z.answer;
  says = z.says;
  own = z.own;
  behind = λ plain unfrozen known.
      served-lie-behind r o (held g.t) h g.t z.durable z.stand (tries w.lines) w.issued a (λ x e d. b.above x e (b.decided x e d)) z.q z.epoch z.answer plain z.free
      (ap (list_any (is_snap_at (read_path z.q.read).cont z.epoch)) z.snaps ∙ unfrozen) known;
}
  where
    b : TurnBegins r o (held g.t) h w g.t g.s
    b = turn_begins r o held h w B g.t g.s g.here g.runs

    z : IsAnswerFree r o (held g.t) h w g.t g.s b g.l.message p
    z = hears-free r o held h w B g.t g.s g.here g.runs g.reading g.l (has-taken w.messages g.l g.rest g.takes) g.to_it g.l.message refl g.new (g.memory, g.did) g.turn p i is
