-- Whatever becomes of a target keeps the order of real time, of the reads that are served besides.
use Rattle.std.specs.Prelude.{ℕ, ◌≡◌, ◌++◌, Bool, true, false, List, [], ◌∷◌, slice_get, Contains, Option, Some, refl}
use Rattle.std.proofs.Common.{sym, ◌∙◌, ap, subst, inl, inr}
use Rattle.base_types.specs.declared.epoch.Epoch.{Epoch}
use Rattle.base_types.specs.declared.id.AttemptId.{AttemptId}
use Rattle.base_types.specs.declared.operation.MinorWrite.{MinorWrite}
use Rattle.base_types.specs.Operations.{read_path}
use Rattle.base_messages.specs.declared.message.Message.{Message, more_of-Message}
use Rattle.base_messages.specs.declared.message.Message.TheVariants as message
use Rattle.base_messages.specs.declared.message.Post.{Post}
use Rattle.base_messages.specs.declared.message.Reply.TheVariants as reply
use Rattle.daos_model.specs.declared.durable.Version.{Version}
use Rattle.daos_model.specs.Attempts.{tries}
use Rattle.daos_model.specs.BoolLaws.{clash}
use Rattle.daos_model.specs.Opening.{Opening, top}
use Rattle.model_laws.specs.Members.{Has, contains-from_has, has-cases, has-left}
use Rattle.world_legal.specs.world_commit.attempts.Counting.{has-taken}
use Rattle.world_legal.specs.world_commit.attempts.History.{History, Served}
use Rattle.world_base.specs.declared.did.Did.{Did}
use Rattle.world_base.specs.declared.letter.Letter.{Letter}
use Rattle.world_base.specs.declared.target.TargetMemory.{TargetMemory}
use Rattle.world_base.specs.declared.target.TargetState.{TargetState}
use Rattle.world_base.specs.declared.world.World.{World}
use Rattle.world_base.specs.Changes.{Kept}
use Rattle.world_base.specs.Commits as commit
use Rattle.world_base.specs.Events.{ByClient, ByTarget, Rules, TargetHears, TargetHearsRightly, ToClient, ToTarget, kept, target_plan, rightly}
use Rattle.world_base.specs.Further.{CommitDown, HearsFurther, IsSpent, IsUnknown}
use Rattle.world_base.specs.Requests.{fetch_message}
use Rattle.world_base.specs.Statuses.{status_refusal}
use Rattle.world_base.specs.Stops.{Draws, Fails, Further, GivenUp, Happening, IsCut, Opens, Plainly, swept}
use Rattle.world_base.specs.TargetTurns.{commit_request}
use Rattle.world_letters.specs.clients.Snapshots.{is_at_snapshot}
use Rattle.world_letters.specs.epochs.Epochs.{Epochs, IsReadOf}
use Rattle.world_legal.specs.world_standing.external.Kept.{AreInOrder, IsServedBehind, IsStoredBehind, served-on, stored-on}
use Rattle.world_legal.specs.world_standing.external.Silent.{ack-silent, one-silent}
use Rattle.world_legal.specs.world_commit.fates.Rightly.{letters-tell}
use Rattle.world_owners.specs.world_making.fates.Sends.{making-sent, making-silent}
use Rattle.world_legal.specs.world_causes.hearing.Going.{AnswersAreServed, Before}
use Rattle.world_legal.specs.world_causes.hearing.Listening.{listens}
use Rattle.world_owners.specs.world_making.making.Kinds.{of-attempts}
use Rattle.world_owners.specs.world_making.making.Making.{tells_of_snapshots}
use Rattle.world_owners.specs.world_making.making.Turns.{hearings-leave}
use Rattle.world_upheld.specs.order.Answers.{IsAnswerBehind, answers-lie-behind}
use Rattle.world_upheld.specs.order.Known.{BearsOfReader, ReadersBearFirsts, WritersBearFirsts}
use Rattle.world_upheld.specs.order.Serving.{FrozenAreMade, others-are-unfrozen}
use Rattle.world_upheld.specs.order.Stored.{StoredLieBehind, happenings-store-behind}
use Rattle.world_upheld.specs.order.Storing.{KnowsTold}
use Rattle.world_legal.specs.world_causes.outcomes.Keeping.{IsOfTarget}
use Rattle.world_legal.specs.world_contents.reads.Adds.{AreAnswered, Heard, IsAnswered, IsAskedIn, NoneIs, Waited, is_answer, none-answered, served_at}
use Rattle.world_legal.specs.world_contents.reads.Given.{IsFetchRight, IsMessageRight, IsParkedRight}
use Rattle.world_legal.specs.world_contents.reads.Reads.{IsOfAttempt}
use Rattle.world_legal.specs.world_commit.statuses.Heard.{is_of_attempts}
use Rattle.world_legal.specs.world_causes.hearing.FurtherTurns.{says-silent}
use Rattle.world_letters.specs.lives.Issued.{issued-on}

-- ---- the statement

-- The order of real time, of what is stored and of these reads that were served: what is stored lies behind what was answered before, and so does
-- each read at no snapshot, whose epoch was issued to its attempt; and lines stand in the order of commands.
pub record OrderStands (r : Rules) (passed : List Served) (w : World) : Type 0 where
  pub stored : StoredLieBehind r (tries w.lines) w.issued w
  pub served : (q : Served) → Has q passed → is_at_snapshot r q.by ≡ false → IsServedBehind r (tries w.lines) w.issued q
  pub dated : (q : Served) → Has q passed → is_at_snapshot r q.by ≡ false → Contains w.issued (q.by, q.epoch)
  pub asked : (q : Served) → Has q passed → IsOfAttempt r q
  pub rising : AreInOrder (tries w.lines)

-- what is known of the world before an event, and of the one after it
pub record OrderKnown (r : Rules) (o : Opening) (held : ℕ → List Version) (h : History) (w u : World) : Type 0 where
  pub before : Before r o held h w
  pub told : KnowsTold r h (tries w.lines)
  pub writers : WritersBearFirsts w
  pub readers : ReadersBearFirsts r w
  pub epochs : Epochs r (top o) w
  pub epochs_then : Epochs r (top o) u
  pub frozen_then : (t : ℕ) (s : TargetState) → slice_get w.targets t ≡ Some s → FrozenAreMade r (top o) u s.durable

-- of these reads and perhaps more, of which the answers are that are sent
pub record PassesOn (r : Rules) (passed : List Served) (later : History) (w u : World) (e : Happening r w u) : Type 0 where
  pub more : List Served
  pub answered : AnswersAreServed e (record later { served = more ++ passed })
  pub order : OrderStands r (more ++ passed) u

-- An event of a target in which no line tells of an attempt, where its answers are of reads with epochs that were issued, unless at a snapshot.
abbrev pub TargetsKeepOrder : Type 0
TargetsKeepOrder =
    (r : Rules) (o : Opening) (held : ℕ → List Version) (h later : History) (w u : World) (passed : List Served) → OrderKnown r o held h w u → (e : Happening r w u) → IsOfTarget e
    → tries u.lines ≡ tries w.lines
    → AnswersAreServed e later → ((q : Served) → Has q later.served → is_at_snapshot r q.by ≡ false → Contains u.issued (q.by, q.epoch)) → OrderStands r passed w
    → PassesOn r passed later w u e

-- ---- what is issued stays so

-- ---- what comes of stops, snapshots and aggregations answers no read

module _ (r : Rules) (t : ℕ) (s : TargetState) (reading : ℕ) (l : Letter) where
  down-silent : (x : AttemptId) (ep first : Option Epoch) (tracker : Epoch) (ws : List MinorWrite) (stage : commit.CommitStage) (k : Kept) (left : TargetMemory × Did)
      → CommitDown (target_plan r t) s.memory reading (commit_request x ep first tracker ws) l.from stage k left → NoneIs is_answer left.1.posts
  down-silent x ep first tracker ws stage k left (IsSpent k2 e down left2 none known same) = subst (λ (z : TargetMemory × Did). NoneIs is_answer z.1.posts) (sym same)
      (one-silent _ refl)
  down-silent x ep first tracker ws stage k left (IsUnknown k2 e down left2 known same) = subst (λ (z : TargetMemory × Did). NoneIs is_answer z.1.posts) (sym same)
      (one-silent _ refl)

  attempts-silent : (number : ℕ) (m : Message) (new : Kept) (left : TargetMemory × Did) → is_of_attempts m ≡ true
      → HearsFurther number (target_plan r t) s.opening s.memory reading l.from m (kept s) new left → NoneIs is_answer left.1.posts
  attempts-silent number (message.Ask x) new left ours turn = λ p i. says-silent s.durable s.memory.member.parked p.message
      ((listens number (target_plan r t) s.opening s.memory reading l.from (message.Ask x) (kept s) new left refl turn).says p i)
  attempts-silent number (message.Status x inc) new left ours turn =
      λ p i. says-silent s.durable s.memory.member.parked p.message
      ((listens number (target_plan r t) s.opening s.memory reading l.from (message.Status x inc) (kept s) new left refl turn).says p i)
  attempts-silent number (message.Reset' by down place (more_of-Message q rest)) new left ours turn =
      λ p i. says-silent s.durable s.memory.member.parked p.message
      ((listens number (target_plan r t) s.opening s.memory reading l.from (message.Reset' by down place (more_of-Message q rest)) (kept s) new left ours turn).says p i)
  attempts-silent number (message.StatusIs x inc how) new left ours turn = ack-silent (target_plan r t) s.memory l.from.number x inc (status_refusal x how) (kept s) new left turn
  attempts-silent number (message.Commit x ep first tracker ws) new left ours turn = down-silent x ep first tracker ws turn.last new left turn.ends
  attempts-silent number (message.Snap x c called tracker) new left ours turn = let no : ⊥ = cc in absurd no
  attempts-silent number (message.Freeze x c e) new left ours turn = let no : ⊥ = cc in absurd no
  attempts-silent number (message.Held x refusal) new left ours turn = let no : ⊥ = cc in absurd no
  attempts-silent number (message.Prune x c tracker e) new left ours turn = let no : ⊥ = cc in absurd no
  attempts-silent number m new left ours turn = absurd turn

  further-silent : (number : ℕ) (new : Kept) (left : TargetMemory × Did) → (b : Bool) → tells_of_snapshots l.message ≡ b
      → HearsFurther number (target_plan r t) s.opening s.memory reading l.from l.message (kept s) new left
      → NoneIs is_answer left.1.posts
  further-silent number new left false off turn = attempts-silent number l.message new left (of-attempts l.message off) turn
  further-silent number new left true is turn =
      λ p i. making-silent p.message (making-sent (target_plan r t) s.memory l.from l.message new.durable left.1.posts
      (hearings-leave number (target_plan r t) s.opening s.memory reading l.from l.message (kept s) new left turn is).ends.sends p i)

-- ---- events

module _ (r : Rules) (o : Opening) (held : ℕ → List Version) (h : History) (w u : World) (K : OrderKnown r o held h w u) (passed : List Served) (S : OrderStands r passed w) where
  record IsNewRead (q : Served) : Type 0 where
    behind : is_at_snapshot r q.by ≡ false → IsServedBehind r (tries w.lines) w.issued q
    dated : is_at_snapshot r q.by ≡ false → Contains u.issued (q.by, q.epoch)
    asked : IsOfAttempt r q

  order-then : tries u.lines ≡ tries w.lines → ((x : AttemptId) (f : Epoch) → Contains w.issued (x, f) → Contains u.issued (x, f)) → Happening r w u → (more : List Served)
      → ((q : Served) → Has q more → IsNewRead q)
      → OrderStands r (more ++ passed) u
  order-then same grew e more new = record {
    stored = λ t s k at i. subst (λ as'. IsStoredBehind r as' u.issued t k.attempt k.epoch) (sym same)
        (stored-on r (tries w.lines) (tries w.lines) w.issued u.issued grew t k.attempt k.epoch (λ x f was. was)
        (happenings-store-behind r o held h w u K.before K.writers K.told e S.stored t s k at i));
    served = λ q i off. subst (λ as'. IsServedBehind r as' u.issued q) (sym same)
        (served-on r (tries w.lines) (tries w.lines) w.issued u.issued grew q (λ x f was. was)
        (elim (has-cases more passed q i) [ inl j ↦ (new q j).behind off | inr j ↦ S.served q j off ]));
    dated = λ q i off. elim (has-cases more passed q i) [ inl j ↦ (new q j).dated off | inr j ↦ grew q.by q.epoch (S.dated q j off) ];
    asked = λ q i. elim (has-cases more passed q i) [ inl j ↦ (new q j).asked | inr j ↦ S.asked q j ];
    rising = subst AreInOrder (sym same) S.rising;
  }

  -- ---- the answers of a turn

  module _ (g : TargetHearsRightly r w u) where
    abbrev Seen : Post → Type 0
    Seen p = IsAnswerBehind r w g.t g.s g.l.message p

    abbrev read_of : (p : Post) → Seen p → Served
    read_of p a = served_at g.t a.q a.epoch a.answer

    among : Has g.l w.messages
    among = has-taken w.messages g.l g.rest g.takes

    -- the reads of the answers among some messages
    record Collected (posts : List Post) : Type 0 where
      more : List Served
      each : (z : Served) → Has z more → (p : Post) × Has p posts × (a : Seen p) × (z ≡ read_of p a)
      all : (p : Post) → Has p posts → is_answer p.message ≡ true → (a : Seen p) × Has (read_of p a) more

    collects : (posts : List Post) → ((p : Post) → Has p posts → is_answer p.message ≡ true → Seen p) → Collected posts
    collects [] seen = record { more = []; each = λ z i. absurd i; all = λ p i told. absurd i }
    collects (p ∷ ps) seen = by (is_answer p.message) refl (collects ps (λ q i told. seen q (inr i) told))
      where
        by : (b : Bool) → is_answer p.message ≡ b → Collected ps → Collected (p ∷ ps)
        by true is rest =
            let a : Seen p = seen p (inl refl) is in
            record {
              more = read_of p a ∷ rest.more;
              each = λ z i. elim i [ inl same ↦ (p, inl refl, a, same) | inr j ↦ (let y = rest.each z j in (y.0, inr y.1, y.2, y.3)) ];
              all = λ q i told. elim i [
                | inl same ↦ subst (λ y. (c : Seen y) × Has (read_of y c) (read_of p a ∷ rest.more)) (sym same) (a, inl refl)
                | inr j ↦ (let y = rest.all q j told in (y.0, inr y.1))
              ];
            }
        by false off rest = record {
          more = rest.more;
          each = λ z i. (let y = rest.each z i in (y.0, inr y.1, y.2, y.3));
          all = λ q i told. elim i [ inl same ↦ clash (is_answer q.message) told (ap (λ y. is_answer y.message) same ∙ off) | inr j ↦ rest.all q j told ];
        }

    -- what goes with the request of an answer
    first-of : (p : Post) (a : Seen p) → BearsOfReader r w (fetch_message a.q)
    first-of p a = by a.asked
      where
        by : IsAskedIn g.l.message g.s.memory.member.parked (fetch_message a.q) → BearsOfReader r w (fetch_message a.q)
        by (Heard same) = subst (BearsOfReader r w) (sym same) (K.readers.flight g.l among)
        by (Waited q i same) = subst (BearsOfReader r w) (sym same) (K.readers.parked g.t g.s q g.here i)

    read-of : (p : Post) (a : Seen p) → IsReadOf r (fetch_message a.q)
    read-of p a = by a.asked
      where
        by : IsAskedIn g.l.message g.s.memory.member.parked (fetch_message a.q) → IsReadOf r (fetch_message a.q)
        by (Heard same) = subst (IsReadOf r) (sym same) (K.epochs.reads g.l (contains-from_has w.messages g.l among))
        by (Waited q i same) = subst (IsReadOf r) (sym same) (K.epochs.parked g.t g.s q g.here (contains-from_has g.s.memory.member.parked q i)).1

    right-of : (p : Post) (a : Seen p) → IsFetchRight r g.t a.q.attempt a.q.op a.q.group a.q.read a.q.snapshot
    right-of p a = by a.asked
      where
        by : IsAskedIn g.l.message g.s.memory.member.parked (fetch_message a.q) → IsFetchRight r g.t a.q.attempt a.q.op a.q.group a.q.read a.q.snapshot
        by (Heard same) = (subst (IsMessageRight r o w g.t g.s) (sym same) (K.before.given.asked g.l g.t g.s (contains-from_has w.messages g.l among) g.to_it g.here g.runs)).0
        by (Waited q i same) = (subst (IsParkedRight r o w g.t g.s.durable) (sym same) (K.before.given.waiting g.t g.s q g.here g.runs i)).right

    -- the reads of the answers are new ones
    module _ (later : List Served) (issued : (q : Served) → Has q later → is_at_snapshot r q.by ≡ false → Contains u.issued (q.by, q.epoch))
        (also : AreAnswered later g.t g.l.message g.s.memory.member.parked g.did.posts) where
      dated-of : (p : Post) → Has p g.did.posts → (a : Seen p) → is_at_snapshot r a.q.attempt ≡ false → Contains u.issued (a.q.attempt, a.epoch)
      dated-of p i a off =
          let z = also p a.q.attempt a.q.op a.q.group (Some a.epoch) a.answer i a.says in
          let both : Some a.epoch ≡ Some z.epoch = z.told in
          let same : a.epoch ≡ z.epoch = cc in
          subst (λ e. Contains u.issued (a.q.attempt, e)) (sym same)
          (subst (λ x. Contains u.issued (x, z.epoch)) (sym z.attempt) (issued (served_at g.t z.q z.epoch a.answer) z.among (ap (is_at_snapshot r) (sym z.attempt) ∙ off)))

      new-read : (z : Served) (p : Post) → Has p g.did.posts → (a : Seen p) → z ≡ read_of p a → IsNewRead z
      new-read z p i a same = subst IsNewRead (sym same) (record {
        behind = λ off. a.behind ((read-of p a).0 ∙ off)
            (others-are-unfrozen r (top o) u g.s.durable K.epochs_then (K.frozen_then g.t g.s g.here) a.q.attempt a.epoch (read_path a.q.read).cont (dated-of p i a off)
            (read-of p a).1) (first-of p a off);
        dated = dated-of p i a;
        asked = (right-of p a).asked a.epoch a.answer;
      })

    -- each answer is of one of them
    answered-so : (more : List Served) (posts : List Post) → ((p : Post) → Has p posts → is_answer p.message ≡ true → (a : Seen p) × Has (read_of p a) more)
        → AreAnswered (more ++ passed) g.t g.l.message g.s.memory.member.parked posts
    answered-so more posts all p x op group own b i says = let y = all p i (ap is_answer says) in by y.0 y.1
      where
        by : (a : Seen p) → Has (read_of p a) more → IsAnswered (more ++ passed) g.t g.l.message g.s.memory.member.parked x op group own b
        by a j = same (sym a.says ∙ says)
          where
            same : message.Fetched a.q.attempt a.q.op a.q.group (Some a.epoch) (reply.Answer a.answer) ≡ message.Fetched x op group own (reply.Answer b)
                → IsAnswered (more ++ passed) g.t g.l.message g.s.memory.member.parked x op group own b
            same is =
                let h1 : x ≡ a.q.attempt = cc in
                let h2 : op ≡ a.q.op = cc in
                let h3 : group ≡ a.q.group = cc in
                let h4 : own ≡ Some a.epoch = cc in
                let h5 : a.answer ≡ b = cc in
                record {
                  q = a.q;
                  asked = a.asked;
                  attempt = h1;
                  of_op = h2;
                  of_group = h3;
                  epoch = a.epoch;
                  told = h4;
                  own = a.own;
                  among = subst
                      (λ c. Has (served_at g.t a.q a.epoch c) (more ++ passed)) h5 (has-left more passed (read_of p a) j);
                }

  -- ---- whatever becomes of a target

  -- what is heard without stops is heard rightly
  abbrev hearing_rightly : TargetHears r w u → TargetHearsRightly r w u
  hearing_rightly g = rightly r w u g (letters-tell r h w K.before.attempts g.l g.t g.s (has-taken w.messages g.l g.rest g.takes) g.to_it g.here)

  no-new : (q : Served) → Has q [] → IsNewRead q
  no-new q i = absurd i

  passes-on : (later : History) (e : Happening r w u) → IsOfTarget e → tries u.lines ≡ tries w.lines → AnswersAreServed e later
      → ((q : Served) → Has q later.served → is_at_snapshot r q.by ≡ false → Contains u.issued (q.by, q.epoch))
      → PassesOn r passed later w u e
  passes-on later (Plainly (ByClient g) up) ours same also issued = absurd ours
  passes-on later (Plainly (ToClient g) up) ours same also issued = absurd ours
  passes-on later (Plainly (ByTarget g) up) ours same also issued = let e : Happening r w u = Plainly (ByTarget g) up in record
      { more = []; answered = tt; order = order-then same (issued-on r w u e) e [] no-new }
  passes-on later (IsCut g) ours same also issued = let e : Happening r w u = IsCut g in record
      { more = []; answered = tt; order = order-then same (issued-on r w u e) e [] no-new }
  passes-on later (Opens g) ours same also issued = let e : Happening r w u = Opens g in record
      { more = []; answered = tt; order = order-then same (issued-on r w u e) e [] no-new }
  passes-on later (Fails g) ours same also issued = let e : Happening r w u = Fails g in record
      { more = []; answered = tt; order = order-then same (issued-on r w u e) e [] no-new }
  passes-on later (GivenUp g) ours same also issued = let e : Happening r w u = GivenUp g in record
      { more = []; answered = tt; order = order-then same (issued-on r w u e) e [] no-new }
  passes-on later (Draws g) ours same also issued = let e : Happening r w u = Draws g in record
      { more = []; answered = tt; order = order-then same (issued-on r w u e) e [] no-new }
  passes-on later (Further f) ours same also issued =
      let e : Happening r w u = Further f in
      let g = f.hears in
      record {
        more = [];
        answered = none-answered passed g.t g.l.message g.s.memory.member.parked g.did.posts
            (further-silent r g.t g.s g.reading g.l f.number g.new (g.memory, g.did) (tells_of_snapshots g.l.message) refl g.turn);
        order = order-then same (issued-on r w u e) e [] no-new;
      }
  passes-on later (Plainly (ToTarget g) up) ours same also issued = record {
    more = c.more;
    answered = answered-so (hearing_rightly g) c.more g.did.posts c.all;
    order = order-then same (issued-on r w u e) e c.more (λ q i. let y = c.each q i in new-read (hearing_rightly g) later.served issued also q y.0 y.1 y.2 y.3);
  }
    where
      e : Happening r w u
      e = Plainly (ToTarget g) up

      c : Collected (hearing_rightly g) g.did.posts
      c = collects (hearing_rightly g) g.did.posts (answers-lie-behind r o held h w u K.before K.told (hearing_rightly g))

pub targets-keep-order : TargetsKeepOrder
targets-keep-order r o held h later w u passed K e ours same also issued S = passes-on r o held h w u K passed S later e ours same also issued

-- and so does the loss of what goes to targets that are given up
abbrev pub SweepingKeepsOrder : Type 0
SweepingKeepsOrder = (r : Rules) (passed : List Served) (w : World) → OrderStands r passed w → OrderStands r passed (swept w)

pub sweeping-keeps-order : SweepingKeepsOrder
sweeping-keeps-order r passed w S = record { stored = S.stored; served = S.served; dated = S.dated; asked = S.asked; rising = S.rising }
