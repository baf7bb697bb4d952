-- What a target answers is of what the client that waits for it asks, at the epoch that its attempt then has.
use Rattle.std.specs.Prelude.{ℕ, ◌≡◌, ◌++◌, List, [], ◌∷◌, map, slice_get, All, Contains, Option, Some, None, refl}
use Rattle.std.proofs.Common.{◌⊎◌, sym, ◌∙◌, ap, subst, inl, inr}
use Rattle.base_types.specs.declared.answer.Answer.{Answer}
use Rattle.base_types.specs.declared.epoch.Epoch.{Epoch}
use Rattle.base_types.specs.declared.id.AttemptId.{AttemptId}
use Rattle.base_messages.specs.declared.actor.ActorId.{ActorId}
use Rattle.base_messages.specs.declared.message.Message.TheVariants as message
use Rattle.base_messages.specs.declared.message.Post.{Post}
use Rattle.base_messages.specs.declared.message.Reply.TheVariants as reply
use Rattle.daos_model.specs.Attempts.{tries}
use Rattle.daos_model.specs.Transactions.{attempt_ops, ops_or_none}
use Rattle.world_commit.specs.world_base.declared.client.ClientPlan.{ClientPlan}
use Rattle.world_commit.specs.world_base.declared.client.ClientState.{ClientState}
use Rattle.world_commit.specs.world_base.declared.client.Present.{Present}
use Rattle.world_commit.specs.world_base.declared.did.Did.{Did}
use Rattle.world_commit.specs.world_base.declared.letter.Letter.{Letter}
use Rattle.world_commit.specs.world_base.declared.request.FetchRequest.{FetchRequest}
use Rattle.world_commit.specs.world_base.declared.target.TargetMemory.{TargetMemory}
use Rattle.world_commit.specs.world_base.declared.target.TargetPlan.{TargetPlan}
use Rattle.world_commit.specs.world_base.declared.world.World.{World}
use Rattle.world_commit.specs.world_base.ClientTurns.{attempt_id, knows_epoch}
use Rattle.std.specs.Prelude.{Bool, true, false, if◌then◌else◌}
use Rattle.base_types.specs.declared.entry.Entry.{Entry}
use Rattle.model_laws.specs.Members.{Has, contains-from_has, has-cases, has-from_contains, has-from_map}
use Rattle.daos_model.specs.declared.durable.Durable.{Durable}
use Rattle.world_commit.specs.dtx_base.declared.leading.Naming.{Naming}
use Rattle.world_commit.specs.dtx_base.Joining.{inquired, inquiry_for, to_inquire}
use Rattle.world_commit.specs.dtx_base.Leading.{LeaderOf, batched, commit_mark, mark_with, marks_for, owed, to_target}
use Rattle.world_commit.specs.dtx_base.Members.{all_targets}
use Rattle.world_commit.specs.dtx_base.Rows.{is_empty}
use Rattle.world_contents.specs.reads.Adds.{served_at}
use Rattle.world_commit.specs.world_base.Idle.{AllSettled, IdleEnds, batch_of, inquiry_of}
use Rattle.world_commit.specs.world_base.Roles.{leader_at, member_at, with_unsettled}
use Rattle.world_commit.specs.world_base.Events.{Rules, client_plan}
use Rattle.world_commit.specs.world_base.Letters.{client, letter_of, letters_of}
use Rattle.world_contents.specs.gots.Gots.{Gots, IsLineServed, IsServedAnswer, Remembers}
use Rattle.world_contents.specs.gots.MoreLaws.{all-more, remembered-more, served-more, stays-remembered}
use Rattle.world_commit.specs.attempts.History.{History}
use Rattle.world_contents.specs.gots.StepGots.{is_fetched}
use Rattle.world_commit.specs.world_letters.talks.Asked.{AsksRead}
use Rattle.world_commit.specs.world_base.Changes.{Kept}
use Rattle.world_commit.specs.world_base.Requests.{fetch_message}

-- ---- what is asked

-- a present attempt of a client asked for this read, which was answered at an epoch: its own, where it asked with one
pub record AnswersAsked (p : ClientPlan) (h : History) (t : ℕ) (k : Epoch) (c : ClientState) (a : Present) (q : FetchRequest) (epoch : Epoch) (b : Answer) : Type 0 where
  pub f : FetchRequest
  pub asks : AsksRead p k c a f
  pub agrees : (own : Epoch) → f.ep ≡ Some own → own ≡ epoch
  pub attempt : q.attempt ≡ f.attempt
  pub op : q.op ≡ f.op
  pub group : q.group ≡ f.group
  pub read : q.read ≡ f.read
  pub among : Has (served_at t q epoch b) h.served

known-then : (own : Option Epoch) (e : Epoch) → ((o : Epoch) → own ≡ Some o → o ≡ e) → knows_epoch own (Some e) ≡ Some e
known-then None e agrees = refl
known-then (Some o) e agrees = ap (λ z. Some z) (agrees o refl)

-- so it was served to the attempt
pub answer-served : (p : ClientPlan) (h : History) (t : ℕ) (k : Epoch) (c : ClientState) (a : Present) (q : FetchRequest) (epoch : Epoch) (b : Answer) → AnswersAsked p h t k c a q epoch b → IsServedAnswer p h c a (Some epoch) b
answer-served p h t k c a q epoch b i = record {
  op = i.asks.o;
  read = i.f.read;
  at = ap (λ o. slice_get (ops_or_none o) a.op) i.asks.at ∙ i.asks.here;
  asks = i.asks.asked;
  served = record {
    q = served_at t q epoch b;
    among = i.among;
    of_attempt = i.attempt ∙ i.asks.attempt;
    of_op = i.op ∙ i.asks.op;
    of_group = i.group ∙ i.asks.group;
    asked = i.read;
    gave = refl;
    at = known-then a.epoch epoch (λ o is. i.agrees o (i.asks.ep ∙ is));
  };
}

-- ---- more is remembered

pub answer-remembered : (p : ClientPlan) (h k : History) (c : ClientState) (a : Present) (own : Option Epoch) (b : Answer) → Remembers h k → IsServedAnswer p h c a own b → IsServedAnswer p k c a own b
answer-remembered p h k c a own b more s = record {
  op = s.op;
  read = s.read;
  at = s.at;
  asks = s.asks;
  served = stays-remembered h k (attempt_id p c a) (knows_epoch a.epoch own) more a.op _ s.read b s.served;
}

-- where the clients and the lines are as they were, and what is on its way was served
pub same-clients : (r : Rules) (h k : History) (w v : World) → Remembers h k → v.clients ≡ w.clients → v.lines ≡ w.lines → Gots r h w
    → ((n : ℕ) (c : ClientState) (a : Present) (l : Letter) (x : AttemptId) (op group : ℕ) (own : Option Epoch) (b : Answer) → slice_get w.clients n ≡ Some c → c.present ≡ Some a → Contains v.messages l
    → l.to ≡ client n → l.message ≡ message.Fetched x op group own (reply.Answer b) → IsServedAnswer (client_plan r n) k c a own b) → Gots r k v
same-clients r h k w v more clients lines g flies = record {
  present = λ n c a at here. remembered-more h k _ r.script.targets _ a more (g.present n c a (was n c at) here);
  lines = subst (λ ls. All (IsLineServed r k) (tries ls)) (sym lines)
      (all-more (IsLineServed r h) (IsLineServed r k) (tries w.lines)
      (λ a s. served-more h k a.id r.script.targets (attempt_ops r.script a.id) a.epoch a.epoch a.gots a.conds (stays-remembered h k a.id a.epoch more) s) g.lines);
  flying = λ n c a l x op group own b at. flies n c a l x op group own b (was n c at);
}
  where
    was : (n : ℕ) (c : ClientState) → slice_get v.clients n ≡ Some c → slice_get w.clients n ≡ Some c
    was n c at = ap (λ cs. slice_get cs n) (sym clients) ∙ at

pub gots-remembered : (r : Rules) (h k : History) (w : World) → Remembers h k → Gots r h w → Gots r k w
gots-remembered r h k w more g =
    same-clients r h k w w more refl refl g (λ n c a l x op group own b at here in' to it. answer-remembered (client_plan r n) h k c a own b more (g.flying n c a l x op group own b at here in' to it))

-- ---- a target hears a message

pub same-request : (q f : FetchRequest) → fetch_message q ≡ fetch_message f → (q.attempt ≡ f.attempt) × (q.op ≡ f.op) × (q.group ≡ f.group) × (q.ep ≡ f.ep) × (q.read ≡ f.read)
same-request q f same = (cc (same), cc (same), cc (same), cc (same), cc (same))

-- what answers a Fetch answers what a client that waits has asked
pub record AnswersClient (r : Rules) (k : History) (w : World) (t : ℕ) (q : FetchRequest) (epoch : Epoch) (b : Answer) : Type 0 where
  pub n : ℕ
  pub c : ClientState
  pub a : Present
  pub here : slice_get w.clients n ≡ Some c
  pub present : c.present ≡ Some a
  pub k0 : Epoch
  pub is : AnswersAsked (client_plan r n) k t k0 c a q epoch b

-- where that is this client, it was served to its attempt
pub client-served : (r : Rules) (k : History) (w : World) (t n : ℕ) (c : ClientState) (a : Present) (q : FetchRequest) (epoch : Epoch) (b : Answer) (y : AnswersClient r k w t q epoch b) → y.n ≡ n → slice_get w.clients n ≡ Some c → c.present ≡ Some a
    → IsServedAnswer (client_plan r n) k c a (Some epoch) b
client-served r k w t n c a q epoch b y number here present =
    subst (λ j. IsServedAnswer (client_plan r j) k c a (Some epoch) b) number
    (subst (λ s. IsServedAnswer (client_plan r y.n) k s a (Some epoch) b) state
    (subst (λ u. IsServedAnswer (client_plan r y.n) k y.c u (Some epoch) b) attempt
    (answer-served (client_plan r y.n) k t y.k0 y.c y.a q epoch b y.is)))
  where
    state : y.c ≡ c
    state = let at : slice_get w.clients n ≡ Some y.c = subst (λ j. slice_get w.clients j ≡ Some y.c) number y.here in cc (at, here)

    attempt : y.a ≡ a
    attempt = let at : c.present ≡ Some y.a = subst (λ s. s.present ≡ Some y.a) state y.present in cc (at, present)

-- what is in flight once a target did something: what was left, and what it sends
pub sent-or_left : (rest : List Letter) (from : ActorId) (posts : List Post) (l : Letter) → Contains (rest ++ letters_of from posts) l → Contains rest l ⊎ ((p : Post) × Has p posts × (letter_of from p ≡ l))
sent-or_left rest from posts l i = elim (has-cases rest (letters_of from posts) l (has-from_contains (rest ++ letters_of from posts) l i)) [
  | inl j ↦ inl (contains-from_has rest l j)
  | inr j ↦ inr (has-from_map (letter_of from) posts l j)
]

-- ---- a target does its idle work, and answers no read

abbrev pub AnswerNone : List Post → Type 0
AnswerNone posts = (p : Post) → Has p posts → is_fetched p.message ≡ false

both-none : (ps qs : List Post) → AnswerNone ps → AnswerNone qs → AnswerNone (ps ++ qs)
both-none ps qs a b p i = elim (has-cases ps qs p i) [ inl j ↦ a p j | inr j ↦ b p j ]

mark-none : (inc t : ℕ) (ids : List AttemptId) → AnswerNone (mark_with inc t ids)
mark-none inc t ids = by (is_empty ids)
  where
    by : (b : Bool) → AnswerNone (if b then [] else to_target t (message.Mark inc (map commit_mark ids)) ∷ [])
    by true p i = absurd i
    by false p (inl same) = ap (λ z. is_fetched z.message) same
    by false p (inr i) = absurd i

marks-none : (inc down : ℕ) (named : List Naming) (es : List Entry) (ts : List ℕ) → AnswerNone (marks_for inc down named es ts)
marks-none inc down named es [] = λ p i. absurd i
marks-none inc down named es (t ∷ ts) = both-none (mark_with inc t (owed down named es t)) (marks_for inc down named es ts) (mark-none inc t (owed down named es t)) (marks-none inc down named es ts)

batch-none : (l : LeaderOf) → AnswerNone (batched l).posts
unfolding batched
batch-none l = marks-none l.incarnation l.memory.down l.memory.named l.entries all_targets

inquiries-none : (settling : Bool) (t : TargetPlan) (m : TargetMemory) (d : Durable) → AnswerNone (inquiry_of settling t m d).freed.posts
unfolding inquired
inquiries-none false t m d = λ p i. absurd i
inquiries-none true t m d = λ p i. let e = has-from_map inquiry_for (to_inquire d.entries (member_at t m)) p i in ap (λ z. is_fetched z.message) (sym e.2)

pub ends-none : (settling : Bool) (t : TargetPlan) (m : TargetMemory) (s : List AttemptId) (k : Kept) (left : TargetMemory × Did) → IdleEnds settling t m s k left → AnswerNone left.1.posts
ends-none settling t m s k left (AllSettled j left2 is) =
    subst (λ z. AnswerNone z.1.posts) (sym is) (both-none (batch_of t m k.durable).posts (inquiry_of settling t m k.durable).freed.posts (batch-none (leader_at t (with_unsettled [] m) k.durable)) (inquiries-none settling t m k.durable))
