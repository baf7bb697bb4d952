-- Every turn of a client keeps that clients were told what was served.
use Rattle.std.specs.Prelude.{ℕ, ◌≡◌, ◌++◌, Bool, true, false, List, [], map, slice_get, All, Contains, Option, Some, None, refl}
use Rattle.std.proofs.Common.{◌⊎◌, append-nil, sym, ◌∙◌, ap, subst, inl, inr}
use Rattle.std.proofs.Math.ListN.{set}
use Rattle.std.proofs.lemmas.Bool.{cases_eq, true≢false}
use Rattle.std.proofs.lemmas.List.Elements.{All-append, Contains-push_cases}
use Rattle.base_types.specs.declared.answer.Answer.{Answer}
use Rattle.base_types.specs.declared.epoch.Epoch.{Epoch}
use Rattle.base_types.specs.declared.id.AttemptId.{AttemptId}
use Rattle.base_types.specs.declared.report.Attempt.{Attempt}
use Rattle.base_types.specs.declared.report.Line.{Line}
use Rattle.base_types.specs.declared.script.Command.{Command}
use Rattle.base_messages.specs.declared.message.Message.{Message}
use Rattle.base_messages.specs.declared.message.Message.TheVariants as message
use Rattle.base_messages.specs.declared.message.Post.{Post}
use Rattle.base_messages.specs.declared.message.Reply.{Reply}
use Rattle.base_messages.specs.declared.message.Reply.TheVariants as reply
use Rattle.daos_model.specs.Attempts.{tries}
use Rattle.daos_model.specs.Laws.{tries-append}
use Rattle.daos_model.specs.Transactions.{attempt_ops, command_of}
use Rattle.world_commit.specs.world_base.declared.client.ClientPlan.{ClientPlan}
use Rattle.world_commit.specs.world_base.declared.client.ClientState.{ClientState}
use Rattle.world_commit.specs.world_base.declared.client.Present.{Present}
use Rattle.world_commit.specs.world_base.declared.letter.Letter.{Letter}
use Rattle.world_commit.specs.world_base.declared.world.World.{World}
use Rattle.world_commit.specs.world_base.ClientTurns.{Move, attempt_id, listed, moved, waits}
use Rattle.world_commit.specs.world_letters.clients.Answered.{ops_here, ops_numbered}
use Rattle.world_commit.specs.world_letters.clients.Standing.{HasTold}
use Rattle.world_commit.specs.world_base.Events.{Rules, client_plan, with_epoch}
use Rattle.world_commit.specs.world_base.Letters.{client, is_tell, letter_of, letters_of, talk_of}
use Rattle.world_commit.specs.world_base.StepLaws.{set-here, set-there}
use Rattle.world_commit.specs.world_base.Steps.{after_move}
use Rattle.world_contents.specs.gots.Gots.{AreServed, Gots, IsLineServed, IsServedAnswer, IsServedSoFar}
use Rattle.world_contents.specs.gots.GotLaws.{IsServedHere, IsToldServed, KeepsGots, moved-gots}
use Rattle.world_contents.specs.gots.MoreLaws.{all-mapped, served-more, stays-issued}
use Rattle.world_commit.specs.world_letters.lines.FilledLaws.{tries-filled}
use Rattle.world_commit.specs.world_letters.lines.Lines.{filled}
use Rattle.world_commit.specs.attempts.History.{History}
use Rattle.world_commit.specs.world_letters.talks.AskLaws.{move-is, waiting-rests}
use Rattle.world_commit.specs.world_letters.talks.Asked.{ARead, ASnapshot, AnAggregation, Asked, Asking, IsMove, ItsWrites, Silent, Telling}
use Rattle.world_commit.specs.world_letters.talks.TalkLaws.{got-is-talk, none-among}

-- ---- which letters reply to reads

abbrev pub is_fetched : Message → Bool
is_fetched (message.Fetched x op group own b) = true
is_fetched m = false

-- a reply to a read is one of these
fetched-is-one : (m : Message) (x : AttemptId) (op group : ℕ) (own : Option Epoch) (b : Reply) → m ≡ message.Fetched x op group own b → is_fetched m ≡ true
fetched-is-one m x op group own b e = ap is_fetched e

asked-no-answer : (p : ClientPlan) (k : Epoch) (c : ClientState) (a : Present) (q : Post) → Asked p k c a q → is_fetched q.message ≡ false
asked-no-answer p k c a q (ARead ops turns snapshot op r at is asked says) = ap (λ z. is_fetched z.message) says
asked-no-answer p k c a q (ItsWrites ops turns snapshot w ws at last all says) = ap (λ z. is_fetched z.message) says
asked-no-answer p k c a q (ASnapshot name cont at says) = ap (λ z. is_fetched z.message) says
asked-no-answer p k c a q (AnAggregation cont at says) = ap (λ z. is_fetched z.message) says

-- the replies to reads among these letters were in flight before
abbrev pub KeepsAnswers : List Letter → List Letter → Type 0
KeepsAnswers letters more = (l : Letter) → Contains more l → is_fetched l.message ≡ true → Contains letters l

pub sends-none : (letters : List Letter) (n : ℕ) (o : Option Post) → o ≡ None → KeepsAnswers letters (letters ++ letters_of (client n) (listed o))
sends-none letters n o e l in' answer = subst (λ ls. Contains ls l) (append-nil letters) (subst (λ z. Contains (letters ++ letters_of (client n) (listed z)) l) e in')

pub sends-one : (letters : List Letter) (n : ℕ) (o : Option Post) (q : Post) → o ≡ Some q → is_fetched q.message ≡ false → KeepsAnswers letters (letters ++ letters_of (client n) (listed o))
sends-one letters n o q e isnt l in' answer = by (Contains-push_cases letters (letter_of (client n) q) l (subst (λ z. Contains (letters ++ letters_of (client n) (listed z)) l) e in'))
  where
    by : Contains letters l ⊎ (letter_of (client n) q ≡ l) → Contains letters l
    by (inl before) = before
    by (inr it) = let no : true ≡ false = sym answer ∙ ap (λ z. is_fetched z.message) (sym it) ∙ isnt in absurd (true≢false no)

move-sends : (p : ClientPlan) (c : ClientState) (m : Move) (letters : List Letter) (n : ℕ) → IsMove p c m → KeepsAnswers letters (letters ++ letters_of (client n) (listed m.post))
move-sends p c m letters n (Silent goes' none) = sends-none letters n m.post none
move-sends p c m letters n (Telling k none goes' says) = sends-one letters n m.post _ says refl
move-sends p c m letters n (Asking a q here asked says after) = sends-one letters n m.post q says (asked-no-answer p c.tracker c a q asked)

-- a client sends no reply to a read
moved-sends : (p : ClientPlan) (c : ClientState) (letters : List Letter) (n : ℕ) → KeepsAnswers letters (letters ++ letters_of (client n) (listed (moved p c).post))
moved-sends p c letters n = by (waits c) refl
  where
    by : (b : Bool) → waits c ≡ b → KeepsAnswers letters (letters ++ letters_of (client n) (listed (moved p c).post))
    by true h = sends-none letters n (moved p c).post (ap (λ m. m.post) (waiting-rests p c h))
    by false h = move-sends p c (moved p c) letters n (move-is p c h)

-- ---- lines

-- the operations of an attempt, by the number of its command
pub ops-of-attempt : (r : Rules) (x : AttemptId) → ops_numbered (client_plan r x.client) x.command ≡ attempt_ops r.script x
unfolding command_of
ops-of-attempt r x = by (slice_get r.script.clients x.client) refl
  where
    by : (o : Option (List Command)) → slice_get r.script.clients x.client ≡ o → ops_numbered (client_plan r x.client) x.command ≡ attempt_ops r.script x
    by None e = rw e refl
    by (Some list) e = rw e refl

-- what a client tells of an attempt is served, as it stands in the lines
line-served : (r : Rules) (h : History) (n : ℕ) (issued : List (AttemptId × Epoch)) (a : Attempt) → IsToldServed h (client_plan r n) a → IsLineServed r h (filled issued a)
line-served r h n issued a t =
    served-more h h a.id r.script.targets (attempt_ops r.script a.id) a.epoch _ a.gots a.conds (stays-issued h a.id a.epoch issued)
    (subst (λ ops. AreServed h a.id r.script.targets ops a.epoch a.gots a.conds) ops t.served)
  where
    ops : ops_numbered (client_plan r n) a.id.command ≡ attempt_ops r.script a.id
    ops = ap (λ m. ops_numbered (client_plan r m) a.id.command) (sym t.own) ∙ ops-of-attempt r a.id

lines-served : (r : Rules) (h : History) (n : ℕ) (issued : List (AttemptId × Epoch)) (lines more : List Line) → All (IsLineServed r h) (tries lines) → All (IsToldServed h (client_plan r n)) (tries more)
    → All (IsLineServed r h) (tries (lines ++ map (with_epoch issued) more))
lines-served r h n issued lines more all told =
    subst (All (IsLineServed r h)) (sym (tries-append lines (map (with_epoch issued) more) ∙ ap (λ ts. tries lines ++ ts) (tries-filled issued more)))
    (All-append (IsLineServed r h) (tries lines) (map (filled issued) (tries more)) all
    (all-mapped (IsToldServed h (client_plan r n)) (IsLineServed r h) (filled issued) (tries more) (line-served r h n issued) told))

-- ---- one client goes on

-- the answers on their way to a client in this state were served to it
abbrev pub AreFlying : History → ClientPlan → ℕ → ClientState → List Letter → Type 0
AreFlying h p n c letters =
    (a : Present) (l : Letter) (x : AttemptId) (op group : ℕ) (own : Option Epoch) (b : Answer) → c.present ≡ Some a → Contains letters l → l.to ≡ client n
    → l.message ≡ message.Fetched x op group own (reply.Answer b) → IsServedAnswer p h c a own b

-- where one client makes a move that keeps this, and no reply to a read is sent, what all were told was served
pub turned : (r : Rules) (h : History) (w v : World) (n : ℕ) (c : ClientState) (m : Move) → Gots r h w → slice_get w.clients n ≡ Some c → v.clients ≡ set w.clients n m.state
    → v.lines ≡ w.lines ++ map (with_epoch w.issued) (listed m.line) → KeepsAnswers w.messages v.messages → KeepsGots h (client_plan r n) m → AreFlying h (client_plan r n) n m.state v.messages → Gots r h v
turned r h w v n c m k here clients lines sent own to_it = record {
  present = λ j e a at present. here_at j e a at present (cases_eq j n);
  lines = subst (λ ls. All (IsLineServed r h) (tries ls)) (sym lines) (lines-served r h n w.issued w.lines (listed m.line) k.lines own.told);
  flying = λ j e a l x op group epoch b at present in' to it. flies j e a l x op group epoch b at present in' to it (cases_eq j n);
}
  where
    own_state : slice_get v.clients n ≡ Some m.state
    own_state = ap (λ cs. slice_get cs n) clients ∙ set-here w.clients n c m.state here

    other_state : (j : ℕ) → ((j ≡ n) → ⊥) → slice_get v.clients j ≡ slice_get w.clients j
    other_state j apart = ap (λ cs. slice_get cs j) clients ∙ set-there w.clients n j m.state apart

    here_at : (j : ℕ) (e : ClientState) (a : Present) → slice_get v.clients j ≡ Some e → e.present ≡ Some a → (j ≡ n) ⊎ ((j ≡ n) → ⊥)
        → IsServedSoFar h (attempt_id (client_plan r j) e a) r.script.targets (ops_here (client_plan r j) e) a
    here_at j e a at present (inl same) =
        let it : m.state ≡ e = cc (own_state) in
        let state : m.state.present ≡ Some a = ap (λ s. s.present) it ∙ present in
        let served : IsServedSoFar h (attempt_id (client_plan r n) m.state a) r.script.targets (ops_here (client_plan r n) m.state) a = subst (λ o. IsServedHere h (client_plan r n) m.state o) state own.here in
        subst (λ i. IsServedSoFar h (attempt_id (client_plan r i) e a) r.script.targets (ops_here (client_plan r i) e) a) (sym same)
        (subst (λ s. IsServedSoFar h (attempt_id (client_plan r n) s a) r.script.targets (ops_here (client_plan r n) s) a) it served)
    here_at j e a at present (inr apart) = k.present j e a (sym (other_state j apart) ∙ at) present

    flies : (j : ℕ) (e : ClientState) (a : Present) (l : Letter) (x : AttemptId) (op group : ℕ) (epoch : Option Epoch) (b : Answer) → slice_get v.clients j ≡ Some e → e.present ≡ Some a
        → Contains v.messages l → l.to ≡ client j → l.message ≡ message.Fetched x op group epoch (reply.Answer b) → (j ≡ n) ⊎ ((j ≡ n) → ⊥) → IsServedAnswer (client_plan r j) h e a epoch b
    flies j e a l x op group epoch b at present in' to message (inl same) =
        let it : m.state ≡ e = cc (own_state) in
        subst (λ i. IsServedAnswer (client_plan r i) h e a epoch b) (sym same)
        (subst (λ s. IsServedAnswer (client_plan r n) h s a epoch b) it (to_it a l x op group epoch b (ap (λ s. s.present) it ∙ present) in' (to ∙ ap client same) message))
    flies j e a l x op group epoch b at present in' to message (inr apart) =
        k.flying j e a l x op group epoch b (sym (other_state j apart) ∙ at) present (sent l in' (fetched-is-one l.message x op group epoch (reply.Answer b) message)) to message

pub here-of : (r : Rules) (h : History) (w : World) (n : ℕ) (c : ClientState) → Gots r h w → slice_get w.clients n ≡ Some c → IsServedHere h (client_plan r n) c c.present
here-of r h w n c k here = by c.present refl
  where
    by : (o : Option Present) → c.present ≡ o → IsServedHere h (client_plan r n) c o
    by None e = tt
    by (Some a) e = k.present n c a here e

-- ---- a client moves

-- one of which nothing is in flight while it doesn't wait
pub gots-moved : (r : Rules) (h : History) (w : World) (n : ℕ) (c : ClientState) (attempts : List Attempt) → slice_get w.clients n ≡ Some c → (waits c ≡ false → talk_of n w.messages ≡ []) → HasTold (client_plan r n) c attempts → Gots r h w
    → Gots r h (after_move w n (moved (client_plan r n) c))
gots-moved r h w n c attempts here silent told k = turned r h w (after_move w n m) n c m k here refl refl (moved-sends p c w.messages n) (moved-gots h p c attempts told (here-of r h w n c k here)) flies
  where
    p : ClientPlan
    p = client_plan r n

    m : Move
    m = moved p c

    by : (b : Bool) → waits c ≡ b → AreFlying h p n m.state (after_move w n m).messages
    by true waiting a l x op group own b present in' to it =
        let same : m.state ≡ c = ap (λ z. z.state) (waiting-rests p c waiting) in
        subst (λ e. IsServedAnswer p h e a own b) (sym same)
        (k.flying n c a l x op group own b here (ap (λ e. e.present) (sym same) ∙ present) (moved-sends p c w.messages n l in' (ap is_fetched it)) to it)
    by false free a l x op group own b present in' to it =
        absurd (none-among n w.messages l (silent free) (moved-sends p c w.messages n l in' (ap is_fetched it)) (got-is-talk n l (ap is_tell it) to))

    flies : AreFlying h p n m.state (after_move w n m).messages
    flies = by (waits c) refl
