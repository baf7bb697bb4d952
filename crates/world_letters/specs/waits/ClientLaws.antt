-- What a client does keeps the conversations: it asks, hears what it waits for, and asks again what became of an attempt.
use Rattle.std.specs.Prelude.{ℕ, ◌≡◌, ◌⊎◌, ◌≤◌, ◌+◌, ◌++◌, ◌==◌, ◌&&◌, Bool, true, false, if◌then◌else◌, List, [], ◌∷◌, drop, filter, take, slice_get, Option, Some, None, refl}
use Rattle.std.specs.List.{position_or_len}
use Rattle.std.proofs.Common.{suc, append-nil, sym, ◌∙◌, ap, subst, arith, inl, inr}
use Rattle.std.proofs.Math.ListN.{set}
use Rattle.std.proofs.lemmas.Bool.{cases_eq}
use Rattle.std.proofs.lemmas.List.Elements.{filter-append}
use Rattle.base_types.specs.declared.epoch.Epoch.{Epoch}
use Rattle.base_types.specs.declared.outcome.Cause.TheVariants.{Unresolved}
use Rattle.base_types.specs.declared.outcome.Outcome.{Outcome}
use Rattle.base_types.specs.declared.outcome.Outcome.TheVariants as outcome
use Rattle.base_types.specs.declared.report.Line.{Line}
use Rattle.base_messages.specs.declared.message.Message.TheVariants as message
use Rattle.base_messages.specs.declared.message.Post.{Post}
use Rattle.base_messages.specs.declared.actor.ActorId.{ActorId}
use Rattle.base_messages.specs.declared.message.Reply.TheVariants as reply
use Rattle.world_base.specs.model_laws.TargetLaws.{number_same, same_number}
use Rattle.world_base.specs.declared.client.ClientPlan.{ClientPlan}
use Rattle.world_base.specs.declared.client.ClientState.{ClientState}
use Rattle.world_base.specs.declared.client.Present.{Present}
use Rattle.world_base.specs.declared.letter.Letter.{Letter}
use Rattle.world_base.specs.declared.request.CommitRequest.{CommitRequest}
use Rattle.world_base.specs.declared.world.World.{World}
use Rattle.world_base.specs.ClientTurns.{Move, about, answered, asks_again, at_present, attempt_id, ends, heard, hears_epochs, is_waiting, listed, moved, request_of, reset, reset_by, waits}
use Rattle.world_base.specs.Events.{ClientGoes, ClientHears, Rules, client_plan}
use Rattle.world_base.specs.Letters.{asked_with, client, is_answer_to, is_answerable, is_reply, is_talk_of, is_tell, letter_of, reset_message, same_actor, talk_of, without_first}
use Rattle.world_base.specs.StepLaws.{after-none, by-hearing, by-next, set-here, set-there}
use Rattle.world_base.specs.Steps.{KeptByCounting, KeptByHearing, KeptByMoves, after_client, after_move, without}
use Rattle.world_letters.specs.talks.AskLaws.{IsRequest, asked-is-request, asks-what-it-asked, move-is, sent-is-asked, waiting-rests}
use Rattle.world_letters.specs.talks.Asked.{ARead, ASnapshot, AnAggregation, Asked, Asking, IsMove, ItsWrites, Silent, Telling, commit_of, tells_tracker}
use Rattle.world_letters.specs.talks.Conversation.{before_waiting, request_sent}
use Rattle.world_letters.specs.talks.HearLaws as hear
use Rattle.world_letters.specs.talks.HearLaws.{IsSilent, hears-answer, hears-tell, skipping-sends-the-same, tracker-rises}
use Rattle.world_letters.specs.talks.TalkLaws.{got-is-no-talk, got-is-talk, sent-is-no-talk, sent-is-talk, talk-beside, talk-none, talk-only, talk-taken, talk-with, tell-is-no-talk}
use Rattle.world_letters.specs.waits.Waits as waits'
use Rattle.world_letters.specs.waits.Waits.{Conversation, IsAsked, IsHeld, IsQuestion, IsQuiet, IsReplied, IsReply, IsReplyTo, ItsAsk, ItsRequest, TalksSo, Waits, asked_of, held_of, is_asked_by}

-- ---- what is without an answer

-- the first that passes goes, and all others stay
pub without-yes : {T : Type 0} (p : T → Bool) (y : T) (ys : List T) → p y ≡ true → without_first p (y ∷ ys) ≡ ys
without-yes p y ys is = rw is refl

pub without-no : {T : Type 0} (p : T → Bool) (y : T) (ys : List T) → p y ≡ false → without_first p (y ∷ ys) ≡ y ∷ without_first p ys
without-no p y ys off = rw off (shift y ys (position_or_len p ys))
  where
    shift : {T : Type 0} (y : T) (ys : List T) (n : ℕ) → take (1 + n) (y ∷ ys) ++ drop ((1 + n) + 1) (y ∷ ys) ≡ y ∷ (take n ys ++ drop (n + 1) ys)
    shift y ys n =
        let one : 1 + n ≡ suc n = omega arith in
        let two : (1 + n) + 1 ≡ suc (n + 1) = omega arith in
        ap (λ m. take m (y ∷ ys) ++ drop ((1 + n) + 1) (y ∷ ys)) one ∙ ap (λ m. take (suc n) (y ∷ ys) ++ drop m (y ∷ ys)) two

without-none : {T : Type 0} (p : T → Bool) (xs : List T) → ((x : T) → p x ≡ false) → without_first p xs ≡ xs
without-none p [] none = refl
without-none p (y ∷ ys) none = without-no p y ys (none y) ∙ ap (λ z. y ∷ z) (without-none p ys none)

-- a tracker that is told is asked for by nobody, and answers nothing
tell-answers : (l q : Letter) (k : Epoch) → l.message ≡ message.Tell k → is_answer_to l q ≡ false
unfolding is_answer_to
tell-answers l q k says = ap (λ m. same_actor l.from q.to && same_actor l.to q.from && is_reply m q.message) says ∙ of-false (same_actor l.from q.to) (same_actor l.to q.from)
  where
    of-false : (a b : Bool) → (a && b && false) ≡ false
    of-false true true = refl
    of-false true false = refl
    of-false false b = refl

asked-tell : (asked : List Letter) (l : Letter) (k : Epoch) → l.message ≡ message.Tell k → asked_with asked l ≡ asked
unfolding asked_with
asked-tell asked l k says = ap (λ m. if is_answerable m then asked ++ l ∷ [] else without_first (is_answer_to l) asked) says ∙ without-none (is_answer_to l) asked (λ q. tell-answers l q k says)

-- one that is asked is without an answer
asked-more : (asked : List Letter) (l : Letter) → is_answerable l.message ≡ true → asked_with asked l ≡ asked ++ l ∷ []
unfolding asked_with
asked-more asked l is = ap (λ b. if b then asked ++ l ∷ [] else without_first (is_answer_to l) asked) is

by-itself : (n : ℕ) (l : Letter) → l.from ≡ client n → is_asked_by n l ≡ true
by-itself n l from = ap (λ a. a.client && (a.number == n)) from ∙ same_number n

by-another : (n m : ℕ) (l : Letter) → l.from ≡ client n → ((m ≡ n) → ⊥) → is_asked_by m l ≡ false
by-another n m l from apart = ap (λ a. a.client && (a.number == m)) from ∙ by (n == m) refl
  where
    by : (b : Bool) → (n == m) ≡ b → (n == m) ≡ false
    by true e = absurd (apart (sym (number_same n m e)))
    by false e = e

one-more : (p : Letter → Bool) (asked : List Letter) (l : Letter) → p l ≡ true → filter p (asked ++ l ∷ []) ≡ filter p asked ++ l ∷ []
one-more p asked l is = filter-append p asked (l ∷ []) ∙ ap (λ x. filter p asked ++ x) (ap (λ b. if b then l ∷ [] else []) is)

pub no-more : (p : Letter → Bool) (asked : List Letter) (l : Letter) → p l ≡ false → filter p (asked ++ l ∷ []) ≡ filter p asked
no-more p asked l off = filter-append p asked (l ∷ []) ∙ ap (λ x. filter p asked ++ x) (ap (λ b. if b then l ∷ [] else []) off) ∙ append-nil (filter p asked)

-- ---- one client goes on

turned : (r : Rules) (w v : World) (n : ℕ) (c d : ClientState) → Conversation r w → slice_get w.clients n ≡ Some c → v.clients ≡ set w.clients n d → v.targets ≡ w.targets → ((m : ℕ) → ((m ≡ n) → ⊥) → talk_of m v.messages ≡ talk_of m w.messages)
    → ((m : ℕ) → ((m ≡ n) → ⊥) → asked_of m v ≡ asked_of m w) → TalksSo (client_plan r n) n d (talk_of n v.messages) (held_of n w) (asked_of n v) (waits d) → Conversation r v
turned r w v n c d k here clients targets letters asked own = record {
  talks = λ m e at. talks m e at (cases_eq m n);
  nobody = λ m none. nobody m none (cases_eq m n);
  quiet = λ t s at off. k.quiet t s (ap (λ ts. slice_get ts t) (sym targets) ∙ at) off;
}
  where
    held : (m : ℕ) → held_of m v ≡ held_of m w
    held m = ap (waits'.held_from m 0) targets

    own_state : slice_get v.clients n ≡ Some d
    own_state = ap (λ cs. slice_get cs n) clients ∙ set-here w.clients n c d here

    other_state : (m : ℕ) → ((m ≡ n) → ⊥) → slice_get v.clients m ≡ slice_get w.clients m
    other_state m apart = ap (λ cs. slice_get cs m) clients ∙ set-there w.clients n m d apart

    talks : (m : ℕ) (e : ClientState) → slice_get v.clients m ≡ Some e → (m ≡ n) ⊎ ((m ≡ n) → ⊥) → TalksSo (client_plan r m) m e (talk_of m v.messages) (held_of m v) (asked_of m v) (waits e)
    talks m e at (inl same) =
        let now : slice_get v.clients n ≡ Some e = ap (slice_get v.clients) (sym same) ∙ at in
        let it : d ≡ e = cc (own_state, now) in
        subst (λ j. TalksSo (client_plan r j) j e (talk_of j v.messages) (held_of j v) (asked_of j v) (waits e)) (sym same)
        (subst (λ hs. TalksSo (client_plan r n) n e (talk_of n v.messages) hs (asked_of n v) (waits e)) (sym (held n)) (subst (λ s. TalksSo (client_plan r n) n s (talk_of n v.messages) (held_of n w) (asked_of n v) (waits s)) it own))
    talks m e at (inr apart) =
        subst (λ ls. TalksSo (client_plan r m) m e ls (held_of m v) (asked_of m v) (waits e)) (sym (letters m apart))
        (subst (λ hs. TalksSo (client_plan r m) m e (talk_of m w.messages) hs (asked_of m v) (waits e)) (sym (held m))
        (subst (λ as'. TalksSo (client_plan r m) m e (talk_of m w.messages) (held_of m w) as' (waits e)) (sym (asked m apart)) (k.talks m e (sym (other_state m apart) ∙ at))))

    nobody : (m : ℕ) → slice_get v.clients m ≡ None → (m ≡ n) ⊎ ((m ≡ n) → ⊥) → IsQuiet (talk_of m v.messages) (held_of m v) (asked_of m v)
    nobody m none (inl same) = let now : slice_get v.clients n ≡ None = ap (slice_get v.clients) (sym same) ∙ none in let no : ⊥ = cc (own_state, now) in absurd no
    nobody m none (inr apart) =
        let q = k.nobody m (sym (other_state m apart) ∙ none) in
        record { no_letters = letters m apart ∙ q.no_letters; none_held = held m ∙ q.none_held; none_asked = asked m apart ∙ q.none_asked }

-- a client that doesn't wait
quiet-of : (r : Rules) (w : World) (n : ℕ) (c : ClientState) → Conversation r w → slice_get w.clients n ≡ Some c → waits c ≡ false → IsQuiet (talk_of n w.messages) (held_of n w) (asked_of n w)
quiet-of r w n c k here free = subst (TalksSo (client_plan r n) n c (talk_of n w.messages) (held_of n w) (asked_of n w)) free (k.talks n c here)

-- it sends nothing
sends-none : (r : Rules) (w : World) (ms : List Letter) (n : ℕ) (c d : ClientState) (lines : List Line) → Conversation r w → slice_get w.clients n ≡ Some c → ((m : ℕ) → ((m ≡ n) → ⊥) → talk_of m ms ≡ talk_of m w.messages)
    → TalksSo (client_plan r n) n d (talk_of n ms) (held_of n w) (asked_of n w) (waits d) → Conversation r (after_client (without w ms) n [] lines d)
sends-none r w ms n c d lines k here others own =
    turned r w (after_client (without w ms) n [] lines d) n c d k here refl refl (λ m apart. ap (talk_of m) (append-nil ms) ∙ others m apart) (λ m apart. refl)
    (subst (λ ls. TalksSo (client_plan r n) n d ls (held_of n w) (asked_of n w) (waits d)) (sym (ap (talk_of n) (append-nil ms))) own)

-- it asks, and waits
sends-one : (r : Rules) (w : World) (ms : List Letter) (n : ℕ) (c d : ClientState) (lines : List Line) (q : Post) → Conversation r w → slice_get w.clients n ≡ Some c → ((m : ℕ) → ((m ≡ n) → ⊥) → talk_of m ms ≡ talk_of m w.messages)
    → q.to.client ≡ false → is_tell q.message ≡ false → is_answerable q.message ≡ true → IsQuiet (talk_of n ms) (held_of n w) (asked_of n w) → IsQuestion (client_plan r n) d q → waits d ≡ true → Conversation r (after_client (without w ms) n (q ∷ []) lines d)
sends-one r w ms n c d lines q k here others to no_tell answerable free question now =
    turned r w (after_client (without w ms) n (q ∷ []) lines d) n c d k here refl refl (λ m apart. talk-beside m ms l (sent-is-no-talk n m l refl to apart) ∙ others m apart)
    (λ m apart. ap (filter (is_asked_by m)) (asked-more w.asked l answerable) ∙ no-more (is_asked_by m) w.asked l (by-another n m l refl apart))
    (subst (TalksSo (client_plan r n) n d (talk_of n (ms ++ l ∷ [])) (held_of n w) (filter (is_asked_by n) (asked_with w.asked l))) (sym now)
    (IsAsked q question (talk-with n ms l (sent-is-talk n l no_tell refl) ∙ ap (λ x. x ++ l ∷ []) free.no_letters) free.none_held
    (ap (filter (is_asked_by n)) (asked-more w.asked l answerable) ∙ one-more (is_asked_by n) w.asked l (by-itself n l refl) ∙ ap (λ x. x ++ l ∷ []) free.none_asked)))
  where
    l : Letter
    l = letter_of (client n) q

-- ---- moves

asked-answerable : (p : ClientPlan) (k : Epoch) (c : ClientState) (a : Present) (q : Post) → Asked p k c a q → is_answerable q.message ≡ true
asked-answerable p k c a q (ARead ops turns snapshot op r at is asked says) = ap (λ x. is_answerable x.message) says
asked-answerable p k c a q (ItsWrites ops turns snapshot w ws at last all says) = ap (λ x. is_answerable x.message) says
asked-answerable p k c a q (ASnapshot name cont at says) = ap (λ x. is_answerable x.message) says
asked-answerable p k c a q (AnAggregation cont at says) = ap (λ x. is_answerable x.message) says

pub moves-keep : (r : Rules) → KeptByMoves r (Conversation r)
moves-keep r w n c here k = by (waits c) refl
  where
    p : ClientPlan
    p = client_plan r n

    moving : waits c ≡ false → IsMove p c (moved p c) → Conversation r (after_move w n (moved p c))
    moving h (Silent free none) =
        subst (λ o. Conversation r (after_client w n (listed o) (listed (moved p c).line) (moved p c).state)) (sym none)
        (sends-none r w w.messages n c (moved p c).state (listed (moved p c).line) k here (λ m apart. refl) (subst (TalksSo p n (moved p c).state (talk_of n w.messages) (held_of n w) (asked_of n w)) (sym free) (quiet-of r w n c k here h)))
    moving h (Telling m none free says) =
        let l : Letter = letter_of (client n) (tells_tracker c m) in
        subst (λ o. Conversation r (after_client w n (listed o) (listed (moved p c).line) (moved p c).state)) (sym says)
        (turned r w (after_client w n (tells_tracker c m ∷ []) (listed (moved p c).line) (moved p c).state) n c (moved p c).state k here refl refl (λ j apart. talk-beside j w.messages l (tell-is-no-talk j l refl))
        (λ j apart. ap (filter (is_asked_by j)) (asked-tell w.asked l c.tracker refl))
        (subst (TalksSo p n (moved p c).state (talk_of n (w.messages ++ l ∷ [])) (held_of n w) (filter (is_asked_by n) (asked_with w.asked l))) (sym free)
        (let q = quiet-of r w n c k here h in
        record {
          no_letters = talk-beside n w.messages l (tell-is-no-talk n l refl) ∙ q.no_letters;
          none_held = q.none_held;
          none_asked = ap (filter (is_asked_by n)) (asked-tell w.asked l c.tracker refl) ∙ q.none_asked;
        })))
    moving h (Asking a q at asked says after) =
        let i : IsRequest p c a q = asked-is-request p c.tracker c a q asked in
        subst (λ s. Conversation r (after_client w n (listed (moved p c).post) (listed (moved p c).line) s)) (sym after)
        (subst (λ o. Conversation r (after_client w n (listed o) (listed (moved p c).line) (at_present (record a { waits = true }) c))) (sym says)
        (sends-one r w w.messages n c (at_present (record a { waits = true }) c) (listed (moved p c).line) q k here (λ m apart. refl) i.to_target i.no_tell (asked-answerable p c.tracker c a q asked) (quiet-of r w n c k here h)
        (ItsRequest c.tracker (omega arith) (asks-what-it-asked p c a q h at says)) refl))

    by : (b : Bool) → waits c ≡ b → Conversation r (after_move w n (moved p c))
    by true h = subst (λ m. Conversation r (after_move w n m)) (sym (waiting-rests p c h)) (subst (Conversation r) (sym (after-none w n c here)) k)
    by false h = moving h (move-is p c h)

-- ---- what was asked stays so

question-as : (p : ClientPlan) (c d : ClientState) (q : Post) → c.tracker.0 ≤ d.tracker.0 → ((k : Epoch) → request_sent p k d ≡ request_sent p k c) → IsQuestion p c q → IsQuestion p d q
question-as p c d q rises same (ItsRequest k low sent) = ItsRequest k (omega (arith, low, rises)) (same k ∙ sent)
question-as p c d q rises same (ItsAsk k s f low sent commit says) = ItsAsk k s f (omega (arith, low, rises)) (same k ∙ sent) commit says

talks-as : (p : ClientPlan) (n : ℕ) (c d : ClientState) (letters : List Letter) (held : List waits'.Held) (asked : List Letter) (b : Bool) → ((q : Post) → IsQuestion p c q → IsQuestion p d q) → TalksSo p n c letters held asked b → TalksSo p n d letters held asked b
talks-as p n c d letters held asked false as' t = t
talks-as p n c d letters held asked true as' (IsAsked q is one none free) = IsAsked q (as' q is) one none free
talks-as p n c d letters held asked true as' (IsHeld q x is holds none one free) = IsHeld q x (as' q is) holds none one free
talks-as p n c d letters held asked true as' (IsReplied q l is k one none free) = IsReplied q l (as' q is) k one none free

pub counting-keeps : (r : Rules) → KeptByCounting (Conversation r)
counting-keeps r w n s c here k =
    turned r w (record w { clients = set w.clients n (record c { skip = s }) }) n c (record c { skip = s }) k here refl refl (λ m apart. refl) (λ m apart. refl)
    (talks-as (client_plan r n) n c (record c { skip = s }) (talk_of n w.messages) (held_of n w) (asked_of n w) (waits c)
    (λ q. question-as (client_plan r n) c (record c { skip = s }) q (omega arith) (λ e. skipping-sends-the-same (client_plan r n) (record c { tracker = e; present = before_waiting c.present }) s)) (k.talks n c here))

-- ---- hearing

-- a question goes to a target, and is about the present attempt
pub record IsAbout (p : ClientPlan) (c : ClientState) (a : Present) (q : Post) : Type 0 where
  pub to_target : q.to.client ≡ false
  pub of_attempt : request_of q.message ≡ Some (attempt_id p c a)

pub question-about : (p : ClientPlan) (c : ClientState) (a : Present) (q : Post) → c.present ≡ Some a → IsQuestion p c q → IsAbout p c a q
question-about p c a q at (ItsRequest k low sent) = let i = asked-is-request p k c a q (sent-is-asked p k c a q at sent) in record { to_target = i.to_target; of_attempt = i.of_attempt }
question-about p c a q at (ItsAsk k s f low sent commit says) =
    let i = asked-is-request p k c a s (sent-is-asked p k c a s at sent) in
    record { to_target = ap (λ x. x.to.client) says ∙ i.to_target; of_attempt = ap (λ x. request_of x.message) says ∙ sym (ap request_of commit) ∙ i.of_attempt }

-- its letter isn't one to a client
not-to : (n m : ℕ) (q : Post) → q.to.client ≡ false → q.to ≡ client m → ⊥
not-to n m q to is = let e : q.to.client ≡ true = ap (λ x. x.client) is in let no : ⊥ = cc in no

-- a client that waits is at an attempt
pub record IsAt (c : ClientState) : Type 0 where
  pub a : Present
  pub at : c.present ≡ Some a
  pub now : a.waits ≡ true

pub present-of : (c : ClientState) → waits c ≡ true → IsAt c
present-of c h = by c.present refl h
  where
    by : (o : Option Present) → c.present ≡ o → is_waiting o ≡ true → IsAt c
    by None e h = let no : ⊥ = cc in absurd no
    by (Some a) e h = record { a = a; at = e; now = h }

-- after a loss the client asks what became of its attempt
record AsksAfter (p : ClientPlan) (m : Move) : Type 0 where
  asks : Post
  says : m.post ≡ Some asks
  to_target : asks.to.client ≡ false
  no_tell : is_tell asks.message ≡ false
  answerable : is_answerable asks.message ≡ true
  question : IsQuestion p m.state asks
  now : waits m.state ≡ true

module _ (p : ClientPlan) (c : ClientState) (a : Present) (at : c.present ≡ Some a) (e : Epoch) (rises : c.tracker.0 ≤ e.0) where
  -- the attempt as it is while the client hears, and the client that asks
  abbrev free : Present
  free = record a { waits = false }

  abbrev hearing : ClientState
  hearing = record c { tracker = e }

  abbrev asking : ClientState
  asking = at_present (record free { waits = true }) hearing

  sent-as : (k : Epoch) → request_sent p k asking ≡ request_sent p k c
  sent-as k = ap (λ o. (moved p (record c { tracker = k; present = before_waiting o })).post) (sym at)

  same-actor : (to : ActorId) → to.client ≡ false → record { client = false; number = to.number } ≡ to
  same-actor to off = ap (λ b. record { client = b; number = to.number }) (sym off)

  -- it asks the target that it had handed the writes over to
  asks-on : (k : Epoch) (s : Post) (f : CommitRequest) (to : ActorId) → k.0 ≤ c.tracker.0 → request_sent p k c ≡ Some s → s.message ≡ commit_of f → to ≡ s.to → s.to.client ≡ false → f.attempt ≡ attempt_id p c a → AsksAfter p (asks_again p hearing free to.number)
  asks-on k s f to low sent commit same off of = record {
    asks = record { to = record { client = false; number = to.number }; message = message.Ask (attempt_id p c a) };
    says = refl;
    to_target = refl;
    no_tell = refl;
    answerable = refl;
    question = ItsAsk k s f (omega (arith, low, rises)) (sent-as k ∙ sent) commit
        (ap (λ z. record { to = z; message = message.Ask (attempt_id p c a) }) (ap (λ z. record { client = false; number = z.number }) same ∙ same-actor s.to off) ∙ ap (λ x. record { to = s.to; message = message.Ask x }) (sym of));
    now = refl;
  }

  -- what a client does that hears that its question was lost at a target that stopped
  lost-there : (q : Post) → IsQuestion p c q → IsSilent (reset p hearing free q.to.number q.message) ⊎ AsksAfter p (reset p hearing free q.to.number q.message)
  lost-there q (ItsRequest k low sent) = by (sent-is-asked p k c a q at sent)
    where
      silent : (how : Outcome) → IsSilent (ends p hearing free how)
      silent how = hear.replied-silent p hearing free (reply.Outcome how) refl

      by : Asked p k c a q → IsSilent (reset p hearing free q.to.number q.message) ⊎ AsksAfter p (reset p hearing free q.to.number q.message)
      by (ARead ops turns snapshot op rd at' is asked says) = inl (subst (λ m. IsSilent (reset p hearing free q.to.number m)) (sym (ap (λ x. x.message) says)) (silent (outcome.Restart (Unresolved (attempt_id p hearing free)))))
      by (ItsWrites ops turns snapshot w ws at' last all says) =
          inr (subst (λ m. AsksAfter p (reset p hearing free q.to.number m)) (sym (ap (λ x. x.message) says))
          (asks-on k q (record { attempt = attempt_id p c a; ep = a.epoch; first = a.first; tracker = k; writes = w ∷ ws }) q.to low sent (ap (λ x. x.message) says) refl (ap (λ x. x.to.client) says) refl))
      by (ASnapshot name cont at' says) = inl (subst (λ m. IsSilent (reset p hearing free q.to.number m)) (sym (ap (λ x. x.message) says)) (silent (outcome.Restart (Unresolved (attempt_id p hearing free)))))
      by (AnAggregation cont at' says) = inl (subst (λ m. IsSilent (reset p hearing free q.to.number m)) (sym (ap (λ x. x.message) says)) (silent (outcome.Restart (Unresolved (attempt_id p hearing free)))))
  lost-there q (ItsAsk k s f low sent commit says) =
      let i = asked-is-request p k c a s (sent-is-asked p k c a s at sent) in
      let of : Some f.attempt ≡ Some (attempt_id p c a) = sym (ap request_of commit) ∙ i.of_attempt in
      let its : f.attempt ≡ attempt_id p c a = cc in
      inr (subst (λ m. AsksAfter p (reset p hearing free q.to.number m)) (sym (ap (λ x. x.message) says)) (asks-on k s f q.to low sent commit (ap (λ x. x.to) says) i.to_target its))

pub hearing-keeps : (r : Rules) → KeptByHearing r (Conversation r)
hearing-keeps r w n c l rest here awake takes to k = by (is_tell l.message) refl
  where
    p : ClientPlan
    p = client_plan r n

    c2 : ClientState
    c2 = hears_epochs l.message c

    told : is_tell l.message ≡ true → Conversation r (after_client (without w rest) n [] [] c2)
    told h =
        sends-none r w rest n c c2 [] k here (λ m apart. talk-taken m w.messages l rest takes (tell-is-no-talk m l h))
        (subst (λ ls. TalksSo p n c2 ls (held_of n w) (asked_of n w) (waits c)) (sym (talk-taken n w.messages l rest takes (tell-is-no-talk n l h)))
        (talks-as p n c c2 (talk_of n w.messages) (held_of n w) (asked_of n w) (waits c) (λ q. question-as p c c2 q (tracker-rises l.message c) (λ e. refl)) (k.talks n c here)))

    -- of no other client's conversation
    beside : (q : Post) → q.to.client ≡ false → l.from ≡ q.to → (m : ℕ) → ((m ≡ n) → ⊥) → talk_of m rest ≡ talk_of m w.messages
    beside q off from m apart = talk-taken m w.messages l rest takes (got-is-no-talk n m l (ap (λ x. x.client) from ∙ off) to apart)

    -- the turn goes on without a message, and the client doesn't wait
    silently : (q : Post) (m : Move) → q.to.client ≡ false → l.from ≡ q.to → IsSilent m → IsQuiet (talk_of n rest) (held_of n w) (asked_of n w) → Conversation r (after_move (without w rest) n m)
    silently q m off from s free =
        subst (λ o. Conversation r (after_client (without w rest) n (listed o) (listed m.line) m.state)) (sym s.no_post)
        (sends-none r w rest n c m.state (listed m.line) k here (beside q off from) (subst (TalksSo p n m.state (talk_of n rest) (held_of n w) (asked_of n w)) (sym s.goes_on) free))

    -- or it asks what became of its attempt
    asking-again : (q : Post) (m : Move) → q.to.client ≡ false → l.from ≡ q.to → AsksAfter p m → IsQuiet (talk_of n rest) (held_of n w) (asked_of n w) → Conversation r (after_move (without w rest) n m)
    asking-again q m off from s free =
        subst (λ o. Conversation r (after_client (without w rest) n (listed o) (listed m.line) m.state)) (sym s.says)
        (sends-one r w rest n c m.state (listed m.line) s.asks k here (beside q off from) s.to_target s.no_tell s.answerable free s.question s.now)

    answer : (h : is_tell l.message ≡ false) → waits c ≡ true → (i : IsAt c) → (q : Post) → IsQuestion p c q → IsReply n q l → IsQuiet (talk_of n rest) (held_of n w) (asked_of n w) → Conversation r (after_move (without w rest) n (heard p c l.message))
    answer h now i q is got nothing = says got.says
      where
        b : IsAbout p c i.a q
        b = question-about p c i.a q i.at is

        lost-now : (down : Bool) → l.message ≡ reset_message q.to.number down q.message → heard p c l.message ≡ reset_by p c2 (record i.a { waits = false }) q.to.number down q.message
        lost-now down same = hears-answer p c i.a l.message i.at i.now (ap about same ∙ b.of_attempt) ∙ ap (answered p c2 i.a) same

        says : IsReplyTo q l.message → Conversation r (after_move (without w rest) n (heard p c l.message))
        says (waits'.IsAnswer ans) =
            let k' = hear.answer-is q.message l.message ans in
            subst (λ m. Conversation r (after_move (without w rest) n m)) (sym (hears-answer p c i.a l.message i.at i.now (k'.same_about ∙ b.of_attempt)))
            (silently q (answered p c2 i.a l.message) b.to_target got.from (k'.ends_waiting p c2 i.a) nothing)
        says (waits'.IsLost true same) =
            subst (λ m. Conversation r (after_move (without w rest) n m)) (sym (lost-now true same))
            (silently q (ends p c2 (record i.a { waits = false }) (outcome.Unknown q.to.number)) b.to_target got.from (hear.replied-silent p c2 (record i.a { waits = false }) (reply.Outcome (outcome.Unknown q.to.number)) refl) nothing)
        says (waits'.IsLost false same) =
            subst (λ m. Conversation r (after_move (without w rest) n m)) (sym (lost-now false same))
            (elim (lost-there p c i.a i.at c2.tracker (tracker-rises l.message c) q is) [
              | inl s ↦ silently q (reset p c2 (record i.a { waits = false }) q.to.number q.message) b.to_target got.from s nothing
              | inr s ↦ asking-again q (reset p c2 (record i.a { waits = false }) q.to.number q.message) b.to_target got.from s nothing
            ])

    heard-one : is_tell l.message ≡ false → Conversation r (after_move (without w rest) n (heard p c l.message))
    heard-one h = by' (waits c) refl (k.talks n c here)
      where
        its : is_talk_of n l ≡ true
        its = got-is-talk n l h to

        by' : (b : Bool) → waits c ≡ b → TalksSo p n c (talk_of n w.messages) (held_of n w) (asked_of n w) b → Conversation r (after_move (without w rest) n (heard p c l.message))
        by' false now q = absurd (talk-none n w.messages l rest takes its q.no_letters)
        by' true now (IsAsked q is one none done) =
            let i = present-of c now in
            let only = talk-only n w.messages l (letter_of (client n) q) rest takes its one in
            absurd (not-to n n q (question-about p c i.a q i.at is).to_target (sym (ap (λ x. x.to) only.0) ∙ to))
        by' true now (IsHeld q x is holds none one done) = absurd (talk-none n w.messages l rest takes its none)
        by' true now (IsReplied q m is got one none done) =
            let only = talk-only n w.messages l m rest takes its one in
            answer h now (present-of c now) q is (subst (IsReply n q) (sym only.0) got) (record { no_letters = only.1; none_held = none; none_asked = done })

    by : (b : Bool) → is_tell l.message ≡ b → Conversation r (after_move (without w rest) n (heard p c l.message))
    by true h = subst (λ m. Conversation r (after_move (without w rest) n m)) (sym (hears-tell p c l.message h)) (told h)
    by false h = heard-one h

-- ---- turns

pub goes-keeps : (r : Rules) (w v : World) → ClientGoes r w v → Conversation r w → Conversation r v
goes-keeps r w v g k = by-next r (Conversation r) (moves-keep r) (counting-keeps r) w v k g

pub hears-keeps : (r : Rules) (w v : World) → ClientHears r w v → Conversation r w → Conversation r v
hears-keeps r w v g k = by-hearing r (Conversation r) (moves-keep r) (hearing-keeps r) w v k g
