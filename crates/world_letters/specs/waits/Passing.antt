-- A turn of a target answers a client, or holds what that asked: what becomes of the client's conversation.
use Rattle.std.specs.Prelude.{ℕ, zero, suc, ◌≡◌, ◌⊎◌, ◌+◌, ◌++◌, ◌==◌, ◌&&◌, ◌||◌, Bool, true, false, not, if◌then◌else◌, List, [], ◌∷◌, filter, slice_get, Some, refl}
use Rattle.std.proofs.Common.{append-nil, sym, ◌∙◌, ap, subst, arith, inl, inr}
use Rattle.std.proofs.Math.ListN.{set}
use Rattle.std.proofs.lemmas.List.{append_assoc}
use Rattle.std.proofs.lemmas.List.Elements.{filter-append}
use Rattle.base_types.specs.declared.id.AttemptId.{AttemptId}
use Rattle.base_messages.specs.declared.actor.ActorId.{ActorId}
use Rattle.base_messages.specs.declared.message.Message.{Message}
use Rattle.base_messages.specs.declared.message.Message.TheVariants as message
use Rattle.base_messages.specs.declared.message.Post.{Post}
use Rattle.daos_model.specs.BoolLaws.{and_left, and_right, clash, false_of}
use Rattle.daos_model.specs.EntryLaws.{same_attempt-itself}
use Rattle.world_base.specs.model_laws.Members.{Has, has-from_filter}
use Rattle.world_base.specs.model_laws.TargetLaws.{number_same, same_number}
use Rattle.world_base.specs.declared.client.ClientState.{ClientState}
use Rattle.world_base.specs.declared.letter.Letter.{Letter}
use Rattle.world_base.specs.declared.target.Life.TheVariants.{Running}
use Rattle.world_base.specs.declared.target.TargetMemory.{TargetMemory}
use Rattle.world_base.specs.declared.target.TargetState.{TargetState}
use Rattle.world_base.specs.declared.world.World.{World}
use Rattle.world_base.specs.ClientTurns.{request_of, waits}
use Rattle.world_base.specs.Events.{Rules, client_plan}
use Rattle.world_base.specs.Letters.{Takes, asked_after, asked_with, client, is_answer_to, is_answerable, is_client, is_reply, is_talk_of, is_tell, letter_of, letters_of, same_actor, same_truth, talk_of, target, without_first}
use Rattle.world_letters.specs.talks.Conversation.{Answers}
use Rattle.world_letters.specs.talks.TalkLaws.{talk-none, talk-only, talk-taken}
use Rattle.world_letters.specs.waits.ClientLaws.{no-more, present-of, question-about, without-no, without-yes}
use Rattle.world_letters.specs.waits.Events.{quiet-set}
use Rattle.world_letters.specs.waits.Lists.{filter-no, filter-none, filter-yes, held-at}
use Rattle.world_letters.specs.waits.Losing.{held-there}
use Rattle.world_letters.specs.waits.TargetLaws.{AreBetween, filter-without}
use Rattle.world_letters.specs.waits.Waits.{Conversation, Held, HoldsIt, IsAnswer, IsAsked, IsHeld, IsQuestion, IsQuiet, IsReplied, TalksSo, asked_of, held_by, held_from, held_of, is_asked_by}

-- ---- what a target sends a client

abbrev pub is_post_to : ℕ → Post → Bool
is_post_to n p = is_client n p.to

-- what a client is told
abbrev pub told_to : ℕ → List Post → List Post
told_to n posts = filter (is_post_to n) posts

pub told-none : (n : ℕ) (posts : List Post) → AreBetween posts → told_to n posts ≡ []
told-none n posts between = filter-none (is_post_to n) posts (λ p i. ap (λ b. b && (p.to.number == n)) (between p i))

pub its-client : (n : ℕ) (a : ActorId) → is_client n a ≡ true → a ≡ client n
its-client n a is =
    ap (λ b. record { client = b; number = a.number }) (and_left a.client (a.number == n) is) ∙ ap client (number_same a.number n (and_right a.client (a.number == n) is))

off-filtered : {T : Type 0} (p : T → Bool) (x : T) (xs : List T) → filter p (x ∷ xs) ≡ [] → p x ≡ false
off-filtered p x xs none = false_of (p x) (λ is. let no : ⊥ = cc (sym (filter-yes p x xs is) ∙ none) in no)

filtered-is : {T : Type 0} (p : T → Bool) (x : T) (ys xs : List T) → filter p xs ≡ x ∷ ys → p x ≡ true
filtered-is p x ys xs one = (has-from_filter p xs x (subst (Has x) (sym one) (inl refl))).1

-- a message that answers a request
record IsAnswering (q m : Message) : Type 0 where
  plain : is_answerable m ≡ false
  no_tell : is_tell m ≡ false
  replies : is_reply m q ≡ true

answers-so : (q m : Message) → Answers q m → IsAnswering q m
answers-so (message.Fetch x op group e first tracker r snapshot) m k = record {
  plain = ap is_answerable k.2;
  no_tell = ap is_tell k.2;
  replies = ap (λ z. is_reply z (message.Fetch x op group e first tracker r snapshot)) k.2
      ∙ (ap (λ b. b && (op == op) && (group == group)) (same_attempt-itself x) ∙ ap (λ b. b && (group == group)) (same_number op) ∙ same_number group);
}
answers-so (message.Commit x e first tracker ws) m k = record { plain = ap is_answerable k.2; no_tell = ap is_tell k.2; replies = ap (λ z. is_reply z (message.Commit x e first tracker ws)) k.2 ∙ same_attempt-itself x }
answers-so (message.Ask x) m k = record { plain = ap is_answerable k.2; no_tell = ap is_tell k.2; replies = ap (λ z. is_reply z (message.Ask x)) k.2 ∙ same_attempt-itself x }
answers-so (message.Snap x cont name tracker) m k = record { plain = ap is_answerable k.2; no_tell = ap is_tell k.2; replies = ap (λ z. is_reply z (message.Snap x cont name tracker)) k.2 ∙ same_attempt-itself x }
answers-so (message.Prune x cont tracker e) m k = record { plain = ap is_answerable k.2; no_tell = ap is_tell k.2; replies = ap (λ z. is_reply z (message.Prune x cont tracker e)) k.2 ∙ same_attempt-itself x }
answers-so q m k = absurd k

-- ---- letters

talk-off : (n t : ℕ) (p : Post) → is_client n p.to ≡ false → is_talk_of n (letter_of (target t) p) ≡ false
unfolding is_talk_of
talk-off n t p off = by (is_tell p.message) (is_client n p.to) off
  where
    by : (b c : Bool) → c ≡ false → (not b && (false || c)) ≡ false
    by true c e = refl
    by false c e = e

talk-on : (n t : ℕ) (p : Post) → is_client n p.to ≡ true → is_tell p.message ≡ false → is_talk_of n (letter_of (target t) p) ≡ true
unfolding is_talk_of
talk-on n t p on no_tell = ap (λ b. not b && (false || is_client n p.to)) no_tell ∙ on

talk-told_none : (n t : ℕ) (posts : List Post) → told_to n posts ≡ [] → talk_of n (letters_of (target t) posts) ≡ []
talk-told_none n t [] none = refl
talk-told_none n t (p ∷ posts) none =
    let off = off-filtered (is_post_to n) p posts none in
    filter-no (is_talk_of n) (letter_of (target t) p) (letters_of (target t) posts) (talk-off n t p off) ∙ talk-told_none n t posts (sym (filter-no (is_post_to n) p posts off) ∙ none)

talk-told_one : (n t : ℕ) (posts : List Post) (q : Post) → told_to n posts ≡ q ∷ [] → is_tell q.message ≡ false → talk_of n (letters_of (target t) posts) ≡ letter_of (target t) q ∷ []
talk-told_one n t [] q one no_tell = let no : ⊥ = cc in absurd no
talk-told_one n t (p ∷ posts) q one no_tell = by (talk-told_one n t posts q) (is_client n p.to) refl
  where
    by : (told_to n posts ≡ q ∷ [] → is_tell q.message ≡ false → talk_of n (letters_of (target t) posts) ≡ letter_of (target t) q ∷ []) → (b : Bool) → is_client n p.to ≡ b → talk_of n (letters_of (target t) (p ∷ posts)) ≡ letter_of (target t) q ∷ []
    by rest true on =
        let both' : p ∷ told_to n posts ≡ q ∷ [] = sym (filter-yes (is_post_to n) p posts on) ∙ one in
        let same : p ≡ q = cc in
        let none : told_to n posts ≡ [] = cc in
        filter-yes (is_talk_of n) (letter_of (target t) p) (letters_of (target t) posts) (talk-on n t p on (ap (λ x. is_tell x.message) same ∙ no_tell)) ∙ ap (λ ls. letter_of (target t) p ∷ ls) (talk-told_none n t posts none)
        ∙ ap (λ x. letter_of (target t) x ∷ []) same
    by rest false off = filter-no (is_talk_of n) (letter_of (target t) p) (letters_of (target t) posts) (talk-off n t p off) ∙ rest (sym (filter-no (is_post_to n) p posts off) ∙ one) no_tell

-- ---- what is without an answer

filter-within : {T : Type 0} (p b : T → Bool) (xs : List T) → ((x : T) → p x ≡ true → b x ≡ true) → filter b (without_first p xs) ≡ without_first p (filter b xs)
filter-within p b [] within = refl
filter-within {T} p b (x ∷ xs) within = by (filter-within p b xs within) (p x) (b x) refl refl
  where
    by : filter b (without_first p xs) ≡ without_first p (filter b xs) → (c d : Bool) → p x ≡ c → b x ≡ d → filter b (without_first p (x ∷ xs)) ≡ without_first p (filter b (x ∷ xs))
    by rest true true e f = ap (filter b) (without-yes p x xs e) ∙ sym (ap (without_first p) (filter-yes b x xs f) ∙ without-yes p x (filter b xs) e)
    by rest true false e f = clash (b x) (within x e) f
    by rest false true e f = ap (filter b) (without-no p x xs e) ∙ filter-yes b x (without_first p xs) f ∙ ap (λ ys. x ∷ ys) rest ∙ sym (ap (without_first p) (filter-yes b x xs f) ∙ without-no p x (filter b xs) e)
    by rest false false e f = ap (filter b) (without-no p x xs e) ∙ filter-no b x (without_first p xs) f ∙ rest ∙ sym (ap (without_first p) (filter-no b x xs f))

-- what answers a letter goes to who sent that
answers-by : (n : ℕ) (l q : Letter) → is_answer_to l q ≡ true → is_asked_by n q ≡ is_client n l.to
unfolding is_answer_to
answers-by n l q is = by l.to.client q.from.client (l.to.number == q.from.number) (same_actor l.from q.to) (is_reply l.message q.message) refl is
  where
    by : (a b c d e : Bool) → (l.to.number == q.from.number) ≡ c → (d && (same_truth a b && c) && e) ≡ true → (b && (q.from.number == n)) ≡ (a && (l.to.number == n))
    by true true true d e at is = ap (λ m. m == n) (sym (number_same l.to.number q.from.number at))
    by false false c d e at is = refl
    by true true false true e at is = let no : ⊥ = cc in absurd no
    by true true false false e at is = let no : ⊥ = cc in absurd no
    by true false c true e at is = let no : ⊥ = cc in absurd no
    by true false c false e at is = let no : ⊥ = cc in absurd no
    by false true c true e at is = let no : ⊥ = cc in absurd no
    by false true c false e at is = let no : ⊥ = cc in absurd no

post-off : (n t : ℕ) (asked : List Letter) (p : Post) → is_client n p.to ≡ false → filter (is_asked_by n) (asked_with asked (letter_of (target t) p)) ≡ filter (is_asked_by n) asked
unfolding asked_with
post-off n t asked p off = by (is_answerable p.message)
  where
    by : (b : Bool) → filter (is_asked_by n) (if b then asked ++ letter_of (target t) p ∷ [] else without_first (is_answer_to (letter_of (target t) p)) asked) ≡ filter (is_asked_by n) asked
    by true = no-more (is_asked_by n) asked (letter_of (target t) p) refl
    by false = filter-without (is_answer_to (letter_of (target t) p)) (is_asked_by n) asked (λ q is. answers-by n (letter_of (target t) p) q is ∙ off)

post-on : (n t : ℕ) (asked : List Letter) (p : Post) → is_client n p.to ≡ true → is_answerable p.message ≡ false
    → filter (is_asked_by n) (asked_with asked (letter_of (target t) p)) ≡ without_first (is_answer_to (letter_of (target t) p)) (filter (is_asked_by n) asked)
unfolding asked_with
post-on n t asked p on plain =
    ap (λ (b : Bool). filter (is_asked_by n) (if b then asked ++ letter_of (target t) p ∷ [] else without_first (is_answer_to (letter_of (target t) p)) asked)) plain
    ∙ filter-within (is_answer_to (letter_of (target t) p)) (is_asked_by n) asked (λ q is. answers-by n (letter_of (target t) p) q is ∙ on)

asked-told_none : (n t : ℕ) (asked : List Letter) (posts : List Post) → told_to n posts ≡ [] → filter (is_asked_by n) (asked_after asked (letters_of (target t) posts)) ≡ filter (is_asked_by n) asked
asked-told_none n t asked [] none = refl
asked-told_none n t asked (p ∷ posts) none =
    let off = off-filtered (is_post_to n) p posts none in
    asked-told_none n t (asked_with asked (letter_of (target t) p)) posts (sym (filter-no (is_post_to n) p posts off) ∙ none) ∙ post-off n t asked p off

asked-told_one : (n t : ℕ) (asked : List Letter) (posts : List Post) (q : Post) → told_to n posts ≡ q ∷ [] → is_answerable q.message ≡ false
    → filter (is_asked_by n) (asked_after asked (letters_of (target t) posts)) ≡ without_first (is_answer_to (letter_of (target t) q)) (filter (is_asked_by n) asked)
asked-told_one n t asked [] q one plain = let no : ⊥ = cc in absurd no
asked-told_one n t asked (p ∷ posts) q one plain = by (asked-told_one n t (asked_with asked (letter_of (target t) p)) posts q) (is_client n p.to) refl
  where
    by : (told_to n posts ≡ q ∷ [] → is_answerable q.message ≡ false
        → filter (is_asked_by n) (asked_after (asked_with asked (letter_of (target t) p)) (letters_of (target t) posts)) ≡ without_first (is_answer_to (letter_of (target t) q)) (filter (is_asked_by n) (asked_with asked (letter_of (target t) p))))
        → (b : Bool) → is_client n p.to ≡ b → filter (is_asked_by n) (asked_after asked (letters_of (target t) (p ∷ posts))) ≡ without_first (is_answer_to (letter_of (target t) q)) (filter (is_asked_by n) asked)
    by rest true on =
        let both' : p ∷ told_to n posts ≡ q ∷ [] = sym (filter-yes (is_post_to n) p posts on) ∙ one in
        let same : p ≡ q = cc in
        let none : told_to n posts ≡ [] = cc in
        asked-told_none n t (asked_with asked (letter_of (target t) p)) posts none ∙ post-on n t asked p on (ap (λ x. is_answerable x.message) same ∙ plain)
        ∙ ap (λ x. without_first (is_answer_to (letter_of (target t) x)) (filter (is_asked_by n) asked)) same
    by rest false off = rest (sym (filter-no (is_post_to n) p posts off) ∙ one) plain ∙ ap (without_first (is_answer_to (letter_of (target t) q))) (post-off n t asked p off)

answers-it : (n t : ℕ) (p q : Post) → q.to ≡ target t → p.to ≡ client n → is_reply p.message q.message ≡ true → is_answer_to (letter_of (target t) p) (letter_of (client n) q) ≡ true
unfolding is_answer_to
answers-it n t p q to to_client replies =
    ap (λ a. same_actor (target t) a && same_actor p.to (client n) && is_reply p.message q.message) to ∙ ap (λ b. b && same_actor p.to (client n) && is_reply p.message q.message) (same_number t)
    ∙ ap (λ a. same_actor a (client n) && is_reply p.message q.message) to_client ∙ ap (λ b. b && is_reply p.message q.message) (same_number n) ∙ replies

-- ---- what targets hold

-- what others hold, and what one of them
pub record HeldBeside (n t i k : ℕ) (ss : List TargetState) (s : TargetState) : Type 0 where
  pub before : List Held
  pub after : List Held
  pub was : held_from n i ss ≡ before ++ (held_by n t s.memory ++ after)
  pub becomes : (z : TargetState) → held_from n i (set ss k z) ≡ before ++ (held_by n t z.memory ++ after)

pub held-beside : (n t i k : ℕ) (ss : List TargetState) (s : TargetState) → slice_get ss k ≡ Some s → t ≡ i + k → HeldBeside n t i k ss s
held-beside n t i k [] s here at = let no : ⊥ = cc in absurd no
held-beside n t i zero (y ∷ ys) s here at =
    let same : y ≡ s = cc in
    let it : i ≡ t = omega (arith, at) in
    record {
      before = [];
      after = held_from n (i + 1) ys;
      was = ap (λ j. held_by n j y.memory ++ held_from n (i + 1) ys) it ∙ ap (λ x. held_by n t x.memory ++ held_from n (i + 1) ys) same;
      becomes = λ z. ap (λ j. held_by n j z.memory ++ held_from n (i + 1) ys) it;
    }
held-beside n t i (suc k) (y ∷ ys) s here at =
    let h : HeldBeside n t (i + 1) k ys s = held-beside n t (i + 1) k ys s here (omega (arith, at)) in
    record {
      before = held_by n i y.memory ++ h.before;
      after = h.after;
      was = ap (λ x. held_by n i y.memory ++ x) h.was ∙ sym (append_assoc (held_by n i y.memory) h.before (held_by n t s.memory ++ h.after));
      becomes = λ z. ap (λ x. held_by n i y.memory ++ x) (h.becomes z) ∙ sym (append_assoc (held_by n i y.memory) h.before (held_by n t z.memory ++ h.after));
    }

-- of two lists one after the other
no-parts : {T : Type 0} (xs ys : List T) → xs ++ ys ≡ [] → (xs ≡ []) × (ys ≡ [])
no-parts [] ys e = (refl, e)
no-parts (x ∷ xs) ys e = let no : ⊥ = cc in absurd no

pub one-part : {T : Type 0} (xs ys : List T) (x : T) → xs ++ ys ≡ x ∷ [] → ((xs ≡ []) × (ys ≡ x ∷ [])) ⊎ ((xs ≡ x ∷ []) × (ys ≡ []))
one-part [] ys x e = inl (refl, e)
one-part (y ∷ xs) ys x e =
    let rest : xs ++ ys ≡ [] = cc in
    let same : y ≡ x = cc in
    let parts = no-parts xs ys rest in
    inr (ap (λ z. z ∷ xs) same ∙ ap (λ zs. x ∷ zs) parts.0, parts.1)

pub none-part : {T : Type 0} (xs ys : List T) → xs ++ ys ≡ [] → (xs ≡ []) × (ys ≡ [])
none-part xs ys e = no-parts xs ys e

-- ---- one client

-- a question is about an attempt of its client
pub record IsOfClient (n : ℕ) (q : Post) : Type 0 where
  pub x : AttemptId
  pub asks : request_of q.message ≡ Some x
  pub own : x.client ≡ n

pub question-of : (r : Rules) (n : ℕ) (c : ClientState) (q : Post) → waits c ≡ true → IsQuestion (client_plan r n) c q → IsOfClient n q
question-of r n c q now is = let i = present-of c now in record { x = _; asks = (question-about (client_plan r n) c i.a q i.at is).of_attempt; own = refl }

-- A turn answers a question, or the target holds what was asked from then on.
pub data Goes (q : Post) (told : List Post) (held : List Held) : Type 0 where
  IsTold : (p : Post) → told ≡ p ∷ [] → held ≡ [] → Answers q.message p.message → Goes q told held
  IsKept : (x : Held) → told ≡ [] → held ≡ x ∷ [] → HoldsIt q x → Goes q told held

-- What a turn of a target, in which it hears a letter, comes to for a client of which it holds nothing, or something, or of which the letter is.
pub record TurnsFor (n t : ℕ) (l : Letter) (m z : TargetMemory) (posts : List Post) : Type 0 where
  pub free : is_talk_of n l ≡ false → held_by n t m ≡ [] → (told_to n posts ≡ []) × (held_by n t z ≡ [])
  pub holds : (q : Post) (x : Held) → IsOfClient n q → is_talk_of n l ≡ false → held_by n t m ≡ x ∷ [] → HoldsIt q x → Goes q (told_to n posts) (held_by n t z)
  pub hears : (q : Post) → IsOfClient n q → l ≡ letter_of (client n) q → held_by n t m ≡ [] → Goes q (told_to n posts) (held_by n t z)

-- a turn in which a running target hears a letter
pub record TargetTurns (r : Rules) (w v : World) : Type 0 where
  pub t : ℕ
  pub s : TargetState
  pub z : TargetState
  pub l : Letter
  pub rest : List Letter
  pub posts : List Post
  pub here : slice_get w.targets t ≡ Some s
  pub runs : z.life ≡ Running
  pub takes : Takes w.messages l rest
  pub to_it : l.to ≡ target t
  pub clients : v.clients ≡ w.clients
  pub targets : v.targets ≡ set w.targets t z
  pub messages : v.messages ≡ rest ++ letters_of (target t) posts
  pub asked : v.asked ≡ asked_after w.asked (letters_of (target t) posts)
  pub turns : (n : ℕ) → TurnsFor n t l s.memory z.memory posts

module _ (r : Rules) (w v : World) (g : TargetTurns r w v) (n : ℕ) where
  abbrev Side : Type 0
  Side = HeldBeside n g.t 0 g.t w.targets g.s

  side : Side
  side = held-beside n g.t 0 g.t w.targets g.s g.here (omega arith)

  -- what is left and what is sent
  letters-now : talk_of n v.messages ≡ talk_of n g.rest ++ talk_of n (letters_of (target g.t) g.posts)
  letters-now = ap (talk_of n) g.messages ∙ filter-append (is_talk_of n) g.rest (letters_of (target g.t) g.posts)

  held-now : held_of n v ≡ side.before ++ (held_by n g.t g.z.memory ++ side.after)
  held-now = ap (held_from n 0) g.targets ∙ side.becomes g.z

  asked-now : asked_of n v ≡ filter (is_asked_by n) (asked_after w.asked (letters_of (target g.t) g.posts))
  asked-now = ap (filter (is_asked_by n)) g.asked

  -- the turn is none of the client's
  record StaysOut : Type 0 where
    talk : talk_of n v.messages ≡ talk_of n w.messages
    held : held_of n v ≡ held_of n w
    asked : asked_of n v ≡ asked_of n w

  stays-out : is_talk_of n g.l ≡ false → held_by n g.t g.s.memory ≡ [] → StaysOut
  stays-out off none =
      let f = (g.turns n).free off none in
      record {
        talk = letters-now ∙ ap (λ ls. talk_of n g.rest ++ ls) (talk-told_none n g.t g.posts f.0) ∙ append-nil (talk_of n g.rest) ∙ talk-taken n w.messages g.l g.rest g.takes off;
        held = held-now ∙ ap (λ xs. side.before ++ (xs ++ side.after)) (f.1 ∙ sym none) ∙ sym side.was;
        asked = asked-now ∙ asked-told_none n g.t w.asked g.posts f.0;
      }

  -- the turn is of its question
  goes-on : (c : ClientState) (q : Post) → IsQuestion (client_plan r n) c q → q.to ≡ target g.t → talk_of n g.rest ≡ [] → side.before ≡ [] → side.after ≡ [] → asked_of n w ≡ letter_of (client n) q ∷ []
      → Goes q (told_to n g.posts) (held_by n g.t g.z.memory) → TalksSo (client_plan r n) n c (talk_of n v.messages) (held_of n v) (asked_of n v) true
  goes-on c q is to none before after one k = by k
    where
      held : held_of n v ≡ held_by n g.t g.z.memory
      held = held-now ∙ ap (λ xs. xs ++ (held_by n g.t g.z.memory ++ side.after)) before ∙ ap (λ xs. held_by n g.t g.z.memory ++ xs) after ∙ append-nil (held_by n g.t g.z.memory)

      letters : talk_of n v.messages ≡ talk_of n (letters_of (target g.t) g.posts)
      letters = letters-now ∙ ap (λ ls. ls ++ talk_of n (letters_of (target g.t) g.posts)) none

      by : Goes q (told_to n g.posts) (held_by n g.t g.z.memory) → TalksSo (client_plan r n) n c (talk_of n v.messages) (held_of n v) (asked_of n v) true
      by (IsKept x untold kept holds) = IsHeld q x is holds (letters ∙ talk-told_none n g.t g.posts untold) (held ∙ kept) (asked-now ∙ asked-told_none n g.t w.asked g.posts untold ∙ one)
      by (IsTold p told kept answers) =
          let a = answers-so q.message p.message answers in
          let to_client : p.to ≡ client n = its-client n p.to (filtered-is (is_post_to n) p [] g.posts told) in
          IsReplied q (letter_of (target g.t) p) is (record { from = sym to; to = to_client; says = IsAnswer answers }) (letters ∙ talk-told_one n g.t g.posts p told a.no_tell) (held ∙ kept)
          (asked-now ∙ asked-told_one n g.t w.asked g.posts p told a.plain ∙ ap (without_first (is_answer_to (letter_of (target g.t) p))) one
          ∙ without-yes (is_answer_to (letter_of (target g.t) p)) (letter_of (client n) q) [] (answers-it n g.t p q to to_client a.replies))

  quiet-on : IsQuiet (talk_of n w.messages) (held_of n w) (asked_of n w) → IsQuiet (talk_of n v.messages) (held_of n v) (asked_of n v)
  quiet-on q =
      let parts = none-part side.before (held_by n g.t g.s.memory ++ side.after) (sym side.was ∙ q.none_held) in
      let o = stays-out (false_of (is_talk_of n g.l) (λ its. talk-none n w.messages g.l g.rest g.takes its q.no_letters)) (none-part (held_by n g.t g.s.memory) side.after parts.1).0 in
      record { no_letters = o.talk ∙ q.no_letters; none_held = o.held ∙ q.none_held; none_asked = o.asked ∙ q.none_asked }

  module _ (c : ClientState) (now : waits c ≡ true) where
    same-talks : StaysOut → TalksSo (client_plan r n) n c (talk_of n w.messages) (held_of n w) (asked_of n w) true → TalksSo (client_plan r n) n c (talk_of n v.messages) (held_of n v) (asked_of n v) true
    same-talks o k =
        subst (λ ls. TalksSo (client_plan r n) n c ls (held_of n v) (asked_of n v) true) (sym o.talk)
        (subst (λ hs. TalksSo (client_plan r n) n c (talk_of n w.messages) hs (asked_of n v) true) (sym o.held) (subst (λ qs. TalksSo (client_plan r n) n c (talk_of n w.messages) (held_of n w) qs true) (sym o.asked) k))

    none-here : held_of n w ≡ [] → (side.before ≡ []) × (held_by n g.t g.s.memory ≡ []) × (side.after ≡ [])
    none-here none =
        let one = none-part side.before (held_by n g.t g.s.memory ++ side.after) (sym side.was ∙ none) in
        let two = none-part (held_by n g.t g.s.memory) side.after one.1 in (one.0, two.0, two.1)

    asked-so : (q : Post) → IsQuestion (client_plan r n) c q → talk_of n w.messages ≡ letter_of (client n) q ∷ [] → held_of n w ≡ [] → asked_of n w ≡ letter_of (client n) q ∷ []
        → TalksSo (client_plan r n) n c (talk_of n v.messages) (held_of n v) (asked_of n v) true
    asked-so q is one none free = by (is_talk_of n g.l) refl
      where
        parts : (side.before ≡ []) × (held_by n g.t g.s.memory ≡ []) × (side.after ≡ [])
        parts = none-here none

        by : (b : Bool) → is_talk_of n g.l ≡ b → TalksSo (client_plan r n) n c (talk_of n v.messages) (held_of n v) (asked_of n v) true
        by false off = same-talks (stays-out off parts.1) (IsAsked q is one none free)
        by true its =
            let only = talk-only n w.messages g.l (letter_of (client n) q) g.rest g.takes its one in
            goes-on c q is (sym (ap (λ x. x.to) only.0) ∙ g.to_it) only.1 parts.0 parts.2 free ((g.turns n).hears q (question-of r n c q now is) only.0 parts.1)

    held-so : (q : Post) (x : Held) → IsQuestion (client_plan r n) c q → HoldsIt q x → talk_of n w.messages ≡ [] → held_of n w ≡ x ∷ [] → asked_of n w ≡ letter_of (client n) q ∷ []
        → TalksSo (client_plan r n) n c (talk_of n v.messages) (held_of n v) (asked_of n v) true
    held-so q x is holds none one free = by (one-part side.before (held_by n g.t g.s.memory ++ side.after) x (sym side.was ∙ one))
      where
        off : is_talk_of n g.l ≡ false
        off = false_of (is_talk_of n g.l) (λ its. talk-none n w.messages g.l g.rest g.takes its none)

        out : held_by n g.t g.s.memory ≡ [] → TalksSo (client_plan r n) n c (talk_of n v.messages) (held_of n v) (asked_of n v) true
        out nothing = same-talks (stays-out off nothing) (IsHeld q x is holds none one free)

        here-it : side.before ≡ [] → held_by n g.t g.s.memory ≡ x ∷ [] → side.after ≡ [] → TalksSo (client_plan r n) n c (talk_of n v.messages) (held_of n v) (asked_of n v) true
        here-it before it after =
            goes-on c q is (held-there q x holds ∙ ap target (held-at n g.t g.s.memory x (subst (Has x) (sym it) (inl refl)))) (talk-taken n w.messages g.l g.rest g.takes off ∙ none) before after free
            ((g.turns n).holds q x (question-of r n c q now is) off it holds)

        by : ((side.before ≡ []) × (held_by n g.t g.s.memory ++ side.after ≡ x ∷ [])) ⊎ ((side.before ≡ x ∷ []) × (held_by n g.t g.s.memory ++ side.after ≡ [])) → TalksSo (client_plan r n) n c (talk_of n v.messages) (held_of n v) (asked_of n v) true
        by (inr p) = out (none-part (held_by n g.t g.s.memory) side.after p.1).0
        by (inl p) = elim (one-part (held_by n g.t g.s.memory) side.after x p.1) [
          | inl o ↦ out o.0
          | inr o ↦ here-it p.0 o.0 o.1
        ]

    waits-on : TalksSo (client_plan r n) n c (talk_of n w.messages) (held_of n w) (asked_of n w) true → TalksSo (client_plan r n) n c (talk_of n v.messages) (held_of n v) (asked_of n v) true
    waits-on (IsAsked q is one none free) = asked-so q is one none free
    waits-on (IsHeld q x is holds none one free) = held-so q x is holds none one free
    waits-on (IsReplied q l is k one none free) = same-talks (stays-out off (none-here none).1) (IsReplied q l is k one none free)
      where
        off : is_talk_of n g.l ≡ false
        off = false_of (is_talk_of n g.l) (λ its.
            let only = talk-only n w.messages g.l l g.rest g.takes its one in
            let there : true ≡ false = sym (ap (λ x. x.client) k.to) ∙ sym (ap (λ x. x.to.client) only.0) ∙ ap (λ x. x.client) g.to_it in
            let no : ⊥ = cc in no)

  talks-then : (c : ClientState) (b : Bool) → waits c ≡ b → TalksSo (client_plan r n) n c (talk_of n w.messages) (held_of n w) (asked_of n w) b → TalksSo (client_plan r n) n c (talk_of n v.messages) (held_of n v) (asked_of n v) b
  talks-then c false e k = quiet-on k
  talks-then c true e k = waits-on c e k

-- so conversations go on
pub turning-keeps : (r : Rules) (w v : World) → TargetTurns r w v → Conversation r w → Conversation r v
turning-keeps r w v g k = record {
  talks = λ n c at. talks-then r w v g n c (waits c) refl (k.talks n c (ap (λ cs. slice_get cs n) (sym g.clients) ∙ at));
  nobody = λ n none. quiet-on r w v g n (k.nobody n (ap (λ cs. slice_get cs n) (sym g.clients) ∙ none));
  quiet = quiet-set r w v g.t g.z g.targets (λ off. absurd (off g.runs)) k;
}
