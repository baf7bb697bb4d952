-- What targets ask one another is without an answer as often as it is in flight: what is sent, and what is answered.
use Rattle.std.specs.Prelude.{ℕ, ◌≡◌, ◌⊎◌, ◌+◌, ◌≤◌, ◌==◌, Bool, true, false, ◌&&◌, not, List, [], ◌∷◌, ◌++◌, refl, if◌then◌else◌}
use Rattle.std.proofs.Common.{sym, ◌∙◌, ap, arith, inl, inr}
use Rattle.std.proofs.lemmas.Bool.Decides.{nat_tests}
use Rattle.model_laws.specs.Members.{Has}
use Rattle.base_messages.specs.declared.actor.ActorId.{ActorId}
use Rattle.base_messages.specs.declared.message.Message.{Message}
use Rattle.base_messages.specs.declared.message.Message.TheVariants as message
use Rattle.base_messages.specs.declared.message.Post.{Post}
use Rattle.daos_model.specs.BoolLaws.{and_left, and_right, both, clash, false_of}
use Rattle.world_commit.specs.attempts.Attempts.{count, one_if}
use Rattle.world_commit.specs.attempts.Counting.{count-append, count-some, count-taken, has-taken}
use Rattle.world_letters.specs.waits.ClientLaws.{without-no, without-yes}
use Rattle.world_commit.specs.fates.Facts.{PromptsFly, is_prompt, is_prompt_kind}
use Rattle.world_base.specs.declared.letter.Letter.{Letter}
use Rattle.world_base.specs.declared.world.World.{World}
use Rattle.world_base.specs.Letters.{Takes, asked_after, asked_with, is_answer_to, is_answerable, is_reply, letter_of, letters_of, same_actor, same_truth, without_first}

-- a test that only prompts pass
abbrev pub IsOfPrompts : (Letter → Bool) → Type 0
IsOfPrompts p = (l : Letter) → p l ≡ true → is_prompt l ≡ true

prompt-kind : (l : Letter) → is_prompt l ≡ true → is_prompt_kind l.message ≡ true
unfolding is_prompt
prompt-kind l is = and_left (is_prompt_kind l.message) (not l.from.client && not l.to.client) is

-- a prompt has an answer
kind-answerable : (m : Message) → is_prompt_kind m ≡ true → is_answerable m ≡ true
kind-answerable (message.Prepare e first ws inc) is = refl
kind-answerable (message.Mark inc marks) is = refl
kind-answerable (message.Query x ask) is = refl
kind-answerable (message.Status x inc) is = refl
kind-answerable (message.Freeze x cont e) is = refl
kind-answerable (message.Prune x cont tracker e) is = refl
kind-answerable m is = let no : ⊥ = cc in absurd no

-- one from a client, or to one, is none
pub client-no_prompt : (l : Letter) → l.from.client ≡ true → is_prompt l ≡ false
unfolding is_prompt
client-no_prompt l is = ap (λ (b : Bool). is_prompt_kind l.message && (not b && not l.to.client)) is ∙ none (is_prompt_kind l.message)
  where
    none : (b : Bool) → (b && false) ≡ false
    none true = refl
    none false = refl

pub to_client-no_prompt : (l : Letter) → l.to.client ≡ true → is_prompt l ≡ false
unfolding is_prompt
to_client-no_prompt l is = ap (λ (b : Bool). is_prompt_kind l.message && (not l.from.client && not b)) is ∙ none (is_prompt_kind l.message) (not l.from.client)
  where
    none : (b c : Bool) → (b && (c && false)) ≡ false
    none true true = refl
    none true false = refl
    none false c = refl

pub kind-no_prompt : (l : Letter) → is_prompt_kind l.message ≡ false → is_prompt l ≡ false
unfolding is_prompt
kind-no_prompt l off = ap (λ (b : Bool). b && (not l.from.client && not l.to.client)) off

-- ---- what answers

actor-is : (a b : ActorId) → same_actor a b ≡ true → a ≡ b
actor-is a b is = by a.client refl b.client refl (and_left (same_truth a.client b.client) (a.number == b.number) is)
  where
    numbers : a.number ≡ b.number
    numbers = let own : (a.number == b.number) ≡ true = and_right (same_truth a.client b.client) (a.number == b.number) is in grind (arith, nat_tests)

    abbrev' : Bool → ℕ → ActorId
    abbrev' c n = record { client = c; number = n }

    one : a.client ≡ b.client → a ≡ b
    one same = ap (λ c. abbrev' c a.number) same ∙ ap (abbrev' b.client) numbers

    by : (c : Bool) → a.client ≡ c → (d : Bool) → b.client ≡ d → same_truth a.client b.client ≡ true → a ≡ b
    by true p true q own = one (p ∙ sym q)
    by false p false q own = one (p ∙ sym q)
    by true p false q own = let no : false ≡ true = ap (λ x. same_truth x false) (sym p) ∙ ap (same_truth a.client) (sym q) ∙ own in let no2 : ⊥ = cc in absurd no2
    by false p true q own = let no : false ≡ true = ap (λ x. same_truth x true) (sym p) ∙ ap (same_truth a.client) (sym q) ∙ own in let no2 : ⊥ = cc in absurd no2

-- an answer goes back to who asked, from whom it was asked
pub record Answers (l q : Letter) : Type 0 where
  pub sender : l.from ≡ q.to
  pub receiver : l.to ≡ q.from
  pub reply : is_reply l.message q.message ≡ true

pub answer-is : (l q : Letter) → is_answer_to l q ≡ true → Answers l q
unfolding is_answer_to
answer-is l q is = record {
  sender = actor-is l.from q.to (and_left (same_actor l.from q.to) (same_actor l.to q.from) two);
  receiver = actor-is l.to q.from (and_right (same_actor l.from q.to) (same_actor l.to q.from) two);
  reply = and_right (same_actor l.from q.to && same_actor l.to q.from) (is_reply l.message q.message) is;
}
  where
    two : (same_actor l.from q.to && same_actor l.to q.from) ≡ true
    two = and_left (same_actor l.from q.to && same_actor l.to q.from) (is_reply l.message q.message) is

-- one between the same targets
pub prompt-like : (q l : Letter) → q.from ≡ l.from → q.to ≡ l.to → is_prompt_kind q.message ≡ true → is_prompt l ≡ true → is_prompt q ≡ true
unfolding is_prompt
prompt-like q l from to kind is =
    let ends : (not l.from.client && not l.to.client) ≡ true = and_right (is_prompt_kind l.message) (not l.from.client && not l.to.client) is in
    both (is_prompt_kind q.message) (not q.from.client && not q.to.client) kind (ap (λ i. not i.client && not q.to.client) from ∙ ap (λ i. not l.from.client && not i.client) to ∙ ends)

-- ---- what is sent

-- a post that answers nothing that a target asked another
abbrev pub IsSpoken : Post → Type 0
IsSpoken p = (is_answerable p.message ≡ true) ⊎ ((q : Message) → is_reply p.message q ≡ true → (is_prompt_kind q ≡ false) ⊎ (p.to.client ≡ true))

abbrev pub AreSpoken : List Post → Type 0
AreSpoken posts = (p : Post) → Has p posts → IsSpoken p

-- a letter of an actor that answers no prompt
abbrev pub Speaks : ActorId → Post → Type 0
Speaks from s = (is_answerable s.message ≡ true) ⊎ ((q : Letter) → Answers (letter_of from s) q → is_prompt q ≡ true → ⊥)

abbrev pub AreSpeaking : ActorId → List Post → Type 0
AreSpeaking from posts = (p : Post) → Has p posts → Speaks from p

pub spoken-speaking : (from : ActorId) (posts : List Post) → AreSpoken posts → AreSpeaking from posts
spoken-speaking from posts k s i = elim (k s i) [
  | inl on ↦ inl on
  | inr off ↦ inr (λ q a is. elim (off q.message a.reply) [
    | inl kind ↦ clash (is_prompt q) is (kind-no_prompt q kind)
    | inr client ↦ clash (is_prompt q) is (client-no_prompt q (ap (λ i. i.client) (sym a.receiver) ∙ client))
  ])
]

-- whatever a client sends
pub client-speaking : (from : ActorId) (posts : List Post) → from.client ≡ true → AreSpeaking from posts
client-speaking from posts client s i = inr (λ q a is. clash (is_prompt q) is (to_client-no_prompt q (ap (λ i. i.client) (sym a.sender) ∙ client)))

count-without : (p a : Letter → Bool) (xs : List Letter) → ((q : Letter) → Has q xs → a q ≡ true → p q ≡ false) → count p (without_first a xs) ≡ count p xs
count-without p a [] none = refl
count-without p a (y ∷ ys) none = by (count-without p a ys (λ q i. none q (inr i))) (a y) refl
  where
    by : count p (without_first a ys) ≡ count p ys → (b : Bool) → a y ≡ b → count p (without_first a (y ∷ ys)) ≡ one_if (p y) + count p ys
    by rest true is =
        let gone : count p (without_first a (y ∷ ys)) ≡ count p ys = ap (count p) (without-yes a y ys is) in
        let off : one_if (p y) ≡ 0 = ap one_if (none y (inl refl) is) in
        omega (arith, gone, off)
    by rest false off =
        let same : count p (without_first a (y ∷ ys)) ≡ one_if (p y) + count p (without_first a ys) = ap (count p) (without-no a y ys off) in
        omega (arith, same, rest)

spoken-once : (p : Letter → Bool) → IsOfPrompts p → (asked : List Letter) (from : ActorId) (s : Post) → Speaks from s → count p (asked_with asked (letter_of from s)) ≡ count p asked + one_if (p (letter_of from s))
unfolding asked_with
spoken-once p wide asked from s spoken = by (is_answerable s.message) refl spoken
  where
    no-prompt : (is_prompt_kind s.message ≡ true → ⊥) → p (letter_of from s) ≡ false
    no-prompt off = false_of (p (letter_of from s)) (λ on. off (prompt-kind (letter_of from s) (wide (letter_of from s) on)))

    by : (b : Bool) → is_answerable s.message ≡ b → Speaks from s → count p (if b then asked ++ letter_of from s ∷ [] else without_first (is_answer_to (letter_of from s)) asked) ≡ count p asked + one_if (p (letter_of from s))
    by true is k = let all = count-append p asked (letter_of from s ∷ []) in omega (arith, all)
    by false off (inl on) = let no : ⊥ = cc (on, off) in absurd no
    by false off (inr k) =
        let same = count-without p (is_answer_to (letter_of from s)) asked (λ q i a. false_of (p q) (λ on. k q (answer-is (letter_of from s) q a) (wide q on))) in
        let none : one_if (p (letter_of from s)) ≡ 0 = ap one_if (no-prompt (λ is. clash (is_answerable s.message) (kind-answerable s.message is) off)) in
        omega (arith, same, none)

-- each is without an answer then that was, and each that was sent
pub spoken-all : (p : Letter → Bool) → IsOfPrompts p → (asked : List Letter) (from : ActorId) (posts : List Post) → AreSpeaking from posts → count p (asked_after asked (letters_of from posts)) ≡ count p asked + count p (letters_of from posts)
spoken-all p wide asked from [] spoken = omega arith
spoken-all p wide asked from (s ∷ posts) spoken =
    let one = spoken-once p wide asked from s (spoken s (inl refl)) in
    let rest = spoken-all p wide (asked_with asked (letter_of from s)) from posts (λ q i. spoken q (inr i)) in
    omega (arith, one, rest)

-- a turn in which no prompt is heard, or none at all, and nothing that was asked by a target is answered
pub prompts-spoken : (w v : World) (from : ActorId) (posts : List Post) (rest : List Letter) → AreSpeaking from posts → v.messages ≡ rest ++ letters_of from posts → v.asked ≡ asked_after w.asked (letters_of from posts)
    → ((p : Letter → Bool) → IsOfPrompts p → count p w.messages ≡ count p rest) → PromptsFly w → PromptsFly v
prompts-spoken w v from posts rest spoken messages asked left k p wide =
    let fly = k p wide in
    let all = spoken-all p wide w.asked from posts spoken in
    let taken = left p wide in
    let sent = count-append p rest (letters_of from posts) in
    let now : count p v.messages ≡ count p (rest ++ letters_of from posts) = ap (count p) messages in
    let then' : count p v.asked ≡ count p (asked_after w.asked (letters_of from posts)) = ap (count p) asked in
    omega (arith, fly, all, taken, sent, now, then')

-- one that is no prompt was heard
pub taken-quietly : (w : World) (l : Letter) (rest : List Letter) → Takes w.messages l rest → is_prompt l ≡ false → (p : Letter → Bool) → IsOfPrompts p → count p w.messages ≡ count p rest
taken-quietly w l rest takes off p wide =
    let all = count-taken p w.messages l rest takes in
    let none : one_if (p l) ≡ 0 = ap one_if (false_of (p l) (λ on. clash (is_prompt l) (wide l on) off)) in
    omega (arith, all, none)

-- ---- what is answered

-- the first that passes goes, and all that do are alike for a test
count-first : (p a : Letter → Bool) (b : Bool) (xs : List Letter) (y : Letter) → Has y xs → a y ≡ true → ((q : Letter) → Has q xs → a q ≡ true → p q ≡ b) → count p (without_first a xs) + one_if b ≡ count p xs
count-first p a b [] y i is same = absurd i
count-first p a b (x ∷ xs) y i is same = by (λ j. count-first p a b xs y j is (λ q k. same q (inr k))) (a x) refl i
  where
    by : (Has y xs → count p (without_first a xs) + one_if b ≡ count p xs) → (c : Bool) → a x ≡ c → Has y (x ∷ xs) → count p (without_first a (x ∷ xs)) + one_if b ≡ one_if (p x) + count p xs
    by rest true on i =
        let gone : count p (without_first a (x ∷ xs)) ≡ count p xs = ap (count p) (without-yes a x xs on) in
        let own : one_if (p x) ≡ one_if b = ap one_if (same x (inl refl) on) in
        omega (arith, gone, own)
    by rest false off (inl here) = let on : a x ≡ true = ap a (sym here) ∙ is in let no : ⊥ = cc (on, off) in absurd no
    by rest false off (inr j) =
        let left : count p (without_first a (x ∷ xs)) ≡ one_if (p x) + count p (without_first a xs) = ap (count p) (without-no a x xs off) in
        let more = rest j in
        omega (arith, left, more)

-- one of some that are counted
pub some-counted : {T : Type 0} (p : T → Bool) (xs : List T) → 1 ≤ count p xs → (x : T) × Has x xs × (p x ≡ true)
some-counted p [] le = let no : ⊥ = omega (arith, le) in absurd no
some-counted {T = T} p (x ∷ xs) le = by (some-counted p xs) (p x) refl
  where
    by : (1 ≤ count p xs → (y : T) × Has y xs × (p y ≡ true)) → (b : Bool) → p x ≡ b → (y : T) × Has y (x ∷ xs) × (p y ≡ true)
    by rest true is = (x, inl refl, is)
    by rest false off = let none : one_if (p x) ≡ 0 = ap one_if off in let z = rest (omega (arith, le, none)) in (z.0, inr z.1, z.2)

pub count-less : {T : Type 0} (p q : T → Bool) (xs : List T) → ((x : T) → p x ≡ true → q x ≡ true) → count p xs ≤ count q xs
count-less p q [] less = omega arith
count-less p q (x ∷ xs) less = by (count-less p q xs less) (p x) refl
  where
    by : count p xs ≤ count q xs → (b : Bool) → p x ≡ b → one_if (p x) + count p xs ≤ one_if (q x) + count q xs
    by rest true is = let one : one_if (p x) ≡ 1 = ap one_if is in let two : one_if (q x) ≡ 1 = ap one_if (less x is) in omega (arith, rest, one, two)
    by rest false off = let none : one_if (p x) ≡ 0 = ap one_if off in omega (arith, rest, none)

pub count-split : {T : Type 0} (a p : T → Bool) (xs : List T) → count (λ x. a x && p x) xs + count (λ x. a x && not (p x)) xs ≡ count a xs
count-split a p [] = refl
count-split a p (x ∷ xs) = by (count-split a p xs) (a x) refl (p x) refl
  where
    by : count (λ x. a x && p x) xs + count (λ x. a x && not (p x)) xs ≡ count a xs → (b : Bool) → a x ≡ b → (c : Bool) → p x ≡ c
        → (one_if (a x && p x) + count (λ x. a x && p x) xs) + (one_if (a x && not (p x)) + count (λ x. a x && not (p x)) xs) ≡ one_if (a x) + count a xs
    by rest true p1 true p2 = let o1 : one_if (a x && p x) ≡ 1 = ap one_if (ap (λ b. b && p x) p1 ∙ p2) in let o2 : one_if (a x && not (p x)) ≡ 0 = ap one_if (ap (λ b. b && not (p x)) p1 ∙ ap not p2) in let o3 : one_if (a x) ≡ 1 = ap one_if p1 in omega (arith, rest, o1, o2, o3)
    by rest true p1 false p2 = let o1 : one_if (a x && p x) ≡ 0 = ap one_if (ap (λ b. b && p x) p1 ∙ p2) in let o2 : one_if (a x && not (p x)) ≡ 1 = ap one_if (ap (λ b. b && not (p x)) p1 ∙ ap not p2) in let o3 : one_if (a x) ≡ 1 = ap one_if p1 in omega (arith, rest, o1, o2, o3)
    by rest false p1 c p2 = let o1 : one_if (a x && p x) ≡ 0 = ap one_if (ap (λ b. b && p x) p1) in let o2 : one_if (a x && not (p x)) ≡ 0 = ap one_if (ap (λ b. b && not (p x)) p1) in let o3 : one_if (a x) ≡ 0 = ap one_if p1 in omega (arith, rest, o1, o2, o3)

-- where only one letter in flight passes a test, all without an answer that pass it are alike
pub one-alike : (w : World) (a p : Letter → Bool) → IsOfPrompts a → PromptsFly w → count a w.messages ≤ 1 → (l q : Letter) → Has l w.messages → a l ≡ true → Has q w.asked → a q ≡ true → p q ≡ p l
one-alike w a p wide k few l q flies al waits aq = by (p l) refl (p q) refl
  where
    split : count (λ x. a x && p x) w.messages + count (λ x. a x && not (p x)) w.messages ≡ count a w.messages
    split = count-split a p w.messages

    fly-on : count (λ x. a x && p x) w.asked ≡ count (λ x. a x && p x) w.messages
    fly-on = k (λ x. a x && p x) (λ x is. wide x (and_left (a x) (p x) is))

    fly-off : count (λ x. a x && not (p x)) w.asked ≡ count (λ x. a x && not (p x)) w.messages
    fly-off = k (λ x. a x && not (p x)) (λ x is. wide x (and_left (a x) (not (p x)) is))

    by : (b : Bool) → p l ≡ b → (c : Bool) → p q ≡ c → p q ≡ p l
    by true pl true pq = pq ∙ sym pl
    by false pl false pq = pq ∙ sym pl
    by true pl false pq =
        let one = count-some (λ x. a x && p x) w.messages l flies (both (a l) (p l) al pl) in
        let two = count-some (λ x. a x && not (p x)) w.asked q waits (both (a q) (not (p q)) aq (ap not pq)) in
        let no : ⊥ = omega (arith, few, split, fly-on, fly-off, one, two) in absurd no
    by false pl true pq =
        let one = count-some (λ x. a x && not (p x)) w.messages l flies (both (a l) (not (p l)) al (ap not pl)) in
        let two = count-some (λ x. a x && p x) w.asked q waits (both (a q) (p q) aq pq) in
        let no : ⊥ = omega (arith, few, split, fly-on, fly-off, one, two) in absurd no

-- a letter is heard and answered by one, and what else it would answer is like it
pub prompts-answered : (w v : World) (from : ActorId) (s : Post) (l : Letter) (rest : List Letter) → Takes w.messages l rest → v.messages ≡ rest ++ letter_of from s ∷ [] → v.asked ≡ asked_with w.asked (letter_of from s)
    → is_answerable s.message ≡ false → is_answer_to (letter_of from s) l ≡ true → is_prompt_kind l.message ≡ true → l.to.client ≡ false
    → ((p : Letter → Bool) → IsOfPrompts p → is_prompt l ≡ true → (q : Letter) → Has q w.asked → is_answer_to (letter_of from s) q ≡ true → p q ≡ p l) → PromptsFly w → PromptsFly v
unfolding asked_with
prompts-answered w v from s l rest takes messages asked unasked answers kind to alike k p wide = by (is_prompt l) refl
  where
    now : count p v.messages ≡ count p rest
    now =
        let all = count-append p rest (letter_of from s ∷ []) in
        let none : one_if (p (letter_of from s)) ≡ 0 = ap one_if (false_of (p (letter_of from s)) (λ on. clash (is_answerable s.message) (kind-answerable s.message (prompt-kind (letter_of from s) (wide (letter_of from s) on))) unasked)) in
        ap (count p) messages ∙ omega (arith, all, none)

    then' : count p v.asked ≡ count p (without_first (is_answer_to (letter_of from s)) w.asked)
    then' = ap (count p) (asked ∙ ap (λ (b : Bool). if b then w.asked ++ letter_of from s ∷ [] else without_first (is_answer_to (letter_of from s)) w.asked) unasked)

    -- who asked
    from-same : (q : Letter) → is_answer_to (letter_of from s) q ≡ true → (q.from ≡ l.from) × (q.to ≡ l.to)
    from-same q is = let x = answer-is (letter_of from s) q is in let y = answer-is (letter_of from s) l answers in (sym x.receiver ∙ y.receiver, sym x.sender ∙ y.sender)

    by : (b : Bool) → is_prompt l ≡ b → count p v.asked ≡ count p v.messages
    by true on =
        let one = count-some (λ q. is_answer_to (letter_of from s) q && is_prompt q) w.messages l (has-taken w.messages l rest takes) (both (is_answer_to (letter_of from s) l) (is_prompt l) answers on) in
        let fly = k (λ q. is_answer_to (letter_of from s) q && is_prompt q) (λ x is. and_right (is_answer_to (letter_of from s) x) (is_prompt x) is) in
        let z = some-counted (λ q. is_answer_to (letter_of from s) q && is_prompt q) w.asked (omega (arith, one, fly)) in
        let gone = count-first p (is_answer_to (letter_of from s)) (p l) w.asked z.0 z.1 (and_left (is_answer_to (letter_of from s) z.0) (is_prompt z.0) z.2) (alike p wide on) in
        let all = k p wide in
        let taken = count-taken p w.messages l rest takes in
        omega (arith, now, then', gone, all, taken)
    by false off =
        let same = count-without p (is_answer_to (letter_of from s)) w.asked (λ q i is. false_of (p q) (λ on. clash (is_prompt l) (like q is (wide q on)) off)) in
        let all = k p wide in
        let taken = count-taken p w.messages l rest takes in
        let none : one_if (p l) ≡ 0 = ap one_if (false_of (p l) (λ on. clash (is_prompt l) (wide l on) off)) in
        omega (arith, now, then', same, all, taken, none)
      where
        like : (q : Letter) → is_answer_to (letter_of from s) q ≡ true → is_prompt q ≡ true → is_prompt l ≡ true
        like q is on = let f = from-same q is in prompt-like l q (sym f.0) (sym f.1) kind on
