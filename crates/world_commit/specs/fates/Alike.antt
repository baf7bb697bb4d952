-- What a target answers determines what it was asked.
use Rattle.std.specs.Prelude.{ℕ, ◌≡◌, ◌≤◌, ◌==◌, Bool, true, false, ◌&&◌, List, [], ◌∷◌, Option, Some, None, refl}
use Rattle.std.proofs.Common.{sym, ◌∙◌, ap, subst, arith, inl, inr}
use Rattle.std.proofs.lemmas.Bool.Decides.{nat_tests}
use Rattle.base_types.specs.declared.entry.Entry.{Entry}
use Rattle.base_types.specs.declared.entry.Verdict.{Verdict}
use Rattle.base_types.specs.declared.epoch.Epoch.{Epoch}
use Rattle.base_types.specs.declared.id.AttemptId.{AttemptId}
use Rattle.base_types.specs.declared.operation.MinorWrite.{MinorWrite}
use Rattle.base_types.specs.declared.outcome.Outcome.{Outcome}
use Rattle.model_laws.specs.Members.{Has}
use Rattle.base_messages.specs.declared.actor.ActorId.{ActorId}
use Rattle.base_messages.specs.declared.message.Message.{Message}
use Rattle.base_messages.specs.declared.message.Message.TheVariants as message
use Rattle.daos_model.specs.BoolLaws.{and_left, and_right, both}
use Rattle.daos_model.specs.Durables.{same_attempt}
use Rattle.daos_model.specs.EntryLaws.{same_attempt-itself}
use Rattle.dtx_base.specs.LeaderLaws.{same-is}
use Rattle.dtx_base.specs.Leading.{attempts_of}
use Rattle.world_commit.specs.attempts.Attempts.{IsMarkTrue, IsOther, count, is_target}
use Rattle.world_commit.specs.attempts.History.{History}
use Rattle.world_commit.specs.fates.Facts.{IsAskedSo, IsSaidSo, Ongoing, PromptsFly, is_prompt, is_prompt_kind, is_try}
use Rattle.world_commit.specs.fates.Prompts.{answer-is, count-less, one-alike, prompt-like}
use Rattle.world_commit.specs.fates.Settling.{aborted-undecided}
use Rattle.world_commit.specs.fates.Talks.{number-itself, own-target, prepare-tries}
use Rattle.world_base.specs.declared.letter.Letter.{Letter}
use Rattle.world_base.specs.declared.world.World.{World}
use Rattle.world_base.specs.Events.{Rules}
use Rattle.world_base.specs.Letters.{is_answer_to, is_reply, same_actor, same_ask, same_ids, same_truth, target}

-- ---- a letter answers

pub same_actor-itself : (a : ActorId) → same_actor a a ≡ true
same_actor-itself a = both (same_truth a.client a.client) (a.number == a.number) (by a.client) (number-itself a.number)
  where
    by : (b : Bool) → same_truth b b ≡ true
    by true = refl
    by false = refl

same_ask-itself : (ask : Option AttemptId) → same_ask ask ask ≡ true
same_ask-itself None = refl
same_ask-itself (Some a) = same_attempt-itself a

same_ids-itself : (ids : List AttemptId) → same_ids ids ids ≡ true
same_ids-itself [] = refl
same_ids-itself (a ∷ ids) = both (same_attempt a a) (same_ids ids ids) (same_attempt-itself a) (same_ids-itself ids)

-- one that goes back to who asked, and replies, is its answer
pub back-answers : (l : Letter) (t : ℕ) (m : Message) → l.to ≡ target t → is_reply m l.message ≡ true → is_answer_to (record { from = target t; to = l.from; message = m }) l ≡ true
unfolding is_answer_to
back-answers l t m to reply =
    both (same_actor (target t) l.to && same_actor l.from l.from) (is_reply m l.message)
    (both (same_actor (target t) l.to) (same_actor l.from l.from) (ap (same_actor (target t)) to ∙ same_actor-itself (target t)) (same_actor-itself l.from)) reply

pub query-replies : (x : AttemptId) (ask : Option AttemptId) (inc : ℕ) (v : Verdict) → is_reply (message.Verdict x ask inc v) (message.Query x ask) ≡ true
query-replies x ask inc v = both (same_attempt x x) (same_ask ask ask) (same_attempt-itself x) (same_ask-itself ask)

pub mark-replies : (inc : ℕ) (marks : List (AttemptId × Bool)) → is_reply (message.Marked inc (attempts_of marks)) (message.Mark inc marks) ≡ true
mark-replies inc marks = both (inc == inc) (same_ids (attempts_of marks) (attempts_of marks)) (number-itself inc) (same_ids-itself (attempts_of marks))

pub prepare-replies : (e : Entry) (first : Option Epoch) (ws : List MinorWrite) (inc : ℕ) (refusal : Option Outcome) → is_reply (message.Ack e.attempt inc refusal) (message.Prepare e first ws inc) ≡ true
prepare-replies e first ws inc refusal = both (same_attempt e.attempt e.attempt) (inc == inc) (same_attempt-itself e.attempt) (number-itself inc)

-- ---- a Query

ask-is : (a b : Option AttemptId) → same_ask a b ≡ true → a ≡ b
ask-is None None is = refl
ask-is None (Some b) is = let no : ⊥ = cc in absurd no
ask-is (Some a) None is = let no : ⊥ = cc in absurd no
ask-is (Some a) (Some b) is = ap (λ x. Some x) (same-is a b is)

abbrev query_of : AttemptId → Option AttemptId → Message
query_of x ask = message.Query x ask

asked-query : (x : AttemptId) (ask : Option AttemptId) (inc : ℕ) (v : Verdict) (q : Message) → is_reply (message.Verdict x ask inc v) q ≡ true → q ≡ query_of x ask
asked-query x ask inc v (message.Query y ask2) is =
    ap (λ z. query_of z ask2) (sym (same-is x y (and_left (same_attempt x y) (same_ask ask ask2) is))) ∙ ap (query_of x) (sym (ask-is ask ask2 (and_right (same_attempt x y) (same_ask ask ask2) is)))
asked-query x ask inc v q is = let no : ⊥ = cc in absurd no

abbrev letter_between : ActorId → ActorId → Message → Letter
letter_between from to m = record { from = from; to = to; message = m }

-- two letters between the same that say the same are one
letters-same : (q l : Letter) → q.from ≡ l.from → q.to ≡ l.to → q.message ≡ l.message → q ≡ l
letters-same q l from to says = ap (λ a. letter_between a q.to q.message) from ∙ ap (λ a. letter_between l.from a q.message) to ∙ ap (letter_between l.from l.to) says

-- what a letter answers that goes back to who asked
pub answered-same : (l q : Letter) (t : ℕ) (m : Message) → l.to ≡ target t → is_answer_to (record { from = target t; to = l.from; message = m }) q ≡ true → q.message ≡ l.message → q ≡ l
answered-same l q t m to is says =
    let a = answer-is (record { from = target t; to = l.from; message = m }) q is in
    letters-same q l (sym a.receiver) (sym a.sender ∙ sym to) says

pub query-alike : (l q : Letter) (t : ℕ) (x : AttemptId) (ask : Option AttemptId) (inc : ℕ) (v : Verdict) → l.to ≡ target t → l.message ≡ message.Query x ask
    → is_answer_to (record { from = target t; to = l.from; message = message.Verdict x ask inc v }) q ≡ true → q ≡ l
query-alike l q t x ask inc v to says is =
    let a = answer-is (record { from = target t; to = l.from; message = message.Verdict x ask inc v }) q is in
    answered-same l q t (message.Verdict x ask inc v) to is (asked-query x ask inc v q.message a.reply ∙ sym says)

-- ---- a Mark

module _ (r : Rules) (h : History) (w : World) (k : Ongoing r h w) where
  abbrev AreMarksTrue : List (AttemptId × Bool) → Type 0
  AreMarksTrue marks = (x : AttemptId) (c : Bool) → Has (x, c) marks → IsMarkTrue h x c

  abbrev mark_of : AttemptId → Bool → AttemptId × Bool
  mark_of x c = (x, c)

  -- of an attempt one is true
  fate-same : (x : AttemptId) (c d : Bool) → IsMarkTrue h x c → IsMarkTrue h x d → c ≡ d
  fate-same x true true p q = refl
  fate-same x false false p q = refl
  fate-same x true false p q = absurd (aborted-undecided r h w x (k.each x) q p.0 p.1)
  fate-same x false true p q = absurd (aborted-undecided r h w x (k.each x) p q.0 q.1)

  marks-same : (ms ns : List (AttemptId × Bool)) → same_ids (attempts_of ms) (attempts_of ns) ≡ true → AreMarksTrue ms → AreMarksTrue ns → ms ≡ ns
  marks-same [] [] is p q = refl
  marks-same [] (n ∷ ns) is p q = let no : ⊥ = cc in absurd no
  marks-same (m ∷ ms) [] is p q = let no : ⊥ = cc in absurd no
  marks-same (m ∷ ms) (n ∷ ns) is p q =
      let same : m.0 ≡ n.0 = same-is m.0 n.0 (and_left (same_attempt m.0 n.0) (same_ids (attempts_of ms) (attempts_of ns)) is) in
      let rest = marks-same ms ns (and_right (same_attempt m.0 n.0) (same_ids (attempts_of ms) (attempts_of ns)) is) (λ x c i. p x c (inr i)) (λ x c i. q x c (inr i)) in
      let fate : m.1 ≡ n.1 = fate-same n.0 m.1 n.1 (subst (λ y. IsMarkTrue h y m.1) same (p m.0 m.1 (inl refl))) (q n.0 n.1 (inl refl)) in
      let first : mark_of m.0 m.1 ≡ mark_of n.0 n.1 = ap (λ y. mark_of y m.1) same ∙ ap (mark_of n.0) fate in
      ap (λ y. y ∷ ms) first ∙ ap (λ ys. n ∷ ys) rest

  asked-mark : (inc : ℕ) (marks : List (AttemptId × Bool)) (from to : ActorId) (q : Message) → AreMarksTrue marks → IsAskedSo r h w from to q → is_reply (message.Marked inc (attempts_of marks)) q ≡ true → q ≡ message.Mark inc marks
  asked-mark inc marks from to (message.Mark inc2 marks2) true' said is =
      let incs : inc ≡ inc2 = number-is inc inc2 (and_left (inc == inc2) (same_ids (attempts_of marks) (attempts_of marks2)) is) in
      let all = marks-same marks marks2 (and_right (inc == inc2) (same_ids (attempts_of marks) (attempts_of marks2)) is) true' (λ x c i. (said x c i).fate) in
      ap (λ i. message.Mark i marks2) (sym incs) ∙ ap (message.Mark inc) (sym all)
    where
      number-is : (a b : ℕ) → (a == b) ≡ true → a ≡ b
      number-is a b is = grind (arith, nat_tests)
  asked-mark inc marks from to q true' said is = let no : ⊥ = cc in absurd no

  pub mark-alike : (l q : Letter) (t inc : ℕ) (marks : List (AttemptId × Bool)) → Has l w.messages → Has q w.asked → l.to ≡ target t → l.message ≡ message.Mark inc marks
      → is_answer_to (record { from = target t; to = l.from; message = message.Marked inc (attempts_of marks) }) q ≡ true → q ≡ l
  mark-alike l q t inc marks flies waits to says is =
      let a = answer-is (record { from = target t; to = l.from; message = message.Marked inc (attempts_of marks) }) q is in
      let said : IsSaidSo r h w l.from l.to (message.Mark inc marks) = subst (IsSaidSo r h w l.from l.to) says (k.letters l flies) in
      answered-same l q t (message.Marked inc (attempts_of marks)) to is (asked-mark inc marks q.from q.to q.message (λ x c i. (said x c i).fate) (k.asked q waits) a.reply ∙ sym says)

  -- ---- a Prepare

  asked-prepare : (t : ℕ) (x : AttemptId) (inc : ℕ) (refusal : Option Outcome) (q : Letter) → q.to ≡ target t → (n : Message) → q.message ≡ n → is_reply (message.Ack x inc refusal) n ≡ true → is_try r x t q ≡ true
  asked-prepare t x inc refusal q to (message.Prepare e first ws inc2) at is =
      let same : x ≡ e.attempt = same-is x e.attempt (and_left (same_attempt x e.attempt) (inc == inc2) is) in
      prepare-tries r q t e first ws inc2 at to x t ∙ both (is_target t (target t)) (same_attempt e.attempt x) (own-target t) (ap (same_attempt e.attempt) same ∙ same_attempt-itself e.attempt)
  asked-prepare t x inc refusal q to n at is = let no : ⊥ = cc in absurd no

  -- only one is in flight
  pub prepare-alike : PromptsFly w → (l q : Letter) (t : ℕ) (e : Entry) (first : Option Epoch) (ws : List MinorWrite) (inc : ℕ) (refusal : Option Outcome) (p : Letter → Bool) → Has l w.messages → Has q w.asked → IsOther r e.attempt t
      → l.message ≡ message.Prepare e first ws inc → is_prompt l ≡ true
      → is_answer_to (record { from = target t; to = l.from; message = message.Ack e.attempt inc refusal }) l ≡ true → is_answer_to (record { from = target t; to = l.from; message = message.Ack e.attempt inc refusal }) q ≡ true
      → p q ≡ p l
  prepare-alike fly l q t e first ws inc refusal p flies waits other says prompt answers is =
      one-alike w (λ n. is_answer_to answer n && is_prompt n) p (λ n on. and_right (is_answer_to answer n) (is_prompt n) on) fly few l q flies (both (is_answer_to answer l) (is_prompt l) answers prompt) waits (both (is_answer_to answer q) (is_prompt q) is like)
    where
      answer : Letter
      answer = record { from = target t; to = l.from; message = message.Ack e.attempt inc refusal }

      like : is_prompt q ≡ true
      like = let a = answer-is answer q is in let b = answer-is answer l answers in prompt-like q l (sym a.receiver ∙ b.receiver) (sym a.sender ∙ b.sender) (kind q.message a.reply) prompt
        where
          kind : (n : Message) → is_reply (message.Ack e.attempt inc refusal) n ≡ true → is_prompt_kind n ≡ true
          kind (message.Prepare e2 first2 ws2 inc2) on = refl
          kind n on = let no : ⊥ = cc in absurd no

      few : count (λ n. is_answer_to answer n && is_prompt n) w.messages ≤ 1
      few =
          let less = count-less (λ n. is_answer_to answer n && is_prompt n) (is_try r e.attempt t) w.messages (λ n on. tries n (and_left (is_answer_to answer n) (is_prompt n) on)) in
          let one = (k.each e.attempt).awaited.tries t other in
          omega (arith, less, one)
        where
          tries : (n : Letter) → is_answer_to answer n ≡ true → is_try r e.attempt t n ≡ true
          tries n on = let a = answer-is answer n on in asked-prepare t e.attempt inc refusal n (sym a.sender) n.message refl a.reply
