-- What goes to some targets is lost, and who asked them is told: how many letters ask for an attempt and answer then.
use Rattle.std.specs.Prelude.{ℕ, ◌≡◌, ◌⊎◌, ◌+◌, ◌≤◌, ◌==◌, Bool, true, false, ◌&&◌, ◌||◌, not, filter, refl}
use Rattle.std.proofs.Common.{sym, ◌∙◌, ap, subst, arith}
use Rattle.std.proofs.lemmas.Bool.Decides.{nat_tests}
use Rattle.base_types.specs.declared.id.AttemptId.{AttemptId}
use Rattle.model_laws.specs.Members.{Has}
use Rattle.base_messages.specs.declared.actor.ActorId.{ActorId}
use Rattle.base_messages.specs.declared.message.Message.{Message}
use Rattle.base_messages.specs.declared.message.Message.TheVariants as message
use Rattle.daos_model.specs.BoolLaws.{and_left, and_right, both, clash, false_of}
use Rattle.daos_model.specs.Durables.{same_attempt}
use Rattle.dtx_base.specs.LeaderLaws.{same-is}
use Rattle.world_commit.specs.attempts.Attempts.{count, is_target, leader_of}
use Rattle.world_commit.specs.attempts.Counting.{count-same}
use Rattle.world_commit.specs.attempts.History.{History}
use Rattle.world_commit.specs.fates.Facts.{IsSaidSo, PromptsFly, answers_for, asks_for, is_between, is_prompt, is_prompt_kind, prepares_in_vain, prepares_it}
use Rattle.world_commit.specs.fates.Prompts.{count-less}
use Rattle.world_commit.specs.fates.Talks.{own-target}
use Rattle.world_commit.specs.stops.Counts.{count-parts}
use Rattle.world_base.specs.declared.letter.Letter.{Letter}
use Rattle.world_base.specs.declared.world.World.{World}
use Rattle.world_base.specs.Events.{Rules}
use Rattle.world_base.specs.Letters.{reset_message, target}
use Rattle.world_base.specs.Stops.{reset_letter}

-- an actor is a target of these
abbrev pub is_out : (ℕ → Bool) → ActorId → Bool
is_out out a = not a.client && out a.number

abbrev pub is_lost : (ℕ → Bool) → Letter → Bool
is_lost out l = is_out out l.to

-- What goes to these targets is lost, and their Resets come, but perhaps for those that go to them in turn.
pub record Loses (out : ℕ → Bool) (down : Bool) (w v : World) : Type 0 where
  pub comes : Letter → Bool
  pub back : (q : Letter) → is_out out q.from ≡ false → comes q ≡ true
  pub counts : (p : Letter → Bool) → count p v.messages ≡ count (λ l. not (is_lost out l) && p l) w.messages + count (λ q. is_lost out q && (comes q && p (reset_letter down q))) w.asked
  pub came : (l : Letter) → Has l v.messages → Has l w.messages ⊎ ((q : Letter) × Has q w.asked × (reset_letter down q ≡ l))
  pub asked : v.asked ≡ filter (λ l. not (is_lost out l)) w.asked

-- what is asked, and what tells that it got no answer
pub record AreResets (asks answers : Message → Bool) : Type 0 where
  pub reset : (t : ℕ) (down : Bool) (q : Message) → answers (reset_message t down q) ≡ asks q
  pub not_asked : (t : ℕ) (down : Bool) (q : Message) → asks (reset_message t down q) ≡ false
  pub prompt : (q : Message) → asks q ≡ true → is_prompt_kind q ≡ true

target-client : (m : ℕ) (a : ActorId) → is_target m a ≡ true → not a.client ≡ true
target-client m a is = and_left (not a.client) (a.number == m) is

module _ (asks answers : Message → Bool) (a : AreResets asks answers) (leader m : ℕ) (out : ℕ → Bool) (down : Bool) (w v : World) (loss : Loses out down w v) (fly : PromptsFly w) where
  abbrev test : Letter → Bool
  test = is_between asks answers leader m

  -- what the leader asks the member
  abbrev question : Letter → Bool
  question q = is_target leader q.from && (is_target m q.to && asks q.message)

  abbrev lost_question : Letter → Bool
  lost_question q = is_lost out q && question q

  -- a Reset is counted just where its question is the leader's to the member
  reset-test : (q : Letter) → test (reset_letter down q) ≡ question q
  unfolding is_between
  reset-test q =
      ap (λ b. is_target m q.from && b || is_target leader q.from && (is_target m q.to && answers (reset_message q.to.number down q.message))) (a.not_asked q.to.number down q.message)
      ∙ ap (λ b. is_target m q.from && false || is_target leader q.from && (is_target m q.to && b)) (a.reset q.to.number down q.message) ∙ none (is_target m q.from) (question q)
    where
      none : (b c : Bool) → (b && false || c) ≡ c
      none true c = refl
      none false c = refl

  question-prompt : (q : Letter) → lost_question q ≡ true → is_prompt q ≡ true
  unfolding is_prompt
  question-prompt q is =
      let own = and_right (is_lost out q) (question q) is in
      let from : is_target leader q.from ≡ true = and_left (is_target leader q.from) (is_target m q.to && asks q.message) own in
      let rest : (is_target m q.to && asks q.message) ≡ true = and_right (is_target leader q.from) (is_target m q.to && asks q.message) own in
      both (is_prompt_kind q.message) (not q.from.client && not q.to.client) (a.prompt q.message (and_right (is_target m q.to) (asks q.message) rest))
      (both (not q.from.client) (not q.to.client) (target-client leader q.from from) (target-client m q.to (and_left (is_target m q.to) (asks q.message) rest)))

  -- a question is counted
  question-counted : (q : Letter) → question q ≡ true → test q ≡ true
  unfolding is_between
  question-counted q is =
      let rest : (is_target m q.to && asks q.message) ≡ true = and_right (is_target leader q.from) (is_target m q.to && asks q.message) is in
      ap (λ b. b || is_target leader q.to && (is_target m q.from && answers q.message)) rest

  flying : count lost_question w.asked ≡ count lost_question w.messages
  flying = fly lost_question question-prompt

  -- as many come back as were asked
  came-back : count (λ q. is_lost out q && (loss.comes q && test (reset_letter down q))) w.asked ≤ count lost_question w.asked
  came-back = count-less (λ q. is_lost out q && (loss.comes q && test (reset_letter down q))) lost_question w.asked less
    where
      less : (q : Letter) → (is_lost out q && (loss.comes q && test (reset_letter down q))) ≡ true → lost_question q ≡ true
      less q is =
          let rest = and_right (is_lost out q) (loss.comes q && test (reset_letter down q)) is in
          both (is_lost out q) (question q) (and_left (is_lost out q) (loss.comes q && test (reset_letter down q)) is) (sym (reset-test q) ∙ and_right (loss.comes q) (test (reset_letter down q)) rest)

  -- there are never more
  pub fewer : count test v.messages ≤ count test w.messages
  fewer =
      let after = loss.counts test in
      let before = count-parts test (is_lost out) w.messages in
      let less = count-less lost_question (λ l. is_lost out l && test l) w.messages (λ q is. both (is_lost out q) (test q) (and_left (is_lost out q) (question q) is) (question-counted q (and_right (is_lost out q) (question q) is))) in
      let fly2 = flying in
      let back = came-back in
      omega (arith, after, before, less, fly2, back)

  -- where the leader goes on there are as many
  module _ (stays : out leader ≡ false) (asked : (q : Letter) → Has q w.messages → asks q.message ≡ true → is_target leader q.from ≡ true) where
    leader-stays : (b : ActorId) → is_target leader b ≡ true → is_out out b ≡ false
    leader-stays b is = false_of (is_out out b) (λ on. clash (out leader) (subst (λ n. out n ≡ true) (number-is b.number leader (and_right (not b.client) (b.number == leader) is)) (and_right (not b.client) (out b.number) on)) stays)
      where
        number-is : (i j : ℕ) → (i == j) ≡ true → i ≡ j
        number-is i j is = grind (arith, nat_tests)

    all-back : count (λ q. is_lost out q && (loss.comes q && test (reset_letter down q))) w.asked ≡ count lost_question w.asked
    all-back = count-same (λ q. is_lost out q && (loss.comes q && test (reset_letter down q))) lost_question w.asked (λ q i. ap (λ b. is_lost out q && b) (by q (is_target leader q.from) refl))
      where
        by : (q : Letter) (b : Bool) → is_target leader q.from ≡ b → (loss.comes q && test (reset_letter down q)) ≡ question q
        by q true is = ap (λ b. b && test (reset_letter down q)) (loss.back q (leader-stays q.from is)) ∙ reset-test q
        by q false off =
            ap (λ b. loss.comes q && b) (reset-test q ∙ ap (λ b. b && (is_target m q.to && asks q.message)) off) ∙ none (loss.comes q) ∙ sym (ap (λ b. b && (is_target m q.to && asks q.message)) off)
          where
            none : (b : Bool) → (b && false) ≡ false
            none true = refl
            none false = refl

    -- of what is in flight the questions alone are lost
    all-lost : count (λ l. is_lost out l && test l) w.messages ≡ count lost_question w.messages
    unfolding is_between
    all-lost = count-same (λ l. is_lost out l && test l) lost_question w.messages (λ l i. by l (asked l i))
      where
        by : (l : Letter) → (asks l.message ≡ true → is_target leader l.from ≡ true) → (is_lost out l && test l) ≡ lost_question l
        by l own = cases (is_lost out l) refl (asks l.message) refl (is_target leader l.to) refl
          where
            cases : (b : Bool) → is_lost out l ≡ b → (c : Bool) → asks l.message ≡ c → (d : Bool) → is_target leader l.to ≡ d → (is_lost out l && test l) ≡ lost_question l
            cases b p c q true d = let off : is_lost out l ≡ false = leader-stays l.to d in ap (λ y. y && test l) off ∙ sym (ap (λ y. y && question l) off)
            cases b p true q false d =
                ap (λ y. is_lost out l && y)
                (ap (λ y. is_target m l.to && y || is_target leader l.to && (is_target m l.from && answers l.message)) q ∙ ap (λ y. is_target m l.to && true || y && (is_target m l.from && answers l.message)) d ∙ and-or (is_target m l.to)
                ∙ sym (ap (λ y. y && (is_target m l.to && asks l.message)) (own q) ∙ ap (λ y. is_target m l.to && y) q))
              where
                and-or : (b : Bool) → (b && true || false) ≡ (b && true)
                and-or true = refl
                and-or false = refl
            cases b p false q false d =
                ap (λ y. is_lost out l && y)
                (ap (λ y. is_target m l.to && y || is_target leader l.to && (is_target m l.from && answers l.message)) q ∙ ap (λ y. is_target m l.to && false || y && (is_target m l.from && answers l.message)) d ∙ none (is_target m l.to)
                ∙ sym (ap (λ y. is_target leader l.from && (is_target m l.to && y)) q ∙ none2 (is_target leader l.from) (is_target m l.to)))
              where
                none : (b : Bool) → (b && false || false) ≡ false
                none true = refl
                none false = refl

                none2 : (b c : Bool) → (b && (c && false)) ≡ false
                none2 true true = refl
                none2 true false = refl
                none2 false c = refl

    pub as-many : count test v.messages ≡ count test w.messages
    as-many =
        let after = loss.counts test in
        let before = count-parts test (is_lost out) w.messages in
        let fly2 = flying in
        let back = all-back in
        let lost = all-lost in
        omega (arith, after, before, fly2, back, lost)

-- ---- what this asks of letters

pub talk-resets : (inc : ℕ) (x : AttemptId) → AreResets (asks_for inc x) (answers_for inc x)
talk-resets inc x = record { reset = λ t down q. refl; not_asked = λ t down q. refl; prompt = prompt }
  where
    prompt : (q : Message) → asks_for inc x q ≡ true → is_prompt_kind q ≡ true
    prompt (message.Prepare e first ws i) is = refl
    prompt (message.Status a i) is = refl
    prompt q is = let no : ⊥ = cc in absurd no

pub try-resets : (x : AttemptId) → AreResets (prepares_it x) (prepares_in_vain x)
try-resets x = record { reset = λ t down q. refl; not_asked = λ t down q. refl; prompt = prompt }
  where
    prompt : (q : Message) → prepares_it x q ≡ true → is_prompt_kind q ≡ true
    prompt (message.Prepare e first ws i) is = refl
    prompt q is = let no : ⊥ = cc in absurd no

sent-by : (r : Rules) (x a : AttemptId) (from : ActorId) → from ≡ target (leader_of r a) → same_attempt a x ≡ true → is_target (leader_of r x) from ≡ true
sent-by r x a from sender is = ap (is_target (leader_of r x)) (sender ∙ ap (λ y. target (leader_of r y)) (same-is a x is)) ∙ own-target (leader_of r x)

-- an attempt's leader alone asks for it
pub asked-by : (r : Rules) (h : History) (w : World) (inc : ℕ) (x : AttemptId) (from to : ActorId) (q : Message) → IsSaidSo r h w from to q → asks_for inc x q ≡ true → is_target (leader_of r x) from ≡ true
asked-by r h w inc x from to (message.Prepare e first ws i) k is = sent-by r x e.attempt from k.way.sender (and_left (same_attempt e.attempt x) (i == inc) is)
asked-by r h w inc x from to (message.Status a i) k is = sent-by r x a from k.way.sender (and_left (same_attempt a x) (i == inc) is)
asked-by r h w inc x from to q k is = let no : ⊥ = cc in absurd no
