-- What goes to targets that stopped or are given up is lost, and of what was named and asked its Reset comes.
use Rattle.std.specs.Prelude.{ℕ, ◌≡◌, ◌⊎◌, ◌≤◌, ◌==◌, Bool, true, false, ◌&&◌, not, List, [], slice_get, Option, Some, None, refl}
use Rattle.std.proofs.Common.{sym, ◌∙◌, ap, subst, inl, inr, arith}
use Rattle.std.proofs.lemmas.Bool.Decides.{nat_tests}
use Rattle.base_types.specs.declared.id.AttemptId.{AttemptId}
use Rattle.model_laws.specs.Members.{Has}
use Rattle.base_messages.specs.declared.actor.ActorId.{ActorId}
use Rattle.base_messages.specs.declared.message.Message.{Message}
use Rattle.base_messages.specs.declared.message.Message.TheVariants as message
use Rattle.daos_model.specs.BoolLaws.{and_left, and_right, both}
use Rattle.daos_model.specs.Durables.{same_attempt}
use Rattle.daos_model.specs.EntryLaws.{same_attempt-itself}
use Rattle.dtx_base.specs.declared.leading.Naming.{Naming}
use Rattle.dtx_base.specs.LeaderLaws.{same-is}
use Rattle.dtx_base.specs.Leading.{attempts_of}
use Rattle.dtx_base.specs.Rows.{is_among}
use Rattle.world_commit.specs.asks.Asks.{Flies, IsMark, IsMarked, IsNamingOf, IsQuery, IsQueryOf, IsVerdict}
use Rattle.world_commit.specs.asks.NamedLaws.{NamedSo}
use Rattle.world_commit.specs.asks.ParkedLaws.{ParkedSo}
use Rattle.world_commit.specs.attempts.Attempts.{count, is_target}
use Rattle.world_commit.specs.attempts.Counting.{count-some}
use Rattle.world_commit.specs.attempts.Stored.{among-has, among-is}
use Rattle.world_commit.specs.fates.Facts.{PromptsFly, is_prompt, is_prompt_kind}
use Rattle.world_commit.specs.fates.Prompts.{some-counted}
use Rattle.world_commit.specs.fates.Talks.{own-target}
use Rattle.world_commit.specs.questions.Facts.{IsMarkFor, IsNamed, IsNamingReset, IsOnNaming, IsOnQuery, IsQueryReset, IsResetBy, IsAsked, NamingsFly, WaitingAreAsked}
use Rattle.world_commit.specs.questions.Facts as fact
use Rattle.world_commit.specs.stops.Losses.{is_lost, is_out}
use Rattle.world_base.specs.declared.letter.Letter.{Letter}
use Rattle.world_base.specs.declared.target.TargetMemory.{TargetMemory}
use Rattle.world_base.specs.declared.target.TargetState.{TargetState}
use Rattle.world_base.specs.declared.world.World.{World}
use Rattle.world_base.specs.Letters.{same_ask, target}
use Rattle.world_base.specs.Stops.{no_memory, reset_letter}

-- What goes to these targets is lost, and who asked them, and isn't one of them, is told.
pub record LosesMail (out : ℕ → Bool) (down : Bool) (w v : World) : Type 0 where
  pub stays : (l : Letter) → Has l w.messages → is_lost out l ≡ false → Has l v.messages
  pub told : (q : Letter) → Has q w.asked → is_lost out q ≡ true → is_out out q.from ≡ false → Has (reset_letter down q) v.messages

-- a target waits for no answer to what it named and asked
pub record WaitsForNone (m : TargetMemory) : Type 0 where
  pub named : m.leader.named ≡ []
  pub parked : m.member.parked ≡ []
  pub inquiries : m.member.inquiries ≡ []

-- each target waits for no answer, or it isn't one of these and knows what it knew
pub record Forgets (out : ℕ → Bool) (w v : World) : Type 0 where
  pub memory : (t : ℕ) (z : TargetState) → slice_get v.targets t ≡ Some z → WaitsForNone z.memory ⊎ ((s : TargetState) × (slice_get w.targets t ≡ Some s) × (z.memory ≡ s.memory) × (out t ≡ false))

pub none-waits : (m : TargetMemory) → m ≡ no_memory → WaitsForNone m
none-waits m is = record { named = ap (λ y. y.leader.named) is; parked = ap (λ y. y.member.parked) is; inquiries = ap (λ y. y.member.inquiries) is }

-- ---- targets

target-of : (m : ℕ) (a : ActorId) → is_target m a ≡ true → a ≡ target m
target-of m a is = by a.client refl (and_left (not a.client) (a.number == m) is) (and_right (not a.client) (a.number == m) is)
  where
    by : (c : Bool) → a.client ≡ c → not c ≡ true → (a.number == m) ≡ true → a ≡ target m
    by true own off same = let no : ⊥ = cc in absurd no
    by false own off same = let one : a.number ≡ m = grind (arith, nat_tests) in ap (λ n. record { client = a.client; number = n }) one ∙ ap (λ b. record { client = b; number = m }) own

target-test : (m : ℕ) (a : ActorId) → a ≡ target m → is_target m a ≡ true
target-test m a is = ap (is_target m) is ∙ own-target m

-- a letter to a target is lost just where that is one of these
pub lost-at : (out : ℕ → Bool) (a : ActorId) (m : ℕ) → a ≡ target m → is_out out a ≡ out m
lost-at out a m is = ap (is_out out) is

-- ---- questions, as tests

abbrev names_so : Naming → Message → Bool
names_so n (message.Mark inc marks) = (inc == n.inc) && is_among n.attempt (attempts_of marks)
names_so n m = false

abbrev is_naming_by : ℕ → Naming → Letter → Bool
is_naming_by t n l = is_target t l.from && (is_target n.member l.to && names_so n l.message)

abbrev asks_so : AttemptId → Option AttemptId → Message → Bool
asks_so x ask (message.Query a for') = same_attempt a x && same_ask for' ask
asks_so x ask m = false

abbrev is_query_by : ℕ → ℕ → AttemptId → Option AttemptId → Letter → Bool
is_query_by m leader x ask l = is_target m l.from && (is_target leader l.to && asks_so x ask l.message)

names-for : (n : Naming) (q : Message) → names_so n q ≡ true → IsMarkFor n q
names-for n (message.Mark inc marks) is = record {
  marks = marks;
  mark = (let one : inc ≡ n.inc = number-is inc n.inc (and_left (inc == n.inc) (is_among n.attempt (attempts_of marks)) is) in ap (λ i. message.Mark i marks) one);
  names = among-is n.attempt (attempts_of marks) (and_right (inc == n.inc) (is_among n.attempt (attempts_of marks)) is);
}
  where
    number-is : (a b : ℕ) → (a == b) ≡ true → a ≡ b
    number-is a b is = grind (arith, nat_tests)
names-for n q is = let no : ⊥ = cc in absurd no

for-names : (n : Naming) (marks : List (AttemptId × Bool)) → Has n.attempt (attempts_of marks) → names_so n (message.Mark n.inc marks) ≡ true
for-names n marks i = both (n.inc == n.inc) (is_among n.attempt (attempts_of marks)) (itself n.inc) (among-has n.attempt (attempts_of marks) i)
  where
    itself : (a : ℕ) → (a == a) ≡ true
    itself a = grind (arith, nat_tests)

ask-is : (a b : Option AttemptId) → same_ask a b ≡ true → a ≡ b
ask-is None None is = refl
ask-is None (Some b) is = let no : ⊥ = cc in absurd no
ask-is (Some a) None is = let no : ⊥ = cc in absurd no
ask-is (Some a) (Some b) is = ap (λ x. Some x) (same-is a b is)

ask-itself : (ask : Option AttemptId) → same_ask ask ask ≡ true
ask-itself None = refl
ask-itself (Some a) = same_attempt-itself a

asks-query : (x : AttemptId) (ask : Option AttemptId) (q : Message) → asks_so x ask q ≡ true → q ≡ message.Query x ask
asks-query x ask (message.Query a for') is =
    ap (λ z. message.Query z for') (same-is a x (and_left (same_attempt a x) (same_ask for' ask) is)) ∙ ap (message.Query x) (ask-is for' ask (and_right (same_attempt a x) (same_ask for' ask) is))
asks-query x ask q is = let no : ⊥ = cc in absurd no

query-asks : (x : AttemptId) (ask : Option AttemptId) → asks_so x ask (message.Query x ask) ≡ true
query-asks x ask = both (same_attempt x x) (same_ask ask ask) (same_attempt-itself x) (ask-itself ask)

between-prompt : (a b : ℕ) (kind : Message → Bool) → ((q : Message) → kind q ≡ true → is_prompt_kind q ≡ true) → (l : Letter) → is_target a l.from && (is_target b l.to && kind l.message) ≡ true → is_prompt l ≡ true
unfolding is_prompt
between-prompt a b kind wide l is =
    let rest : is_target b l.to && kind l.message ≡ true = and_right (is_target a l.from) (is_target b l.to && kind l.message) is in
    both (is_prompt_kind l.message) (not l.from.client && not l.to.client) (wide l.message (and_right (is_target b l.to) (kind l.message) rest))
    (both (not l.from.client) (not l.to.client) (and_left (not l.from.client) (l.from.number == a) (and_left (is_target a l.from) (is_target b l.to && kind l.message) is))
    (and_left (not l.to.client) (l.to.number == b) (and_left (is_target b l.to) (kind l.message) rest)))

naming-prompt : (n : Naming) (q : Message) → names_so n q ≡ true → is_prompt_kind q ≡ true
naming-prompt n (message.Mark inc marks) is = refl
naming-prompt n q is = let no : ⊥ = cc in absurd no

query-prompt : (x : AttemptId) (ask : Option AttemptId) (q : Message) → asks_so x ask q ≡ true → is_prompt_kind q ≡ true
query-prompt x ask (message.Query a for') is = refl
query-prompt x ask q is = let no : ⊥ = cc in absurd no

-- what is in flight and is answered at once is without an answer
pub asked-of : (w : World) → PromptsFly w → (p : Letter → Bool) → ((l : Letter) → p l ≡ true → is_prompt l ≡ true) → (l : Letter) → Has l w.messages → p l ≡ true → (q : Letter) × Has q w.asked × (p q ≡ true)
asked-of w fly p wide l i is = let some = count-some p w.messages l i is in let same = fly p wide in some-counted p w.asked (omega (arith, some, same))

-- ---- what was on its way comes back

module _ (out : ℕ → Bool) (down : Bool) (w v : World) (loss : LosesMail out down w v) (fly : PromptsFly w) where
  naming-lost : (t : ℕ) (n : Naming) → out t ≡ false → (b : Bool) → out n.member ≡ b → (l : Letter) → Has l w.messages → (marks : List (AttemptId × Bool)) → l.message ≡ message.Mark n.inc marks → l.from ≡ target t → l.to ≡ target n.member
      → Has n.attempt (attempts_of marks) → IsOnNaming v t n
  naming-lost t n on false there l i marks is from to names = IsNamed (l, loss.stays l i (lost-at out l.to n.member to ∙ there), IsMark marks is from to names)
  naming-lost t n on true there l i marks is from to names =
      let named : names_so n l.message ≡ true = ap (names_so n) is ∙ for-names n marks names in
      let rest : is_target n.member l.to && names_so n l.message ≡ true = both (is_target n.member l.to) (names_so n l.message) (target-test n.member l.to to) named in
      let q = asked-of w fly (is_naming_by t n) (between-prompt t n.member (names_so n) (naming-prompt n)) l i (both (is_target t l.from) (is_target n.member l.to && names_so n l.message) (target-test t l.from from) rest) in
      let tail : is_target n.member q.0.to && names_so n q.0.message ≡ true = and_right (is_target t q.0.from) (is_target n.member q.0.to && names_so n q.0.message) q.2 in
      let asker = target-of t q.0.from (and_left (is_target t q.0.from) (is_target n.member q.0.to && names_so n q.0.message) q.2) in
      let asked = target-of n.member q.0.to (and_left (is_target n.member q.0.to) (names_so n q.0.message) tail) in
      fact.IsReset (
        reset_letter down q.0,
        loss.told q.0 q.1 (lost-at out q.0.to n.member asked ∙ there) (lost-at out q.0.from t asker ∙ on),
        record { from = asked; to = asker; tells = (ap (λ a. a.number) asked, names-for n q.0.message (and_right (is_target n.member q.0.to) (names_so n q.0.message) tail)) },
      )

  pub naming-stays : (t : ℕ) (n : Naming) → out t ≡ false → IsOnNaming w t n → IsOnNaming v t n
  naming-stays t n on (IsNamed (l, i, IsMark marks is from to names)) = naming-lost t n on (out n.member) refl l i marks is from to names
  naming-stays t n on (IsNamed (l, i, IsMarked ids is from to names)) = IsNamed (l, loss.stays l i (lost-at out l.to t to ∙ on), IsMarked ids is from to names)
  naming-stays t n on (fact.IsReset (l, i, k)) = fact.IsReset (l, loss.stays l i (lost-at out l.to t k.to ∙ on), k)

  query-lost : (m : ℕ) (x : AttemptId) (ask : Option AttemptId) → out m ≡ false → (leader : ℕ) (b : Bool) → out leader ≡ b → (l : Letter) → Has l w.messages → l.message ≡ message.Query x ask → l.from ≡ target m → l.to ≡ target leader → IsOnQuery v m x ask
  query-lost m x ask on leader false there l i is from to = IsAsked (l, loss.stays l i (lost-at out l.to leader to ∙ there), IsQuery leader is from to)
  query-lost m x ask on leader true there l i is from to =
      let rest : is_target leader l.to && asks_so x ask l.message ≡ true = both (is_target leader l.to) (asks_so x ask l.message) (target-test leader l.to to) (ap (asks_so x ask) is ∙ query-asks x ask) in
      let q = asked-of w fly (is_query_by m leader x ask) (between-prompt m leader (asks_so x ask) (query-prompt x ask)) l i (both (is_target m l.from) (is_target leader l.to && asks_so x ask l.message) (target-test m l.from from) rest) in
      let tail : is_target leader q.0.to && asks_so x ask q.0.message ≡ true = and_right (is_target m q.0.from) (is_target leader q.0.to && asks_so x ask q.0.message) q.2 in
      let asker = target-of m q.0.from (and_left (is_target m q.0.from) (is_target leader q.0.to && asks_so x ask q.0.message) q.2) in
      let asked = target-of leader q.0.to (and_left (is_target leader q.0.to) (asks_so x ask q.0.message) tail) in
      fact.IsReset (
        reset_letter down q.0,
        loss.told q.0 q.1 (lost-at out q.0.to leader asked ∙ there) (lost-at out q.0.from m asker ∙ on),
        record { leader = leader; from = asked; to = asker; tells = (ap (λ a. a.number) asked, asks-query x ask q.0.message (and_right (is_target leader q.0.to) (asks_so x ask q.0.message) tail)) },
      )

  pub query-stays : (m : ℕ) (x : AttemptId) (ask : Option AttemptId) → out m ≡ false → IsOnQuery w m x ask → IsOnQuery v m x ask
  query-stays m x ask on (IsAsked (l, i, IsQuery leader is from to)) = query-lost m x ask on leader (out leader) refl l i is from to
  query-stays m x ask on (IsAsked (l, i, IsVerdict inc said is to)) = IsAsked (l, loss.stays l i (lost-at out l.to m to ∙ on), IsVerdict inc said is to)
  query-stays m x ask on (fact.IsReset (l, i, k)) = fact.IsReset (l, loss.stays l i (lost-at out l.to m k.to ∙ on), k)

  module _ (knows : Forgets out w v) where
    pub namings-stay : NamingsFly w → NamingsFly v
    namings-stay k t z n here i = elim (knows.memory t z here) [
      | inl none ↦ absurd (subst (Has n) none.named i)
      | inr s ↦ naming-stays t n s.3 (k t s.0 n s.1 (subst (λ y. Has n y.leader.named) s.2 i))
    ]

    pub waiting-stay : WaitingAreAsked w → WaitingAreAsked v
    waiting-stay k m z p here i = elim (knows.memory m z here) [
      | inl none ↦ absurd (subst (Has p) none.parked i)
      | inr s ↦
          let a = k m s.0 p s.1 (subst (λ y. Has p y.member.parked) s.2 i) in
          record { of = a.of; fetch = a.fetch; asked = query-stays m p.on (Some a.of) s.3 a.asked }
    ]
