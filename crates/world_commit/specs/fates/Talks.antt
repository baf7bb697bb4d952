-- Which Prepares, answers and refusals are counted as talk between an attempt's leader and a member.
use Rattle.std.specs.Prelude.{ℕ, ◌≡◌, ◌==◌, Bool, true, false, ◌&&◌, ◌||◌, List, Option, Some, refl}
use Rattle.std.proofs.Common.{sym, ◌∙◌, ap, subst, arith}
use Rattle.std.proofs.lemmas.Bool.Decides.{nat_tests}
use Rattle.base_types.specs.declared.entry.Entry.{Entry}
use Rattle.base_types.specs.declared.entry.EntryState.TheVariants as state
use Rattle.base_types.specs.declared.epoch.Epoch.{Epoch}
use Rattle.base_types.specs.declared.id.AttemptId.{AttemptId}
use Rattle.base_types.specs.declared.operation.MinorWrite.{MinorWrite}
use Rattle.base_types.specs.declared.outcome.Outcome.{Outcome}
use Rattle.model_laws.specs.Members.{Has}
use Rattle.base_messages.specs.declared.actor.ActorId.{ActorId}
use Rattle.base_messages.specs.declared.message.Message.{Message, more_of-Message}
use Rattle.base_messages.specs.declared.message.Message.TheVariants as message
use Rattle.daos_model.specs.BoolLaws.{and_left, false_of}
use Rattle.daos_model.specs.Durables.{same_attempt}
use Rattle.dtx_base.specs.LeaderLaws.{same-is}
use Rattle.world_commit.specs.attempts.Attempts.{IsBorn, IsOther, IsToLeader, is_asked_by, is_prepare_to, is_target, leader_of}
use Rattle.world_commit.specs.attempts.Counting.{count-none}
use Rattle.world_commit.specs.attempts.History.{History}
use Rattle.world_commit.specs.fates.Concerns.{Spare, asks_of, concerns, no-talk, no-try}
use Rattle.world_commit.specs.fates.Facts.{IsAskedSo, IsSaidSo, Ongoing, answers_for, asks_for, is_between, is_talk, is_try, prepares_in_vain, prepares_it, preparing, refuses_for, talking}
use Rattle.world_base.specs.declared.letter.Letter.{Letter}
use Rattle.world_base.specs.declared.world.World.{World}
use Rattle.world_base.specs.Events.{Rules}
use Rattle.world_base.specs.Letters.{target}

-- ---- numbers

pub own-target : (t : ℕ) → is_target t (target t) ≡ true
own-target t = grind (arith, nat_tests)

pub number-itself : (n : ℕ) → (n == n) ≡ true
number-itself n = grind (arith, nat_tests)

pub number-off : (a b : ℕ) → (a ≡ b → ⊥) → (b == a) ≡ false
number-off a b off = false_of (b == a) (λ is. off (grind (arith, nat_tests)))

pub is-target : (n u : ℕ) → is_target n (target u) ≡ true → n ≡ u
is-target n u is = let one : u ≡ n = grind (arith, nat_tests) in sym one

-- ---- a Prepare

-- a letter to a member that asks is counted just where it is its
pub asking-counted : (asks answers : Message → Bool) (leader m t : ℕ) (l : Letter) → l.to ≡ target t → answers l.message ≡ false → is_between asks answers leader m l ≡ (is_target m (target t) && asks l.message)
unfolding is_between
asking-counted asks answers leader m t l to off =
    ap (λ a. (is_target m a && asks l.message) || (is_target leader a && (is_target m l.from && answers l.message))) to
    ∙ ap (λ b. (is_target m (target t) && asks l.message) || (is_target leader (target t) && (is_target m l.from && b))) off
    ∙ by (is_target m (target t) && asks l.message) (is_target leader (target t)) (is_target m l.from)
  where
    by : (a b c : Bool) → (a || (b && (c && false))) ≡ a
    by true b c = refl
    by false true true = refl
    by false true false = refl
    by false false c = refl

-- a letter that only answers is counted just where it goes from the member to the leader
pub answer-counted : (asks answers : Message → Bool) (leader m : ℕ) (l : Letter) → asks l.message ≡ false → is_between asks answers leader m l ≡ (is_target leader l.to && (is_target m l.from && answers l.message))
unfolding is_between
answer-counted asks answers leader m l off = ap (λ b. (is_target m l.to && b) || (is_target leader l.to && (is_target m l.from && answers l.message))) off ∙ by (is_target m l.to) (is_target leader l.to && (is_target m l.from && answers l.message))
  where
    by : (a b : Bool) → ((a && false) || b) ≡ b
    by true b = refl
    by false b = refl

module _ (r : Rules) (l : Letter) (t : ℕ) (e : Entry) (first : Option Epoch) (ws : List MinorWrite) (inc : ℕ) (is : l.message ≡ message.Prepare e first ws inc) (to : l.to ≡ target t) where
  pub prepare-talks : (i : ℕ) (x : AttemptId) (m : ℕ) → is_talk r i x m l ≡ (is_target m (target t) && (same_attempt e.attempt x && (inc == i)))
  prepare-talks i x m = asking-counted (asks_for i x) (answers_for i x) (leader_of r x) m t l to (ap (answers_for i x) is) ∙ ap (λ q. is_target m (target t) && asks_for i x q) is

  pub prepare-tries : (x : AttemptId) (m : ℕ) → is_try r x m l ≡ (is_target m (target t) && same_attempt e.attempt x)
  prepare-tries x m = asking-counted (prepares_it x) (prepares_in_vain x) (leader_of r x) m t l to (ap (prepares_in_vain x) is) ∙ ap (λ q. is_target m (target t) && prepares_it x q) is

-- a Prepare to a member is one of those that are counted
pub prepare-between : (r : Rules) (x : AttemptId) (m : ℕ) (l : Letter) → is_prepare_to x m l ≡ true → is_try r x m l ≡ true
unfolding is_prepare_to is_between
prepare-between r x m l is = by l.message is
  where
    first : (a b c : Bool) → (a && b) ≡ true → (b && a || c) ≡ true
    first true true c is = refl
    first true false c is = let no : ⊥ = cc in absurd no
    first false b c is = let no : ⊥ = cc in absurd no

    by : (n : Message) → is_asked_by x m l.to n ≡ true → (is_target m l.to && prepares_it x n || is_target (leader_of r x) l.to && (is_target m l.from && prepares_in_vain x n)) ≡ true
    by (message.Prepare e first' ws inc) is = first (same_attempt e.attempt x) (is_target m l.to) (is_target (leader_of r x) l.to && (is_target m l.from && false)) is
    by n is = let no : ⊥ = cc in absurd no

-- ---- an answer

module _ (r : Rules) (l : Letter) (a : AttemptId) (inc : ℕ) (refusal : Option Outcome) (is : l.message ≡ message.Ack a inc refusal) where
  pub ack-talks : (i : ℕ) (x : AttemptId) (m : ℕ) → is_talk r i x m l ≡ (is_target (leader_of r x) l.to && (is_target m l.from && (same_attempt a x && (inc == i))))
  ack-talks i x m = answer-counted (asks_for i x) (answers_for i x) (leader_of r x) m l (ap (asks_for i x) is) ∙ ap (λ q. is_target (leader_of r x) l.to && (is_target m l.from && answers_for i x q)) is

  pub ack-no_try : (x : AttemptId) (m : ℕ) → is_try r x m l ≡ false
  ack-no_try x m = answer-counted (prepares_it x) (prepares_in_vain x) (leader_of r x) m l (ap (prepares_it x) is) ∙ ap (λ q. is_target (leader_of r x) l.to && (is_target m l.from && prepares_in_vain x q)) is ∙ by (is_target (leader_of r x) l.to) (is_target m l.from)
    where
      by : (b c : Bool) → (b && (c && false)) ≡ false
      by true true = refl
      by true false = refl
      by false c = refl

-- a Prepare talks just where its answer does
pub answer-talks : (r : Rules) (l n : Letter) (t : ℕ) (e : Entry) (first : Option Epoch) (ws : List MinorWrite) (inc : ℕ) (refusal : Option Outcome) → l.message ≡ message.Prepare e first ws inc → l.to ≡ target t → e.leader ≡ leader_of r e.attempt
    → n ≡ record { from = target t; to = target e.leader; message = message.Ack e.attempt inc refusal } → (i : ℕ) (x : AttemptId) (m : ℕ) → is_talk r i x m n ≡ is_talk r i x m l
answer-talks r l n t e first ws inc refusal is to leads same i x m =
    ack-talks r n e.attempt inc refusal (ap (λ q. q.message) same) i x m
    ∙ ap (λ q. is_target (leader_of r x) q.to && (is_target m q.from && (same_attempt e.attempt x && (inc == i)))) same
    ∙ by (same_attempt e.attempt x) refl
    ∙ sym (prepare-talks r l t e first ws inc is to i x m)
  where
    there : same_attempt e.attempt x ≡ true → is_target (leader_of r x) (target e.leader) ≡ true
    there own = subst (λ u. is_target u (target e.leader) ≡ true) (leads ∙ ap (leader_of r) (same-is e.attempt x own)) (own-target e.leader)

    by : (b : Bool) → same_attempt e.attempt x ≡ b → (is_target (leader_of r x) (target e.leader) && (is_target m (target t) && (same_attempt e.attempt x && (inc == i)))) ≡ (is_target m (target t) && (same_attempt e.attempt x && (inc == i)))
    by true own = ap (λ b. b && (is_target m (target t) && (same_attempt e.attempt x && (inc == i)))) (there own)
    by false off = ap (λ b. is_target (leader_of r x) (target e.leader) && (is_target m (target t) && (b && (inc == i)))) off ∙ none (is_target (leader_of r x) (target e.leader)) (is_target m (target t)) ∙ sym (ap (λ b. is_target m (target t) && (b && (inc == i))) off)
      where
        none : (a b : Bool) → (a && (b && false)) ≡ (b && false)
        none true b = refl
        none false true = refl
        none false false = refl

-- ---- a refusal

-- who refuses is counted, as a member that answers
pub refusal-talks : (r : Rules) (h : History) (w : World) (inc : ℕ) (x : AttemptId) (l : Letter) → IsSaidSo r h w l.from l.to l.message → refuses_for inc x l.message ≡ true → (m : ℕ) × IsOther r x m × (is_talk r inc x m l ≡ true)
refusal-talks r h w inc x l said is = by l.message refl said is
  where
    counts : (n : Message) → l.message ≡ n → (a : AttemptId) (i : ℕ) → asks_for inc x n ≡ false → answers_for inc x n ≡ (same_attempt a x && (i == inc)) → IsToLeader r a l.from l.to → (same_attempt a x && (i == inc)) ≡ true → (m : ℕ) × IsOther r x m × (is_talk r inc x m l ≡ true)
    counts n at a i asks answers way own = (way.member, subst (λ y. IsOther r y way.member) same way.other, all)
      where
        same : a ≡ x
        same = same-is a x (and_left (same_attempt a x) (i == inc) own)

        one : answers_for inc x l.message ≡ true
        one = ap (answers_for inc x) at ∙ answers ∙ own

        to-leader : is_target (leader_of r x) l.to ≡ true
        to-leader = ap (is_target (leader_of r x)) way.receiver ∙ subst (λ y. is_target (leader_of r x) (target (leader_of r y)) ≡ true) (sym same) (own-target (leader_of r x))

        from-member : is_target way.member l.from ≡ true
        from-member = ap (is_target way.member) way.sender ∙ own-target way.member

        all : is_talk r inc x way.member l ≡ true
        all = answer-counted (asks_for inc x) (answers_for inc x) (leader_of r x) way.member l (ap (asks_for inc x) at ∙ asks) ∙ three (is_target (leader_of r x) l.to) (is_target way.member l.from) (answers_for inc x l.message) to-leader from-member one
          where
            three : (a b c : Bool) → a ≡ true → b ≡ true → c ≡ true → (a && (b && c)) ≡ true
            three a b c p q s = rw (p, q, s) refl

    by : (n : Message) → l.message ≡ n → IsSaidSo r h w l.from l.to n → refuses_for inc x n ≡ true → (m : ℕ) × IsOther r x m × (is_talk r inc x m l ≡ true)
    by (message.Ack a i (Some how)) at k own = counts (message.Ack a i (Some how)) at a i refl refl k.way own
    by (message.StatusIs a i state.Absent) at k own = counts (message.StatusIs a i state.Absent) at a i refl refl k.way own
    by n at k own = let no : ⊥ = cc in absurd no

-- ---- attempts that their leader didn't store

asked-born : (r : Rules) (h : History) (w : World) (from to : ActorId) (x : AttemptId) (m : Message) → IsAskedSo r h w from to m → asks_of x m ≡ true → IsBorn r h w x
asked-born r h w from to x (message.Prepare e first ws i) k own = subst (IsBorn r h w) (same-is e.attempt x own) k.born
asked-born r h w from to x (message.Status a i) k own = subst (IsBorn r h w) (same-is a x own) k.born
asked-born r h w from to x m k own = let no : ⊥ = cc in absurd no

said-born : (r : Rules) (h : History) (w : World) (from to : ActorId) (x : AttemptId) (m : Message) → IsSaidSo r h w from to m → concerns x m ≡ true → IsBorn r h w x
said-born r h w from to x (message.Ack a i refusal) k own = subst (IsBorn r h w) (same-is a x own) k.born
said-born r h w from to x (message.StatusIs a i how) k own = subst (IsBorn r h w) (same-is a x own) k.born
said-born r h w from to x (message.Reset' t down place (more_of-Message q rest)) k own = asked-born r h w to from x q k own
said-born r h w from to x (message.Prepare e first ws i) k own = subst (IsBorn r h w) (same-is e.attempt x own) k.born
said-born r h w from to x (message.Status a i) k own = subst (IsBorn r h w) (same-is a x own) k.born
said-born r h w from to x m k own = let no : ⊥ = cc in absurd no

-- a letter that concerns an attempt is of one that was stored
pub concerns-born : (r : Rules) (h : History) (w : World) (x : AttemptId) (l : Letter) → Ongoing r h w → Has l w.messages → concerns x l.message ≡ true → IsBorn r h w x
concerns-born r h w x l k i is = said-born r h w l.from l.to x l.message (k.letters l i) is

-- so none concerns one that wasn't
pub unborn-spared : (r : Rules) (h : History) (w : World) (x : AttemptId) → Ongoing r h w → (IsBorn r h w x → ⊥) → Spare x w.messages
unborn-spared r h w x k unborn l i = false_of (concerns x l.message) (λ is. unborn (concerns-born r h w x l k i is))

pub spared-talks : (r : Rules) (w : World) (x : AttemptId) → Spare x w.messages → (inc m : ℕ) → talking r inc w x m ≡ 0
spared-talks r w x off inc m = count-none (is_talk r inc x m) w.messages (λ l i. no-talk r x l (off l i) inc m)

pub spared-tries : (r : Rules) (w : World) (x : AttemptId) → Spare x w.messages → (m : ℕ) → preparing r w x m ≡ 0
spared-tries r w x off m = count-none (is_try r x m) w.messages (λ l i. no-try r x l (off l i) m)
