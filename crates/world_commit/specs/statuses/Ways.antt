-- Which letters are counted as talk: a question and its answer count alike.
use Rattle.std.specs.Prelude.{ℕ, ◌≡◌, ◌==◌, Bool, true, false, ◌&&◌, refl}
use Rattle.std.proofs.Common.{sym, ◌∙◌, ap, subst}
use Rattle.base_types.specs.declared.id.AttemptId.{AttemptId}
use Rattle.base_messages.specs.declared.message.Message.{Message}
use Rattle.base_messages.specs.declared.message.Message.TheVariants as message
use Rattle.daos_model.specs.Durables.{same_attempt}
use Rattle.dtx_base.specs.LeaderLaws.{same-is}
use Rattle.world_commit.specs.attempts.Attempts.{is_target, leader_of}
use Rattle.world_commit.specs.fates.Facts.{answers_for, asks_for, is_between, is_talk, is_try, prepares_in_vain, prepares_it}
use Rattle.world_commit.specs.fates.Talks.{answer-counted, asking-counted, own-target}
use Rattle.world_base.specs.declared.letter.Letter.{Letter}
use Rattle.world_base.specs.Events.{Rules}
use Rattle.world_base.specs.Letters.{target}

-- what goes to an attempt's leader, and is of this attempt, goes to the leader
pub way-counted : (r : Rules) (a x : AttemptId) (t m : ℕ) (b : Bool) → (is_target (leader_of r x) (target (leader_of r a)) && (is_target m (target t) && (same_attempt a x && b))) ≡ (is_target m (target t) && (same_attempt a x && b))
way-counted r a x t m b = by (same_attempt a x) refl
  where
    there : same_attempt a x ≡ true → is_target (leader_of r x) (target (leader_of r a)) ≡ true
    there own = subst (λ y. is_target (leader_of r y) (target (leader_of r a)) ≡ true) (same-is a x own) (own-target (leader_of r a))

    by : (c : Bool) → same_attempt a x ≡ c → (is_target (leader_of r x) (target (leader_of r a)) && (is_target m (target t) && (same_attempt a x && b))) ≡ (is_target m (target t) && (same_attempt a x && b))
    by true own = ap (λ d. d && (is_target m (target t) && (same_attempt a x && b))) (there own)
    by false off = ap (λ c. is_target (leader_of r x) (target (leader_of r a)) && (is_target m (target t) && (c && b))) off ∙ none (is_target (leader_of r x) (target (leader_of r a))) (is_target m (target t)) ∙ sym (ap (λ c. is_target m (target t) && (c && b)) off)
      where
        none : (d c : Bool) → (d && (c && false)) ≡ (c && false)
        none true c = refl
        none false true = refl
        none false false = refl

-- a letter that neither asks nor answers isn't counted
pub neither-counted : (asks answers : Message → Bool) (leader m : ℕ) (l : Letter) → asks l.message ≡ false → answers l.message ≡ false → is_between asks answers leader m l ≡ false
neither-counted asks answers leader m l off none = answer-counted asks answers leader m l off ∙ ap (λ b. is_target leader l.to && (is_target m l.from && b)) none ∙ by (is_target leader l.to) (is_target m l.from)
  where
    by : (b c : Bool) → (b && (c && false)) ≡ false
    by true true = refl
    by true false = refl
    by false c = refl

-- ---- a Status

module _ (r : Rules) (l : Letter) (t : ℕ) (a : AttemptId) (inc : ℕ) (is : l.message ≡ message.Status a inc) where
  pub status-talks : l.to ≡ target t → (i : ℕ) (x : AttemptId) (m : ℕ) → is_talk r i x m l ≡ (is_target m (target t) && (same_attempt a x && (inc == i)))
  status-talks to i x m = asking-counted (asks_for i x) (answers_for i x) (leader_of r x) m t l to (ap (answers_for i x) is) ∙ ap (λ q. is_target m (target t) && asks_for i x q) is

  pub status-no_try : (x : AttemptId) (m : ℕ) → is_try r x m l ≡ false
  status-no_try x m = neither-counted (prepares_it x) (prepares_in_vain x) (leader_of r x) m l (ap (prepares_it x) is) (ap (prepares_in_vain x) is)

-- ---- what answers one, or tells that it gets no answer

-- it goes back to the leader
pub back-talks : (r : Rules) (l : Letter) (t : ℕ) (a : AttemptId) (inc i : ℕ) (x : AttemptId) (m : ℕ) → l.from ≡ target t → l.to ≡ target (leader_of r a) → asks_for i x l.message ≡ false → answers_for i x l.message ≡ (same_attempt a x && (inc == i))
    → is_talk r i x m l ≡ (is_target m (target t) && (same_attempt a x && (inc == i)))
back-talks r l t a inc i x m from to off answers =
    answer-counted (asks_for i x) (answers_for i x) (leader_of r x) m l off
    ∙ ap (λ b. is_target (leader_of r x) l.to && (is_target m l.from && b)) answers
    ∙ ap (λ b. is_target (leader_of r x) l.to && (is_target m b && (same_attempt a x && (inc == i)))) from
    ∙ ap (λ b. is_target (leader_of r x) b && (is_target m (target t) && (same_attempt a x && (inc == i)))) to
    ∙ way-counted r a x t m (inc == i)
