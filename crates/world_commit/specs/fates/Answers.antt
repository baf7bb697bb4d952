-- What a member answers to the leader of an attempt: an Ack; or what it holds, which the leader hears as an Ack.
use Rattle.std.specs.Prelude.{ℕ, ◌≡◌, ◌==◌, Bool, true, false, ◌&&◌, Option, Some, None, refl}
use Rattle.std.proofs.Common.{◌∙◌, ap, subst, sym}
use Rattle.base_types.specs.declared.entry.EntryState.{EntryState}
use Rattle.base_types.specs.declared.entry.EntryState.TheVariants as state
use Rattle.base_types.specs.declared.id.AttemptId.{AttemptId}
use Rattle.base_types.specs.declared.outcome.Outcome.{Outcome}
use Rattle.base_messages.specs.declared.message.Message.{Message}
use Rattle.base_messages.specs.declared.message.Message.TheVariants as message
use Rattle.daos_model.specs.Durables.{same_attempt}
use Rattle.world_commit.specs.attempts.Attempts.{IsHeld, IsOkRight, is_target, leader_of}
use Rattle.world_commit.specs.attempts.History.{Aborted, History}
use Rattle.world_commit.specs.fates.Concerns.{concerns}
use Rattle.world_commit.specs.fates.Facts.{IsAckRight, IsSaidSo, IsStateTrue, answers_for, asks_for, is_talk, refuses_for}
use Rattle.world_commit.specs.fates.Talks.{ack-talks, answer-counted}
use Rattle.world_base.specs.declared.letter.Letter.{Letter}
use Rattle.world_base.specs.declared.world.World.{World}
use Rattle.world_base.specs.Events.{Rules}
use Rattle.world_base.specs.Statuses.{status_refusal}

-- A letter answers a leader of this incarnation for an attempt, with this refusal if it refuses: it says what an Ack says, and is counted as one.
pub record IsAnswer (r : Rules) (l : Letter) (a : AttemptId) (inc : ℕ) (refusal : Option Outcome) : Type 0 where
  pub says : (h : History) (w : World) → IsSaidSo r h w l.from l.to l.message → IsAckRight r h w l.from l.to a inc refusal
  pub concerned : (x : AttemptId) → concerns x l.message ≡ same_attempt a x
  pub talks : (i : ℕ) (x : AttemptId) (m : ℕ) → is_talk r i x m l ≡ (is_target (leader_of r x) l.to && (is_target m l.from && (same_attempt a x && (inc == i))))
  pub refuses : (i : ℕ) (x : AttemptId) (how : Outcome) → refusal ≡ Some how → refuses_for i x l.message ≡ (same_attempt a x && (inc == i))

pub ack-answers : (r : Rules) (l : Letter) (a : AttemptId) (inc : ℕ) (refusal : Option Outcome) → l.message ≡ message.Ack a inc refusal → IsAnswer r l a inc refusal
ack-answers r l a inc refusal is = record {
  says = λ h w so. subst (IsSaidSo r h w l.from l.to) is so;
  concerned = λ x. ap (concerns x) is;
  talks = ack-talks r l a inc refusal is;
  refuses = λ i x how on. ap (refuses_for i x) (is ∙ ap (message.Ack a inc) on);
}

-- what a member holds, as an Ack
held-so : (h : History) (w : World) (x : AttemptId) (m : ℕ) (how : EntryState) → IsStateTrue h w x m how → IsOkRight h w x m (status_refusal x how)
held-so h w x m state.Absent k = λ same. let no : ⊥ = cc in no
held-so h w x m state.Prepared k = k
held-so h w x m state.Committed k = k

refuses-so : (i : ℕ) (x a : AttemptId) (inc : ℕ) (how : EntryState) (end : Outcome) → status_refusal a how ≡ Some end → refuses_for i x (message.StatusIs a inc how) ≡ (same_attempt a x && (inc == i))
refuses-so i x a inc state.Absent end on = refl
refuses-so i x a inc state.Prepared end on = let no : ⊥ = cc in absurd no
refuses-so i x a inc state.Committed end on = let no : ⊥ = cc in absurd no

pub state-answers : (r : Rules) (l : Letter) (a : AttemptId) (inc : ℕ) (how : EntryState) → l.message ≡ message.StatusIs a inc how → IsAnswer r l a inc (status_refusal a how)
state-answers r l a inc how is = record {
  says = λ h w so.
      let k = subst (IsSaidSo r h w l.from l.to) is so in
      record { way = k.way; incarnation = k.incarnation; born = k.born; held = held-so h w a k.way.member how k.held };
  concerned = λ x. ap (concerns x) is;
  talks = λ i x m.
      answer-counted (asks_for i x) (answers_for i x) (leader_of r x) m l (ap (asks_for i x) is)
      ∙ ap (λ q. is_target (leader_of r x) l.to && (is_target m l.from && answers_for i x q)) is;
  refuses = λ i x end on. ap (refuses_for i x) is ∙ refuses-so i x a inc how end on;
}
