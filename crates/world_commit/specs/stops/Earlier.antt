-- Letters of the incarnations so far: none is of the one that comes next.
use Rattle.std.specs.Prelude.{ℕ, ◌≡◌, ◌≤◌, ◌+◌, ◌==◌, ◌&&◌, Bool, true, false, Some}
use Rattle.std.proofs.Common.{subst, arith, inl, inr}
use Rattle.std.proofs.lemmas.Bool.Decides.{nat_tests}
use Rattle.base_types.specs.declared.entry.EntryState.TheVariants as state
use Rattle.base_types.specs.declared.id.AttemptId.{AttemptId}
use Rattle.model_laws.specs.Members.{Has}
use Rattle.base_messages.specs.declared.actor.ActorId.{ActorId}
use Rattle.base_messages.specs.declared.message.Message.{Message, more_of-Message}
use Rattle.base_messages.specs.declared.message.Message.TheVariants as message
use Rattle.daos_model.specs.BoolLaws.{and_left, and_right, clash, false_of}
use Rattle.daos_model.specs.Durables.{same_attempt}
use Rattle.dtx_base.specs.LeaderLaws.{same-is}
use Rattle.world_commit.specs.attempts.Attempts.{count, inc_at, leader_of}
use Rattle.world_commit.specs.attempts.Counting.{count-none}
use Rattle.world_commit.specs.attempts.History.{History}
use Rattle.world_commit.specs.fates.Concerns.{between-some}
use Rattle.world_commit.specs.fates.Facts.{IsAskedSo, IsSaidSo, answers_for, asks_for, is_between, refuses_for}
use Rattle.world_base.specs.declared.letter.Letter.{Letter}
use Rattle.world_base.specs.declared.world.World.{World}
use Rattle.world_base.specs.Events.{Rules}

too-late : (i inc : ℕ) → i ≤ inc → (i == (inc + 1)) ≡ true → ⊥
too-late i inc low is = let same : i ≡ inc + 1 = grind (arith, nat_tests) in omega (arith, low, same)

module _ (r : Rules) (h : History) (w : World) (x : AttemptId) where
  below : (i : ℕ) (a : AttemptId) → i ≤ inc_at w (leader_of r a) → (same_attempt a x && (i == (inc_at w (leader_of r x) + 1))) ≡ true → ⊥
  below i a low is =
      too-late i (inc_at w (leader_of r x)) (subst (λ y. i ≤ inc_at w (leader_of r y)) (same-is a x (and_left (same_attempt a x) (i == (inc_at w (leader_of r x) + 1)) is)) low)
      (and_right (same_attempt a x) (i == (inc_at w (leader_of r x) + 1)) is)

  asked-earlier : (from to : ActorId) (q : Message) → IsAskedSo r h w from to q → asks_for (inc_at w (leader_of r x) + 1) x q ≡ true → ⊥
  asked-earlier from to (message.Prepare e first ws i) k is = below i e.attempt k.incarnation is
  asked-earlier from to (message.Status a i) k is = below i a k.incarnation is
  asked-earlier from to q k is = let no : ⊥ = cc in no

  asking-earlier : (from to : ActorId) (q : Message) → IsSaidSo r h w from to q → asks_for (inc_at w (leader_of r x) + 1) x q ≡ true → ⊥
  asking-earlier from to (message.Prepare e first ws i) k is = below i e.attempt k.incarnation is
  asking-earlier from to (message.Status a i) k is = below i a k.incarnation is
  asking-earlier from to q k is = let no : ⊥ = cc in no

  answering-earlier : (from to : ActorId) (q : Message) → IsSaidSo r h w from to q → answers_for (inc_at w (leader_of r x) + 1) x q ≡ true → ⊥
  answering-earlier from to (message.Ack a i refusal) k is = below i a k.incarnation is
  answering-earlier from to (message.StatusIs a i how) k is = below i a k.incarnation is
  answering-earlier from to (message.Reset' u down place (more_of-Message q rest)) k is = asked-earlier to from q k is
  answering-earlier from to q k is = let no : ⊥ = cc in no

  pub refusing-earlier : (from to : ActorId) (q : Message) → IsSaidSo r h w from to q → refuses_for (inc_at w (leader_of r x) + 1) x q ≡ true → ⊥
  refusing-earlier from to (message.Ack a i (Some how)) k is = below i a k.incarnation is
  refusing-earlier from to (message.StatusIs a i state.Absent) k is = below i a k.incarnation is
  refusing-earlier from to q k is = let no : ⊥ = cc in no

  -- a letter that neither asks nor answers isn't counted
  pub not-between : (asks answers : Message → Bool) (leader m : ℕ) (l : Letter) → asks l.message ≡ false → answers l.message ≡ false → is_between asks answers leader m l ≡ false
  not-between asks answers leader m l unasked unanswered =
      false_of (is_between asks answers leader m l) (λ is. elim (between-some asks answers leader m l is) [ inl a ↦ clash (asks l.message) a unasked | inr a ↦ clash (answers l.message) a unanswered ])

  pub none-earlier : (m : ℕ) → ((l : Letter) → Has l w.messages → IsSaidSo r h w l.from l.to l.message)
      → count (is_between (asks_for (inc_at w (leader_of r x) + 1) x) (answers_for (inc_at w (leader_of r x) + 1) x) (leader_of r x) m) w.messages ≡ 0
  none-earlier m said = count-none (is_between (asks_for inc x) (answers_for inc x) (leader_of r x) m) w.messages (λ l i. off l (said l i))
    where
      inc : ℕ
      inc = inc_at w (leader_of r x) + 1

      off : (l : Letter) → IsSaidSo r h w l.from l.to l.message → is_between (asks_for inc x) (answers_for inc x) (leader_of r x) m l ≡ false
      off l k = not-between (asks_for inc x) (answers_for inc x) (leader_of r x) m l (false_of (asks_for inc x l.message) (λ is. asking-earlier l.from l.to l.message k is)) (false_of (answers_for inc x l.message) (λ is. answering-earlier l.from l.to l.message k is))
