-- A turn of a running target is over: what is in flight then.
use Rattle.std.specs.Prelude.{ℕ, ◌≡◌, ◌⊎◌, ◌+◌, Bool, false, List, [], ◌++◌, slice_get, Some}
use Rattle.std.proofs.Common.{sym, ◌∙◌, ap, subst, arith, inl, inr}
use Rattle.std.proofs.Math.ListN.{set}
use Rattle.base_types.specs.declared.epoch.Epoch.{Epoch}
use Rattle.base_types.specs.declared.id.AttemptId.{AttemptId}
use Rattle.model_laws.specs.Members.{Has, has-cases, has-left, has-right}
use Rattle.world_commit.specs.attempts.Attempts.{count, one_if}
use Rattle.world_commit.specs.attempts.Counting.{count-append, count-none, count-taken, has-left_over}
use Rattle.world_commit.specs.attempts.History.{History}
use Rattle.world_commit.specs.attempts.Turning.{at_work}
use Rattle.world_commit.specs.fates.Asking.{asked-comes}
use Rattle.world_commit.specs.fates.Concerns.{Spare, concerns, no-prepare, no-refusal, no-talk, no-try}
use Rattle.world_commit.specs.fates.Facts.{is_talk, is_try}
use Rattle.world_commit.specs.fates.Frames.{AskedComes, SameMail}
use Rattle.world_commit.specs.fates.Turning.{Works}
use Rattle.world_commit.specs.fates.Working.{Step}
use Rattle.world_base.specs.declared.letter.Letter.{Letter}
use Rattle.world_base.specs.declared.target.TargetState.{TargetState}
use Rattle.world_base.specs.declared.world.World.{World}
use Rattle.world_base.specs.Events.{Rules}
use Rattle.world_base.specs.Letters.{Takes, asked_after}
use Rattle.world_base.specs.StepLaws.{set-here, set-twice}

-- a turn ends so: the letter that was heard is taken, and these letters come
pub record Over (w v : World) (t : ℕ) (z : TargetState) (l : Letter) (rest ls : List Letter) : Type 0 where
  pub takes : Takes w.messages l rest
  pub targets : v.targets ≡ set w.targets t z
  pub messages : v.messages ≡ rest ++ ls
  pub asked : v.asked ≡ asked_after w.asked ls
  pub issued : (x : AttemptId) (e : Epoch) → Has (x, e) w.issued → Has (x, e) v.issued

module _ (w v : World) (t : ℕ) (s y z : TargetState) (l : Letter) (rest ls : List Letter) (o : Over w v t z l rest ls) where
  pub over-works : slice_get w.targets t ≡ Some s → Step y z → Works (at_work w t y []) v t y z
  over-works here step = record {
    turn = record { here = set-here w.targets t s y here; targets = o.targets ∙ sym (set-twice w.targets t y z); incarnation = step.incarnation; issued = o.issued };
    runs = step.runs;
    life = step.life;
    down = step.down;
  }

  -- how many letters pass a test
  pub over-counts : (p : Letter → Bool) → count p v.messages + one_if (p l) ≡ count p (at_work w t y []).messages + count p ls
  over-counts p =
      let was = count-append p w.messages [] in
      let is = count-append p rest ls in
      let taken = count-taken p w.messages l rest o.takes in
      let now : count p v.messages ≡ count p (rest ++ ls) = ap (count p) o.messages in
      omega (arith, was, is, taken, now)

  -- a letter was in flight before, or comes
  pub over-letters : (n : Letter) → Has n v.messages → Has n (at_work w t y []).messages ⊎ Has n ls
  over-letters n i = elim (has-cases rest ls n (subst (Has n) o.messages i)) [
    | inl j ↦ inl (has-left w.messages [] n (has-left_over w.messages l rest n o.takes j))
    | inr j ↦ inr j
  ]

  pub over-asked : AskedComes (at_work w t y []) v
  over-asked = asked-comes (at_work w t y []) ls v o.asked (λ n i. subst (Has n) (sym o.messages) (has-right rest ls n i))

  -- of an attempt that neither the letter nor those that come concern
  pub over-mail : (r : Rules) (h : History) (x : AttemptId) → concerns x l.message ≡ false → Spare x ls → SameMail r h (at_work w t y []) v x
  over-mail r h x off spare = record {
    issued = o.issued x;
    talks = λ inc m. counts (is_talk r inc x m) (no-talk r x l off inc m) (λ n i. no-talk r x n (spare n i) inc m);
    tries = λ m. let same = counts (is_try r x m) (no-try r x l off m) (λ n i. no-try r x n (spare n i) m) in omega (arith, same);
    prepares = λ m n i is. elim (over-letters n i) [ inl before ↦ before | inr new ↦ absurd (no-prepare r x n (spare n new) m is) ];
    refusals = λ inc n i is. elim (over-letters n i) [ inl before ↦ inl before | inr new ↦ absurd (no-refusal r x n (spare n new) inc is) ];
  }
    where
      counts : (p : Letter → Bool) → p l ≡ false → ((n : Letter) → Has n ls → p n ≡ false) → count p v.messages ≡ count p (at_work w t y []).messages
      counts p is none =
          let all = over-counts p in
          let zero = count-none p ls none in
          let own : one_if (p l) ≡ 0 = ap one_if is in
          omega (arith, all, zero, own)
