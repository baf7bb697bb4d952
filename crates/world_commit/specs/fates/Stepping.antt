-- A change at one target that concerns one attempt, or none, keeps the facts of all.
use Rattle.std.specs.Prelude.{ℕ, ◌≡◌, ◌⊎◌}
use Rattle.std.proofs.Common.{sym, ◌∙◌, subst, arith, inl, inr}
use Rattle.base_types.specs.declared.epoch.Epoch.{Epoch}
use Rattle.base_types.specs.declared.id.AttemptId.{AttemptId}
use Rattle.world_commit.specs.attempts.Attempts.{IsBorn, IsHeld, IsOrdered, IsSettled, leader_of}
use Rattle.world_commit.specs.attempts.Frames.{SameFate}
use Rattle.world_commit.specs.attempts.History.{Aborted, Decided, History}
use Rattle.world_commit.specs.attempts.Turning.{Stays, entry-stays, inc-stays, known-stays, one-or_other, ordered-on, row-stays}
use Rattle.world_commit.specs.fates.Facts.{Attempt, Ongoing}
use Rattle.world_commit.specs.fates.Frames.{AskedComes, Grows, LettersCome, SameMail, Unchanged, asked-still, letters-on, untouched}
use Rattle.world_commit.specs.fates.Turning.{Works, lives-stay, quiet-on}
use Rattle.world_base.specs.declared.target.TargetState.{TargetState}
use Rattle.world_base.specs.declared.world.World.{World}
use Rattle.world_base.specs.Events.{Rules}

-- what a change leaves of an attempt that it doesn't concern
pub record Spared (r : Rules) (h later : History) (w v : World) (s z : TargetState) (x : AttemptId) : Type 0 where
  pub stays : Stays s z x
  pub fate : SameFate h later x
  pub mail : SameMail r h w v x

-- what it leaves of the one that it concerns
pub record Goes (r : Rules) (h later : History) (w v : World) (a : AttemptId) : Type 0 where
  pub decided : (e : Epoch) → Decided h a e → Decided later a e
  pub aborted : Aborted h a → Aborted later a
  pub held : (t : ℕ) → IsHeld w t a → IsHeld v t a ⊎ Aborted later a
  pub settled : (t : ℕ) → IsSettled w t a → IsSettled v t a ⊎ Aborted later a

module _ (r : Rules) (h later : History) (w v : World) (t : ℕ) (s z : TargetState) (works : Works w v t s z) where
  spared-unchanged : (x : AttemptId) → Spared r h later w v s z x → Unchanged r h later w v x
  spared-unchanged x k = record {
    fate = k.fate;
    entry = entry-stays w v t s z works.turn x k.stays.entry;
    row = row-stays w v t s z works.turn x k.stays.row;
    known = known-stays w v t s z works.turn x k.stays.known;
    mail = k.mail;
    lives = lives-stay w v t s z works;
  }

  pub spared-goes : (x : AttemptId) → Spared r h later w v s z x → Goes r h later w v x
  spared-goes x k = record {
    decided = k.fate.decided;
    aborted = k.fate.aborted;
    held = λ u i. inl (record { entry = i.entry; found = entry-stays w v t s z works.turn x k.stays.entry u ∙ i.found });
    settled = λ u i. inl (record { entry = i.entry; found = entry-stays w v t s z works.turn x k.stays.entry u ∙ i.found; committed = i.committed });
  }

  goes-born : (x : AttemptId) → Goes r h later w v x → IsBorn r h w x → IsBorn r later v x
  goes-born x g (inl i) = g.held (leader_of r x) i
  goes-born x g (inr a) = inr (g.aborted a)

  grows : ((x : AttemptId) → Goes r h later w v x) → Grows r h later w v
  grows g = record {
    decided = λ x. (g x).decided;
    aborted = λ x. (g x).aborted;
    issued = works.turn.issued;
    incarnation = λ u. let same = inc-stays w v t s z works.turn u in omega (arith, same);
    born = λ x. goes-born x (g x);
    held = λ m x o i. (g x).held m i;
    settled = λ m x o i. (g x).settled m i;
  }

  -- it concerns none
  pub attempts-quiet : ((x : AttemptId) → Spared r h later w v s z x) → LettersCome r later w v → AskedComes w v → IsOrdered z → Ongoing r h w → Ongoing r later v
  attempts-quiet spared letters asked ordered k = record {
    each = λ x. untouched r h later w v x (spared-unchanged x (spared x)) (k.each x);
    letters = letters-on r h later w v (grows (λ x. spared-goes x (spared x))) letters k;
    asked = asked-still r h later w v (grows (λ x. spared-goes x (spared x))) letters k asked;
    ordered = ordered-on w v t s z works.turn ordered k.ordered;
    quiet = quiet-on w v t s z works k.quiet;
  }

  -- it concerns one
  pub attempts-step : (a : AttemptId) → ((x : AttemptId) → (x ≡ a → ⊥) → Spared r h later w v s z x) → Goes r h later w v a → Attempt r later v a → LettersCome r later w v → AskedComes w v → IsOrdered z → Ongoing r h w → Ongoing r later v
  attempts-step a spared own attempt letters asked ordered k = record {
    each = λ x. elim (one-or_other x a) [
      | inl same ↦ subst (Attempt r later v) (sym same) attempt
      | inr other ↦ untouched r h later w v x (spared-unchanged x (spared x other)) (k.each x)
    ];
    letters = letters-on r h later w v all letters k;
    asked = asked-still r h later w v all letters k asked;
    ordered = ordered-on w v t s z works.turn ordered k.ordered;
    quiet = quiet-on w v t s z works k.quiet;
  }
    where
      all : Grows r h later w v
      all = grows (λ x. elim (one-or_other x a) [
        | inl same ↦ subst (Goes r h later w v) (sym same) own
        | inr other ↦ spared-goes x (spared x other)
      ])
