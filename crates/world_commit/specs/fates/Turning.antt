-- What one running target's change leaves of what all targets know.
use Rattle.std.specs.Prelude.{ℕ, ◌≡◌, slice_get, Some}
use Rattle.std.proofs.Common.{sym, ◌∙◌, ap, subst, inl, inr}
use Rattle.dtx_base.specs.Members.{has_target}
use Rattle.world_commit.specs.attempts.Turning.{Turned, elsewhere, inc-stays, now, one-or_another}
use Rattle.world_commit.specs.fates.Facts.{IsQuiet, RunsAt, down_in, knows_down}
use Rattle.world_commit.specs.fates.Frames.{SameLives}
use Rattle.world_base.specs.declared.target.Life.TheVariants.{Running}
use Rattle.world_base.specs.declared.target.TargetState.{TargetState}
use Rattle.world_base.specs.declared.world.World.{World}

-- a target's state changes, and no other one; it goes on running, at its incarnation, and what it knows to be down stays
pub record Works (w v : World) (t : ℕ) (s z : TargetState) : Type 0 where
  pub turn : Turned w v t s z
  pub runs : s.life ≡ Running
  pub life : z.life ≡ s.life
  pub down : z.memory.leader.down ≡ s.memory.leader.down

module _ (w v : World) (t : ℕ) (s z : TargetState) (k : Works w v t s z) where
  at-now : slice_get v.targets t ≡ Some z
  at-now = now w v t s z k.turn

  runs-stays : (u : ℕ) → RunsAt v u → RunsAt w u
  runs-stays u runs y at = elim (one-or_another u t) [
    | inl here ↦
        let own : Some s ≡ Some y = sym k.turn.here ∙ ap (slice_get w.targets) (sym here) ∙ at in
        let one : s ≡ y = cc in
        ap (λ q. q.life) (sym one) ∙ k.runs
    | inr other ↦ runs y (elsewhere w v t s z k.turn u other ∙ at)
  ]

  down-stays : (u m : ℕ) → knows_down v u m ≡ knows_down w u m
  down-stays u m = elim (one-or_another u t) [
    | inl here ↦
        subst (λ n. knows_down v n m ≡ knows_down w n m) (sym here)
        (ap (λ o. down_in o m) at-now ∙ ap (λ d. has_target d m) k.down ∙ sym (ap (λ o. down_in o m) k.turn.here))
    | inr other ↦ ap (λ o. down_in o m) (elsewhere w v t s z k.turn u other)
  ]

  pub lives-stay : SameLives w v
  lives-stay = record { runs = runs-stays; incarnation = inc-stays w v t s z k.turn; down = down-stays }

  -- no target that doesn't run knows anything
  pub quiet-on : ((u : ℕ) (q : TargetState) → slice_get w.targets u ≡ Some q → IsQuiet q) → (u : ℕ) (q : TargetState) → slice_get v.targets u ≡ Some q → IsQuiet q
  quiet-on all u q at = elim (one-or_another u t) [
    | inl here ↦
        let found : Some z ≡ Some q = sym at-now ∙ subst (λ n. slice_get v.targets n ≡ Some q) here at in
        subst IsQuiet (let one : z ≡ q = cc in one) (λ off. absurd (off (k.life ∙ k.runs)))
    | inr other ↦ all u q (sym (elsewhere w v t s z k.turn u other) ∙ at)
  ]
