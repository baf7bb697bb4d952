-- Numbers that are drawn concern no attempt.
use Rattle.std.specs.Prelude.{refl}
use Rattle.std.proofs.Common.{sym, subst, arith, inl}
use Rattle.world_commit.specs.attempts.Frames.{same-itself}
use Rattle.world_commit.specs.attempts.History.{History}
use Rattle.world_commit.specs.fates.Facts.{Attempts}
use Rattle.world_commit.specs.fates.Working.{attempts-there}
use Rattle.world_base.specs.declared.world.World.{World}
use Rattle.world_base.specs.Events.{Rules}
use Rattle.world_base.specs.Stops.{NumbersDrawn}

pub drawing-keeps : (r : Rules) (h : History) (w v : World) → NumbersDrawn w v → Attempts r h w → Attempts r h v
drawing-keeps r h w v g k = subst (Attempts r h) (sym g.after) (record {
  on = attempts-there r h h w (record w { numbers = g.numbers }) refl (λ x e i. i) (same-itself h)
      (λ x. record { issued = λ e i. i; talks = λ inc m. refl; tries = λ m. omega arith; prepares = λ m l i is. i; refusals = λ inc l i is. inl i }) (λ l i. inl i) (λ l i. inl i) k.on;
  prompt = k.prompt;
})
