-- What is known of epochs once something became of a target, before what goes to targets that are given up is lost.
use Rattle.std.specs.Prelude.{ℕ, ◌≡◌, ◌≤◌, ◌<◌, ◌⊎◌, slice_get, Some}
use Rattle.std.proofs.Common.{inl, inr, arith}
use Rattle.base_types.specs.declared.id.AttemptId.{AttemptId}
use Rattle.daos_model.specs.Opening.{Opening, top}
use Rattle.model_laws.specs.Members.{contains-from_has}
use Rattle.world_base.specs.declared.target.TargetState.{TargetState}
use Rattle.world_base.specs.declared.world.World.{World}
use Rattle.world_base.specs.Events.{ByClient, ByTarget, Rules, ToClient, ToTarget}
use Rattle.world_base.specs.Stops.{Draws, Fails, Further, GivenUp, Happening, IsCut, Opens, Plainly}
use Rattle.world_upheld.specs.world_causes.handing.Places.{snapshots-read}
use Rattle.world_upheld.specs.world_causes.outcomes.Keeping.{IsOfTarget}
use Rattle.world_upheld.specs.world_causes.restarts.EpochLaws.{rests-epochs}
use Rattle.world_upheld.specs.world_causes.restarts.Resting.{failure-rests, given_up-rests, numbers-rests, opening-rests}
use Rattle.world_upheld.specs.world_commit.attempts.History.{History}
use Rattle.world_upheld.specs.world_letters.epochs.Epochs.{Epochs, IsIssued}
use Rattle.world_upheld.specs.world_letters.snapshots.Makings.{IsSnapIn}
use Rattle.world_upheld.specs.world_making.dates.Happening.{cut-dated, hears-dated, more-dated}
use Rattle.world_upheld.specs.world_making.dates.Turning.{idles-dated}
use Rattle.world_upheld.specs.world_making.freezings.Freezings.{IsOfSnap}
use Rattle.world_upheld.specs.order.Serving.{FrozenAreMade}
use Rattle.world_upheld.specs.upheld.Heard.{HeardGrounds}
use Rattle.world_upheld.specs.world_letters.lives.Issued.{issued-on}

module _ (r : Rules) (o : Opening) (h : History) (w u : World) (k : HeardGrounds r o h w) where
  -- epochs are as they are between events
  pub epochs-happened : (e : Happening r w u) → IsOfTarget e → Epochs r (top o) u
  epochs-happened (Plainly (ByClient g) up) ours = absurd ours
  epochs-happened (Plainly (ToClient g) up) ours = absurd ours
  epochs-happened (Plainly (ToTarget g) up) ours = hears-dated r (top o) h w (snapshots-read r r.script.targets k.form) k.requests k.talk k.attempts k.makings k.stand k.epochs u g
  epochs-happened (Plainly (ByTarget g) up) ours = idles-dated r (top o) w u k.epochs g
  epochs-happened (Further g) ours = more-dated r (top o) h w (snapshots-read r r.script.targets k.form) k.requests k.talk k.attempts k.makings k.stand k.epochs u g
  epochs-happened (IsCut g) ours = cut-dated r (top o) h w (snapshots-read r r.script.targets k.form) k.requests k.talk k.attempts k.makings k.stand k.epochs u g
  epochs-happened (Opens g) ours = rests-epochs r (top o) w u (opening-rests r w u g) k.epochs
  epochs-happened (Fails g) ours = rests-epochs r (top o) w u (failure-rests r w u g) k.epochs
  epochs-happened (GivenUp g) ours = rests-epochs r (top o) w u (given_up-rests r w u g) k.epochs
  epochs-happened (Draws g) ours = rests-epochs r (top o) w u (numbers-rests w u g) k.epochs

  -- what was frozen above the opening was made by attempts to which its epochs were issued
  pub frozen-made : (e : Happening r w u) → IsOfTarget e → (t : ℕ) (s : TargetState) → slice_get w.targets t ≡ Some s → FrozenAreMade r (top o) u s.durable
  frozen-made e ours t s here c f frozen above = by (k.freezings.origin t s c f here frozen)
    where
      by : (f.0 ≤ top o) ⊎ IsOfSnap r w.issued c f → (x : AttemptId) × IsIssued u x f × IsSnapIn r x c
      by (inl low) = let high : top o < f.0 = above in let no : ⊥ = omega (arith, low, high) in absurd no
      by (inr z) = (z.0, issued-on r w u e z.0 f (contains-from_has w.issued (z.0, f) z.1), z.2)
