-- Epochs that were issued stay issued.
use Rattle.base_types.specs.declared.id.AttemptId.{AttemptId}
use Rattle.world_base.specs.Events.{ByClient, ByTarget, Rules, ToClient, ToTarget, listed}
use Rattle.world_base.specs.Stops.{Draws, Fails, Further, GivenUp, Happening, IsCut, Opens, Plainly}
use Rattle.base_types.specs.declared.epoch.Epoch.{Epoch}
use Rattle.world_base.specs.model_laws.Members.{Has, has-left}
use Rattle.world_base.specs.declared.world.World.{World}
use Rattle.std.proofs.Common.{subst, sym}
use Rattle.std.specs.Prelude.{Contains}
use Rattle.world_base.specs.model_laws.Members.{contains-from_has, has-from_contains}

-- what was issued stays issued
pub issued-stays : (r : Rules) (w u : World) → Happening r w u → (i : AttemptId × Epoch) → Has i w.issued → Has i u.issued
issued-stays r w u (Plainly (ByClient g) up) i j = subst (λ x. Has i x.issued) (sym g.after) (has-left w.issued (listed g.did.issued) i j)
issued-stays r w u (Plainly (ToClient g) up) i j = subst (λ x. Has i x.issued) (sym g.after) (has-left w.issued (listed g.did.issued) i j)
issued-stays r w u (Plainly (ToTarget g) up) i j = subst (λ x. Has i x.issued) (sym g.after) (has-left w.issued (listed g.did.issued) i j)
issued-stays r w u (Plainly (ByTarget g) up) i j = subst (λ x. Has i x.issued) (sym g.after) (has-left w.issued (listed g.did.issued) i j)
issued-stays r w u (Further f) i j = subst (λ x. Has i x.issued) (sym f.hears.after) (has-left w.issued (listed f.hears.did.issued) i j)
issued-stays r w u (IsCut g) i j = subst (λ x. Has i x.issued) (sym g.after) (has-left w.issued g.cut.issued i j)
issued-stays r w u (Opens g) i j = subst (λ x. Has i x.issued) (sym g.after) j
issued-stays r w u (Fails g) i j = subst (λ x. Has i x.issued) (sym g.after) j
issued-stays r w u (GivenUp g) i j = subst (λ x. Has i x.issued) (sym g.after) j
issued-stays r w u (Draws g) i j = subst (λ x. Has i x.issued) (sym g.after) j

pub issued-on : (r : Rules) (w u : World) → Happening r w u → (x : AttemptId) (f : Epoch) → Contains w.issued (x, f) → Contains u.issued (x, f)
issued-on r w u e x f i = contains-from_has u.issued (x, f) (issued-stays r w u e (x, f) (has-from_contains w.issued (x, f) i))
