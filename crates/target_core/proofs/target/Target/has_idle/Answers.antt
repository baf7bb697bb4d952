use Rattle.std.proofs.Common.{◌≡◌, ◌∙◌, Some, false, subst, true}
use Rattle.daos_model.specs.declared.durable.Durable.{Durable}
use Rattle.target_parts.specs.Knowing.{memory_of}
use Rattle.world_base.specs.Idle.{has_idle}
use Rattle.target_core.proofs.Beside.{has-idle_beside}
use Rattle.target_core.proofs.target.Target.has_idle.Goals as goal

pub returns-then-self : goal.returns-then-self
returns-then-self g c =
    subst (λ x. x.opened ≡ true → (g.S.Store.state x.store).stopped ≡ false → (d : Durable) → g.S.Store.durable x.store ≡ Some d → c.has_idle_work.result ≡ has_idle c.args.settling x.plan x.memory d) c.self.view_is
    (λ opened running d at. c.has_idle_work.ensures running d at ∙ has-idle_beside c.args.settling c.self.inside.plan (memory_of c.self.inside.knows) c.self.inside.snaps d)
