-- Where an epoch is unused, all places at it are free.
use Rattle.std.specs.Prelude.{◌≡◌, All, List}
use Rattle.base_types.specs.declared.epoch.Epoch.{Epoch}
use Rattle.base_types.specs.declared.operation.MinorWrite.{MinorWrite}
use Rattle.daos_model.specs.declared.durable.Durable.{Durable}
use Rattle.target_writes.specs.Checks.{AreNew}

pub new-at : (e : Epoch) (ws : List MinorWrite) (d : Durable) → All (λ v. v.epoch.0 ≡ e.0 → ⊥) d.versions → AreNew e ws d
new-at e ws d unused = λ k w lt j v there same. unused j v there (let head : _ ≡ e.0 = cc in head)
