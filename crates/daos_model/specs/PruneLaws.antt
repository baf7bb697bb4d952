-- What a prune, whole or cut, leaves of every answer.
use Rattle.std.specs.Prelude.{◌≡◌, ◌<◌, ◌⊎◌, true, List}
use Rattle.base_types.specs.declared.epoch.Epoch.{Epoch}
use Rattle.base_types.specs.declared.id.ContId.{ContId}
use Rattle.daos_model.specs.declared.cell.Cell.{Cell}
use Rattle.daos_model.specs.declared.durable.Durable.{Durable}
use Rattle.daos_model.specs.declared.durable.Version.{Version}
use Rattle.daos_model.specs.Cells.{value_at}
use Rattle.daos_model.specs.Durables.{is_frozen, version_key}
use Rattle.daos_model.specs.Ordered.{is_in_order}
use Rattle.daos_model.specs.Prunes.{Partly, is_going}
use Rattle.daos_model.specs.Versions.{map_below}

-- above the epoch of the prune, and at each snapshot of the container, every cell holds below it what it held before
abbrev pub PruneKeepsCells : Type 0
PruneKeepsCells =
    (c : ContId) (upto s : Epoch) (d : Durable) (vs : List Version)
    → is_in_order version_key d.versions ≡ true → Partly d.versions (is_going c upto d.versions d.snaps) vs
    → (upto.0 < s.0) ⊎ (is_frozen d c s ≡ true)
    → (x : Cell) → value_at (map_below vs s.0) x ≡ value_at (map_below d.versions s.0) x
