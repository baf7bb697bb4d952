-- The parts of the reading of fixed places that take many steps.
use Rattle.std.specs.Prelude.{List, []}
use Rattle.base_types.specs.declared.snapshot.Snap.{Snap}
use Rattle.daos_model.specs.declared.durable.ContRow.{ContRow}
use Rattle.vos_image.specs.Content.{Content}
use Rattle.vos_image.specs.Places.{read_conts, read_map, read_snaps}
use Rattle.vos_image.specs.Steps.{Step}

-- all places of containers
unfoldable pub conts_reading : Content → Step (List ContRow)
conts_reading c = read_conts c 256 4096 []

-- all places of snapshots, of these containers
unfoldable pub snaps_reading : Content → List ContRow → Step (List Snap)
snaps_reading c rows = read_snaps c rows 256 20480 []

-- the whole map of blocks
unfoldable pub map_reading : Content → Step (Unit {0})
map_reading c = read_map c 0 16384
