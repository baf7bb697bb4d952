use Rattle.std.proofs.Common.{◌≡◌, ◌+◌, drop}
use Rattle.std.specs.List.{list_any}
use Rattle.base_types.specs.Paths.{record_size}
use Rattle.daos_model.specs.Effect.{extent_cells, record_cells, records_of}
use Rattle.daos_model.specs.Prunes.{is_shown}
use Rattle.daos_model.proofs.prunes.is_any_shown.Given as goal

abbrev pub invariant-loop-i : goal.invariant-loop-i
invariant-loop-i l =
    list_any (is_shown l.versions l.sight l.version) (record_cells l.path (l.low + l.i) (drop l.i (records_of (record_size l.path) l.bytes)))
    ≡ list_any (is_shown l.versions l.sight l.version) (extent_cells l.path l.low l.bytes)
