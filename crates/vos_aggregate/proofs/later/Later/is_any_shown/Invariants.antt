use Rattle.std.proofs.Common.{◌≡◌, ◌+◌, drop}
use Rattle.std.specs.List.{list_any}
use Rattle.base_types.specs.Paths.{record_size}
use Rattle.daos_model.specs.Effect.{extent_cells, record_cells, records_of}
use Rattle.daos_model.specs.Prunes.{is_shown}
use Rattle.vos_aggregate.proofs.later.Later.is_any_shown.Given as goal

-- the indexes from this one on show it as all do
abbrev pub invariant-loop-i : goal.invariant-loop-i
invariant-loop-i l =
    list_any (is_shown l.self.versions.now l.sight l.version) (record_cells l.path (l.low + l.i) (drop l.i (records_of (record_size l.path) l.bytes)))
    ≡ list_any (is_shown l.self.versions.now l.sight l.version) (extent_cells l.path l.low l.bytes)
