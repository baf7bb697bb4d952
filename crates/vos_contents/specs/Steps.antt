-- What the changes of the contents of a store make of what they stand for.
use Rattle.std.specs.Prelude.{List}
use Rattle.base_types.specs.declared.entry.Entry.{Entry}
use Rattle.daos_model.specs.declared.durable.Durable.{Durable}
use Rattle.daos_model.specs.declared.durable.Version.{Version}
use Rattle.daos_model.specs.Durables.{entry_key, version_key}
use Rattle.daos_model.specs.Ordered.{put, puts}

-- an entry and its versions more
abbrev pub with_entry : List Version → Entry → Durable → Durable
with_entry vs e d = record d { versions = puts version_key vs d.versions; entries = put entry_key e d.entries }
