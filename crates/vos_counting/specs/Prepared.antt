-- What prepared entries tell of versions.
use Rattle.std.specs.Prelude.{Bool, ◌||◌}
use Rattle.std.specs.HashSet.{contains}
use Rattle.daos_model.specs.declared.durable.Version.{Version}
use Rattle.vos_counting.specs.Counting.{same_entry_name, version_name}
use Rattle.vos_counting.specs.declared.prepared.Prepared.{Prepared}

-- a version counts: it is done, or one of them has its attempt and epoch
unfoldable pub counts_in : Prepared → Version → Bool
counts_in p v = v.done || contains same_entry_name p.names (version_name v)
