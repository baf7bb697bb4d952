-- What removing versions one after another makes of what is kept.
use Rattle.std.specs.Prelude.{◌≡◌, ◌++◌, List, [], ◌∷◌}
use Rattle.daos_model.specs.declared.durable.Durable.{Durable}
use Rattle.daos_model.specs.declared.durable.Version.{Version}
use Rattle.vos_pool_settle.specs.Removing.{without_version}

abbrev pub without_versions : List Version → Durable → Durable
without_versions [] d = d
without_versions (u ∷ us) d = without_versions us (without_version u d)

-- where it is cut the first of them are gone
pub record CutRemovals (us : List Version) (d x : Durable) : Type 0 where
  pub gone : List Version
  pub rest : List Version
  pub all : us ≡ gone ++ rest
  pub is : x ≡ without_versions gone d
