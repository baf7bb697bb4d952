-- What is asked of what a pool keeps where an entry and its writes are to be prepared.
use Rattle.std.specs.Prelude.{◌≡◌, ◌≢◌, All, List, None}
use Rattle.base_types.specs.declared.entry.Entry.{Entry}
use Rattle.base_types.specs.declared.operation.MinorWrite.{MinorWrite}
use Rattle.daos_model.specs.declared.durable.Durable.{Durable}
use Rattle.daos_model.specs.Durables.{entry_of, version_key}
use Rattle.daos_model.specs.Versions.{version_of}
use Rattle.vos_store.specs.Conditions.{IsLeased}

-- The attempt has no entry, no version has the epoch, the number and the object of one of the writes, and the lease covers the epoch.
pub record IsUnwritten (e : Entry) (ws : List MinorWrite) (d : Durable) : Type 0 where
  pub absent : entry_of d e.attempt ≡ None
  pub new : All (λ w. All (λ v. version_key v ≢ version_key (version_of e w)) d.versions) ws
  pub leased : IsLeased e.epoch d
