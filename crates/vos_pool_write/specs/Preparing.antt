-- What stands in a pool where an entry and its writes may be prepared.
use Rattle.std.specs.Prelude.{◌≡◌, ◌≤◌, ◌<◌, ◌^◌, ℕ, false, List, length}
use Rattle.base_outside.specs.Images.{Image}
use Rattle.base_types.specs.declared.entry.Entry.{Entry}
use Rattle.base_types.specs.declared.operation.MinorWrite.{MinorWrite}
use Rattle.daos_model.specs.Durables.{version_key}
use Rattle.daos_model.specs.Versions.{versions_of}
use Rattle.vos_entries.specs.Entries.{has_entry_at}
use Rattle.vos_image.specs.Kept.{Stored}
use Rattle.vos_levels.specs.Levels.{things}
use Rattle.vos_path.specs.Objects.{objects_versions}
use Rattle.vos_places.specs.Laws.{covered_by}
use Rattle.vos_pool_base.specs.Pool.{OpenedState}
use Rattle.vos_pool_base.specs.Tidy.{AllCount, FewPending, NoneListed}
use Rattle.vos_pool_stage.specs.Staged.{StandsInPool}
use Rattle.vos_pool_write.specs.Lists.{AreNew}
use Rattle.vos_pool_write.specs.Several.{AllMayBeStaged}

-- An entry and its writes may be asked to be prepared in a pool of so many targets: the entry is neither committed nor confirmed by a member, it names
-- targets that there are, and each of at most 64 writes is one that objects can take.
pub record MayBePrepared (targets : ℕ) (e : Entry) (ws : List MinorWrite) : Type 0 where
  pub undecided : e.committed ≡ false
  pub unconfirmed : e.confirmed ≡ 0
  pub leader : e.leader < targets
  pub members : e.members < 2 ^ targets
  pub few : length ws ≤ 64
  pub writes : AllMayBeStaged e ws

-- And here they may be: what stands is tidy, the attempt has no entry, no version has the epoch, the number and the object of one of the writes, nor have
-- two of these, and the lease covers the epoch.
pub record HasNoneOf {R : Type 0} (extent : R → ℕ) (image : R → Image) (p : OpenedState R) (e : Entry) (ws : List MinorWrite) (x : Stored) : Type 0 where
  pub stands : StandsInPool extent image p x
  pub layout : p.table.header.layout ≡ 2
  pub counted : AllCount x
  pub unlisted : NoneListed x
  pub few : FewPending x
  pub absent : has_entry_at e.attempt (things x.1) ≡ false
  pub new : AreNew version_key (versions_of e ws) (objects_versions x.0)
  pub leased : e.epoch.0 ≤ covered_by p.table.header
