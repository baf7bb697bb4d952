-- Several writes of one entry that come to what stands in a pool.
use Rattle.std.specs.Prelude.{◌≡◌, ◌≤◌, ◌+◌, ℕ, false, List, [], ◌∷◌}
use Rattle.base_outside.specs.Images.{Image}
use Rattle.base_types.specs.declared.entry.Entry.{Entry}
use Rattle.base_types.specs.declared.operation.MinorWrite.{MinorWrite}
use Rattle.daos_model.specs.Durables.{version_key}
use Rattle.daos_model.specs.Versions.{version_of, versions_of}
use Rattle.vos_entries.specs.Entries.{entries_in}
use Rattle.vos_fitting.specs.Fitting.{ListNothing}
use Rattle.vos_image.specs.Kept.{Stored, counts}
use Rattle.vos_path.specs.declared.stamp.Stamp.{Stamp}
use Rattle.vos_path.specs.Objects.{objects_versions}
use Rattle.vos_places.specs.Laws.{covered_by}
use Rattle.vos_pool_base.specs.Pool.{OpenedState}
use Rattle.vos_pool_stage.specs.Staged.{StandsInPool}
use Rattle.vos_pool_write.specs.Lists.{AreNew, HaveMore}
use Rattle.vos_pool_write.specs.Written.{MayBeStaged, blocks_at_most}

-- when a write of an entry is made, and whose it is
abbrev pub stamp_of : Entry → MinorWrite → Stamp
stamp_of e w = record { at = record { epoch = e.epoch; minor = w.minor }; by = e.attempt }

-- the blocks that writes take at most
abbrev pub sum_at_most : List MinorWrite → ℕ
sum_at_most [] = 0
sum_at_most (w ∷ ws) = blocks_at_most w.write + sum_at_most ws

-- each of them is one that objects can take
abbrev pub AllMayBeStaged : Entry → List MinorWrite → Type 0
AllMayBeStaged e [] = Unit {0}
AllMayBeStaged e (w ∷ ws) = MayBeStaged (stamp_of e w) w.write × AllMayBeStaged e ws

-- for none of them counts what its version says, as long as these are the entries
abbrev pub AllUnseen : Stored → Entry → List MinorWrite → Type 0
AllUnseen x e [] = Unit {0}
AllUnseen x e (w ∷ ws) = (counts (entries_in x.1) (version_of e w) ≡ false) × AllUnseen x e ws

-- Their versions may come to what stands in a pool.
pub record AllMayCome {R : Type 0} (extent : R → ℕ) (image : R → Image) (p : OpenedState R) (e : Entry) (ws : List MinorWrite) (x : Stored) : Type 0 where
  pub stands : StandsInPool extent image p x
  pub layout : p.table.header.layout ≡ 2
  pub new : AreNew version_key (versions_of e ws) (objects_versions x.0)
  pub unlisted : ListNothing x.1
  pub leased : e.epoch.0 ≤ covered_by p.table.header
  pub unseen : AllUnseen x e ws

-- They came: they stand there beside all others, with the same entries.
pub record AllHaveCome {R : Type 0} (extent : R → ℕ) (image : R → Image) (p : OpenedState R) (e : Entry) (ws : List MinorWrite) (x : Stored) : Type 0 where
  pub now : Stored
  pub stands : StandsInPool extent image p now
  pub entries : now.1 ≡ x.1
  pub versions : HaveMore (versions_of e ws) (objects_versions x.0) (objects_versions now.0)
