-- What the trees of an akey say of its updates, and their versions.
use Rattle.std.specs.Prelude.{◌≡◌}
use Rattle.base_types.specs.declared.path.Path.{Path}
use Rattle.daos_model.specs.declared.durable.Version.{Version}
use Rattle.vos_single.specs.Singles as single
use Rattle.vos_single.specs.declared.single.Placed.{Placed as PlacedSingle}
use Rattle.vos_extent.specs.Extents as extent
use Rattle.vos_extent.specs.declared.pieces.Placed.{Placed as PlacedExtent}
use Rattle.vos_path.specs.Objects.{extent_version, single_version}

-- a version that the tree says this of
pub record AreOfSingle (p : Path) (x : PlacedSingle) (v : Version) : Type 0 where
  pub stored : single.Stored
  pub placed_is : single.placed_of stored ≡ x
  pub version_is : v ≡ single_version p stored.version

pub record AreOfExtent (p : Path) (x : PlacedExtent) (v : Version) : Type 0 where
  pub stored : extent.Stored
  pub placed_is : extent.placed_of stored ≡ x
  pub version_is : v ≡ extent_version p stored.extent
