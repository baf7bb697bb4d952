-- The version that the tree says something of, with its bytes.
use Rattle.std.specs.Prelude.{ℕ, List}
use Rattle.base_types.specs.declared.operation.Write.TheVariants.{Extent, Single}
use Rattle.base_types.specs.declared.path.Path.{Path}
use Rattle.daos_model.specs.declared.durable.Version.{Version}
use Rattle.vos_extent.specs.declared.pieces.Placed.{Placed as PlacedExtent}
use Rattle.vos_single.specs.declared.single.Placed.{Placed as PlacedSingle}

abbrev pub single_with : Path → PlacedSingle → List ℕ → Version
single_with p x bytes = record { epoch = x.moment.epoch; minor = x.moment.minor; by = x.mark.by; done = x.mark.done; write = Single p bytes }

abbrev pub extent_with : Path → PlacedExtent → List ℕ → Version
extent_with p x bytes = record { epoch = x.at.epoch; minor = x.at.minor; by = x.mark.by; done = x.mark.done; write = Extent p x.at.low bytes }
