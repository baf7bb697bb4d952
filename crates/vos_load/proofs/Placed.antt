-- What the tree says of a version, and the chain of its bytes.
use Rattle.std.proofs.Common.{◌≡◌, ap}
use Rattle.base_types.specs.declared.path.Path.{Path}
use Rattle.pmem_pages.specs.Blocks.{Blocks}
use Rattle.pmem_pages.specs.Owners.{Holds}
use Rattle.vos_chain.specs.Made.{IsChainAt}
use Rattle.vos_single.specs.Singles as single
use Rattle.vos_single.specs.declared.single.Placed.{Placed as PlacedSingle}
use Rattle.vos_extent.specs.Extents as extent
use Rattle.vos_extent.specs.declared.pieces.Placed.{Placed as PlacedExtent}
use Rattle.vos_path.specs.Objects.{extent_version, single_version}
use Rattle.vos_load.specs.Updates.{extent_with, single_with}

pub single_chain : (m : Blocks) (x : PlacedSingle) (s : single.Stored) → Holds single.single_level.owner m s → x ≡ single.placed_of s → IsChainAt m x.mark.chain x.mark.length (single.chain_of s)
single_chain m x s h is = record { holds = record { here = h.here; apart = h.apart }; first_is = ap (λ (z : PlacedSingle). z.mark.chain) is; count_is = ap (λ (z : PlacedSingle). z.mark.length) is }

pub single_read : (p : Path) (x : PlacedSingle) (s : single.Stored) → x ≡ single.placed_of s → single_with p x s.version.bytes ≡ single_version p s.version
single_read p x s is = ap (λ z. single_with p z s.version.bytes) is

pub extent_chain : (m : Blocks) (x : PlacedExtent) (s : extent.Stored) → Holds extent.extent_level.owner m s → x ≡ extent.placed_of s → IsChainAt m x.mark.chain x.mark.length (extent.chain_of s)
extent_chain m x s h is = record { holds = record { here = h.here; apart = h.apart }; first_is = ap (λ (z : PlacedExtent). z.mark.chain) is; count_is = ap (λ (z : PlacedExtent). z.mark.length) is }

pub extent_read : (p : Path) (x : PlacedExtent) (s : extent.Stored) → x ≡ extent.placed_of s → extent_with p x s.extent.bytes ≡ extent_version p s.extent
extent_read p x s is = ap (λ z. extent_with p z s.extent.bytes) is
