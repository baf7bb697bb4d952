-- The updates of an akey in their trees, as a walk over these sees them.
use Rattle.std.proofs.Common.{◌≡◌, ◌∙◌, [], List, ◌∷◌, Some, map, ap, arith, refl}
use Rattle.std.specs.declared.cmp.Ordering.TheVariants.{Less}
use Rattle.base_types.specs.declared.path.Path.{Path}
use Rattle.daos_model.specs.declared.durable.Version.{Version}
use Rattle.pmem_pages.specs.Blocks.{Blocks}
use Rattle.pmem_pages.specs.Node.{key_cmp}
use Rattle.pmem_pages.specs.Owners.{Holds}
use Rattle.vos_values.specs.Fields.{packed}
use Rattle.vos_values.specs.Keys.{moment_fields, moment_key, name_key}
use Rattle.vos_values.specs.Values.{version_value}
use Rattle.vos_values.proofs.KeyLaws.{keys_cmp, moments_exact}
use Rattle.vos_values.proofs.Orders.{packed_cmp}
use Rattle.vos_values.proofs.ValueLaws.{singles_exact}
use Rattle.vos_levels.specs.Levels.{pair_of_thing}
use Rattle.vos_single.specs.Singles as single
use Rattle.vos_extent.specs.Extents as extent
use Rattle.vos_path.specs.Objects.{extent_version, single_version, together}

-- the versions that they stand for
abbrev pub of_single : Path → single.Stored → List Version
of_single p s = single_version p s.version ∷ []

abbrev pub of_extent : Path → extent.Stored → List Version
of_extent p s = extent_version p s.extent ∷ []

pub of_single_all : (p : Path) (xs : List single.Stored) → together (of_single p) xs ≡ map (single_version p) (map single.version_of xs)
of_single_all p [] = refl
of_single_all p (x ∷ xs) = ap (λ z. single_version p x.version ∷ z) (of_single_all p xs)

pub of_extent_all : (p : Path) (xs : List extent.Stored) → together (of_extent p) xs ≡ map (extent_version p) (map extent.extent_of xs)
of_extent_all p [] = refl
of_extent_all p (x ∷ xs) = ap (λ z. extent_version p x.extent ∷ z) (of_extent_all p xs)

-- a version is read back from its pair
pub single_again : (m : Blocks) (s : single.Stored) → single.IsStored s → Holds single.single_level.owner m s → single.placed_in_pair (pair_of_thing single.single_level s) ≡ Some (single.placed_of s)
single_again m s h held =
    ap (single.placed_when (version_value (single.mark_of s))) (moments_exact.again (single.moment_of s) h.moment)
    ∙ ap (single.placed_with (single.moment_of s)) (singles_exact.again (single.mark_of s) h.mark)

pub least_single : (s : single.Stored) → single.IsStored s → key_cmp (name_key []) (single.key_of_stored s) ≡ Less
unfolding moment_key name_key
least_single s h =
    let x = single.moment_of s in
    let g = h.moment in
    keys_cmp [] (packed (moment_fields x)) ∙ packed_cmp [] (moment_fields x) tt (omega arith, g.epoch, (omega arith, let k = g.minor in omega arith, tt)) tt
