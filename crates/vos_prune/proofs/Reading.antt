-- What a tree of versions says at a key.
use Rattle.std.proofs.Common.{◌≡◌, ap, ◌∙◌}
use Rattle.std.specs.List.{find}
use Rattle.std.specs.Option.{option_and_then, option_map}
use Rattle.pmem_pages.specs.Blocks.{Blocks}
use Rattle.pmem_pages.specs.Owners.{Holds}
use Rattle.pmem_pages.specs.Shape.{entries, entry_at}
use Rattle.pmem_pages.specs.declared.node.TreeKey.{TreeKey}
use Rattle.pmem_tree_base.specs.Find.{value_of}
use Rattle.vos_values.specs.declared.keys.ExtentKey.{ExtentKey}
use Rattle.vos_values.specs.declared.keys.Moment.{Moment}
use Rattle.vos_values.specs.Keys.{IsExtentKey, IsMoment, extent_key, moment_key}
use Rattle.vos_values.specs.Values.{version_in}
use Rattle.vos_values.proofs.ValueLaws.{singles_exact}
use Rattle.vos_levels.specs.Levels.{things}
use Rattle.vos_levels.proofs.Spots.{value_found}
use Rattle.vos_levels.proofs.Testing.{all_good, found_good, read_option}
use Rattle.vos_single.specs.Singles as single
use Rattle.vos_single.proofs.Reading as single_reading
use Rattle.vos_extent.specs.Extents as extent
use Rattle.vos_extent.proofs.Places as places

pub single_found : (m : Blocks) (g : single.Singles) (at : Moment) (key : TreeKey) → Holds single.single_owner m g → IsMoment at → key ≡ moment_key at
    → option_and_then version_in (value_of (entry_at key (entries g.0))) ≡ option_map single.mark_of (find (single.is_at at) (things g))
single_found m g at key h good is =
    let leads = h.here.1.leads in
    ap (λ k. option_and_then version_in (value_of (entry_at k (entries g.0)))) is
    ∙ (ap (option_and_then version_in) (value_found single.single_level (moment_key at) (single.is_at at) (single_reading.tells_at at good) (entries g.0) g.1 leads h.here.1.rises)
    ∙ read_option (find (single.is_at at) (things g)) single.value_of_stored version_in single.mark_of (λ s e. singles_exact.again (single.mark_of s) (found_good single.single_level (single.is_at at) g.1 s (all_good single.single_level (entries g.0) g.1 leads) e).mark))

pub extent_found : (m : Blocks) (g : extent.Extents) (at : ExtentKey) (key : TreeKey) → Holds extent.extent_owner m g → IsExtentKey at → key ≡ extent_key at
    → option_and_then version_in (value_of (entry_at key (entries g.0))) ≡ option_map extent.mark_of (find (extent.is_at at) (things g))
extent_found m g at key h good is =
    let leads = h.here.1.leads in
    ap (λ k. option_and_then version_in (value_of (entry_at k (entries g.0)))) is
    ∙ (ap (option_and_then version_in) (value_found extent.extent_level (extent_key at) (extent.is_at at) (places.tells_at at good) (entries g.0) g.1 leads h.here.1.rises)
    ∙ read_option (find (extent.is_at at) (things g)) extent.value_of_stored version_in extent.mark_of (λ s e. singles_exact.again (extent.mark_of s) (found_good extent.extent_level (extent.is_at at) g.1 s (all_good extent.extent_level (entries g.0) g.1 leads) e).mark))
