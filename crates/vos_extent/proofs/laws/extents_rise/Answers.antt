use Rattle.pmem_pages.specs.Shape.{entries}
use Rattle.vos_extent.proofs.Places.{places_rise}
use Rattle.vos_extent.proofs.laws.extents_rise.Goals as goal

pub returns : goal.returns
returns c m g h = places_rise (entries g.0) g.1 h.here.1.leads h.here.1.rises
