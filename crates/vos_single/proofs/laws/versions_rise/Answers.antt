use Rattle.std.proofs.Common.{refl}
use Rattle.pmem_pages.specs.Shape.{entries}
use Rattle.vos_moments.proofs.vos_levels.Moments.{things_rise}
use Rattle.vos_single.specs.Singles.{single_level, moment_of}
use Rattle.vos_single.proofs.laws.versions_rise.Goals as goal

pub returns : goal.returns
returns c m g h = things_rise single_level moment_of (λ v good. good.moment) (λ v. refl) (entries g.0) g.1 h.here.1.leads h.here.1.rises
