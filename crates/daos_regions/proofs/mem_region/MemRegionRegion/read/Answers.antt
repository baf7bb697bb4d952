use Rattle.std.proofs.Common.{ap}
use Rattle.daos_regions.specs.MemState.{MemState}
use Rattle.daos_regions.specs.MemLaws.{stays_same, same_leaves}
use Rattle.daos_regions.proofs.mem_region.MemRegionRegion.read.Goals as goal

pub returns-clause-crash : goal.returns-clause-crash
returns-clause-crash c = same_leaves c.args.self.now.disk c.self.inside.disk (ap (λ (m : MemState). m.disk) c.self.view_is)

pub returns-clause-goes : goal.returns-clause-goes
returns-clause-goes c = stays_same c.args.self.now.disk c.self.inside.disk (ap (λ (m : MemState). m.disk) c.self.view_is)
