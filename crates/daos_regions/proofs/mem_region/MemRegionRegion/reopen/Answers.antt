use Rattle.std.proofs.Common.{ap, subst, ◌≡◌}
use Rattle.std.specs.Prelude.{OnOk}
use Rattle.base_outside.specs.Images.{NoMore}
use Rattle.daos_regions.specs.MemState.{MemState}
use Rattle.daos_regions.specs.Periods.{DiskState, MayLeave, read_now}
use Rattle.daos_regions.specs.MemLaws.{end_goes, end_no_more, end_image, Goes}
use Rattle.daos_regions.proofs.mem_region.MemRegionRegion.reopen.Goals as goal

pub returns-clause-image : goal.returns-clause-image
returns-clause-image c =
    let same : c.self.inside.disk ≡ c.args.self.now.disk = ap (λ (m : MemState). m.disk) c.self.view_is in
    subst (λ (d : DiskState). OnOk c.open_disk.result (MayLeave d (read_now c.open_disk.new.disk))) same (end_image c.open_disk.result c.self.inside.keep _ _ c.open_disk.ensures.opened)

pub returns-clause-crash : goal.returns-clause-crash
returns-clause-crash c =
    let same : c.self.inside.disk ≡ c.args.self.now.disk = ap (λ (m : MemState). m.disk) c.self.view_is in
    subst (λ (d : DiskState). NoMore (MayLeave d) (MayLeave c.open_disk.new.disk)) same (end_no_more c.open_disk.result c.self.inside.keep _ _ c.open_disk.ensures.opened c.open_disk.ensures.kept)

pub returns-clause-goes : goal.returns-clause-goes
returns-clause-goes c =
    let same : c.self.inside.disk ≡ c.args.self.now.disk = ap (λ (m : MemState). m.disk) c.self.view_is in
    subst (λ (d : DiskState). Goes d c.open_disk.new.disk) same (end_goes c.open_disk.result c.self.inside.keep _ _ c.open_disk.ensures.opened c.open_disk.ensures.kept)
