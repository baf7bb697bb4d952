use Rattle.std.proofs.Common.{ap, subst, ◌≡◌}
use Rattle.base_outside.specs.Images.{NoMore}
use Rattle.daos_regions.specs.declared.keep.Keep.TheVariants.{All}
use Rattle.daos_regions.specs.MemState.{MemState}
use Rattle.daos_regions.specs.Periods.{DiskState, MayLeave, read_now}
use Rattle.daos_regions.specs.MemLaws.{end_goes, end_no_more, flush_image, Goes}
use Rattle.daos_regions.proofs.mem_region.MemRegionRegion.flush.Goals as goal

pub returns-clause-image : goal.returns-clause-image
returns-clause-image c =
    let same : c.self.inside.disk ≡ c.args.self.now.disk = ap (λ (m : MemState). m.disk) c.self.view_is in
    subst (λ (d : DiskState). read_now c.flush_disk.new.disk ≡ read_now d) same (flush_image c.flush_disk.result _ _ c.flush_disk.ensures.flushed c.flush_disk.ensures.kept)

pub returns-clause-crash : goal.returns-clause-crash
returns-clause-crash c =
    let same : c.self.inside.disk ≡ c.args.self.now.disk = ap (λ (m : MemState). m.disk) c.self.view_is in
    subst (λ (d : DiskState). NoMore (MayLeave d) (MayLeave c.flush_disk.new.disk)) same (end_no_more c.flush_disk.result All _ _ c.flush_disk.ensures.flushed c.flush_disk.ensures.kept)

pub returns-clause-goes : goal.returns-clause-goes
returns-clause-goes c =
    let same : c.self.inside.disk ≡ c.args.self.now.disk = ap (λ (m : MemState). m.disk) c.self.view_is in
    subst (λ (d : DiskState). Goes d c.flush_disk.new.disk) same (end_goes c.flush_disk.result All _ _ c.flush_disk.ensures.flushed c.flush_disk.ensures.kept)
