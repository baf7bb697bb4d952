use Rattle.std.proofs.Common.{ap, subst, ◌≡◌, ◌∷◌, []}
use Rattle.std.specs.Prelude.{OnOk}
use Rattle.base_outside.specs.Images.{Range, Tears, over}
use Rattle.daos_regions.specs.MemState.{MemState}
use Rattle.daos_regions.specs.Periods.{DiskState, MayLeave, read_now}
use Rattle.daos_regions.specs.MemLaws.{write_goes, write_leaves, write_image, Goes}
use Rattle.daos_regions.proofs.mem_region.MemRegionRegion.write.Goals as goal

pub returns-clause-image : goal.returns-clause-image
returns-clause-image c =
    let r : Range = record { place = c.args.at; bytes = c.args.bytes.now } in
    let same : c.self.inside.disk ≡ c.args.self.now.disk = ap (λ (m : MemState). m.disk) c.self.view_is in
    subst (λ (d : DiskState). OnOk c.write_disk.result (read_now c.write_disk.new.disk ≡ over r (read_now d))) same (write_image c.write_disk.result r _ _ c.write_disk.ensures.written)

pub returns-clause-crash : goal.returns-clause-crash
returns-clause-crash c =
    let r : Range = record { place = c.args.at; bytes = c.args.bytes.now } in
    let same : c.self.inside.disk ≡ c.args.self.now.disk = ap (λ (m : MemState). m.disk) c.self.view_is in
    subst (λ (d : DiskState). Tears (r ∷ []) (MayLeave d) (MayLeave c.write_disk.new.disk)) same (write_leaves c.write_disk.result r _ _ c.write_disk.ensures.written c.write_disk.ensures.kept)

pub returns-clause-goes : goal.returns-clause-goes
returns-clause-goes c =
    let r : Range = record { place = c.args.at; bytes = c.args.bytes.now } in
    let same : c.self.inside.disk ≡ c.args.self.now.disk = ap (λ (m : MemState). m.disk) c.self.view_is in
    subst (λ (d : DiskState). Goes d c.write_disk.new.disk) same (write_goes c.write_disk.result r _ _ c.write_disk.ensures.written c.write_disk.ensures.kept)
