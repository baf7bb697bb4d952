use Rattle.std.proofs.Common.{◌≡◌, ◌∙◌, ◌+◌, ap, length, arith}
use Rattle.std.specs.Prelude.{slice_range}
use Rattle.std.proofs.lemmas.Grind.{common_steps}
use Rattle.base_outside.specs.Images.{Image, bytes_at, image_of}
use Rattle.base_outside.specs.ImageLaws.{part_is_read}
use Rattle.daos_regions.specs.Periods.{read_now, DiskState}
use Rattle.daos_regions.proofs.disk.Disk.read.Goals as goal

pub returns : goal.returns
returns c =
    let part : c.copy_from_slice.new.self ≡ slice_range c.self.inside.bytes.items c.args.at (c.args.at + length c.args.buf.now) = grind (arith, common_steps) in
    let size : length c.self.inside.bytes.items ≡ c.args.self.now.size = ap (λ (d : DiskState). d.size) c.self.view_is in
    let image : image_of c.self.inside.bytes.items ≡ read_now c.args.self.now = c.self.invariant.now ∙ ap read_now c.self.view_is in
    part ∙ (part_is_read c.self.inside.bytes.items c.args.at (length c.args.buf.now) (omega arith) ∙ ap (λ (b : Image). bytes_at b c.args.at (length c.args.buf.now)) image)
