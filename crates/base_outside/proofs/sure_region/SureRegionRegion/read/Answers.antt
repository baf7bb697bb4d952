use Rattle.std.proofs.Common.{◌≡◌, ◌∙◌, ◌+◌, length, arith}
use Rattle.std.specs.Prelude.{slice_range}
use Rattle.std.proofs.lemmas.Grind.{common_steps}
use Rattle.base_outside.specs.ImageLaws.{part_is_read}
use Rattle.base_outside.proofs.sure_region.SureRegionRegion.read.Goals as goal

pub returns-clause-told : goal.returns-clause-told
returns-clause-told c =
    let part : c.copy_from_slice.new.self ≡ slice_range c.args.self.now c.args.at (c.args.at + length c.args.buf.now) = grind (arith, common_steps) in
    part ∙ part_is_read c.args.self.now c.args.at (length c.args.buf.now) c.requires
