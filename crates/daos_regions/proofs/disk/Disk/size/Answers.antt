use Rattle.std.proofs.Common.{◌≡◌, ◌∙◌, ◌<◌, ap, subst, List, ℕ, rules}
use Rattle.base_outside.specs.Images.{Image, image_of}
use Rattle.base_outside.specs.ImageLaws.{image_is_bytes}
use Rattle.daos_regions.specs.Periods.{read_now}
use Rattle.daos_regions.proofs.disk.Disk.size.Goals as goal

pub returns-clause-bytes : goal.returns-clause-bytes
returns-clause-bytes c i =
    let same : c.deref.result.now ≡ c.self.inside.bytes.items = search rules in
    let image : image_of c.deref.result.now ≡ read_now c.args.self.now = ap (λ (xs : List ℕ). image_of xs) same ∙ (c.self.invariant.now ∙ ap read_now c.self.view_is) in
    subst (λ (f : Image). f i < 256) image (image_is_bytes c.deref.result.now c.are_below_256.ensures i)
