use Rattle.std.proofs.Common.{◌≡◌, ◌<◌, List, ℕ, subst, rules}
use Rattle.base_outside.specs.Images.{image_of}
use Rattle.base_outside.specs.ImageLaws.{image_is_bytes}
use Rattle.base_outside.proofs.sure_region.SureRegionRegion.size.Goals as goal

pub returns-clause-bytes : goal.returns-clause-bytes
returns-clause-bytes c i =
    let same : c.deref.result.now ≡ c.args.self.now = search rules in
    subst (λ (xs : List ℕ). image_of xs i < 256) same (image_is_bytes c.deref.result.now c.are_below_256.ensures i)
