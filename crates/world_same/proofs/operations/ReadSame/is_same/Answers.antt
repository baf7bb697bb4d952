use Rattle.std.proofs.Common.{ap, ◌∙◌}
use Rattle.base_types.specs.declared.operation.Read.TheVariants.{Extent}
use Rattle.world_same.proofs.Parts.{by_parts}
use Rattle.world_same.proofs.operations.ReadSame.is_same.Goals as goal

pub returns-in-Extent-Extent : goal.returns-in-Extent-Extent
returns-in-Extent-Extent c =
    by_parts c.args.self.now c.args.other.now (Extent c.in-Extent-Extent.path c.in-Extent-Extent.low c.in-Extent-Extent.len) (Extent c.in-Extent-Extent.other_path c.in-Extent-Extent.other_low c.in-Extent-Extent.other_len) c.in-Extent-Extent.is-0 c.in-Extent-Extent.is-1
    (λ e. ap (λ x. Extent x c.in-Extent-Extent.low c.in-Extent-Extent.len) e.0 ∙ ap (λ x. Extent c.in-Extent-Extent.other_path x c.in-Extent-Extent.len) e.1.0 ∙ ap (λ x. Extent c.in-Extent-Extent.other_path c.in-Extent-Extent.other_low x) e.1.1)
    (λ e. (cc, (cc, cc))) c.three.result c.three.ensures
