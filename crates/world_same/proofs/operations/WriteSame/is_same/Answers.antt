use Rattle.std.proofs.Common.{ap, ◌∙◌}
use Rattle.base_types.specs.declared.operation.Write.TheVariants.{Single, Extent}
use Rattle.world_same.proofs.Parts.{by_parts}
use Rattle.world_same.proofs.operations.WriteSame.is_same.Goals as goal

pub returns-in-Single-Single : goal.returns-in-Single-Single
returns-in-Single-Single c =
    by_parts c.args.self.now c.args.other.now (Single c.in-Single-Single.path c.in-Single-Single.bytes) (Single c.in-Single-Single.other_path c.in-Single-Single.other_bytes) c.in-Single-Single.is-0 c.in-Single-Single.is-1
    (λ e. ap (λ x. Single x c.in-Single-Single.bytes) e.0 ∙ ap (λ x. Single c.in-Single-Single.other_path x) e.1)
    (λ e. (cc, cc)) c.both.result c.both.ensures

pub returns-in-Extent-Extent : goal.returns-in-Extent-Extent
returns-in-Extent-Extent c =
    by_parts c.args.self.now c.args.other.now (Extent c.in-Extent-Extent.path c.in-Extent-Extent.low c.in-Extent-Extent.bytes) (Extent c.in-Extent-Extent.other_path c.in-Extent-Extent.other_low c.in-Extent-Extent.other_bytes) c.in-Extent-Extent.is-0 c.in-Extent-Extent.is-1
    (λ e. ap (λ x. Extent x c.in-Extent-Extent.low c.in-Extent-Extent.bytes) e.0 ∙ ap (λ x. Extent c.in-Extent-Extent.other_path x c.in-Extent-Extent.bytes) e.1.0 ∙ ap (λ x. Extent c.in-Extent-Extent.other_path c.in-Extent-Extent.other_low x) e.1.1)
    (λ e. (cc, (cc, cc))) c.three.result c.three.ensures
