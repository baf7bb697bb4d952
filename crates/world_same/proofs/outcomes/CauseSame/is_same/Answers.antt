use Rattle.std.proofs.Common.{ap, ◌∙◌}
use Rattle.base_types.specs.declared.outcome.Cause.TheVariants.{ReadLater, WriteLater}
use Rattle.world_same.proofs.Parts.{by_parts}
use Rattle.world_same.proofs.outcomes.CauseSame.is_same.Goals as goal

pub returns-in-ReadLater-ReadLater : goal.returns-in-ReadLater-ReadLater
returns-in-ReadLater-ReadLater c =
    by_parts c.args.self.now c.args.other.now (ReadLater c.in-ReadLater-ReadLater.by c.in-ReadLater-ReadLater.epoch c.in-ReadLater-ReadLater.path) (ReadLater c.in-ReadLater-ReadLater.other_by c.in-ReadLater-ReadLater.other_epoch c.in-ReadLater-ReadLater.other_path) c.in-ReadLater-ReadLater.is-0 c.in-ReadLater-ReadLater.is-1
    (λ e. ap (λ x. ReadLater x c.in-ReadLater-ReadLater.epoch c.in-ReadLater-ReadLater.path) e.0 ∙ ap (λ x. ReadLater c.in-ReadLater-ReadLater.other_by x c.in-ReadLater-ReadLater.path) e.1.0 ∙ ap (λ x. ReadLater c.in-ReadLater-ReadLater.other_by c.in-ReadLater-ReadLater.other_epoch x) e.1.1)
    (λ e. (cc, (cc, cc))) c.three.result c.three.ensures

pub returns-in-WriteLater-WriteLater : goal.returns-in-WriteLater-WriteLater
returns-in-WriteLater-WriteLater c =
    by_parts c.args.self.now c.args.other.now (WriteLater c.in-WriteLater-WriteLater.by c.in-WriteLater-WriteLater.epoch c.in-WriteLater-WriteLater.path) (WriteLater c.in-WriteLater-WriteLater.other_by c.in-WriteLater-WriteLater.other_epoch c.in-WriteLater-WriteLater.other_path) c.in-WriteLater-WriteLater.is-0 c.in-WriteLater-WriteLater.is-1
    (λ e. ap (λ x. WriteLater x c.in-WriteLater-WriteLater.epoch c.in-WriteLater-WriteLater.path) e.0 ∙ ap (λ x. WriteLater c.in-WriteLater-WriteLater.other_by x c.in-WriteLater-WriteLater.path) e.1.0 ∙ ap (λ x. WriteLater c.in-WriteLater-WriteLater.other_by c.in-WriteLater-WriteLater.other_epoch x) e.1.1)
    (λ e. (cc, (cc, cc))) c.three-in-WriteLater-WriteLater.result c.three-in-WriteLater-WriteLater.ensures
