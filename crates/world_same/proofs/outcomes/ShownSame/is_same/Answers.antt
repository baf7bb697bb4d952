use Rattle.std.proofs.Common.{refl, ap, ◌∙◌}
use Rattle.base_types.specs.declared.epoch.Epoch.{Epoch}
use Rattle.base_types.specs.declared.id.AttemptId.{AttemptId}
use Rattle.base_types.specs.declared.path.Path.{Path}
use Rattle.base_types.specs.declared.shown.Shown.{Shown}
use Rattle.world_same.proofs.Parts.{by_parts}
use Rattle.world_same.proofs.outcomes.ShownSame.is_same.Goals as goal

abbrev shown : AttemptId → Epoch → Path → Shown
shown by epoch path = record { by = by; epoch = epoch; path = path }

pub returns : goal.returns
returns c =
    by_parts c.args.self.now c.args.other.now c.args.self.now c.args.other.now refl refl
    (λ e. ap (λ x. shown x c.args.self.now.epoch c.args.self.now.path) e.0 ∙ ap (λ x. shown c.args.other.now.by x c.args.self.now.path) e.1.0
    ∙ ap (λ x. shown c.args.other.now.by c.args.other.now.epoch x) e.1.1)
    (λ e. (ap (λ s. s.by) e, (ap (λ s. s.epoch) e, ap (λ s. s.path) e))) c.three.result c.three.ensures
