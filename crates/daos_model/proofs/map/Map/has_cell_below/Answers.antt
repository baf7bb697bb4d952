use Rattle.std.proofs.Common.{reverse, sym, ◌∙◌, ap}
use Rattle.daos_model.specs.Answers.{has_cell_below}
use Rattle.daos_model.proofs.Lookups.{has_cell_below-any}
use Rattle.daos_model.proofs.map.Map.has_cell_below.Goals as goal

pub returns : goal.returns
returns c =
    c.any_under.ensures ∙ sym (has_cell_below-any c.args.path.now (reverse c.newest_last.result.now)) ∙ ap (has_cell_below c.args.path.now) c.newest_last.ensures
