use Rattle.std.proofs.Common.{reverse, sym, ◌∙◌, ap}
use Rattle.std.specs.Option.{option_map}
use Rattle.daos_model.specs.Cells.{held_bytes, value_at}
use Rattle.daos_model.proofs.Lookups.{value_at-find}
use Rattle.daos_model.proofs.map.Map.get.Goals as goal

pub returns : goal.returns
returns c =
    c.held_bytes.ensures ∙ ap (option_map held_bytes) c.newest.ensures ∙ sym (value_at-find (reverse c.newest_last.result.now) c.args.cell.now)
    ∙ ap (λ m. value_at m c.args.cell.now) c.newest_last.ensures
