use Rattle.std.proofs.Common.{ap, ◌∙◌, length}
use Rattle.vos_pool_make.proofs.Formatting.{long_map}
use Rattle.vos_pool_make.proofs.format.write_fresh.Goals as goal

pub stage_fresh-requires-clause-map : goal.stage_fresh-requires-clause-map
stage_fresh-requires-clause-map g c = ap length (c.as_slice.ensures ∙ c.in-Ok.ensures) ∙ long_map c.size-size.result
