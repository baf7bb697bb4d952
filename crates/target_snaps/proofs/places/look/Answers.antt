use Rattle.std.proofs.Common.{◌∙◌}
use Rattle.target_snaps.proofs.Freezed.{among-frozen}
use Rattle.target_snaps.proofs.places.look.Goals as goal

pub returns-clause-frozen : goal.returns-clause-frozen
returns-clause-frozen g c d at = among-frozen d _ c.args.cont c.args.epoch _ c.is_among-frozen.ensures (c.as_slice.ensures ∙ c.in_ok-snaps.ensures c.requires.running d at)
