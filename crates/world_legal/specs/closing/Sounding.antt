-- Where what targets keep is sound together, each lease covers what its target keeps.
use Rattle.std.specs.Option.{option_map}
use Rattle.std.proofs.Common.{◌∙◌, ap}
use Rattle.daos_model.specs.Sound.{IsCovered, Sound}
use Rattle.world_base.specs.declared.world.World.{World}
use Rattle.world_legal.specs.closing.Closing.{durable_of, durables_of}
use Rattle.world_standing.specs.standing.Covering.{AreAll}
use Rattle.world_legal.specs.closing.Kept.{get-map}

pub covered-of : (w : World) → Sound (durables_of w) → AreAll IsCovered w
covered-of w k t s here = (k.targets t s.durable (get-map durable_of w.targets t ∙ ap (option_map durable_of) here)).covered
