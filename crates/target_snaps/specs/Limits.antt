-- Up to where a container is pruned.
use Rattle.std.specs.Prelude.{◌-◌, min, Option, None, Some}
use Rattle.base_types.specs.declared.epoch.Epoch.{Epoch}

-- an epoch, or where there is an unsettled version at or below it, the one before the least of these
abbrev pub limit_under : Epoch → Option Epoch → Epoch
limit_under g None = g
limit_under g (Some e) = record { 0 = min g.0 (e.0 - 1) }
