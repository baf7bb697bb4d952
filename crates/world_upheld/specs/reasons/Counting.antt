-- Which epochs count as those of attempts, where some count besides those that were issued.
use Rattle.std.specs.Prelude.{◌≡◌, false, List, Contains, Option, Some, None}
use Rattle.base_types.specs.declared.epoch.Epoch.{Epoch}
use Rattle.base_types.specs.declared.id.AttemptId.{AttemptId}
use Rattle.base_types.specs.declared.report.Line.{Line}
use Rattle.world_base.specs.declared.world.World.{World}
use Rattle.world_base.specs.Events.{Rules}
use Rattle.world_legal.specs.world_causes.causes.Causes.{Dated}
use Rattle.world_legal.specs.world_causes.causes.Shown.{IsFirstOf}
use Rattle.world_letters.specs.clients.Snapshots.{is_at_snapshot}

-- these are the epochs that were issued, and perhaps some of attempts that read at snapshots
pub record CountAsDates (r : Rules) (w : World) (dated : Dated) : Type 0 where
  pub issued : (x : AttemptId) (e : Epoch) → Contains w.issued (x, e) → Contains dated (x, e)
  pub own : (x : AttemptId) (e : Epoch) → is_at_snapshot r x ≡ false → Contains dated (x, e) → Contains w.issued (x, e)

-- the first epoch of a command stays so, where more count
pub first-counts : (is js : Dated) (lines : List Line) (x : AttemptId) (first : Option Epoch) → ((y : AttemptId) (e : Epoch) → Contains is (y, e) → Contains js (y, e)) → IsFirstOf is lines x first → IsFirstOf js lines x first
first-counts is js lines x None more k = k
first-counts is js lines x (Some first) more k = record { number = k.number; early = k.early; its = more (record x { attempt = k.number }) first k.its; lost = k.lost }
