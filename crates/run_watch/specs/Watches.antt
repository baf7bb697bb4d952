-- How the targets of a run stand, and how that changes.
use Rattle.std.specs.Prelude.{ℕ, ◌≡◌, ◌+◌, ◌==◌, Bool, List, replicate, slice_get, slice_set, Option, Some, None, if◌then◌else◌}
use Rattle.std.specs.List.{position_or_len}
use Rattle.base_types.specs.declared.script.StopDecl.{StopDecl}
use Rattle.daos_model.specs.Stops.{is_stop_at}
use Rattle.world_base.specs.declared.target.Life.{Life}
use Rattle.world_base.specs.declared.target.Life.TheVariants.{Running}
use Rattle.world_base.specs.Letters.{without_first}

-- who runs, who is stopped and who was given up; in how many of its turns the outside failed each target; the stop lines whose fuses are
-- still to be set; how many restarts there were, and how many openings were tried
pub record WatchNow : Type 0 where
  pub lives : List Life
  pub faults : List ℕ
  pub stops : List StopDecl
  pub restarts : ℕ
  pub openings : ℕ

-- so many targets run, and nothing has happened yet
abbrev pub first_watch : ℕ → List StopDecl → WatchNow
first_watch targets stops = record { lives = replicate targets Running; faults = replicate targets 0; stops = stops; restarts = 0; openings = 0 }

-- the write at which a target's next fuse fires; 0 where none is left
abbrev pub write_of : Option StopDecl → ℕ
write_of None = 0
write_of (Some d) = d.write

abbrev pub next_fuse : ℕ → List StopDecl → ℕ
next_fuse t stops = write_of (slice_get stops (position_or_len (is_stop_at t) stops))

-- the target's next fuse was set
abbrev pub fuse_set : ℕ → WatchNow → WatchNow
fuse_set t w = record w { stops = without_first (is_stop_at t) w.stops }

-- a target stands so from now on
abbrev pub with_life : ℕ → Life → WatchNow → WatchNow
with_life t life w = record w { lives = slice_set w.lives t life }

-- the outside failed a target in a turn, which it had done n times before; the ninth time isn't counted, since the target is given up
abbrev pub after_fault : ℕ → ℕ → WatchNow → WatchNow
after_fault t n w = if n == 8 then w else record w { faults = slice_set w.faults t (n + 1) }

-- The outside failed a target in a turn once more: how often it had done so before, and whether this was the ninth time.
pub record FailsAgain (t : ℕ) (old new : WatchNow) (last : Bool) : Type 0 where
  pub times : ℕ
  pub before : slice_get old.faults t ≡ Some times
  pub ninth : last ≡ (times == 8)
  pub after : new ≡ after_fault t times old

-- one opening more was tried
abbrev pub opening_tried : WatchNow → WatchNow
opening_tried w = record w { openings = w.openings + 1 }

-- a target opened again
abbrev pub opened_again : ℕ → WatchNow → WatchNow
opened_again t w = record w { lives = slice_set w.lives t Running; restarts = w.restarts + 1 }
