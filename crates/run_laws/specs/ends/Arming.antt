-- The fuses of targets are set before a run, and taken away after it.
use Rattle.std.specs.Prelude.{ℕ, zero, suc, ◌≡◌, List, length, slice_get, Option, Some}
use Rattle.base_types.specs.declared.script.StopDecl.{StopDecl}
use Rattle.daos_model.specs.declared.durable.Durable.{Durable}
use Rattle.daos_model.specs.Stops.{is_stop_at}
use Rattle.run_laws.specs.shows.Openings.{HasFuse}
use Rattle.run_watch.specs.Watches.{WatchNow, next_fuse}
use Rattle.target_core.specs.Targets.{TargetOf}
use Rattle.vos_store.specs.Calls.{State}
use Rattle.world_base.specs.Letters.{without_first}

-- the stop lines that are left once the first of each of so many targets was taken
abbrev pub lines_left : ℕ → List StopDecl → List StopDecl
lines_left zero stops = stops
lines_left (suc n) stops = without_first (is_stop_at n) (lines_left n stops)

module _ {S C : Type 0} (durable : S → Option Durable) (state : S → State) (may : S → Durable → Type 0) where
  -- of each target the fuse was set that fires at this write, or taken away where there is none; nothing else of it changed
  pub record HaveFuses (write : ℕ → ℕ) (xs ys : List (TargetOf S C)) : Type 0 where
    pub many : length ys ≡ length xs
    pub each : (t : ℕ) (x y : TargetOf S C) → slice_get xs t ≡ Some x → slice_get ys t ≡ Some y → HasFuse durable state may (write t) x y

  -- Each target has the fuse of its first stop line, or none where it has no such line. Those lines are taken; nothing else is told of the targets so
  -- far.
  pub record AreArmed (xs ys : List (TargetOf S C)) (w v : WatchNow) : Type 0 where
    pub fuses : HaveFuses (λ t. next_fuse t w.stops) xs ys
    pub watch : v ≡ record w { stops = lines_left (length xs) w.stops }

  -- each target's fuse was taken away
  abbrev pub AreUnfused : List (TargetOf S C) → List (TargetOf S C) → Type 0
  AreUnfused xs ys = HaveFuses (λ t. 0) xs ys
