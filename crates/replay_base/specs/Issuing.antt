-- Which epochs a clock can issue, whatever it reads.
use Rattle.std.specs.Prelude.{ℕ, ◌≡◌, ◌+◌, ◌/◌, max, Option, Some}
use Rattle.std.specs.Option.{option_map}
use Rattle.base_types.specs.declared.epoch.Epoch.{Epoch}
use Rattle.daos_hlc.specs.Clock.{next_ticks, within_last}
use Rattle.world_base.specs.Requests.{epoch_of_ticks}

-- some reading of the clock of this target, with these ticks and after this tracker, leads to this epoch
abbrev pub CanIssue : ℕ → ℕ → Epoch → Epoch → Type 0
CanIssue me ticks tracker e = (reading : ℕ) × (option_map (epoch_of_ticks me) (next_ticks (record { target = me; ticks = ticks }) reading tracker.0) ≡ Some e)

-- the least ticks that may be issued next, if any may: above those so far and above those of the tracker
abbrev pub least_ticks : ℕ → ℕ → Option ℕ
least_ticks ticks tracker = within_last (max (ticks + 1) (tracker / 256 + 1))
