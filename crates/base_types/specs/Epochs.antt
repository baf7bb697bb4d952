-- How epochs are issued and heard of, and which lease covers them.
use Rattle.std.specs.Prelude.{ℕ, ◌+◌, ◌-◌, ◌*◌, ◌/◌, ◌^◌, max, min, nat_le, Option, Some, None, if◌then◌else◌}
use Rattle.std.specs.Int.{div_ceil}

-- the last ticks of a clock
abbrev pub last_ticks : ℕ
last_ticks = 2 ^ 56 - 1

-- the ticks that are issued: above those so far and above those of the tracker, and at least the clock's reading, which
-- counts up to 2^55
abbrev pub issued_ticks : ℕ → ℕ → ℕ → ℕ
issued_ticks ticks reading tracker = max (max (ticks + 1) (min reading (2 ^ 55))) (tracker / 256 + 1)

-- the epoch of ticks that a target issues
abbrev pub epoch_at : ℕ → ℕ → ℕ
epoch_at ticks target = ticks * 256 + target

-- the ticks once an epoch was heard of
abbrev pub heard_ticks : ℕ → ℕ → ℕ
heard_ticks ticks epoch = max ticks (epoch / 256)

-- the lease that is stored for ticks above the one so far: the next multiple of 65,536, up to the last ticks
abbrev pub lease_for : ℕ → Option ℕ
lease_for ticks = if nat_le ticks last_ticks then Some (min last_ticks (div_ceil ticks 65536 * 65536)) else None

-- the floor that an opening sets: no epoch that the lease covers is above it
abbrev pub restart_floor : ℕ → ℕ
restart_floor lease = lease * 256 + 255
