-- The reads that an entity, or a slot, remembers.
use Rattle.std.specs.Prelude.{ℕ, Bool, true, false, nat_lt, Option, Some, None, if◌then◌else◌}
use Rattle.base_types.specs.declared.shown.Shown.{Shown}
use Rattle.vos_stamp.specs.declared.marks.Marks.{Marks}

-- no read of the whole subtree, and none of a node of it
abbrev pub no_marks : Marks
no_marks = record { low = None; high = None }

-- one of the two marks: the read of the whole subtree, or that of some node of it
abbrev pub side : Bool → Marks → Option Shown
side true m = m.low
side false m = m.high

-- the later one of two reads, if there are any
abbrev pub later : Option Shown → Option Shown → Option Shown
later None other = other
later (Some r) None = Some r
later (Some r) (Some s) = if nat_lt r.epoch.0 s.epoch.0 then Some s else Some r

-- of each kind the later read
abbrev pub joined : Marks → Marks → Marks
joined m n = record { low = later m.low n.low; high = later m.high n.high }

-- the read, where its epoch is above this one
abbrev pub above : ℕ → Option Shown → Option Shown
above e None = None
above e (Some r) = if nat_lt e r.epoch.0 then Some r else None

-- the epoch of the read; none counts as 0, above which no epoch is missed
abbrev pub rank : Option Shown → ℕ
rank None = 0
rank (Some r) = r.epoch.0
