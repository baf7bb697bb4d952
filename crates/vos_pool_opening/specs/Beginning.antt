-- What an opening makes of what a region stands for.
use Rattle.std.specs.Prelude.{◌+◌, ◌-◌, ◌^◌, ℕ, Bool, false, if◌then◌else◌, nat_lt}
use Rattle.base_types.specs.declared.outcome.FloorWhy.{FloorWhy}
use Rattle.base_types.specs.declared.outcome.FloorWhy.TheVariants.{Opening, Restart}
use Rattle.daos_model.specs.declared.durable.Durable.{Durable}
use Rattle.vos_pool_opening.specs.declared.beginning.Beginning.{Beginning}
use Rattle.vos_pool_opening.specs.declared.beginning.Beginning.TheVariants.{Made, Again}

-- the last incarnation that another one follows
abbrev pub last_incarnation : Beginning → ℕ
last_incarnation Made = 2 ^ 63
last_incarnation (Again n) = 2 ^ 64 - 2

-- the incarnation after one: that of a region that was blank stays; the one after the last is the first
abbrev pub next_incarnation : Beginning → Bool → ℕ → ℕ
next_incarnation b blank n = if blank then n else if nat_lt (last_incarnation b) n then 1 else n + 1

-- what sets the floor
abbrev pub why_of : Beginning → FloorWhy
why_of Made = Opening
why_of (Again n) = Restart n

-- what is kept in another incarnation
abbrev pub in_incarnation : ℕ → Durable → Durable
in_incarnation n d = record d { incarnation = n }

-- what is kept once the pool of a region that wasn't blank was opened
abbrev pub begun : Beginning → Durable → Durable
begun b d = in_incarnation (next_incarnation b false d.incarnation) d
