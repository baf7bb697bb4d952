-- What a rack of regions in memory shows.
use Rattle.std.specs.Prelude.{ℕ, Bool, false, List, [], Option, slice_get, unwrap_or}
use Rattle.base_outside.specs.Calls.{Calls}
use Rattle.base_outside.specs.Images.{Image}
use Rattle.base_outside.specs.Racks.{at_home, is_away, IsHeldBack, IsTakenBack, OthersAreKept}
use Rattle.daos_regions.specs.MemState.{MemState}
use Rattle.daos_regions.specs.Periods.{MayLeave, read_now}
use Rattle.daos_regions.specs.PeriodLaws.{after_end}
use Rattle.daos_regions.specs.declared.keep.Keep.TheVariants.{All}

-- each target's region where it is at home, the numbers of the calls of `region` that fail, how many
-- there were, and how many failed
pub record MemRackState : Type 0 where
  pub regions : List (Option MemState)
  pub calls : Calls

-- the region of a target, where there is such a target and its region is at home
abbrev pub region_at_home : List (Option MemState) → ℕ → Option MemState
region_at_home regions t = at_home regions t

-- a region of no bytes
abbrev pub no_region : MemState
no_region = record { disk = record { size = 0; past = []; unflushed = [] }; keep = All; broken = false; calls = record { fails = []; calls = 0; faults = 0 } }

-- what the rack keeps of a target: its region, or none
abbrev pub kept_region : List (Option MemState) → ℕ → MemState
kept_region regions t = unwrap_or (region_at_home regions t) no_region

-- what it reads after it was opened anew, and what a crash now may leave of it
abbrev pub opened_image : MemState → Image
opened_image m = read_now (after_end m.disk m.keep)

-- whether the region of a target is handed out
abbrev pub is_out_of_home : List (Option MemState) → ℕ → Bool
is_out_of_home regions t = is_away (slice_get regions t)

-- the region of a target wasn't handed out, and all others are kept
abbrev pub HoldsBack : List (Option MemState) → List (Option MemState) → ℕ → Type 0
HoldsBack old new t =
    IsHeldBack (opened_image (kept_region old t)) (opened_image (kept_region new t)) (MayLeave (kept_region old t).disk) (MayLeave (kept_region new t).disk)
    (kept_region old t).calls.faults (kept_region new t).calls.faults (kept_region old t).disk.size (kept_region new t).disk.size (is_out_of_home old t) (is_out_of_home new t)

abbrev pub KeepsOthers : List (Option MemState) → List (Option MemState) → ℕ → Type 0
KeepsOthers old new t =
    OthersAreKept t (λ u. opened_image (kept_region old u)) (λ u. opened_image (kept_region new u)) (λ u. MayLeave (kept_region old u).disk) (λ u. MayLeave (kept_region new u).disk)
    (λ u. (kept_region old u).calls.faults) (λ u. (kept_region new u).calls.faults) (λ u. (kept_region old u).disk.size) (λ u. (kept_region new u).disk.size) (is_out_of_home old) (is_out_of_home new)

-- a region was taken back
abbrev pub TakesBack : MemState → List (Option MemState) → ℕ → Type 0
TakesBack m new t =
    IsTakenBack (MayLeave m.disk) m.calls.faults m.disk.size (opened_image (kept_region new t)) (MayLeave (kept_region new t).disk) (kept_region new t).calls.faults (kept_region new t).disk.size (is_out_of_home new t)
