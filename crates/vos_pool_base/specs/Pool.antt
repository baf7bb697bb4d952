-- What an open pool keeps in its region.
use Rattle.std.specs.Prelude.{◌≡◌, ◌⊎◌, ◌≤◌, ℕ, Bool, true, false, IsTrue, List, [], map, Option, Some, None, cond}
use Rattle.base_outside.specs.Causes.{Rose}
use Rattle.base_outside.specs.Images.{Image, Range}
use Rattle.base_types.specs.declared.entry.Entry.{Entry}
use Rattle.daos_model.specs.declared.durable.Durable.{Durable}
use Rattle.daos_model.specs.declared.durable.Version.{Version}
use Rattle.pmem_alloc.specs.Blocks.{BlocksState}
use Rattle.pmem_alloc.specs.Map.{MapState}
use Rattle.vos_commits.specs.Kept.{MayFind, kept_in}
use Rattle.vos_standing.specs.vos_image.Kept.{Stored, kept}
use Rattle.vos_standing.specs.vos_places.declared.codec.Counters.{Counters}
use Rattle.vos_standing.specs.vos_places.Tables.{Table}
use Rattle.vos_standing.specs.Standing.{Stand}
use Rattle.vos_tables.specs.declared.change.Change.{Change}
use Rattle.vos_tables.specs.Changes.{range_of}
use Rattle.vos_tables.specs.Kept.{kept_with}

-- the blocks of its region with what is staged, and its fixed places as it remembers them
pub record OpenedState (R : Type 0) : Type 0 where
  pub blocks : BlocksState R
  pub table : Table

-- in an image stand a table and, in blocks below its roots, something
pub record HasStood (size : ℕ) (f : Image) (t : Table) : Type 0 where
  pub stored : Stored
  pub stands : Stand t.header.target size f t stored

-- What holds of an open pool: nothing is staged, in the map neither; and where its region tells its bytes, unless it stopped, what it remembers stands in what is read.
pub record IsOpened (size : ℕ) (tells : Bool) (image : Image) (staged : List Range) (stopped : Bool) (map lasting : MapState) (t : Table) : Type 0 where
  pub unstaged : staged ≡ []
  pub unchanged : map ≡ lasting
  pub stands : IsTrue tells → stopped ≡ false → HasStood size image t

-- what its region keeps, where it tells its bytes
abbrev pub kept_by : Bool → ℕ → ℕ → Image → Option Durable
kept_by tells target size image = cond tells (Some (kept_in (kept target size) size image)) None

-- what its next opening may find
abbrev pub MayBeFound : Bool → ℕ → ℕ → (Image → Type 0) → Durable → Type 0
MayBeFound tells target size may_leave x = IsTrue tells × MayFind (kept target size) size may_leave x

-- what a pool keeps, and what its next opening may find, where its region says this of itself
abbrev pub kept_of : {R : Type 0} → Bool → (R → ℕ) → (R → Image) → OpenedState R → Option Durable
kept_of tells extent image p = kept_by tells p.table.header.target (extent p.blocks.undo.region) (image p.blocks.undo.region)

abbrev pub may_of : {R : Type 0} → Bool → (R → ℕ) → (R → Image → Type 0) → OpenedState R → Durable → Type 0
may_of tells extent may_leave p = MayBeFound tells p.table.header.target (extent p.blocks.undo.region) (may_leave p.blocks.undo.region)

-- From the one table to the other what is kept changes so, whatever versions and entries it has.
abbrev pub ChangesTo : (Durable → Durable) → Option Durable → Table → Table → Type 0
ChangesTo change old t u = (vs : List Version) (es : List Entry) → old ≡ Some (kept_with t vs es) → kept_with u vs es ≡ change (kept_with t vs es)

-- so many changes are written by one commit at most: those of all containers that there may be, and some more
abbrev pub most_changes : ℕ
most_changes = 300

-- the ranges that changes write
abbrev pub ranges_of : List Change → List Range
ranges_of xs = map range_of xs

-- of a pool that hasn't stopped
abbrev pub IfRunning : {R : Type 0} → OpenedState R → Type 0 → Type 0
IfRunning p P = p.blocks.undo.stopped ≡ false → P

-- counters have the roots of a table
abbrev pub HasRoots : Table → Counters → Type 0
HasRoots t n = (n.objects ≡ t.header.objects) × (n.entries ≡ t.header.entries)

-- A call that stops, or doesn't: it stops only where a count of the region rose in it, or the pool had stopped before; a pool that had
-- stopped stays so, and one that a call stopped has stopped.
pub record StopsBy (stops was is : Bool) (faults_before faults_now burns_before burns_now : ℕ) : Type 0 where
  pub later_faults : faults_before ≤ faults_now
  pub later_burns : burns_before ≤ burns_now
  pub cause : stops ≡ true → (was ≡ true) ⊎ (Rose faults_before faults_now ⊎ Rose burns_before burns_now)
  pub always : was ≡ true → stops ≡ true
  pub stopped : is ≡ stops
