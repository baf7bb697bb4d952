-- What stands while changes of trees are staged on blocks.
use Rattle.std.specs.Prelude.{◌≡◌, ℕ, Bool, IsTrue, List, Option, OnOk, Result, false, is_some}
use Rattle.base_outside.specs.Images.{Image, Range, all_over}
use Rattle.daos_model.specs.declared.durable.Durable.{Durable}
use Rattle.pmem_alloc.specs.Blocks.{BlocksState}
use Rattle.pmem_alloc.specs.Map.{MapState, free_of}
use Rattle.pmem_alloc.specs.Sets.{count_below}
use Rattle.pmem_pages.specs.Owners.{Holds}
use Rattle.vos_pool_base.specs.vos_image.Content.{shown}
use Rattle.vos_pool_base.specs.vos_image.Fits.{AllFit}
use Rattle.vos_pool_base.specs.vos_image.Kept.{Stored, stored_owner}
use Rattle.vos_levels.specs.Levels.{hung_root}
use Rattle.vos_pool_base.specs.vos_places.declared.codec.Counters.{Counters}
use Rattle.vos_pool_base.specs.vos_places.Tables.{Table}
use Rattle.vos_pool_base.specs.Pool.{OpenedState}
use Rattle.vos_pool_base.specs.vos_standing.Standing.{IsReadOf, Stand, StaysBeside, content}

-- The first map is read of an image, and the second of that image with the staged ranges over it. All this stands in the blocks then,
-- and what stands beside them is as it was.
pub record IsStaged (size : ℕ) (f : Image) (m : MapState) (staged : List Range) (n : MapState) (y : Stored) : Type 0 where
  pub was : IsReadOf size f m
  pub now : IsReadOf size (all_over staged f) n
  pub beside : StaysBeside m f n (all_over staged f)
  pub holds : Holds stored_owner (shown (content size (all_over staged f))) y

-- so it is of blocks
abbrev pub IsStagedOn : {R : Type 0} → (R → ℕ) → (R → Image) → BlocksState R → Stored → Type 0
IsStagedOn extent image b y = IsStaged (extent b.undo.region) (image b.undo.region) b.lasting b.undo.staged b.map y

-- A table stands with something in an image, and with these counters all that is staged can stand in its place: they have its roots, and
-- the layout allows it.
pub record IsToStand (size : ℕ) (f : Image) (m : MapState) (staged : List Range) (n : MapState) (t : Table) (c : Counters) (y : Stored) : Type 0 where
  pub before : Stored
  pub stood : Stand t.header.target size f t before
  pub staged_is : IsStaged size f m staged n y
  pub objects : c.objects ≡ hung_root y.0
  pub entries : c.entries ≡ hung_root y.1
  pub fits : AllFit (content size f) y.0 y.1

abbrev pub IsToStandOn : {R : Type 0} → (R → ℕ) → (R → Image) → BlocksState R → Table → Counters → Stored → Type 0
IsToStandOn extent image b t c y = IsToStand (extent b.undo.region) (image b.undo.region) b.lasting b.undo.staged b.map t c y

-- where a region tells its bytes, unless it stopped
abbrev pub WhereTold : {R : Type 0} → Bool → BlocksState R → Type 0 → Type 0
WhereTold tells b P = IsTrue tells → b.undo.stopped ≡ false → P

-- blocks with a table, as a pool
abbrev pub pool_of : {R : Type 0} → BlocksState R → Table → OpenedState R
pool_of b t = record { blocks = b; table = t }

-- so many blocks were free at the last commit
abbrev pub free_then : {R : Type 0} → BlocksState R → ℕ
free_then b = count_below (free_of b.lasting) b.lasting.end

-- A call that is quiet: what is kept stays, and openings find what they would have found.
pub record IsQuietCall {T E : Type 0} (result : Result T E) (old new : Option Durable) (may may' : Durable → Type 0) : Type 0 where
  pub told : is_some new ≡ is_some old
  pub done : OnOk result (new ≡ old)
  pub left : (x : Durable) → may' x → may x

-- this stands in a pool
abbrev pub StandsInPool : {R : Type 0} → (R → ℕ) → (R → Image) → OpenedState R → Stored → Type 0
StandsInPool extent image p x = Stand p.table.header.target (extent p.blocks.undo.region) (image p.blocks.undo.region) p.table x
