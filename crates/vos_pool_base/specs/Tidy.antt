-- A pool at rest is tidy; and what a crash may leave of a pool stands.
use Rattle.std.specs.Prelude.{◌≡◌, ◌≤◌, ◌+◌, ℕ, Bool, false, true, IsTrue, [], All, filter, length}
use Rattle.base_outside.specs.Images.{Image}
use Rattle.base_types.specs.declared.id.AttemptId.{AttemptId}
use Rattle.daos_model.specs.Versions.{is_pending}
use Rattle.pmem_alloc.specs.Map.{blocks_end, free_blocks}
use Rattle.pmem_alloc.specs.Sets.{count_below}
use Rattle.pmem_undo.specs.Settled.{settled}
use Rattle.vos_standing.specs.vos_entries.Entries.{entries_in}
use Rattle.vos_standing.specs.vos_image.Kept.{Stored, counts}
use Rattle.vos_levels.specs.Levels.{things}
use Rattle.vos_standing.specs.vos_path.Objects.{objects_versions}
use Rattle.vos_standing.specs.vos_places.Tables.{Table}
use Rattle.vos_pool_base.specs.Pool.{OpenedState}
use Rattle.vos_standing.specs.Standing.{Stand}

-- every version counts: it is done, or its attempt has a prepared entry of its epoch
abbrev pub AllCount : Stored → Type 0
AllCount x = All (λ v. counts (entries_in x.1) v ≡ true) (objects_versions x.0)

-- no entry lists nodes
abbrev pub NoneListed : Stored → Type 0
NoneListed x = All (λ s. s.nodes ≡ []) (things x.1)

-- so many versions of one attempt can be settled by one commit
abbrev pub most_pending : ℕ
most_pending = 64

-- of no attempt more are unsettled
abbrev pub FewPending : Stored → Type 0
FewPending x = (a : AttemptId) → length (filter (is_pending a) (objects_versions x.0)) ≤ most_pending

-- What stands in an image is tidy: it is of the second layout, every version counts, no entry lists nodes, and few versions of an
-- attempt are unsettled.
pub record IsTidy (size : ℕ) (f : Image) (t : Table) : Type 0 where
  pub stored : Stored
  pub stands : Stand t.header.target size f t stored
  pub layout : t.header.layout ≡ 2
  pub counted : AllCount stored
  pub unlisted : NoneListed stored
  pub few : FewPending stored

-- so it is in a pool whose region tells its bytes, unless it stopped
abbrev pub IfTidy : {R : Type 0} → Bool → (R → ℕ) → (R → Image) → OpenedState R → Type 0
IfTidy tells extent image p = IsTrue tells → p.blocks.undo.stopped ≡ false → IsTidy (extent p.blocks.undo.region) (image p.blocks.undo.region) p.table

-- ---- what may be left

-- once its log was rolled back something stands in an image, of this target, number of targets and layout, and at least so many blocks
-- are free
pub record IsLeftStanding (size target targets layout few : ℕ) (c : Image) : Type 0 where
  pub table : Table
  pub stored : Stored
  pub stands : Stand target size (settled size c) table stored
  pub targets_as : table.header.targets ≡ targets
  pub layout_as : table.header.layout ≡ layout
  pub free : few ≤ count_below (free_blocks size (settled size c)) (blocks_end size)

-- so it is in each image that may be left
abbrev pub LeavesStanding : ℕ → ℕ → ℕ → ℕ → ℕ → (Image → Type 0) → Type 0
LeavesStanding size target targets layout few may_leave = (c : Image) → may_leave c → IsLeftStanding size target targets layout few c

-- of a pool, whether it stopped or not
abbrev pub Leaves : {R : Type 0} → Bool → (R → ℕ) → (R → Image → Type 0) → ℕ → OpenedState R → Type 0
Leaves tells extent may_leave few p =
    IsTrue tells → LeavesStanding (extent p.blocks.undo.region) p.table.header.target p.table.header.targets p.table.header.layout few (may_leave p.blocks.undo.region)

-- what a pool says of itself stays
pub record IsSamePool (t u : Table) : Type 0 where
  pub target : u.header.target ≡ t.header.target
  pub targets : u.header.targets ≡ t.header.targets
  pub layout : u.header.layout ≡ t.header.layout

-- What a call leaves of a pool: it says the same of itself, and where what could be left before stood, with so many blocks free,
-- what may be left after it stands, with no fewer of them free but for so many.
pub record LeavesBut {R : Type 0} (tells : Bool) (extent : R → ℕ) (may_leave : R → Image → Type 0) (cost : ℕ) (old new : OpenedState R) : Type 0 where
  pub same : IsSamePool old.table new.table
  pub left : (few before : ℕ) → few + cost ≤ before → Leaves tells extent may_leave before old → Leaves tells extent may_leave few new
