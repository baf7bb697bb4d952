-- Writes that are settled or pruned one after another, by their names.
use Rattle.std.specs.Prelude.{All, ◌≡◌, ◌+◌, ℕ, List, [], ◌∷◌, Option, Some, None}
use Rattle.base_types.specs.declared.entry.Settle.{Settle}
use Rattle.base_types.specs.declared.id.AttemptId.{AttemptId}
use Rattle.daos_model.specs.declared.durable.Version.{Version}
use Rattle.pmem_pages.specs.Blocks.{Blocks}
use Rattle.pmem_pages.specs.Owners.{Changed}
use Rattle.vos_levels.specs.Levels.{hung_root, without_those}
use Rattle.vos_path.specs.Objects.{Objects, objects_owner, objects_versions}
use Rattle.vos_path.specs.Small.{PathIsSmall}
use Rattle.vos_settle.specs.declared.name.WriteName.{WriteName}
use Rattle.vos_settle.specs.Costs.{objects_cost}
use Rattle.vos_settle.specs.Names.{moment_of}
use Rattle.vos_settle.specs.Versions.{WriteTurn, versions_after, versions_freed}
use Rattle.vos_prune.specs.Removals.{Same, done_blocks, pruning}
use Rattle.vos_prune.specs.Writers.{writer_of}
use Rattle.vos_object.specs.Settling.{is_removed, settling}

-- one write was settled, or taken out where it was done, and these are the objects then
pub record SettleTurn (a : AttemptId) (s : Settle) (x : WriteName) (m : Blocks) (g : Objects) (n : Blocks) (at : ℕ) (now : Objects) : Type 0 where
  pub turn : WriteTurn (settling a x s) x.path m g n at
  pub now_is : now ≡ turn.now

pub record RemovedBy (by : AttemptId) (x : WriteName) (m : Blocks) (g : Objects) (n : Blocks) (at : ℕ) (now : Objects) : Type 0 where
  pub turn : WriteTurn (pruning x.kind (moment_of x) by) x.path m g n at
  pub now_is : now ≡ turn.now

pub record Stays (m : Blocks) (g : Objects) (n : Blocks) (at : ℕ) (now : Objects) : Type 0 where
  pub same : Same m g n at
  pub now_is : now ≡ g

abbrev pub RemovedIf : Option AttemptId → WriteName → Blocks → Objects → Blocks → ℕ → Objects → Type 0
RemovedIf None x m g n at now = Stays m g n at now
RemovedIf (Some by) x m g n at now = RemovedBy by x m g n at now

abbrev pub RemoveTurn : WriteName → Blocks → Objects → Blocks → ℕ → Objects → Type 0
RemoveTurn x m g n at now = RemovedIf (writer_of x.path x.kind (moment_of x) (objects_versions g)) x m g n at now

-- one turn after another
abbrev pub Turning : Type 1
Turning = WriteName → Blocks → Objects → Blocks → ℕ → Objects → Type 0

abbrev pub TurnsEach : Turning → List WriteName → Blocks → Objects → Blocks → ℕ → Objects → Type 0
TurnsEach T [] m g n at now = Stays m g n at now
TurnsEach T (x ∷ xs) m g n at now = (k : Blocks) × (root : ℕ) × (h : Objects) × (T x m g k root h × TurnsEach T xs k h n at now)

-- The objects after such turns, and what became of their versions. No other block changed.
pub record Turned (T : Turning) (after : List WriteName → List Version → List Version) (ns : List WriteName) (m : Blocks) (g : Objects) (n : Blocks) (at : ℕ) : Type 0 where
  pub now : Objects
  pub turns : TurnsEach T ns m g n at now
  pub changed : Changed objects_owner m g n now
  pub root_is : at ≡ hung_root now
  pub versions : objects_versions now ≡ after ns (objects_versions g)

-- no tree on the path of one of some writes has 2^d pairs
abbrev pub PathsAreSmall : ℕ → List WriteName → Objects → Type 0
PathsAreSmall d ns g = All (λ n. PathIsSmall d n.path g) ns

-- what the turns may stage in all, with so much for each entry and version that goes, and so much for a value on the way
abbrev pub each_cost : List WriteName → ℕ → ℕ → ℕ
each_cost [] e v = 0
each_cost (n ∷ ns) e v = objects_cost n.kind n.path.dkey n.path.akey e v + each_cost ns e v

-- the blocks of the versions that go
abbrev pub settled_blocks : AttemptId → Settle → List WriteName → List Version → ℕ
settled_blocks a s [] vs = 0
settled_blocks a s (n ∷ ns) vs = versions_freed (settling a n s) n.path vs + settled_blocks a s ns (versions_after (settling a n s) n.path vs)

abbrev pub removed_blocks : List WriteName → List Version → ℕ
removed_blocks [] vs = 0
removed_blocks (n ∷ ns) vs = done_blocks n.path n.kind (moment_of n) vs + removed_blocks ns (without_those (is_removed n) vs)
