-- What one target's contents need so that they are frozen, or pruned, soundly; and that they then stay sound: the statements.
use Rattle.std.specs.Prelude.{ℕ, ◌≡◌, ◌≤◌, ◌<◌, ◌/◌, true, false, List, Contains, Ok}
use Rattle.base_types.specs.declared.epoch.Epoch.{Epoch}
use Rattle.base_types.specs.declared.id.ContId.{ContId}
use Rattle.base_types.specs.declared.outcome.FloorWhy.{FloorWhy}
use Rattle.base_types.specs.declared.shown.Shown.{Shown}
use Rattle.daos_model.specs.declared.durable.Durable.{Durable}
use Rattle.daos_model.specs.declared.durable.Version.{Version}
use Rattle.daos_model.specs.Changes.{created, frozen, pruned}
use Rattle.daos_model.specs.Durables.{is_enlisted, row_of}
use Rattle.daos_model.specs.Opening.{Opening, top}
use Rattle.daos_model.specs.Versions.{version_path}
use Rattle.model_laws.specs.Decided.{AreDecided}
use Rattle.vos_store.specs.Answers.{freezes}
use Rattle.world_commit.specs.attempts.History.{History, Served}
use Rattle.world_commit.specs.world_base.Changes.{IsPartly, Prunes}
use Rattle.world_commit.specs.world_base.Events.{Rules}
use Rattle.world_commit.specs.world_base.Snapshots.{is_prune_due, prune_limit}
use Rattle.world_contents.specs.reads.Midway.{Sound}
use Rattle.world_contents.specs.reads.Transactions.{transactions}
use Rattle.world_contents.specs.reads.Versions.{VersionsStand}

-- ---- snapshots

-- A snapshot of a container may be frozen at an epoch: the container is known, the epoch is above the opening's and covered by the lease, and
-- the freeze isn't refused.
pub record MayBeFrozen (o : Opening) (c : ContId) (s : Epoch) (d : Durable) : Type 0 where
  pub known : is_enlisted d c ≡ true
  pub above : top o < s.0
  pub covered : s.0 / 256 ≤ d.lease
  pub allowed : freezes c s d ≡ Ok tt

-- what a target keeps stays sound where a snapshot is frozen there, of what was decided and served by then
abbrev pub FreezesKeepSound : Type 0
FreezesKeepSound =
    (r : Rules) (o : Opening) (held : List Version) (h : History) (served : List Served) (opening : Epoch × FloorWhy) (t : ℕ) (stamps : List Shown) (c : ContId) (s : Epoch) (d : Durable)
    → AreDecided (transactions r.script h) → MayBeFrozen o c s d → Sound r o held h served opening t d stamps → Sound r o held h served opening t (frozen c s d) stamps

-- and where one is created
abbrev pub CreatesKeepSound : Type 0
CreatesKeepSound =
    (r : Rules) (o : Opening) (held : List Version) (h : History) (served : List Served) (opening : Epoch × FloorWhy) (t : ℕ) (stamps : List Shown) (c : ContId) (s : Epoch) (d : Durable)
    → Sound r o held h served opening t d stamps → Sound r o held h served opening t (created c s d) stamps

-- ---- prunes

-- A container may be pruned up to an epoch: it is known, the epoch is no lower than the opening's and higher than what was aggregated of it,
-- and each version of it that isn't settled lies above.
pub record MayBePruned (o : Opening) (c : ContId) (upto : Epoch) (d : Durable) : Type 0 where
  pub known : is_enlisted d c ≡ true
  pub opening : top o ≤ upto.0
  pub higher : (row_of d c).aggregated.0 < upto.0
  pub clear : (v : Version) → Contains d.versions v → v.done ≡ false → (version_path v).cont.0 ≡ c.0 → upto.0 < v.epoch.0

-- what a target keeps stays sound where a container is pruned there
abbrev pub PrunesKeepSound : Type 0
PrunesKeepSound =
    (r : Rules) (o : Opening) (held : List Version) (h : History) (served : List Served) (opening : Epoch × FloorWhy) (t : ℕ) (stamps : List Shown) (c : ContId) (upto : Epoch) (n : ℕ) (d : Durable)
    → AreDecided (transactions r.script h) → MayBePruned o c upto d → Sound r o held h served opening t d stamps → Sound r o held h served opening t (pruned c upto n d) stamps

-- and where a prune was cut, which left a part of what goes
abbrev pub PartsKeepSound : Type 0
PartsKeepSound =
    (r : Rules) (o : Opening) (held : List Version) (h : History) (served : List Served) (opening : Epoch × FloorWhy) (t : ℕ) (stamps : List Shown) (c : ContId) (upto : Epoch) (n : ℕ) (d x : Durable)
    → AreDecided (transactions r.script h) → MayBePruned o c upto d → IsPartly (Prunes c upto n) d x → Sound r o held h served opening t d stamps → Sound r o held h served opening t x stamps

-- each version that isn't settled lies above the opening's epochs
abbrev pub AreUnsettledAbove : Opening → Durable → Type 0
AreUnsettledAbove o d = (v : Version) → Contains d.versions v → v.done ≡ false → top o < v.epoch.0

-- a target may prune up to the limit that it finds, where that is due
abbrev pub LimitsAreClear : Type 0
LimitsAreClear =
    (r : Rules) (o : Opening) (held : List Version) (h : History) (t : ℕ) (c : ContId) (g : Epoch) (d : Durable) → VersionsStand r o held h t d → AreUnsettledAbove o d → is_enlisted d c ≡ true
    → top o ≤ g.0 → is_prune_due c g d ≡ true → MayBePruned o c (prune_limit c g d) d
