-- What a prune leaves as it is.
use Rattle.std.specs.Prelude.{ℕ, ◌≡◌, ◌≢◌, ◌+◌, ◌<◌, ◌≤◌, ◌⊎◌, Bool, true, List, [], ◌∷◌, Contains}
use Rattle.base_types.specs.declared.epoch.Epoch.{Epoch}
use Rattle.base_types.specs.declared.id.ContId.{ContId}
use Rattle.base_types.specs.declared.operation.Read.{Read}
use Rattle.base_types.specs.declared.snapshot.Snap.{Snap}
use Rattle.daos_model.specs.declared.cell.Cell.{Cell}
use Rattle.daos_model.specs.declared.durable.Durable.{Durable}
use Rattle.daos_model.specs.declared.durable.Version.{Version}
use Rattle.daos_model.specs.declared.stand.SnapMap.{SnapMap}
use Rattle.daos_model.specs.declared.stand.Stand.{Stand}
use Rattle.daos_model.specs.Answers.{answer}
use Rattle.daos_model.specs.Changes.{pruned}
use Rattle.daos_model.specs.Durables.{is_frozen}
use Rattle.daos_model.specs.Family.{created_snaps, stand}
use Rattle.daos_model.specs.Finals.{SameMap}
use Rattle.daos_model.specs.Prunes.{Partly, is_going}
use Rattle.daos_model.specs.Versions.{map_below}
use Rattle.model_laws.specs.Dated.{AreSingleInOrder, map_of}
use Rattle.model_laws.specs.Decided.{AreDecided, Decided}
use Rattle.model_laws.specs.Matches.{GivesAsOf, Matches, counts_under}

-- A whole prune leaves what a cut one may. So what follows is said of both.
abbrev pub PrunesAreWhole : Type 0
PrunesAreWhole = (c : ContId) (upto : Epoch) (n : ℕ) (d : Durable) → Partly d.versions (is_going c upto d.versions d.snaps) (pruned c upto n d).versions

-- what a prune leaves stands in order again
abbrev pub PrunesKeepOrder : Type 0
PrunesKeepOrder = (vs ws : List Version) (going : Version → Bool) → AreSingleInOrder vs → Partly vs going ws → AreSingleInOrder ws

-- done versions count
abbrev pub DoneCount : (Version → Bool) → Type 0
DoneCount p = (v : Version) → v.done ≡ true → p v ≡ true

-- a snapshot of the container, frozen or created, lies at an epoch
abbrev pub HasSnapAt : ContId → List Snap → ℕ → Type 0
HasSnapAt c snaps e = (s : Snap) × Contains snaps s × (s.cont.0 ≡ c.0) × (s.epoch.0 ≡ e)

-- an epoch at which a prune leaves all as it is: one above it, or that of a snapshot of the container
abbrev pub IsSight : ContId → Epoch → List Snap → ℕ → Type 0
IsSight c upto snaps e = (upto.0 < e) ⊎ HasSnapAt c snaps e

-- a prune changes nothing below such an epoch
abbrev pub PrunesKeepSights : Type 0
PrunesKeepSights =
    (c : ContId) (upto : Epoch) (snaps : List Snap) (p : Version → Bool) (vs ws : List Version) (e : ℕ) → AreSingleInOrder vs → DoneCount p
    → Partly vs (is_going c upto vs snaps) ws → IsSight c upto snaps e → SameMap (map_of (counts_under p e) ws) (map_of (counts_under p e) vs)

-- nor of the map now
abbrev pub PrunesKeepNow : Type 0
PrunesKeepNow =
    (c : ContId) (upto : Epoch) (snaps : List Snap) (p : Version → Bool) (vs ws : List Version) → AreSingleInOrder vs → DoneCount p
    → Partly vs (is_going c upto vs snaps) ws → SameMap (map_of p ws) (map_of p vs)

-- so every read there is answered as before
abbrev pub PrunesKeepAnswers : Type 0
PrunesKeepAnswers =
    (c : ContId) (upto : Epoch) (snaps : List Snap) (vs ws : List Version) (r : Read) (e : ℕ) → AreSingleInOrder vs
    → Partly vs (is_going c upto vs snaps) ws → IsSight c upto snaps e → answer r (map_below ws e) ≡ answer r (map_below vs e)

-- a prune changes nothing at cells of other containers, below whatever epoch
abbrev pub PrunesKeepOthers : Type 0
PrunesKeepOthers =
    (c : ContId) (upto : Epoch) (snaps : List Snap) (own : Cell → Bool) (p : Version → Bool) (vs ws : List Version) (opening : Stand) (all : List Decided) (mark : ℕ) → AreSingleInOrder vs
    → Partly vs (is_going c upto vs snaps) ws → ((k : Cell) → own k ≡ true → k.path.cont.0 ≢ c.0) → Matches own p vs opening all mark → Matches own p ws opening all mark

-- a prune leaves a target's versions such that they match from the epoch after it on
abbrev pub PrunesKeepMatches : Type 0
PrunesKeepMatches =
    (c : ContId) (upto : Epoch) (snaps : List Snap) (own : Cell → Bool) (p : Version → Bool) (vs ws : List Version) (opening : Stand) (all : List Decided) (mark : ℕ) → AreSingleInOrder vs
    → AreDecided all → DoneCount p → Partly vs (is_going c upto vs snaps) ws → mark ≤ upto.0 + 1
    → Matches own p vs opening all mark → Matches own p ws opening all (upto.0 + 1)

-- and what is given as of such an epoch stays given
abbrev pub PrunesKeepWhatIsGiven : Type 0
PrunesKeepWhatIsGiven =
    (c : ContId) (upto : Epoch) (snaps : List Snap) (own : Cell → Bool) (p : Version → Bool) (vs ws : List Version) (opening : Stand) (all : List Decided) (e : ℕ) → AreSingleInOrder vs
    → DoneCount p → Partly vs (is_going c upto vs snaps) ws → IsSight c upto snaps e → GivesAsOf own p vs opening all e → GivesAsOf own p ws opening all e

-- ---- all targets

-- what a target keeps is pruned, whole or cut, or stays; its entries and snapshots stay
pub record IsPruned (c : ContId) (upto : Epoch) (d f : Durable) : Type 0 where
  pub versions : Partly d.versions (is_going c upto d.versions d.snaps) f.versions
  pub entries : f.entries ≡ d.entries
  pub snaps : f.snaps ≡ d.snaps

abbrev pub ArePruned : ContId → Epoch → List Durable → List Durable → Type 0
ArePruned c upto [] [] = Unit {0}
ArePruned c upto [] (f ∷ G) = ⊥
ArePruned c upto (d ∷ F) [] = ⊥
ArePruned c upto (d ∷ F) (f ∷ G) = IsPruned c upto d f × ArePruned c upto F G

-- two snapshots hold the same
pub record SameSnap (a b : SnapMap) : Type 0 where
  pub cont : a.cont ≡ b.cont
  pub epoch : a.epoch ≡ b.epoch
  pub map : SameMap a.map b.map

abbrev pub SameSnaps : List SnapMap → List SnapMap → Type 0
SameSnaps [] [] = Unit {0}
SameSnaps [] (b ∷ bs) = ⊥
SameSnaps (a ∷ as') [] = ⊥
SameSnaps (a ∷ as') (b ∷ bs) = SameSnap a b × SameSnaps as' bs

pub record SameStand (a b : Stand) : Type 0 where
  pub now : SameMap a.now b.now
  pub snaps : SameSnaps a.snaps b.snaps

-- versions in order, and all created snapshots frozen
pub record IsReady (snaps : List Snap) (d : Durable) : Type 0 where
  pub form : AreSingleInOrder d.versions
  pub frozen : (s : Snap) → Contains snaps s → is_frozen d s.cont s.epoch ≡ true

-- prunes of a container, wherever they were made or cut, leave what all targets stand for
abbrev pub PrunesKeepStand : Type 0
PrunesKeepStand = (c : ContId) (upto : Epoch) (F G : List Durable) → ((d : Durable) → Contains F d → IsReady (created_snaps F) d) → ArePruned c upto F G → SameStand (stand G) (stand F)
