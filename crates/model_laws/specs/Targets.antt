-- What each target holds of the map, and what all targets stand for together.
use Rattle.std.specs.Prelude.{ℕ, ◌≡◌, ◌<◌, ◌==◌, Bool, true, false, ◌&&◌, is_some, All, List, [], length, Contains, slice_get, Some, None}
use Rattle.std.specs.List.{list_all, list_any}
use Rattle.base_types.specs.declared.id.ObjId.{ObjId}
use Rattle.base_types.specs.declared.operation.Write.{Write}
use Rattle.base_types.specs.declared.path.Path.{Path}
use Rattle.base_types.specs.Operations.{write_path}
use Rattle.base_types.specs.Placement.{ClassFits, groups, members, path_leader, path_members}
use Rattle.daos_model.specs.declared.cell.Cell.{Cell}
use Rattle.daos_model.specs.declared.cell.CellValue.{CellValue}
use Rattle.daos_model.specs.declared.durable.Durable.{Durable}
use Rattle.daos_model.specs.declared.durable.Version.{Version}
use Rattle.daos_model.specs.declared.stand.Stand.{Stand}
use Rattle.daos_model.specs.AsOf.{as_of}
use Rattle.daos_model.specs.Cells.{value_at}
use Rattle.daos_model.specs.Durables.{is_version_in_form}
use Rattle.daos_model.specs.Family.{Agree, AgreeOn, counts, family_map, map_where, stand}
use Rattle.daos_model.specs.Finals.{SameMap}
use Rattle.daos_model.specs.Forms.{ends_at_akey, is_write_in_form}
use Rattle.daos_model.specs.Prunes.{touches}
use Rattle.daos_model.specs.Versions.{version_path}
use Rattle.model_laws.specs.Dated.{AreSingleInOrder, map_of}
use Rattle.model_laws.specs.Decided.{AreDecided, Decided, taken_in}
use Rattle.model_laws.specs.Groups.{HasDkeys, IsPartUnder}
use Rattle.model_laws.specs.Matches.{GivesAsOf, Matches, counts_under}

abbrev pub is_target : ℕ → ℕ → Bool
is_target t u = u == t

-- a cell is a target's own where the target belongs to the group of its dkey
abbrev pub is_own : ℕ → ℕ → Cell → Bool
is_own targets t c = is_some c.path.dkey && list_any (is_target t) (path_members c.path targets)

-- every version is a write of a group that the target belongs to
abbrev pub ArePlaced : ℕ → ℕ → List Version → Type 0
ArePlaced targets t vs = (v : Version) → Contains vs v → Contains (path_members (version_path v) targets) t

-- A member of a group whose versions give the map as of an epoch at its own cells holds just its group's part of it, of
-- each object.
abbrev pub MembersHoldParts : Type 0
MembersHoldParts =
    (o : ObjId) (g targets t : ℕ) (p : Path) (q : Version → Bool) (vs : List Version) (opening : Stand) (all : List Decided) (e : ℕ) → ClassFits o.class targets
    → g < groups o.class targets → Contains (members o g targets) t → p.obj ≡ Some o → AreSingleInOrder vs → list_all is_version_in_form vs ≡ true → ArePlaced targets t vs
    → GivesAsOf (is_own targets t) q vs opening all e → IsPartUnder o.class targets p g (as_of opening (taken_in all) e) (map_of (counts_under q e) vs)

-- the map as of an epoch depends on which transactions are decided, and not on the order in which they are listed
abbrev pub AsOfIsOfTheSet : Type 0
AsOfIsOfTheSet =
    (opening : Stand) (ds fs : List Decided) (e : ℕ) → AreDecided ds → AreDecided fs → ((d : Decided) → Contains ds d → Contains fs d) → ((d : Decided) → Contains fs d → Contains ds d)
    → SameMap (as_of opening (taken_in ds) e) (as_of opening (taken_in fs) e)

-- each cell of a family's map is that of its leader
abbrev pub FamilyMapIsOfLeaders : Type 0
FamilyMapIsOfLeaders =
    (F : List Durable) (p : Version → Bool) (c : Cell) (d : Durable) → slice_get F (path_leader c.path (length F)) ≡ Some d → value_at (family_map p F) c ≡ value_at (map_where p d) c

-- Of a family whose replicas agree each target's versions match what it stands for, where no transaction is decided yet, from
-- any epoch on that is above all of its versions.
abbrev pub OpeningsMatch : Type 0
OpeningsMatch =
    (F : List Durable) (t : ℕ) (d : Durable) (mark : ℕ) → Agree F → slice_get F t ≡ Some d → ((v : Version) → Contains d.versions v → v.epoch.0 < mark)
    → Matches (is_own (length F) t) (counts F) d.versions (stand F) [] mark

-- no cell without a dkey holds anything: of what a family in form stands for, nor as of an epoch, where that holds of the opening
abbrev pub FamiliesHaveDkeys : Type 0
FamiliesHaveDkeys =
    (F : List Durable) (p : Version → Bool) → ((d : Durable) → Contains F d → list_all is_version_in_form d.versions ≡ true) → HasDkeys (family_map p F)

abbrev pub AsOfHasDkeys : Type 0
AsOfHasDkeys =
    (opening : Stand) (all : List Decided) (e : ℕ) → HasDkeys opening.now → ((d : Decided) → Contains all d → All (λ w. is_write_in_form w.write ≡ true) d.writes)
    → HasDkeys (as_of opening (taken_in all) e)

-- Where the members of each group agree, each target holds what the family does at its own cells: of what counts now, or below a
-- snapshot.
abbrev pub AgreeingTargetsHoldTheMap : Type 0
AgreeingTargetsHoldTheMap =
    (F : List Durable) (p : Version → Bool) (t : ℕ) (d : Durable) (c : Cell) → AgreeOn F p → slice_get F t ≡ Some d → is_own (length F) t c ≡ true
    → value_at (map_where p d) c ≡ value_at (family_map p F) c

-- a write that says what a target's own cell holds is one of the target's groups
abbrev pub OwnCellsAreWrittenHere : Type 0
OwnCellsAreWrittenHere =
    (targets t : ℕ) (c : Cell) (w : Write) (o : ObjId) → (write_path w).obj ≡ Some o → ClassFits o.class targets → is_own targets t c ≡ true → touches c w ≡ true
    → Contains (path_members (write_path w) targets) t

-- ---- what all targets stand for

-- every target's versions that count give the map as of an epoch at its own cells
abbrev pub AllGiveAsOf : List Durable → (Version → Bool) → Stand → List Decided → ℕ → Type 0
AllGiveAsOf F p opening all e = (t : ℕ) (d : Durable) → slice_get F t ≡ Some d → GivesAsOf (is_own (length F) t) p d.versions opening all e

-- so the family's map holds what the map as of it holds at each cell that is its leader's own, and replicas agree
abbrev pub FamiliesGiveAsOf : Type 0
FamiliesGiveAsOf =
    (F : List Durable) (p : Version → Bool) (opening : Stand) (all : List Decided) (e : ℕ) (c : Cell) → AllGiveAsOf F p opening all e
    → is_own (length F) (path_leader c.path (length F)) c ≡ true → 0 < length F
    → value_at (family_map (counts_under p e) F) c ≡ value_at (as_of opening (taken_in all) e) c

-- a map holds nothing at a cell whose path doesn't end at an akey
abbrev pub HasAkeys : List CellValue → Type 0
HasAkeys m = (c : Cell) → ends_at_akey c.path ≡ false → value_at m c ≡ None

-- so, of a family and of decided transactions whose writes are in form, the family's map is the map as of the epoch: no other cell
-- holds anything in either
abbrev pub FamiliesAreAsOf : Type 0
FamiliesAreAsOf =
    (F : List Durable) (p : Version → Bool) (opening : Stand) (all : List Decided) (e : ℕ) → 0 < length F → AllGiveAsOf F p opening all e
    → ((d : Durable) → Contains F d → list_all is_version_in_form d.versions ≡ true) → HasAkeys opening.now
    → ((d : Decided) → Contains all d → All (λ w. is_write_in_form w.write ≡ true) d.writes) → SameMap (family_map (counts_under p e) F) (as_of opening (taken_in all) e)

abbrev pub FamiliesAgree : Type 0
FamiliesAgree = (F : List Durable) (p : Version → Bool) (opening : Stand) (all : List Decided) (e : ℕ) → AllGiveAsOf F p opening all e → AgreeOn F (counts_under p e)
