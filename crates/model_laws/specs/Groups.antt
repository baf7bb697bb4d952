-- The parts of a map that the groups of an object hold, and the answers of several groups joined.
use Rattle.std.specs.Prelude.{ℕ, ◌≡◌, ◌<◌, ◌==◌, Bool, true, false, All, List, [], ◌∷◌, ◌++◌, map, filter, Option, Some, None, if◌then◌else◌}
use Rattle.std.specs.List.{range_with_len}
use Rattle.base_types.specs.declared.answer.Answer.{Answer}
use Rattle.base_types.specs.declared.answer.Answer.TheVariants.{Names, No}
use Rattle.base_types.specs.declared.id.Class.{Class}
use Rattle.base_types.specs.declared.operation.Read.{Read}
use Rattle.base_types.specs.declared.operation.Read.TheVariants as read
use Rattle.base_types.specs.declared.path.Path.{Path}
use Rattle.base_types.specs.Operations.{read_path}
use Rattle.base_types.specs.Paths.{leads_to}
use Rattle.base_types.specs.Placement.{ClassFits, group_of, groups}
use Rattle.daos_model.specs.declared.cell.Cell.{Cell}
use Rattle.daos_model.specs.declared.cell.CellValue.{CellValue}
use Rattle.daos_model.specs.Answers.{answer, in_byte_order}
use Rattle.base_types.specs.declared.operation.Write.{Write}
use Rattle.daos_model.specs.Cells.{value_at}
use Rattle.daos_model.specs.Effect.{effects}
use Rattle.daos_model.specs.Forms.{is_write_in_form}

-- ---- parts

abbrev pub is_dkey_of_group : Class → ℕ → ℕ → Option (List ℕ) → Bool
is_dkey_of_group class targets g None = false
is_dkey_of_group class targets g (Some k) = group_of class k targets == g

-- a cell belongs to a group where that is the group of its dkey
abbrev pub is_in_group : Class → ℕ → ℕ → Cell → Bool
is_in_group class targets g c = is_dkey_of_group class targets g c.path.dkey

abbrev pub is_value_in_group : Class → ℕ → ℕ → CellValue → Bool
is_value_in_group class targets g v = is_in_group class targets g v.cell

-- the part of a map that a group holds
abbrev pub group_part : Class → ℕ → ℕ → List CellValue → List CellValue
group_part class targets g m = filter (is_value_in_group class targets g) m

-- under a path a map holds what another one holds at the cells of a group, and nothing at the others
abbrev pub IsPartUnder : Class → ℕ → Path → ℕ → List CellValue → List CellValue → Type 0
IsPartUnder class targets p g m part = (c : Cell) → leads_to p c.path ≡ true → value_at part c ≡ (if is_in_group class targets g c then value_at m c else None)

-- one map for each group
abbrev pub ArePartsUnder : Class → ℕ → Path → List CellValue → (ℕ → List CellValue) → Type 0
ArePartsUnder class targets p m part = (g : ℕ) → g < groups class targets → IsPartUnder class targets p g m (part g)

-- a map holds nothing at a cell without a dkey
abbrev pub HasDkeys : List CellValue → Type 0
HasDkeys m = (c : Cell) → c.path.dkey ≡ None → value_at m c ≡ None

-- ---- answers of several groups

-- what a client makes of two answers to one question: all names, and yes where one is yes
abbrev pub join_two : Answer → Answer → Answer
join_two (Names ks) (Names ls) = Names (in_byte_order (ks ++ ls))
join_two No b = b
join_two a b = a

-- and of more, one after another
abbrev pub join_more : Answer → List Answer → Answer
join_more a [] = a
join_more a (b ∷ bs) = join_more (join_two a b) bs

abbrev pub join_all : List Answer → Answer
join_all [] = No
join_all (a ∷ as') = join_more a as'

-- the answers of all groups of an object, in the order of groups
abbrev pub answer_of_groups : Class → ℕ → Read → (ℕ → List CellValue) → Answer
answer_of_groups class targets r part = join_all (map (λ g. answer r (part g)) (range_with_len 0 (groups class targets)))

-- The names of an object's dkeys, and whether it has a cell, are the join of what its groups answer, each on its part. No cell is without
-- a dkey, which every write in form keeps.
abbrev pub DkeysAreJoined : Type 0
DkeysAreJoined =
    (class : Class) (targets : ℕ) (p : Path) (m : List CellValue) (part : ℕ → List CellValue) → ClassFits class targets → ArePartsUnder class targets p m part
    → answer (read.Dkeys p) m ≡ answer_of_groups class targets (read.Dkeys p) part

abbrev pub ExistsIsJoined : Type 0
ExistsIsJoined =
    (class : Class) (targets : ℕ) (p : Path) (m : List CellValue) (part : ℕ → List CellValue) → ClassFits class targets → HasDkeys m → ArePartsUnder class targets p m part
    → answer (read.Exists p) m ≡ answer_of_groups class targets (read.Exists p) part

-- a read of a dkey, or below it, is answered on the part of that dkey's group alone
abbrev pub DkeysHaveOneGroup : Type 0
DkeysHaveOneGroup =
    (class : Class) (targets : ℕ) (r : Read) (k : List ℕ) (m part : List CellValue) → (read_path r).dkey ≡ Some k
    → IsPartUnder class targets (read_path r) (group_of class k targets) m part → answer r m ≡ answer r part

-- the cells of a group are such a part
abbrev pub GroupPartsAreParts : Type 0
GroupPartsAreParts = (class : Class) (targets : ℕ) (p : Path) (g : ℕ) (m : List CellValue) → IsPartUnder class targets p g m (group_part class targets g m)

-- writes in form leave no cell without a dkey
abbrev pub WritesKeepDkeys : Type 0
WritesKeepDkeys = (ws : List Write) (m : List CellValue) → All (λ w. is_write_in_form w ≡ true) ws → HasDkeys m → HasDkeys (effects ws m)
