-- The members of an object's groups, one group after another.
use Rattle.std.proofs.Common.{◌≡◌, ℕ, ◌+◌, ◌-◌, ◌<◌, Bool, false, ◌||◌, sym, ◌∙◌, ap}
use Rattle.std.specs.List.{list_any, range_with_len}
use Rattle.std.proofs.lemmas.List.Folds.{list_any-append}
use Rattle.base_types.specs.declared.id.ObjId.{ObjId}
use Rattle.base_types.specs.Placement.{groups_members, members}
use Rattle.dtx_base.specs.Members.{is_number}
use Rattle.dtx_table.specs.Ranges.{from_one}

-- a target that isn't a member of a group is one of the groups from it on where it is one of those after it
pub next_group : (o : ObjId) (group count n t : ℕ) (all : Bool) → group < count → list_any (is_number t) (members o group n) ≡ false
    → list_any (is_number t) (groups_members o (range_with_len group (count - group)) n) ≡ all
    → list_any (is_number t) (groups_members o (range_with_len (group + 1) (count - (group + 1))) n) ≡ all
next_group o group count n t all within none so_far =
    let rest = groups_members o (range_with_len (group + 1) (count - (group + 1))) n in
    sym (ap (λ b. b || list_any (is_number t) rest) none)
    ∙ sym (list_any-append (is_number t) (members o group n) rest)
    ∙ sym (ap (λ r. list_any (is_number t) (groups_members o r n)) (from_one group count within))
    ∙ so_far
