-- The members of writes are targets that there are.
use Rattle.std.proofs.Common.{ℕ, ◌<◌, ◌≤◌, ◌-◌, List, [], ◌∷◌, All, Option, Some, None, arith}
use Rattle.std.specs.Prelude.{IfSome}
use Rattle.std.proofs.lemmas.List.Elements.{All-append, All-head, All-tail}
use Rattle.base_types.specs.declared.id.Class.{Class}
use Rattle.base_types.specs.declared.id.Class.TheVariants.{S1, S2, S4, SX, RP2G1, RP2GX, RP3G1, RP3GX}
use Rattle.base_types.specs.declared.id.ObjId.{ObjId}
use Rattle.base_types.specs.declared.operation.MinorWrite.{MinorWrite}
use Rattle.base_types.specs.declared.path.Path.{Path}
use Rattle.base_types.specs.Operations.{write_path}
use Rattle.base_types.specs.Placement.{ClassFits, dkey_groups, groups_members, members, object_members, path_members, targets_needed, writes_members}
use Rattle.base_types.specs.PlacementLaws.{members-within}

pub groups-within : (n : ℕ) (o : ObjId) (gs : List ℕ) → 0 < n → All (λ t. t < n) (groups_members o gs n)
groups-within n o [] some = λ k d lt. absurd (omega arith)
groups-within n o (g ∷ gs) some = All-append (λ t. t < n) (members o g n) (groups_members o gs n) (members-within o g n some) (groups-within n o gs some)

pub object-within : (n : ℕ) (o : Option ObjId) (k : Option (List ℕ)) → 0 < n → All (λ t. t < n) (object_members o k n)
object-within n None k some = λ i d lt. absurd (omega arith)
object-within n (Some o) k some = groups-within n o (dkey_groups o k n) some

needs-some : (c : Class) → 0 < targets_needed c
needs-some S1 = omega arith
needs-some S2 = omega arith
needs-some S4 = omega arith
needs-some SX = omega arith
needs-some RP2G1 = omega arith
needs-some RP2GX = omega arith
needs-some RP3G1 = omega arith
needs-some RP3GX = omega arith

fits-some : (c : Class) (n : ℕ) → ClassFits c n → 0 < n
fits-some c n fits = let some = needs-some c in omega (arith, some, fits)

below-all : (n most : ℕ) (ts : List ℕ) → n ≤ most → All (λ t. t < n) ts → All (λ t. t < most) ts
below-all n most ts le all = λ k d lt. let a = all k d lt in omega (arith, le, a)

object-few : (n : ℕ) (o : Option ObjId) (k : Option (List ℕ)) → n ≤ 64 → IfSome o (λ x. ClassFits x.class n) → All (λ t. t < 64) (object_members o k n)
object-few n None k few fits = λ i d lt. absurd (omega arith)
object-few n (Some o) k few fits = below-all n 64 (object_members (Some o) k n) few (object-within n (Some o) k (fits-some o.class n fits))

path-few : (n : ℕ) (p : Path) → n ≤ 64 → IfSome p.obj (λ o. ClassFits o.class n) → All (λ t. t < 64) (path_members p n)
unfolding path_members
path-few n p few fits = object-few n p.obj p.dkey few fits

-- members are below 64, where there are so few targets, which all classes fit
pub members-few : (n : ℕ) (ws : List MinorWrite) → n ≤ 64 → All (λ w. IfSome (write_path w.write).obj (λ o. ClassFits o.class n)) ws → All (λ t. t < 64) (writes_members ws n)
unfolding writes_members
members-few n [] few fit = λ i d lt. absurd (omega arith)
members-few n (w ∷ ws) few fit =
    All-append (λ t. t < 64) (path_members (write_path w.write) n) (writes_members ws n) (path-few n (write_path w.write) few (All-head (λ x. IfSome (write_path x.write).obj (λ o. ClassFits o.class n)) w ws fit))
    (members-few n ws few (All-tail (λ x. IfSome (write_path x.write).obj (λ o. ClassFits o.class n)) w ws fit))
