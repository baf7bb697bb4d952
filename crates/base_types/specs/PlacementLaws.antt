-- What holds of every placement.
use Rattle.std.specs.Prelude.{ℕ, zero, suc, ◌+◌, ◌*◌, ◌/◌, ◌%◌, ◌<◌, ◌≤◌, ◌≡◌, ◌≢◌, List, [], ◌∷◌, length, All, AllPairs, Contains, slice_index_or, Option, Some, None, refl}
use Rattle.std.specs.List.{range_with_len}
use Rattle.std.proofs.Common.{sym, ◌∙◌, ap, subst, arith, inl, inr}
use Rattle.std.proofs.Math.Nat.{mod-lt, mul-le-mul_right, div-mul-le_self}
use Rattle.std.proofs.lemmas.List.Elements.{Contains-append_left}
use Rattle.std.proofs.lemmas.Nat.{div-add-mod'}
use Rattle.std.proofs.lemmas.Bool.{cases_lt}
use Rattle.base_types.specs.declared.id.Class.{Class}
use Rattle.base_types.specs.declared.id.Class.TheVariants.{S1, S2, S4, SX, RP2G1, RP2GX, RP3G1, RP3GX}
use Rattle.base_types.specs.declared.id.ObjId.{ObjId}
use Rattle.base_types.specs.Hash.{fnv1a}
use Rattle.base_types.specs.declared.operation.MinorWrite.{MinorWrite}
use Rattle.base_types.specs.declared.path.Path.{Path}
use Rattle.base_types.specs.Operations.{write_path}
use Rattle.base_types.specs.Placement.{ClassFits, first_shard, groups_members, object_leader, object_members, path_leader, path_members, writes_leader, writes_members, group_of, groups, leader_of, members, replicas, shard_target, shard_targets}

-- two shards, fewer than all targets apart, are on different targets
shard_target-apart : (number i j n : ℕ) → i < j → j < n → shard_target number i n ≢ shard_target number j n
shard_target-apart number i j n lt within e =
    let a : (number + i) / n * n + (number + i) % n ≡ number + i = div-add-mod' (number + i) n in
    let b : (number + j) / n * n + (number + j) % n ≡ number + j = div-add-mod' (number + j) n in
    elim (cases_lt ((number + i) / n) ((number + j) / n)) [
      | inl less ↦
          (let more : ((number + i) / n + 1) * n ≤ (number + j) / n * n = mul-le-mul_right n (omega arith) in
          omega arith)
      | inr less ↦
          (let more : (number + j) / n * n ≤ (number + i) / n * n = mul-le-mul_right n less in
          omega arith)
    ]

length-shard_targets : (number shard count n : ℕ) → length (shard_targets number shard count n) ≡ count
length-shard_targets number shard zero n = refl
length-shard_targets number shard (suc count) n = ap suc (length-shard_targets number (shard + 1) count n)

shard_targets-at : (number shard count n k d : ℕ) → k < count → slice_index_or (shard_targets number shard count n) k d ≡ shard_target number (shard + k) n
shard_targets-at number shard zero n k d lt = absurd (omega arith)
shard_targets-at number shard (suc count) n zero d lt =
    let same : shard ≡ shard + 0 = omega arith in
    ap (λ s. shard_target number s n) same
shard_targets-at number shard (suc count) n (suc k) d lt =
    let same : shard + 1 + k ≡ shard + suc k = omega arith in
    shard_targets-at number (shard + 1) count n k d (omega arith) ∙ ap (λ s. shard_target number s n) same

-- each group has as many members as the class has replicas
pub length-members : (o : ObjId) (group n : ℕ) → length (members o group n) ≡ replicas o.class
unfolding members
length-members o group n = length-shard_targets o.number (first_shard o group) (replicas o.class) n

-- the members one by one
pub members-at : (o : ObjId) (group n k d : ℕ) → k < replicas o.class → slice_index_or (members o group n) k d ≡ shard_target o.number (first_shard o group + k) n
unfolding members
members-at o group n k d lt = shard_targets-at o.number (first_shard o group) (replicas o.class) n k d lt

replicas-positive : (class : Class) → 0 < replicas class
replicas-positive S1 = omega arith
replicas-positive S2 = omega arith
replicas-positive S4 = omega arith
replicas-positive SX = omega arith
replicas-positive RP2G1 = omega arith
replicas-positive RP2GX = omega arith
replicas-positive RP3G1 = omega arith
replicas-positive RP3GX = omega arith

-- where the class fits there is a group
pub groups-positive : (class : Class) (n : ℕ) → ClassFits class n → 0 < groups class n
groups-positive S1 n fits = omega arith
groups-positive S2 n fits = omega arith
groups-positive S4 n fits = omega arith
groups-positive SX n fits = omega arith
groups-positive RP2G1 n fits = omega arith
groups-positive RP2GX n fits = omega arith
groups-positive RP3G1 n fits = omega arith
groups-positive RP3GX n fits = omega arith

-- where the class fits all groups together have at most as many shards as there are targets
pub groups-fit : (class : Class) (n : ℕ) → ClassFits class n → groups class n * replicas class ≤ n
groups-fit S1 n fits = omega arith
groups-fit S2 n fits = omega arith
groups-fit S4 n fits = omega arith
groups-fit SX n fits = omega arith
groups-fit RP2G1 n fits = omega arith
groups-fit RP2GX n fits = div-mul-le_self n 2
groups-fit RP3G1 n fits = omega arith
groups-fit RP3GX n fits = div-mul-le_self n 3

-- a shard of a group is one of the object's shards, which are at most as many as the targets
shard-within : (o : ObjId) (group n k : ℕ) → ClassFits o.class n → group < groups o.class n → k < replicas o.class → first_shard o group + k < n
shard-within o group n k fits within lt =
    let room : groups o.class n * replicas o.class ≤ n = groups-fit o.class n fits in
    let more : (group + 1) * replicas o.class ≤ groups o.class n * replicas o.class = mul-le-mul_right (replicas o.class) (omega arith) in
    omega arith

-- the group of a dkey is one of the object's groups
pub group_of-within : (class : Class) (dkey : List ℕ) (n : ℕ) → ClassFits class n → group_of class dkey n < groups class n
unfolding group_of
group_of-within class dkey n fits = mod-lt (fnv1a dkey) (groups-positive class n fits)

-- members are targets
pub members-within : (o : ObjId) (group n : ℕ) → 0 < n → All (λ t. t < n) (members o group n)
members-within o group n some k d lt =
    let short : k < replicas o.class = subst (λ c. k < c) (length-members o group n) lt in
    subst (λ t. t < n) (sym (members-at o group n k d short)) (mod-lt (o.number + (first_shard o group + k)) some)

-- the members of a group are distinct
pub members-distinct : (o : ObjId) (group n : ℕ) → ClassFits o.class n → group < groups o.class n → AllPairs (λ t u. t ≢ u) (members o group n)
members-distinct o group n fits within i j d lt short e =
    let last : j < replicas o.class = subst (λ c. j < c) (length-members o group n) short in
    let first : i < replicas o.class = omega arith in
    shard_target-apart o.number (first_shard o group + i) (first_shard o group + j) n (omega arith) (shard-within o group n j fits within last)
    (sym (members-at o group n i d first) ∙ e ∙ members-at o group n j d last)

-- the leader is the first member
pub leader_of-first : (o : ObjId) (group n d : ℕ) → slice_index_or (members o group n) 0 d ≡ leader_of o group n
unfolding leader_of
leader_of-first o group n d =
    let same : first_shard o group + 0 ≡ first_shard o group = omega arith in
    members-at o group n 0 d (replicas-positive o.class) ∙ ap (λ s. shard_target o.number s n) same

-- the leader is a member
pub leader_of-member : (o : ObjId) (group n : ℕ) → Contains (members o group n) (leader_of o group n)
leader_of-member o group n =
    (0, subst (λ c. 0 < c) (sym (length-members o group n)) (replicas-positive o.class), leader_of-first o group n (leader_of o group n))

-- of two groups of an object the shards of the one stand before those of the other
groups-ordered : (o : ObjId) (g h n i j : ℕ) → ClassFits o.class n → g < h → h < groups o.class n → i < replicas o.class → j < replicas o.class
    → shard_target o.number (first_shard o g + i) n ≢ shard_target o.number (first_shard o h + j) n
groups-ordered o g h n i j fits less within first last =
    let before : (g + 1) * replicas o.class ≤ h * replicas o.class = mul-le-mul_right (replicas o.class) (omega arith) in
    shard_target-apart o.number (first_shard o g + i) (first_shard o h + j) n (omega arith) (shard-within o h n j fits within last)

-- a member, by its place in the group
member-place : (o : ObjId) (group n t : ℕ) → Contains (members o group n) t → (k : ℕ) × (k < replicas o.class) × (t ≡ shard_target o.number (first_shard o group + k) n)
member-place o group n t at =
    let short : at.0 < replicas o.class = subst (λ c. at.0 < c) (length-members o group n) at.1 in
    (at.0, short, sym at.2 ∙ members-at o group n at.0 t short)

-- two groups of an object have no member in common
pub members-disjoint : (o : ObjId) (g h n t : ℕ) → ClassFits o.class n → g < groups o.class n → h < groups o.class n → g ≢ h
    → Contains (members o g n) t → Contains (members o h n) t → ⊥
members-disjoint o g h n t fits first second apart in_g in_h =
    let a = member-place o g n t in_g in
    let b = member-place o h n t in_h in
    elim (cases_lt g h) [
      | inl less ↦ groups-ordered o g h n a.0 b.0 fits less second a.1 b.1 (sym a.2 ∙ b.2)
      | inr less ↦ groups-ordered o h g n b.0 a.0 fits (omega arith) first b.1 a.1 (sym b.2 ∙ a.2)
    ]

-- the groups of some numbers, of which the first is one
first-groups : (o : ObjId) (groups : List ℕ) (group n t : ℕ) → Contains (members o group n) t → Contains (groups_members o (group ∷ groups) n) t
first-groups o groups group n t at = Contains-append_left (members o group n) (groups_members o groups n) t at

object_leader-member : (o : ObjId) (dkey : Option (List ℕ)) (n : ℕ) → ClassFits o.class n → Contains (object_members (Some o) dkey n) (object_leader (Some o) dkey n)
object_leader-member o (Some k) n fits = first-groups o [] (group_of o.class k n) n (leader_of o (group_of o.class k n) n) (leader_of-member o (group_of o.class k n) n)
object_leader-member o None n fits = by (groups o.class n) (groups-positive o.class n fits)
  where
    by : (count : ℕ) → 0 < count → Contains (groups_members o (range_with_len 0 count) n) (leader_of o 0 n)
    by zero some = absurd (omega arith)
    by (suc count) some = first-groups o (range_with_len (0 + 1) count) 0 n (leader_of o 0 n) (leader_of-member o 0 n)

-- the leader of a path of an object is one of the path's members
pub path_leader-member : (p : Path) (o : ObjId) (n : ℕ) → p.obj ≡ Some o → ClassFits o.class n → Contains (path_members p n) (path_leader p n)
unfolding path_members path_leader
path_leader-member p o n at fits = rw at (object_leader-member o p.dkey n fits)

-- the leader of a transaction whose first write is of an object is one of its members
pub writes_leader-member : (w : MinorWrite) (ws : List MinorWrite) (o : ObjId) (n : ℕ) → (write_path w.write).obj ≡ Some o → ClassFits o.class n
    → Contains (writes_members (w ∷ ws) n) (writes_leader (w ∷ ws) n)
unfolding writes_members writes_leader
writes_leader-member w ws o n at fits =
    Contains-append_left (path_members (write_path w.write) n) (writes_members ws n) (path_leader (write_path w.write) n)
    (path_leader-member (write_path w.write) o n at fits)
