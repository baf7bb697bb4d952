-- Where the reads of an attempt are asked, and which cells a target holds.
use Rattle.std.specs.Prelude.{ℕ, zero, suc, ◌≡◌, ◌<◌, ◌+◌, ◌%◌, Bool, true, false, ◌&&◌, ◌||◌, is_none, is_some, List, [], Option, Some, None, refl}
use Rattle.std.specs.List.{list_any}
use Rattle.std.specs.Option.{option_eq}
use Rattle.std.proofs.Common.{sym, ◌∙◌, ap, subst, inl, inr, arith}
use Rattle.std.proofs.Math.Nat.{mod-lt}
use Rattle.base_types.specs.declared.id.Class.{Class}
use Rattle.base_types.specs.declared.id.Class.TheVariants.{S1, S2, S4, SX, RP2G1, RP2GX, RP3G1, RP3GX}
use Rattle.base_types.specs.declared.id.ObjId.{ObjId}
use Rattle.base_types.specs.declared.path.Path.{Path}
use Rattle.base_types.specs.Paths.{leads_to, overlaps, same_object}
use Rattle.base_types.specs.PathLaws.{same_object-Decides}
use Rattle.base_types.specs.Placement.{first_shard, group_of, members, object_members, path_members, replicas, shard_target, shard_targets}
use Rattle.daos_model.specs.declared.cell.Cell.{Cell}
use Rattle.daos_model.specs.Accesses.{asked_member}
use Rattle.daos_model.specs.BoolLaws.{and_left, and_right, both, clash}
use Rattle.model_laws.specs.Groups.{is_dkey_of_group, is_in_group}
use Rattle.model_laws.specs.Members.{Has, any-has, has-left}
use Rattle.model_laws.specs.ServeLaws.{akey_test, cont_test, dkey_test, obj_test}
use Rattle.model_laws.specs.TargetLaws.{number_same, same_number}
use Rattle.model_laws.specs.Targets.{is_own, is_target}

-- the target of a shard is among those of the shards from an earlier one on
shard-among : (number first count i targets : ℕ) → i < count → Has (shard_target number (first + i) targets) (shard_targets number first count targets)
shard-among number first zero i targets lt = absurd (omega (arith, lt))
shard-among number first (suc count) zero targets lt = inl (ap (λ n. shard_target number n targets) (omega arith))
shard-among number first (suc count) (suc i) targets lt =
    inr (subst (λ n. Has (shard_target number n targets) (shard_targets number (first + 1) count targets)) (omega arith) (shard-among number (first + 1) count i targets (omega (arith, lt))))

some-replicas : (c : Class) → 0 < replicas c
some-replicas S1 = omega arith
some-replicas S2 = omega arith
some-replicas S4 = omega arith
some-replicas SX = omega arith
some-replicas RP2G1 = omega arith
some-replicas RP2GX = omega arith
some-replicas RP3G1 = omega arith
some-replicas RP3GX = omega arith

-- the member that a command asks is one of the group's
pub asked-member : (o : ObjId) (command targets group : ℕ) → Has (asked_member o command targets group) (members o group targets)
unfolding members
asked-member o command targets group = shard-among o.number (first_shard o group) (replicas o.class) (command % replicas o.class) targets (mod-lt command (some-replicas o.class))

-- what a path leads to has its object
pub leads-object : (p q : Path) (o : ObjId) → p.obj ≡ Some o → leads_to p q ≡ true → q.obj ≡ Some o
unfolding leads_to
leads-object p q o e h =
    let here = and_right (cont_test p q) (obj_test p q) (and_left (cont_test p q && obj_test p q) (dkey_test p q) (and_left (cont_test p q && obj_test p q && dkey_test p q) (akey_test p q) h)) in
    by q.obj (sym (ap (λ x. is_none x || option_eq same_object x q.obj) e) ∙ here)
  where
    by : (x : Option ObjId) → option_eq same_object (Some o) x ≡ true → x ≡ Some o
    by None h = absurd (let n : ⊥ = cc in n)
    by (Some a) h = ap (λ x. Some x) (sym ((same_object-Decides o a).0 h))

-- and its container
leads-container : (p q : Path) → leads_to p q ≡ true → p.cont.0 ≡ q.cont.0
unfolding leads_to
leads-container p q h =
    number_same p.cont.0 q.cont.0 (and_left (cont_test p q) (obj_test p q) (and_left (cont_test p q && obj_test p q) (dkey_test p q) (and_left (cont_test p q && obj_test p q && dkey_test p q) (akey_test p q) h)))

pub overlaps-container : (p q : Path) → overlaps p q ≡ true → p.cont.0 ≡ q.cont.0
unfolding overlaps
overlaps-container p q h = by (leads_to p q) refl h
  where
    by : (b : Bool) → leads_to p q ≡ b → (b || leads_to q p) ≡ true → p.cont.0 ≡ q.cont.0
    by true e f = leads-container p q e
    by false e f = sym (leads-container q p f)

-- a cell of a group is a member's own
pub group-own : (o : ObjId) (targets group t : ℕ) (c : Cell) → c.path.obj ≡ Some o → is_in_group o.class targets group c ≡ true → Has t (members o group targets) → is_own targets t c ≡ true
unfolding path_members
group-own o targets group t c obj of i = by c.path.dkey refl
  where
    by : (x : Option (List ℕ)) → c.path.dkey ≡ x → is_own targets t c ≡ true
    by None dkey = clash (is_in_group o.class targets group c) of (ap (is_dkey_of_group o.class targets group) dkey)
    by (Some k) dkey =
        let same : group_of o.class k targets ≡ group = number_same (group_of o.class k targets) group (sym (ap (is_dkey_of_group o.class targets group) dkey) ∙ of) in
        let here : Has t (members o (group_of o.class k targets) targets) = subst (λ g. Has t (members o g targets)) (sym same) i in
        let there : Has t (path_members c.path targets) = subst (λ x. Has t (object_members x c.path.dkey targets)) (sym obj) (subst (λ y. Has t (object_members (Some o) y targets)) (sym dkey) (has-left (members o (group_of o.class k targets) targets) [] t here)) in
        both (is_some c.path.dkey) (list_any (is_target t) (path_members c.path targets)) (ap is_some dkey) (any-has (is_target t) (path_members c.path targets) t there (same_number t))
