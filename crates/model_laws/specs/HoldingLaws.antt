-- What a target holds of a transaction's writes: blocks, and that it is a target.
use Rattle.std.specs.Prelude.{ℕ, ◌+◌, ◌≡◌, ◌⊎◌, ◌≤◌, ◌<◌, ◌==◌, Bool, true, false, List, [], ◌∷◌, ◌++◌, Option, Some, None, refl, if◌then◌else◌}
use Rattle.std.specs.List.{list_any}
use Rattle.std.proofs.Common.{subst, arith, inl, inr}
use Rattle.base_types.specs.declared.id.ObjId.{ObjId}
use Rattle.base_types.specs.declared.operation.MinorWrite.{MinorWrite}
use Rattle.base_types.specs.declared.path.Path.{Path}
use Rattle.base_types.specs.Operations.{write_path}
use Rattle.base_types.specs.Placement.{dkey_groups, groups_members, members, object_members, path_members}
use Rattle.base_types.specs.PlacementLaws.{members-within}
use Rattle.model_laws.specs.Members.{Has, contains-from_has, has-any, has-cases}
use Rattle.model_laws.specs.TargetLaws.{number_same}
use Rattle.daos_model.specs.Blocks.{blocks, sum_of_blocks, write_blocks}
use Rattle.daos_model.specs.CausesShown.{blocks_of_some, writes_at}

-- ---- blocks

-- some of the writes take no more than all
pub some-blocks : (targets t : ℕ) (ws : List MinorWrite) → sum_of_blocks (writes_at targets t ws) ≤ sum_of_blocks ws
some-blocks targets t [] = omega arith
some-blocks targets t (w ∷ ws) = by (list_any (λ m. m == t) (path_members (write_path w.write) targets)) (some-blocks targets t ws)
  where
    by : (b : Bool) → sum_of_blocks (writes_at targets t ws) ≤ sum_of_blocks ws → sum_of_blocks ((if b then w ∷ [] else []) ++ writes_at targets t ws) ≤ write_blocks w.write + sum_of_blocks ws
    by true k = omega (arith, k)
    by false k = omega (arith, k)

-- those of an entry with some of the writes
pub held-blocks : (targets t : ℕ) (ws : List MinorWrite) → blocks_of_some (writes_at targets t ws) ≤ blocks_of_some ws
unfolding blocks
held-blocks targets t [] = omega arith
held-blocks targets t (w ∷ ws) = by (writes_at targets t (w ∷ ws)) (some-blocks targets t (w ∷ ws))
  where
    by : (held : List MinorWrite) → sum_of_blocks held ≤ sum_of_blocks (w ∷ ws) → blocks_of_some held ≤ 2 + sum_of_blocks (w ∷ ws)
    by [] k = omega arith
    by (x ∷ xs) k = let m : sum_of_blocks (x ∷ xs) ≤ sum_of_blocks (w ∷ ws) = k in omega (arith, m)

-- ---- the members of a path are targets

group-within : (o : ObjId) (gs : List ℕ) (n t : ℕ) → 0 < n → Has t (groups_members o gs n) → t < n
group-within o [] n t some i = absurd i
group-within o (g ∷ gs) n t some i = by (λ j. group-within o gs n t some j) (has-cases (members o g n) (groups_members o gs n) t i)
  where
    by : (Has t (groups_members o gs n) → t < n) → Has t (members o g n) ⊎ Has t (groups_members o gs n) → t < n
    by rest (inl j) = let c = contains-from_has (members o g n) t j in subst (λ u. u < n) c.2 (members-within o g n some c.0 t c.1)
    by rest (inr j) = rest j

pub path-within : (p : Path) (n t : ℕ) → 0 < n → Has t (path_members p n) → t < n
unfolding path_members
path-within p n t some i = by p.obj refl i
  where
    by : (o : Option ObjId) → p.obj ≡ o → Has t (object_members o p.dkey n) → t < n
    by None e j = absurd j
    by (Some o) e j = group-within o (dkey_groups o p.dkey n) n t some j

-- who holds a write is a target
pub holder-within : (n t : ℕ) (ws : List MinorWrite) → 0 < n → 0 < blocks_of_some (writes_at n t ws) → t < n
holder-within n t [] some more = absurd (let no : 0 < 0 = more in omega (arith, no))
holder-within n t (w ∷ ws) some more = by (λ k. holder-within n t ws some k) (list_any (λ m. m == t) (path_members (write_path w.write) n)) refl more
  where
    by : (0 < blocks_of_some (writes_at n t ws) → t < n) → (b : Bool) → list_any (λ m. m == t) (path_members (write_path w.write) n) ≡ b → 0 < blocks_of_some ((if b then w ∷ [] else []) ++ writes_at n t ws) → t < n
    by rest true e k =
        let z = has-any (λ m. m == t) (path_members (write_path w.write) n) e in
        path-within (write_path w.write) n t some (subst (λ u. Has u (path_members (write_path w.write) n)) (number_same z.0 t z.2) z.1)
    by rest false e k = rest k
