-- What a read costs, by the names of a path.
use Rattle.std.proofs.Common.{◌≡◌, ℕ, List, Some, ap, sym, ◌∙◌, subst}
use Rattle.base_types.specs.declared.path.Path.{Path}
use Rattle.vos_values.specs.declared.keys.ObjectKey.{ObjectKey}
use Rattle.vos_path.specs.Objects.{akey_path}
use Rattle.vos_reads.specs.Cost.{OfNames}

some_inside : {A : Type 0} (x y : A) → Some x ≡ Some y → x ≡ y
some_inside x y h = cc

pub of_names : (P : ObjectKey → List ℕ → List ℕ → Type 0) (p : Path) (o : ObjectKey) (k a : List ℕ) → p ≡ akey_path o k a → P o k a → OfNames p P
of_names P p o k a is s q l b also =
    let same : akey_path o k a ≡ akey_path q l b = sym is ∙ also in
    let cont = ap (λ (z : Path). z.cont) same in
    let obj = some_inside _ _ (ap (λ (z : Path). z.obj) same) in
    let dkey = some_inside _ _ (ap (λ (z : Path). z.dkey) same) in
    let akey = some_inside _ _ (ap (λ (z : Path). z.akey) same) in
    let object : o ≡ q = λ i. record { cont = cont i; obj = obj i } in
    subst (λ (z : ObjectKey). P z l b) object (subst (λ (z : List ℕ). P o z b) dkey (subst (λ (z : List ℕ). P o k z) akey s))
