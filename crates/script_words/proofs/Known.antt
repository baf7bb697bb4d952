-- What a name stands for was declared by that name.
use Rattle.std.proofs.Common.{◌≡◌, ℕ, ◌+◌, true, false, Bool, cond, is_none, List, [], ◌∷◌, ◌++◌, map, Option, Some, None, refl, sym, ap, subst, ◌∙◌, All, Any, arith, add-one}
use Rattle.std.specs.Prelude.{IfSome}
use Rattle.std.specs.Str.{bytes_eq}
use Rattle.std.proofs.lemmas.List.{map-append}
use Rattle.std.proofs.lemmas.Slice.Eq.{bytes_eq-Decides}
use Rattle.std.proofs.lemmas.List.Elements.{All-get_or, All-push}
use Rattle.base_types.specs.declared.id.ContId.{ContId}
use Rattle.base_types.specs.declared.id.ObjId.{ObjId}
use Rattle.base_types.specs.declared.script.ContDecl.{ContDecl}
use Rattle.base_types.specs.declared.script.ObjDecl.{ObjDecl}
use Rattle.base_types.specs.declared.script.OldDecl.{OldDecl}
use Rattle.base_types.specs.Paths.{unit_of}
use Rattle.base_types.specs.Scripts.{IsContOf, IsUnit}
use Rattle.base_names.specs.Names.{named}
use Rattle.script_words.specs.Lookups.{AreNamedObjs, HasUnit, IsObj, name_of_cont, name_of_obj, name_of_old, cont_named, obj_named, old_named}

pub any_later : {A : Type 0} (P : A → Type 0) (x : A) (xs : List A) → Any P xs → Any P (x ∷ xs)
any_later P x xs (k, y, lt, is, p) = (k + 1, y, omega arith, rw add-one is, p)

any_map : {A : Type 0} (P Q : A → Type 0) (xs : List A) → ((x : A) → P x → Q x) → Any P xs → Any Q xs
any_map P Q xs f (k, x, lt, is, p) = (k, x, lt, is, f x p)

module _ {A V : Type 0} (f : A → List ℕ × V) (name : List ℕ) where
  -- a name that stands for something
  named_any : (xs : List A) (v : V) → named (map f xs) name ≡ Some v → Any (λ x. f x ≡ (name, v)) xs
  unfolding named
  named_any [] v e = absurd cc
  named_any (x ∷ xs) v e = go (bytes_eq name (f x).0) refl e (λ e. named_any xs v e)
    where
      go : (b : Bool) → bytes_eq name (f x).0 ≡ b → cond b (Some (f x).1) (named (map f xs) name) ≡ Some v → (named (map f xs) name ≡ Some v → Any (λ x. f x ≡ (name, v)) xs) → Any (λ x. f x ≡ (name, v)) (x ∷ xs)
      go true h e ih =
          let value : (f x).1 ≡ v = cc in
          let same : name ≡ (f x).0 = (bytes_eq-Decides name (f x).0).0 h in
          (0, x, omega arith, refl, ap (λ n. (n, (f x).1)) (sym same) ∙ ap (λ w. (name, w)) value)
      go false h e ih = any_later (λ x. f x ≡ (name, v)) x xs (ih e)

pub entry_named : {V : Type 0} (xs : List (List ℕ × V)) (name : List ℕ) (v : V) → named xs name ≡ Some v → Any (λ x. x ≡ (name, v)) xs
entry_named xs name v e = named_any (λ x. x) name xs v (ap (λ ys. named ys name) (map_same xs) ∙ e)
  where
    map_same : {A : Type 0} (xs : List A) → map (λ x. x) xs ≡ xs
    map_same [] = refl
    map_same (x ∷ xs) = ap (λ ys. x ∷ ys) (map_same xs)

pub cont_is_known : (conts : List ContDecl) (name : List ℕ) (id : ContId) → cont_named conts name ≡ Some id → IsContOf conts id
unfolding cont_named
cont_is_known conts name id e =
    any_map (λ d. name_of_cont d ≡ (name, id)) (λ d. d.id ≡ id) conts (λ d same. ap (λ (p : List ℕ × ContId). p.1) same) (named_any name_of_cont name conts id e)

pub obj_is_known : (objs : List ObjDecl) (name : List ℕ) (o : ContId × ObjId) → obj_named objs name ≡ Some o → IsObj objs o
unfolding obj_named
obj_is_known objs name o e =
    any_map (λ d. name_of_obj d ≡ (name, o)) (λ d. (Some d.id ≡ Some o.1) × (d.cont ≡ o.0)) objs
    (λ d same. (ap (λ (p : List ℕ × (ContId × ObjId)). Some p.1.1) same, ap (λ (p : List ℕ × (ContId × ObjId)). p.1.0) same)) (named_any name_of_obj name objs o e)

-- a declared object has a record size
pub unit_is_known : (objs : List ObjDecl) (o : ContId × ObjId) → All HasUnit objs → IsObj objs o → IsUnit o.1.unit
unit_is_known objs o h (k, d, lt, is, same) = subst IsUnit (ap unit_of same.0) (subst HasUnit is (All-get_or HasUnit objs k d lt h))

-- one object more
pub named_push : (decls : List ObjDecl) (names : List (List ℕ × (ContId × ObjId))) (d : ObjDecl) → AreNamedObjs decls names → IsUnit d.id.unit → AreNamedObjs (decls ++ d ∷ []) (names ++ name_of_obj d ∷ [])
named_push decls names d h unit = record {
  named = ap (λ ns. ns ++ name_of_obj d ∷ []) h.named ∙ sym (map-append name_of_obj decls (d ∷ []));
  units = All-push HasUnit decls d h.units unit;
}

-- what is found by a name
module _ (objs : List ObjDecl) (name : List ℕ) (h : All HasUnit objs) where
  pub found_known : (o : Option (ContId × ObjId)) → o ≡ obj_named objs name → IfSome o (IsObj objs)
  found_known None e = tt
  found_known (Some o) e = obj_is_known objs name o (sym e)

  pub found_unit : (o : Option (ContId × ObjId)) → o ≡ obj_named objs name → IfSome o (λ p. IsUnit p.1.unit)
  found_unit None e = tt
  found_unit (Some o) e = unit_is_known objs o h (obj_is_known objs name o (sym e))

pub old_is_known : (olds : List OldDecl) (name : List ℕ) (cont : ContId) → old_named olds name ≡ Some cont → Any (λ x. x ≡ (name, cont)) (map name_of_old olds)
unfolding old_named
old_is_known olds name cont e = entry_named (map name_of_old olds) name cont e

-- a snapshot of an earlier run has the name that is found
pub old_is_named : (olds : List OldDecl) (name : List ℕ) → is_none (old_named olds name) ≡ false → Any (λ d. d.name ≡ name) olds
unfolding old_named
old_is_named olds name e = go (named (map name_of_old olds) name) refl e
  where
    go : (o : Option ContId) → named (map name_of_old olds) name ≡ o → is_none o ≡ false → Any (λ d. d.name ≡ name) olds
    go None r e = absurd cc
    go (Some cont) r e = any_map (λ d. name_of_old d ≡ (name, cont)) (λ d. d.name ≡ name) olds (λ d same. ap (λ (p : List ℕ × ContId). p.0) same) (named_any name_of_old name olds cont r)
