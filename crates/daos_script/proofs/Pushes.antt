-- Lists with one item more: names that stay distinct, commands, and what they make and count.
use Rattle.std.proofs.Common.{◌≡◌, ℕ, ◌+◌, Bool, true, false, cond, eqb, ◌&&◌, List, [], ◌∷◌, ◌++◌, map, Some, None, refl, sym, ap, subst, ◌∙◌, arith, Any, nat_eq, add-one, append_assoc, append-nil, count_by}
use Rattle.std.specs.List.{list_any, AllByRecursion, IsDistinct}
use Rattle.std.specs.Str.{bytes_eq}
use Rattle.std.proofs.lemmas.Bool.{or_parts}
use Rattle.std.proofs.lemmas.List.{get_or_append_left, length-append, map-append}
use Rattle.std.proofs.lemmas.Slice.Eq.{bytes_eq-Decides}
use Rattle.base_types.specs.Keys.{same_key}
use Rattle.base_types.specs.Paths.{same_object}
use Rattle.base_types.specs.Scripts.{AreCommands, SnapName, all_snaps, cont_name, cont_number, count_numbered, is_numbered, obj_name, old_snap, same_declared, snap_of, snaps_of}
use Rattle.base_types.specs.declared.id.ContId.{ContId}
use Rattle.base_types.specs.declared.script.Command.{Command}
use Rattle.base_types.specs.declared.script.ContDecl.{ContDecl}
use Rattle.base_types.specs.declared.script.ObjDecl.{ObjDecl}
use Rattle.base_types.specs.declared.script.OldDecl.{OldDecl}
use Rattle.base_names.specs.Names.{named}
use Rattle.script_words.specs.Lookups.{name_of_cont, name_of_obj, name_of_old, cont_named, obj_named, old_named, has_cont, has_obj}
use Rattle.daos_script.specs.SoFar.{snap_name}

-- ---- lists

pub all_push : {A : Type 0} (P : A → Type 0) (xs : List A) (y : A) → AllByRecursion P xs → P y → AllByRecursion P (xs ++ y ∷ [])
all_push P [] y h p = (p, tt)
all_push P (x ∷ xs) y h p = (h.0, all_push P xs y h.1 p)

pub all_append : {A : Type 0} (P : A → Type 0) (xs ys : List A) → AllByRecursion P xs → AllByRecursion P ys → AllByRecursion P (xs ++ ys)
all_append P [] ys h k = k
all_append P (x ∷ xs) ys h k = (h.0, all_append P xs ys h.1 k)

pub IsDistinct-push : {A : Type 0} (same : A → A → Bool) (xs : List A) (y : A) → IsDistinct same xs → AllByRecursion (λ x. same x y ≡ false) xs → IsDistinct same (xs ++ y ∷ [])
unfolding IsDistinct
IsDistinct-push same [] y h k = (tt, tt)
IsDistinct-push same (x ∷ xs) y h k = (all_push (λ z. same x z ≡ false) xs y h.0 k.0, IsDistinct-push same xs y h.1 k.1)

pub pushed : {A B : Type 0} (f : A → B) (xs : List A) (y : A) (P : List B → Type 0) → P (map f xs ++ f y ∷ []) → P (map f (xs ++ y ∷ []))
pushed f xs y P h = subst P (sym (map-append f xs (y ∷ []))) h

pub any_more : {A : Type 0} (P : A → Type 0) (xs ys : List A) → Any P xs → Any P (xs ++ ys)
any_more P xs ys (k, x, lt, is, p) = (k, x, omega (arith, length-append xs ys), get_or_append_left xs ys x k lt ∙ is, p)

pub any_after : {A : Type 0} (P : A → Type 0) (xs ys : List A) → Any P ys → Any P (xs ++ ys)
any_after P [] ys h = h
any_after P (x ∷ xs) ys h = later (any_after P xs ys h)
  where
    later : Any P (xs ++ ys) → Any P (x ∷ xs ++ ys)
    later (k, y, lt, is, p) = (k + 1, y, omega arith, rw add-one is, p)

-- ---- names

flips : (v w : List ℕ) → bytes_eq v w ≡ false → bytes_eq w v ≡ false
flips v w e = go (bytes_eq w v) refl
  where
    go : (b : Bool) → bytes_eq w v ≡ b → bytes_eq w v ≡ false
    go true h = let again : bytes_eq v w ≡ true = (bytes_eq-Decides v w).1 (sym ((bytes_eq-Decides w v).0 h)) in absurd (cc (e, again))
    go false h = h

module _ {A V : Type 0} (f : A → List ℕ × V) (name : List ℕ) where
  -- a name that stands for nothing
  named_new : (xs : List A) → named (map f xs) name ≡ None → AllByRecursion (λ n. same_key n name ≡ false) (map (λ x. (f x).0) xs)
  unfolding named
  named_new [] e = tt
  named_new (x ∷ xs) e = go (bytes_eq name (f x).0) refl e (λ e. named_new xs e)
    where
      go : (b : Bool) → bytes_eq name (f x).0 ≡ b → cond b (Some (f x).1) (named (map f xs) name) ≡ None → (named (map f xs) name ≡ None → AllByRecursion (λ n. same_key n name ≡ false) (map (λ x. (f x).0) xs))
          → (same_key (f x).0 name ≡ false) × AllByRecursion (λ n. same_key n name ≡ false) (map (λ x. (f x).0) xs)
      go true h e ih = absurd cc
      go false h e ih = (flips name (f x).0 h, ih e)

pub entry_new : (xs : List SnapName) (name : List ℕ) → named xs name ≡ None → AllByRecursion (λ n. same_key n name ≡ false) (map snap_name xs)
entry_new xs name e = named_new (λ x. x) name xs (ap (λ ys. named ys name) (map_same xs) ∙ e)
  where
    map_same : {A : Type 0} (xs : List A) → map (λ x. x) xs ≡ xs
    map_same [] = refl
    map_same (x ∷ xs) = ap (λ ys. x ∷ ys) (map_same xs)

pub cont_is_new : (conts : List ContDecl) (name : List ℕ) → cont_named conts name ≡ None → AllByRecursion (λ n. same_key n name ≡ false) (map cont_name conts)
unfolding cont_named
cont_is_new conts name e = named_new name_of_cont name conts e

pub obj_is_new : (objs : List ObjDecl) (name : List ℕ) → obj_named objs name ≡ None → AllByRecursion (λ n. same_key n name ≡ false) (map obj_name objs)
unfolding obj_named
obj_is_new objs name e = named_new name_of_obj name objs e

old_names : (olds : List OldDecl) → map snap_name (map old_snap olds) ≡ map (λ d. (name_of_old d).0) olds
old_names [] = refl
old_names (d ∷ ds) = ap (λ ns. d.name ∷ ns) (old_names ds)

pub old_is_new : (olds : List OldDecl) (name : List ℕ) → old_named olds name ≡ None → AllByRecursion (λ n. same_key n name ≡ false) (map snap_name (map old_snap olds))
unfolding old_named
old_is_new olds name e = subst (AllByRecursion (λ n. same_key n name ≡ false)) (sym (old_names olds)) (named_new name_of_old name olds e)

-- none of a list passes a test
pub none_found : {A : Type 0} (p : A → Bool) (xs : List A) → list_any p xs ≡ false → AllByRecursion (λ x. p x ≡ false) xs
none_found p [] e = tt
none_found p (x ∷ xs) e = let parts = or_parts (p x) (list_any p xs) e in (parts.0, none_found p xs parts.1)

pub id_is_new : (conts : List ContDecl) (id : ContId) → has_cont conts id ≡ false → AllByRecursion (λ n. nat_eq n id.0 ≡ false) (map cont_number conts)
unfolding has_cont
id_is_new [] id e = tt
id_is_new (c ∷ cs) id e = let p = or_parts (eqb c.id.0 id.0) (list_any (λ d. eqb d.id.0 id.0) cs) e in (p.0, id_is_new cs id p.1)

pub object_is_new : (objs : List ObjDecl) (d : ObjDecl) → has_obj objs d.cont d.id ≡ false → AllByRecursion (λ o. same_declared o d ≡ false) objs
unfolding has_obj
object_is_new [] d e = tt
object_is_new (o ∷ os) d e =
    let p = or_parts (eqb o.cont.0 d.cont.0 && same_object o.id d.id) (list_any (λ x. eqb x.cont.0 d.cont.0 && same_object x.id d.id) os) e in (p.0, object_is_new os d p.1)

-- ---- commands

pub snaps_of-append : (xs ys : List Command) → snaps_of (xs ++ ys) ≡ snaps_of xs ++ snaps_of ys
snaps_of-append [] ys = refl
snaps_of-append (x ∷ xs) ys = ap (λ s. snap_of x ++ s) (snaps_of-append xs ys) ∙ sym (append_assoc (snap_of x) (snaps_of xs) (snaps_of ys))

pub all_snaps-push : (lists : List (List Command)) (list : List Command) → all_snaps (lists ++ list ∷ []) ≡ all_snaps lists ++ snaps_of list
all_snaps-push [] list = append-nil (snaps_of list)
all_snaps-push (l ∷ ls) list = ap (λ s. snaps_of l ++ s) (all_snaps-push ls list) ∙ sym (append_assoc (snaps_of l) (all_snaps ls) (snaps_of list))

pub count_numbered-push : (lists : List (List Command)) (list : List Command) → count_numbered (lists ++ list ∷ []) ≡ count_numbered lists + count_by is_numbered list
count_numbered-push [] list = omega arith
count_numbered-push (l ∷ ls) list = omega (arith, count_numbered-push ls list)

module _ (conts : List ContDecl) (objs : List ObjDecl) where
  pub AreCommands-append : (known : List SnapName) (xs ys : List Command) → AreCommands conts objs known xs → AreCommands conts objs (known ++ snaps_of xs) ys → AreCommands conts objs known (xs ++ ys)
  AreCommands-append known [] ys h k = subst (λ ks. AreCommands conts objs ks ys) (append-nil known) k
  AreCommands-append known (x ∷ xs) ys h k =
      (h.0, AreCommands-append (known ++ snap_of x) xs ys h.1 (subst (λ ks. AreCommands conts objs ks ys) (sym (append_assoc known (snap_of x) (snaps_of xs))) k))
