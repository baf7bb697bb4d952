-- Names and paths are read again as what they name.
use Rattle.std.proofs.Common.{◌≡◌, ℕ, zero, suc, Bool, true, false, cond, eqb, ◌&&◌, ◌⊎◌, inl, inr, List, [], ◌∷◌, ◌++◌, map, Any, Option, Some, None, refl, sym, ap, subst, ◌∙◌, arith, append_assoc}
use Rattle.std.specs.List.{IsDistinct, AllByRecursion}
use Rattle.std.proofs.lemmas.Bool.{and_parts, and_from, eqb-true}
use Rattle.std.proofs.lemmas.Bool.Decides.{nat_tests}
use Rattle.std.proofs.lemmas.List.{append-nil}
use Rattle.std.proofs.lemmas.List.Elements.{All-from_recursion, recursion_from_All}
use Rattle.std.proofs.lemmas.List.Splits.{slice_split_at, slice_split_none}
use Rattle.std.proofs.lemmas.Map.Keys.{IsDistinct-head, IsDistinct-tail}
use lib.Pointwise.{bytes_decides}
use Rattle.base_types.specs.declared.id.Class.{Class}
use Rattle.base_types.specs.declared.id.Class.TheVariants.{S1, S2, S4, SX, RP2G1, RP2GX, RP3G1, RP3GX}
use Rattle.base_types.specs.declared.id.ContId.{ContId}
use Rattle.base_types.specs.declared.id.ObjId.{ObjId}
use Rattle.base_types.specs.declared.path.Path.{Path}
use Rattle.base_types.specs.declared.script.ContDecl.{ContDecl}
use Rattle.base_types.specs.declared.script.ObjDecl.{ObjDecl}
use Rattle.base_types.specs.declared.script.Script.{Script}
use Rattle.base_types.specs.Keys.{IsKey, same_key}
use Rattle.base_types.specs.Paths.{class_number, same_object}
use Rattle.base_types.specs.Scripts.{cont_name, obj_name}
use Rattle.base_text.specs.Parts.{parts_of}
use Rattle.report_writer.specs.Forms.{HasNames, IsContOf, IsObjOf, IsBelowOf, IsPathOf}
use Rattle.report_writer.specs.Names.{cont_word, obj_word, obj_part, key_part, path_word}
use Rattle.report_writer.proofs.Keys.{key_unslashed}
use Rattle.report_writer.proofs.Reading.{cont_of, decl_of, path_in, path_of_names, path_of}

-- some element of a list has a property
abbrev pub Holds : {A : Type 0} → (A → Type 0) → List A → Type 0
Holds P [] = ⊥
Holds P (x ∷ xs) = P x ⊎ Holds P xs

pub Holds-from_Any : {A : Type 0} (P : A → Type 0) (xs : List A) → Any P xs → Holds P xs
Holds-from_Any P [] (k, x, lt, is, p) = absurd (omega arith)
Holds-from_Any P (y ∷ ys) (zero, x, lt, is, p) = inl (subst P (sym is) p)
Holds-from_Any P (y ∷ ys) (suc k, x, lt, is, p) = inr (Holds-from_Any P ys (k, x, omega arith, is, p))

pub same_self : (w : List ℕ) → same_key w w ≡ true
same_self w = (bytes_decides w w).1 refl

-- a name that differs from all of a list differs from each
pub differs : {A : Type 0} (name : A → List ℕ) (v w : List ℕ) (xs : List A) → AllByRecursion (λ y. same_key v y ≡ false) (map name xs) → Holds (λ x. name x ≡ w) xs → same_key v w ≡ false
differs name v w [] h none = absurd none
differs name v w (x ∷ xs) h (inl is) = subst (λ z. same_key v z ≡ false) is h.0
differs name v w (x ∷ xs) h (inr rest) = differs name v w xs h.1 rest

-- ---- containers

pub same_cont : (a b : ContId) → eqb a.0 b.0 ≡ true → a ≡ b
same_cont a b e = let number : a.0 ≡ b.0 = eqb-true a.0 b.0 e in let made : ℕ → ContId = λ n. record { 0 = n } in ap made number

not_same_cont : (a b : ContId) → a ≡ b → eqb a.0 b.0 ≡ false → ⊥
not_same_cont a b is e = let number : a.0 ≡ b.0 = ap (λ (c : ContId). c.0) is in grind (arith, nat_tests)

cont_word_stands : (ds : List ContDecl) (cont : ContId) → Holds (λ d. d.id ≡ cont) ds → Holds (λ d. cont_name d ≡ cont_word ds cont) ds
cont_word_stands [] cont none = absurd none
cont_word_stands (d ∷ ds) cont h = go (eqb d.id.0 cont.0) refl h (cont_word_stands ds cont)
  where
    go : (b : Bool) → eqb d.id.0 cont.0 ≡ b → (d.id ≡ cont) ⊎ Holds (λ d. d.id ≡ cont) ds → (Holds (λ d. d.id ≡ cont) ds → Holds (λ d. cont_name d ≡ cont_word ds cont) ds)
        → (d.name ≡ cond b d.name (cont_word ds cont)) ⊎ Holds (λ e. cont_name e ≡ cond b d.name (cont_word ds cont)) ds
    go true e h ih = inl refl
    go false e (inl is) ih = absurd (not_same_cont d.id cont is e)
    go false e (inr rest) ih = inr (ih rest)

cont_found : (ds : List ContDecl) (cont : ContId) → IsDistinct same_key (map cont_name ds) → Holds (λ d. d.id ≡ cont) ds → cont_of ds (cont_word ds cont) ≡ Some cont
cont_found [] cont distinct none = absurd none
cont_found (d ∷ ds) cont distinct h = go (eqb d.id.0 cont.0) refl h (cont_found ds cont (IsDistinct-tail same_key (cont_name d) (map cont_name ds) distinct))
  where
    first : same_key d.name d.name ≡ true → d.id ≡ cont → cond (same_key d.name d.name) (Some d.id) (cont_of ds d.name) ≡ Some cont
    first same is = rw same (ap (λ c. Some c) is)

    later : same_key d.name (cont_word ds cont) ≡ false → cont_of ds (cont_word ds cont) ≡ Some cont → cond (same_key d.name (cont_word ds cont)) (Some d.id) (cont_of ds (cont_word ds cont)) ≡ Some cont
    later same is = rw same is

    go : (b : Bool) → eqb d.id.0 cont.0 ≡ b → (d.id ≡ cont) ⊎ Holds (λ d. d.id ≡ cont) ds → (Holds (λ d. d.id ≡ cont) ds → cont_of ds (cont_word ds cont) ≡ Some cont)
        → cond (same_key d.name (cond b d.name (cont_word ds cont))) (Some d.id) (cont_of ds (cond b d.name (cont_word ds cont))) ≡ Some cont
    go true e h ih = first (same_self d.name) (same_cont d.id cont e)
    go false e (inl is) ih = absurd (not_same_cont d.id cont is e)
    go false e (inr rest) ih = later (differs cont_name d.name (cont_word ds cont) ds (IsDistinct-head same_key (cont_name d) (map cont_name ds) distinct) (cont_word_stands ds cont rest)) (ih rest)

pub cont_again : (s : Script) (cont : ContId) → IsContOf s cont → cont_of s.conts (cont_word s.conts cont) ≡ Some cont
cont_again s cont h = cont_found s.conts cont h.names.cont_names (Holds-from_Any (λ d. d.id ≡ cont) s.conts h.declared)

-- ---- objects

abbrev class_of_number : ℕ → Class
class_of_number n =
    cond (eqb n 1) S1 (cond (eqb n 2) S2 (cond (eqb n 3) S4 (cond (eqb n 4) SX (cond (eqb n 5) RP2G1 (cond (eqb n 6) RP2GX (cond (eqb n 7) RP3G1 RP3GX))))))

class_again : (c : Class) → class_of_number (class_number c) ≡ c
class_again S1 = refl
class_again S2 = refl
class_again S4 = refl
class_again SX = refl
class_again RP2G1 = refl
class_again RP2GX = refl
class_again RP3G1 = refl
class_again RP3GX = refl

same_class : (a b : Class) → class_number a ≡ class_number b → a ≡ b
same_class a b e = sym (class_again a) ∙ ap class_of_number e ∙ class_again b

abbrev object : Class → ℕ → ℕ → ObjId
object class number unit = record { class = class; number = number; unit = unit }

pub same_obj : (a b : ObjId) → same_object a b ≡ true → a ≡ b
same_obj a b e =
    let p = and_parts (eqb (class_number a.class) (class_number b.class) && eqb a.number b.number) (eqb a.unit b.unit) e in
    let q = and_parts (eqb (class_number a.class) (class_number b.class)) (eqb a.number b.number) p.0 in
    ap (λ c. object c a.number a.unit) (same_class a.class b.class (eqb-true _ _ q.0)) ∙ ap (λ n. object b.class n a.unit) (eqb-true _ _ q.1)
    ∙ ap (object b.class b.number) (eqb-true _ _ p.1)

-- a declaration of an object of a container
abbrev pub Declares : ContId → ObjId → ObjDecl → Type 0
Declares cont obj d = (d.cont ≡ cont) × (d.id ≡ obj)

abbrev pub is_decl : ContId → ObjId → ObjDecl → Bool
is_decl cont obj d = eqb d.cont.0 cont.0 && same_object d.id obj

same_number : (n : ℕ) → eqb n n ≡ true
same_number n = grind (arith, nat_tests)

is_decl-self : (d : ObjDecl) → is_decl d.cont d.id d ≡ true
is_decl-self d =
    and_from (eqb d.cont.0 d.cont.0) (same_object d.id d.id) (same_number d.cont.0)
    (and_from (eqb (class_number d.id.class) (class_number d.id.class) && eqb d.id.number d.id.number) (eqb d.id.unit d.id.unit)
    (and_from (eqb (class_number d.id.class) (class_number d.id.class)) (eqb d.id.number d.id.number) (same_number (class_number d.id.class)) (same_number d.id.number))
    (same_number d.id.unit))

pub not_declared : (cont : ContId) (obj : ObjId) (d : ObjDecl) → Declares cont obj d → is_decl cont obj d ≡ false → ⊥
not_declared cont obj d is e =
    let yes : is_decl cont obj d ≡ true = subst (λ o. is_decl cont o d ≡ true) is.1 (subst (λ c. is_decl c d.id d ≡ true) is.0 (is_decl-self d)) in
    absurd cc

pub obj_word_stands : (ds : List ObjDecl) (cont : ContId) (obj : ObjId) → Holds (Declares cont obj) ds → Holds (λ d. obj_name d ≡ obj_word ds cont obj) ds
obj_word_stands [] cont obj none = absurd none
obj_word_stands (d ∷ ds) cont obj h = go (is_decl cont obj d) refl h (obj_word_stands ds cont obj)
  where
    go : (b : Bool) → is_decl cont obj d ≡ b → Declares cont obj d ⊎ Holds (Declares cont obj) ds → (Holds (Declares cont obj) ds → Holds (λ d. obj_name d ≡ obj_word ds cont obj) ds)
        → (d.name ≡ cond b d.name (obj_word ds cont obj)) ⊎ Holds (λ e. obj_name e ≡ cond b d.name (obj_word ds cont obj)) ds
    go true e h ih = inl refl
    go false e (inl is) ih = absurd (not_declared cont obj d is e)
    go false e (inr rest) ih = inr (ih rest)

-- a declaration is found by its name
abbrev IsFound : Option ObjDecl → ObjId → Type 0
IsFound o obj = (d : ObjDecl) × (o ≡ Some d) × (d.id ≡ obj)

obj_found : (ds : List ObjDecl) (cont : ContId) (obj : ObjId) → IsDistinct same_key (map obj_name ds) → Holds (Declares cont obj) ds → IsFound (decl_of ds (obj_word ds cont obj)) obj
obj_found [] cont obj distinct none = absurd none
obj_found (d ∷ ds) cont obj distinct h = go (is_decl cont obj d) refl h (obj_found ds cont obj (IsDistinct-tail same_key (obj_name d) (map obj_name ds) distinct))
  where
    first : same_key d.name d.name ≡ true → d.id ≡ obj → IsFound (cond (same_key d.name d.name) (Some d) (decl_of ds d.name)) obj
    first same is = (d, rw same refl, is)

    later : same_key d.name (obj_word ds cont obj) ≡ false → IsFound (decl_of ds (obj_word ds cont obj)) obj → IsFound (cond (same_key d.name (obj_word ds cont obj)) (Some d) (decl_of ds (obj_word ds cont obj))) obj
    later same is = (is.0, rw same is.1, is.2)

    go : (b : Bool) → is_decl cont obj d ≡ b → Declares cont obj d ⊎ Holds (Declares cont obj) ds → (Holds (Declares cont obj) ds → IsFound (decl_of ds (obj_word ds cont obj)) obj)
        → IsFound (cond (same_key d.name (cond b d.name (obj_word ds cont obj))) (Some d) (decl_of ds (cond b d.name (obj_word ds cont obj)))) obj
    go true e h ih = first (same_self d.name) (same_obj d.id obj (and_parts (eqb d.cont.0 cont.0) (same_object d.id obj) e).1)
    go false e (inl is) ih = absurd (not_declared cont obj d is e)
    go false e (inr rest) ih = later (differs obj_name d.name (obj_word ds cont obj) ds (IsDistinct-head same_key (obj_name d) (map obj_name ds) distinct) (obj_word_stands ds cont obj rest)) (ih rest)

-- ---- paths

-- no slash stands in a list
abbrev Unslashed : List ℕ → Type 0
Unslashed w = AllByRecursion (λ b. eqb b 47 ≡ false) w

cont_unslashed : (ds : List ContDecl) (cont : ContId) → AllByRecursion (λ d. IsKey d.name) ds → AllByRecursion (λ b. eqb b 47 ≡ false) (cont_word ds cont)
cont_unslashed [] cont h = tt
cont_unslashed (d ∷ ds) cont h = go (eqb d.id.0 cont.0) (cont_unslashed ds cont h.1)
  where
    go : (b : Bool) → Unslashed (cont_word ds cont) → Unslashed (cond b d.name (cont_word ds cont))
    go true rest = key_unslashed d.name h.0
    go false rest = rest

obj_unslashed : (ds : List ObjDecl) (cont : ContId) (obj : ObjId) → AllByRecursion (λ d. IsKey d.name) ds → AllByRecursion (λ b. eqb b 47 ≡ false) (obj_word ds cont obj)
obj_unslashed [] cont obj h = tt
obj_unslashed (d ∷ ds) cont obj h = go (is_decl cont obj d) (obj_unslashed ds cont obj h.1)
  where
    go : (b : Bool) → Unslashed (obj_word ds cont obj) → Unslashed (cond b d.name (obj_word ds cont obj))
    go true rest = key_unslashed d.name h.0
    go false rest = rest

pub last_part : (w : List ℕ) → AllByRecursion (λ b. eqb b 47 ≡ false) w → parts_of 47 w ≡ w ∷ []
last_part w h = slice_split_none (λ b. eqb b 47) w (All-from_recursion (λ b. eqb b 47 ≡ false) w h)

pub next_part : (w rest : List ℕ) → AllByRecursion (λ b. eqb b 47 ≡ false) w → parts_of 47 (w ++ 47 ∷ rest) ≡ w ∷ parts_of 47 rest
next_part w rest h = slice_split_at (λ b. eqb b 47) w 47 rest (All-from_recursion (λ b. eqb b 47 ≡ false) w h) refl

abbrev path_at : ContId → Option ObjId → Option (List ℕ) → Option (List ℕ) → Path
path_at cont obj dkey akey = record { cont = cont; obj = obj; dkey = dkey; akey = akey }

names_again : (s : Script) (cont : ContId) (names : List (List ℕ)) (p : Path) → IsContOf s cont → path_in s cont names ≡ Some p → path_of_names s (cont_word s.conts cont ∷ names) ≡ Some p
names_again s cont names p h e = rw (cont_again s cont h) e

pub keys_of_conts : (s : Script) → HasNames s → (cont : ContId) → AllByRecursion (λ b. eqb b 47 ≡ false) (cont_word s.conts cont)
keys_of_conts s h cont = cont_unslashed s.conts cont (recursion_from_All (λ d. IsKey d.name) s.conts h.cont_keys)

pub keys_of_objs : (s : Script) → HasNames s → (cont : ContId) (obj : ObjId) → AllByRecursion (λ b. eqb b 47 ≡ false) (obj_word s.objs cont obj)
keys_of_objs s h cont obj = obj_unslashed s.objs cont obj (recursion_from_All (λ d. IsKey d.name) s.objs h.obj_keys)

found_obj : (s : Script) (cont : ContId) (obj : ObjId) → HasNames s → IsObjOf s cont obj → IsFound (decl_of s.objs (obj_word s.objs cont obj)) obj
found_obj s cont obj names h = obj_found s.objs cont obj names.obj_names (Holds-from_Any (Declares cont obj) s.objs h)

-- a path is read again from the parts of its word
parts_again : (s : Script) (cont : ContId) (obj : Option ObjId) (dkey akey : Option (List ℕ)) → IsContOf s cont → IsBelowOf s cont obj dkey akey
    → path_of_names s (parts_of 47 (cont_word s.conts cont ++ (obj_part s.objs cont obj ++ (key_part dkey ++ key_part akey)))) ≡ Some (path_at cont obj dkey akey)
parts_again s cont None None None h b =
    ap (path_of_names s) (ap (parts_of 47) (append-nil (cont_word s.conts cont)) ∙ last_part (cont_word s.conts cont) (keys_of_conts s h.names cont))
    ∙ names_again s cont [] (path_at cont None None None) h refl
parts_again s cont None None (Some akey) h b = absurd b
parts_again s cont None (Some dkey) akey h b = absurd b
parts_again s cont (Some obj) None None h b =
    let o = obj_word s.objs cont obj in
    let found = found_obj s cont obj h.names b in
    ap (path_of_names s) (next_part (cont_word s.conts cont) (o ++ []) (keys_of_conts s h.names cont)
    ∙ ap (λ t. cont_word s.conts cont ∷ t) (ap (parts_of 47) (append-nil o) ∙ last_part o (keys_of_objs s h.names cont obj)))
    ∙ names_again s cont (o ∷ []) (path_at cont (Some obj) None None) h (rw found.1 (ap (λ i. Some (path_at cont (Some i) None None)) found.2))
parts_again s cont (Some obj) None (Some akey) h b = absurd b
parts_again s cont (Some obj) (Some dkey) None h b =
    let o = obj_word s.objs cont obj in
    let found = found_obj s cont obj h.names b.0 in
    ap (path_of_names s) (next_part (cont_word s.conts cont) (o ++ 47 ∷ (dkey ++ [])) (keys_of_conts s h.names cont)
    ∙ ap (λ t. cont_word s.conts cont ∷ t) (next_part o (dkey ++ []) (keys_of_objs s h.names cont obj)
    ∙ ap (λ t. o ∷ t) (ap (parts_of 47) (append-nil dkey) ∙ last_part dkey (key_unslashed dkey b.1))))
    ∙ names_again s cont (o ∷ dkey ∷ []) (path_at cont (Some obj) (Some dkey) None) h (rw found.1 (ap (λ i. Some (path_at cont (Some i) (Some dkey) None)) found.2))
parts_again s cont (Some obj) (Some dkey) (Some akey) h b =
    let o = obj_word s.objs cont obj in
    let found = found_obj s cont obj h.names b.0 in
    ap (path_of_names s) (next_part (cont_word s.conts cont) (o ++ 47 ∷ (dkey ++ 47 ∷ akey)) (keys_of_conts s h.names cont)
    ∙ ap (λ t. cont_word s.conts cont ∷ t) (next_part o (dkey ++ 47 ∷ akey) (keys_of_objs s h.names cont obj)
    ∙ ap (λ t. o ∷ t) (next_part dkey akey (key_unslashed dkey b.1) ∙ ap (λ t. dkey ∷ t) (last_part akey (key_unslashed akey b.2)))))
    ∙ names_again s cont (o ∷ dkey ∷ akey ∷ []) (path_at cont (Some obj) (Some dkey) (Some akey)) h (rw found.1 (ap (λ i. Some (path_at cont (Some i) (Some dkey) (Some akey))) found.2))

parts_joined : (a b c d : List ℕ) → a ++ b ++ c ++ d ≡ a ++ (b ++ (c ++ d))
parts_joined a b c d = append_assoc (a ++ b) c d ∙ append_assoc a b (c ++ d)

pub path_again : (s : Script) (path : Path) → IsPathOf s path → path_of s (path_word s path) ≡ Some path
unfolding path_of path_word
path_again s path h =
    ap (λ w. path_of_names s (parts_of 47 w)) (parts_joined (cont_word s.conts path.cont) (obj_part s.objs path.cont path.obj) (key_part path.dkey) (key_part path.akey))
    ∙ parts_again s path.cont path.obj path.dkey path.akey h.cont h.below
