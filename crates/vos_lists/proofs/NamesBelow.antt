-- Names below a dkey and below an object that have a cell on the map below an epoch, and whether these and a container have one.
use Rattle.std.proofs.Common.{◌≡◌, ℕ, ◌==◌, ◌||◌, Bool, true, false, List, [], ◌∷◌, Option, Some, None, refl, sym, ap, ◌∙◌, subst, inl, inr, arith}
use Rattle.std.specs.Prelude.{if◌then◌else◌}
use Rattle.std.specs.List.{find, list_any}
use Rattle.std.specs.Option.{option_eq}
use Rattle.std.proofs.lemmas.Bool.Decides.{nat_tests}
use Rattle.base_types.specs.PathLaws.{leads_to-trans, same_object-Decides}
use Rattle.base_types.specs.Paths.{leads_to, same_object}
use Rattle.base_types.specs.declared.epoch.Epoch.{Epoch}
use Rattle.base_types.specs.declared.id.ContId.{ContId}
use Rattle.base_types.specs.declared.path.Path.{Path}
use Rattle.daos_model.specs.Answers.{akey_under, akeys_below, dkey_under, dkeys_below, has_cell_below, in_byte_order, option_before}
use Rattle.daos_model.specs.BoolLaws.{and_left, and_right, both, or_from_right}
use Rattle.daos_model.specs.Durables.{version_key}
use Rattle.daos_model.specs.Ordered.{in_order}
use Rattle.daos_model.specs.Versions.{map_below}
use Rattle.daos_model.specs.declared.cell.CellValue.{CellValue}
use Rattle.model_laws.specs.Members.{Has}
use Rattle.model_laws.specs.ReadLaws.{has-under, under-has}
use Rattle.pmem_pages.specs.Blocks.{Blocks}
use Rattle.pmem_pages.specs.Owners.{Holds}
use Rattle.vos_values.specs.declared.keys.Layout.TheVariants.{Two}
use Rattle.vos_values.specs.declared.keys.ObjectKey.{ObjectKey}
use Rattle.vos_values.specs.Keys.{IsName, IsObjectKey, name_key, object_key}
use Rattle.vos_levels.specs.Levels.{Hung, is_level, things}
use Rattle.vos_path.specs.Objects.{Akey, Dkey, Object, Objects, akey_level, akey_path, below_or_none, dkey_level, dkey_path, object_level, object_path, objects_owner, objects_versions, values_or_none}
use Rattle.vos_path.proofs.DkeyWrites.{objects_exact}
use Rattle.vos_reads.specs.Ways.{IsSettled, below_object, dkey_of}
use Rattle.vos_reads.proofs.Going.{akeys_hold, dkeys_hold}
use Rattle.vos_lists.specs.declared.view.View.{View}
use Rattle.vos_lists.specs.Stands.{akey_name, akey_names, akey_stands, below_stands, cont_stands, dkey_name, dkey_names, dkey_stands, object_stands, stands_in, values_stand}
use Rattle.vos_lists.specs.Unders.{over_akeys, over_dkeys}
use Rattle.vos_lists.proofs.Alive.{akey_law, any_at, parts_of, same_name, same_tests}
use Rattle.vos_lists.proofs.Full.{IsFull, held_full}
use Rattle.vos_lists.proofs.Naming.{any_has, any_same, found_at, found_own, good_has, if_any, names_same}
use Rattle.vos_lists.proofs.Walking.{has_append}
use Rattle.vos_lists.proofs.Settled.{cont_path, cont_to_object, dkey_to_akey, eq_refl, from_parts, object_to_dkey, over_akey, over_dkey, over_object, settled_below, to_akey, to_dkey, top_akey, top_dkey, top_object, under_akey, under_dkey, under_object}

-- ---- names of cells

-- the names that cells have, where they have one
abbrev names_from : (CellValue → Option (List ℕ)) → List CellValue → List (List ℕ)
names_from f [] = []
names_from f (v ∷ m) = option_before (f v) (names_from f m)

module _ (f : CellValue → Option (List ℕ)) (p : Path) (k : List ℕ) (fit : (v : CellValue) → f v ≡ Some k → leads_to p v.cell.path ≡ true) (back : (v : CellValue) → leads_to p v.cell.path ≡ true → f v ≡ Some k) where
  has_cell : (m : List CellValue) → Has k (names_from f m) → has_cell_below p m ≡ true
  unfolding has_cell_below
  has_cell [] h = absurd h
  has_cell (v ∷ m) h = by (f v) refl h (has_cell m)
    where
      by : (x : Option (List ℕ)) → f v ≡ x → Has k (option_before x (names_from f m)) → (Has k (names_from f m) → has_cell_below p m ≡ true) → (leads_to p v.cell.path || has_cell_below p m) ≡ true
      by None e i r = or_from_right (leads_to p v.cell.path) (has_cell_below p m) (r i)
      by (Some j) e (inl same) r = ap (λ b. b || has_cell_below p m) (fit v (e ∙ ap (λ z. Some z) (sym same)))
      by (Some j) e (inr i) r = or_from_right (leads_to p v.cell.path) (has_cell_below p m) (r i)

  cell_has : (m : List CellValue) → has_cell_below p m ≡ true → Has k (names_from f m)
  unfolding has_cell_below
  cell_has [] h = absurd (let n : ⊥ = cc in n)
  cell_has (v ∷ m) h = by (leads_to p v.cell.path) refl h (cell_has m)
    where
      later : (x : Option (List ℕ)) → Has k (names_from f m) → Has k (option_before x (names_from f m))
      later None i = i
      later (Some j) i = inr i

      by : (t : Bool) → leads_to p v.cell.path ≡ t → (t || has_cell_below p m) ≡ true → (has_cell_below p m ≡ true → Has k (names_from f m)) → Has k (option_before (f v) (names_from f m))
      by true e z r = subst (λ x. Has k (option_before x (names_from f m))) (sym (back v e)) (inl refl)
      by false e z r = later (f v) (r z)

dkeys_from : (p : Path) (m : List CellValue) → dkeys_below p m ≡ names_from (dkey_under p) m
unfolding dkeys_below
dkeys_from p [] = refl
dkeys_from p (v ∷ m) = ap (option_before (dkey_under p v)) (dkeys_from p m)

akeys_from : (p : Path) (m : List CellValue) → akeys_below p m ≡ names_from (akey_under p) m
unfolding akeys_below
akeys_from p [] = refl
akeys_from p (v ∷ m) = ap (option_before (akey_under p v)) (akeys_from p m)

-- a name is there where a path leads to a cell, and is that of the cell
name_there : (t : Bool) (x : Option (List ℕ)) (k : List ℕ) → (if t then x else None) ≡ Some k → (t ≡ true) × (x ≡ Some k)
name_there true x k h = (refl, h)
name_there false x k h = absurd (let n : ⊥ = cc in n)

there_named : (t : Bool) (x : Option (List ℕ)) (k : List ℕ) → t ≡ true → x ≡ Some k → (if t then x else None) ≡ Some k
there_named t x k h e = ap (λ (b : Bool). if b then x else None) h ∙ e

module _ (o : ObjectKey) (k : List ℕ) where
  dkey_fits : (v : CellValue) → dkey_under (object_path o) v ≡ Some k → leads_to (dkey_path o k) v.cell.path ≡ true
  dkey_fits v h = let s = name_there (leads_to (object_path o) v.cell.path) v.cell.path.dkey k h in to_dkey o k v.cell.path s.0 s.1

  dkey_back : (v : CellValue) → leads_to (dkey_path o k) v.cell.path ≡ true → dkey_under (object_path o) v ≡ Some k
  dkey_back v h =
      there_named (leads_to (object_path o) v.cell.path) v.cell.path.dkey k (leads_to-trans (object_path o) (dkey_path o k) v.cell.path (object_to_dkey o k) h)
      (sym (same_name k v.cell.path.dkey (parts_of (dkey_path o k) v.cell.path h).dkey))

module _ (o : ObjectKey) (d k : List ℕ) where
  akey_fits : (v : CellValue) → akey_under (dkey_path o d) v ≡ Some k → leads_to (akey_path o d k) v.cell.path ≡ true
  akey_fits v h = let s = name_there (leads_to (dkey_path o d) v.cell.path) v.cell.path.akey k h in to_akey o d k v.cell.path s.0 s.1

  akey_back : (v : CellValue) → leads_to (akey_path o d k) v.cell.path ≡ true → akey_under (dkey_path o d) v ≡ Some k
  akey_back v h =
      there_named (leads_to (dkey_path o d) v.cell.path) v.cell.path.akey k (leads_to-trans (dkey_path o d) (akey_path o d k) v.cell.path (dkey_to_akey o d k) h)
      (sym (same_name k v.cell.path.akey (parts_of (akey_path o d k) v.cell.path h).akey))

object_of_full : (r : Path) (f : IsFull r) → leads_to (object_path f.object) r ≡ true
object_of_full r f =
    from_parts (object_path f.object) r (record {
      cont = ap (λ (z : ContId). f.object.cont.0 == z.0) f.cont_is ∙ eq_refl f.object.cont.0;
      obj = ap (λ z. option_eq same_object (Some f.object.obj) z) f.obj_is ∙ (same_object-Decides f.object.obj f.object.obj).1 refl;
      dkey = refl;
      akey = refl;
    })

some_same : (j k : List ℕ) → Some j ≡ Some k → j ≡ k
some_same j k h = cc

-- ---- below a dkey

module _ (m : Blocks) (g : Objects) (o : ObjectKey) (d : List ℕ) (held : Holds objects_owner m g) (object : IsObjectKey Two o) (dkey : IsName d) (e : Epoch) (settled : IsSettled (dkey_path o d) e g) where
  abbrev w : View
  w = record { unit = o.obj.unit; below = e }

  abbrev map_of : List CellValue
  map_of = map_below (in_order version_key (objects_versions g)) e.0

  abbrev akeys : Hung Akey
  akeys = (dkey_of o d g).1

  abbrev stands : Akey → Bool
  stands = akey_stands w (over_akeys w o d g)

  abbrev cells : List ℕ → Bool
  cells k = has_cell_below (akey_path o d k) map_of

  akey_settled : (k : List ℕ) → IsSettled (akey_path o d k) e g
  akey_settled k = settled_below m g held e (dkey_path o d) (akey_path o d k) (under_object o d k) (under_dkey o d k) (under_akey o d k) settled

  akey_is_name : (k : List ℕ) → cells k ≡ true → IsName k
  akey_is_name k h =
      let s = under-has (akey_path o d k) map_of h in
      let full = held_full m g held e.0 s.0 s.2 in
      let same : k ≡ full.akey = some_same k full.akey (same_name k s.0.path.akey (parts_of (akey_path o d k) s.0.path s.1).akey ∙ full.akey_is) in
      subst IsName (sym same) full.is_akey

  has_akey : (k : List ℕ) → Has k (akeys_below (dkey_path o d) map_of) → (cells k ≡ true) × IsName k
  has_akey k h =
      let there = has_cell (akey_under (dkey_path o d)) (akey_path o d k) k (akey_fits o d k) (akey_back o d k) map_of (subst (Has k) (akeys_from (dkey_path o d) map_of) h) in
      (there, akey_is_name k there)

  akey_has : (k : List ℕ) → cells k ≡ true → Has k (akeys_below (dkey_path o d) map_of)
  akey_has k h = subst (Has k) (sym (akeys_from (dkey_path o d) map_of)) (cell_has (akey_under (dkey_path o d)) (akey_path o d k) k (akey_fits o d k) (akey_back o d k) map_of h)

  akey_is : (k : List ℕ) → IsName k → cells k ≡ if_any stands (find (is_level akey_level (name_key k)) (things akeys))
  akey_is k good = akey_law m g o d k held object dkey good e (akey_settled k) ∙ by (find (is_level akey_level (name_key k)) (things akeys))
    where
      by : (x : Option Akey) → values_stand w (over_akeys w o d g) (values_or_none x) ≡ if_any stands x
      by None = refl
      by (Some a) = refl

  pub akeys_law : in_byte_order (akeys_below (dkey_path o d) map_of) ≡ akey_names w (over_akeys w o d g) akeys
  akeys_law = names_same akey_level akey_name (λ a good. good) (λ a. refl) stands m akeys (akeys_hold m g o held d) (akeys_below (dkey_path o d) map_of) cells has_akey akey_has akey_is

  pub dkey_law : has_cell_below (dkey_path o d) map_of ≡ below_stands w (over_dkeys w o g) (dkey_of o d g)
  dkey_law =
      any_same akey_level akey_name (λ a good. good) (λ a. refl) stands m akeys (akeys_hold m g o held d) (akeys_below (dkey_path o d) map_of) cells has_akey akey_has akey_is (has_cell_below (dkey_path o d) map_of)
      (λ h.
      let s = under-has (dkey_path o d) map_of h in
      let full = held_full m g held e.0 s.0 s.2 in
      (full.akey, akey_has full.akey (has-under (akey_path o d full.akey) map_of s.0 (to_akey o d full.akey s.0.path s.1 full.akey_is) s.2)))
      (λ k h.
      let s = under-has (akey_path o d k) map_of (has_akey k h).0 in
      has-under (dkey_path o d) map_of s.0 (leads_to-trans (dkey_path o d) (akey_path o d k) s.0.path (dkey_to_akey o d k) s.1) s.2)

-- ---- below an object

module _ (m : Blocks) (g : Objects) (o : ObjectKey) (held : Holds objects_owner m g) (object : IsObjectKey Two o) (e : Epoch) (settled : IsSettled (object_path o) e g) where
  abbrev v : View
  v = record { unit = o.obj.unit; below = e }

  abbrev all_of : List CellValue
  all_of = map_below (in_order version_key (objects_versions g)) e.0

  abbrev dkeys : Hung Dkey
  dkeys = (below_object o g).1

  abbrev dkey_test : Dkey → Bool
  dkey_test = dkey_stands v (over_dkeys v o g)

  abbrev dkey_cells : List ℕ → Bool
  dkey_cells k = has_cell_below (dkey_path o k) all_of

  dkey_settled : (k : List ℕ) → IsSettled (dkey_path o k) e g
  dkey_settled k = settled_below m g held e (object_path o) (dkey_path o k) (over_object o k) (over_dkey o k) (over_akey o k) settled

  dkey_is_name : (k : List ℕ) → dkey_cells k ≡ true → IsName k
  dkey_is_name k h =
      let s = under-has (dkey_path o k) all_of h in
      let full = held_full m g held e.0 s.0 s.2 in
      let same : k ≡ full.dkey = some_same k full.dkey (same_name k s.0.path.dkey (parts_of (dkey_path o k) s.0.path s.1).dkey ∙ full.dkey_is) in
      subst IsName (sym same) full.is_dkey

  has_dkey : (k : List ℕ) → Has k (dkeys_below (object_path o) all_of) → (dkey_cells k ≡ true) × IsName k
  has_dkey k h =
      let there = has_cell (dkey_under (object_path o)) (dkey_path o k) k (dkey_fits o k) (dkey_back o k) all_of (subst (Has k) (dkeys_from (object_path o) all_of) h) in
      (there, dkey_is_name k there)

  dkey_has : (k : List ℕ) → dkey_cells k ≡ true → Has k (dkeys_below (object_path o) all_of)
  dkey_has k h = subst (Has k) (sym (dkeys_from (object_path o) all_of)) (cell_has (dkey_under (object_path o)) (dkey_path o k) k (dkey_fits o k) (dkey_back o k) all_of h)

  dkey_is : (k : List ℕ) → IsName k → dkey_cells k ≡ if_any dkey_test (find (is_level dkey_level (name_key k)) (things dkeys))
  dkey_is k good = dkey_law m g o k held object good e (dkey_settled k) ∙ by (find (is_level dkey_level (name_key k)) (things dkeys))
    where
      by : (x : Option Dkey) → below_stands v (over_dkeys v o g) (below_or_none x) ≡ if_any dkey_test x
      by None = refl
      by (Some b) = refl

  pub dkeys_law : in_byte_order (dkeys_below (object_path o) all_of) ≡ dkey_names v (over_dkeys v o g) dkeys
  dkeys_law = names_same dkey_level dkey_name (λ b good. good) (λ b. refl) dkey_test m dkeys (dkeys_hold m g o held) (dkeys_below (object_path o) all_of) dkey_cells has_dkey dkey_has dkey_is

  pub object_law : has_cell_below (object_path o) all_of ≡ object_stands v (below_object o g)
  object_law =
      any_same dkey_level dkey_name (λ b good. good) (λ b. refl) dkey_test m dkeys (dkeys_hold m g o held) (dkeys_below (object_path o) all_of) dkey_cells has_dkey dkey_has dkey_is (has_cell_below (object_path o) all_of)
      (λ h.
      let s = under-has (object_path o) all_of h in
      let full = held_full m g held e.0 s.0 s.2 in
      (full.dkey, dkey_has full.dkey (has-under (dkey_path o full.dkey) all_of s.0 (to_dkey o full.dkey s.0.path s.1 full.dkey_is) s.2)))
      (λ k h.
      let s = under-has (dkey_path o k) all_of (has_dkey k h).0 in
      has-under (object_path o) all_of s.0 (leads_to-trans (object_path o) (dkey_path o k) s.0.path (object_to_dkey o k) s.1) s.2)

-- ---- below a container

pub same_cont : (a b : ContId) → (a.0 == b.0) ≡ true → a ≡ b
same_cont a b h = let e : a.0 ≡ b.0 = grind (arith, nat_tests) in λ i. record { 0 = e i }

module _ (m : Blocks) (g : Objects) (c : ContId) (held : Holds objects_owner m g) (e : Epoch) (settled : IsSettled (cont_path c) e g) where
  abbrev cont_map : List CellValue
  cont_map = map_below (in_order version_key (objects_versions g)) e.0

  abbrev test : Object → Bool
  test = stands_in c e

  abbrev view_at : ObjectKey → View
  view_at o = record { unit = o.obj.unit; below = e }

  object_is : (o : ObjectKey) → IsObjectKey Two o → o.cont ≡ c → has_cell_below (object_path o) cont_map ≡ object_stands (view_at o) (below_object o g)
  object_is o good is = object_law m g o held good e (settled_below m g held e (cont_path o.cont) (object_path o) (top_object o) (top_dkey o) (top_akey o) (subst (λ z. IsSettled (cont_path z) e g) (sym is) settled))

  -- an object that has a cell stands in the tree
  in_tree : (o : ObjectKey) → IsObjectKey Two o → o.cont ≡ c → has_cell_below (object_path o) cont_map ≡ true → list_any test (things g) ≡ true
  in_tree o good is h = by (find (is_level object_level (object_key o)) (things g)) refl (sym (object_is o good is) ∙ h)
    where
      by : (x : Option Object) → find (is_level object_level (object_key o)) (things g) ≡ x → object_stands (view_at o) (below_or_none x) ≡ true → list_any test (things g) ≡ true
      by None f k = absurd (let n : ⊥ = cc in n)
      by (Some x) f k =
          let at = found_at object_level (object_key o) m g held x f in
          let name : x.name ≡ o = objects_exact o good x at.good at.level in
          let mine : (x.name.cont.0 == c.0) ≡ true = ap (λ (z : ContId). z.0 == c.0) (ap (λ (z : ObjectKey). z.cont) name ∙ is) ∙ eq_refl c.0 in
          let stands : object_stands (view_at x.name) x.holds ≡ true = ap (λ (z : ObjectKey). object_stands (view_at z) x.holds) name ∙ k in
          any_has test (things g) x at.has (both (x.name.cont.0 == c.0) (object_stands (view_at x.name) x.holds) mine stands)

  cont_forth : has_cell_below (cont_path c) cont_map ≡ true → list_any test (things g) ≡ true
  cont_forth h =
      let s = under-has (cont_path c) cont_map h in
      let full = held_full m g held e.0 s.0 s.2 in
      let is : full.object.cont ≡ c = sym (same_cont c s.0.path.cont (parts_of (cont_path c) s.0.path s.1).cont ∙ full.cont_is) in
      in_tree full.object full.is_object is (has-under (object_path full.object) cont_map s.0 (object_of_full s.0.path full) s.2)

  cont_back : list_any test (things g) ≡ true → has_cell_below (cont_path c) cont_map ≡ true
  cont_back h =
      let s = any_at test (things g) h in
      let x = s.thing in
      let among : Has x (things g) = subst (Has x) (sym s.is) (has_append s.left x s.right) in
      let good = good_has object_level m g held x among in
      let is : x.name.cont ≡ c = same_cont x.name.cont c (and_left (x.name.cont.0 == c.0) (object_stands (view_at x.name) x.holds) s.passes) in
      let own : below_object x.name g ≡ x.holds = ap below_or_none (found_own object_level m g held x among) in
      let stands : object_stands (view_at x.name) (below_object x.name g) ≡ true = ap (object_stands (view_at x.name)) own ∙ and_right (x.name.cont.0 == c.0) (object_stands (view_at x.name) x.holds) s.passes in
      let t = under-has (object_path x.name) cont_map (object_is x.name good is ∙ stands) in
      has-under (cont_path c) cont_map t.0 (leads_to-trans (cont_path c) (object_path x.name) t.0.path (ap (λ z. leads_to (cont_path z) (object_path x.name)) (sym is) ∙ cont_to_object x.name) t.1) t.2

  pub cont_law : has_cell_below (cont_path c) cont_map ≡ cont_stands c e g
  cont_law = same_tests (has_cell_below (cont_path c) cont_map) (list_any test (things g)) cont_forth cont_back
