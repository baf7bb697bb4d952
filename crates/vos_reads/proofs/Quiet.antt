-- Versions of other names say nothing of a cell.
use Rattle.std.proofs.Common.{◌≡◌, ℕ, ◌==◌, ◌||◌, Bool, true, false, List, [], ◌∷◌, ◌++◌, Option, Some, None, map, refl, sym, ap, ◌∙◌, subst, arith, inl, inr}
use Rattle.std.specs.Prelude.{All, filter, is_none}
use Rattle.std.specs.List.{find, list_any}
use Rattle.std.specs.Option.{option_eq}
use Rattle.std.specs.Ordering.{ordering_reverse}
use Rattle.std.specs.declared.cmp.Ordering.{Ordering}
use Rattle.std.specs.declared.cmp.Ordering.TheVariants.{Less, Equal, Greater}
use Rattle.std.proofs.lemmas.Bool.Decides.{nat_tests}
use Rattle.std.proofs.lemmas.List.Elements.{All-append, All-cons, All-head, All-nil, All-tail}
use Rattle.base_types.specs.Keys.{same_key}
use Rattle.base_types.specs.Operations.{write_path}
use Rattle.base_types.specs.PathLaws.{leads_to-refl, same_key-Decides, same_object-Decides}
use Rattle.base_types.specs.Paths.{leads_to, same_object}
use Rattle.base_types.specs.declared.operation.Write.{Write}
use Rattle.base_types.specs.declared.operation.Write.TheVariants.{PunchAkey, PunchDkey, PunchObject}
use Rattle.base_types.specs.declared.path.Path.{Path}
use Rattle.daos_model.specs.BoolLaws.{and_left, and_right}
use Rattle.daos_model.specs.Durables.{version_key}
use Rattle.daos_model.specs.Prunes.{is_punch as is_punch_write, touches}
use Rattle.daos_model.specs.Versions.{sees, version_path}
use Rattle.daos_model.specs.declared.cell.Cell.{Cell}
use Rattle.daos_model.specs.declared.durable.Version.{Version}
use Rattle.model_laws.specs.TouchLaws.{punch-path, update-path}
use Rattle.pmem_pages.specs.Blocks.{Blocks}
use Rattle.pmem_pages.specs.Node.{key_cmp}
use Rattle.pmem_pages.specs.Owners.{Holds}
use Rattle.pmem_pages.specs.Shape.{chosen, entries}
use Rattle.pmem_pages.specs.declared.node.TreeKey.{TreeKey}
use Rattle.pmem_pages.proofs.Lists.{key_total}
use Rattle.vos_values.specs.declared.keys.ObjectKey.{ObjectKey}
use Rattle.vos_levels.specs.Levels.{Hung, Level, hung, is_level, things}
use Rattle.vos_levels.proofs.Spots.{find_none, find_spot, first_false, look, then_false}
use Rattle.vos_levels.proofs.Testing.{AllGood, all_good}
use Rattle.vos_single.specs.Singles.{versions}
use Rattle.vos_extent.specs.Extents.{extents}
use Rattle.vos_path.specs.Objects.{Akey, Below, Dkey, Values, akey_path, akey_versions, below_dkey_versions, below_object_versions, dkey_path, dkey_versions, extent_version, is_punch, listed, object_path, punch_version, single_version, together, values_versions}
use Rattle.vos_path.proofs.Lists.{together_append}
use Rattle.vos_path.proofs.Putting.{tells_level}
use Rattle.vos_newest.specs.Newest.{later_of, newest, speaks}
use Rattle.vos_newest.proofs.Greatest.{newest_append, newest_none}

-- ---- paths

pub touch_leads : (w : Write) (c : Cell) → touches c w ≡ true → leads_to (write_path w) c.path ≡ true
touch_leads w c h = by (is_punch_write w) refl
  where
    by : (b : Bool) → is_punch_write w ≡ b → leads_to (write_path w) c.path ≡ true
    by true e = punch-path w c e h
    by false e = ap (λ p. leads_to p c.path) (update-path w c e h) ∙ leads_to-refl c.path

pub speaks_leads : (e : ℕ) (c : Cell) (v : Version) → speaks e c v ≡ true → leads_to (version_path v) c.path ≡ true
speaks_leads e c v h = touch_leads v.write c (and_right (sees e v) (touches c v.write) h)

eq_true : (a b : ℕ) → (a == b) ≡ true → a ≡ b
eq_true a b h = grind (arith, nat_tests)

cc_some : {A : Type 0} (a b : A) → Some a ≡ Some b → a ≡ b
cc_some a b h = cc

pub leads_object : (n o : ObjectKey) (q p : Path) → q.cont ≡ n.cont → q.obj ≡ Some n.obj → p.cont ≡ o.cont → p.obj ≡ Some o.obj → leads_to q p ≡ true → n ≡ o
unfolding leads_to
leads_object n o q p qc qo pc po h =
    let first = and_left _ _ (and_left _ _ h) in
    let c = eq_true q.cont.0 p.cont.0 (and_left _ _ first) in
    let x : (is_none q.obj || option_eq same_object q.obj p.obj) ≡ true = and_right _ _ first in
    let y : same_object n.obj o.obj ≡ true = sym (ap (λ z. is_none z || option_eq same_object z p.obj) qo ∙ ap (λ z. option_eq same_object (Some n.obj) z) po) ∙ x in
    let cont : n.cont.0 ≡ o.cont.0 = ap (λ z. z.0) (sym qc) ∙ (c ∙ ap (λ z. z.0) pc) in
    let obj = (same_object-Decides n.obj o.obj).0 y in
    λ i. record { cont = record { 0 = cont i }; obj = obj i }

pub leads_dkey : (x y : List ℕ) (q p : Path) → q.dkey ≡ Some x → p.dkey ≡ Some y → leads_to q p ≡ true → x ≡ y
unfolding leads_to
leads_dkey x y q p qd pd h =
    let k : (is_none q.dkey || option_eq same_key q.dkey p.dkey) ≡ true = and_right _ _ (and_left _ _ h) in
    (same_key-Decides x y).0 (sym (ap (λ z. is_none z || option_eq same_key z p.dkey) qd ∙ ap (λ z. option_eq same_key (Some x) z) pd) ∙ k)

pub leads_akey : (x y : List ℕ) (q p : Path) → q.akey ≡ Some x → p.akey ≡ Some y → leads_to q p ≡ true → x ≡ y
unfolding leads_to
leads_akey x y q p qa pa h =
    let k : (is_none q.akey || option_eq same_key q.akey p.akey) ≡ true = and_right _ _ h in
    (same_key-Decides x y).0 (sym (ap (λ z. is_none z || option_eq same_key z p.akey) qa ∙ ap (λ z. option_eq same_key (Some x) z) pa) ∙ k)

-- ---- what holds of the paths of all versions

all_map : {A V : Type 0} (P : V → Type 0) (f : A → V) (xs : List A) → ((a : A) → P (f a)) → All P (map f xs)
all_map P f [] h = All-nil P
all_map P f (x ∷ xs) h = All-cons P (f x) (map f xs) (h x) (all_map P f xs h)

pub all_together : {A V : Type 0} (P : V → Type 0) (f : A → List V) (xs : List A) → ((a : A) → All P (f a)) → All P (together f xs)
all_together P f [] h = All-nil P
all_together P f (x ∷ xs) h = All-append P (f x) (together f xs) (h x) (all_together P f xs h)

module _ (P : Path → Type 0) (o : ObjectKey) where
  abbrev At : Version → Type 0
  At v = P (version_path v)

  pub values_paths : (p : Path) (a : Values) → P p → All At (values_versions p a)
  values_paths p a h =
      All-append At (map (punch_version (PunchAkey p)) (filter is_punch (things a.0))) (map (single_version p) (versions a.1.0) ++ map (extent_version p) (extents a.1.1))
      (all_map At (punch_version (PunchAkey p)) (filter is_punch (things a.0)) (λ x. h))
      (All-append At (map (single_version p) (versions a.1.0)) (map (extent_version p) (extents a.1.1)) (all_map At (single_version p) (versions a.1.0) (λ x. h)) (all_map At (extent_version p) (extents a.1.1) (λ x. h)))

  pub dkey_paths : (d : List ℕ) (b : Below Akey) → P (dkey_path o d) → ((a : List ℕ) → P (akey_path o d a)) → All At (below_dkey_versions o d b)
  dkey_paths d b h k =
      All-append At (map (punch_version (PunchDkey (dkey_path o d))) (filter is_punch (things b.0))) (together (akey_versions o d) (things b.1))
      (all_map At (punch_version (PunchDkey (dkey_path o d))) (filter is_punch (things b.0)) (λ x. h))
      (all_together At (akey_versions o d) (things b.1) (λ x. values_paths (akey_path o d x.name) x.holds (k x.name)))

  pub object_paths : (b : Below Dkey) → P (object_path o) → ((d : List ℕ) → P (dkey_path o d)) → ((d a : List ℕ) → P (akey_path o d a)) → All At (below_object_versions o b)
  object_paths b h k l =
      All-append At (map (punch_version (PunchObject (object_path o))) (filter is_punch (things b.0))) (together (dkey_versions o) (things b.1))
      (all_map At (punch_version (PunchObject (object_path o))) (filter is_punch (things b.0)) (λ x. h))
      (all_together At (dkey_versions o) (things b.1) (λ x. dkey_paths x.name x.holds (k x.name) (l x.name)))

-- ---- one thing of a level alone speaks

pub any_false : {V : Type 0} (t : V → Bool) (Q : V → Type 0) (vs : List V) → All Q vs → ((v : V) → Q v → t v ≡ true → ⊥) → list_any t vs ≡ false
any_false t Q [] h n = refl
any_false {V = V} t Q (v ∷ vs) h n = by (t v) refl (any_false t Q vs (All-tail Q v vs h) n)
  where
    by : (b : Bool) → t v ≡ b → list_any t vs ≡ false → (b || list_any t vs) ≡ false
    by true e r = absurd (n v (All-head Q v vs h) e)
    by false e r = r

append_false : {V : Type 0} (t : V → Bool) (xs ys : List V) → list_any t xs ≡ false → list_any t ys ≡ false → list_any t (xs ++ ys) ≡ false
append_false t [] ys h k = k
append_false t (x ∷ xs) ys h k = by (t x) h (append_false t xs ys)
  where
    by : (b : Bool) → (b || list_any t xs) ≡ false → (list_any t xs ≡ false → list_any t ys ≡ false → list_any t (xs ++ ys) ≡ false) → (b || list_any t (xs ++ ys)) ≡ false
    by true e r = absurd (let n : ⊥ = cc in n)
    by false e r = r e k

itself : (o : Ordering) → o ≡ ordering_reverse o → o ≡ Equal
itself Less h = absurd (let n : ⊥ = cc in n)
itself Equal h = refl
itself Greater h = absurd (let n : ⊥ = cc in n)

-- a thing of the key is found by it
pub level_own : {A : Type 0} (L : Level A) (k : TreeKey) (a : A) → L.key a ≡ k → is_level L k a ≡ true
level_own L k a e = ap (λ z. chosen (key_cmp k z) false true false) e ∙ ap (λ (z : Ordering). chosen z false true false) (itself (key_cmp k k) (key_total.antisymm k k))

module _ {A : Type 0} (L : Level A) (k : TreeKey) (t : Version → Bool) (f : A → List Version) (quiet : (a : A) → L.Good a → is_level L k a ≡ false → list_any t (f a) ≡ false) where
  quiet_all : (xs : List A) → AllGood L xs → list_any (is_level L k) xs ≡ false → list_any t (together f xs) ≡ false
  quiet_all [] g h = refl
  quiet_all (x ∷ xs) g h =
      append_false t (f x) (together f xs) (quiet x g.0 (first_false (is_level L k x) (list_any (is_level L k) xs) h)) (quiet_all xs g.1 (then_false (is_level L k x) (list_any (is_level L k) xs) h))

  good_left : (left : List A) (a : A) (right : List A) → AllGood L (left ++ a ∷ right) → AllGood L left
  good_left [] a right h = tt
  good_left (x ∷ left) a right h = (h.0, good_left left a right h.1)

  good_right : (left : List A) (a : A) (right : List A) → AllGood L (left ++ a ∷ right) → AllGood L right
  good_right [] a right h = h.1
  good_right (x ∷ left) a right h = good_right left a right h.1

  last_none : (x : Option Version) → later_of version_key x None ≡ x
  last_none None = refl
  last_none (Some v) = refl

  -- the newest of all is that of the thing of the key
  pub newest_one : (m : Blocks) (g : Hung A) → Holds (hung L) m g → newest version_key t (together f (things g)) ≡ newest version_key t (listed f (find (is_level L k) (things g)))
  newest_one m g h =
      let good = all_good L (entries g.0) g.1 h.here.1.leads in
      elim (look L k (is_level L k) (tells_level L k) (entries g.0) g.1 h.here.1.leads h.here.1.rises) [
        | inl s ↦
            let a = s.1.0 in
            let p = s.1.1 in
            let good2 = subst (AllGood L) p.things_are good in
            let found : find (is_level L k) g.1 ≡ Some a = ap (find (is_level L k)) p.things_are ∙ find_spot (is_level L k) p.left a p.right p.none_left p.passes in
            let left = newest_none version_key t (together f p.left) (quiet_all p.left (good_left p.left a p.right good2) p.none_left) in
            let right = newest_none version_key t (together f p.right) (quiet_all p.right (good_right p.left a p.right good2) p.none_right) in
            ap (λ z. newest version_key t (together f z)) p.things_are
            ∙ (ap (newest version_key t) (together_append f p.left (a ∷ p.right))
            ∙ (newest_append version_key t (together f p.left) (f a ++ together f p.right)
            ∙ (ap (λ z. later_of version_key z (newest version_key t (f a ++ together f p.right))) left
            ∙ (newest_append version_key t (f a) (together f p.right)
            ∙ (ap (later_of version_key (newest version_key t (f a))) right
            ∙ (last_none (newest version_key t (f a)) ∙ ap (λ z. newest version_key t (listed f z)) (sym found)))))))
        | inr n ↦
            newest_none version_key t (together f g.1) (quiet_all g.1 good n.none) ∙ ap (λ z. newest version_key t (listed f z)) (sym (find_none (is_level L k) g.1 n.none))
      ]
