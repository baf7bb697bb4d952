-- Each cell of the map below an epoch has an object, and the names of a dkey and of an akey, which are keys.
use Rattle.std.proofs.Common.{◌≡◌, ℕ, Bool, true, false, List, [], ◌∷◌, ◌++◌, Option, Some, None, map, refl, sym, ◌∙◌, subst, arith}
use Rattle.std.specs.Prelude.{All, filter, if◌then◌else◌}
use Rattle.std.proofs.lemmas.List.Elements.{All-append, All-cons, All-head, All-nil, All-tail}
use Rattle.base_types.specs.declared.operation.Write.{Write}
use Rattle.base_types.specs.declared.operation.Write.TheVariants.{PunchAkey, PunchDkey, PunchObject}
use Rattle.base_types.specs.declared.path.Path.{Path}
use Rattle.daos_model.specs.Answers.{is_before}
use Rattle.daos_model.specs.BoolLaws.{and_right}
use Rattle.daos_model.specs.Cells.{value_at}
use Rattle.daos_model.specs.Durables.{version_key}
use Rattle.daos_model.specs.Ordered.{in_order}
use Rattle.daos_model.specs.Prunes.{is_punch as is_punch_write, touches, values_of}
use Rattle.daos_model.specs.Versions.{map_below, sees, version_path}
use Rattle.daos_model.specs.declared.cell.Cell.{Cell}
use Rattle.daos_model.specs.declared.durable.Version.{Version}
use Rattle.model_laws.specs.ReadLaws.{Held}
use Rattle.model_laws.specs.TouchLaws.{update-path}
use Rattle.pmem_pages.specs.Blocks.{Blocks}
use Rattle.pmem_pages.specs.Owners.{Holds, each, owned_each, times-append}
use Rattle.pmem_pages.specs.Shape.{entries}
use Rattle.vos_values.specs.declared.keys.Layout.TheVariants.{Two}
use Rattle.vos_values.specs.declared.keys.ObjectKey.{ObjectKey}
use Rattle.vos_values.specs.Keys.{IsName, IsObjectKey}
use Rattle.vos_levels.specs.Levels.{Hung, Level, hung, things}
use Rattle.vos_levels.proofs.Changing.{holds_each}
use Rattle.vos_levels.proofs.Testing.{AllGood, all_good}
use Rattle.vos_ilog.specs.declared.ilog.LogEntry.{LogEntry}
use Rattle.vos_ilog.specs.Logs.{log_owner}
use Rattle.vos_path.specs.vos_single.Singles.{versions}
use Rattle.vos_extent.specs.Extents.{extents}
use Rattle.vos_newest.specs.Newest.{later_of, newest, speaks, told}
use Rattle.vos_newest.proofs.Speaking.{cell_holds}
use Rattle.vos_path.specs.Objects.{Dkey, Object, Objects, Values, akey_level, akey_path, akey_versions, akeys_versions, below_owner, dkey_level, dkey_path, dkey_versions, dkeys_versions, extent_version, is_punch, object_level, object_path, object_versions, objects_owner, objects_versions, punch_version, punches, single_version, together, values_versions}
use Rattle.vos_path.proofs.Written.{holds_second}
use Rattle.vos_lists.proofs.Reading.{below_in}

-- a path goes down to an akey of an object, and its names are keys
pub record IsFull (p : Path) : Type 0 where
  pub object : ObjectKey
  pub cont_is : p.cont ≡ object.cont
  pub obj_is : p.obj ≡ Some object.obj
  pub is_object : IsObjectKey Two object
  pub dkey : List ℕ
  pub akey : List ℕ
  pub dkey_is : p.dkey ≡ Some dkey
  pub akey_is : p.akey ≡ Some akey
  pub is_dkey : IsName dkey
  pub is_akey : IsName akey

-- an update goes down to an akey
abbrev Named : Version → Type 0
Named v = is_punch_write v.write ≡ false → IsFull (version_path v)

-- ---- what holds of the versions of each thing holds of all

all_each : {A V : Type 0} (L : Level A) (m : Blocks) (P : V → Type 0) (f : A → List V) → ((a : A) → L.Good a → Holds L.owner m a → All P (f a)) → (xs : List A) → Holds (each L.owner) m xs → AllGood L xs → All P (together f xs)
all_each L m P f h [] held good = All-nil P
all_each L m P f h (x ∷ xs) held good =
    let first : Holds L.owner m x = record { here = held.here.0; apart = λ q. omega (arith, held.apart q, times-append q (L.owner.owned x) (owned_each L.owner xs)) } in
    let rest : Holds (each L.owner) m xs = record { here = held.here.1; apart = λ q. omega (arith, held.apart q, times-append q (L.owner.owned x) (owned_each L.owner xs)) } in
    All-append P (f x) (together f xs) (h x good.0 first) (all_each L m P f h xs rest good.1)

pub all_things : {A V : Type 0} (L : Level A) (m : Blocks) (P : V → Type 0) (f : A → List V) → ((a : A) → L.Good a → Holds L.owner m a → All P (f a)) → (g : Hung A) → Holds (hung L) m g → All P (together f (things g))
all_things L m P f h g held = all_each L m P f h (things g) (holds_each L m g held) (all_good L (entries g.0) (things g) held.here.1.leads)

pub all_weaker : {V : Type 0} (P Q : V → Type 0) → ((v : V) → P v → Q v) → (vs : List V) → All P vs → All Q vs
all_weaker P Q f [] h = All-nil Q
all_weaker P Q f (v ∷ vs) h = All-cons Q v vs (f v (All-head P v vs h)) (all_weaker P Q f vs (All-tail P v vs h))

-- ---- versions

punches_named : (w : Write) → is_punch_write w ≡ true → (es : List LogEntry) → All Named (map (punch_version w) es)
punches_named w h [] = All-nil Named
punches_named w h (e ∷ es) = All-cons Named (punch_version w e) (map (punch_version w) es) (λ no. absurd (let z : true ≡ false = sym h ∙ no in let n : ⊥ = cc in n)) (punches_named w h es)

full_akey : (o : ObjectKey) (d a : List ℕ) → IsObjectKey Two o → IsName d → IsName a → IsFull (akey_path o d a)
full_akey o d a ho hd ha = record { object = o; cont_is = refl; obj_is = refl; is_object = ho; dkey = d; akey = a; dkey_is = refl; akey_is = refl; is_dkey = hd; is_akey = ha }

all_full : {T : Type 0} (p : Path) → IsFull p → (f : T → Version) → ((x : T) → version_path (f x) ≡ p) → (xs : List T) → All Named (map f xs)
all_full p full f at [] = All-nil Named
all_full p full f at (x ∷ xs) = All-cons Named (f x) (map f xs) (λ no. subst IsFull (sym (at x)) full) (all_full p full f at xs)

values_named : (p : Path) → IsFull p → (a : Values) → All Named (values_versions p a)
values_named p full a =
    All-append Named (punches (PunchAkey p) a.0) (map (single_version p) (versions a.1.0) ++ map (extent_version p) (extents a.1.1)) (punches_named (PunchAkey p) refl (filter is_punch (things a.0)))
    (All-append Named (map (single_version p) (versions a.1.0)) (map (extent_version p) (extents a.1.1)) (all_full p full (single_version p) (λ x. refl) (versions a.1.0)) (all_full p full (extent_version p) (λ x. refl) (extents a.1.1)))

dkey_named : (m : Blocks) (o : ObjectKey) → IsObjectKey Two o → (x : Dkey) → IsName x.name → Holds dkey_level.owner m x → All Named (dkey_versions o x)
dkey_named m o object x name held =
    All-append Named (punches (PunchDkey (dkey_path o x.name)) x.holds.0) (akeys_versions o x.name x.holds.1) (punches_named (PunchDkey (dkey_path o x.name)) refl (filter is_punch (things x.holds.0)))
    (all_things akey_level m Named (akey_versions o x.name) (λ a good h. values_named (akey_path o x.name a.name) (full_akey o x.name a.name object name good) a.holds) x.holds.1 (holds_second log_owner (hung akey_level) m x.holds (below_in m x held)))

object_named : (m : Blocks) (x : Object) → IsObjectKey Two x.name → Holds object_level.owner m x → All Named (object_versions x)
object_named m x object held =
    let all : Holds (below_owner dkey_level) m x.holds = record { here = held.here; apart = held.apart } in
    All-append Named (punches (PunchObject (object_path x.name)) x.holds.0) (dkeys_versions x.name x.holds.1) (punches_named (PunchObject (object_path x.name)) refl (filter is_punch (things x.holds.0)))
    (all_things dkey_level m Named (dkey_versions x.name) (λ d good h. dkey_named m x.name object d good h) x.holds.1 (holds_second log_owner (hung dkey_level) m x.holds all))

objects_named : (m : Blocks) (g : Objects) → Holds objects_owner m g → All Named (objects_versions g)
objects_named m g held = all_things object_level m Named object_versions (λ x good h. object_named m x good h) g held

-- ---- cells

-- the newest of those that pass passes, and what holds of all holds of it
record Passes (test : Version → Bool) (Q : Version → Type 0) (v : Version) : Type 0 where
  passes : test v ≡ true
  holds : Q v

newest_passes : (test : Version → Bool) (Q : Version → Type 0) (vs : List Version) (v : Version) → All Q vs → newest version_key test vs ≡ Some v → Passes test Q v
newest_passes test Q [] v all h = absurd (let n : ⊥ = cc in n)
newest_passes test Q (u ∷ vs) v all h = by (newest_passes test Q vs v (All-tail Q u vs all)) (test u) refl (newest version_key test vs) refl h
  where
    inside : (x y : Version) → Some x ≡ Some y → x ≡ y
    inside x y e = cc

    mine : test u ≡ true → u ≡ v → Passes test Q v
    mine e same = subst (Passes test Q) same (record { passes = e; holds = All-head Q u vs all })

    by : (newest version_key test vs ≡ Some v → Passes test Q v) → (t : Bool) → test u ≡ t → (x : Option Version) → newest version_key test vs ≡ x → later_of version_key (if t then Some u else None) x ≡ Some v → Passes test Q v
    by rest false e x f k = rest (f ∙ k)
    by rest true e None f k = mine e (inside u v k)
    by rest true e (Some x) f k = split (is_before (version_key x) (version_key u)) k
      where
        split : (s : Bool) → (if s then Some u else Some x) ≡ Some v → Passes test Q v
        split true z = mine e (inside u v z)
        split false z = rest (f ∙ z)

pub held_full : (m : Blocks) (g : Objects) → Holds objects_owner m g → (e : ℕ) (c : Cell) → Held (map_below (in_order version_key (objects_versions g)) e) c → IsFull c.path
held_full m g held e c h = by (newest version_key (speaks e c) (objects_versions g)) refl (sym (cell_holds (objects_versions g) e c) ∙ h.is)
  where
    by : (x : Option Version) → newest version_key (speaks e c) (objects_versions g) ≡ x → told c x ≡ Some h.bytes → IsFull c.path
    by None f k = absurd (let n : ⊥ = cc in n)
    by (Some v) f k = split (is_punch_write v.write) refl k
      where
        split : (t : Bool) → is_punch_write v.write ≡ t → (if t then None else value_at (values_of v.write) c) ≡ Some h.bytes → IsFull c.path
        split true p z = absurd (let n : ⊥ = cc in n)
        split false p z =
            let s = newest_passes (speaks e c) Named (objects_versions g) v (objects_named m g held) f in
            let at : touches c v.write ≡ true = and_right (sees e v) (touches c v.write) s.passes in
            subst IsFull (update-path v.write c p at) (s.holds p)
