-- Akeys, dkeys and objects that are read stand, with all that is below them.
use Rattle.std.proofs.Common.{◌≡◌, ℕ, ◌+◌, ◌≤◌, ◌==◌, ◌&&◌, ◌||◌, nat_le, Bool, true, false, List, ◌++◌, refl, sym, ap, ◌∙◌, arith}
use Rattle.std.specs.Prelude.{All}
use Rattle.std.proofs.lemmas.Bool.Decides.{nat_tests}
use Rattle.pmem_pages.specs.Owners.{times, times-append}
use Rattle.pmem_pages.specs.declared.node.TreeKey.{TreeKey}
use Rattle.pmem_pages.specs.declared.node.Value.{Value}
use Rattle.vos_values.specs.declared.keys.Layout.{Layout}
use Rattle.vos_values.specs.declared.keys.Layout.TheVariants.{Two}
use Rattle.vos_values.specs.declared.keys.ObjectKey.{ObjectKey}
use Rattle.vos_values.specs.declared.values.AkeyRoots.{AkeyRoots}
use Rattle.vos_values.specs.declared.values.Roots.{Roots}
use Rattle.vos_values.specs.Fields.{IsByteKey, IsByteValue}
use Rattle.vos_values.specs.Keys.{IsName, IsObjectKey, has_sizes, name_key, object_key}
use Rattle.vos_values.specs.Values.{IsAkeyRoots, IsRoots, akey_value, roots_value}
use Rattle.vos_values.proofs.KeyLaws.{names_exact}
use Rattle.vos_values.proofs.ObjectLaws.{objects_exact}
use Rattle.vos_values.proofs.ValueLaws.{akeys_exact, roots_exact}
use Rattle.vos_entries.specs.vos_levels.Levels.{Hung, Level, hung, hung_root, things}
use Rattle.vos_path.specs.vos_ilog.Logs.{Log, log_level, log_owner}
use Rattle.vos_path.specs.vos_single.Singles.{single_level, single_owner}
use Rattle.vos_path.specs.vos_extent.Extents.{extent_level, extent_owner}
use Rattle.vos_path.specs.Objects.{Below, akey_level, below_owner, below_roots, dkey_level, object_level, objects_owner}
use Rattle.vos_image.specs.Steps.{Step, ◌>>=◌, give}
use Rattle.vos_image.specs.Laws.{IsOfBytes}
use Rattle.vos_image.specs.Content.{Content, shown}
use Rattle.vos_image.specs.Fits.{AkeyFits, DkeyFits, ExtentFits, LogFits, ObjectFits, SingleFits}
use Rattle.vos_image.specs.Kinds.{akeys, dkeys, extents, is_name_length, is_object_length, logs, objects, read_akey_roots, read_name, read_object, read_roots, singles}
use Rattle.vos_image.specs.Trees.{read_tree}
use Rattle.vos_image.proofs.LevelsStand.{ExtentRead, ExtentValued, MarkValued, MomentRead, SingleValued, chain_roots, extents_given, logs_given, singles_given}
use Rattle.vos_image.proofs.Reading.{IsLink, Tells, says_what, tells_given, tells_linked, tells_ruled, tells_said, tells_then}
use Rattle.vos_image.proofs.Standing.{Gives, Made, StandsRead, tree_stands}
use Rattle.vos_image.proofs.Steps.{Tally, none, root_tally}

-- ---- trees of versions

module _ (c : Content) (of_bytes : IsOfBytes c.bytes) where
  log_stands : (b : ℕ) → IsLink c b → Tells (read_tree logs c b) (StandsRead log_level c (LogFits c) b) (root_tally b) (λ g q. times q (log_owner.owned g))
  log_stands b link = tree_stands logs log_level c (LogFits c) (MomentRead c) MarkValued (λ _. none) (logs_given c) of_bytes b link

  singles_stand : (b : ℕ) → IsLink c b → Tells (read_tree singles c b) (StandsRead single_level c (SingleFits c) b) (root_tally b) (λ g q. times q (single_owner.owned g))
  singles_stand b link = tree_stands singles single_level c (SingleFits c) (MomentRead c) (SingleValued c) chain_roots (singles_given c of_bytes) of_bytes b link

  extents_stand : (unit b : ℕ) → IsLink c b → Tells (read_tree (extents unit) c b) (StandsRead extent_level c (ExtentFits c unit) b) (root_tally b) (λ g q. times q (extent_owner.owned g))
  extents_stand unit b link = tree_stands (extents unit) extent_level c (ExtentFits c unit) (ExtentRead c) (ExtentValued c unit) chain_roots (extents_given c unit of_bytes) of_bytes b link

-- ---- names

pub record NameRead (n : List ℕ) (k : TreeKey) : Type 0 where
  pub good : IsName n
  pub is : name_key n ≡ k

name_told : (c : Content) (at : ℕ) (k : TreeKey) → Tells (read_name c at k) (λ n. IsByteKey k → NameRead n k) none (λ _. none)
name_told c at k = says_what _ _ _ (λ n e byte. let both = names_exact.back k n byte e in record { good = both.0; is = both.1 })

name_short : (c : Content) (n : ℕ) → is_name_length c n ≡ true → n ≤ 64
name_short c n h = grind (arith, nat_tests)

-- ---- akeys

pub record AkeyRead (c : Content) (r : AkeyRoots) (v : Value) : Type 0 where
  pub good : IsAkeyRoots r
  pub is : akey_value r ≡ v
  pub log : IsLink c r.log
  pub one : IsLink c r.singles
  pub many : IsLink c r.extents

abbrev pub AkeyValued : Content → List ℕ → AkeyRoots → Value → Type 0
AkeyValued c n r v = AkeyRead c r v

abbrev pub akey_roots : AkeyRoots → Tally
akey_roots r q = root_tally r.log q + (root_tally r.singles q + root_tally r.extents q)

akey_told : (c : Content) (at : ℕ) (n : List ℕ) (v : Value) → Tells (read_akey_roots c at n v) (λ r. IsByteValue 3 v → AkeyRead c r v) none akey_roots
akey_told c at n v =
    tells_said _ _ _ _ _ _ (λ r e.
    tells_linked c _ r.log _ _ _ _ (λ log.
    tells_linked c _ r.singles _ _ _ _ (λ one.
    tells_linked c _ r.extents _ _ _ _ (λ many.
    tells_given _ _ _ _ (λ byte. let both = akeys_exact.back v r byte e in record { good = both.0; is = both.1; log = log; one = one; many = many }) (λ q. omega arith)))))

rooted : (r : AkeyRoots) (log one many : ℕ) → log ≡ r.log → one ≡ r.singles → many ≡ r.extents → record { log = log; singles = one; extents = many } ≡ r
rooted r log one many a b d = λ i. record { log = a i; singles = b i; extents = d i }

pub akeys_given : (c : Content) (unit : ℕ) → IsOfBytes c.bytes → Gives (akeys unit) akey_level c (AkeyFits c unit) NameRead (AkeyValued c) akey_roots
akeys_given c unit of_bytes = record {
  kind = refl;
  short = name_short c;
  name = name_told c;
  value = akey_told c;
  thing = λ n r k v named valued.
      tells_then _ _ _ _ (root_tally r.log) (λ g q. times q (log_owner.owned g)) _ _ (λ q. root_tally r.singles q + root_tally r.extents q) (log_stands c of_bytes r.log valued.log) (λ q. refl) (λ log log_is.
      tells_then _ _ _ _ (root_tally r.singles) (λ g q. times q (single_owner.owned g)) _ _ (λ q. times q (log_owner.owned log) + root_tally r.extents q) (singles_stand c of_bytes r.singles valued.one) (λ q. omega arith) (λ one one_is.
      tells_then _ _ _ _ (root_tally r.extents) (λ g q. times q (extent_owner.owned g)) _ _ (λ q. times q (log_owner.owned log) + times q (single_owner.owned one)) (extents_stand c of_bytes unit r.extents valued.many) (λ q. omega arith) (λ many many_is.
      tells_given _ _ _ _
      (record {
        key = sym named.is;
        value = sym valued.is ∙ ap akey_value (sym (rooted r (hung_root log) (hung_root one) (hung_root many) log_is.root one_is.root many_is.root));
        good = named.good;
        fits = record { log = log_is.fit; singles = one_is.fit; extents = many_is.fit };
        here = (log_is.here, (one_is.here, many_is.here));
      })
      (λ q. omega (arith, times-append q (log_owner.owned log) (single_owner.owned one ++ extent_owner.owned many), times-append q (single_owner.owned one) (extent_owner.owned many))))));
}

-- ---- what has a log and a tree of further things

pub record RootsRead (c : Content) (r : Roots) (v : Value) : Type 0 where
  pub good : IsRoots r
  pub is : roots_value r ≡ v
  pub log : IsLink c r.log
  pub below : IsLink c r.below

abbrev pub below_tally : Roots → Tally
below_tally r q = root_tally r.log q + root_tally r.below q

roots_told : {N : Type 0} (c : Content) (at kind : ℕ) (n : N) (v : Value) → (IsByteValue kind v → IsByteValue 1 v) → Tells (read_roots c at n v) (λ r. IsByteValue kind v → RootsRead c r v) none below_tally
roots_told c at kind n v as_one =
    tells_said _ _ _ _ _ _ (λ r e.
    tells_linked c _ r.log _ _ _ _ (λ log.
    tells_linked c _ r.below _ _ _ _ (λ below.
    tells_given _ _ _ _ (λ byte. let both = roots_exact.back v r (as_one byte) e in record { good = both.0; is = both.1; log = log; below = below }) (λ q. omega arith))))

two_rooted : (r : Roots) (log below : ℕ) → log ≡ r.log → below ≡ r.below → record { log = log; below = below } ≡ r
two_rooted r log below a b = λ i. record { log = a i; below = b i }

-- what stands below two roots
record BelowStands {A : Type 0} (L : Level A) (c : Content) (Fits : A → Type 0) (r : Roots) (b : Below A) : Type 0 where
  is : below_roots b ≡ r
  here : (below_owner L).stands (shown c) b
  log : All (LogFits c) (things b.0)
  below : All Fits (things b.1)

below_stands : {A R : Type 0} (L : Level A) (c : Content) (Fits : A → Type 0) (r : Roots) (x : Step (Hung A)) (f : Log → Hung A → R) (P : R → Type 0) (to : R → Tally)
    → IsOfBytes c.bytes → IsLink c r.log
    → Tells x (StandsRead L c Fits r.below) (root_tally r.below) (λ g q. times q ((hung L).owned g))
    → ((b : Below A) → BelowStands L c Fits r b → P (f b.0 b.1))
    → ((b : Below A) (q : ℕ) → to (f b.0 b.1) q ≡ times q ((below_owner L).owned b))
    → Tells (read_tree logs c r.log >>= λ log. x >>= λ tree. give (f log tree)) P (below_tally r) to
below_stands L c Fits r x f P to of_bytes link tree fact count =
    tells_then _ _ _ _ (root_tally r.log) (λ g q. times q (log_owner.owned g)) _ _ (root_tally r.below) (log_stands c of_bytes r.log link) (λ q. refl) (λ log log_is.
    tells_then _ _ _ _ (root_tally r.below) (λ g q. times q ((hung L).owned g)) _ _ (λ q. times q (log_owner.owned log)) tree (λ q. omega arith) (λ below below_is.
    tells_given (f log below) P _ to
    (fact (log, below) (record { is = two_rooted r (hung_root log) (hung_root below) log_is.root below_is.root; here = (log_is.here, below_is.here); log = log_is.fit; below = below_is.fit }))
    (λ q. omega (arith, count (log, below) q, times-append q (log_owner.owned log) ((hung L).owned below)))))

-- ---- dkeys

abbrev pub DkeyValued : Content → List ℕ → Roots → Value → Type 0
DkeyValued c n r v = RootsRead c r v

pub dkeys_given : (c : Content) (unit : ℕ) → IsOfBytes c.bytes → Gives (dkeys unit) dkey_level c (DkeyFits c unit) NameRead (DkeyValued c) below_tally
dkeys_given c unit of_bytes = record {
  kind = refl;
  short = name_short c;
  name = name_told c;
  value = λ at n v. roots_told c at 2 n v (λ byte. record { value = record { fits = byte.value.fits; room = byte.value.room; rest = byte.value.rest }; are_bytes = byte.are_bytes });
  thing = λ n r k v named valued.
      below_stands akey_level c (AkeyFits c unit) r (read_tree (akeys unit) c r.below) (λ log tree. record { name = n; holds = (log, tree) }) (Made dkey_level c (DkeyFits c unit) k v) (λ a q. times q (dkey_level.owner.owned a)) of_bytes valued.log
      (tree_stands (akeys unit) akey_level c (AkeyFits c unit) NameRead (AkeyValued c) akey_roots (akeys_given c unit of_bytes) of_bytes r.below valued.below)
      (λ b stands. record { key = sym named.is; value = sym valued.is ∙ ap roots_value (sym stands.is); good = named.good; fits = record { log = stands.log; akeys = stands.below }; here = stands.here })
      (λ b q. refl);
}

-- ---- objects

pub record ObjectRead (c : Content) (o : ObjectKey) (k : TreeKey) : Type 0 where
  pub good : IsObjectKey c.layout o
  pub is : object_key o ≡ k

object_told : (c : Content) (at : ℕ) (k : TreeKey) → Tells (read_object c at k) (λ o. IsByteKey k → ObjectRead c o k) none (λ _. none)
object_told c at k = tells_ruled _ _ _ _ _ _ (λ class. says_what _ _ _ (λ o e byte. let both = (objects_exact c.layout).back k o byte e in record { good = both.0; is = both.1 }))

object_short : (c : Content) (n : ℕ) → is_object_length c n ≡ true → n ≤ 64
object_short c n h = by (has_sizes c.layout) h
  where
    by : (t : Bool) → ((n == 25) || (t && (n == 26))) ≡ true → n ≤ 64
    by true k = grind (arith, nat_tests)
    by false k = grind (arith, nat_tests)

in_any : (a b s : Bool) → (a && b && s) ≡ true → (a && b && true) ≡ true
in_any true true s h = refl
in_any true false s h = let no : ⊥ = cc in absurd no
in_any false true s h = let no : ⊥ = cc in absurd no
in_any false false s h = let no : ⊥ = cc in absurd no

good_in_two : (l : Layout) (o : ObjectKey) → IsObjectKey l o → IsObjectKey Two o
good_in_two l o h = record { cont = h.cont; number = h.number; size = in_any (nat_le 1 o.obj.unit) (nat_le o.obj.unit 64) (has_sizes l || (o.obj.unit == 1)) h.size }

abbrev pub ObjectValued : Content → ObjectKey → Roots → Value → Type 0
ObjectValued c o r v = RootsRead c r v

pub objects_given : (c : Content) → IsOfBytes c.bytes → Gives objects object_level c (ObjectFits c) (ObjectRead c) (ObjectValued c) below_tally
objects_given c of_bytes = record {
  kind = refl;
  short = object_short c;
  name = object_told c;
  value = λ at o v. roots_told c at 1 o v (λ byte. byte);
  thing = λ o r k v named valued.
      below_stands dkey_level c (DkeyFits c o.obj.unit) r (read_tree (dkeys o.obj.unit) c r.below) (λ log tree. record { name = o; holds = (log, tree) }) (Made object_level c (ObjectFits c) k v) (λ a q. times q (object_level.owner.owned a)) of_bytes valued.log
      (tree_stands (dkeys o.obj.unit) dkey_level c (DkeyFits c o.obj.unit) NameRead (DkeyValued c) below_tally (dkeys_given c o.obj.unit of_bytes) of_bytes r.below valued.below)
      (λ b stands. record { key = sym named.is; value = sym valued.is ∙ ap roots_value (sym stands.is); good = good_in_two c.layout o named.good; fits = record { size = named.good.size; log = stands.log; dkeys = stands.below }; here = stands.here })
      (λ b q. refl);
}

-- Objects that are read stand below their root, with all that is below them.
pub objects_stand : (c : Content) (b : ℕ) → IsOfBytes c.bytes → IsLink c b → Tells (read_tree objects c b) (StandsRead object_level c (ObjectFits c) b) (root_tally b) (λ g q. times q (objects_owner.owned g))
objects_stand c b of_bytes link = tree_stands objects object_level c (ObjectFits c) (ObjectRead c) (ObjectValued c) below_tally (objects_given c of_bytes) of_bytes b link
