-- What becomes of the nodes on the way to a write: of its akey, its dkey and its object. All others stay as they are.
use Rattle.std.specs.Prelude.{◌≡◌, ◌⊎◌, ◌+◌, ℕ, Bool, true, false, List, ◌∷◌, ◌++◌, Option, Some, None, ◌==◌, ◌&&◌}
use Rattle.std.specs.List.{find, list_any}
use Rattle.base_types.specs.declared.path.Path.{Path}
use Rattle.pmem_pages.specs.Blocks.{Blocks}
use Rattle.pmem_pages.specs.Owners.{Changed, Owner}
use Rattle.vos_values.specs.declared.keys.ObjectKey.{ObjectKey}
use Rattle.vos_values.specs.declared.values.AkeyRoots.{AkeyRoots}
use Rattle.vos_values.specs.declared.values.Roots.{Roots}
use Rattle.vos_values.specs.Keys.{name_key, object_key}
use Rattle.vos_levels.specs.Levels.{Hung, is_level, things}
use Rattle.vos_ilog.specs.declared.ilog.LogEntry.{LogEntry}
use Rattle.vos_path.specs.vos_single.Singles as single
use Rattle.vos_path.specs.vos_extent.Extents as extent
use Rattle.vos_path.specs.Objects.{Akey, Below, Branch, Dkey, Object, Values, akey_level, dkey_level, object_level, or_none}
use Rattle.vos_settle.specs.declared.task.Task.{Task}
use Rattle.vos_settle.specs.declared.task.WriteKind.{WriteKind}
use Rattle.vos_settle.specs.declared.task.WriteKind.TheVariants as kind
use Rattle.vos_settle.specs.Tasks.{extents_after, log_freed, log_after, noted_after, noted_freed, place_at, punched_after, punched_freed, singles_after, which_of}

-- A thing became another, to which these roots lead, and this holds of the two: no other block changed.
pub record Turned {G R : Type 0} (O : Owner G) (roots : G → R) (m : Blocks) (g : G) (n : Blocks) (at : R) (Q : G → G → Type 0) : Type 0 where
  pub now : G
  pub changed : Changed O m g n now
  pub roots_are : at ≡ roots now
  pub so : Q g now

-- the one that passes a test has another in its place, and this holds of the two: the others are the same
pub record OneOther {A : Type 0} (test : A → Bool) (Q : A → A → Type 0) (xs ys : List A) : Type 0 where
  pub left : List A
  pub right : List A
  pub was : A
  pub now : A
  pub before_is : xs ≡ left ++ was ∷ right
  pub after_is : ys ≡ left ++ now ∷ right
  pub passes : test was ≡ true
  pub none_left : list_any test left ≡ false
  pub none_right : list_any test right ≡ false
  pub so : Q was now

-- none passes the test, and the list stays
pub record NoneOther {A : Type 0} (test : A → Bool) (xs ys : List A) : Type 0 where
  pub none : list_any test xs ≡ false
  pub same : ys ≡ xs

abbrev pub ChangesOne : {A : Type 0} → (A → Bool) → (A → A → Type 0) → List A → List A → Type 0
ChangesOne test Q xs ys = OneOther test Q xs ys ⊎ NoneOther test xs ys

-- ---- roots

abbrev pub are_akey_roots : AkeyRoots → AkeyRoots → Bool
are_akey_roots a b = (a.log == b.log) && (a.singles == b.singles) && (a.extents == b.extents)

abbrev pub are_roots : Roots → Roots → Bool
are_roots a b = (a.log == b.log) && (a.below == b.below)

-- ---- an akey

-- its log, the versions of its single value, and its extents
pub record ValuesTurn (t : Task) (a b : Values) : Type 0 where
  pub log : things b.0 ≡ log_after (which_of t.kind t.by) t.change t.at (things a.0)
  pub singles : single.versions b.1.0 ≡ singles_after t (single.versions a.1.0)
  pub extents : extent.extents b.1.1 ≡ extents_after t (extent.extents a.1.1)

abbrev pub values_count : WriteKind → Task → Values → ℕ
values_count kind.Punch t a = 0
values_count kind.Single t a = single.freed_at t.change t.at (single.versions a.1.0)
values_count (kind.Extent low) t a = extent.freed_at t.change (place_at t.at low) (extent.extents a.1.1)

-- the blocks that the change gives back
abbrev pub values_freed : Task → Values → ℕ
values_freed t a = values_count t.kind t a + log_freed (which_of t.kind t.by) t.change t.at (things a.0)

pub record AkeyTurn (t : Task) (a b : Akey) : Type 0 where
  pub name : b.name ≡ a.name
  pub holds : ValuesTurn t a.holds b.holds

abbrev pub is_akey : List ℕ → Akey → Bool
is_akey name a = is_level akey_level (name_key name) a

-- the akeys of a dkey, of which one is named
abbrev pub AkeysTurn : Task → List ℕ → Hung Akey → Hung Akey → Type 0
AkeysTurn t name g h = ChangesOne (is_akey name) (AkeyTurn t) (things g) (things h)

-- what one of a list gives back, if there is one
abbrev pub one_freed : {A : Type 0} → (A → ℕ) → (A → Bool) → List A → ℕ
one_freed f test xs = or_none f 0 (find test xs)

abbrev pub akey_freed : Task → Akey → ℕ
akey_freed t a = values_freed t a.holds

abbrev pub akeys_freed : Task → List ℕ → Hung Akey → ℕ
akeys_freed t name g = one_freed (akey_freed t) (is_akey name) (things g)

-- ---- a dkey

-- Its log, and its akeys where the path goes on to one.
pub record BelowTurn {A : Type 0} (Q : Hung A → Hung A → Type 0) (after : List LogEntry → List LogEntry) (a b : Below A) : Type 0 where
  pub log : things b.0 ≡ after (things a.0)
  pub tree : Q a.1 b.1

abbrev pub StaysSo : {A : Type 0} → Hung A → Hung A → Type 0
StaysSo a b = b ≡ a

abbrev pub DkeyTurn : Task → Option (List ℕ) → Below Akey → Below Akey → Type 0
DkeyTurn t None a b = BelowTurn StaysSo (punched_after t) a b
DkeyTurn t (Some name) a b = BelowTurn (AkeysTurn t name) (noted_after t) a b

abbrev pub below_dkey_freed : Task → Option (List ℕ) → Below Akey → ℕ
below_dkey_freed t None a = punched_freed t (things a.0)
below_dkey_freed t (Some name) a = akeys_freed t name a.1 + noted_freed t (things a.0)

-- the name stays, and this holds of what is below
pub record BranchTurn {N A : Type 0} (Q : Below A → Below A → Type 0) (a b : Branch N A) : Type 0 where
  pub name : b.name ≡ a.name
  pub holds : Q a.holds b.holds

abbrev pub is_dkey : List ℕ → Dkey → Bool
is_dkey name k = is_level dkey_level (name_key name) k

-- the dkeys of an object, of which one is named
abbrev pub DkeysTurn : Task → List ℕ → Option (List ℕ) → Hung Dkey → Hung Dkey → Type 0
DkeysTurn t name akey g h = ChangesOne (is_dkey name) (BranchTurn (DkeyTurn t akey)) (things g) (things h)

abbrev pub dkey_freed : Task → Option (List ℕ) → Dkey → ℕ
dkey_freed t akey k = below_dkey_freed t akey k.holds

abbrev pub dkeys_freed : Task → List ℕ → Option (List ℕ) → Hung Dkey → ℕ
dkeys_freed t name akey g = one_freed (dkey_freed t akey) (is_dkey name) (things g)

-- ---- an object

abbrev pub ObjectTurn : Task → Option (List ℕ) → Option (List ℕ) → Below Dkey → Below Dkey → Type 0
ObjectTurn t None akey a b = BelowTurn StaysSo (punched_after t) a b
ObjectTurn t (Some name) akey a b = BelowTurn (DkeysTurn t name akey) (noted_after t) a b

abbrev pub below_object_freed : Task → Option (List ℕ) → Option (List ℕ) → Below Dkey → ℕ
below_object_freed t None akey a = punched_freed t (things a.0)
below_object_freed t (Some name) akey a = dkeys_freed t name akey a.1 + noted_freed t (things a.0)

abbrev pub is_object : ObjectKey → Object → Bool
is_object name o = is_level object_level (object_key name) o

abbrev pub OneObjectTurn : Task → ObjectKey → Path → Hung Object → Hung Object → Type 0
OneObjectTurn t name p g h = ChangesOne (is_object name) (BranchTurn (ObjectTurn t p.dkey p.akey)) (things g) (things h)

abbrev pub object_freed : Task → Path → Object → ℕ
object_freed t p o = below_object_freed t p.dkey p.akey o.holds

abbrev pub one_object_freed : Task → ObjectKey → Path → Hung Object → ℕ
one_object_freed t name p g = one_freed (object_freed t p) (is_object name) (things g)
