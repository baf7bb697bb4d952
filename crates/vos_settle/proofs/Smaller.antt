-- No tree has more pairs where a write was settled or pruned.
use Rattle.std.proofs.Common.{◌≡◌, ℕ, ◌≤◌, Bool, true, false, List, [], ◌∷◌, ◌++◌, length, Option, Some, None, sym, ap, ◌∙◌, subst, arith, inl, inr, length-append}
use Rattle.std.proofs.lemmas.List.{length-map}
use Rattle.std.specs.Prelude.{All, if◌then◌else◌}
use Rattle.std.proofs.lemmas.List.Elements.{All-append, All-cons, All-head, All-nil, All-tail}
use Rattle.base_types.specs.declared.path.Path.{Path}
use Rattle.pmem_pages.specs.Blocks.{Blocks}
use Rattle.pmem_pages.specs.Owners.{Holds, Owner, each}
use Rattle.pmem_pages.specs.Node.{key_cmp}
use Rattle.pmem_pages.specs.Shape.{chosen, entries}
use Rattle.pmem_pages.specs.declared.node.TreeKey.{TreeKey}
use Rattle.vos_values.specs.Keys.{name_key, object_key}
use Rattle.vos_levels.specs.Changes.{changed_by, keeps}
use Rattle.vos_levels.specs.Levels.{Hung, Level, hung, in_part, map_those, things, without_those}
use Rattle.vos_levels.proofs.Changing.{holds_each, holds_spot}
use Rattle.vos_levels.proofs.Spots.{same_length}
use Rattle.vos_ilog.specs.declared.ilog.LogEntry.{LogEntry}
use Rattle.vos_ilog.specs.Logs.{Log, done_entry, log_level, log_owner}
use Rattle.vos_path.specs.vos_single.declared.single.SingleVersion.{SingleVersion}
use Rattle.vos_path.specs.vos_single.Singles as single
use Rattle.vos_path.specs.vos_extent.declared.extent.ExtentVersion.{ExtentVersion}
use Rattle.vos_path.specs.vos_extent.Extents as extent
use Rattle.vos_path.specs.Objects.{Akey, Below, Dkey, Objects, Values, akey_level, below_owner, dkey_level, held_below, held_values, object_level, objects_owner, values_owner}
use Rattle.vos_path.specs.Small.{AkeysOnPathAreSmall, BelowDkeyOnPathIsSmall, BelowObjectOnPathIsSmall, DkeysOnPathAreSmall, NamedAkeyIsSmall, NamedDkeyIsSmall, NamedObjectIsSmall, PathIsSmall}
use Rattle.vos_path.specs.Writes.{AkeyIsSmall, AkeysAreSmall, BelowDkeyIsSmall, BelowObjectIsSmall, DkeyIsSmall, DkeysAreSmall, IsSmall, ObjectIsSmall, ObjectsAreSmall, ValuesAreSmall}
use Rattle.vos_path.proofs.Written.{holds_extent, holds_first, holds_log, holds_second, holds_single}
use Rattle.vos_values.specs.declared.keys.Moment.{Moment}
use Rattle.vos_values.specs.declared.keys.ObjectKey.{ObjectKey}
use Rattle.vos_levels.specs.declared.change.Change.{Change}
use Rattle.vos_settle.specs.declared.task.Task.{Task}
use Rattle.vos_settle.specs.declared.task.Which.{Which}
use Rattle.vos_settle.specs.declared.task.Which.TheVariants.{Creation, Punch}
use Rattle.vos_settle.specs.declared.task.WriteKind.{WriteKind}
use Rattle.vos_settle.specs.declared.task.WriteKind.TheVariants as kind
use Rattle.vos_settle.specs.Nodes.{AkeyTurn, AkeysTurn, BranchTurn, ChangesOne, DkeyTurn, DkeysTurn, ObjectTurn, OneObjectTurn, ValuesTurn}
use Rattle.vos_settle.specs.Tasks.{extents_after, extents_by, is_taken, is_update, log_after, noted_after, place_at, singles_after, singles_by, which_of}

-- ---- lists

map_length : {A : Type 0} (t : A → Bool) (f : A → A) (xs : List A) → length (map_those t f xs) ≤ length xs
map_length t f [] = omega arith
map_length t f (x ∷ xs) = omega (arith, map_length t f xs)

without_length : {A : Type 0} (t : A → Bool) (xs : List A) → length (without_those t xs) ≤ length xs
without_length t [] = omega arith
without_length t (x ∷ xs) = by (t x) (without_length t xs)
  where
    by : (b : Bool) → length (without_those t xs) ≤ length xs → length (if b then without_those t xs else x ∷ without_those t xs) ≤ length (x ∷ xs)
    by true h = omega arith
    by false h = omega arith

changed_length : {A : Type 0} (k : Bool) (t : A → Bool) (f : A → A) (xs : List A) → length (changed_by k t f xs) ≤ length xs
changed_length true t f xs = map_length t f xs
changed_length false t f xs = without_length t xs

-- ---- one tree

-- with no more things it has no more pairs
no_larger : {A : Type 0} (L : Level A) (m n : Blocks) (g h : Hung A) (d : ℕ) → Holds (hung L) m g → Holds (hung L) n h → length (things h) ≤ length (things g) → IsSmall d g → IsSmall d h
no_larger L m n g h d x y l small = omega (arith, small, l, same_length L (entries g.0) g.1 x.here.1.leads, same_length L (entries h.0) h.1 y.here.1.leads)

log_small : (m n : Blocks) (a b : Log) (d : ℕ) → Holds log_owner m a → Holds log_owner n b → (ws : List LogEntry) → things b ≡ ws → length ws ≤ length (things a) → IsSmall d a → IsSmall d b
log_small m n a b d x y ws e l small = no_larger log_level m n a b d x y (subst (λ z. length z ≤ length (things a)) (sym e) l) small

log_length : (w : Which) (c : Change) (m : Moment) (es : List LogEntry) → length (log_after w c m es) ≤ length es
log_length w c m es = changed_length (keeps c) (is_taken w c m) done_entry es

noted_length : (t : Task) (es : List LogEntry) → length (noted_after t es) ≤ length es
noted_length t es = by (is_update t.kind)
  where
    by : (b : Bool) → length (if b then log_after (Creation t.by) t.change t.at es else es) ≤ length es
    by true = log_length (Creation t.by) t.change t.at es
    by false = omega arith

-- ---- an akey

singles_length : (t : Task) (vs : List SingleVersion) → length (singles_after t vs) ≤ length vs
singles_length t vs = by t.kind
  where
    by : (k : WriteKind) → length (singles_by k t vs) ≤ length vs
    by kind.Punch = omega arith
    by kind.Single = changed_length (keeps t.change) (single.is_taken t.change t.at) single.done_version vs
    by (kind.Extent low) = omega arith

extents_length : (t : Task) (vs : List ExtentVersion) → length (extents_after t vs) ≤ length vs
extents_length t vs = by t.kind
  where
    by : (k : WriteKind) → length (extents_by k t vs) ≤ length vs
    by kind.Punch = omega arith
    by kind.Single = omega arith
    by (kind.Extent low) = changed_length (keeps t.change) (extent.is_taken t.change (place_at t.at low)) extent.done_extent vs

values_small : (t : Task) (m n : Blocks) (a b : Values) (d : ℕ) → Holds values_owner m a → Holds values_owner n b → ValuesTurn t a b → ValuesAreSmall d a → ValuesAreSmall d b
values_small t m n a b d x y w small =
    let singles : length (things b.1.0) ≤ length (things a.1.0) = let e = ap length w.singles in omega (arith, e, singles_length t (single.versions a.1.0), length-map (things a.1.0) single.version_of, length-map (things b.1.0) single.version_of) in
    let extents : length (things b.1.1) ≤ length (things a.1.1) = let e = ap length w.extents in omega (arith, e, extents_length t (extent.extents a.1.1), length-map (things a.1.1) extent.extent_of, length-map (things b.1.1) extent.extent_of) in (
      log_small m n a.0 b.0 d (holds_log m a x) (holds_log n b y) _ w.log (log_length (which_of t.kind t.by) t.change t.at (things a.0)) small.0,
      (
        no_larger single.single_level m n a.1.0 b.1.0 d (holds_single m a x) (holds_single n b y) singles small.1.0,
        no_larger extent.extent_level m n a.1.1 b.1.1 d (holds_extent m a x) (holds_extent n b y) extents small.1.1,
      ),
    )

-- ---- a tree of which one thing changes

All-left : {A : Type 0} (P : A → Type 0) (xs ys : List A) → All P (xs ++ ys) → All P xs
All-left P [] ys h = All-nil P
All-left P (x ∷ xs) ys h = All-cons P x xs (All-head P x (xs ++ ys) h) (All-left P xs ys (All-tail P x (xs ++ ys) h))

All-right : {A : Type 0} (P : A → Type 0) (xs ys : List A) → All P (xs ++ ys) → All P ys
All-right P [] ys h = h
All-right P (x ∷ xs) ys h = All-right P xs ys (All-tail P x (xs ++ ys) h)

module _ {A : Type 0} (L : Level A) (Small : A → Type 0) (test : A → Bool) (Q : A → A → Type 0) (m n : Blocks) (smaller : (a b : A) → Holds L.owner m a → Holds L.owner n b → Q a b → Small a → Small b) (g h : Hung A) (d : ℕ) (x : Holds (hung L) m g) (y : Holds (hung L) n h) where
  one_small : ChangesOne test Q (things g) (things h) → IsSmall d g × All Small (things g) → IsSmall d h × All Small (things h)
  one_small (inl o) s =
      let was = holds_spot L.owner m o.left o.was o.right (subst (λ z. Holds (each L.owner) m z) o.before_is (holds_each L m g x)) in
      let now = holds_spot L.owner n o.left o.now o.right (subst (λ z. Holds (each L.owner) n z) o.after_is (holds_each L n h y)) in
      let all = subst (All Small) o.before_is s.1 in
      let rest = All-right Small o.left (o.was ∷ o.right) all in
      let count : length (things h) ≤ length (things g) = let e = ap length o.before_is in let f = ap length o.after_is in omega (arith, e, f, length-append o.left (o.was ∷ o.right), length-append o.left (o.now ∷ o.right)) in (
        no_larger L m n g h d x y count s.0,
        subst (All Small) (sym o.after_is) (All-append Small o.left (o.now ∷ o.right) (All-left Small o.left (o.was ∷ o.right) all) (All-cons Small o.now o.right (smaller o.was o.now was now o.so (All-head Small o.was o.right rest)) (All-tail Small o.was o.right rest))),
      )
  one_small (inr o) s = (no_larger L m n g h d x y (let e = ap length o.same in omega (arith, e)) s.0, subst (All Small) (sym o.same) s.1)

-- a key is another one's
abbrev is_level_of : TreeKey → TreeKey → Bool
is_level_of k key = chosen (key_cmp k key) false true false

-- ---- down the levels

part_holds : {A B : Type 0} (f : A → B) (O : Owner B) (m : Blocks) (a : A) → Holds (in_part f O) m a → Holds O m (f a)
part_holds f O m a h = record { here = h.here; apart = h.apart }

akeys_small : (t : Task) (name : List ℕ) (m n : Blocks) (g h : Hung Akey) (d : ℕ) → Holds (hung akey_level) m g → Holds (hung akey_level) n h → AkeysTurn t name g h → AkeysAreSmall d g → AkeysAreSmall d h
akeys_small t name m n g h d x y w s = one_small akey_level (AkeyIsSmall d) _ (AkeyTurn t) m n (λ a b p q r z. values_small t m n a.holds b.holds d (part_holds held_values values_owner m a p) (part_holds held_values values_owner n b q) r.holds z) g h d x y w s

below_dkey_small : (t : Task) (akey : Option (List ℕ)) (m n : Blocks) (a b : Below Akey) (d : ℕ) → Holds (below_owner akey_level) m a → Holds (below_owner akey_level) n b → DkeyTurn t akey a b → BelowDkeyIsSmall d a → BelowDkeyIsSmall d b
below_dkey_small t None m n a b d x y w s = (
  log_small m n a.0 b.0 d (holds_first log_owner (hung akey_level) m a x) (holds_first log_owner (hung akey_level) n b y) _ w.log (log_length Punch t.change t.at (things a.0)) s.0,
  subst (AkeysAreSmall d) (sym w.tree) s.1,
)
below_dkey_small t (Some name) m n a b d x y w s = (
  log_small m n a.0 b.0 d (holds_first log_owner (hung akey_level) m a x) (holds_first log_owner (hung akey_level) n b y) _ w.log (noted_length t (things a.0)) s.0,
  akeys_small t name m n a.1 b.1 d (holds_second log_owner (hung akey_level) m a x) (holds_second log_owner (hung akey_level) n b y) w.tree s.1,
)

dkeys_small : (t : Task) (name : List ℕ) (akey : Option (List ℕ)) (m n : Blocks) (g h : Hung Dkey) (d : ℕ) → Holds (hung dkey_level) m g → Holds (hung dkey_level) n h → DkeysTurn t name akey g h → DkeysAreSmall d g → DkeysAreSmall d h
dkeys_small t name akey m n g h d x y w s = one_small dkey_level (DkeyIsSmall d) _ (BranchTurn (DkeyTurn t akey)) m n (λ a b p q r z. below_dkey_small t akey m n a.holds b.holds d (part_holds held_below (below_owner akey_level) m a p) (part_holds held_below (below_owner akey_level) n b q) r.holds z) g h d x y w s

below_object_small : (t : Task) (dkey akey : Option (List ℕ)) (m n : Blocks) (a b : Below Dkey) (d : ℕ) → Holds (below_owner dkey_level) m a → Holds (below_owner dkey_level) n b → ObjectTurn t dkey akey a b → BelowObjectIsSmall d a → BelowObjectIsSmall d b
below_object_small t None akey m n a b d x y w s = (
  log_small m n a.0 b.0 d (holds_first log_owner (hung dkey_level) m a x) (holds_first log_owner (hung dkey_level) n b y) _ w.log (log_length Punch t.change t.at (things a.0)) s.0,
  subst (DkeysAreSmall d) (sym w.tree) s.1,
)
below_object_small t (Some name) akey m n a b d x y w s = (
  log_small m n a.0 b.0 d (holds_first log_owner (hung dkey_level) m a x) (holds_first log_owner (hung dkey_level) n b y) _ w.log (noted_length t (things a.0)) s.0,
  dkeys_small t name akey m n a.1 b.1 d (holds_second log_owner (hung dkey_level) m a x) (holds_second log_owner (hung dkey_level) n b y) w.tree s.1,
)

pub objects_small : (t : Task) (name : ObjectKey) (p : Path) (m n : Blocks) (g h : Objects) (d : ℕ) → Holds objects_owner m g → Holds objects_owner n h → OneObjectTurn t name p g h → ObjectsAreSmall d g → ObjectsAreSmall d h
objects_small t name p m n g h d x y w s = one_small object_level (ObjectIsSmall d) _ (BranchTurn (ObjectTurn t p.dkey p.akey)) m n (λ a b u v r z. below_object_small t p.dkey p.akey m n a.holds b.holds d (part_holds held_below (below_owner dkey_level) m a u) (part_holds held_below (below_owner dkey_level) n b v) r.holds z) g h d x y w s

-- ---- the trees on a path, whichever was changed

akeys_path_small : (t : Task) (name : List ℕ) (akey : Option (List ℕ)) (m n : Blocks) (g h : Hung Akey) (d : ℕ) → Holds (hung akey_level) m g → Holds (hung akey_level) n h → AkeysTurn t name g h → AkeysOnPathAreSmall d akey g → AkeysOnPathAreSmall d akey h
akeys_path_small t name None m n g h d x y w s = tt
akeys_path_small t name (Some akey) m n g h d x y w s =
    one_small akey_level (NamedAkeyIsSmall d akey) _ (AkeyTurn t) m n
    (λ a b p q r z level. values_small t m n a.holds b.holds d (part_holds held_values values_owner m a p) (part_holds held_values values_owner n b q) r.holds (z (ap (λ k. is_level_of (name_key akey) (name_key k)) (sym r.name) ∙ level))) g h d x y w s

below_dkey_path_small : (t : Task) (changed akey : Option (List ℕ)) (m n : Blocks) (a b : Below Akey) (d : ℕ) → Holds (below_owner akey_level) m a → Holds (below_owner akey_level) n b → DkeyTurn t changed a b → BelowDkeyOnPathIsSmall d akey a → BelowDkeyOnPathIsSmall d akey b
below_dkey_path_small t None akey m n a b d x y w s = (
  log_small m n a.0 b.0 d (holds_first log_owner (hung akey_level) m a x) (holds_first log_owner (hung akey_level) n b y) _ w.log (log_length Punch t.change t.at (things a.0)) s.0,
  subst (AkeysOnPathAreSmall d akey) (sym w.tree) s.1,
)
below_dkey_path_small t (Some name) akey m n a b d x y w s = (
  log_small m n a.0 b.0 d (holds_first log_owner (hung akey_level) m a x) (holds_first log_owner (hung akey_level) n b y) _ w.log (noted_length t (things a.0)) s.0,
  akeys_path_small t name akey m n a.1 b.1 d (holds_second log_owner (hung akey_level) m a x) (holds_second log_owner (hung akey_level) n b y) w.tree s.1,
)

dkeys_path_small : (t : Task) (name : List ℕ) (changed dkey akey : Option (List ℕ)) (m n : Blocks) (g h : Hung Dkey) (d : ℕ) → Holds (hung dkey_level) m g → Holds (hung dkey_level) n h → DkeysTurn t name changed g h → DkeysOnPathAreSmall d dkey akey g → DkeysOnPathAreSmall d dkey akey h
dkeys_path_small t name changed None akey m n g h d x y w s = tt
dkeys_path_small t name changed (Some dkey) akey m n g h d x y w s =
    one_small dkey_level (NamedDkeyIsSmall d dkey akey) _ (BranchTurn (DkeyTurn t changed)) m n
    (λ a b p q r z level. below_dkey_path_small t changed akey m n a.holds b.holds d (part_holds held_below (below_owner akey_level) m a p) (part_holds held_below (below_owner akey_level) n b q) r.holds (z (ap (λ k. is_level_of (name_key dkey) (name_key k)) (sym r.name) ∙ level))) g h d x y w s

below_object_path_small : (t : Task) (one two dkey akey : Option (List ℕ)) (m n : Blocks) (a b : Below Dkey) (d : ℕ) → Holds (below_owner dkey_level) m a → Holds (below_owner dkey_level) n b → ObjectTurn t one two a b → BelowObjectOnPathIsSmall d dkey akey a → BelowObjectOnPathIsSmall d dkey akey b
below_object_path_small t None two dkey akey m n a b d x y w s = (
  log_small m n a.0 b.0 d (holds_first log_owner (hung dkey_level) m a x) (holds_first log_owner (hung dkey_level) n b y) _ w.log (log_length Punch t.change t.at (things a.0)) s.0,
  subst (DkeysOnPathAreSmall d dkey akey) (sym w.tree) s.1,
)
below_object_path_small t (Some name) two dkey akey m n a b d x y w s = (
  log_small m n a.0 b.0 d (holds_first log_owner (hung dkey_level) m a x) (holds_first log_owner (hung dkey_level) n b y) _ w.log (noted_length t (things a.0)) s.0,
  dkeys_path_small t name two dkey akey m n a.1 b.1 d (holds_second log_owner (hung dkey_level) m a x) (holds_second log_owner (hung dkey_level) n b y) w.tree s.1,
)

pub path_stays_small : (t : Task) (name : ObjectKey) (p q : Path) (m n : Blocks) (g h : Objects) (d : ℕ) → Holds objects_owner m g → Holds objects_owner n h → OneObjectTurn t name p g h → PathIsSmall d q g → PathIsSmall d q h
path_stays_small t name p q m n g h d x y w s object at =
    one_small object_level (NamedObjectIsSmall d object q.dkey q.akey) _ (BranchTurn (ObjectTurn t p.dkey p.akey)) m n
    (λ a b u v r z level. below_object_path_small t p.dkey p.akey q.dkey q.akey m n a.holds b.holds d (part_holds held_below (below_owner dkey_level) m a u) (part_holds held_below (below_owner dkey_level) n b v) r.holds (z (ap (λ k. is_level_of (object_key object) (object_key k)) (sym r.name) ∙ level))) g h d x y w (s object at)
