-- What a write makes of an akey, and of what it costs.
use Rattle.std.proofs.Common.{◌≡◌, ℕ, ◌+◌, ◌*◌, ◌≤◌, Bool, true, false, List, ◌++◌, map, sym, ap, subst, arith, inl, inr}
use Rattle.std.specs.Prelude.{filter}
use Rattle.base_types.specs.declared.operation.Write.{Write}
use Rattle.base_types.specs.declared.operation.Write.TheVariants.{Single, Extent, PunchAkey}
use Rattle.base_types.specs.declared.path.Path.{Path}
use Rattle.pmem_pages.specs.Blocks.{Blocks, Budget, IsSpent}
use Rattle.pmem_pages.specs.Owners.{Changed, Holds, Owner, both, times-append}
use Rattle.pmem_pages.proofs.Owning.{changed_first, changed_second, changed_then}
use Rattle.vos_values.specs.declared.values.AkeyRoots.{AkeyRoots}
use Rattle.vos_extent.specs.vos_levels.Calls.{Becomes}
use Rattle.vos_extent.specs.vos_levels.Levels.{HasMore, Hung, hung_root, things}
use Rattle.vos_extent.specs.vos_chain.Made.{HasFewer}
use Rattle.vos_ilog.specs.Logs.{Log, log_owner}
use Rattle.vos_single.specs.Singles.{Singles, new_version, single_owner, versions}
use Rattle.vos_extent.specs.Extents.{Extents, extent_owner, extents, new_extent}
use Rattle.vos_path.specs.declared.stamp.Stamp.{Stamp}
use Rattle.vos_path.specs.Calls.{LacksFor, SpendsAtMost, Turns, for_pair}
use Rattle.vos_path.specs.Nodes.{ValuesNoted}
use Rattle.vos_path.specs.Objects.{Values, extent_version, is_punch, punch_version, punches, single_version, values_owner, values_roots, values_versions}
use Rattle.vos_path.specs.Writes.{IsNoted, IsNotedIf, IsSmall, fresh, fresh_entry, place_at}
use Rattle.pmem_tree.specs.Calls.{StagesAtMost, TooFew}
use Rattle.vos_extent.specs.vos_versions.Marks.{StagesFor, TooFewFor}
use Rattle.vos_path.proofs.Lists.{more_after, more_before, more_map}

pub holds_first : {A B : Type 0} (O : Owner A) (P : Owner B) (m : Blocks) (g : A × B) → Holds (both O P) m g → Holds O m g.0
holds_first O P m g h = record { here = h.here.0; apart = λ q. omega (arith, h.apart q, times-append q (O.owned g.0) (P.owned g.1)) }

pub holds_second : {A B : Type 0} (O : Owner A) (P : Owner B) (m : Blocks) (g : A × B) → Holds (both O P) m g → Holds P m g.1
holds_second O P m g h = record { here = h.here.1; apart = λ q. omega (arith, h.apart q, times-append q (O.owned g.0) (P.owned g.1)) }

-- a change of the first part, and of the second
pub first_changes : {A B : Type 0} (O : Owner A) (P : Owner B) (m n : Blocks) (g : A × B) (a : A) → Holds (both O P) m g → Changed O m g.0 n a → Changed (both O P) m g n (a, g.1)
first_changes O P m n g a h c = changed_first O P m n g.0 a g.1 h c

pub second_changes : {A B : Type 0} (O : Owner A) (P : Owner B) (m n : Blocks) (g : A × B) (b : B) → Holds (both O P) m g → Changed P m g.1 n b → Changed (both O P) m g n (g.0, b)
second_changes O P m n g b h c = changed_second O P m n g.0 g.1 b h c

-- the second part changes, and then the first
pub both_change : {A B : Type 0} (O : Owner A) (P : Owner B) (m n o : Blocks) (g : A × B) (a : A) (b : B) → Holds (both O P) m g → Changed P m g.1 n b → Changed O n g.0 o a → Changed (both O P) m g o (a, b)
both_change O P m n o g a b h c d =
    let x = second_changes O P m n g b h c in
    changed_then (both O P) m n o g (g.0, b) (a, b) x (first_changes O P n o (g.0, b) a x.holds d)

-- the first part stands where the second changed
pub first_stands : {A B : Type 0} (O : Owner A) (P : Owner B) (m n : Blocks) (g : A × B) (b : B) → Holds (both O P) m g → Changed P m g.1 n b → Holds O n g.0
first_stands O P m n g b h c = holds_first O P n (g.0, b) (second_changes O P m n g b h c).holds

-- ---- an akey

pub single_changes : (m n : Blocks) (g : Values) (s : Singles) → Holds values_owner m g → Changed single_owner m g.1.0 n s → Changed (both single_owner extent_owner) m g.1 n (s, g.1.1)
single_changes m n g s h c = first_changes single_owner extent_owner m n g.1 s (holds_second log_owner (both single_owner extent_owner) m g h) c

pub extent_changes : (m n : Blocks) (g : Values) (x : Extents) → Holds values_owner m g → Changed extent_owner m g.1.1 n x → Changed (both single_owner extent_owner) m g.1 n (g.1.0, x)
extent_changes m n g x h c = second_changes single_owner extent_owner m n g.1 x (holds_second log_owner (both single_owner extent_owner) m g h) c

pub holds_log : (m : Blocks) (g : Values) → Holds values_owner m g → Holds log_owner m g.0
holds_log m g h = holds_first log_owner (both single_owner extent_owner) m g h

pub holds_single : (m : Blocks) (g : Values) → Holds values_owner m g → Holds single_owner m g.1.0
holds_single m g h = holds_first single_owner extent_owner m g.1 (holds_second log_owner (both single_owner extent_owner) m g h)

pub holds_extent : (m : Blocks) (g : Values) → Holds values_owner m g → Holds extent_owner m g.1.1
holds_extent m g h = holds_second single_owner extent_owner m g.1 (holds_second log_owner (both single_owner extent_owner) m g h)

-- the log stands where the others changed
pub log_after_single : (m n : Blocks) (g : Values) (s : Singles) → Holds values_owner m g → Changed single_owner m g.1.0 n s → Holds log_owner n g.0
log_after_single m n g s h c = first_stands log_owner (both single_owner extent_owner) m n g (s, g.1.1) h (single_changes m n g s h c)

pub log_after_extent : (m n : Blocks) (g : Values) (x : Extents) → Holds values_owner m g → Changed extent_owner m g.1.1 n x → Holds log_owner n g.0
log_after_extent m n g x h c = first_stands log_owner (both single_owner extent_owner) m n g (g.1.0, x) h (extent_changes m n g x h c)

-- the punches after a creation are the same, and after a punch they are one more
pub punches_same : (w : Write) (s : Stamp) (g h : Log) → IsNoted (fresh_entry s false) (things g) (things h) → punches w h ≡ punches w g
punches_same w s g h is = ap (map (punch_version w)) is.punches

-- and where an update alone is noted
pub punches_kept : (t : Bool) (w : Write) (s : Stamp) (g h : Log) → IsNotedIf t (fresh_entry s false) (things g) (things h) → punches w h ≡ punches w g
punches_kept true w s g h is = punches_same w s g h is
punches_kept false w s g h is = ap (λ es. map (punch_version w) (filter is_punch es)) is

pub punches_more : (w : Write) (s : Stamp) (g h : Log) → IsNoted (fresh_entry s true) (things g) (things h) → HasMore (fresh s w) (punches w g) (punches w h)
punches_more w s g h is = more_map (punch_version w) (fresh_entry s true) (filter is_punch (things g)) (filter is_punch (things h)) is.punches

pub single_written : (m n o : Blocks) (g : Values) (roots : AkeyRoots) (s : Stamp) (bytes : List ℕ) (p : Path) (single log : ℕ) → Holds values_owner m g → roots ≡ values_roots g
    → Becomes single_owner hung_root versions m g.1.0 n single (HasMore (new_version s.at s.by bytes)) → Becomes log_owner hung_root things n g.0 o log (IsNoted (fresh_entry s false))
    → Turns values_owner values_roots (values_versions p) m g o (record { log = log; singles = single; extents = roots.extents }) (HasMore (fresh s (Single p bytes))) (ValuesNoted s (Single p bytes))
single_written m n o g roots s bytes p single log h at b l =
    let c = single_changes m n g b.now h b.changed in
    let v = fresh s (Single p bytes) in
    let more = more_before v (map (extent_version p) (extents g.1.1)) (map (single_version p) (versions g.1.0)) (map (single_version p) (versions b.now)) (more_map (single_version p) (new_version s.at s.by bytes) (versions g.1.0) (versions b.now) b.shown_is) in
    let front = punches (PunchAkey p) g.0 in
    let all = more_after v front (map (single_version p) (versions g.1.0) ++ map (extent_version p) (extents g.1.1)) (map (single_version p) (versions b.now) ++ map (extent_version p) (extents g.1.1)) more in
    record {
      now = (l.now, (b.now, g.1.1));
      changed = both_change log_owner (both single_owner extent_owner) m n o g l.now (b.now, g.1.1) h c l.changed;
      roots_are = λ i. record { log = l.root_is i; singles = b.root_is i; extents = ap (λ r. r.extents) at i };
      shown_is = subst (λ z. HasMore v (values_versions p g) (z ++ (map (single_version p) (versions b.now) ++ map (extent_version p) (extents g.1.1)))) (sym (punches_same (PunchAkey p) s g.0 l.now l.shown_is)) all;
      nodes = l.shown_is;
    }

pub extent_written : (m n o : Blocks) (g : Values) (roots : AkeyRoots) (s : Stamp) (low : ℕ) (bytes : List ℕ) (p : Path) (extent log : ℕ) → Holds values_owner m g → roots ≡ values_roots g
    → Becomes extent_owner hung_root extents m g.1.1 n extent (HasMore (new_extent (place_at s low) s.by bytes)) → Becomes log_owner hung_root things n g.0 o log (IsNoted (fresh_entry s false))
    → Turns values_owner values_roots (values_versions p) m g o (record { log = log; singles = roots.singles; extents = extent }) (HasMore (fresh s (Extent p low bytes))) (ValuesNoted s (Extent p low bytes))
extent_written m n o g roots s low bytes p extent log h at b l =
    let c = extent_changes m n g b.now h b.changed in
    let v = fresh s (Extent p low bytes) in
    let more = more_after v (map (single_version p) (versions g.1.0)) (map (extent_version p) (extents g.1.1)) (map (extent_version p) (extents b.now)) (more_map (extent_version p) (new_extent (place_at s low) s.by bytes) (extents g.1.1) (extents b.now) b.shown_is) in
    let front = punches (PunchAkey p) g.0 in
    let all = more_after v front (map (single_version p) (versions g.1.0) ++ map (extent_version p) (extents g.1.1)) (map (single_version p) (versions g.1.0) ++ map (extent_version p) (extents b.now)) more in
    record {
      now = (l.now, (g.1.0, b.now));
      changed = both_change log_owner (both single_owner extent_owner) m n o g l.now (g.1.0, b.now) h c l.changed;
      roots_are = λ i. record { log = l.root_is i; singles = ap (λ r. r.singles) at i; extents = b.root_is i };
      shown_is = subst (λ z. HasMore v (values_versions p g) (z ++ (map (single_version p) (versions g.1.0) ++ map (extent_version p) (extents b.now)))) (sym (punches_same (PunchAkey p) s g.0 l.now l.shown_is)) all;
      nodes = l.shown_is;
    }

pub values_punched : (m o : Blocks) (g : Values) (roots : AkeyRoots) (s : Stamp) (p : Path) (log : ℕ) → Holds values_owner m g → roots ≡ values_roots g
    → Becomes log_owner hung_root things m g.0 o log (IsNoted (fresh_entry s true))
    → Turns values_owner values_roots (values_versions p) m g o (record { log = log; singles = roots.singles; extents = roots.extents }) (HasMore (fresh s (PunchAkey p))) (ValuesNoted s (PunchAkey p))
values_punched m o g roots s p log h at l =
    let v = fresh s (PunchAkey p) in
    record {
      now = (l.now, g.1);
      changed = first_changes log_owner (both single_owner extent_owner) m o g l.now h l.changed;
      roots_are = λ i. record { log = l.root_is i; singles = ap (λ r. r.singles) at i; extents = ap (λ r. r.extents) at i };
      shown_is = more_before v (map (single_version p) (versions g.1.0) ++ map (extent_version p) (extents g.1.1)) (punches (PunchAkey p) g.0) (punches (PunchAkey p) l.now) (punches_more (PunchAkey p) s g.0 l.now l.shown_is);
      nodes = l.shown_is;
    }

-- ---- sums

pub spent_then : (a b c e : ℕ) (x y z : Budget) → IsSpent a b x y → IsSpent c e y z → IsSpent (a + c) (b + e) x z
spent_then a b c e x y z s t = record {
  ranges_most = omega (arith, s.ranges_most, t.ranges_most);
  ranges_least = omega (arith, s.ranges_least, t.ranges_least);
  bytes_most = omega (arith, s.bytes_most, t.bytes_most);
  bytes_least = omega (arith, s.bytes_least, t.bytes_least);
}

pub spent_at_most : (a b c e : ℕ) (x y : Budget) → a ≤ c → b ≤ e → IsSpent a b x y → IsSpent c e x y
spent_at_most a b c e x y ac be s = record {
  ranges_most = omega (arith, s.ranges_most, ac);
  ranges_least = s.ranges_least;
  bytes_most = omega (arith, s.bytes_most, be);
  bytes_least = s.bytes_least;
}

-- what lacks after some was spent
pub lacked_before : (a b c e : ℕ) (x y : Budget) → IsSpent a b x y → HasFewer c e y → HasFewer (a + c) (b + e) x
lacked_before a b c e x y s h = elim h [
  | inl r ↦ inl (omega (arith, r, s.ranges_most))
  | inr r ↦ inr (omega (arith, r, s.bytes_most))
]

pub fewer_than : (a b c e : ℕ) (x : Budget) → a ≤ c → b ≤ e → HasFewer a b x → HasFewer c e x
fewer_than a b c e x ac be h = elim h [
  | inl r ↦ inl (omega (arith, r, ac))
  | inr r ↦ inr (omega (arith, r, be))
]

-- one change of a tree that is small
pub fewer_left : {A : Type 0} (g : Hung A) (d : ℕ) (b : Budget) → IsSmall d g → TooFew g.0 b → LacksFor 0 0 d b
fewer_left g d b small few = elim (few d small) [ inl r ↦ inl (omega (arith, r)) | inr r ↦ inr (omega (arith, r)) ]

pub spent_for : {A : Type 0} (g : Hung A) (d : ℕ) (x y : Budget) → IsSmall d g → StagesAtMost 4 8 g.0 x y → SpendsAtMost 0 (for_pair d) x y
spent_for g d x y small s = spent_at_most (4 * d + 8) (256 * (4 * d + 8)) (2 * 0 + for_pair d) (257 * 0 + 256 * for_pair d) x y (omega arith) (omega arith) (s d small)

pub added_lacks : {A : Type 0} (n : ℕ) (g : Hung A) (d : ℕ) (b : Budget) → IsSmall d g → TooFewFor n g.0 b → LacksFor n (for_pair d) d b
added_lacks n g d b small few = fewer_than (2 * n + (16 * d + 32)) (257 * n + 256 * (16 * d + 32)) (2 * n + (for_pair d + (16 * d + 32))) (257 * n + 256 * (for_pair d + (16 * d + 32))) b (omega arith) (omega arith) (few d small)

-- a version is added, and then its creation noted
pub fewer_after : {A B : Type 0} (n : ℕ) (g : Hung A) (h : Hung B) (d : ℕ) (x y : Budget) → IsSmall d g → IsSmall d h → StagesFor n g.0 x y → TooFew h.0 y → LacksFor n (for_pair d) d x
fewer_after n g h d x y small also s few =
    fewer_than (2 * n + (4 * d + 8) + (16 * d + 32)) (257 * n + 256 * (4 * d + 8) + 256 * (16 * d + 32)) (2 * n + (for_pair d + (16 * d + 32))) (257 * n + 256 * (for_pair d + (16 * d + 32))) x (omega arith) (omega arith)
    (lacked_before (2 * n + (4 * d + 8)) (257 * n + 256 * (4 * d + 8)) (16 * d + 32) (256 * (16 * d + 32)) x y (s d small) (few d also))

pub added_then : {A B : Type 0} (n : ℕ) (g : Hung A) (h : Hung B) (d : ℕ) (x y z : Budget) → IsSmall d g → IsSmall d h → StagesFor n g.0 x y → StagesAtMost 4 8 h.0 y z → SpendsAtMost n (2 * for_pair d) x z
added_then n g h d x y z small also s t =
    spent_at_most (2 * n + (4 * d + 8) + (4 * d + 8)) (257 * n + 256 * (4 * d + 8) + 256 * (4 * d + 8)) (2 * n + 2 * for_pair d) (257 * n + 256 * (2 * for_pair d)) x z (omega arith) (omega arith)
    (spent_then (2 * n + (4 * d + 8)) (257 * n + 256 * (4 * d + 8)) (4 * d + 8) (256 * (4 * d + 8)) x y z (s d small) (t d also))
