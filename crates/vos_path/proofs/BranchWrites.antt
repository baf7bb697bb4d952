-- A write comes below a dkey or an object, and then that into the tree of these.
use Rattle.std.proofs.Common.{◌≡◌, ℕ, ◌+◌, ◌*◌, ◌≤◌, Bool, true, false, not, List, [], ◌++◌, Option, refl, sym, ap, ◌∙◌, subst, arith}
use Rattle.std.specs.Prelude.{All}
use Rattle.std.specs.List.{find}
use Rattle.std.specs.Option.{option_and_then, option_map}
use Rattle.base_types.specs.declared.operation.Write.{Write}
use Rattle.daos_model.specs.declared.durable.Version.{Version}
use Rattle.pmem_pages.specs.Blocks.{Blocks, Budget}
use Rattle.pmem_pages.specs.Owners.{Changed, Holds}
use Rattle.pmem_pages.specs.Shape.{IsTree, entries, entry_at}
use Rattle.pmem_pages.specs.declared.node.TreeKey.{TreeKey}
use Rattle.pmem_tree.specs.Calls.{TooFew}
use Rattle.pmem_tree_base.specs.Find.{value_of}
use Rattle.vos_values.specs.declared.values.Roots.{Roots}
use Rattle.vos_values.specs.Values.{roots_in, roots_value}
use Rattle.vos_extent.specs.vos_levels.Calls.{Becomes}
use Rattle.vos_extent.specs.vos_levels.Levels.{HasMore, Hung, Level, hung, hung_root, is_level, things}
use Rattle.vos_ilog.specs.Logs.{log_owner}
use Rattle.vos_path.specs.declared.stamp.Stamp.{Stamp}
use Rattle.vos_path.specs.Calls.{LacksFor, SpendsAtMost, Turns, roots_or_zero}
use Rattle.pmem_tree.specs.Changes.{PutAt}
use Rattle.vos_path.specs.Objects.{Below, Branch, below_or_none, below_owner, below_roots, branch_level, held_below, no_below, punches, together}
use Rattle.vos_path.specs.Writes.{IsNoted, IsNotedIf, IsSmall, fresh, fresh_entry, is_update}
use Rattle.vos_path.specs.Nodes.{BothNoted, LogNoted, OnePut, noted}
use Rattle.vos_ilog.specs.declared.ilog.LogEntry.{LogEntry}
use Rattle.vos_path.proofs.AkeyWrites.{put_lacks}
use Rattle.vos_path.proofs.Finding.{found_holds, listed_found, no_below_holds, no_below_owns, roots_found, roots_zero}
use Rattle.vos_path.proofs.Lists.{all_found, passes_found, more_after, more_before}
use Rattle.vos_path.proofs.Putting.{changed_part, level_put, still}
use Rattle.vos_path.proofs.Written.{both_change, fewer_than, first_changes, first_stands, punches_kept, punches_more, spent_at_most, spent_then}

-- ---- below it

-- what an update notes is a creation
noted_if : (u : Write) (s : Stamp) (xs ys : List LogEntry) → IsNotedIf (is_update u) (fresh_entry s false) xs ys → IsNotedIf (is_update u) (noted s u) xs ys
noted_if u s xs ys h = by (is_update u) h
  where
    by : (t : Bool) → IsNotedIf t (fresh_entry s false) xs ys → IsNotedIf t (fresh_entry s (not t)) xs ys
    by true h = h
    by false h = h

module _ {A : Type 0} (L : Level A) (of_tree : Hung A → List Version) (w : Write) where
  abbrev shown : Below A → List Version
  shown b = punches w b.0 ++ of_tree b.1

  -- a version more below, and for an update a creation in the log
  pub below_written : (m n o : Blocks) (g : Below A) (s : Stamp) (u : Write) (v : Version) (N : Hung A → Hung A → Type 0) (sub log : ℕ) → Holds (below_owner L) m g
      → Turns (hung L) hung_root of_tree m g.1 n sub (HasMore v) N → Becomes log_owner hung_root things n g.0 o log (IsNotedIf (is_update u) (fresh_entry s false))
      → Turns (below_owner L) below_roots shown m g o (record { log = log; below = sub }) (HasMore v) (BothNoted s u N)
  below_written m n o g s u v N sub log h b l =
      let all = more_after v (punches w g.0) (of_tree g.1) (of_tree b.now) b.shown_is in
      record {
        now = (l.now, b.now);
        changed = both_change log_owner (hung L) m n o g l.now b.now h b.changed l.changed;
        roots_are = λ i. record { log = l.root_is i; below = b.roots_are i };
        shown_is = subst (λ z. HasMore v (shown g) (z ++ of_tree b.now)) (sym (punches_kept (is_update u) w s g.0 l.now l.shown_is)) all;
        nodes = record { log = noted_if u s (things g.0) (things l.now) l.shown_is; tree = b.nodes };
      }

  -- a punch in the log
  pub below_punched : (m o : Blocks) (g : Below A) (roots : Roots) (s : Stamp) (log : ℕ) → Holds (below_owner L) m g → roots ≡ below_roots g → is_update w ≡ false
      → Becomes log_owner hung_root things m g.0 o log (IsNoted (fresh_entry s true))
      → Turns (below_owner L) below_roots shown m g o (record { log = log; below = roots.below }) (HasMore (fresh s w)) (LogNoted s w)
  below_punched m o g roots s log h at punch l = record {
    now = (l.now, g.1);
    changed = first_changes log_owner (hung L) m o g l.now h l.changed;
    roots_are = λ i. record { log = l.root_is i; below = ap (λ r. r.below) at i };
    shown_is = more_before (fresh s w) (of_tree g.1) (punches w g.0) (punches w l.now) (punches_more w s g.0 l.now l.shown_is);
    nodes = record { log = subst (λ (z : Bool). IsNoted (fresh_entry s (not z)) (things g.0) (things l.now)) (sym punch) l.shown_is; tree = refl };
  }

pub log_after : {A : Type 0} (L : Level A) (m n : Blocks) (g : Below A) (b : Hung A) → Holds (below_owner L) m g → Changed (hung L) m g.1 n b → Holds log_owner n g.0
log_after L m n g b h c = first_stands log_owner (hung L) m n g b h c

-- ---- sums

-- a log's entry after what was spent below
pub log_lacks : {A : Type 0} (n r e d : ℕ) (g : Hung A) (x y : Budget) → IsSmall d g → SpendsAtMost n r x y → TooFew g.0 y → LacksFor n (r + e) d x
log_lacks n r e d g x y small s few =
    let h = put_lacks n r d g x y small s few in
    fewer_than (2 * n + (r + (16 * d + 32))) (257 * n + 256 * (r + (16 * d + 32))) (2 * n + (r + e + (16 * d + 32))) (257 * n + 256 * (r + e + (16 * d + 32))) x (omega arith) (omega arith) h

pub lacks_more : (n r e d : ℕ) (x : Budget) → LacksFor n r d x → LacksFor n (r + e) d x
lacks_more n r e d x h = fewer_than (2 * n + (r + (16 * d + 32))) (257 * n + 256 * (r + (16 * d + 32))) (2 * n + (r + e + (16 * d + 32))) (257 * n + 256 * (r + e + (16 * d + 32))) x (omega arith) (omega arith) h

pub spends_then : (n r e : ℕ) (x y z : Budget) → SpendsAtMost n r x y → SpendsAtMost 0 e y z → SpendsAtMost n (r + e) x z
spends_then n r e x y z s t =
    spent_at_most (2 * n + r + (2 * 0 + e)) (257 * n + 256 * r + (257 * 0 + 256 * e)) (2 * n + (r + e)) (257 * n + 256 * (r + e)) x z (omega arith) (omega arith)
    (spent_then (2 * n + r) (257 * n + 256 * r) (2 * 0 + e) (257 * 0 + 256 * e) x y z s t)

pub lacks_any : (n r d : ℕ) (x : Budget) → LacksFor 0 0 d x → LacksFor n r d x
lacks_any n r d x h = fewer_than (2 * 0 + (0 + (16 * d + 32))) (257 * 0 + 256 * (0 + (16 * d + 32))) (2 * n + (r + (16 * d + 32))) (257 * n + 256 * (r + (16 * d + 32))) x (omega arith) (omega arith) h

pub spends_any : (n r e : ℕ) (x y : Budget) → e ≤ r → SpendsAtMost 0 e x y → SpendsAtMost n r x y
spends_any n r e x y le h = spent_at_most (2 * 0 + e) (257 * 0 + 256 * e) (2 * n + r) (257 * n + 256 * r) x y (omega (arith, le)) (omega (arith, le)) h

-- ---- the one that is named

module _ {N A : Type 0} (kind : ℕ) (key : N → TreeKey) (Good : N → Type 0) (L : Level A) (name : N) where
  abbrev pub branch_at : Hung (Branch N A) → Option (Branch N A)
  branch_at g = find (is_level (branch_level kind key Good L) (key name)) (things g)

  pub branch_holds : (m : Blocks) (g : Hung (Branch N A)) → Holds (hung (branch_level kind key Good L)) m g → Holds (below_owner L) m (below_or_none (branch_at g))
  branch_holds m g h =
      let M = branch_level kind key Good L in
      found_holds kind held_below (below_owner L) M.key M.value M.Good (key name) m g h no_below (no_below_holds L m)

  pub branch_all : (Q : Below A → Type 0) (g : Hung (Branch N A)) → Q no_below → All (λ b. Q (held_below b)) (things g) → Q (below_or_none (branch_at g))
  branch_all Q g none h = all_found held_below no_below Q (is_level (branch_level kind key Good L) (key name)) (things g) none h

  pub branch_passes : (Q : Below A → Type 0) (g : Hung (Branch N A)) → Q no_below → All (λ b. is_level (branch_level kind key Good L) (key name) b ≡ true → Q (held_below b)) (things g) → Q (below_or_none (branch_at g))
  branch_passes Q g none h = passes_found held_below no_below Q (is_level (branch_level kind key Good L) (key name)) (things g) none h

  module _ (m : Blocks) (g : Hung (Branch N A)) (held : Holds (hung (branch_level kind key Good L)) m g) (k : TreeKey) (key_is : k ≡ key name) (found : Option Roots) (says : found ≡ option_and_then roots_in (value_of (entry_at k (entries g.0)))) where
    branch_said : found ≡ option_map (λ b. below_roots (held_below b)) (branch_at g)
    branch_said = says ∙ (ap (λ z. option_and_then roots_in (value_of (entry_at z (entries g.0)))) key_is ∙ roots_found kind key Good L (key name) m g held)

    pub branch_roots_are : (roots : Roots) → roots ≡ roots_or_zero found → roots ≡ below_roots (below_or_none (branch_at g))
    branch_roots_are roots e = e ∙ (ap roots_or_zero branch_said ∙ roots_zero (branch_at g))

  -- it takes what it became in the place of what it was
  module _ (exact : (b : Branch N A) → Good b.name → is_level (branch_level kind key Good L) (key name) b ≡ true → b.name ≡ name) (good : Good name) (m n : Blocks) (g : Hung (Branch N A)) (held : Holds (hung (branch_level kind key Good L)) m g)
      (of_below : N → Below A → List Version) (v : Version) (Q : Below A → Below A → Type 0) (roots : Roots) (t : Turns (below_owner L) below_roots (of_below name) m (below_or_none (branch_at g)) n roots (HasMore v) Q) where
    abbrev made : Branch N A
    made = record { name = name; holds = t.now }

    pub branch_still : (at : ℕ) → at ≡ hung_root g → IsTree n kind at g.0
    branch_still at e = still (branch_level kind key Good L) (key name) m n at g made held e (changed_part held_below (below_owner L) no_below m n (branch_at g) made (no_below_owns L) t.changed)

    pub branch_written : of_below name no_below ≡ [] → (o : Blocks) (root : ℕ) → PutAt n kind g.0 (key name) (roots_value roots) o root
        → Turns (hung (branch_level kind key Good L)) hung_root (λ z. together (λ b. of_below b.name b.holds) (things z)) m g o root (HasMore v) (λ x y. OnePut (is_level (branch_level kind key Good L) (key name)) held_below no_below (λ b. b.name ≡ name) Q (things x) (things y))
    branch_written nothing o root put =
        let M = branch_level kind key Good L in
        let same = listed_found kind held_below (below_owner L) M.key M.value M.Good (key name) m g held no_below (λ b. of_below b.name b.holds) (of_below name) nothing (λ b ok level. ap (λ z. of_below z b.holds) (exact b ok level)) in
        let put2 : PutAt n kind g.0 (key name) (roots_value (below_roots t.now)) o root = subst (λ z. PutAt n kind g.0 (key name) (roots_value z) o root) t.roots_are put in
        level_put kind held_below (below_owner L) M.key M.value M.Good (key name) no_below (λ b. of_below b.name b.holds) v (no_below_owns L) (λ b ok level. ap key (exact b ok level)) m n o g made root held t.changed refl good put2
        (subst (λ z. HasMore v z (of_below name t.now)) (sym same) t.shown_is) (λ b. b.name ≡ name) Q refl t.nodes
