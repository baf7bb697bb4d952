-- What a look-up finds at a level whose things stand in parts of them.
use Rattle.std.proofs.Common.{◌≡◌, ℕ, ◌<◌, ◌^◌, Bool, true, false, List, [], ◌∷◌, Option, Some, None, refl, sym, ap, ◌∙◌, subst, arith}
use Rattle.std.specs.Prelude.{if◌then◌else◌}
use Rattle.std.specs.List.{find}
use Rattle.std.specs.Option.{option_and_then, option_map}
use Rattle.pmem_pages.specs.Blocks.{Blocks}
use Rattle.pmem_pages.specs.Owners.{Holds, Owner, times}
use Rattle.pmem_pages.specs.Shape.{Fork, Leaf, Shape, Stands, entries, entry_at, root_of}
use Rattle.pmem_pages.specs.declared.node.TreeKey.{TreeKey}
use Rattle.pmem_pages.specs.declared.node.Value.{Value}
use Rattle.pmem_tree_base.specs.Find.{value_of}
use Rattle.vos_values.specs.Values.{akey_in, roots_in}
use Rattle.vos_values.proofs.ValueLaws.{akeys_exact, roots_exact}
use Rattle.vos_extent.specs.vos_levels.Levels.{Hung, Level, hung, hung_root, is_level, things}
use Rattle.vos_extent.proofs.vos_levels.Settling.{spot_stands}
use Rattle.vos_extent.proofs.vos_levels.Spots.{value_found}
use Rattle.vos_extent.proofs.vos_levels.Testing.{AllGood, all_good, found_spot, read_option}
use Rattle.vos_ilog.specs.Logs.{log_level, log_owner}
use Rattle.vos_single.specs.Singles.{single_level}
use Rattle.vos_extent.specs.Extents.{extent_level}
use Rattle.vos_path.specs.Calls.{akey_or_zero, roots_or_zero}
use Rattle.vos_path.specs.Objects.{Akey, Branch, Values, akey_level, below_or_none, below_owner, below_roots, branch_level, held_below, held_values, listed, no_below, no_tree, no_values, or_none, values_or_none, values_owner, values_roots}
use Rattle.vos_path.proofs.Putting.{part_level, tells_level}
use Rattle.vos_path.proofs.Written.{holds_extent, holds_first, holds_log, holds_second, holds_single}

-- ---- nothing yet

pub no_tree_holds : {A : Type 0} (L : Level A) (m : Blocks) → Holds (hung L) m no_tree
unfolding times
no_tree_holds L m = record { here = ((tt, tt), record { balanced = tt; rises = tt; leads = tt }); apart = λ q. omega arith }

pub no_values_hold : (m : Blocks) → Holds values_owner m no_values
unfolding times
no_values_hold m = record {
  here = ((no_tree_holds log_level m).here, ((no_tree_holds single_level m).here, (no_tree_holds extent_level m).here));
  apart = λ q. omega arith;
}

pub no_values_own : (q : ℕ) → times q (values_owner.owned no_values) ≡ 0
unfolding times
no_values_own q = refl

pub no_below_holds : {A : Type 0} (L : Level A) (m : Blocks) → Holds (below_owner L) m no_below
unfolding times
no_below_holds L m = record { here = ((no_tree_holds log_level m).here, (no_tree_holds L m).here); apart = λ q. omega arith }

pub no_below_owns : {A : Type 0} (L : Level A) (q : ℕ) → times q ((below_owner L).owned no_below) ≡ 0
unfolding times
no_below_owns L q = refl

-- ---- roots

root_low : (m : Blocks) (kind : ℕ) (t : Shape) → Stands m kind t → root_of t < 2 ^ 32
root_low m kind Leaf s = omega arith
root_low m kind (Fork l e r) s = s.0.entry.high

pub hung_low : {A : Type 0} (L : Level A) (m : Blocks) (g : Hung A) → Holds (hung L) m g → hung_root g < 2 ^ 32
hung_low L m g h = root_low m L.kind g.0 h.here.0.0

-- ---- what is found

-- what is found has the key
found_passes : {A : Type 0} (test : A → Bool) (xs : List A) (a : A) → find test xs ≡ Some a → test a ≡ true
found_passes test [] a h = absurd (let n : ⊥ = cc in n)
found_passes {A = A} test (x ∷ xs) a h = by (test x) refl h (found_passes test xs a)
  where
    by : (t : Bool) → test x ≡ t → (if t then Some x else find test xs) ≡ Some a → (find test xs ≡ Some a → test a ≡ true) → test a ≡ true
    by true e f r = let same : x ≡ a = cc in ap test (sym same) ∙ e
    by false e f r = r f

found_good : {A : Type 0} (L : Level A) (test : A → Bool) (xs : List A) (a : A) → AllGood L xs → find test xs ≡ Some a → L.Good a
found_good L test [] a g h = absurd (let n : ⊥ = cc in n)
found_good {A = A} L test (x ∷ xs) a g h = by (test x) h (found_good L test xs a g.1)
  where
    by : (t : Bool) → (if t then Some x else find test xs) ≡ Some a → (find test xs ≡ Some a → L.Good a) → L.Good a
    by true f r = let same : x ≡ a = cc in subst (λ z. L.Good z) same g.0
    by false f r = r f

module _ {A P : Type 0} (kind : ℕ) (f : A → P) (O : Owner P) (key : A → TreeKey) (value : A → Value) (Good : A → Type 0) (k : TreeKey) (m : Blocks) (g : Hung A) (h : Holds (hung (part_level kind f O key value Good)) m g) where
  -- what is found stands
  pub one_holds : (a : A) → find (is_level (part_level kind f O key value Good) k) (things g) ≡ Some a → Holds O m (f a)
  one_holds a found =
      let L = part_level kind f O key value Good in
      let s = found_spot L k (is_level L k) (tells_level L k) (entries g.0) g.1 a h.here.1.leads h.here.1.rises found in
      let mine = spot_stands L k (is_level L k) m g s.0 a h s.1 in
      record { here = mine.here; apart = mine.apart }

  pub found_holds : (none : P) → Holds O m none → Holds O m (or_none f none (find (is_level (part_level kind f O key value Good) k) (things g)))
  found_holds none empty = by (find (is_level (part_level kind f O key value Good) k) (things g)) refl
    where
      by : (x : Option A) → find (is_level (part_level kind f O key value Good) k) (things g) ≡ x → Holds O m (or_none f none x)
      by None e = empty
      by (Some a) e = one_holds a e

  -- what one thing stands for, by its part
  pub listed_found : {V : Type 0} (none : P) (shown : A → List V) (of_part : P → List V) → of_part none ≡ [] → ((a : A) → Good a → is_level (part_level kind f O key value Good) k a ≡ true → shown a ≡ of_part (f a))
      → listed shown (find (is_level (part_level kind f O key value Good) k) (things g)) ≡ of_part (or_none f none (find (is_level (part_level kind f O key value Good) k) (things g)))
  listed_found {V = V} none shown of_part nothing same = by (find (is_level (part_level kind f O key value Good) k) (things g)) refl
    where
      by : (x : Option A) → find (is_level (part_level kind f O key value Good) k) (things g) ≡ x → listed shown x ≡ of_part (or_none f none x)
      by None e = sym nothing
      by (Some a) e =
          let L = part_level kind f O key value Good in
          same a (found_good L (is_level L k) (things g) a (all_good L (entries g.0) g.1 h.here.1.leads) e) (found_passes (is_level L k) (things g) a e)

-- ---- akeys

akey_again : (m : Blocks) (a : Values) → Holds values_owner m a → akey_in (akey_level.value (record { name = []; holds = a })) ≡ Some (values_roots a)
akey_again m a h = akeys_exact.again (values_roots a) (record { log = hung_low log_level m a.0 (holds_log m a h); singles = hung_low single_level m a.1.0 (holds_single m a h); extents = hung_low extent_level m a.1.1 (holds_extent m a h) })

pub akey_found : (k : TreeKey) (m : Blocks) (g : Hung Akey) → Holds (hung akey_level) m g → option_and_then akey_in (value_of (entry_at k (entries g.0))) ≡ option_map (λ a. values_roots (held_values a)) (find (is_level akey_level k) (things g))
akey_found k m g h =
    ap (option_and_then akey_in) (value_found akey_level k (is_level akey_level k) (tells_level akey_level k) (entries g.0) g.1 h.here.1.leads h.here.1.rises)
    ∙ read_option (find (is_level akey_level k) (things g)) akey_level.value akey_in (λ a. values_roots (held_values a)) (λ a e. akey_again m a.holds (one_holds 3 held_values values_owner akey_level.key akey_level.value akey_level.Good k m g h a e))

pub akey_zero : (x : Option Akey) → akey_or_zero (option_map (λ a. values_roots (held_values a)) x) ≡ values_roots (values_or_none x)
akey_zero None = refl
akey_zero (Some a) = refl

-- ---- dkeys and objects

module _ {N A : Type 0} (kind : ℕ) (key : N → TreeKey) (Good : N → Type 0) (L : Level A) (k : TreeKey) (m : Blocks) (g : Hung (Branch N A)) (h : Holds (hung (branch_level kind key Good L)) m g) where
  below_again : (b : Branch N A) → Holds (below_owner L) m b.holds → roots_in ((branch_level kind key Good L).value b) ≡ Some (below_roots b.holds)
  below_again b held = roots_exact.again (below_roots b.holds) (record { log = hung_low log_level m b.holds.0 (holds_first log_owner (hung L) m b.holds held); below = hung_low L m b.holds.1 (holds_second log_owner (hung L) m b.holds held) })

  pub roots_found : option_and_then roots_in (value_of (entry_at k (entries g.0))) ≡ option_map (λ b. below_roots (held_below b)) (find (is_level (branch_level kind key Good L) k) (things g))
  roots_found =
      let M = branch_level kind key Good L in
      ap (option_and_then roots_in) (value_found M k (is_level M k) (tells_level M k) (entries g.0) g.1 h.here.1.leads h.here.1.rises)
      ∙ read_option (find (is_level M k) (things g)) M.value roots_in (λ b. below_roots (held_below b)) (λ b e. below_again b (one_holds kind held_below (below_owner L) M.key M.value M.Good k m g h b e))

pub roots_zero : {N A : Type 0} (x : Option (Branch N A)) → roots_or_zero (option_map (λ b. below_roots (held_below b)) x) ≡ below_roots (below_or_none x)
roots_zero None = refl
roots_zero (Some b) = refl
