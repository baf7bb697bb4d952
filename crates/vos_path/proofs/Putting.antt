-- A thing comes into a level, or in the place of another.
use Rattle.std.proofs.Common.{◌≡◌, ℕ, ◌<◌, ◌≤◌, Bool, true, false, List, [], ◌∷◌, Option, Some, None, refl, sym, ap, ◌∙◌, subst, arith, inl, inr}
use Rattle.std.specs.Prelude.{if◌then◌else◌}
use Rattle.std.specs.List.{find}
use Rattle.std.specs.declared.cmp.Ordering.{Ordering}
use Rattle.std.specs.declared.cmp.Ordering.TheVariants.{Less, Equal, Greater}
use Rattle.std.proofs.lemmas.Bool.{cases_lt}
use Rattle.pmem_pages.specs.Blocks.{Blocks}
use Rattle.pmem_pages.specs.Counts.{times_none}
use Rattle.pmem_pages.specs.Node.{key_cmp}
use Rattle.pmem_pages.specs.Owned.{tree_frame, tree_taken}
use Rattle.pmem_pages.specs.Owners.{Changed, Holds, Owner, maybe, owned_each, owned_maybe, times, times-append}
use Rattle.pmem_pages.specs.Shape.{IsTree, blocks_of, chosen, entries, entry_at}
use Rattle.pmem_pages.specs.declared.node.TreeKey.{TreeKey}
use Rattle.pmem_pages.specs.declared.node.Value.{Value}
use Rattle.pmem_pages.proofs.Owning.{not_free}
use Rattle.pmem_tree.specs.Changes.{Inserts, Puts}
use Rattle.vos_extent.specs.vos_levels.Calls.{Becomes}
use Rattle.vos_extent.specs.vos_levels.Levels.{HasMore, Hung, Level, TellsKey, hung, hung_root, in_part, is_level, map_those, things}
use Rattle.vos_extent.proofs.vos_levels.Changing.{count_is, hung_more, hung_other, hung_tree}
use Rattle.vos_extent.proofs.vos_levels.Settling.{becomes_shown}
use Rattle.vos_extent.proofs.vos_levels.Spots.{find_none, find_spot, look, mapped_spot}
use Rattle.vos_path.specs.Calls.{IsPut, Turns}
use Rattle.pmem_tree.specs.Changes.{PutAt, PutBy}
use Rattle.vos_path.specs.Nodes.{OnePut}
use Rattle.vos_path.specs.Objects.{listed, or_none, together}
use Rattle.vos_path.proofs.Lists.{together_more}

owned_found : {A : Type 0} (q : ℕ) (O : Owner A) (test : A → Bool) (xs : List A) → times q (owned_maybe O (find test xs)) ≤ times q (owned_each O xs)
owned_found q O test [] = omega arith
owned_found {A = A} q O test (x ∷ xs) = by (test x) (owned_found q O test xs)
  where
    by : (t : Bool) → times q (owned_maybe O (find test xs)) ≤ times q (owned_each O xs) → times q (owned_maybe O (if t then Some x else find test xs)) ≤ times q (owned_each O (x ∷ xs))
    by true r = omega (arith, times-append q (O.owned x) (owned_each O xs))
    by false r = omega (arith, times-append q (O.owned x) (owned_each O xs), r)

changed_some : {A : Type 0} (O : Owner A) (m n : Blocks) (a b : A) → Changed (maybe O) m (Some a) n (Some b) → Changed O m a n b
changed_some O m n a b c = record { holds = record { here = c.holds.here; apart = c.holds.apart }; outside = c.outside; taken = c.taken; given = c.given }

-- a thing in part of another was made, or became another
pub changed_part : {A P : Type 0} (f : A → P) (O : Owner P) (none : P) (m n : Blocks) (x : Option A) (b : A) → ((q : ℕ) → times q (O.owned none) ≡ 0) → Changed O m (or_none f none x) n (f b) → Changed (maybe (in_part f O)) m x n (Some b)
changed_part f O none m n None b empty c = record {
  holds = record { here = c.holds.here; apart = c.holds.apart };
  outside = λ q x y. c.outside q (empty q) y;
  taken = λ q x y. c.taken q (empty q) y;
  given = λ q x y. absurd (omega (arith, x, times_none q));
}
changed_part f O none m n (Some a) b empty c = record { holds = record { here = c.holds.here; apart = c.holds.apart }; outside = c.outside; taken = c.taken; given = c.given }

chosen_equal : (o : Ordering) → chosen o false true false ≡ true → o ≡ Equal
chosen_equal Less h = absurd (let n : ⊥ = cc in n)
chosen_equal Equal h = refl
chosen_equal Greater h = absurd (let n : ⊥ = cc in n)

pub level_equal : {A : Type 0} (L : Level A) (k : TreeKey) (a : A) → is_level L k a ≡ true → key_cmp k (L.key a) ≡ Equal
level_equal L k a h = chosen_equal (key_cmp k (L.key a)) h

module _ {A : Type 0} (L : Level A) (k : TreeKey) where
  pub tells_level : TellsKey L k (is_level L k)
  tells_level a good = refl

  -- the tree stands where a thing below it changed, or was made in blocks that were free
  pub still : (m n : Blocks) (at : ℕ) (g : Hung A) (b : A) → Holds (hung L) m g → at ≡ hung_root g → Changed (maybe L.owner) m (find (is_level L k) (things g)) n (Some b) → IsTree n L.kind at g.0
  still m n at g b h e made =
      let t = g.0 in
      let x = find (is_level L k) (things g) in
      let held = λ (q : ℕ). times-append q (blocks_of (entries t)) (owned_each L.owner g.1) in
      let same : (q : ℕ) → 0 < times q (blocks_of (entries t)) → n q ≡ m q = λ q own.
      let out : times q (owned_maybe L.owner x) ≡ 0 = omega (arith, own, h.apart q, held q, owned_found q L.owner (is_level L k) g.1) in
      elim (cases_lt 0 (times q (L.owner.owned b))) [
        | inl new ↦ absurd (not_free m q (tree_taken m L.kind t h.here.0.0 q own) (made.taken q out new))
        | inr none ↦ made.outside q out (omega arith)
      ] in
      record {
        root = e;
        stands = tree_frame m n L.kind t same h.here.0.0;
        apart = λ q. omega (arith, h.apart q, held q, count_is q (entries t));
        balanced = h.here.1.balanced;
        rises = h.here.1.rises;
      }

  -- a thing comes, or in the place of the one with its key, and then its pair or its value into the tree
  pub hung_put : ((a : A) → L.Good a → is_level L k a ≡ true → L.key a ≡ k) → (m n o : Blocks) (g : Hung A) (b : A) (root : ℕ)
      → Holds (hung L) m g → Changed (maybe L.owner) m (find (is_level L k) (things g)) n (Some b) → L.key b ≡ k → L.Good b → PutAt n L.kind g.0 k (L.value b) o root
      → Becomes (hung L) hung_root things m g o root (IsPut (find (is_level L k) (things g)) b)
  hung_put exact m n o g b root h made named good put =
      elim (look L k (is_level L k) tells_level (entries g.0) g.1 h.here.1.leads h.here.1.rises) [
        | inl s ↦
            let e = s.0 in
            let a = s.1.0 in
            let t = s.1.1 in
            let found : find (is_level L k) g.1 ≡ Some a = ap (find (is_level L k)) t.things_are ∙ find_spot (is_level L k) t.left a t.right t.none_left t.passes in
            let c = changed_some L.owner m n a b (subst (λ z. Changed (maybe L.owner) m z n (Some b)) found made) in
            let p : Puts n L.kind g.0 k (L.value b) o root = subst (λ z. PutBy z n L.kind g.0 k (L.value b) o root) t.at put in
            let same : L.key b ≡ L.key a = named ∙ sym (exact a t.leads.good t.passes) in
            becomes_shown things (λ xs ys. ys ≡ map_those (is_level L k) (λ z. b) xs) things (IsPut (find (is_level L k) (things g)) b)
            (λ y is. subst (λ z. IsPut z b (things g) (things y)) (sym found) (record {
              left = t.left;
              right = t.right;
              before_is = t.things_are;
              after_is = is ∙ (ap (map_those (is_level L k) (λ z. b)) t.things_are ∙ mapped_spot (is_level L k) (λ z. b) t.left a t.right t.none_left t.passes t.none_right);
            }))
            (hung_other L k (is_level L k) (λ z. b) m n o g e a root h t c same good p)
        | inr none ↦
            let missing : find (is_level L k) g.1 ≡ None = find_none (is_level L k) g.1 none.none in
            let c = subst (λ z. Changed (maybe L.owner) m z n (Some b)) missing made in
            let p : Inserts n L.kind g.0 k (L.value b) o root = subst (λ z. PutBy z n L.kind g.0 k (L.value b) o root) none.at put in
            let p2 : Inserts n L.kind g.0 (L.key b) (L.value b) o root = subst (λ z. Inserts n L.kind g.0 z (L.value b) o root) (sym named) p in
            becomes_shown things (HasMore b) things (IsPut (find (is_level L k) (things g)) b) (λ y more. subst (λ z. IsPut z b (things g) (things y)) (sym missing) more)
            (hung_more L m n o g b root h c good (ap (λ z. entry_at z (entries g.0)) named ∙ none.at) p2)
      ]

pub tree_of : {A : Type 0} (L : Level A) (m : Blocks) (kind at : ℕ) (g : Hung A) → kind ≡ L.kind → Holds (hung L) m g → at ≡ hung_root g → IsTree m kind at g.0
tree_of L m kind at g k h e = subst (λ z. IsTree m z at g.0) (sym k) (hung_tree L m at g h e)

-- a level whose things stand in parts of them
abbrev pub part_level : {A P : Type 0} → ℕ → (A → P) → Owner P → (A → TreeKey) → (A → Value) → (A → Type 0) → Level A
part_level kind f O key value Good = record { kind = kind; owner = in_part f O; key = key; value = value; Good = Good }

-- one more among the versions of a thing is one more among those of all
pub level_put : {A P V : Type 0} (kind : ℕ) (f : A → P) (O : Owner P) (key : A → TreeKey) (value : A → Value) (Good : A → Type 0) (k : TreeKey) (none : P) (shown : A → List V) (v : V) → ((q : ℕ) → times q (O.owned none) ≡ 0)
    → ((a : A) → Good a → is_level (part_level kind f O key value Good) k a ≡ true → key a ≡ k)
    → (m n o : Blocks) (g : Hung A) (b : A) (root : ℕ) → Holds (hung (part_level kind f O key value Good)) m g
    → Changed O m (or_none f none (find (is_level (part_level kind f O key value Good) k) (things g))) n (f b) → key b ≡ k → Good b → PutAt n kind g.0 k (value b) o root
    → HasMore v (listed shown (find (is_level (part_level kind f O key value Good) k) (things g))) (shown b)
    → (Named : A → Type 0) (N : P → P → Type 0) → Named b → N (or_none f none (find (is_level (part_level kind f O key value Good) k) (things g))) (f b)
    → Turns (hung (part_level kind f O key value Good)) hung_root (λ z. together shown (things z)) m g o root (HasMore v) (λ x y. OnePut (is_level (part_level kind f O key value Good) k) f none Named N (things x) (things y))
level_put kind f O key value Good k none shown v empty exact m n o g b root h made named good put more Named N called nodes =
    let x = find (is_level (part_level kind f O key value Good) k) (things g) in
    let r = hung_put (part_level kind f O key value Good) k exact m n o g b root h (changed_part f O none m n x b empty made) named good put in
    record {
      now = r.now;
      changed = r.changed;
      roots_are = r.root_is;
      shown_is = together_more shown x b v (things g) (things r.now) r.shown_is more;
      nodes = record { now = b; named = called; put = r.shown_is; nodes = nodes };
    }
