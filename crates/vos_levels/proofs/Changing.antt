-- A thing is hung under a tree, becomes another, or goes.
use Rattle.std.proofs.Common.{◌≡◌, ℕ, ◌<◌, Bool, List, [], ◌∷◌, ◌++◌, Some, None, refl, sym, ap, ◌∙◌, subst, arith, inl, inr}
use Rattle.std.proofs.lemmas.Bool.{cases_lt}
use Rattle.pmem_tree.specs.pmem_pages.Blocks.{Blocks}
use Rattle.pmem_tree.specs.pmem_pages.Owners.{Changed, Holds, Owner, both, each, maybe, owned_each, times, times-append}
use Rattle.pmem_tree.specs.pmem_pages.Counts.{times_none}
use Rattle.pmem_tree.specs.pmem_pages.Owned.{tree_frame, tree_owner, tree_taken}
use Rattle.pmem_tree.specs.pmem_pages.Parts.{Between, with_value}
use Rattle.pmem_tree.specs.pmem_pages.Shape.{Entry, IsTree, blocks_of, count, entries, entry_at}
use Rattle.pmem_tree.specs.pmem_pages.declared.node.TreeKey.{TreeKey}
use Rattle.pmem_tree.proofs.pmem_pages.Owning.{changed_such, changed_under, changed_under_less, changed_under_more, not_free}
use Rattle.pmem_tree.proofs.pmem_pages.Parts.{inserted_between}
use Rattle.pmem_tree.specs.Changes.{Inserts, Puts, Removes}
use Rattle.vos_levels.specs.Levels.{HasMore, Hung, IsHung, LeadToAll, LeadsTo, Level, hung, hung_root, in_none, map_those, things, without_those}
use Rattle.vos_levels.specs.Calls.{Becomes}
use Rattle.vos_levels.proofs.Spots.{Spot, halves, joined, mapped_spot, without_spot}

pub count_is : (q : ℕ) (es : List Entry) → count q es ≡ times q (blocks_of es)
unfolding count
count_is q es = refl

-- the tree of a level stands
pub hung_tree : {A : Type 0} (L : Level A) (m : Blocks) (at : ℕ) (g : Hung A) → Holds (hung L) m g → at ≡ hung_root g → IsTree m L.kind at g.0
hung_tree L m at g h e = record {
  root = e;
  stands = h.here.0.0;
  apart = λ q. omega (arith, h.apart q, times-append q (blocks_of (entries g.0)) (owned_each L.owner g.1), count_is q (entries g.0));
  balanced = h.here.1.balanced;
  rises = h.here.1.rises;
}

-- and still where something was made in blocks that were free
pub still_tree : {A : Type 0} (L : Level A) (m n : Blocks) (at : ℕ) (g : Hung A) (a : A) → Holds (hung L) m g → at ≡ hung_root g → Changed (maybe L.owner) m None n (Some a) → IsTree n L.kind at g.0
still_tree L m n at g a h e made =
    let t = g.0 in
    let held = λ (q : ℕ). times-append q (blocks_of (entries t)) (owned_each L.owner g.1) in
    let same : (q : ℕ) → 0 < times q (blocks_of (entries t)) → n q ≡ m q = λ q own.
    elim (cases_lt 0 (times q (L.owner.owned a))) [
      | inl new ↦ absurd (not_free m q (tree_taken m L.kind t h.here.0.0 q own) (made.taken q (omega (arith, times_none q)) new))
      | inr none ↦ made.outside q (omega (arith, times_none q)) (omega arith)
    ] in
    record {
      root = e;
      stands = tree_frame m n L.kind t same h.here.0.0;
      apart = λ q. omega (arith, h.apart q, held q, count_is q (entries t));
      balanced = h.here.1.balanced;
      rises = h.here.1.rises;
    }

-- One more: a thing was made in free blocks, and then a pair that leads to it went into the tree.
pub hung_more : {A : Type 0} (L : Level A) (m n o : Blocks) (g : Hung A) (a : A) (root : ℕ)
    → Holds (hung L) m g → Changed (maybe L.owner) m None n (Some a) → L.Good a → entry_at (L.key a) (entries g.0) ≡ None
    → Inserts n L.kind g.0 (L.key a) (L.value a) o root → Becomes (hung L) hung_root things m g o root (HasMore a)
hung_more L m n o g a root h made good missing i =
    let x : Entry = record { block = i.block; key = L.key a; value = L.value a } in
    let place : Between x (entries g.0) (entries i.tree) = subst (λ z. Between x (entries g.0) z) (sym i.entries_are) (inserted_between x (entries g.0) missing) in
    let p = halves L place.front place.back g.1 (subst (λ z. LeadToAll L z g.1) place.without_is h.here.1.leads) in
    let fits : LeadsTo L x a = record { key = refl; value = refl; good = good } in
    let held : Holds (both (tree_owner L.kind) (each L.owner)) m (g.0, p.left ++ p.right) = subst (λ z. Holds (both (tree_owner L.kind) (each L.owner)) m (g.0, z)) p.is (record { here = h.here.0; apart = h.apart }) in
    let c = changed_under_more (tree_owner L.kind) L.owner m n o g.0 i.tree p.left a p.right held made i.changed in
    let again : LeadToAll L (entries i.tree) (p.left ++ a ∷ p.right) = subst (λ z. LeadToAll L z (p.left ++ a ∷ p.right)) (sym place.with_is) (joined L place.front (x ∷ place.back) p.left (a ∷ p.right) p.left_leads (fits, p.right_leads)) in
    let all = changed_such (IsHung L) (both (tree_owner L.kind) (each L.owner)) m o (g.0, p.left ++ p.right) (i.tree, p.left ++ a ∷ p.right) c (record { balanced = i.is_tree.balanced; rises = i.is_tree.rises; leads = again }) in
    record {
      now = (i.tree, p.left ++ a ∷ p.right);
      changed = subst (λ z. Changed (hung L) m (g.0, z) o (i.tree, p.left ++ a ∷ p.right)) (sym p.is) all;
      root_is = i.is_tree.root;
      shown_is = record { left = p.left; right = p.right; before_is = p.is; after_is = refl };
    }

-- The thing that passes a test becomes another of the same key, and then its value in the tree.
pub hung_other : {A : Type 0} (L : Level A) (k : TreeKey) (test : A → Bool) (f : A → A) (m n o : Blocks) (g : Hung A) (e : Entry) (a : A) (root : ℕ)
    → Holds (hung L) m g → Spot L k test (entries g.0) g.1 e a → Changed L.owner m a n (f a) → L.key (f a) ≡ L.key a → L.Good (f a)
    → Puts n L.kind g.0 k (L.value (f a)) o root → Becomes (hung L) hung_root things m g o root (λ xs ys. ys ≡ map_those test f xs)
hung_other L k test f m n o g e a root h s c same good p =
    let y : Entry = with_value e (L.value (f a)) in
    let valued_is : entries p.tree ≡ s.front ++ y ∷ s.back = p.entries_are ∙ s.valued_is (L.value (f a)) in
    let fits : LeadsTo L y (f a) = record { key = s.leads.key ∙ sym same; value = refl; good = good } in
    let held : Holds (both (tree_owner L.kind) (each L.owner)) m (g.0, s.left ++ a ∷ s.right) = subst (λ z. Holds (both (tree_owner L.kind) (each L.owner)) m (g.0, z)) s.things_are (record { here = h.here.0; apart = h.apart }) in
    let d = changed_under (tree_owner L.kind) L.owner m n o g.0 p.tree s.left a (f a) s.right held c p.changed in
    let again : LeadToAll L (entries p.tree) (s.left ++ f a ∷ s.right) = subst (λ z. LeadToAll L z (s.left ++ f a ∷ s.right)) (sym valued_is) (joined L s.front (y ∷ s.back) s.left (f a ∷ s.right) s.front_leads (fits, s.back_leads)) in
    let all = changed_such (IsHung L) (both (tree_owner L.kind) (each L.owner)) m o (g.0, s.left ++ a ∷ s.right) (p.tree, s.left ++ f a ∷ s.right) d (record { balanced = p.is_tree.balanced; rises = p.is_tree.rises; leads = again }) in
    record {
      now = (p.tree, s.left ++ f a ∷ s.right);
      changed = subst (λ z. Changed (hung L) m (g.0, z) o (p.tree, s.left ++ f a ∷ s.right)) (sym s.things_are) all;
      root_is = p.is_tree.root;
      shown_is = sym (ap (map_those test f) s.things_are ∙ mapped_spot test f s.left a s.right s.none_left s.passes s.none_right);
    }

-- The pair of the thing that passes a test goes from the tree, and then the thing is given back.
pub hung_less : {A : Type 0} (L : Level A) (k : TreeKey) (test : A → Bool) (m n o : Blocks) (g : Hung A) (e : Entry) (a : A) (root : ℕ)
    → Holds (hung L) m g → Spot L k test (entries g.0) g.1 e a → Removes m L.kind g.0 k e n root → Changed (maybe L.owner) n (Some a) o None
    → Becomes (hung L) hung_root things m g o root (λ xs ys. ys ≡ without_those test xs)
hung_less L k test m n o g e a root h s p gone =
    let held : Holds (both (tree_owner L.kind) (each L.owner)) m (g.0, s.left ++ a ∷ s.right) = subst (λ z. Holds (both (tree_owner L.kind) (each L.owner)) m (g.0, z)) s.things_are (record { here = h.here.0; apart = h.apart }) in
    let d = changed_under_less (tree_owner L.kind) L.owner m n o g.0 p.tree s.left a s.right held p.changed gone in
    let again : LeadToAll L (entries p.tree) (s.left ++ s.right) = subst (λ z. LeadToAll L z (s.left ++ s.right)) (sym (p.entries_are ∙ s.removed_is)) (joined L s.front s.back s.left s.right s.front_leads s.back_leads) in
    let all = changed_such (IsHung L) (both (tree_owner L.kind) (each L.owner)) m o (g.0, s.left ++ a ∷ s.right) (p.tree, s.left ++ s.right) d (record { balanced = p.is_tree.balanced; rises = p.is_tree.rises; leads = again }) in
    record {
      now = (p.tree, s.left ++ s.right);
      changed = subst (λ z. Changed (hung L) m (g.0, z) o (p.tree, s.left ++ s.right)) (sym s.things_are) all;
      root_is = p.is_tree.root;
      shown_is = sym (ap (without_those test) s.things_are ∙ without_spot test s.left a s.right s.none_left s.passes s.none_right);
    }

-- ---- things in no block, and things that stay

-- nothing is made or given back
pub none_made : {A : Type 0} (m : Blocks) (a : A) → Changed (maybe in_none) m None m (Some a)
unfolding times
none_made m a = record { holds = record { here = tt; apart = λ q. omega arith }; outside = λ q x y. refl; taken = λ q x y. absurd (omega arith); given = λ q x y. absurd (omega arith) }

pub none_given : {A : Type 0} (m : Blocks) (a : A) → Changed (maybe in_none) m (Some a) m None
unfolding times
none_given m a = record { holds = record { here = tt; apart = λ q. omega arith }; outside = λ q x y. refl; taken = λ q x y. absurd (omega arith); given = λ q x y. absurd (omega arith) }

pub none_changes : {A : Type 0} (m : Blocks) (a b : A) → Changed in_none m a m b
unfolding times
none_changes m a b = record { holds = record { here = tt; apart = λ q. omega arith }; outside = λ q x y. refl; taken = λ q x y. absurd (omega arith); given = λ q x y. absurd (omega arith) }

-- a thing that stands where it stood
pub stays : {A : Type 0} (O : Owner A) (m : Blocks) (a : A) → Holds O m a → Changed O m a m a
stays O m a h = record { holds = h; outside = λ q x y. refl; taken = λ q x y. absurd (omega arith); given = λ q x y. absurd (omega arith) }

-- the thing that passes a test stands
pub holds_spot : {A : Type 0} (O : Owner A) (m : Blocks) (left : List A) (a : A) (right : List A) → Holds (each O) m (left ++ a ∷ right) → Holds O m a
holds_spot O m [] a right h = record { here = h.here.0; apart = λ q. omega (arith, h.apart q, times-append q (O.owned a) (owned_each O right)) }
holds_spot O m (x ∷ left) a right h = holds_spot O m left a right (record { here = h.here.1; apart = λ q. omega (arith, h.apart q, times-append q (O.owned x) (owned_each O (left ++ a ∷ right))) })

pub holds_each : {A : Type 0} (L : Level A) (m : Blocks) (g : Hung A) → Holds (hung L) m g → Holds (each L.owner) m g.1
holds_each L m g h = record { here = h.here.0.1; apart = λ q. omega (arith, h.apart q, times-append q (blocks_of (entries g.0)) (owned_each L.owner g.1)) }
