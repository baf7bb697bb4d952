-- A value is put that stands there already.
use Rattle.std.proofs.Common.{◌≡◌, ◌==◌, ℕ, true, List, [], ◌∷◌, Some, None, sym, ap, ◌∙◌, arith}
use Rattle.std.specs.declared.cmp.Ordering.{Ordering}
use Rattle.std.specs.declared.cmp.Ordering.TheVariants.{Less, Equal, Greater}
use Rattle.std.proofs.lemmas.Bool.Decides.{Decides-eqb}
use Rattle.daos_model.specs.BoolLaws.{and_left, and_right, both}
use Rattle.pmem_pages.specs.Blocks.{Blocks}
use Rattle.pmem_pages.specs.Node.{key_cmp}
use Rattle.pmem_pages.specs.Owned.{tree_owner}
use Rattle.pmem_pages.specs.Parts.{with_value}
use Rattle.pmem_pages.specs.Shape.{Entry, IsTree, Shape, chosen, entries, entry_at, valued}
use Rattle.pmem_pages.specs.declared.node.TreeKey.{TreeKey}
use Rattle.pmem_pages.specs.declared.node.Value.{Value}
use Rattle.pmem_tree.specs.Changes.{Puts}
use Rattle.vos_values.specs.declared.values.AkeyRoots.{AkeyRoots}
use Rattle.vos_values.specs.declared.values.Roots.{Roots}
use Rattle.vos_levels.proofs.Changing.{count_is, stays}
use Rattle.vos_settle.specs.Nodes.{are_akey_roots, are_roots}

valued_same : (k : TreeKey) (v : Value) (es : List Entry) (e : Entry) → entry_at k es ≡ Some e → e.value ≡ v → valued k v es ≡ es
valued_same k v [] e h s = absurd (let n : ⊥ = cc in n)
valued_same k v (x ∷ es) e h s = by (key_cmp k x.key) h (valued_same k v es e)
  where
    by : (o : Ordering) → chosen o None (Some x) (entry_at k es) ≡ Some e → (entry_at k es ≡ Some e → e.value ≡ v → valued k v es ≡ es) → chosen o (x ∷ es) (with_value x v ∷ es) (x ∷ valued k v es) ≡ x ∷ es
    by Less f r = absurd (let n : ⊥ = cc in n)
    by Equal f r = let same : x ≡ e = cc in ap (λ z. with_value x z ∷ es) (sym s ∙ ap (λ (z : Entry). z.value) (sym same))
    by Greater f r = ap (λ z. x ∷ z) (r f s)

pub puts_same : (m : Blocks) (kind root : ℕ) (t : Shape) (key : TreeKey) (v : Value) (e : Entry) → IsTree m kind root t → entry_at key (entries t) ≡ Some e → e.value ≡ v → Puts m kind t key v m root
puts_same m kind root t key v e it at same = record {
  tree = t;
  is_tree = it;
  entries_are = sym (valued_same key v (entries t) e at same);
  changed = stays (tree_owner kind) m t (record { here = it.stands; apart = λ q. omega (arith, it.apart q, count_is q (entries t)) });
}

-- ---- roots

pub akey_roots_same : (a b : AkeyRoots) → are_akey_roots a b ≡ true → a ≡ b
akey_roots_same a b h =
    let log = (Decides-eqb a.log b.log).0 (and_left (a.log == b.log) _ (and_left _ (a.extents == b.extents) h)) in
    let singles = (Decides-eqb a.singles b.singles).0 (and_right (a.log == b.log) _ (and_left _ (a.extents == b.extents) h)) in
    let extents = (Decides-eqb a.extents b.extents).0 (and_right _ (a.extents == b.extents) h) in
    λ i. record { log = log i; singles = singles i; extents = extents i }

pub akey_roots_are : (a b : AkeyRoots) → b ≡ a → are_akey_roots a b ≡ true
akey_roots_are a b e =
    both _ _ (both _ _ ((Decides-eqb a.log b.log).1 (ap (λ (r : AkeyRoots). r.log) (sym e))) ((Decides-eqb a.singles b.singles).1 (ap (λ (r : AkeyRoots). r.singles) (sym e)))) ((Decides-eqb a.extents b.extents).1 (ap (λ (r : AkeyRoots). r.extents) (sym e)))

pub roots_same : (a b : Roots) → are_roots a b ≡ true → a ≡ b
roots_same a b h =
    let log = (Decides-eqb a.log b.log).0 (and_left _ (a.below == b.below) h) in
    let below = (Decides-eqb a.below b.below).0 (and_right (a.log == b.log) _ h) in
    λ i. record { log = log i; below = below i }

pub roots_are_so : (a b : Roots) → b ≡ a → are_roots a b ≡ true
roots_are_so a b e = both _ _ ((Decides-eqb a.log b.log).1 (ap (λ (r : Roots). r.log) (sym e))) ((Decides-eqb a.below b.below).1 (ap (λ (r : Roots). r.below) (sym e)))
