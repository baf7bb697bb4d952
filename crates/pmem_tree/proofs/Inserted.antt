-- A pair comes into a whole tree.
use Rattle.std.proofs.Common.{◌≡◌, ◌≢◌, ℕ, ◌+◌, ◌*◌, ◌≤◌, ◌<◌, List, [], ◌∷◌, Option, Some, None, refl, sym, ap, ◌∙◌, subst, arith, ◌⊎◌, inl, inr}
use Rattle.std.proofs.lemmas.Bool.Decides.{eqb_tells}
use Rattle.pmem_pages.specs.Blocks.{Blocks, Budget, IsSpent, put}
use Rattle.pmem_pages.proofs.BlockLaws.{put_here, put_other}
use Rattle.pmem_pages.specs.declared.node.Pair.{Pair}
use Rattle.pmem_pages.specs.Node.{IsKey, IsValue}
use Rattle.pmem_pages.specs.Shape.{Entry, Shape, height, entries, count, Balanced, Rises, IsTree, entry_at}
use Rattle.pmem_pages.proofs.Lists.{count_one, count_own, count_other, count_inserted, rises_inserted}
use Rattle.pmem_pages.proofs.Heights.{low, never_high}
use Rattle.pmem_tree_base.specs.declared.read.Sub.{Sub}
use Rattle.pmem_tree_base.specs.Nodes.{entry_of, StandsAt}
use Rattle.pmem_tree_base.proofs.Staged.{spent_then}
use Rattle.pmem_tree.specs.Ends.{StagesAtEnd, GrowsAtEnd}
use Rattle.pmem_tree.specs.Grow.{Grown, GrowsCheaply}
use Rattle.pmem_tree.specs.Set.{CanSet, Takes, SetsNew, SetsOld, SetsBy, Sets}
use Rattle.pmem_tree.specs.Changes.{Inserts, Puts, PutBy, PutAt, put_blocks}
use Rattle.pmem_tree.specs.Calls.{StagesAtMost, TooFew}
use Rattle.pmem_tree.proofs.Ends.{spent_none}
use Rattle.pmem_tree.proofs.Setting.{free_outside, stands_taken}
use Rattle.pmem_tree.proofs.Valued.{puts}

-- a whole tree, where no block was taken yet
pub can_set : (m : Blocks) (kind root depth : ℕ) (p : Pair) (t : Shape) → IsTree m kind root t → IsKey p.key → IsValue kind p.value → depth ≡ height t → CanSet m kind root depth None p t
can_set m kind root depth p t w key value d = record {
  root_is = w.root;
  stands = w.stands;
  rises = w.rises;
  balanced = w.balanced;
  apart = w.apart;
  high = omega arith;
  low = omega (arith, never_high m kind t w.stands w.apart w.balanced);
  key = key;
  value = value;
  reserved = tt;
}

-- .. and where one was taken
module _ (m : Blocks) (kind root : ℕ) (p : Pair) (t : Shape) (w : IsTree m kind root t) (b0 : Budget) (b : ℕ) (n : Blocks) (b1 : Budget) (takes : Takes m b0 b n b1) where
  pub whole_stands : StandsAt n kind root t
  whole_stands = record { root_is = w.root; stands = stands_taken m n kind b takes.bytes t takes.was_free takes.taken w.stands }

  pub can_insert : (depth : ℕ) → IsKey p.key → IsValue kind p.value → depth ≡ height t → entry_at p.key (entries t) ≡ None → CanSet n kind root depth (Some b) p t
  can_insert depth key value d none = record {
    root_is = w.root;
    stands = whole_stands.stands;
    rises = w.rises;
    balanced = w.balanced;
    apart = w.apart;
    high = omega arith;
    low = omega (arith, never_high m kind t w.stands w.apart w.balanced);
    key = key;
    value = value;
    reserved = record { low = takes.low; high = takes.high; taken = record { bytes = takes.bytes; holds = ap (λ (z : Blocks). z b) takes.taken ∙ put_here m b (Some takes.bytes) }; outside = free_outside m kind b t w.stands takes.was_free; missing = none };
  }

  -- a block that was taken before is as good as one that is taken on the way
  pub set_with : entry_at p.key (entries t) ≡ None → (o : Blocks) (s : Sub) (b2 : Budget) → Sets n kind (Some b) p t b1 o s b2 → SetsNew m kind None p t b0 o s b2
  set_with none o s b2 sets =
      let v : SetsNew n kind (Some b) p t b1 o s b2 = subst (λ (x : Option Entry). SetsBy x n kind (Some b) p t b1 o s b2) none sets in
      record {
        block = b;
        begun = n;
        left = b1;
        takes = takes;
        grown = subst (λ (z : Blocks). Grown z kind t (entry_of b p) o s) v.takes.1.0 (subst (λ (z : ℕ). Grown v.begun kind t (entry_of z p) o s) v.takes.0 v.grown);
        cheap = subst (λ (z : Budget). GrowsCheaply t s z b2) v.takes.1.1 v.cheap;
        ends = subst (λ (z : Budget). GrowsAtEnd p.key t s z b2) v.takes.1.1 v.ends;
        free = v.free ∙ ap (λ (z : Budget). z.free) v.takes.1.1;
      }

-- the pair came into the whole tree
module _ (m n : Blocks) (kind root b : ℕ) (p : Pair) (bytes : List ℕ) (free : m b ≡ None) (e : n ≡ put m b (Some bytes)) (t : Shape) (w : IsTree m kind root t) where
  module _ (none : entry_at p.key (entries t) ≡ None) (o : Blocks) (s : Sub) (g : Grown n kind t (entry_of b p) o s) where
    x : Entry
    x = entry_of b p

    counted : (q : ℕ) → count q (entries g.tree) ≡ count q (entry_of b p ∷ []) + count q (entries t)
    counted q = ap (count q) g.entries_are ∙ count_inserted q (entry_of b p) (entries t) none

    once : (q : ℕ) → count q (entries g.tree) ≤ 1
    once q = elim (eqb_tells q b) [
      | inl a ↦ let z = subst (λ v. count v (entries t) ≡ 0) (sym a.1) (free_outside m kind b t w.stands free) in let y = subst (λ v. count v (entry_of b p ∷ []) ≡ 1) (sym a.1) (count_own (entry_of b p)) in omega (arith, z, y, counted q)
      | inr a ↦ omega (arith, count_other q (entry_of b p) a.1, w.apart q, counted q)
    ]

    tree_again : IsTree o kind s.root g.tree
    tree_again = record {
      root = g.is_sub.root_is;
      stands = g.stands;
      apart = once;
      balanced = g.balanced;
      rises = subst Rises (sym g.entries_are) (rises_inserted (entry_of b p) (entries t) w.rises);
    }

    outside_as : (q : ℕ) → count q (entries t) ≡ 0 → count q (entries g.tree) ≡ 0 → o q ≡ m q
    outside_as q no_t no_g =
        let ne : q ≢ b = λ z. let y = subst (λ v. count v (entry_of b p ∷ []) ≡ 1) (sym z) (count_own (entry_of b p)) in absurd (omega (arith, y, no_g, counted q)) in
        g.keeps q (omega (arith, no_t, no_g, counted q, count_one q (entry_of b p) (entries t))) ∙ (ap (λ (z : Blocks). z q) e ∙ put_other m b (Some bytes) q ne)

    taken_free : (q : ℕ) → count q (entries t) ≡ 0 → 0 < count q (entries g.tree) → m q ≡ None
    taken_free q no_t in_g = elim (eqb_tells q b) [
      | inl a ↦ ap m a.1 ∙ free
      | inr a ↦ absurd (omega (arith, no_t, in_g, counted q, count_other q (entry_of b p) a.1))
    ]

    pub inserts : Inserts m kind t p.key p.value o s.root
    unfolding count
    inserts = record {
      tree = g.tree;
      block = b;
      was_free = free;
      is_tree = tree_again;
      entries_are = g.entries_are;
      changed = record {
        holds = record { here = g.stands; apart = once };
        outside = outside_as;
        taken = taken_free;
        given = λ q in_t no_g. absurd (omega (arith, in_t, no_g, counted q));
      };
    }

module _ (m : Blocks) (kind root : ℕ) (p : Pair) (t : Shape) (w : IsTree m kind root t) (b0 : Budget) (o : Blocks) (s : Sub) (b2 : Budget) (sets : SetsNew m kind None p t b0 o s b2) where
  pub sets_inserts : entry_at p.key (entries t) ≡ None → Inserts m kind t p.key p.value o s.root
  sets_inserts none = inserts m sets.begun kind root sets.block p sets.takes.bytes sets.takes.was_free sets.takes.taken t w none o s sets.grown

  -- what it staged: the block, and what went into the tree
  pub stages_few : StagesAtMost 4 8 t b0 b2
  stages_few d n =
      let h = low t d w.balanced n in
      spent_then _ _ _ _ _ _ b0 sets.left b2 sets.takes.spent sets.cheap.at_most (omega arith) (omega arith)

  -- .. by the end of the key's way
  pub stages_end : StagesAtEnd 6 p.key t b0 b2
  stages_end = spent_then _ _ _ _ _ _ b0 sets.left b2 sets.takes.spent sets.ends.most (omega arith) (omega arith)

  pub took_one : b2.free + 1 ≡ b0.free
  took_one = ap (λ z. z + 1) sets.free ∙ sets.takes.free

-- a pair in the whole tree, by whether its key was there
module _ (m : Blocks) (kind root depth : ℕ) (p : Pair) (t : Shape) (w : IsTree m kind root t) (value : IsValue kind p.value) (b0 : Budget) (o : Blocks) (s : Sub) (b2 : Budget) where
  -- the same root stands for the tree
  old_root : (gone : Entry) → SetsOld m kind p gone t b0 o s b2 → s.root ≡ root
  old_root gone v = v.as_rooted ∙ sym w.root

  put_by : (x : Option Entry) → entry_at p.key (entries t) ≡ x → SetsBy x m kind None p t b0 o s b2 → PutBy x m kind t p.key p.value o s.root
  put_by None none v = sets_inserts m kind root p t w b0 o s b2 v none
  put_by (Some gone) there v = subst (λ (z : ℕ). Puts m kind t p.key p.value o z) (sym (old_root gone v)) (puts m kind root depth p value gone t w there o v.put)

  pub sets_put : Sets m kind None p t b0 o s b2 → PutAt m kind t p.key p.value o s.root
  sets_put v = put_by (entry_at p.key (entries t)) refl v

  stages_by : (x : Option Entry) → SetsBy x m kind None p t b0 o s b2 → StagesAtMost 4 8 t b0 b2
  stages_by None v d n = stages_few m kind root p t w b0 o s b2 v d n
  stages_by (Some gone) v d n = spent_then _ _ _ _ _ _ b0 b2 b2 v.spent (spent_none b2 b2 refl) (omega arith) (omega arith)

  pub sets_stages : Sets m kind None p t b0 o s b2 → StagesAtMost 4 8 t b0 b2
  sets_stages v = stages_by (entry_at p.key (entries t)) v

  takes_by : (x : Option Entry) → SetsBy x m kind None p t b0 o s b2 → b2.free + put_blocks x ≡ b0.free
  takes_by None v = took_one m kind root p t w b0 o s b2 v
  takes_by (Some gone) v = omega (arith, v.free)

  pub sets_take : Sets m kind None p t b0 o s b2 → b2.free + put_blocks (entry_at p.key (entries t)) ≡ b0.free
  sets_take v = takes_by (entry_at p.key (entries t)) v

  pub sets_new : entry_at p.key (entries t) ≡ None → Sets m kind None p t b0 o s b2 → SetsNew m kind None p t b0 o s b2
  sets_new none v = subst (λ (x : Option Entry). SetsBy x m kind None p t b0 o s b2) none v

  pub sets_old : (gone : Entry) → entry_at p.key (entries t) ≡ Some gone → Sets m kind None p t b0 o s b2 → SetsOld m kind p gone t b0 o s b2
  sets_old gone there v = subst (λ (x : Option Entry). SetsBy x m kind None p t b0 o s b2) there v

-- a refusal for want of ranges or bytes
pub too_few : (t : Shape) (b0 b1 : Budget) → Balanced t → IsSpent 1 1 b0 b1 → (b1.ranges < 3 * height t + 3) ⊎ (b1.bytes < 256 * (3 * height t + 3)) → TooFew t b0
too_few t b0 b1 b one h d n =
    let k = low t d b n in
    let r = one.ranges_most in
    let y = one.bytes_most in
    elim h [ inl f ↦ inl (omega arith) | inr f ↦ inr (omega arith) ]

pub too_few_1 : (t : Shape) (b0 : Budget) → (b0.ranges < 1) ⊎ (b0.bytes < 1) → TooFew t b0
too_few_1 t b0 h d n = elim h [ inl f ↦ inl (omega arith) | inr f ↦ inr (omega arith) ]

-- what is left too little stays so
pub few_less : (t : Shape) (r y : ℕ) (b0 b1 : Budget) → IsSpent r y b0 b1 → TooFew t b0 → TooFew t b1
few_less t r y b0 b1 s h d n = elim (h d n) [ inl f ↦ inl (omega (arith, f, s.ranges_least)) | inr f ↦ inr (omega (arith, f, s.bytes_least)) ]
