-- A shape that stands in blocks.
use Rattle.std.proofs.Common.{◌≡◌, ◌≢◌, ℕ, ◌<◌, ◌^◌, List, Some, ap, ◌∙◌, arith, inl, inr}
use Rattle.std.proofs.lemmas.Bool.{cases_lt}
use Rattle.std.proofs.lemmas.Bool.Decides.{eqb_tells}
use Rattle.pmem_pages.specs.Blocks.{Blocks, IsTaken}
use Rattle.pmem_pages.specs.Node.{node_bytes, node_of, IsNode}
use Rattle.pmem_pages.specs.Shape.{Entry, Shape, Leaf, Fork, root_of, entries, blocks_of, count, node_at, NodeStands, Stands, Balanced, Rises, IsTree}
use Rattle.pmem_pages.specs.Owners.{SameIn, Holds}
use Rattle.pmem_pages.specs.Owned.{tree_taken, tree_frame, tree_owner}
use Rattle.pmem_pages.proofs.Lists.{count_none, count_other, count_parts}
use Rattle.pmem_pages.proofs.Nodes.{node_again}

-- a frame: what the nodes' blocks hold is all that counts
pub stands_on : (m n : Blocks) (kind : ℕ) (t : Shape) → ((q : ℕ) → 0 < count q (entries t) → n q ≡ m q) → Stands m kind t → Stands n kind t
unfolding count
stands_on m n kind t f s = tree_frame m n kind t f s

-- the blocks of a tree are taken
pub taken_in : (m : Blocks) (kind : ℕ) (t : Shape) (q : ℕ) → Stands m kind t → 0 < count q (entries t) → IsTaken m q
unfolding count
taken_in m kind t q s h = tree_taken m kind t s q h

pub node_fits : (m : Blocks) (kind : ℕ) (l : Shape) (e : Entry) (r : Shape) → NodeStands m kind l e r → root_of l < 2 ^ 32 → root_of r < 2 ^ 32 → IsNode kind (node_at l e r)
node_fits m kind l e r s a b = record { left = a; right = b; key = s.entry.key; value = s.entry.value }

pub root_fits : (m : Blocks) (kind : ℕ) (t : Shape) → Stands m kind t → root_of t < 2 ^ 32
root_fits m kind Leaf s = omega arith
root_fits m kind (Fork l e r) s = s.0.entry.high

-- a node is read from its block
pub read_again : (m : Blocks) (kind : ℕ) (bytes : List ℕ) (l : Shape) (e : Entry) (r : Shape) → Stands m kind (Fork l e r) → m e.block ≡ Some bytes → node_of kind bytes ≡ node_at l e r
read_again m kind bytes l e r s b =
    let same : bytes ≡ node_bytes kind (node_at l e r) = cc (s.0.block, b) in
    ap (node_of kind) same ∙ node_again kind (node_at l e r) (node_fits m kind l e r s.0 (root_fits m kind l s.1) (root_fits m kind r s.2))

pub root_taken : (m : Blocks) (kind at : ℕ) (t : Shape) → Stands m kind t → at ≡ root_of t → at ≢ 0 → IsTaken m at
root_taken m kind at Leaf s e ne = absurd (ne e)
root_taken m kind at (Fork l e r) s a ne = record { bytes = _; holds = ap m a ∙ s.0.block }

-- the blocks of a tree have numbers of 32 bits
pub low_in : (m : Blocks) (kind : ℕ) (t : Shape) (q : ℕ) → Stands m kind t → 0 < count q (entries t) → q < 2 ^ 32
low_in m kind Leaf q s h = absurd (omega (arith, count_none q))
low_in m kind (Fork l e r) q s h =
    elim (eqb_tells q e.block) [
      | inl a ↦ let f = s.0.entry.high in let z = a.1 in omega arith
      | inr b ↦
          elim (cases_lt 0 (count q (entries l))) [
            | inl in_left ↦ low_in m kind l q s.1 in_left
            | inr none ↦ low_in m kind r q s.2 (omega (arith, h, none, count_parts q (entries l) e (entries r), count_other q e b.1))
          ]
    ]

-- a tree is one wherever its blocks hold the same
pub is_tree_on : (m n : Blocks) (kind at : ℕ) (t : Shape) → SameIn m n (blocks_of (entries t)) → IsTree m kind at t → IsTree n kind at t
is_tree_on m n kind at t f w = record { root = w.root; stands = tree_frame m n kind t f w.stands; apart = w.apart; balanced = w.balanced; rises = w.rises }

-- a tree is what its owner holds, with its root, its balance and its order
pub tree_holds : (m : Blocks) (kind at : ℕ) (t : Shape) → IsTree m kind at t → Holds (tree_owner kind) m t
unfolding count
tree_holds m kind at t w = record { here = w.stands; apart = w.apart }

pub held_tree : (m : Blocks) (kind at : ℕ) (t : Shape) → Holds (tree_owner kind) m t → at ≡ root_of t → Balanced t → Rises (entries t) → IsTree m kind at t
unfolding count
held_tree m kind at t h e b r = record { root = e; stands = h.here; apart = h.apart; balanced = b; rises = r }
