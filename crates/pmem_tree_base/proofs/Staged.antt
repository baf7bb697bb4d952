-- A node that was staged.
use mathlib.Core.Path.{fun_ext}
use Rattle.std.proofs.Common.{◌≡◌, ◌≢◌, ℕ, ◌+◌, ◌≤◌, ◌<◌, max, List, Option, Some, sym, ap, ◌∙◌, subst, arith, inl, inr}
use Rattle.std.proofs.lemmas.Bool.Decides.{eqb_tells}
use Rattle.pmem_pages.specs.Blocks.{Blocks, put, IsTaken, Budget, IsSpent}
use Rattle.pmem_pages.proofs.BlockLaws.{put_here, put_other, taken_put}
use Rattle.pmem_pages.specs.Node.{node_bytes}
use Rattle.pmem_pages.specs.Shape.{Entry, Shape, Fork, entries, count, node_at, with_node, IsEntry, Stands, Keeps}
use Rattle.pmem_pages.proofs.Shapes.{stands_on}
use Rattle.pmem_pages.specs.declared.node.Node.{Node}
use Rattle.pmem_pages.specs.declared.node.Pair.{Pair}
use Rattle.pmem_tree_base.specs.declared.read.Sub.{Sub}
use Rattle.pmem_tree_base.specs.Nodes.{entry_of, node_between, IsSub}

-- a block that no node stands in may change
pub put_stands : (m : Blocks) (kind : ℕ) (b : ℕ) (x : Option (List ℕ)) (t : Shape) → count b (entries t) ≡ 0 → Stands m kind t → Stands (put m b x) kind t
put_stands m kind b x t none s = stands_on m (put m b x) kind t (λ q in_t. let ne : q ≢ b = λ same. let z : count q (entries t) ≡ 0 = ap (λ p. count p (entries t)) same ∙ none in omega arith in put_other m b x q ne) s

-- what stands in a block is put there again
pub put_same : (m : Blocks) (b : ℕ) (x : Option (List ℕ)) → m b ≡ x → put m b x ≡ m
put_same m b x h = fun_ext (λ q. elim (eqb_tells q b) [
  | inl a ↦ ap (put m b x) a.1 ∙ (put_here m b x ∙ (sym h ∙ ap m (sym a.1)))
  | inr a ↦ put_other m b x q a.1
])

-- a node written between two trees
pub fork_stands : (m : Blocks) (kind : ℕ) (l : Shape) (e : Entry) (r : Shape) → Stands m kind l → Stands m kind r → IsEntry kind e → count e.block (entries l) ≡ 0 → count e.block (entries r) ≡ 0 → Stands (with_node m kind l e r) kind (Fork l e r)
fork_stands m kind l e r sl sr en nl nr = (
  record { entry = en; block = put_here m e.block _ },
  put_stands m kind e.block _ l nl sl,
  put_stands m kind e.block _ r nr sr,
)

pub keeps_put : (m : Blocks) (b : ℕ) (x : Option (List ℕ)) (es : List Entry) → 0 < count b es → Keeps m (put m b x) es
keeps_put m b x es in_es q none =
    let ne : q ≢ b = λ same. let z : count b es ≡ 0 = ap (λ p. count p es) (sym same) ∙ none in omega arith in
    put_other m b x q ne

pub keeps_both : (m n o : Blocks) (es : List Entry) → Keeps m n es → Keeps n o es → Keeps m o es
keeps_both m n o es f g q none = g q none ∙ f q none

-- a taken block stays taken where a node is staged
pub taken_after : (m n : Blocks) (c : ℕ) (x : List ℕ) (b : ℕ) → n ≡ put m c (Some x) → IsTaken m b → IsTaken n b
taken_after m n c x b e t = subst (λ (z : Blocks). IsTaken z b) (sym e) (taken_put m c x b t)

-- the node staged between two trees that the code holds
pub staged : (m n : Blocks) (kind at : ℕ) (p : Pair) (a b : Sub) (l r : Shape) → n ≡ put m at (Some (node_bytes kind (node_between p a b))) → IsSub a l → IsSub b r → n ≡ with_node m kind l (entry_of at p) r
staged m n kind at p a b l r e i j =
    let same : node_between p a b ≡ node_at l (entry_of at p) r = cc (i.root_is, i.height_is, j.root_is, j.height_is) in
    e ∙ ap (λ (k : Node). put m at (Some (node_bytes kind k))) same

pub sub_of : (s : Sub) (at : ℕ) (p : Pair) (a b : Sub) (l r : Shape) → s.root ≡ at → s.height ≡ max a.height b.height + 1 → IsSub a l → IsSub b r → IsSub s (Fork l (entry_of at p) r)
sub_of s at p a b l r h k i j = record { root_is = h; height_is = cc (k, i.height_is, j.height_is) }

-- ranges and bytes, one call after another
pub spent_then : (a x b y c z : ℕ) (b0 b1 b2 : Budget) → IsSpent a x b0 b1 → IsSpent b y b1 b2 → a + b ≤ c → x + y ≤ z → IsSpent c z b0 b2
spent_then a x b y c z b0 b1 b2 s t h k =
    let sr = s.ranges_most in let sb = s.bytes_most in let sl = s.ranges_least in let sm = s.bytes_least in
    let tr = t.ranges_most in let tb = t.bytes_most in let tl = t.ranges_least in let tm = t.bytes_least in
    record { ranges_most = omega arith; ranges_least = omega arith; bytes_most = omega arith; bytes_least = omega arith }
