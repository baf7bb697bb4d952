-- An entry goes into the tree below a node, as the code goes: alone, or into one of the two trees below.
use Rattle.std.proofs.Common.{◌≡◌, ℕ, ◌+◌, ◌*◌, ◌≤◌, ◌<◌, max, [], ◌∷◌, Some, refl, sym, ap, subst, arith}
use Rattle.std.specs.declared.cmp.Ordering.TheVariants.{Less, Greater}
use Rattle.pmem_pages.specs.Blocks.{Blocks, Budget, IsSpent, put}
use Rattle.pmem_pages.specs.declared.node.Node.{Node}
use Rattle.pmem_pages.specs.declared.node.Pair.{Pair}
use Rattle.pmem_pages.specs.Node.{node_bytes, key_cmp, links_of}
use Rattle.pmem_pages.specs.Shape.{Entry, Shape, Leaf, Fork, height, node_at, Stands, Keeps}
use Rattle.pmem_pages.proofs.Lists.{count_own, count_none}
use Rattle.pmem_tree_base.specs.declared.read.Sub.{Sub}
use Rattle.pmem_tree_base.specs.Nodes.{entry_of, node_between, IsSub, StandsAt}
use Rattle.pmem_tree_base.proofs.Held.{entry_held}
use Rattle.pmem_tree_base.proofs.Staged.{fork_stands, keeps_put, staged, sub_of, spent_then}
use Rattle.pmem_tree_base.specs.Join.{Held, SomeHeld, Joined, JoinsHeld}
use Rattle.pmem_tree.specs.Rejoin.{Fits}
use Rattle.pmem_tree.specs.Ends.{GrowsAtEnd}
use Rattle.pmem_tree.proofs.Ends.{spent_none, spent_nothing}
use Rattle.pmem_tree.specs.Grow.{CanGrow, Grown, GrowsCheaply}
use Rattle.pmem_tree.proofs.Rejoining.{still_there, sub_itself, is_itself, fits_joined}
use Rattle.pmem_tree.proofs.Growing.{own_left, parts_left, held_left, grown_left, cheap_left, ends_left}
use Rattle.pmem_tree.proofs.GrowingRight.{own_right, parts_right, held_right, grown_right, cheap_right, ends_right}

-- the entry alone
pub grown_alone : (m n : Blocks) (kind at depth new : ℕ) (p : Pair) (s : Sub) → n ≡ put m new (Some (node_bytes kind (node_between p (record { root = 0; height = 0 }) (record { root = 0; height = 0 })))) → s.root ≡ new → s.height ≡ max 0 0 + 1 → CanGrow m kind at depth (entry_of new p) Leaf → Grown m kind Leaf (entry_of new p) n s
grown_alone m n kind at depth new p s e h k c =
    let none : Sub = record { root = 0; height = 0 } in
    let sub : IsSub none Leaf = record { root_is = refl; height_is = refl } in
    let x = entry_of new p in
    let t = staged m n kind new p none none Leaf Leaf e sub sub in
    record {
      tree = Fork Leaf x Leaf;
      is_sub = sub_of s new p none none Leaf Leaf h k sub sub;
      stands = subst (λ (y : Blocks). Stands y kind (Fork Leaf x Leaf)) (sym t) (fork_stands m kind Leaf x Leaf tt tt c.entry (count_none new) (count_none new));
      entries_are = refl;
      balanced = (record { left = omega arith; right = omega arith }, tt, tt);
      lower = omega arith;
      upper = omega arith;
      leans = λ _ h. absurd (omega arith);
      keeps = subst (λ (y : Blocks). Keeps m y (x ∷ [])) (sym t) (keeps_put m new _ (x ∷ []) (omega (arith, count_own x)));
    }

pub cheap_alone : (s : Sub) (b0 b1 : Budget) → IsSpent 1 256 b0 b1 → GrowsCheaply Leaf s b0 b1
cheap_alone s b0 b1 h =
    let sr = h.ranges_most in let sb = h.bytes_most in
    record {
      at_most = record { ranges_most = omega arith; ranges_least = h.ranges_least; bytes_most = omega arith; bytes_least = h.bytes_least };
      grew = λ _. record { ranges_most = omega arith; ranges_least = h.ranges_least; bytes_most = omega arith; bytes_least = h.bytes_least };
    }

pub ends_alone : (x : Entry) (s : Sub) (b0 b1 : Budget) → IsSpent 1 256 b0 b1 → GrowsAtEnd x.key Leaf s b0 b1
ends_alone x s b0 b1 h =
    let more : (n : ℕ) → IsSpent (0 + (n + 1)) (256 * (0 + (n + 1))) b0 b1 = λ n. spent_then _ _ _ _ _ _ b0 b1 b1 h (spent_none b1 b1 refl) (omega arith) (omega arith) in
    record { most = more 4; turned = λ _ _. more 3; grew = λ _. (refl, more 0) }

module _ (m : Blocks) (kind at depth : ℕ) (x : Entry) (node : Node) (p : Pair) (pair_is : p ≡ record { key = node.key; value = node.value }) (l : Shape) (e : Entry) (r : Shape) (c : CanGrow m kind at depth x (Fork l e r)) (is : node ≡ node_at l e r) where
  entry_here : e ≡ entry_of at p
  entry_here = entry_held at p node l e r c.root_is is pair_is

  module _ (less : key_cmp x.key e.key ≡ Less) (m2 : Blocks) (a : Sub) (g : Grown m kind l x m2 a) where
    pub stands_right : StandsAt m2 kind node.right r
    stands_right = record { root_is = ap (λ (n : Node). n.right) is; stands = (parts_left m kind at depth x l e r c less m2 a g).right }

    -- the left tree has the root that it had, and is no higher than the node allows
    module _ (rooted : a.root ≡ node.left) (low : a.height < node.height) where
      fits_left : Fits (links_of node) a (sub_itself r)
      fits_left =
          let near = c.balanced.0 in
          let nl = near.left in
          let nr = near.right in
          let lo = g.lower in
          let hs = g.is_sub.height_is in
          let hn : node.height ≡ max (height l) (height r) + 1 = ap (λ (n : Node). n.height) is in
          (sym rooted, (ap (λ (n : Node). n.right) is, (omega arith, (omega arith, omega arith))))

      level_left : Joined m2 kind g.tree e r m2 (record { root = at; height = node.height })
      level_left =
          let block = still_there m m2 kind at node l e r c.root_is is c.stands.0 (own_left m kind at depth x l e r c less m2 a g) in
          let held = subst (λ (z : Entry). Held m2 kind z a (sub_itself r) g.tree r) entry_here (held_left m kind at depth x l e r c less m2 a g (sub_itself r) (is_itself r)) in
          subst (λ (z : Entry). Joined m2 kind g.tree z r m2 (record { root = at; height = node.height })) (sym entry_here) (fits_joined m2 kind at node p a (sub_itself r) fits_left pair_is block g.tree r held)

      pub grows_level_left : Grown m kind (Fork l e r) x m2 (record { root = at; height = node.height })
      grows_level_left = grown_left m kind at depth x l e r c less m2 a g (sub_itself r) (is_itself r) m2 _ level_left

      pub cheap_level_left : (b0 b1 : Budget) → GrowsCheaply l a b0 b1 → GrowsCheaply (Fork l e r) (record { root = at; height = node.height }) b0 b1
      cheap_level_left b0 b1 ch = cheap_left m kind at depth x l e r c less m2 a g (sub_itself r) (is_itself r) m2 _ level_left b0 b1 b1 ch (spent_nothing 3 768 b1) (λ _ _. spent_nothing 1 256 b1)

      pub ends_level_left : (b0 b1 : Budget) → GrowsAtEnd x.key l a b0 b1 → GrowsAtEnd x.key (Fork l e r) (record { root = at; height = node.height }) b0 b1
      ends_level_left b0 b1 ch = ends_left m kind at depth x l e r c less m2 a g (sub_itself r) (is_itself r) m2 _ level_left b0 b1 b1 ch (spent_nothing 3 768 b1) (λ _ _. spent_nothing 1 256 b1) (λ _. refl)

    -- the right tree was read then
    module _ (m3 : Blocks) (b : Sub) (after : m3 ≡ m2) (right_is : IsSub b r) where
      g_left : Grown m kind l x m3 a
      g_left = subst (λ (z : Blocks). Grown m kind l x z a) (sym after) g

      h_left : Held m3 kind (entry_of at p) a b g_left.tree r
      h_left = subst (λ (z : Entry). Held m3 kind z a b g_left.tree r) entry_here (held_left m kind at depth x l e r c less m3 a g_left b right_is)

      pub holds_left : SomeHeld m3 kind (entry_of at p) a b
      holds_left = (g_left.tree, r, h_left)

      pub stays_left : m3 at ≡ Some (node_bytes kind node)
      stays_left = still_there m m3 kind at node l e r c.root_is is c.stands.0 (own_left m kind at depth x l e r c less m3 a g_left)

      module _ (n : Blocks) (s : Sub) (joins : JoinsHeld m3 n kind (entry_of at p) a b s) where
        j_left : Joined m3 kind g_left.tree e r n s
        j_left = subst (λ (z : Entry). Joined m3 kind g_left.tree z r n s) (sym entry_here) (joins g_left.tree r h_left)

        pub grows_from_left : Grown m kind (Fork l e r) x n s
        grows_from_left = grown_left m kind at depth x l e r c less m3 a g_left b right_is n s j_left

        pub cheap_from_left : (b0 b1 b2 : Budget) → GrowsCheaply l a b0 b1 → IsSpent 3 768 b1 b2 → (a.height ≤ b.height + 1 → b.height ≤ a.height + 1 → IsSpent 1 256 b1 b2) → GrowsCheaply (Fork l e r) s b0 b2
        cheap_from_left b0 b1 b2 ch three one = cheap_left m kind at depth x l e r c less m3 a g_left b right_is n s j_left b0 b1 b2 ch three one

        pub ends_from_left : (b0 b1 b2 : Budget) → GrowsAtEnd x.key l a b0 b1 → IsSpent 3 768 b1 b2 → (a.height ≤ b.height + 1 → b.height ≤ a.height + 1 → IsSpent 1 256 b1 b2) → (Fits (links_of node) a b → b2 ≡ b1) → GrowsAtEnd x.key (Fork l e r) s b0 b2
        ends_from_left b0 b1 b2 ch three one idle = ends_left m kind at depth x l e r c less m3 a g_left b right_is n s j_left b0 b1 b2 ch three one (λ f. idle (subst (λ (z : Node). Fits (links_of z) a b) (sym is) f))

  module _ (more : key_cmp x.key e.key ≡ Greater) (m2 : Blocks) (b : Sub) (g : Grown m kind r x m2 b) where
    pub stands_left : StandsAt m2 kind node.left l
    stands_left = record { root_is = ap (λ (n : Node). n.left) is; stands = (parts_right m kind at depth x l e r c more m2 b g).left }

    -- the right tree has the root that it had, and is no higher than the node allows
    module _ (rooted : b.root ≡ node.right) (low : b.height < node.height) where
      fits_right : Fits (links_of node) (sub_itself l) b
      fits_right =
          let near = c.balanced.0 in
          let nl = near.left in
          let nr = near.right in
          let lo = g.lower in
          let hs = g.is_sub.height_is in
          let hn : node.height ≡ max (height l) (height r) + 1 = ap (λ (n : Node). n.height) is in
          (ap (λ (n : Node). n.left) is, (sym rooted, (omega arith, (omega arith, omega arith))))

      level_right : Joined m2 kind l e g.tree m2 (record { root = at; height = node.height })
      level_right =
          let block = still_there m m2 kind at node l e r c.root_is is c.stands.0 (own_right m kind at depth x l e r c more m2 b g) in
          let held = subst (λ (z : Entry). Held m2 kind z (sub_itself l) b l g.tree) entry_here (held_right m kind at depth x l e r c more m2 b g (sub_itself l) (is_itself l)) in
          subst (λ (z : Entry). Joined m2 kind l z g.tree m2 (record { root = at; height = node.height })) (sym entry_here) (fits_joined m2 kind at node p (sub_itself l) b fits_right pair_is block l g.tree held)

      pub grows_level_right : Grown m kind (Fork l e r) x m2 (record { root = at; height = node.height })
      grows_level_right = grown_right m kind at depth x l e r c more m2 b g (sub_itself l) (is_itself l) m2 _ level_right

      pub cheap_level_right : (b0 b1 : Budget) → GrowsCheaply r b b0 b1 → GrowsCheaply (Fork l e r) (record { root = at; height = node.height }) b0 b1
      cheap_level_right b0 b1 ch = cheap_right m kind at depth x l e r c more m2 b g (sub_itself l) (is_itself l) m2 _ level_right b0 b1 b1 ch (spent_nothing 3 768 b1) (λ _ _. spent_nothing 1 256 b1)

      pub ends_level_right : (b0 b1 : Budget) → GrowsAtEnd x.key r b b0 b1 → GrowsAtEnd x.key (Fork l e r) (record { root = at; height = node.height }) b0 b1
      ends_level_right b0 b1 ch = ends_right m kind at depth x l e r c more m2 b g (sub_itself l) (is_itself l) m2 _ level_right b0 b1 b1 ch (spent_nothing 3 768 b1) (λ _ _. spent_nothing 1 256 b1) (λ _. refl)

    -- the left tree was read then
    module _ (m3 : Blocks) (a : Sub) (after : m3 ≡ m2) (left_is : IsSub a l) where
      g_right : Grown m kind r x m3 b
      g_right = subst (λ (z : Blocks). Grown m kind r x z b) (sym after) g

      h_right : Held m3 kind (entry_of at p) a b l g_right.tree
      h_right = subst (λ (z : Entry). Held m3 kind z a b l g_right.tree) entry_here (held_right m kind at depth x l e r c more m3 b g_right a left_is)

      pub holds_right : SomeHeld m3 kind (entry_of at p) a b
      holds_right = (l, g_right.tree, h_right)

      pub stays_right : m3 at ≡ Some (node_bytes kind node)
      stays_right = still_there m m3 kind at node l e r c.root_is is c.stands.0 (own_right m kind at depth x l e r c more m3 b g_right)

      module _ (n : Blocks) (s : Sub) (joins : JoinsHeld m3 n kind (entry_of at p) a b s) where
        j_right : Joined m3 kind l e g_right.tree n s
        j_right = subst (λ (z : Entry). Joined m3 kind l z g_right.tree n s) (sym entry_here) (joins l g_right.tree h_right)

        pub grows_from_right : Grown m kind (Fork l e r) x n s
        grows_from_right = grown_right m kind at depth x l e r c more m3 b g_right a left_is n s j_right

        pub cheap_from_right : (b0 b1 b2 : Budget) → GrowsCheaply r b b0 b1 → IsSpent 3 768 b1 b2 → (a.height ≤ b.height + 1 → b.height ≤ a.height + 1 → IsSpent 1 256 b1 b2) → GrowsCheaply (Fork l e r) s b0 b2
        cheap_from_right b0 b1 b2 ch three one = cheap_right m kind at depth x l e r c more m3 b g_right a left_is n s j_right b0 b1 b2 ch three one

        pub ends_from_right : (b0 b1 b2 : Budget) → GrowsAtEnd x.key r b b0 b1 → IsSpent 3 768 b1 b2 → (a.height ≤ b.height + 1 → b.height ≤ a.height + 1 → IsSpent 1 256 b1 b2) → (Fits (links_of node) a b → b2 ≡ b1) → GrowsAtEnd x.key (Fork l e r) s b0 b2
        ends_from_right b0 b1 b2 ch three one idle = ends_right m kind at depth x l e r c more m3 b g_right a left_is n s j_right b0 b1 b2 ch three one (λ f. idle (subst (λ (z : Node). Fits (links_of z) a b) (sym is) f))
