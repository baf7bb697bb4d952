-- A node that stands is the one that goes between two trees.
use Rattle.std.specs.Prelude.{◌≡◌, ◌≤◌, ◌+◌, max}
use Rattle.pmem_pages.specs.declared.node.Links.{Links}
use Rattle.pmem_tree_base.specs.declared.read.Sub.{Sub}

-- its links and its height say these two trees, and their heights differ by at most one
abbrev pub Fits : Links → Sub → Sub → Type 0
Fits n a b = (n.left ≡ a.root) × ((n.right ≡ b.root) × ((n.height ≡ max a.height b.height + 1) × ((a.height ≤ b.height + 1) × (b.height ≤ a.height + 1))))
