-- Where a key lies to a node's, and to what is beside the node.
use Rattle.std.proofs.Common.{◌≡◌, List, ◌∷◌, ◌++◌, Some, refl, ◌∙◌}
use Rattle.std.specs.declared.cmp.Ordering.TheVariants.{Equal, Greater}
use Rattle.std.proofs.lemmas.Cmp.{tied_back}
use Rattle.pmem_pages.specs.declared.node.TreeKey.{TreeKey}
use Rattle.pmem_pages.specs.Node.{key_cmp}
use Rattle.pmem_pages.specs.Shape.{Entry, Rises, AllBelow, entry_at}
use Rattle.pmem_pages.proofs.Lists.{Rises-below, entry_at_past, AllBelow-higher, AllBelow-alike, below_flip, key_total}

-- a key above an entry is above all before it
pub past_left : (key : TreeKey) (l : List Entry) (e : Entry) (r : List Entry) → Rises (l ++ e ∷ r) → key_cmp key e.key ≡ Greater → AllBelow key l
past_left key l e r rises k = AllBelow-higher e.key key l (below_flip key e.key k) (Rises-below l e r rises)

pub at_left : (key : TreeKey) (l : List Entry) (e : Entry) (r : List Entry) → Rises (l ++ e ∷ r) → key_cmp key e.key ≡ Equal → AllBelow key l
at_left key l e r rises k = AllBelow-alike e.key key l (tied_back key_total key e.key k) (Rises-below l e r rises)

-- the entry at a key, by how the key lies to the node's
pub entry_at_right : (key : TreeKey) (l : List Entry) (e : Entry) (r : List Entry) → Rises (l ++ e ∷ r) → key_cmp key e.key ≡ Greater → entry_at key (l ++ e ∷ r) ≡ entry_at key r
entry_at_right key l e r rises k = entry_at_past key l (e ∷ r) (past_left key l e r rises k) ∙ rw k refl

pub entry_at_here : (key : TreeKey) (l : List Entry) (e : Entry) (r : List Entry) → Rises (l ++ e ∷ r) → key_cmp key e.key ≡ Equal → entry_at key (l ++ e ∷ r) ≡ Some e
entry_at_here key l e r rises k = entry_at_past key l (e ∷ r) (at_left key l e r rises k) ∙ rw k refl
