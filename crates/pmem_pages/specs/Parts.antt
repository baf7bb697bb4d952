-- Where an entry stands in a list, or goes, and what is above and below a key.
use Rattle.std.specs.Prelude.{◌≡◌, List, [], ◌∷◌, ◌++◌}
use Rattle.pmem_pages.specs.declared.node.TreeKey.{TreeKey}
use Rattle.pmem_pages.specs.declared.node.Value.{Value}
use Rattle.pmem_pages.specs.Node.{key_cmp}
use Rattle.pmem_pages.specs.Shape.{Entry, chosen}

-- a list of entries with one more, between those in front and those behind it
pub record Between (x : Entry) (without with_it : List Entry) : Type 0 where
  pub front : List Entry
  pub back : List Entry
  pub without_is : without ≡ front ++ back
  pub with_is : with_it ≡ front ++ x ∷ back

-- an entry with another value
abbrev pub with_value : Entry → Value → Entry
with_value e v = record { block = e.block; key = e.key; value = v }

-- a list of entries with another in the place of one
pub record Replaced (x y : Entry) (before after : List Entry) : Type 0 where
  pub front : List Entry
  pub back : List Entry
  pub before_is : before ≡ front ++ x ∷ back
  pub after_is : after ≡ front ++ y ∷ back

-- the entries above a key, and those below it: a walk by next_after goes over the first from the front, one
-- by last_below over the others from the back
abbrev pub above : TreeKey → List Entry → List Entry
above k [] = []
above k (e ∷ es) = chosen (key_cmp k e.key) (e ∷ above k es) (above k es) (above k es)

abbrev pub under : TreeKey → List Entry → List Entry
under k [] = []
under k (e ∷ es) = chosen (key_cmp k e.key) (under k es) (under k es) (e ∷ under k es)
