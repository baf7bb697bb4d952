-- What becomes of a tree of versions, and of the chains of their bytes.
use Rattle.std.specs.Prelude.{◌≡◌, ◌⊎◌, ◌<◌, ◌+◌, ◌*◌, ◌^◌, ℕ, Bool, true, false, List, length, Option, Some, None, if◌then◌else◌}
use Rattle.std.specs.Option.{option_and_then}
use Rattle.base_types.specs.declared.id.AttemptId.{AttemptId}
use Rattle.pmem_pages.specs.Blocks.{Blocks, Budget, IsSpent}
use Rattle.pmem_pages.specs.Owners.{Changed, maybe, times}
use Rattle.pmem_pages.specs.Shape.{Entry, Shape, blocks_of, entries, entry_at, root_of}
use Rattle.pmem_pages.specs.declared.node.TreeKey.{TreeKey}
use Rattle.vos_chain.specs.pmem_tree.Changes.{Inserts, Puts, Removes}
use Rattle.vos_chain.specs.pmem_tree_base.Find.{value_of}
use Rattle.vos_chain.specs.vos_values.declared.values.VersionMark.{VersionMark}
use Rattle.vos_chain.specs.vos_values.Values.{version_in, version_value}
use Rattle.vos_chain.specs.vos_levels.declared.change.Change.{Change}
use Rattle.vos_chain.specs.vos_levels.Changes.{keeps, takes}
use Rattle.vos_chain.specs.Chains.{Chain, chain_owner}
use Rattle.vos_chain.specs.Made.{HasFewer, IsChainAt, MadeChain, chain_blocks}

-- the kinds of trees whose values are versions: of single values, and extents
abbrev pub IsVersionKind : ℕ → Type 0
IsVersionKind kind = (kind ≡ 5) ⊎ (kind ≡ 6)

-- what the tree says of the version at a key
abbrev pub mark_at : TreeKey → List Entry → Option VersionMark
mark_at key es = option_and_then version_in (value_of (entry_at key es))

-- a version that was just written
abbrev pub new_mark : AttemptId → ℕ → ℕ → VersionMark
new_mark by count first = record { done = false; by = by; length = count; chain = first }

abbrev pub done_mark : VersionMark → VersionMark
done_mark k = record { done = true; by = k.by; length = k.length; chain = k.chain }

-- bytes were written into a chain, and then a version that leads to it came into the tree
pub record Adds (m : Blocks) (kind : ℕ) (t : Shape) (key : TreeKey) (by : AttemptId) (bytes : List ℕ) (o : Blocks) (root : ℕ) : Type 0 where
  pub between : Blocks
  pub first : ℕ
  pub made : MadeChain m bytes between first
  pub inserts : Inserts between kind t key (version_value (new_mark by (length bytes) first)) o root

-- a version went from the tree, and then its chain was given back
pub record Drops (m : Blocks) (kind : ℕ) (t : Shape) (key : TreeKey) (mark : VersionMark) (e : Entry) (o : Blocks) (root : ℕ) : Type 0 where
  pub between : Blocks
  pub removes : Removes m kind t key e between root
  pub given : (c : Chain) → IsChainAt between mark.chain mark.length c → Changed (maybe chain_owner) between (Some c) o None

-- nothing changed
pub record Same (m : Blocks) (t : Shape) (o : Blocks) (root : ℕ) : Type 0 where
  pub blocks : o ≡ m
  pub root_is : root ≡ root_of t

-- what holds where a test is true, and where it is false
abbrev pub ByTest : Bool → Type 0 → Type 0 → Type 0
ByTest true X Y = X
ByTest false X Y = Y

-- A change takes the version at a key, where there is one of its attempt that isn't done, or for a prune one that is done:
-- it becomes done, or goes.
abbrev pub Changes : Change → Option VersionMark → Blocks → ℕ → Shape → TreeKey → Blocks → ℕ → Type 0
Changes c None m kind t key o root = Same m t o root
Changes c (Some k) m kind t key o root =
    ByTest (takes c k.by k.done)
    (ByTest (keeps c)
    ((e : Entry) → entry_at key (entries t) ≡ Some e → Puts m kind t key (version_value (done_mark k)) o root)
    ((e : Entry) → entry_at key (entries t) ≡ Some e → Drops m kind t key k e o root))
    (Same m t o root)

-- the blocks that a change gives back
abbrev pub freed_of : Change → Option VersionMark → ℕ
freed_of c None = 0
freed_of c (Some k) = if takes c k.by k.done then (if keeps c then 0 else chain_blocks k.length + 1) else 0

-- the bytes of the version at a key stand in no block of the tree
pub record HasBytes (m : Blocks) (t : Shape) (mark : VersionMark) : Type 0 where
  pub chain : Chain
  pub stands : IsChainAt m mark.chain mark.length chain
  pub apart : (q : ℕ) → 0 < times q chain.blocks → times q (blocks_of (entries t)) ≡ 0

abbrev pub HasBytesAt : Blocks → Shape → TreeKey → Type 0
HasBytesAt m t key = (mark : VersionMark) → mark_at key (entries t) ≡ Some mark → HasBytes m t mark

-- ---- sums

-- fewer ranges or bytes were left than a chain of so many blocks and a change of the tree may want
abbrev pub TooFewFor : ℕ → Shape → Budget → Type 0
TooFewFor n t b = (d : ℕ) → length (entries t) < 2 ^ d → HasFewer (2 * n + (16 * d + 32)) (257 * n + 256 * (16 * d + 32)) b

-- at most what the chain stages, and an insertion into the tree
abbrev pub StagesFor : ℕ → Shape → Budget → Budget → Type 0
StagesFor n t before now = (d : ℕ) → length (entries t) < 2 ^ d → IsSpent (2 * n + (4 * d + 8)) (257 * n + 256 * (4 * d + 8)) before now

-- at most what a removal from the tree stages, and giving back a chain of at most five blocks
abbrev pub StagesLess : Shape → Budget → Budget → Type 0
StagesLess t before now = (d : ℕ) → length (entries t) < 2 ^ d → IsSpent (8 * d + 21) (256 * (8 * d + 16) + 5) before now
