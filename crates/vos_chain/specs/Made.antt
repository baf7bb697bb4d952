-- What writing a chain makes, and what is told of a chain.
use Rattle.std.specs.Prelude.{◌≡◌, ◌⊎◌, ◌<◌, ℕ, Bool, IsTrue, List, length, Some, None}
use Rattle.std.specs.Int.{div_ceil}
use Rattle.pmem_pages.specs.Blocks.{Blocks, Budget}
use Rattle.pmem_pages.specs.Owners.{Changed, Holds, maybe}
use Rattle.vos_chain.specs.Chains.{Chain, chain_owner, first_of}

-- how many blocks bytes need
abbrev pub chain_blocks : ℕ → ℕ
chain_blocks n = div_ceil n 248

-- a chain with these bytes stands in blocks that were free
pub record MadeChain (m : Blocks) (bytes : List ℕ) (n : Blocks) (first : ℕ) : Type 0 where
  pub blocks : List ℕ
  pub first_is : first ≡ first_of blocks
  pub changed : Changed (maybe chain_owner) m None n (Some (record { blocks = blocks; bytes = bytes }))

-- a chain of so many bytes that begins at this block
pub record IsChainAt (m : Blocks) (first count : ℕ) (c : Chain) : Type 0 where
  pub holds : Holds chain_owner m c
  pub first_is : first ≡ first_of c.blocks
  pub count_is : count ≡ length c.bytes

abbrev pub HasChain : Bool → Blocks → ℕ → ℕ → Type 0
HasChain tells m first count = IsTrue tells → (c : Chain) × IsChainAt m first count c

abbrev pub OfChain : Bool → Blocks → ℕ → ℕ → (Chain → Type 0) → Type 0
OfChain tells m first count P = IsTrue tells → (c : Chain) → IsChainAt m first count c → P c

-- fewer ranges or bytes were left
abbrev pub HasFewer : ℕ → ℕ → Budget → Type 0
HasFewer ranges bytes b = (b.ranges < ranges) ⊎ (b.bytes < bytes)
