-- What is said of the calls that work on what stands in blocks.
use Rattle.std.specs.Prelude.{◌≡◌, ℕ, Bool, IsTrue, List}
use Rattle.pmem_tree.specs.pmem_pages.Blocks.{Blocks}
use Rattle.pmem_tree.specs.pmem_pages.Owners.{Changed, Holds, Owner}

-- where the blocks are told, such a thing stands below this root, and this holds of it
abbrev pub HasThing : {G : Type 0} → Bool → Owner G → (G → ℕ) → Blocks → ℕ → (G → Type 0) → Type 0
HasThing {G = G} tells O root m at P = IsTrue tells → (g : G) × (Holds O m g × ((at ≡ root g) × P g))

-- where the blocks are told, this holds of the thing that stands below this root
abbrev pub OfThing : {G : Type 0} → Bool → Owner G → (G → ℕ) → Blocks → ℕ → (G → Type 0) → Type 0
OfThing {G = G} tells O root m at P = IsTrue tells → (g : G) → Holds O m g → at ≡ root g → P g

-- A thing became another, which stands below this root: no other block changed. So do the lists that these stand for.
pub record Becomes {G V : Type 0} (O : Owner G) (root : G → ℕ) (shown : G → List V) (m : Blocks) (g : G) (n : Blocks) (at : ℕ) (R : List V → List V → Type 0) : Type 0 where
  pub now : G
  pub changed : Changed O m g n now
  pub root_is : at ≡ root now
  pub shown_is : R (shown g) (shown now)
