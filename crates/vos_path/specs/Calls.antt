-- What is said of the calls that go down a path.
use Rattle.std.specs.Prelude.{◌≡◌, ◌+◌, ◌*◌, ℕ, Bool, IsTrue, List, ◌∷◌, ◌++◌, Option, Some, None}
use Rattle.pmem_pages.specs.Blocks.{Blocks, Budget, IsSpent}
use Rattle.pmem_pages.specs.Owners.{Changed, Holds, Owner}
use Rattle.vos_values.specs.declared.values.AkeyRoots.{AkeyRoots}
use Rattle.vos_values.specs.declared.values.Roots.{Roots}
use Rattle.vos_extent.specs.vos_levels.Levels.{HasMore}
use Rattle.vos_extent.specs.vos_chain.Made.{HasFewer}

-- where the blocks are told, a thing stands that these roots lead to, and this holds of it
abbrev pub HasAt : {G R : Type 0} → Bool → Owner G → (G → R) → Blocks → R → (G → Type 0) → Type 0
HasAt {G = G} tells O roots m at P = IsTrue tells → (g : G) × (Holds O m g × ((at ≡ roots g) × P g))

-- where the blocks are told, this holds of the thing that these roots lead to
abbrev pub OfAt : {G R : Type 0} → Bool → Owner G → (G → R) → Blocks → R → (G → Type 0) → Type 0
OfAt {G = G} tells O roots m at P = IsTrue tells → (g : G) → Holds O m g → at ≡ roots g → P g

-- A thing became another, to which these roots lead: no other block changed. So do the lists that these stand for, and this
-- holds of the two things.
pub record Turns {G R V : Type 0} (O : Owner G) (roots : G → R) (shown : G → List V) (m : Blocks) (g : G) (n : Blocks) (at : R) (Q : List V → List V → Type 0) (N : G → G → Type 0) : Type 0 where
  pub now : G
  pub changed : Changed O m g n now
  pub roots_are : at ≡ roots now
  pub shown_is : Q (shown g) (shown now)
  pub nodes : N g now

-- ---- a thing comes into a list, or in the place of another

-- a list with another in the place of one
pub record Swapped {A : Type 0} (a b : A) (before after : List A) : Type 0 where
  pub left : List A
  pub right : List A
  pub before_is : before ≡ left ++ a ∷ right
  pub after_is : after ≡ left ++ b ∷ right

-- by what stood there
abbrev pub IsPut : {A : Type 0} → Option A → A → List A → List A → Type 0
IsPut None b xs ys = HasMore b xs ys
IsPut (Some a) b xs ys = Swapped a b xs ys

-- ---- sums

-- at most so many blocks of a chain, and besides so many ranges of at most 256 bytes each
abbrev pub SpendsAtMost : ℕ → ℕ → Budget → Budget → Type 0
SpendsAtMost n ranges before now = IsSpent (2 * n + ranges) (257 * n + 256 * ranges) before now

-- fewer ranges or bytes were left than that and one change of a tree may want
abbrev pub LacksFor : ℕ → ℕ → ℕ → Budget → Type 0
LacksFor n ranges d b = HasFewer (2 * n + (ranges + (16 * d + 32))) (257 * n + 256 * (ranges + (16 * d + 32))) b

-- at most so many ranges go with a pair that comes into a tree of fewer than 2^d
abbrev pub for_pair : ℕ → ℕ
for_pair d = 4 * d + 8

-- the roots that were found, or those of empty trees
abbrev pub akey_or_zero : Option AkeyRoots → AkeyRoots
akey_or_zero None = record { log = 0; singles = 0; extents = 0 }
akey_or_zero (Some r) = r

abbrev pub roots_or_zero : Option Roots → Roots
roots_or_zero None = record { log = 0; below = 0 }
roots_or_zero (Some r) = r
