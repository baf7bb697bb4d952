-- A level of a target: a tree, and the things that its values lead to.
use Rattle.std.specs.Prelude.{◌≡◌, ℕ, Bool, true, false, ◌<◌, List, [], ◌∷◌, ◌++◌, Option, Some, None, if◌then◌else◌}
use Rattle.std.proofs.Common.{arith}
use Rattle.pmem_tree.specs.pmem_pages.Blocks.{Blocks, IsTaken}
use Rattle.pmem_tree.specs.pmem_pages.declared.node.Pair.{Pair}
use Rattle.pmem_tree.specs.pmem_pages.declared.node.TreeKey.{TreeKey}
use Rattle.pmem_tree.specs.pmem_pages.declared.node.Value.{Value}
use Rattle.pmem_tree.specs.pmem_pages.Node.{key_cmp}
use Rattle.pmem_tree.specs.pmem_pages.Owned.{tree_owner}
use Rattle.pmem_tree.specs.pmem_pages.Owners.{Owner, both, each, such, times}
use Rattle.pmem_tree.specs.pmem_pages.Shape.{Balanced, Entry, Rises, Shape, chosen, entries, root_of}

-- A level: the kind of its tree, what a thing stands in, the key and the value that a thing has in the tree, and what
-- holds of each thing.
pub record Level (A : Type 0) : Type 1 where
  pub kind : ℕ
  pub owner : Owner A
  pub key : A → TreeKey
  pub value : A → Value
  pub Good : A → Type 0

-- an entry of the tree leads to a thing
pub record LeadsTo {A : Type 0} (L : Level A) (e : Entry) (a : A) : Type 0 where
  pub key : e.key ≡ L.key a
  pub value : e.value ≡ L.value a
  pub good : L.Good a

-- entry by entry
abbrev pub LeadToAll : {A : Type 0} → Level A → List Entry → List A → Type 0
LeadToAll L [] [] = Unit {0}
LeadToAll L [] (a ∷ xs) = ⊥
LeadToAll L (e ∷ es) [] = ⊥
LeadToAll L (e ∷ es) (a ∷ xs) = LeadsTo L e a × LeadToAll L es xs

-- a tree with the things that its entries lead to, in order
abbrev pub Hung : Type 0 → Type 0
Hung A = Shape × List A

pub record IsHung {A : Type 0} (L : Level A) (g : Hung A) : Type 0 where
  pub balanced : Balanced g.0
  pub rises : Rises (entries g.0)
  pub leads : LeadToAll L (entries g.0) g.1

abbrev pub hung : {A : Type 0} → Level A → Owner (Hung A)
hung L = such (IsHung L) (both (tree_owner L.kind) (each L.owner))

abbrev pub hung_root : {A : Type 0} → Hung A → ℕ
hung_root g = root_of g.0

abbrev pub things : {A : Type 0} → Hung A → List A
things g = g.1

-- ---- owners of what stands in other owners' blocks, or in none

pub none_is_taken : {A : Type 0} (m : Blocks) (a : A) → Unit {0} → (q : ℕ) → 0 < times q [] → IsTaken m q
unfolding times
none_is_taken m a s q h = absurd (omega arith)

-- a thing in no block
abbrev pub in_none : {A : Type 0} → Owner A
in_none = record { stands = λ m a. Unit {0}; owned = λ a. []; is_taken = none_is_taken; frame = λ m n a f s. s }

-- a thing in the blocks of a part of it
abbrev pub in_part : {A B : Type 0} → (A → B) → Owner B → Owner A
in_part f O = record { stands = λ m a. O.stands m (f a); owned = λ a. O.owned (f a); is_taken = λ m a. O.is_taken m (f a); frame = λ m n a. O.frame m n (f a) }

-- ---- looking up

abbrev pub is_level : {A : Type 0} → Level A → TreeKey → A → Bool
is_level L k a = chosen (key_cmp k (L.key a)) false true false

-- the key lies above a thing's
abbrev pub is_above : {A : Type 0} → Level A → TreeKey → A → Bool
is_above L k a = chosen (key_cmp k (L.key a)) false false true

-- a test of things that tells which has the key, and one that tells which lie below it
abbrev pub TellsKey : {A : Type 0} → Level A → TreeKey → (A → Bool) → Type 0
TellsKey {A = A} L k test = (a : A) → L.Good a → test a ≡ is_level L k a

abbrev pub TellsAbove : {A : Type 0} → Level A → TreeKey → (A → Bool) → Type 0
TellsAbove {A = A} L k test = (a : A) → L.Good a → test a ≡ is_above L k a

abbrev pub or_else : {A : Type 0} → Option A → Option A → Option A
or_else (Some x) y = Some x
or_else None y = y

-- the last of a list that passes a test
abbrev pub find_last : {A : Type 0} → (A → Bool) → List A → Option A
find_last test [] = None
find_last test (a ∷ xs) = or_else (find_last test xs) (if test a then Some a else None)

abbrev pub pair_of_thing : {A : Type 0} → Level A → A → Pair
pair_of_thing L a = record { key = L.key a; value = L.value a }

-- ---- changes of a list of things

-- one more, somewhere in the list
pub record HasMore {A : Type 0} (a : A) (before after : List A) : Type 0 where
  pub left : List A
  pub right : List A
  pub before_is : before ≡ left ++ right
  pub after_is : after ≡ left ++ a ∷ right

-- those that pass a test become others
abbrev pub map_those : {A : Type 0} → (A → Bool) → (A → A) → List A → List A
map_those test f [] = []
map_those test f (a ∷ xs) = (if test a then f a else a) ∷ map_those test f xs

-- those that don't pass a test
abbrev pub without_those : {A : Type 0} → (A → Bool) → List A → List A
without_those test [] = []
without_those test (a ∷ xs) = if test a then without_those test xs else a ∷ without_those test xs
