-- What a level keeps of the marks that were raised at it.
use Rattle.std.specs.Prelude.{ℕ, ◌≡◌, ◌≤◌, ◌<◌, ◌-◌, ◌%◌, ◌⊎◌, Bool, List, ◌∷◌, length, take, get_or, set, slice_get, nat_eq, Contains, Option, Some, None}
use Rattle.std.specs.Map.{lookup, set_value}
use Rattle.base_types.specs.declared.shown.Shown.{Shown}
use Rattle.lru.specs.LruCache.{promoted}
use Rattle.vos_stamp.specs.declared.entity.TheConstants.{SLOTS}
use Rattle.vos_stamp.specs.declared.marks.Marks.{Marks}
use Rattle.vos_stamp.specs.declared.marks.Raise.{Raise}
use Rattle.vos_stamp.specs.declared.table.TheConstants.{OWN}
use Rattle.vos_stamp.specs.Marks.{joined, no_marks, rank, side}

-- what a level comes to: what was raised at it, and how many entities have marks of their own
pub record Marked : Type 0 where
  pub raises : List Raise
  pub held : ℕ

-- ---- one step

-- Marks are raised at an entity, among at most so many that have their own: they join those that are there; or the entity
-- comes in, and another one may go out; or there is no memory for it, and nothing changes.
pub data RaisesOwn (old : List (ℕ × Marks)) (cap : ℕ) (entity : ℕ) (marks : Marks) (new : List (ℕ × Marks)) (out : Option (ℕ × Marks)) : Type 0 where
  Joins : (held : Marks) → lookup (nat_eq entity) old ≡ Some held
      → new ≡ set_value (nat_eq entity) (promoted (nat_eq entity) old) (joined held marks) → out ≡ None → RaisesOwn old cap entity marks new out
  ComesIn : lookup (nat_eq entity) old ≡ None → new ≡ (entity, marks) ∷ take (cap - 1) old → out ≡ slice_get old (cap - 1)
      → RaisesOwn old cap entity marks new out
  StaysOut : lookup (nat_eq entity) old ≡ None → new ≡ old → out ≡ Some (entity, marks) → RaisesOwn old cap entity marks new out

-- the marks in a slot
abbrev pub slot_marks : List Marks → ℕ → Marks
slot_marks slots i = get_or slots i no_marks

-- the slot of an entity that has no marks of its own any more takes them in
abbrev pub given : List Marks → Option (ℕ × Marks) → List Marks
given slots None = slots
given slots (Some out) = set slots (out.0 % SLOTS) (joined (slot_marks slots (out.0 % SLOTS)) out.1)

-- ---- what always holds

-- one of an entity's own marks, if it has some
abbrev pub own_mark : Bool → Option Marks → Option Shown
own_mark low None = None
own_mark low (Some m) = side low m

-- an epoch that was raised at an entity is found in its own mark or in its slot's, or a greater one
abbrev pub IsFound : List (ℕ × Marks) → List Marks → Bool → ℕ → ℕ → Type 0
IsFound own slots low entity epoch = (epoch ≤ rank (own_mark low (lookup (nat_eq entity) own))) ⊎ (epoch ≤ rank (side low (slot_marks slots (entity % SLOTS))))

-- a read was raised at an entity of a slot
abbrev pub WasRaised : List Raise → Bool → ℕ → Shown → Type 0
WasRaised raises low slot read = (r : Raise) × Contains raises r × (r.entity % SLOTS ≡ slot) × (side low r.marks ≡ Some read)

-- each of the marks was
abbrev pub WereRaised : List Raise → ℕ → Marks → Type 0
WereRaised raises slot m = (low : Bool) (read : Shown) → side low m ≡ Some read → WasRaised raises low slot read

-- The entities that have their own marks, and the slots, stand for all that was raised: each epoch is found, or a greater one;
-- and only what was raised is kept. No more than 1,024 entities have their own.
pub record StandsFor (entities : List (ℕ × Marks)) (slots : List Marks) (raises : List Raise) : Type 0 where
  pub bounded : length entities ≤ OWN
  pub sized : length slots ≡ SLOTS
  pub found : (r : Raise) → Contains raises r → (low : Bool) → IsFound entities slots low r.entity (rank (side low r.marks))
  pub own : (e : ℕ × Marks) → Contains entities e → WereRaised raises (e.0 % SLOTS) e.1
  pub shared : (i : ℕ) → i < SLOTS → WereRaised raises i (slot_marks slots i)

-- ---- what a look-up answers

-- a read of an entity's slot that is above an epoch; none only where none above it was raised at the entity
abbrev pub AnswersAt : List Raise → Bool → ℕ → ℕ → Option Shown → Type 0
AnswersAt raises low entity epoch None = (r : Raise) → Contains raises r → r.entity ≡ entity → rank (side low r.marks) ≤ epoch
AnswersAt raises low entity epoch (Some read) = WasRaised raises low (entity % SLOTS) read × (epoch < read.epoch.0)
