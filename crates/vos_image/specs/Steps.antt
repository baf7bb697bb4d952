-- A reading of an image goes from field to field. It ends at the first field that breaks a rule, with the place of the byte at
-- fault. Its steps hand on the blocks to which fields have led so far, since no two fields lead to one block.
use Rattle.std.specs.Prelude.{ℕ, Bool, ◌+◌, ◌==◌, ◌||◌, false, List, [], ◌∷◌, Option, Some, None, Result, Ok, Err, if◌then◌else◌}

-- what is read, with the blocks that were led to; or the place of the byte at fault
abbrev pub Step : Type 0 → Type 0
Step A = List ℕ → Result (A × List ℕ) ℕ

abbrev pub onward : {A B : Type 0} → Result (A × List ℕ) ℕ → (A → Step B) → Result (B × List ℕ) ℕ
onward (Ok r) f = f r.0 r.1
onward (Err at) f = Err at

-- a step, and then the one that goes on with what it read
infixl 10 ◌>>=◌
unfoldable pub ◌>>=◌ : {A B : Type 0} → Step A → (A → Step B) → Step B
(x >>= f) led = onward (x led) f

abbrev pub give : {A : Type 0} → A → Step A
give a led = Ok (a, led)

abbrev pub fail : {A : Type 0} → ℕ → Step A
fail at led = Err at

-- a rule of the field at a place
unfoldable pub rule : ℕ → Bool → Step (Unit {0})
rule at holds = if holds then give tt else fail at

-- the field at a place says this, where it says something
unfoldable pub says : {A : Type 0} → ℕ → Option A → Step A
says at None = fail at
says at (Some a) = give a

-- the bytes from a place on are zero; the first that isn't is at fault
abbrev pub zeros : ℕ → List ℕ → Step (Unit {0})
zeros at [] = give tt
zeros at (b ∷ bs) = rule at (b == 0) >>= λ _. zeros (at + 1) bs

abbrev pub is_among : ℕ → List ℕ → Bool
is_among b [] = false
is_among b (x ∷ xs) = (b == x) || is_among b xs

-- what is read without the blocks that were led to
abbrev pub read_of : {A : Type 0} → Result (A × List ℕ) ℕ → Result A ℕ
read_of (Ok x) = Ok x.0
read_of (Err at) = Err at
