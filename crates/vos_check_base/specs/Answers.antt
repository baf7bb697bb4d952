-- What a check answers for a step of the reading, from the blocks led to before it.
use Rattle.std.specs.Prelude.{◌≡◌, ℕ, ◌&&◌, not, List, Result, Ok, Err}
use Rattle.base_outside.specs.Images.{Image}
use Rattle.vos_image.specs.Steps.{Step, is_among}
use Rattle.vos_image.specs.Content.{Content, block, is_taken}
use Rattle.vos_check_base.specs.Sets.{Set}
use Rattle.vos_check_base.specs.declared.ground.Ground.{Ground}
use Rattle.vos_check_base.specs.declared.refusal.CheckNo.{CheckNo}
use Rattle.vos_check_base.specs.declared.refusal.CheckNo.TheVariants.{Stopped, Foreign, Memory}

-- the content of an image that is judged by this
abbrev pub content : Ground → Image → Content
content g f = record { bytes = f; size = g.size; layout = g.layout; covered = g.covered; targets = g.targets }

-- a set has the taken blocks but for those that were led to
abbrev pub MarksIn : Content → Set → List ℕ → Type 0
MarksIn c s led = (b : ℕ) → s b ≡ (is_taken c b && not (is_among b led))

-- a step gives this, and a set has the taken blocks that weren't led to then
pub record Gives {A : Type 0} (c : Content) (step : Result (A × List ℕ) ℕ) (a : A) (after : Set) : Type 0 where
  pub led : List ℕ
  pub is : step ≡ Ok (a, led)
  pub marks : MarksIn c after led

abbrev pub nothing : Unit {0} → Unit {0}
nothing x = x

-- ---- within one block

-- what a check without links answers: what the step gives, or the place of the byte at fault
abbrev pub Plain : {A V : Type 0} → Result (A × List ℕ) ℕ → List ℕ → (V → A) → Result V ℕ → Type 0
Plain step led says (Ok v) = step ≡ Ok (says v, led)
Plain step led says (Err at) = step ≡ Err at

-- the same of a check with links
abbrev pub Finds : {A V : Type 0} → Content → Result (A × List ℕ) ℕ → Set → (V → A) → Result V ℕ → Type 0
Finds c step after says (Ok v) = Gives c step (says v) after
Finds c step after says (Err at) = step ≡ Err at

-- ---- over many blocks

-- a step gives something of which this holds
pub record Reads {A : Type 0} (c : Content) (step : Result (A × List ℕ) ℕ) (after : Set) (P : A → Type 0) : Type 0 where
  pub value : A
  pub gives : Gives c step value after
  pub shows : P value

-- a byte at a place is at fault, and is shown; or no answer was found
abbrev pub IsBlame : Image → ℕ → CheckNo → Type 0
IsBlame f place (Foreign at byte) = (at ≡ place) × (byte ≡ f at)
IsBlame f place Stopped = Unit {0}
IsBlame f place Memory = ⊥

abbrev pub IsFault : {A : Type 0} → Content → Result (A × List ℕ) ℕ → CheckNo → Type 0
IsFault c step (Foreign at byte) = (step ≡ Err at) × (byte ≡ c.bytes at)
IsFault c step Stopped = Unit {0}
IsFault c step Memory = Unit {0}

-- What a check answers: the step gives something that the answer shows, or a byte is at fault, or it has no answer.
abbrev pub Answers : {A V : Type 0} → Content → Result (A × List ℕ) ℕ → Set → (V → A → Type 0) → Result V CheckNo → Type 0
Answers c step after shows (Ok v) = Reads c step after (shows v)
Answers c step after shows (Err e) = IsFault c step e

-- ---- clauses

abbrev pub same : {V : Type 0} → V → V
same x = x

-- what a check without links answers, whatever the bytes of the image
abbrev pub Plainly : {A V : Type 0} → Ground → (Content → Step A) → (V → A) → Result V ℕ → Type 0
Plainly g step says result = (f : Image) (led : List ℕ) → Plain (step (content g f) led) led says result

-- what a check with links answers, from one set of blocks to another
abbrev pub Leads : {A V : Type 0} → Ground → (Content → Step A) → Set → Set → (V → A) → Result V ℕ → Type 0
Leads g step before after says result = (f : Image) (led : List ℕ) → MarksIn (content g f) before led → Finds (content g f) (step (content g f) led) after says result

-- the same where a block has these bytes
abbrev pub LeadsIn : {A V : Type 0} → ℕ → List ℕ → Ground → (Content → Step A) → Set → Set → (V → A) → Result V ℕ → Type 0
LeadsIn b bytes g step before after says result = (f : Image) (led : List ℕ) → block (content g f) b ≡ bytes → MarksIn (content g f) before led → Finds (content g f) (step (content g f) led) after says result

-- what a check of an image answers
abbrev pub Does : {A V : Type 0} → Ground → Image → (Content → Step A) → Set → Set → (V → A → Type 0) → Result V CheckNo → Type 0
Does g f step before after shows result = (led : List ℕ) → MarksIn (content g f) before led → Answers (content g f) (step (content g f) led) after shows result
