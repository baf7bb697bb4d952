-- What the image of a region keeps, what the next opening may find, and what a commit is.
use Rattle.std.specs.Prelude.{ℕ, ◌≡◌, cond, Bool, true, List}
use Rattle.base_outside.specs.Images.{Image, Range, all_over}
use Rattle.daos_model.specs.declared.durable.Durable.{Durable}
use Rattle.pmem_undo.specs.Layout.{AreContent, SameContent, is_content}
use Rattle.pmem_undo.specs.Settled.{ComesFrom, IsAtRest, settled}

-- the content of an image: the gate byte and the log body count as zero
unfoldable pub content_of : Image → Image
content_of f i = cond (is_content i) (f i) 0

-- a way to read a content: what a target keeps by these bytes
abbrev pub Reading : Type 0
Reading = Image → Durable

-- what an image of a region of that size keeps, once its log was rolled back
unfoldable pub kept_in : Reading → ℕ → Image → Durable
kept_in reading size f = reading (content_of (settled size f))

-- what the next opening may find where a crash may leave these images
abbrev pub MayFind : Reading → ℕ → (Image → Type 0) → Durable → Type 0
MayFind reading size may_leave x = (c : Image) × (may_leave c × (x ≡ kept_in reading size c))

-- what a content keeps with these ranges written over it
abbrev pub kept_over : Reading → Image → List Range → Durable
kept_over reading f ranges = reading (content_of (all_over ranges f))

-- A commit of these ranges to a region at rest, from what is read and may be left before it to what is read and may be left after it:
-- each image that may be left then comes from one that could be left before, and once it is done the ranges are written and the region
-- is at rest again.
pub record IsCommit (size : ℕ) (ranges : List Range) (done : Bool) (f g : Image) (old new : Image → Type 0) : Type 0 where
  pub rest : IsAtRest f old
  pub content : AreContent size ranges
  pub from : ComesFrom size ranges old new
  pub written : done ≡ true → SameContent g (all_over ranges f)
  pub rests : done ≡ true → IsAtRest g new

-- it is quiet: the content after it keeps what it kept
abbrev pub IsQuiet : Reading → ℕ → List Range → Image → Type 0
IsQuiet reading size ranges f = kept_over reading f ranges ≡ kept_in reading size f
