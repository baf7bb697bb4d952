-- What an undo region shows.
use Rattle.std.specs.Prelude.{◌≡◌, ◌⊎◌, ℕ, ◌+◌, ◌^◌, ◌<◌, ◌≤◌, Bool, false, IsTrue, List, length, All}
use Rattle.base_outside.specs.Images.{Image, Range}
use Rattle.pmem_undo.specs.declared.span.Span.{Span}
use Rattle.pmem_undo.specs.Layout.{AreContent, most_ranges, most_bytes, total_bytes}
use Rattle.pmem_undo.specs.Settled.{IsAtRest, IsAttachable}
use Rattle.pmem_undo.specs.Spans.{IsSpan, spans_length}

-- the region, the ranges that are staged, the first of them first, and whether it stopped
pub record UndoState (R : Type 0) : Type 0 where
  pub region : R
  pub staged : List Range
  pub stopped : Bool

-- What holds of every undo region. What is staged is content and fits one commit. Every image that a
-- crash may leave may be attached to. Unless it stopped, the gate is closed and a crash leaves what is
-- read.
pub record IsUndo (size : ℕ) (tells : Bool) (image : Image) (may_leave : Image → Type 0) (staged : List Range) (stopped : Bool) : Type 0 where
  pub big : 323584 ≤ size
  pub small : size < 2 ^ 32
  pub content : AreContent size staged
  pub few : length staged ≤ most_ranges
  pub short : total_bytes staged ≤ most_bytes
  pub rest : IsTrue tells → stopped ≡ false → IsAtRest image may_leave
  pub attachable : IsTrue tells → (c : Image) → may_leave c → IsAttachable size c

-- one range more would be too many, or its bytes
abbrev pub IsTooMuch : List Range → ℕ → Type 0
IsTooMuch staged n = (most_ranges < length staged + 1) ⊎ (most_bytes < total_bytes staged + n)

-- there is room for one range more of so many bytes
abbrev pub HasRoom : List Range → ℕ → Type 0
HasRoom staged n = (length staged + 1 ≤ most_ranges) × (total_bytes staged + n ≤ most_bytes)

-- what the buffers of an undo region hold
pub record HasBuffers (size : ℕ) (spans : List Span) (spans_room staged staged_room body : ℕ) : Type 0 where
  pub big : 323584 ≤ size
  pub small : size < 2 ^ 32
  pub sound : All (IsSpan size staged) spans
  pub few : length spans ≤ most_ranges
  pub spans_fit : most_ranges ≤ spans_room
  pub total : staged ≡ spans_length spans
  pub short : staged ≤ most_bytes
  pub bytes_fit : most_bytes ≤ staged_room
  pub body_fits : 264200 ≤ body
