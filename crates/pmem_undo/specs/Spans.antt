-- Ranges whose bytes stand in one buffer.
use Rattle.std.specs.Prelude.{ℕ, ◌+◌, ◌≤◌, List, [], ◌∷◌, map, slice_range}
use Rattle.base_outside.specs.Images.{Range, Image, bytes_at}
use Rattle.pmem_undo.specs.declared.span.Span.{Span}
use Rattle.pmem_undo.specs.Layout.{IsContent}

-- the range that a span of the buffer stands for
abbrev pub range_of : List ℕ → Span → Range
range_of buffer span = record { place = span.place; bytes = slice_range buffer span.start (span.start + span.length) }

abbrev pub ranges_of : List ℕ → List Span → List Range
ranges_of buffer spans = map (range_of buffer) spans

-- a span lies in a buffer of so many bytes, and its range is content of a region of that size
pub record IsSpan (size room : ℕ) (span : Span) : Type 0 where
  pub fits : span.start + span.length ≤ room
  pub content : IsContent size span.place span.length

-- how many bytes the ranges of some spans have together
abbrev pub spans_length : List Span → ℕ
spans_length [] = 0
spans_length (s ∷ spans) = s.length + spans_length spans

-- the ranges of some spans, with the bytes that an image has there
abbrev pub old_span : Image → Span → Range
old_span f span = record { place = span.place; bytes = bytes_at f span.place span.length }

abbrev pub old_spans : Image → List Span → List Range
old_spans f spans = map (old_span f) spans
