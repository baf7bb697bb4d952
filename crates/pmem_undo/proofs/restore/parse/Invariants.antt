use Rattle.std.proofs.Common.{◌≡◌, ◌≤◌, ◌+◌, ◌*◌, ℕ, length, drop}
use Rattle.std.specs.Prelude.{All, vec_len, vec_capacity}
use Rattle.pmem_undo.specs.Log.{ranges_in, behind}
use Rattle.pmem_undo.specs.Spans.{IsSpan, ranges_of, spans_length}
use Rattle.pmem_undo.proofs.restore.parse.Given as goal

abbrev pub invariant-loop-range : goal.invariant-loop-range
invariant-loop-range l = record {
  at_place : l.at ≤ length l.bytes;
  sound : All (IsSpan l.size (length l.bytes)) l.spans.items;
  few : vec_len l.spans ≤ l._range;
  whole : length l.spans.items ≡ l._range;
  short : 8 * length l.spans.items + spans_length l.spans.items ≡ l.at;
  room : l.count ≤ vec_capacity l.spans;
  room_left : vec_capacity l.initial.spans ≤ vec_capacity l.spans;
  told : (left : ℕ) → left + l._range ≡ l.count → behind (ranges_of l.bytes l.spans.items) (ranges_in l.size left (drop l.at l.bytes)) ≡ ranges_in l.size l.count l.bytes;
}
