use Rattle.std.proofs.Common.{◌≡◌, length, take}
use Rattle.base_outside.specs.Images.{Image, all_over, bytes_at}
use Rattle.pmem_undo.specs.Spans.{ranges_of}
use Rattle.pmem_undo.proofs.show.show.Given as goal

abbrev pub invariant-loop-span : goal.invariant-loop-span
invariant-loop-span l = (f : Image) → l.initial.buf ≡ bytes_at f l.at (length l.initial.buf) → l.buf ≡ bytes_at (all_over (ranges_of l.buffer (take l.span-index l.spans)) f) l.at (length l.initial.buf)
