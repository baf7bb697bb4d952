use Rattle.std.proofs.Common.{◌≡◌, ◌≤◌, ◌-◌, length, take}
use Rattle.std.specs.Io.KnownBytes.{Appends}
use Rattle.base_outside.proofs.sink.write_all.Given as goal

-- the first of the bytes were taken, without a stall
abbrev pub invariant-loop-done : goal.invariant-loop-done
invariant-loop-done g l = let s = g.K.Sink in record {
  within : l.done ≤ length l.bytes;
  bytes : Appends (s.held l.initial.sink) (s.held l.sink) (take l.done l.bytes);
  later : s.count l.initial.sink ≤ s.count l.sink;
  stalls : s.stalls l.sink ≡ s.stalls l.initial.sink;
}

abbrev pub decreases-loop-done : goal.decreases-loop-done
decreases-loop-done g l = length l.bytes - l.done
