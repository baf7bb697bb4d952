use Rattle.std.proofs.Common.{◌≤◌, ◌-◌, vec_len}
use Rattle.std.specs.Io.KnownBytes.{Consumes}
use Rattle.base_outside.proofs.source.read_most.Given as goal

-- the bytes so far were consumed, and are no more than they may be
abbrev pub invariant-loop-piece : goal.invariant-loop-piece
invariant-loop-piece g l = let s = g.S.Source in record {
  bytes : Consumes (s.left l.initial.source) (s.left l.source) l.bytes.items;
  within : vec_len l.bytes ≤ l.most;
  later : s.count l.initial.source ≤ s.count l.source;
}

abbrev pub decreases-loop-piece : goal.decreases-loop-piece
decreases-loop-piece g l = l.most - vec_len l.bytes
