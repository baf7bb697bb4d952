use Rattle.std.specs.Prelude.{All, take}
use Rattle.report_round_trip.specs.Values.{IsRunOfBytes}
use Rattle.run_targets.proofs.values.are_runs_of_bytes.Given as goal

-- the pieces so far
abbrev pub invariant-loop-piece : goal.invariant-loop-piece
invariant-loop-piece l = All IsRunOfBytes (take l.piece-index l.pieces)
