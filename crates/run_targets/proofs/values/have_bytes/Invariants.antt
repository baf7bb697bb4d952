use Rattle.std.specs.Prelude.{All, take}
use Rattle.report_round_trip.specs.Values.{HasBytes}
use Rattle.run_targets.proofs.values.have_bytes.Given as goal

-- the answers so far
abbrev pub invariant-loop-got : goal.invariant-loop-got
invariant-loop-got l = All (λ got. HasBytes got.1) (take l.got-index l.gots)
