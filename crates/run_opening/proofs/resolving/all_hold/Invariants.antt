use Rattle.std.specs.Prelude.{◌≡◌, drop, map}
use Rattle.daos_model.specs.Family.{all_hold_from}
use Rattle.run_opening.specs.Steps.{bare}
use Rattle.run_opening.proofs.resolving.all_hold.Given as goal

-- those so far hold it
abbrev pub invariant-loop-t : goal.invariant-loop-t
invariant-loop-t l = all_hold_from l.t l.entry (map bare (drop l.t l.all)) ≡ all_hold_from 0 l.entry (map bare l.all)
