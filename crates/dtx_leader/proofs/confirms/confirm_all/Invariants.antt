use Rattle.std.specs.Prelude.{◌≡◌, drop}
use Rattle.dtx_base.specs.Leading.{all_confirmed_by}
use Rattle.dtx_leader.proofs.confirms.confirm_all.Given as goal

-- what is left leads to the same
abbrev pub invariant-loop-attempt : goal.invariant-loop-attempt
invariant-loop-attempt l = all_confirmed_by l.member (drop l.attempt-index l.attempts) l.table ≡ all_confirmed_by l.member l.attempts l.initial.table
