use Rattle.std.proofs.Common.{◌≡◌, drop}
use Rattle.vos_check_places.specs.Rules.{judged}
use Rattle.vos_check_places.proofs.judge.judge.Given as goal

-- the rules that are left decide
abbrev pub invariant-loop-rule : goal.invariant-loop-rule
invariant-loop-rule l = judged l.fixed (drop l.rule-index l.rules) ≡ judged l.fixed l.rules
