use Rattle.std.proofs.Common.{◌≡◌, drop}
use Rattle.world_base.specs.Roles.{told_of_all}
use Rattle.replay_base.proofs.news.told_of_all.Given as goal

-- what is left leads to the same
abbrev pub invariant-loop-attempt : goal.invariant-loop-attempt
invariant-loop-attempt l = told_of_all (drop l.attempt-index l.attempts) l.memory ≡ told_of_all l.attempts l.initial.memory
