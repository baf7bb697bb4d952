use Rattle.std.proofs.Common.{◌≡◌, ◌-◌, drop}
use Rattle.daos_model.specs.Durables.{version_key}
use Rattle.daos_model.specs.Ordered.{is_rising}
use Rattle.vos_aggregate.proofs.plannable.is_rising.Given as goal

-- the versions from the one before on rise as all do
abbrev pub invariant-loop-i : goal.invariant-loop-i
invariant-loop-i l = is_rising version_key (drop (l.i - 1) l.versions) ≡ is_rising version_key l.versions
