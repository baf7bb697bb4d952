use Rattle.std.proofs.Common.{Ok}
use Rattle.vos_pool_prune.specs.Changing.{IsPartChange}
use Rattle.vos_pool_prune.specs.Removals.{CutRemovals, without_versions}
use Rattle.vos_pool_prune.proofs.Chosen.{those_before}
use Rattle.vos_pool_prune.proofs.removing.remove_those.Given as goal

-- those of the kind that are marked before this one are gone
abbrev pub invariant-loop-i : goal.invariant-loop-i
invariant-loop-i g l = record {
  gone : IsPartChange g.R.Region.tells g.R.Region.extent g.R.Region.image g.R.Region.may_leave g.R.Region.count g.R.Region.burns (without_versions (those_before l.punches l.marks l.versions l.i)) (CutRemovals (those_before l.punches l.marks l.versions l.i)) l.initial.opened l.opened (Ok tt);
}
