use Rattle.std.proofs.Common.{Ok}
use Rattle.std.specs.Prelude.{take}
use Rattle.vos_pool_settle.specs.Aborting.{IsTakenOut}
use Rattle.vos_pool_settle.proofs.abort.take_out.Given as goal

-- those before this one were taken out
abbrev pub invariant-loop-version : goal.invariant-loop-version
invariant-loop-version g l = record {
  taken : IsTakenOut g.R.Region.tells g.R.Region.extent g.R.Region.image g.R.Region.may_leave g.R.Region.count g.R.Region.burns l.attempt (take l.version-index l.versions) l.initial.opened l.opened (Ok tt);
}
