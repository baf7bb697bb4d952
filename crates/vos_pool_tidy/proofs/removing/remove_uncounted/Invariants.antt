use Rattle.std.proofs.Common.{◌≡◌, false}
use Rattle.std.specs.Prelude.{drop}
use Rattle.vos_pool_steps.specs.Quiet.{IsQuietStep}
use Rattle.vos_pool_tidy.proofs.Clearing.{PartOf}
use Rattle.vos_pool_tidy.proofs.removing.remove_uncounted.Given as goal

-- those before this one are gone that don't count
abbrev pub invariant-loop-version : goal.invariant-loop-version
invariant-loop-version g l = record {
  quiet : IsQuietStep g.R.Region.tells g.R.Region.extent g.R.Region.count g.R.Region.burns g.R.Region.image g.R.Region.may_leave l.initial.opened l.opened;
  running : l.opened.blocks.undo.stopped ≡ false;
  part : PartOf g.R.Region.extent g.R.Region.tells g.R.Region.image g.R.Region.may_leave g.R.Region.count g.R.Region.burns l.prepared l.versions l.initial.opened (drop l.version-index l.versions) l.opened;
}
