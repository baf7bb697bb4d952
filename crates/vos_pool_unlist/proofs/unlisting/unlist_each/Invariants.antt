use Rattle.std.proofs.Common.{◌≡◌, false}
use Rattle.std.specs.Prelude.{drop, IsTrue}
use Rattle.vos_pool_steps.specs.Quiet.{IsQuietStep}
use Rattle.vos_pool_turns.specs.vos_pool_stage.Staged.{StandsInPool}
use Rattle.vos_pool_turns.specs.vos_turns.vos_image.Kept.{Stored}
use Rattle.vos_pool_unlist.proofs.Making.{IsPartUnlisted}
use Rattle.vos_pool_unlist.proofs.unlisting.unlist_each.Given as goal

-- for the rows before this one lists were given back
abbrev pub invariant-loop-row : goal.invariant-loop-row
invariant-loop-row g l = record {
  quiet : IsQuietStep g.R.Region.tells g.R.Region.extent g.R.Region.count g.R.Region.burns g.R.Region.image g.R.Region.may_leave l.initial.opened l.opened;
  running : l.opened.blocks.undo.stopped ≡ false;
  part : IsTrue g.R.Region.tells → (x : Stored) → StandsInPool g.R.Region.extent g.R.Region.image l.initial.opened x → IsPartUnlisted g.R.Region.extent g.R.Region.image (drop l.row-index l.rows) x l.opened;
}
