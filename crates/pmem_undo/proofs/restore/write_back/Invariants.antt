use Rattle.std.proofs.Common.{◌≡◌, ◌≤◌, length, drop}
use Rattle.std.specs.Prelude.{IsTrue}
use Rattle.base_outside.specs.Images.{Image, Torn, Tears, LeavesOnly, Runs}
use Rattle.pmem_undo.specs.Settled.{rolled, writes_back}
use Rattle.pmem_undo.specs.Spans.{ranges_of}
use Rattle.pmem_undo.proofs.restore.write_back.Given as goal

abbrev pub invariant-loop-left : goal.invariant-loop-left
invariant-loop-left g l = record {
  within : l.left ≤ length l.spans;
  extent : g.R.Region.extent l.region ≡ g.R.Region.extent l.initial.region;
  faults : g.R.Region.count l.initial.region ≤ g.R.Region.count l.region;
  burns : g.R.Region.burns l.initial.region ≤ g.R.Region.burns l.region;
  image : IsTrue g.R.Region.tells → g.R.Region.image l.region ≡ rolled (ranges_of l.buffer (drop l.left l.spans)) (g.R.Region.image l.initial.region);
  crash : IsTrue g.R.Region.tells → Tears (ranges_of l.buffer (drop l.left l.spans)) (g.R.Region.may_leave l.initial.region) (g.R.Region.may_leave l.region);
  time : IsTrue g.R.Region.tells → LeavesOnly (g.R.Region.moment l.initial.region) (g.R.Region.moment l.region) (g.R.Region.left_since l.initial.region) (g.R.Region.left_since l.region) (λ c. (d : Image) × (g.R.Region.may_leave l.initial.region d × Torn (ranges_of l.buffer l.spans) d c));
  calls : Runs g.R.Region.did (writes_back (ranges_of l.buffer (drop l.left l.spans))) l.initial.region l.region;
}

abbrev pub decreases-loop-left : goal.decreases-loop-left
decreases-loop-left g l = l.left
