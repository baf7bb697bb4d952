use Rattle.std.proofs.Common.{◌≡◌, ◌≤◌, ◌+◌, ◌*◌, ◌++◌, length, take}
use Rattle.std.specs.Prelude.{IsTrue}
use Rattle.base_outside.specs.Images.{Runs}
use Rattle.pmem_undo.specs.Log.{number_bytes, ranges_bytes}
use Rattle.pmem_undo.specs.Settled.{OnlyLooks, reads}
use Rattle.pmem_undo.specs.Spans.{spans_length, old_spans}
use Rattle.pmem_undo.proofs.log.put_log.Given as goal

abbrev pub invariant-loop-span : goal.invariant-loop-span
invariant-loop-span g l = record {
  at_place : l.at ≡ 8 + 8 * l.span-index + spans_length (take l.span-index l.spans);
  extent : g.R.Region.extent l.region ≡ g.R.Region.extent l.initial.region;
  faults : g.R.Region.count l.initial.region ≤ g.R.Region.count l.region;
  burns : g.R.Region.burns l.initial.region ≤ g.R.Region.burns l.region;
  looks : IsTrue g.R.Region.tells → OnlyLooks (g.R.Region.image l.initial.region) (g.R.Region.image l.region) (g.R.Region.may_leave l.initial.region) (g.R.Region.may_leave l.region) (g.R.Region.moment l.initial.region) (g.R.Region.moment l.region) (g.R.Region.left_since l.initial.region) (g.R.Region.left_since l.region);
  bytes : IsTrue g.R.Region.tells → take l.at l.body ≡ (number_bytes (length l.spans) ++ number_bytes (8 * length l.spans + spans_length l.spans)) ++ ranges_bytes (old_spans (g.R.Region.image l.initial.region) (take l.span-index l.spans));
  calls : Runs g.R.Region.did (reads l.span-index) l.initial.region l.region;
}
