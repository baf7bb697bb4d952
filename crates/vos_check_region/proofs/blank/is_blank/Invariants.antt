use Rattle.std.proofs.Common.{◌≡◌, ◌≤◌, ◌<◌, ◌*◌, ℕ}
use Rattle.std.specs.Prelude.{IsTrue}
use Rattle.pmem_undo.specs.Settled.{OnlyLooks}
use Rattle.vos_check_region.proofs.blank.is_blank.Given as goal

abbrev pub invariant-loop-piece : goal.invariant-loop-piece
invariant-loop-piece g l = record {
  extent : g.R.Region.extent l.region ≡ g.R.Region.extent l.initial.region;
  faults : g.R.Region.count l.initial.region ≤ g.R.Region.count l.region;
  burns : g.R.Region.burns l.initial.region ≤ g.R.Region.burns l.region;
  looks : IsTrue g.R.Region.tells → OnlyLooks (g.R.Region.image l.initial.region) (g.R.Region.image l.region) (g.R.Region.may_leave l.initial.region) (g.R.Region.may_leave l.region) (g.R.Region.moment l.initial.region) (g.R.Region.moment l.region) (g.R.Region.left_since l.initial.region) (g.R.Region.left_since l.region);
  zeros : IsTrue g.R.Region.tells → (i : ℕ) → i < 16384 * l.piece → i < l.size → g.R.Region.image l.initial.region i ≡ 0;
}
