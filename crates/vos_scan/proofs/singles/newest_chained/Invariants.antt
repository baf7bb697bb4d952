use Rattle.std.proofs.Common.{◌≡◌, ◌≤◌, length, map, reverse, take}
use Rattle.std.specs.Prelude.{find}
use Rattle.daos_model.specs.Cells.{single_cell}
use Rattle.vos_scan.specs.Chains.{IsWalk, akey_place, left, version_place}
use Rattle.vos_scan.specs.Newest.{says_at}
use Rattle.vos_scan.proofs.singles.newest_chained.Given as goal

abbrev pub invariant-loop-left : goal.invariant-loop-left
invariant-loop-left l = record {
  within : l.left ≤ length l.rows;
  is : l.left ≡ left l.walk;
  walk : IsWalk (map version_place l.rows) (akey_place l.path) l.left l.walk;
  so_far : find (says_at (single_cell l.path) l.below.0) (reverse (take l.left l.rows)) ≡ find (says_at (single_cell l.path) l.below.0) (reverse l.rows);
}

abbrev pub decreases-loop-left : goal.decreases-loop-left
decreases-loop-left l = l.left
