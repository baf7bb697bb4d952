use Rattle.std.proofs.Common.{◌≡◌, drop}
use Rattle.base_outside.specs.Images.{all_over, image_of}
use Rattle.daos_regions.specs.Periods.{kept_from, ranges_of}
use Rattle.daos_regions.proofs.disk.settle.Given as goal

abbrev pub invariant-loop-number : goal.invariant-loop-number
invariant-loop-number l =
    all_over (kept_from l.keep l.number (ranges_of (drop l.number l.pieces))) (image_of l.base) ≡ all_over (kept_from l.keep 0 (ranges_of l.pieces)) (image_of l.initial.base)
