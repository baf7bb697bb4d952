use Rattle.std.proofs.Common.{◌≡◌, ◌-◌, ◌<◌, ◌≤◌, get_or, length, map}
use Rattle.vos_aggregate.specs.Buckets.{bucket_by}
use Rattle.vos_aggregate.proofs.Spared.{SparedUpto}
use Rattle.vos_aggregate.proofs.sparing.spare_in_chain.Given as goal

-- the place is of the bucket, or the end, and the marks before it are spared
abbrev pub invariant-loop-at : goal.invariant-loop-at
invariant-loop-at l = record {
  from : l.later.from ≤ l.at;
  same : l.at < length l.later.versions.now → get_or (map (bucket_by (length l.later.heads.now)) l.later.versions.now) l.at 0 ≡ l.bucket;
  so_far : SparedUpto l.level l.path l.initial.marks l.marks l.later.versions.now l.at;
}

abbrev pub decreases-loop-at : goal.decreases-loop-at
decreases-loop-at l = length l.later.versions.now - l.at
