use Rattle.std.proofs.Common.{◌≡◌, ◌-◌, ◌<◌, ◌≤◌, drop, get_or, length, map}
use Rattle.std.specs.List.{list_any}
use Rattle.daos_model.specs.Cells.{cell_at}
use Rattle.vos_aggregate.specs.Buckets.{bucket_by}
use Rattle.vos_aggregate.specs.Saying.{says_in}
use Rattle.vos_aggregate.proofs.later.Later.is_said_in.Given as goal

-- the place is of the bucket, or the end, and none of those passed counts
abbrev pub invariant-loop-at : goal.invariant-loop-at
invariant-loop-at l = record {
  from : l.self.from ≤ l.at;
  same : l.at < length l.self.versions.now → get_or (map (bucket_by (length l.self.heads.now)) l.self.versions.now) l.at 0 ≡ l.bucket;
  rest : list_any (says_in (length l.self.heads.now) l.bucket l.sight (cell_at l.path l.index)) (drop l.at l.self.versions.now)
      ≡ list_any (says_in (length l.self.heads.now) l.bucket l.sight (cell_at l.path l.index)) (drop l.self.from l.self.versions.now);
}

abbrev pub decreases-loop-at : goal.decreases-loop-at
decreases-loop-at l = length l.self.versions.now - l.at
