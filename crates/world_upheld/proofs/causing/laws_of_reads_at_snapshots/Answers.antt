use Rattle.world_upheld.proofs.causing.laws_of_reads_at_snapshots.Goals as goal
use Rattle.world_upheld.specs.causing.DatedCuts.{snapshot-read-cuts_keep, verdict-cuts_keep}
use Rattle.world_upheld.specs.causing.DateLaws.{events-keep_dates, reads-come_to_count}
use Rattle.world_upheld.specs.causing.DatedReads.{counting-keeps, snapshot-reads_keep}
use Rattle.world_upheld.specs.causing.DatedTurns.{lost-queries_keep, verdicts-keep}
use Rattle.world_upheld.specs.causing.Readers.{events-keep_readers}
use Rattle.world_upheld.specs.causing.SnapshotReads.{snapshot-reads_meet_none, snapshot-reads_show}

pub returns : goal.returns
returns c = record {
  shown = snapshot-reads_show;
  alone = snapshot-reads_meet_none;
  counting = counting-keeps;
  kept = snapshot-reads_keep;
  cut = snapshot-read-cuts_keep;
  verdict = verdicts-keep;
  verdict_cut = verdict-cuts_keep;
  lost = lost-queries_keep;
  dates = events-keep_dates;
  counted = reads-come_to_count;
  readers = events-keep_readers;
}
