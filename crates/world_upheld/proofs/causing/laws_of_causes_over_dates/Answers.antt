use Rattle.world_upheld.proofs.causing.laws_of_causes_over_dates.Goals as goal
use Rattle.world_upheld.specs.causing.OverDates.{causes-over_dates_begin, events-keep_causes, later-reads_issued, reads-count}

pub returns : goal.returns
returns c = record { events = events-keep_causes; begin = causes-over_dates_begin; counts = reads-count; later_reads = later-reads_issued }
