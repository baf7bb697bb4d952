use Rattle.world_upheld.proofs.explained.laws_of_explanations.Goals as goal
use Rattle.world_upheld.specs.explained.Events.{all-events-explain, all-events-keep_explanations}
use Rattle.world_upheld.specs.explained.Heard.{all-heard_known, making-known}
use Rattle.world_upheld.specs.explained.Held.{kept-no-more}
use Rattle.world_upheld.specs.explained.Runs.{all-runs-name_issued, all-runs-show, explanations-begin, runs-are_explained, runs-have_explanations}

pub returns : goal.returns
returns c = record {
  making = making-known;
  heard = all-heard_known;
  events = all-events-keep_explanations;
  kept = kept-no-more;
  begin = explanations-begin;
  runs = runs-have_explanations;
  shown = all-runs-show;
  later_reads = all-runs-name_issued;
  explain = all-events-explain;
  explained = runs-are_explained;
}
