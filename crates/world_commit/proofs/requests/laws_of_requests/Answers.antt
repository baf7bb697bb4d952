use Rattle.world_commit.proofs.requests.laws_of_requests.Goals as goal
use Rattle.world_commit.specs.requests.Rows.{commits-find, leaders-know, rows-stay}
use Rattle.world_commit.specs.requests.Staying.{requests-begin, requests-happen, requests-stay}
use Rattle.world_letters.specs.waits.Happenings.{events-keep}

pub returns : goal.returns
returns c = record {
  begin = requests-begin;
  happening = λ r w v k e. requests-happen r w v k e;
  kept = requests-stay;
  rows = rows-stay;
  new = commits-find;
  known = leaders-know;
  conversations = λ r h w v attempts rows requests e k. events-keep r w v requests (leaders-know r h w attempts rows) e k;
}
