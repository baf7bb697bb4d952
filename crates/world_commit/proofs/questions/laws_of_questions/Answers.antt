use Rattle.world_commit.specs.questions.Happening.{happenings-keep, questions-begin, sweeping-keeps}
use Rattle.world_commit.proofs.questions.laws_of_questions.Goals as goal

pub returns : goal.returns
returns c = record {
  begin = questions-begin;
  happens = λ r h later w v right a e ours plain grows b k. happenings-keep r h later w v right a e ours plain grows b k;
  swept = sweeping-keeps;
}
