use Rattle.world_answers.specs.Events.{all-events-keep_answers_in_form, answers-begin_in_form}
use Rattle.world_answers.specs.Reads.{answers-join_in_form, stores-answer_in_form}
use Rattle.world_answers.specs.Runs.{all-runs-answer_in_form}
use Rattle.world_answers.proofs.laws_of_answers.Goals as goal

pub returns : goal.returns
returns c = record { begin = answers-begin_in_form; served = stores-answer_in_form; joined = answers-join_in_form; kept = all-events-keep_answers_in_form; runs = all-runs-answer_in_form }
